-- What is made of the records is like the server that took them.
use Rattle.std.proofs.Common.{◌≡◌, ◌⊎◌, inl, inr, ℕ, zero, suc, List, [], ◌∷◌, ◌++◌, map, take, Option, None, Some, Ok, refl, sym, ap, ◌∙◌, subst}
use Rattle.sam_link.specs.Calls.{Call, Does, DoesAll}
use Rattle.sam_link.specs.Calls.Call.{Acknowledge, Answer, Ask, Feed, Put, PutNote}
use Rattle.sam_link.specs.End.{End}
use Rattle.sam_link.specs.Keeping.{HasRoom, Keeps, put}
use Rattle.sam_link.specs.Packets.{Packet}
use Rattle.sam_link.specs.Putting.{data_stream}
use Rattle.std.proofs.Common.{◌<◌, arith, length}
use Rattle.sam_endpoint.specs.HostEndpoints.{Adds, Marks, PlainHostEndpoint}
use Rattle.sam_served.specs.Crashes.{Repeats, all_given, over, went_out}
use Rattle.sam_server.specs.Servers.{Acknowledged, Asked, Called, Came, Done, Effect, Handles, Joined, Makes, Marked, Pauses, PlainRecord, Said, Server, Takes, given, waits_for}
use Rattle.sam_served.specs.Serving.{records_in}
use Rattle.sam_served.proofs.Counting.{does_parts}
use Rattle.sam_served.proofs.Entries.{Alt, DidIs, Logged, Turned, Went, all_calls, alt_left, did_out, log_of}
use Rattle.sam_served.proofs.Gates.{Fine, all_fine, still_fine}
use Rattle.sam_served.proofs.Lefts.{TookNone, TookOut, either}
use Rattle.sam_server.proofs.One.{one_does, one_end}
use Rattle.sam_served.proofs.Repeating.{Back, again, given_back, role_back}

pub record Same (s t : Server) : Type 0 where
  pub back : Back s.link t.link
  pub host : s.host ≡ t.host
  pub effect : s.effect ≡ t.effect

-- ## A record

pub record TakesToo (r : PlainRecord) (t z : Server) : Type 0 where
  pub to : Server
  pub takes : Takes (given t) r to
  pub same : Same z to

once : (c : Call) (r to : End) → Repeats r (c ∷ []) to → Does (all_given r) c to
once c r to (k, does, is) = subst (λ x. Does (all_given r) c x) (sym is) does

by_link : (s t z : Server) (l k : End) → Same s t → Back l k → z ≡ record s { link = l } → Same z (record (given t) { link = k })
by_link s t z l k same back is =
    subst (λ x. Same x (record (given t) { link = k })) (sym is) (record { back = back; host = same.host; effect = same.effect })

put_after : (e n r : End) (bytes : List ℕ) → Back e r → Does e (Put bytes (Ok tt)) n → (k : End) × Does r (Put bytes (Ok tt)) k × Back n k
put_after e n r bytes b x =
    let k = record r { keeps = put r.keeps (data_stream bytes) } in
    let is : n ≡ record e { keeps = put e.keeps (data_stream bytes) } = x.1 ∙ ap (λ (l : Keeps). record e { keeps = l }) x.0.1 in (
      record r { keeps = put r.keeps (data_stream bytes) },
      ((subst (λ m. HasRoom m.keeps (length (data_stream bytes))) b.same x.0.0, refl), refl),
      subst (λ m. Back m (record r { keeps = put r.keeps (data_stream bytes) })) (sym is)
          (record { same = ap (λ (m : End). over (record m { keeps = put m.keeps (data_stream bytes) })) b.same; open_too = b.open_too }),
    )

-- the same is handled behind another end that is so far back
record HandlesToo (k : End) (host : PlainHostEndpoint) (effect : Option Effect) (z : Server) : Type 0 where
  to : Server
  handles : Handles k host effect to
  same : Same z to

handles_again : (l k : End) (host : PlainHostEndpoint) (effect : Option Effect) (z : Server) → Back l k → Handles l host effect z
    → HandlesToo k host effect z
handles_again l k host effect z b (m, pauses, (n, puts, is)) =
    let packets : l.waiting.packets ≡ k.waiting.packets = ap (λ (e : End). e.waiting.packets) b.same in
    let back : Back (waits_for l m.packets) (waits_for k m.packets) =
    record { same = ap (λ (e : End). over (waits_for e m.packets)) b.same; open_too = b.open_too } in
    let p = put_after (waits_for l m.packets) n (waits_for k m.packets) m.host.pending_bytes back puts in
    record {
      to = record { link = p.0; host = record m.host { pending_bytes = [] }; effect = m.effect };
      handles = (
        m,
        subst (λ (ps : List Packet). Pauses (record { packets = ps; host = host; effect = effect }) m) packets pauses,
        (p.0, p.1, refl),
      );
      same = subst (λ x. Same x (record { link = p.0; host = record m.host { pending_bytes = [] }; effect = m.effect })) (sym is)
          (record { back = p.2; host = refl; effect = refl });
    }

came_again : (attempt : ℕ) (piece : List ℕ) (s t z : Server) (l : End) → Fine s.link → Same s t
    → Does s.link (Feed attempt piece (Ok tt)) l → Handles l s.host s.effect z → TakesToo (Came attempt piece) t z
came_again attempt piece s t z l fine same does handles =
    let g = again (Feed attempt piece (Ok tt)) s.link l t.link fine (role_back s.link t.link fine same.back) same.back does in
    let h = handles_again l g.to s.host s.effect z g.back handles in
    record {
      to = h.to;
      takes = (
        g.to,
        once (Feed attempt piece (Ok tt)) t.link g.to g.repeats,
        subst (λ (x : Option Effect). Handles g.to t.host x h.to) same.effect
            (subst (λ (e : PlainHostEndpoint). Handles g.to e s.effect h.to) same.host h.handles),
      );
      same = h.same;
    }

done_again : (ending : ℕ) (s t z : Server) (e : Effect) → Same s t → s.effect ≡ Some e → Handles s.link s.host None z
    → TakesToo (Done ending) t z
done_again ending s t z e same was handles =
    let h =
    handles_again s.link (all_given t.link) s.host None z (given_back s.link t.link same.back) handles in
    record {
      to = h.to;
      takes =
          (e, sym same.effect ∙ was, subst (λ (x : PlainHostEndpoint). Handles (all_given t.link) x None h.to) same.host h.handles);
      same = h.same;
    }

pub takes_again : (r : PlainRecord) (s t z : Server) → Fine s.link → Same s t → Takes s r z → TakesToo r t z
takes_again (Joined name text) s t z fine same (tag, k, adds, is) = record {
  to = record (given t) { host = k };
  takes = (tag, k, subst (λ h. Adds h name text (Ok tag) k) same.host adds, refl);
  same = subst (λ x. Same x (record (given t) { host = k })) (sym is)
      (record { back = given_back s.link t.link same.back; host = refl; effect = same.effect });
}
takes_again (Marked f) s t z fine same (k, marks, (n, puts, is)) =
    let p = put_after s.link n (all_given t.link) k.pending_bytes (given_back s.link t.link same.back) puts in
    record {
      to = record (given t) { link = p.0; host = record k { pending_bytes = [] } };
      takes = (k, subst (λ h. Marks h f (Ok tt) k) same.host marks, (p.0, p.1, refl));
      same = subst (λ x. Same x (record (given t) { link = p.0; host = record k { pending_bytes = [] } })) (sym is)
          (record { back = p.2; host = refl; effect = same.effect });
    }
takes_again (Called hello) s t z fine same (l, does, is) =
    let g = again (Answer hello (Ok tt)) s.link l t.link fine (role_back s.link t.link fine same.back) same.back does in
    record {
      to = record (given t) { link = g.to };
      takes = (g.to, once (Answer hello (Ok tt)) t.link g.to g.repeats, refl);
      same = by_link s t z l g.to same g.back is;
    }
takes_again (Came attempt piece) s t z fine same (l, does, handles) = came_again attempt piece s t z l fine same does handles
takes_again (Said bytes) s t z fine same (l, does, is) =
    let g = again (PutNote bytes (Ok tt)) s.link l t.link fine (role_back s.link t.link fine same.back) same.back does in
    record {
      to = record (given t) { link = g.to };
      takes = (g.to, once (PutNote bytes (Ok tt)) t.link g.to g.repeats, refl);
      same = by_link s t z l g.to same g.back is;
    }
takes_again Acknowledged s t z fine same (l, does, is) =
    let g = again (Acknowledge (Ok tt)) s.link l t.link fine (role_back s.link t.link fine same.back) same.back does in
    record {
      to = record (given t) { link = g.to };
      takes = (g.to, once (Acknowledge (Ok tt)) t.link g.to g.repeats, refl);
      same = by_link s t z l g.to same g.back is;
    }
takes_again Asked s t z fine same (l, does, is) =
    let g = again (Ask (Ok tt)) s.link l t.link fine (role_back s.link t.link fine same.back) same.back does in
    record {
      to = record (given t) { link = g.to };
      takes = (g.to, once (Ask (Ok tt)) t.link g.to g.repeats, refl);
      same = by_link s t z l g.to same g.back is;
    }
takes_again (Done ending) s t z fine same (e, was, handles) = done_again ending s t z e same was handles

-- ## A front of the records

pub record Fronted (n : ℕ) (xs : List Alt) (s t z : Server) (e : End) : Type 0 where
  pub made : Server
  pub makes : Makes t (take n (records_in (log_of xs))) made
  pub alt : Server
  pub logged : Logged s (alt_left n xs) alt
  pub link_is : alt.link ≡ e
  pub same : Same alt made
  pub whole : length (records_in (log_of xs)) < n → alt ≡ z

pub record Outs (xs : List Alt) (s t : Server) (e : End) : Type 0 where
  pub logged : Logged s xs (record s { link = e })
  pub back : Back e t.link

did_of : (c : Call) → TookOut c → DidIs c
did_of c took = subst DidIs (sym took.is) (did_out took.attempt took.old took.new (Ok took.count))

back_did : (c : Call) (e n r : End) → Fine e → DidIs c → Back e r → Does e c n → Back n r
back_did c e n r fine did back does =
    let g = again c e n r fine (role_back e r fine back) back does in
    let same : g.to ≡ r = subst (λ l. Repeats r l g.to) did.none g.repeats in
    subst (λ k. Back n k) same g.back

outs_by : (c : Call) (xs : List Alt) (s t : Server) (e : End) → TookNone c ⊎ TookOut c → Fine s.link → Back s.link t.link
    → ((k : Server) → Fine k.link → Back k.link t.link → DoesAll k.link (all_calls (alt_left zero xs)) e → Outs (alt_left zero xs) k t e)
    → DoesAll s.link (all_calls (map Went (went_out c) ++ alt_left zero xs)) e → Outs (map Went (went_out c) ++ alt_left zero xs) s t e
outs_by c xs s t e (inl none) fine back so all =
    subst (λ l. Outs (map Went l ++ alt_left zero xs) s t e) (sym none.goes)
    (so s fine back (subst (λ l. DoesAll s.link (all_calls (map Went l ++ alt_left zero xs)) e) none.goes all))
outs_by c xs s t e (inr took) fine back so all =
    let mine = subst (λ l. DoesAll s.link (all_calls (map Went l ++ alt_left zero xs)) e) took.stays all in
    let l = mine.0 in
    let o =
    so (record s { link = mine.0 }) (still_fine c s.link mine.0 fine mine.1)
    (back_did c s.link mine.0 t.link fine (did_of c took) back mine.1) mine.2 in
    subst (λ l. Outs (map Went l ++ alt_left zero xs) s t e) (sym took.stays)
    (record { logged = (mine.0, mine.1, did_of c took, o.logged); back = o.back })

outs : (xs : List Alt) (s t : Server) (e : End) → Fine s.link → Back s.link t.link → DoesAll s.link (all_calls (alt_left zero xs)) e
    → Outs (alt_left zero xs) s t e
outs [] s t e fine back is = record { logged = ap (λ (k : End). record s { link = k }) is; back = subst (λ k. Back k t.link) (sym is) back }
outs (Turned r cs hs ∷ xs) s t e fine back all = outs xs s t e fine back all
outs (Went c ∷ xs) s t e fine back all = outs_by c xs s t e (either c) fine back (λ k. outs xs k t e) all

pub front : (n : ℕ) (xs : List Alt) (s t z : Server) (e : End) → Fine s.link → Same s t → Logged s xs z
    → DoesAll s.link (all_calls (alt_left n xs)) e → Fronted n xs s t z e
front zero xs s t z e fine same logged all =
    let o = outs xs s t e fine same.back all in
    record {
      made = t;
      makes = refl;
      alt = record s { link = e };
      logged = o.logged;
      link_is = refl;
      same = record { back = o.back; host = same.host; effect = same.effect };
      whole = λ less. absurd (omega (arith, less));
    }
front (suc n) [] s t z e fine same logged all = record {
  made = t;
  makes = refl;
  alt = s;
  logged = refl;
  link_is = sym all;
  same = same;
  whole = λ less. sym logged;
}
front (suc n) (Turned r cs hs ∷ xs) s t z e fine same (m, turn, rest) all =
    let p = does_parts cs (all_calls (alt_left n xs)) s.link e all in
    let here : p.0 ≡ m.link = one_end cs s.link p.0 m.link p.1 turn.does in
    let u = takes_again r s t m fine same turn.takes in
    let f =
    front n xs m u.to z e (all_fine cs s.link m.link fine turn.does) u.same rest
    (subst (λ k. DoesAll k (all_calls (alt_left n xs)) e) here p.2) in
    record {
      made = f.made;
      makes = (u.to, u.takes, f.makes);
      alt = f.alt;
      logged = (m, turn, f.logged);
      link_is = f.link_is;
      same = f.same;
      whole = λ less. f.whole (omega (arith, less));
    }
front (suc n) (Went c ∷ xs) s t z e fine same (l, does, did, rest) (k, does_too, all) =
    let here : k ≡ l = one_does c s.link k l does_too does in
    let f = front (suc n) xs (record s { link = l }) t z e (still_fine c s.link l fine does)
    (record { back = back_did c s.link l t.link fine did same.back does; host = same.host; effect = same.effect }) rest
    (subst (λ x. DoesAll x (all_calls (alt_left (suc n) xs)) e) here all) in
    record {
      made = f.made;
      makes = f.makes;
      alt = f.alt;
      logged = (l, does, did, f.logged);
      link_is = f.link_is;
      same = f.same;
      whole = λ less. f.whole less;
    }
