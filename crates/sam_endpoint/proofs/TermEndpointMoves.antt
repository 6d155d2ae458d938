-- What an end has received, done and written so far grows by its steps.
use Rattle.sam_endpoint.proofs.Common.{◌≡◌, refl, ap, subst, ◌∙◌, ℕ, ◌+◌, List, [], ◌∷◌, ◌++◌, length, Ok, append_assoc, arith, append-nil, rules, flat_map-append, common_steps, sym, All-append, All-nil, FitsT, FitMessages, composed_in, Tmesg, HFrame, act_touch, frame_touch, kept_acted, kept_after, kept_received, left_by, terminal, stream_of, PlainTerminal, act_of, take_of, Acted, PlainTermEndpoint, Acts, IsDecided, Moves, last_stamp, oldest, refusals_from, ActsFirst, ReceivesFirst, written}
use Rattle.sam_endpoint.specs.TermEndpoints.{Receives, composed_by}
use Rattle.sam_endpoint.specs.declared.changes.Kept.{Kept}

receives-more : (t u v : PlainTerminal) (frames : List HFrame) (frame : HFrame) (ms ns : List Tmesg) → Receives t frames ms u
    → take_of u frame ≡ Ok (v, ns) → Receives t (frames ++ frame ∷ []) (ms ++ ns) v
receives-more t u v [] frame ms ns (none, same) taken = grind (arith, (append-nil ns))
receives-more t u v (f ∷ frames) frame ms ns (w, first, rest, one, all, more) taken = grind (arith, append_assoc, (receives-more w u v frames frame rest ns more taken))

acts-more : (t u v : PlainTerminal) (acts : List Acted) (acted : Acted) → Acts t acts u → act_of u ≡ Ok (v, acted) → IsDecided acted → Acts t (acts ++ acted ∷ []) v
acts-more t u v [] acted same act settled = (v, subst (λ w. act_of w ≡ Ok (v, acted)) same act, settled, refl)
acts-more t u v (a ∷ acts) acted (w, one, was, more) act settled = (w, one, was, acts-more w u v acts acted more act settled)

-- one number more, whatever became of an event
refusals-more : (n : ℕ) (acts : List Acted) (acted : Acted) → refusals_from n (acts ++ acted ∷ []) ≡ refusals_from n acts ++ refusals_from (n + length acts) (acted ∷ [])
refusals-more n [] acted = ap (λ k. refusals_from k (acted ∷ [])) (omega arith)
refusals-more n (a ∷ acts) acted = let moved : n + 1 + length acts ≡ n + length (a ∷ acts) = omega arith in grind (arith, moved, (refusals-more (n + 1) acts acted))

-- the last of the frames is the one that came last
last-stamp-more : (before : ℕ) (frames : List HFrame) (frame : HFrame) → last_stamp before (frames ++ frame ∷ []) ≡ frame.seen
last-stamp-more before [] frame = refl
last-stamp-more before (f ∷ frames) frame = last-stamp-more f.seen frames frame

-- what is kept after one frame more, and after one event more
kept_received-more : (t u : PlainTerminal) (frames : List HFrame) (frame : HFrame) (ms : List Tmesg) (ks : List Kept) → Receives t frames ms u
    → kept_received t (frames ++ frame ∷ []) ks ≡ kept_after (kept_received t frames ks) (frame_touch u frame.msg)
kept_received-more t u [] frame ms ks (none, same) = ap (λ v. kept_after ks (frame_touch v frame.msg)) (sym same)
kept_received-more t u (f ∷ frames) frame ms ks (w, first, rest, one, all, more) =
    let left : left_by t (take_of t f) ≡ w = ap (left_by t) one in
    let then_ks = kept_after ks (frame_touch t f.msg) in
    subst (λ v. kept_received v (frames ++ frame ∷ []) then_ks ≡ kept_after (kept_received v frames then_ks) (frame_touch u frame.msg)) (sym left)
    (kept_received-more w u frames frame rest then_ks more)

kept_acted-more : (t u : PlainTerminal) (acts : List Acted) (acted : Acted) (ks : List Kept) → Acts t acts u
    → kept_acted t (acts ++ acted ∷ []) ks ≡ kept_after (kept_acted t acts ks) (act_touch u acted)
kept_acted-more t u [] acted ks same = ap (λ v. kept_after ks (act_touch v acted)) (sym same)
kept_acted-more t u (a ∷ acts) acted ks (w, one, was, more) =
    let left : left_by t (act_of t) ≡ w = ap (left_by t) one in
    let then_ks = kept_after ks (act_touch t a) in
    subst (λ v. kept_acted v (acts ++ acted ∷ []) then_ks ≡ kept_after (kept_acted v acts then_ks) (act_touch u acted)) (sym left)
    (kept_acted-more w u acts acted then_ks more)

-- where nothing is unwritten, what is composed next comes after
broken_by : (out base : List ℕ) (left before more : List Tmesg) → left ≡ [] → out ++ stream_of terminal left ≡ base ++ stream_of terminal before
    → out ++ stream_of terminal more ≡ base ++ stream_of terminal (before ++ more)
broken_by out base left before more none so_far = grind (arith, append_assoc, flat_map-append)

pub moves_none : (e : PlainTermEndpoint) → Moves e [] [] e
moves_none e = record {
  composed = [];
  middle = e.term;
  receives = (refl, refl);
  acted = refl;
  composed_fit = All-nil (FitsT 2);
  acted_fit = All-nil (FitsT 2);
  waiting = refl;
  bytes = grind (arith, append-nil);
  refusals = sym (append-nil e.refusals);
  seen = refl;
  kept = refl;
  framer = refl;
  events = refl;
  broken_by = refl;
}

-- nothing is to be written
pub none_written : (e : PlainTermEndpoint) → e.unwritten ≡ [] → e ≡ written e
none_written e none = grind (arith, append-nil)

pub moves_written : (e g : PlainTermEndpoint) (frames : List HFrame) (acts : List Acted) → Moves e frames acts g → Moves e frames acts (written g)
moves_written e g frames acts m = record {
  composed = m.composed;
  middle = m.middle;
  receives = m.receives;
  acted = m.acted;
  composed_fit = m.composed_fit;
  acted_fit = m.acted_fit;
  waiting = m.waiting;
  bytes = append-nil (g.pending_bytes ++ stream_of terminal g.unwritten) ∙ m.bytes;
  refusals = m.refusals;
  seen = m.seen;
  kept = m.kept;
  framer = m.framer;
  events = m.events;
  broken_by = m.broken_by;
}

pub moves_received : (e g k : PlainTermEndpoint) (frames : List HFrame) → Moves e frames [] g → g.unwritten ≡ [] → (r : ReceivesFirst g k) → Moves e (frames ++ r.frame ∷ []) [] k
moves_received e g k frames m none r = grind (
  arith,
  (receives-more e.term m.middle r.term frames r.frame m.composed r.composed m.receives (subst (λ t. take_of t r.frame ≡ Ok (r.term, r.composed)) m.acted r.taken)),
  (append_assoc frames (r.frame ∷ []) r.rest),
  (broken_by g.pending_bytes e.pending_bytes g.unwritten (e.unwritten ++ m.composed) r.composed none (m.bytes ∙ ap (λ ms. e.pending_bytes ++ stream_of terminal ms) (append-nil (e.unwritten ++ m.composed)))),
  (append-nil (e.unwritten ++ m.composed)),
  (append_assoc e.unwritten m.composed r.composed),
  (append-nil (e.unwritten ++ (m.composed ++ r.composed))),
  (last-stamp-more e.seen frames r.frame),
  (kept_received-more e.term m.middle frames r.frame m.composed e.kept m.receives),
  (All-append (FitsT 2) m.composed r.composed m.composed_fit r.composed_fit),
  broken_by,
)

-- what one event more composed fits, too
fit_more : (acts : List Acted) (acted : Acted) → FitMessages (composed_by acts) → FitMessages (composed_in acted) → FitMessages (composed_by (acts ++ acted ∷ []))
fit_more acts acted fit more =
    subst FitMessages (sym (flat_map-append composed_in acts (acted ∷ []) ∙ ap (λ (ms : List Tmesg). composed_by acts ++ ms) (append-nil (composed_in acted))))
    (All-append (FitsT 2) (composed_by acts) (composed_in acted) fit more)

pub moves_acted : (e g k : PlainTermEndpoint) (frames : List HFrame) (acts : List Acted) → Moves e frames acts g → g.unwritten ≡ [] → oldest g ≡ oldest e + length acts
    → (a : ActsFirst g k) → Moves e frames (acts ++ a.acted ∷ []) k
moves_acted e g k frames acts m none number a = search (rules, common_steps, acts-more, refusals-more, (fit_more acts a.acted m.acted_fit a.composed_fit), (kept_acted-more m.middle g.term acts a.acted (kept_received e.term frames e.kept) m.acted))

-- frames are received, and then events act
pub moves_both : (e m g : PlainTermEndpoint) (frames : List HFrame) (acts : List Acted) → Moves e frames [] m → m.unwritten ≡ [] → oldest m ≡ oldest e → Moves m [] acts g → Moves e frames acts g
moves_both e m g frames acts a none number b = search (rules, common_steps)
