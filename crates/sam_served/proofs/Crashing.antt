-- A crash is a break.
use Rattle.std.proofs.Common.{◌≡◌, ◌⊎◌, inl, inr, ℕ, ◌<◌, ◌≤◌, length, List, [], ◌∷◌, ◌++◌, true, Ok, Err, refl, sym, ap, ◌∙◌, subst, append-nil, arith, length-append}
use Rattle.std.proofs.lemmas.Bool.{cases_lt}
use Rattle.sam_link.specs.Calls.{Call, Does}
use Rattle.sam_link.specs.Calls.Call.{Acknowledge, Answer, Ask, Break, Dial, Feed, NextNote, Put, PutNote, TakeIn, TakeOut, Welcome}
use Rattle.sam_link.specs.End.{End, broken, ended, fresh}
use Rattle.sam_link.specs.Sessions as link
use Rattle.sam_link.specs.Sessions.{Leads, Session, Step, WasCarried, host_did, is_taken, new_session, terminal_did}
use Rattle.sam_link.specs.declared.hello.Id.{Id}
use Rattle.sam_link.specs.declared.phase.Role.TheVariants.{Host}
use Rattle.sam_served.specs.Crashes.{AreLike, ByHost, ByTerminal, Crash, CrashesAreBreaks, EndsAreMade, Event, LeadsOverCrashes, LedTo, MayGoOut, Recovers, Sync, DurableSession, crashed, left, new_durable_session}
use Rattle.sam_served.proofs.Gates.{all_fine, decided, fronts_ahead}
use Rattle.sam_served.proofs.Lefts.{TookNone, TookOut, carried_left, either, fewer_left, left_all, left_more, more_left, out_left}
use Rattle.sam_served.proofs.Likes.{like_follows}
use Rattle.sam_served.proofs.Repeating.{first_fine, recovered, recovery}
use Rattle.sam_server.proofs.One.{does_more, one_end}

-- ## Sessions without crashes

pub leads_on : (steps more : List Step) (s m z : Session) → Leads s steps m → Leads m more z → Leads s (steps ++ more) z
leads_on [] more s m z a b = subst (λ k. Leads k more z) a b
leads_on (link.ByTerminal c ∷ steps) more s m z (t, does, carried, rest) b =
    (t, does, carried, leads_on steps more (terminal_did s c t) m z rest b)
leads_on (link.ByHost c ∷ steps) more s m z (h, does, carried, rest) b = (h, does, carried, leads_on steps more (host_did s c h) m z rest b)

host_made : (id : Id) (steps : List Step) (s z : Session) → LedTo id s.host_calls s.host → Leads s steps z → LedTo id z.host_calls z.host
host_made id [] s z made leads = subst (λ k. LedTo id k.host_calls k.host) (sym leads) made
host_made id (link.ByTerminal c ∷ steps) s z made (t, does, carried, rest) = host_made id steps (terminal_did s c t) z made rest
host_made id (link.ByHost c ∷ steps) s z made (h, does, carried, rest) =
    host_made id steps (host_did s c h) z (does_more s.host_calls c (fresh Host id) s.host h made does) rest

-- ## The session that each crash would leave

-- the session, had its host done these calls alone, and come here
abbrev pub with_host : Session → List Call → End → Session
with_host s calls h = record s { host = h; host_calls = calls }

pub record Front (id : Id) (s : Session) (n : ℕ) : Type 0 where
  pub steps : List Step
  pub host : End
  pub leads : Leads (new_session id) steps (with_host s (left n s.host_calls) host)

pub record Stands (id : Id) (w : DurableSession) : Type 0 where
  pub steps : List Step
  pub leads : Leads (new_session id) steps w.session
  pub fronts : (n : ℕ) → w.durable ≤ n → Front id w.session n

-- the session after a crash that left these calls, which lead to this end
abbrev pub after : Session → List Call → End → Session
after s calls e = record s { host = ended e; host_calls = calls ++ Break e.attempt ∷ [] }

-- the same calls, otherwise written
recalled : (id : Id) (s : Session) (a b : List Call) (steps : List Step) (h : End) → a ≡ b → Leads (new_session id) steps (with_host s a h)
    → Leads (new_session id) steps (with_host s b h)
recalled id s a b steps h same leads = subst (λ l. Leads (new_session id) steps (with_host s l h)) same leads

pub made_of : (id : Id) (s : Session) (steps : List Step) → Leads (new_session id) steps s → LedTo id s.host_calls s.host
made_of id s steps leads = host_made id steps (new_session id) s refl leads

pub over_at_once : (e : End) → ended e ≡ broken e e.attempt
over_at_once e = grind arith

-- ## What happens

module _ (id : Id) (w : DurableSession) (x : Stands id w) where
  abbrev s : Session
  s = w.session

  -- the terminal does something
  up_front : (c : Call) (t : End) (n : ℕ) → Does s.terminal c t → (is_taken c ≡ true → WasCarried s.terminal_calls s.host_calls c)
      → Front id s n
      → Front id (terminal_did s c t) n
  up_front c t n does carried f = record {
    steps = f.steps ++ link.ByTerminal c ∷ [];
    host = f.host;
    leads = leads_on f.steps (link.ByTerminal c ∷ []) (new_session id) (with_host s (left n s.host_calls) f.host) _ f.leads (
      t,
      does,
      (λ taken. carried_left s.terminal_calls s.host_calls (left n s.host_calls) c (λ m. sym (out_left m n s.host_calls))
          (carried taken)),
      refl,
    );
  }

  pub by_terminal : (c : Call) (t : End) → Does s.terminal c t → (is_taken c ≡ true → WasCarried s.terminal_calls s.host_calls c)
      → Stands id (record w { session = terminal_did s c t })
  by_terminal c t does carried = record {
    steps = x.steps ++ link.ByTerminal c ∷ [];
    leads = leads_on x.steps (link.ByTerminal c ∷ []) (new_session id) s _ x.leads (t, does, carried, refl);
    fronts = λ n less. up_front c t n does carried (x.fronts n less);
  }

  -- the host does something
  module _ (c : Call) (h : End) (does : Does s.host c h) (may : MayGoOut id w c)
      (carried : is_taken c ≡ true → WasCarried s.host_calls s.terminal_calls c) where
    all_leads : Leads (new_session id) (x.steps ++ link.ByHost c ∷ []) (host_did s c h)
    all_leads = leads_on x.steps (link.ByHost c ∷ []) (new_session id) s _ x.leads (h, does, carried, refl)

    -- a crash that loses it not
    front_with : (n : ℕ) → length s.host_calls < n → Front id (host_did s c h) n
    front_with n more = record {
      steps = x.steps ++ link.ByHost c ∷ [];
      host = h;
      leads = recalled id s (s.host_calls ++ c ∷ []) (left n (s.host_calls ++ c ∷ [])) (x.steps ++ link.ByHost c ∷ []) h
          (sym (left_all n (s.host_calls ++ c ∷ []) (omega (arith, more, length-append s.host_calls (c ∷ []))))) all_leads;
    }

    -- and one that does
    front_without : (n : ℕ) → n ≤ length s.host_calls → TookNone c → Front id s n → Front id (host_did s c h) n
    front_without n inside none f = record {
      steps = f.steps;
      host = f.host;
      leads = recalled id s (left n s.host_calls) (left n (s.host_calls ++ c ∷ [])) f.steps f.host
          (sym (left_more n s.host_calls c inside ∙ ap (λ (l : List Call). left n s.host_calls ++ l) none.goes
          ∙ append-nil (left n s.host_calls))) f.leads;
    }

    -- what goes out would go out whatever is lost
    front_out : (n : ℕ) → w.durable ≤ n → n ≤ length s.host_calls → (k : TookOut c)
        → MayGoOut id w (TakeOut k.attempt k.old (Ok k.count) k.new) → Front id s n
        → Front id (host_did s c h) n
    front_out n less inside k (a, made, up, here, room) f =
        let mine : LedTo id (left n s.host_calls) f.host = made_of id (with_host s (left n s.host_calls) f.host) f.steps f.leads in
        let all : LedTo id (left (length s.host_calls) s.host_calls) s.host =
        subst (λ l. LedTo id l s.host) (sym (left_all (length s.host_calls) s.host_calls (omega arith))) (made_of id s x.steps x.leads) in
        let goes = decided a f.host s.host h k.attempt k.count k.old k.new
        (fronts_ahead w.durable n s.host_calls (fresh Host id) a f.host less (first_fine id) made mine)
        (fronts_ahead n (length s.host_calls) s.host_calls (fresh Host id) f.host s.host inside (first_fine id) mine all)
        (subst (λ d. Does s.host d h) k.is does) up here room in
        let same : left n s.host_calls ++ c ∷ [] ≡ left n (s.host_calls ++ c ∷ []) =
        sym (left_more n s.host_calls c inside ∙ ap (λ (l : List Call). left n s.host_calls ++ l) k.stays) in
        record {
          steps = f.steps ++ link.ByHost c ∷ [];
          host = goes.0;
          leads =
              recalled id s (left n s.host_calls ++ c ∷ []) (left n (s.host_calls ++ c ∷ [])) (f.steps ++ link.ByHost c ∷ []) goes.0 same
              (leads_on f.steps (link.ByHost c ∷ []) (new_session id) (with_host s (left n s.host_calls) f.host) _ f.leads (
                goes.0,
                subst (λ d. Does f.host d goes.0) (sym k.is) goes.1,
                subst (λ d. is_taken d ≡ true → WasCarried (left n s.host_calls) s.terminal_calls d) (sym k.is) (λ taken. tt),
                refl,
              ));
        }

    front_by : (n : ℕ) → w.durable ≤ n → (length s.host_calls < n) ⊎ (n ≤ length s.host_calls) → TookNone c ⊎ TookOut c
        → Front id (host_did s c h) n
    front_by n less (inl more) e = front_with n more
    front_by n less (inr inside) (inl none) = front_without n inside none (x.fronts n less)
    front_by n less (inr inside) (inr took) = front_out n less inside took (subst (λ d. MayGoOut id w d) took.is may) (x.fronts n less)

    pub by_host : Stands id (record w { session = host_did s c h })
    by_host = record {
      steps = x.steps ++ link.ByHost c ∷ [];
      leads = all_leads;
      fronts = λ n less. front_by n less (cases_lt (length s.host_calls) n) (either c);
    }

  pub by_sync : (n : ℕ) → w.durable ≤ n → Stands id (record w { durable = n })
  by_sync n less = record { steps = x.steps; leads = x.leads; fronts = λ m more. x.fronts m (omega (arith, less, more)) }

  -- the host's process ends
  module _ (k : ℕ) (e : End) (less : w.durable ≤ k) (made : LedTo id (left k s.host_calls) e) where
    calls : List Call
    calls = left k s.host_calls

    crash_leads : (steps : List Step) × Leads (new_session id) steps (after s (left k s.host_calls) e)
    crash_leads =
        let f = x.fronts k less in
        let same : f.host ≡ e =
        one_end (left k s.host_calls) (fresh Host id) f.host e (made_of id (with_host s (left k s.host_calls) f.host) f.steps f.leads)
        made in
        let here = subst (λ m. Leads (new_session id) f.steps (with_host s (left k s.host_calls) m)) same f.leads in (
          f.steps ++ link.ByHost (Break e.attempt) ∷ [],
          leads_on f.steps (link.ByHost (Break e.attempt) ∷ []) (new_session id) (with_host s (left k s.host_calls) e) _ here
              (ended e, over_at_once e, (λ taken. tt), refl),
        )

    front_after : (n : ℕ) → w.durable ≤ n → (length (left k s.host_calls) < n) ⊎ (n ≤ length (left k s.host_calls)) → (n ≤ k) ⊎ (k ≤ n)
        → Front id (after s (left k s.host_calls) e) n
    front_after n low (inl more) which = record {
      steps = crash_leads.0;
      host = ended e;
      leads =
          recalled id s (left k s.host_calls ++ Break e.attempt ∷ []) (left n (left k s.host_calls ++ Break e.attempt ∷ [])) crash_leads.0
          (ended e)
          (sym (left_all n (left k s.host_calls ++ Break e.attempt ∷ [])
          (omega (arith, more, length-append (left k s.host_calls) (Break e.attempt ∷ []))))) crash_leads.1;
    }
    front_after n low (inr inside) (inl fewer) =
        let f = x.fronts n low in
        record {
          steps = f.steps;
          host = f.host;
          leads = recalled id s (left n s.host_calls) (left n (left k s.host_calls ++ Break e.attempt ∷ [])) f.steps f.host
              (sym (left_more n (left k s.host_calls) (Break e.attempt) inside ∙ append-nil (left n (left k s.host_calls))
              ∙ fewer_left n k s.host_calls fewer)) f.leads;
        }
    front_after n low (inr inside) (inr most) =
        let f = x.fronts k less in
        record {
          steps = f.steps;
          host = f.host;
          leads = recalled id s (left k s.host_calls) (left n (left k s.host_calls ++ Break e.attempt ∷ [])) f.steps f.host
              (sym (left_more n (left k s.host_calls) (Break e.attempt) inside ∙ append-nil (left n (left k s.host_calls))
              ∙ more_left n k s.host_calls most)) f.leads;
        }

    order : (n : ℕ) → (k < n) ⊎ (n ≤ k) → (n ≤ k) ⊎ (k ≤ n)
    order n (inl l) = inr (omega (arith, l))
    order n (inr l) = inl l

    pub by_crash : Stands id (record w { session = after s (left k s.host_calls) e })
    by_crash = record {
      steps = crash_leads.0;
      leads = crash_leads.1;
      fronts = λ n low. front_after n low (cases_lt (length (left k s.host_calls)) n) (order n (cases_lt k n));
    }

-- ## Whatever happens

-- the world, with another end of the host
abbrev with_end : DurableSession → End → DurableSession
with_end w b = record w { session = record w.session { host = b } }

-- without crashes there is an end like the host's, and all stands with it
pub record Runs (id : Id) (w : DurableSession) : Type 0 where
  pub end : End
  pub like : AreLike w.session.host end
  pub stands : Stands id (with_end w end)

may_too : (id : Id) (w : DurableSession) (b : End) (c : Call) → MayGoOut id w c → MayGoOut id (with_end w b) c
may_too id w b (TakeOut attempt old (Ok count) new) x = x
may_too id w b (TakeOut attempt old (Err why) new) x = tt
may_too id w b (Dial take_over answer) x = tt
may_too id w b (Answer hello answer) x = tt
may_too id w b (Welcome hello answer) x = tt
may_too id w b (Break attempt) x = tt
may_too id w b (Put bytes answer) x = tt
may_too id w b (PutNote bytes answer) x = tt
may_too id w b (Ask answer) x = tt
may_too id w b (Acknowledge answer) x = tt
may_too id w b (Feed attempt piece answer) x = tt
may_too id w b (TakeIn old count new) x = tt
may_too id w b (NextNote answer) x = tt

pub like_role : (a b : End) → AreLike a b → a.role ≡ b.role
like_role a b (inl same) = ap (λ (k : End). k.role) same
like_role a b (inr o) = ap (λ (k : End). k.role) o.0

like_attempt : (a b : End) → AreLike a b → a.attempt ≡ b.attempt
like_attempt a b (inl same) = ap (λ (k : End). k.attempt) same
like_attempt a b (inr o) = ap (λ (k : End). k.attempt) o.0

pub host_role : (id : Id) (w : DurableSession) (r : Runs id w) → w.session.host.role ≡ Host
host_role id w r =
    like_role w.session.host r.end r.like
    ∙ (all_fine w.session.host_calls (fresh Host id) r.end (first_fine id)
    (made_of id (with_end w r.end).session r.stands.steps r.stands.leads)).role

crash_runs : (id : Id) (w : DurableSession) (r : Runs id w) (n : ℕ) (h : End) → w.durable ≤ n → Recovers id (left n w.session.host_calls) h
    → Runs id (record w { session = crashed w.session (left n w.session.host_calls) h })
crash_runs id w r n h less recovers =
    let calls = left n w.session.host_calls in
    let f = r.stands.fronts n less in
    let made = made_of id (with_host w.session calls f.host) f.steps f.leads in
    let like : AreLike h (ended f.host) = recovered id calls f.host h made recovers in
    record {
      end = ended f.host;
      like = like;
      stands = subst (λ m. Stands id (record w { session = record w.session { host = ended f.host; host_calls = calls ++ Break m ∷ [] } }))
          (sym (like_attempt h (ended f.host) like)) (by_crash id (with_end w r.end) r.stands n f.host less made);
    }

pub all_run : (id : Id) (events : List Event) (w z : DurableSession) → Runs id w → LeadsOverCrashes id w events z → Runs id z
all_run id [] w z r leads = subst (λ k. Runs id k) (sym leads) r
all_run id (ByTerminal c ∷ events) w z r (t, does, carried, rest) =
    all_run id events (record w { session = terminal_did w.session c t }) z
    (record { end = r.end; like = r.like; stands = by_terminal id (with_end w r.end) r.stands c t does carried }) rest
all_run id (ByHost c ∷ events) w z r (h, does, may, carried, rest) =
    let f = like_follows c w.session.host r.end h (host_role id w r) r.like does in
    all_run id events (record w { session = host_did w.session c h }) z
    (record { end = f.to; like = f.like; stands = by_host id (with_end w r.end) r.stands c f.to f.does (may_too id w r.end c may) carried })
    rest
all_run id (Sync n ∷ events) w z r (less, rest) =
    all_run id events (record w { durable = n }) z
    (record { end = r.end; like = r.like; stands = by_sync id (with_end w r.end) r.stands n less }) rest
all_run id (Crash n ∷ events) w z r (h, less, recovers, rest) = all_run id events _ z (crash_runs id w r n h less recovers) rest

pub first_runs : (id : Id) → Runs id (new_durable_session id)
first_runs id = record {
  end = fresh Host id;
  like = inl refl;
  stands = record { steps = []; leads = refl; fronts = λ n less. record { steps = []; host = fresh Host id; leads = refl } };
}

pub crashes_are_breaks : CrashesAreBreaks
crashes_are_breaks id events w leads =
    let r = all_run id events (new_durable_session id) w (first_runs id) leads in (r.stands.steps, r.end, r.stands.leads, r.like)

pub ends_are_made : EndsAreMade
ends_are_made id events w n leads less =
    let r = all_run id events (new_durable_session id) w (first_runs id) leads in
    let f = r.stands.fronts n less in
    recovery id (left n w.session.host_calls) f.host (made_of id (with_host w.session (left n w.session.host_calls) f.host) f.steps f.leads)
