-- Runs, step by step, and what a drain has done.
use Rattle.sam_world.proofs.Common.{◌≡◌, ◌⊎◌, inl, inr, refl, sym, same_Some, ap, ◌∙◌, ◌<◌, ◌+◌, ◌-◌, ℕ, zero, suc, true, List, [], ◌∷◌, ◌++◌, take, length, Option, Some, None, arith, option_and_then, slice_index_or, is_empty, is_some, false, Flush, HostTake, TermTake, PlainWorld, step_of, run_of, next_event, drained, acts, act_of, Advances, HasMade, IsDrainedUpTo, IsFaultOf, IsNextFault, Event, Act, NothingThere, Barred, OutOfMemory, CountFull}
use Rattle.sam_crossing.specs.World.{user_events, joined_files, marked_files}
use Rattle.sam_world.specs.declared.event.StepFault.{StepFault}
use Rattle.sam_world.proofs.Stopping.{passing_stops}

-- a run of the first i events and then the next one
pub run_more : (w v u : PlainWorld) (es : List Event) (i : ℕ) (d : Event)
    → i < length es → run_of w (take i es) ≡ Some v → step_of v (slice_index_or es i d) ≡ Some u → run_of w (take (i + 1) es) ≡ Some u
run_more w v u (e ∷ es) (suc i) d l r s = grind (arith, (λ (n : PlainWorld) (q : run_of n (take i es) ≡ Some v). run_more n v u es i d (omega (arith, l)) q s))
run_more w v u es i d e q y = grind arith

-- ## Where a drain leads

-- one event, and then the others
drained_on : (n : ℕ) (w v : PlainWorld) (e : Event) → next_event w ≡ Some e → step_of w e ≡ Some v → drained (suc n) w ≡ drained n v
drained_on n w v e next stepped = grind arith

-- where nothing applies, all stays
drained_still : (n : ℕ) (w : PlainWorld) → next_event w ≡ None → drained n w ≡ Some w
drained_still n w e = grind arith

-- some events, and then the others
drained_then : (i k : ℕ) (w v : PlainWorld) → drained i w ≡ Some v → drained (i + k) w ≡ drained k v
drained_then zero k w v d = grind arith
drained_then (suc i) k w v d =
    let one : suc i + k ≡ suc (i + k) = omega arith in
    rw one (grind (arith, drained_still, (λ (n : PlainWorld) (r : drained i n ≡ Some v). drained_then i k n v r)))

-- one event more
pub drained_more : (i : ℕ) (w v u : PlainWorld) → drained i w ≡ Some v → Advances v u → drained (i + 1) w ≡ Some u
drained_more i w v u d went = drained_then i 1 w v d ∙ drained_on 0 v u went.event went.next went.stepped

-- nothing more, however often
pub drained_rest : (i n : ℕ) (w v : PlainWorld) → i < n → drained i w ≡ Some v → next_event v ≡ None → drained n w ≡ Some v
drained_rest i n w v fewer d none = grind (arith, (drained_then i (n - i) w v d))

-- at its end nothing applies any more, or all n events were made
pub drained_stops : (n : ℕ) (w v : PlainWorld) → drained n w ≡ Some v → (next_event v ≡ None) ⊎ HasMade n w v
drained_stops zero w v d = inr (record { events = []; many = refl; leads = sym (same_Some w v d) })
drained_stops (suc n) w v d = go (next_event w) (λ u r. drained_stops n u v r) refl d
  where
    first : (x : Event) (u : PlainWorld) → next_event w ≡ Some x → step_of w x ≡ Some u → (next_event v ≡ None) ⊎ HasMade n u v → (next_event v ≡ None) ⊎ HasMade (suc n) w v
    first x u next stepped (inl none) = inl none
    first x u next stepped (inr made) = inr (record { events = x ∷ made.events; many = ap suc made.many; leads = (u, next, stepped, made.leads) })

    past : (x : Event) (o : Option PlainWorld) → next_event w ≡ Some x → step_of w x ≡ o → ((u : PlainWorld) → drained n u ≡ Some v → (next_event v ≡ None) ⊎ HasMade n u v)
        → option_and_then (drained n) o ≡ Some v → (next_event v ≡ None) ⊎ HasMade (suc n) w v
    past x None next e q y = absurd (grind arith)
    past x (Some u) next e q y = first x u next e (q u y)

    go : (o : Option Event) → ((u : PlainWorld) → drained n u ≡ Some v → (next_event v ≡ None) ⊎ HasMade n u v)
        → next_event w ≡ o → elim o [ None ↦ Some w | Some x ↦ option_and_then (drained n) (step_of w x) ] ≡ Some v → (next_event v ≡ None) ⊎ HasMade (suc n) w v
    go None more next q = inl (ap next_event (sym (same_Some w v q)) ∙ next)
    go (Some x) more next q = past x (step_of w x) next refl more q

-- ## What applies next

pub next_host : (w v : PlainWorld) → is_empty w.up ≡ false → step_of w HostTake ≡ Some v → Advances w v
next_host w v up s = record { event = HostTake; next = grind (arith, up); stepped = s }

pub next_term : (w v : PlainWorld) → is_empty w.up ≡ true → is_empty w.down ≡ false → step_of w TermTake ≡ Some v → Advances w v
next_term w v up down s = record { event = TermTake; next = grind (arith, up, down); stepped = s }

pub next_act : (w v : PlainWorld) → is_empty w.up ≡ true → is_empty w.down ≡ true → acts (act_of w.term) ≡ true → step_of w Act ≡ Some v → Advances w v
next_act w v up down a s = record { event = Act; next = grind (arith, up, down, a); stepped = s }

pub next_flush : (w v : PlainWorld) → is_empty w.up ≡ true → is_empty w.down ≡ true → acts (act_of w.term) ≡ false → is_some w.term.unsent ≡ true → step_of w Flush ≡ Some v
    → Advances w v
next_flush w v up down a u s = record { event = Flush; next = grind (arith, up, down, a, u); stepped = s }

pub ruleset next_facts = (next_host, next_term, next_act, next_flush)

-- ## A drain is a run

-- events lead from w to v, the user does nothing in them, and no file joins
pub record DoesSilently (w v : PlainWorld) : Type 0 where
  pub events : List Event
  pub leads : run_of w events ≡ Some v
  pub none : user_events events ≡ []
  pub no_file : joined_files events ≡ []
  pub no_mark : marked_files events ≡ []

no_user : (w : PlainWorld) (e : Event) → next_event w ≡ Some e → user_events (e ∷ []) ≡ []
no_user w e next = grind arith

still_none : (e : Event) (es : List Event) → user_events (e ∷ []) ≡ [] → user_events es ≡ [] → user_events (e ∷ es) ≡ []
still_none e es one rest = grind arith

no_join : (w : PlainWorld) (e : Event) → next_event w ≡ Some e → joined_files (e ∷ []) ≡ []
no_join w e next = grind arith

still_no_file : (e : Event) (es : List Event) → joined_files (e ∷ []) ≡ [] → joined_files es ≡ [] → joined_files (e ∷ es) ≡ []
still_no_file e es one rest = grind arith

not_marked : (w : PlainWorld) (e : Event) → next_event w ≡ Some e → marked_files (e ∷ []) ≡ []
not_marked w e next = grind arith

still_no_mark : (e : Event) (es : List Event) → marked_files (e ∷ []) ≡ [] → marked_files es ≡ [] → marked_files (e ∷ es) ≡ []
still_no_mark e es one rest = grind arith

pub drained_runs : (n : ℕ) (w v : PlainWorld) → drained n w ≡ Some v → DoesSilently w v
drained_runs zero w v d = record { events = []; leads = d; none = refl; no_file = refl; no_mark = refl }
drained_runs (suc n) w v d = go (next_event w) (λ u r. drained_runs n u v r) refl d
  where
    past : (x : Event) (o : Option PlainWorld) → next_event w ≡ Some x → step_of w x ≡ o → ((u : PlainWorld) → drained n u ≡ Some v → DoesSilently u v)
        → option_and_then (drained n) o ≡ Some v → DoesSilently w v
    past x None next e more y = absurd (grind arith)
    past x (Some u) next e more y =
        let rest = more u y in
        record { events = x ∷ rest.events; leads = rw e rest.leads; none = still_none x rest.events (no_user w x next) rest.none; no_file = still_no_file x rest.events (no_join w x next) rest.no_file; no_mark = still_no_mark x rest.events (not_marked w x next) rest.no_mark }

    go : (o : Option Event) → ((u : PlainWorld) → drained n u ≡ Some v → DoesSilently u v)
        → next_event w ≡ o → elim o [ None ↦ Some w | Some e ↦ option_and_then (drained n) (step_of w e) ] ≡ Some v → DoesSilently w v
    go None more next q = record { events = []; leads = q; none = refl; no_file = refl; no_mark = refl }
    go (Some x) more next q = past x (step_of w x) next refl more q

-- ## Runs one after another

pub run_then : (w v u : PlainWorld) (es fs : List Event) → run_of w es ≡ Some v → run_of v fs ≡ Some u → run_of w (es ++ fs) ≡ Some u
run_then w v u [] fs r s = grind arith
run_then w v u (e ∷ es) fs r s = grind (arith, (λ (n : PlainWorld) (q : run_of n es ≡ Some v). run_then n v u es fs q s))

pub users_then : (es fs : List Event) → user_events (es ++ fs) ≡ user_events es ++ user_events fs
users_then [] fs = refl
users_then (e ∷ es) fs = grind (arith, (users_then es fs))

pub files_then : (es fs : List Event) → joined_files (es ++ fs) ≡ joined_files es ++ joined_files fs
files_then [] fs = refl
files_then (e ∷ es) fs = grind (arith, (files_then es fs))

pub marks_then : (es fs : List Event) → marked_files (es ++ fs) ≡ marked_files es ++ marked_files fs
marks_then [] fs = refl
marks_then (e ∷ es) fs = grind (arith, (marks_then es fs))

-- ## Where it meets a fault

full_differs : ◌≡◌ {A = StepFault} CountFull OutOfMemory → ⊥
full_differs e = cc

-- something is always there
pub never_nothing : (n : ℕ) (w v : PlainWorld) → IsDrainedUpTo n w v NothingThere → ⊥
never_nothing n w v d = grind arith

-- nor is a file added
pub never_barred : (n : ℕ) (w v : PlainWorld) → IsDrainedUpTo n w v Barred → ⊥
never_barred n w v d = grind arith

-- a full count leads nowhere
pub full_is_none : (n : ℕ) (w v : PlainWorld) → IsDrainedUpTo n w v CountFull → drained n w ≡ None
full_is_none n w v d = grind (arith, full_differs, (drained_then d.done (suc (n - d.done - 1)) w v d.leads), (passing_stops v))

-- an act that was tried, where nothing is under way, is what comes next
pub tried_next : (w : PlainWorld) (why : StepFault) → is_empty w.up ≡ true → is_empty w.down ≡ true → acts (act_of w.term) ≡ true → IsFaultOf w Act why → IsNextFault w why
tried_next w why up down tried f = grind arith
