-- What is kept of the terminal's worker as it takes entries.
use Rattle.sam_term_worker.proofs.Common.{at_work, bytes_left, new_terminal, ◌∙◌, subst, sym, PlainTerminal, TermLog, TermRuns, flat_map-append, refl, ap, ◌≡◌, ◌≤◌, ◌⊎◌, inl, inr, ℕ, Bool, true, false, List, [], ◌∷◌, ◌++◌, Option, Some, None, Ok, Err, is_some, append_assoc, append-nil, arith, FitsT, each_append, Entry, loads, has_mark, has_left, TakeView, TakesNext, Answers, users_in, frames_in, length, length-append, ◌+◌, frame_of_load, user_of_load, LoggedView, Did, Handled, IsStill, SideView, SoFar, Ran, IsOfUser, WasNotHandled, Input, Stop}
use Rattle.sam_queue.specs.declared.take.Got.{Got}
use Rattle.sam_queue.proofs.Histories.{loads-append, loads_mine}
use Rattle.sam_queue.specs.Views.{LineView}
use Rattle.sam_endpoint.specs.TermEndpoints.{PlainTermEndpoint}
use Rattle.sam_ends.specs.Gates.{IsCount}
use Rattle.sam_ends.specs.Inputs.{bytes_of}
use Rattle.sam_ends.specs.WorkerEnds.{RefusesFrame}
use Rattle.sam_sides.specs.Logs.{logged_users}
use Rattle.sam_ends.specs.declared.input.Input.TheVariants.{User, Host}
use Rattle.sam_ends.specs.declared.stop.Stop.TheVariants as stop
use Rattle.sam_term_worker.proofs.TermSteps.{did_nothing}
use Rattle.sam_term_worker.proofs.TermKeeping.{runs_on, users_on, whole, all_handled, none_of, sent_on}

-- ## Marks

mark_stays : (xs ys : List (Option Input)) → has_mark xs ≡ true → has_mark (xs ++ ys) ≡ true
mark_stays (Some x ∷ xs) ys m = mark_stays xs ys m
mark_stays xs ys e = grind arith

mark_comes : (xs : List (Option Input)) → has_mark (xs ++ None ∷ []) ≡ true
mark_comes (Some x ∷ xs) = mark_comes xs
mark_comes xs = grind arith

left_stays : (i : ℕ) (h more : List (Entry Input)) → has_left i h ≡ true → has_left i (h ++ more) ≡ true
left_stays i h more m = grind (arith, loads-append, mark_stays)

left_now : (i : ℕ) (h : List (Entry Input)) (e : Entry Input) → e ≡ record { sender = i; load = None } → has_left i (h ++ e ∷ []) ≡ true
left_now i h e is = grind (arith, loads-append, (loads_mine i e []), (mark_comes (loads i h)))

-- ## Items

-- one for an item, and none for an end mark
abbrev items_of_load : Option Input → ℕ
items_of_load load = length (user_of_load load) + length (frame_of_load load)

one_item : (input : Input) → items_of_load (Some input) ≡ 1
one_item (User event) = refl
one_item (Host frame) = refl

items_more : (h : List (Entry Input)) (e : Entry Input)
    → length (users_in (h ++ e ∷ [])) + length (frames_in (h ++ e ∷ [])) ≡ (length (users_in h) + length (frames_in h)) + items_of_load e.load
items_more h e = grind (arith, append-nil, flat_map-append, length-append)

-- ## An entry that is handled

-- after its own Exit no event of the user comes
own_behind : (v : SideView) (r : Ran v) (e : Entry Input) → has_left e.sender v.take.taken ≡ false → v.take.taken ≡ r.handled → IsOfUser e.sender (user_of_load e.load)
    → (users_in r.handled ++ r.own) ++ user_of_load e.load ≡ (users_in r.handled ++ user_of_load e.load) ++ r.own
own_behind v r e u w q = grind (arith, append-nil)

kept_entry : (v : SideView) (line : TakeView Input) (e : Entry Input) (logged : LoggedView) (k m : Bool) (steps : ℕ) (why : Option Stop)
    → Ran v → v.stop ≡ None → TakesNext v.take e line → IsCount steps (v.steps + items_of_load e.load)
    → Did v.logged logged (user_of_load e.load) (frame_of_load e.load) → IsOfUser e.sender (user_of_load e.load) → SoFar logged.end [] why
    → (v.keyboard_left ≡ true → k ≡ true) → (v.mouse_left ≡ true → m ≡ true)
    → (k ≡ true → (v.keyboard_left ≡ true) ⊎ (e ≡ record { sender = 0; load = None }))
    → (m ≡ true → (v.mouse_left ≡ true) ⊎ (e ≡ record { sender = 1; load = None }))
    → (why ≡ Some stop.PeerGone → e ≡ record { sender = 2; load = None })
    → Ran (record { take = line; post = v.post; logged = logged; keyboard_left = k; mouse_left = m; exit_put = v.exit_put; steps = steps; stop = why })
kept_entry v line e logged k m steps why r running next counts d of_user so_far keeps_k keeps_m new_k new_m gone =
    let none = whole v r running in
    let all = all_handled v r running in
    record {
      handled = r.handled ++ e ∷ [];
      dropped = [];
      composed = r.composed ++ d.composed;
      own = r.own;
      number = r.number;
      senders = grind arith;
      took = grind (arith, append-nil);
      runs = grind (arith, append-nil, flat_map-append, (runs_on v logged (user_of_load e.load) (frame_of_load e.load) r d));
      users = grind (arith, append-nil, flat_map-append, (users_on v logged (user_of_load e.load) (frame_of_load e.load) r d), (own_behind v r e));
      own_is = r.own_is;
      all_left = grind arith;
      keyboard = grind (arith, left_stays, left_now);
      mouse = grind (arith, left_stays, left_now);
      fit = each_append (FitsT 2) r.composed d.composed r.fit d.fit;
      sent = sent_on (bytes_of v.post.put) (bytes_left v.logged) (bytes_left logged) r.composed d.composed r.sent d.bytes;
      so_far = so_far;
      gone = grind (arith, left_now);
      counted = omega (arith, r.counted, counts, (items_more r.handled e));
    }

none_is : (e : Entry Input) → None ≡ Some stop.PeerGone → e ≡ record { sender = 2; load = None }
none_is e is = grind arith

-- an item was handled
pub kept_item : (v : SideView) (line : TakeView Input) (sender : ℕ) (input : Input) (logged : LoggedView) (steps : ℕ)
    → Ran v → is_some v.stop ≡ false → TakesNext v.take (record { sender = sender; load = Some input }) line → IsCount steps (v.steps + 1)
    → Handled v.logged sender input (Ok tt) logged
    → Ran (record { take = line; post = v.post; logged = logged; keyboard_left = v.keyboard_left; mouse_left = v.mouse_left; exit_put = v.exit_put; steps = steps; stop = v.stop })
kept_item v line sender input logged steps r running next counts (d, on, of_user) =
    let more : IsCount steps (v.steps + items_of_load (Some input)) = omega (arith, counts, (one_item input)) in
    let none = none_of v.stop running in
    subst
    (λ (o : Option Stop). Ran (record { take = line; post = v.post; logged = logged; keyboard_left = v.keyboard_left; mouse_left = v.mouse_left; exit_put = v.exit_put; steps = steps; stop = o }))
    (sym none)
    (kept_entry v line (record { sender = sender; load = Some input }) logged v.keyboard_left v.mouse_left steps None r none next more d of_user (refl, on) (λ is. is) (λ is. is) (λ is. inl is) (λ is. inl is)
    (none_is (record { sender = sender; load = Some input })))

mark_handled : (v : SideView) (line : TakeView Input) (e : Entry Input) (k m : Bool) (why : Option Stop) → Ran v → v.stop ≡ None → TakesNext v.take e line → e.load ≡ None
    → SoFar v.logged.end [] why
    → (v.keyboard_left ≡ true → k ≡ true) → (v.mouse_left ≡ true → m ≡ true)
    → (k ≡ true → (v.keyboard_left ≡ true) ⊎ (e ≡ record { sender = 0; load = None }))
    → (m ≡ true → (v.mouse_left ≡ true) ⊎ (e ≡ record { sender = 1; load = None }))
    → (why ≡ Some stop.PeerGone → e ≡ record { sender = 2; load = None })
    → Ran (record { take = line; post = v.post; logged = v.logged; keyboard_left = k; mouse_left = m; exit_put = v.exit_put; steps = v.steps; stop = why })
mark_handled v line e k m why r running next mark so_far keeps_k keeps_m new_k new_m gone =
    let none : items_of_load e.load ≡ 0 = ap (λ (load : Option Input). items_of_load load) mark in
    let still : IsCount v.steps (v.steps + items_of_load e.load) = omega (arith, r.counted, none) in
    let did : Did v.logged v.logged (user_of_load e.load) (frame_of_load e.load) =
    subst (λ (load : Option Input). Did v.logged v.logged (user_of_load load) (frame_of_load load)) (sym mark) (did_nothing v.logged v.logged (record { term = refl; log = refl; bytes = refl })) in
    let of_user : IsOfUser e.sender (user_of_load e.load) = subst (λ (load : Option Input). IsOfUser e.sender (user_of_load load)) (sym mark) (inl refl) in
    kept_entry v line e v.logged k m v.steps why r running next still did of_user so_far keeps_k keeps_m new_k new_m gone

-- the keyboard, the mouse or the host reader has left
pub kept_keyboard : (v : SideView) (line : TakeView Input) → Ran v → is_some v.stop ≡ false → TakesNext v.take (record { sender = 0; load = None }) line
    → Ran (record { take = line; post = v.post; logged = v.logged; keyboard_left = true; mouse_left = v.mouse_left; exit_put = v.exit_put; steps = v.steps; stop = v.stop })
kept_keyboard v line r running next = grind (arith, mark_handled)

pub kept_mouse : (v : SideView) (line : TakeView Input) → Ran v → is_some v.stop ≡ false → TakesNext v.take (record { sender = 1; load = None }) line
    → Ran (record { take = line; post = v.post; logged = v.logged; keyboard_left = v.keyboard_left; mouse_left = true; exit_put = v.exit_put; steps = v.steps; stop = v.stop })
kept_mouse v line r running next = grind (arith, mark_handled)

pub kept_reader : (v : SideView) (line : TakeView Input) (sender : ℕ) → Ran v → is_some v.stop ≡ false → TakesNext v.take (record { sender = sender; load = None }) line
    → Ran (record { take = line; post = v.post; logged = v.logged; keyboard_left = v.keyboard_left; mouse_left = v.mouse_left; exit_put = v.exit_put; steps = v.steps; stop = v.stop })
kept_reader v line sender r running next = grind (arith, mark_handled)

pub kept_gone : (v : SideView) (line : TakeView Input) (sender : ℕ) → Ran v → is_some v.stop ≡ false → TakesNext v.take (record { sender = sender; load = None }) line
    → 2 ≤ sender → v.logged.end.term.has_exited ≡ false
    → Ran (record { take = line; post = v.post; logged = v.logged; keyboard_left = v.keyboard_left; mouse_left = v.mouse_left; exit_put = v.exit_put; steps = v.steps; stop = Some stop.PeerGone })
kept_gone v line sender r running next others open_still = grind (arith, mark_handled)

-- ## An entry that is dropped

pub kept_dropped : (v : SideView) (line : TakeView Input) (e : Entry Input) (logged : LoggedView) (why : Stop) → Ran v → is_some v.stop ≡ false → TakesNext v.take e line
    → IsStill v.logged logged → SoFar logged.end (e ∷ []) (Some why) → (why ≡ stop.PeerGone → ⊥)
    → Ran (record { take = line; post = v.post; logged = logged; keyboard_left = v.keyboard_left; mouse_left = v.mouse_left; exit_put = v.exit_put; steps = v.steps; stop = Some why })
kept_dropped v line e logged why r running next still so_far here = record {
  handled = r.handled;
  dropped = e ∷ [];
  composed = r.composed;
  own = r.own;
  number = r.number;
  senders = ap (λ (l : LineView). l.senders) next.line ∙ r.senders;
  took = next.taken ∙ ap (λ (h : List (Entry Input)). h ++ e ∷ []) (all_handled v r (none_of v.stop running));
  runs = subst (λ (t : PlainTerminal). TermRuns at_work new_terminal logged.log (frames_in r.handled) r.composed t) (sym still.term)
      (subst (λ (es : List TermLog). TermRuns at_work new_terminal es (frames_in r.handled) r.composed v.logged.end.term) (sym still.log) r.runs);
  users = ap (λ (es : List TermLog). logged_users es) still.log ∙ r.users;
  own_is = r.own_is;
  all_left = r.all_left;
  keyboard = r.keyboard;
  mouse = r.mouse;
  fit = r.fit;
  sent = ap (λ (bs : List ℕ). bytes_of v.post.put ++ bs) still.bytes ∙ r.sent;
  so_far = so_far;
  gone = grind (arith, here);
  counted = r.counted;
}

not_handled_so_far : (t : PlainTerminal) (g : PlainTermEndpoint) (sender : ℕ) (input : Input) (why : Stop) → g.term ≡ t → WasNotHandled t sender input why
    → SoFar g (record { sender = sender; load = Some input } ∷ []) (Some why)
not_handled_so_far t g sender input (stop.Frame n) same is = is
not_handled_so_far t g sender input (stop.Host n) same u = absurd u
not_handled_so_far t g sender input (stop.Term n) same is =
    inr (subst (λ (u : PlainTerminal). RefusesFrame u (record { sender = sender; load = Some input } ∷ []) n) (sym same) is)
not_handled_so_far t g sender input stop.PeerGone same u = absurd u
not_handled_so_far t g sender input stop.Gate same u = absurd u
not_handled_so_far t g sender input stop.Memory same is = tt

pub kept_refused : (v : SideView) (line : TakeView Input) (sender : ℕ) (input : Input) (logged : LoggedView) (why : Stop) → Ran v → is_some v.stop ≡ false
    → TakesNext v.take (record { sender = sender; load = Some input }) line → Handled v.logged sender input (Err why) logged
    → Ran (record { take = line; post = v.post; logged = logged; keyboard_left = v.keyboard_left; mouse_left = v.mouse_left; exit_put = v.exit_put; steps = v.steps; stop = Some why })
kept_refused v line sender input logged why r running next (still, w) =
    kept_dropped v line (record { sender = sender; load = Some input }) logged why r running next still (not_handled_so_far v.logged.end.term logged.end sender input why still.term w)
    (λ gone. subst (λ (s : Stop). WasNotHandled v.logged.end.term sender input s) gone w)

pub kept_gated : (v : SideView) (line : TakeView Input) (sender : ℕ) (input : Input) → Ran v → is_some v.stop ≡ false
    → TakesNext v.take (record { sender = sender; load = Some input }) line
    → Ran (record { take = line; post = v.post; logged = v.logged; keyboard_left = v.keyboard_left; mouse_left = v.mouse_left; exit_put = v.exit_put; steps = v.steps; stop = Some stop.Gate })
kept_gated v line sender input r running next =
    kept_dropped v line (record { sender = sender; load = Some input }) v.logged stop.Gate r running next (record { term = refl; log = refl; bytes = refl }) tt (grind arith)

none_stopped : (why : Option Stop) → why ≡ None → is_some why ≡ true → ⊥
none_stopped why none is = grind arith

so_far_more : (x : PlainTermEndpoint) (dropped : List (Entry Input)) (e : Entry Input) (why : Option Stop) → is_some why ≡ true → SoFar x dropped why → SoFar x (dropped ++ e ∷ []) why
so_far_more x dropped e None stopped is = absurd (none_stopped None refl stopped)
so_far_more x dropped e (Some (stop.Frame n)) stopped (inl (sender, frame, more, first, long, number)) =
    inl (sender, frame, more ++ e ∷ [], ap (λ (h : List (Entry Input)). h ++ e ∷ []) first, long, number)
so_far_more x dropped e (Some (stop.Frame n)) stopped (inr (event, more, first, number)) = inr (event, more ++ e ∷ [], ap (λ (h : List (Entry Input)). h ++ e ∷ []) first, number)
so_far_more x dropped e (Some (stop.Host n)) stopped u = absurd u
so_far_more x dropped e (Some (stop.Term n)) stopped (inl full) = inl full
so_far_more x dropped e (Some (stop.Term n)) stopped (inr (sender, frame, more, why, first, refused, number)) =
    inr (sender, frame, more ++ e ∷ [], why, ap (λ (h : List (Entry Input)). h ++ e ∷ []) first, refused, number)
so_far_more x dropped e (Some stop.PeerGone) stopped is = is
so_far_more x dropped e (Some stop.Gate) stopped is = tt
so_far_more x dropped e (Some stop.Memory) stopped is = tt

-- what comes after a stop is dropped
pub kept_dropping : (v : SideView) (line : TakeView Input) (e : Entry Input) → Ran v → is_some v.stop ≡ true → TakesNext v.take e line
    → Ran (record { take = line; post = v.post; logged = v.logged; keyboard_left = v.keyboard_left; mouse_left = v.mouse_left; exit_put = v.exit_put; steps = v.steps; stop = v.stop })
kept_dropping v line e r stopped next = record {
  handled = r.handled;
  dropped = r.dropped ++ e ∷ [];
  composed = r.composed;
  own = r.own;
  number = r.number;
  senders = ap (λ (l : LineView). l.senders) next.line ∙ r.senders;
  took = next.taken ∙ (ap (λ (h : List (Entry Input)). h ++ e ∷ []) r.took ∙ append_assoc r.handled r.dropped (e ∷ []));
  runs = r.runs;
  users = r.users;
  own_is = r.own_is;
  all_left = r.all_left;
  keyboard = r.keyboard;
  mouse = r.mouse;
  fit = r.fit;
  sent = r.sent;
  so_far = so_far_more v.logged.end r.dropped e v.stop stopped r.so_far;
  gone = r.gone;
  counted = r.counted;
}

-- whatever the line answers after a stop
pub kept_answer : (v : SideView) (line : TakeView Input) (g : Got Input) → Ran v → is_some v.stop ≡ true → Answers v.take g line
    → Ran (record { take = line; post = v.post; logged = v.logged; keyboard_left = v.keyboard_left; mouse_left = v.mouse_left; exit_put = v.exit_put; steps = v.steps; stop = v.stop })
kept_answer v line g r stopped answers = grind (arith, kept_dropping)

-- what a side rests on that takes an entry
pub ruleset takes_kept = (kept_gone, kept_refused, kept_gated)
