-- What every step keeps: the outlook of the world is what the events that have acted do to the editor without a network, but that files
-- which were marked may be dirty.
use Rattle.sam_crossing.proofs.Common.{◌<◌, Slots, slot_given, PlainFile, ◌≡◌, ℕ, Bool, true, false, not, ◌==◌, List, [], ◌∷◌, ◌++◌, Option, Some, None, Result, Ok, refl, sym, ap, ◌∙◌, subst, is_some, arith, append-nil, append_assoc, same_Some, map-append, length-append, map, take, length, ◌-◌, if◌then◌else◌, at_file, given_slots, first_of_checks, PlainHost, Reply, answer, stamped, HostFault, PlainTerminal, Made, flushed, frame_outcome, event_checks, event_outcome, TermFault, UserEvent, Tmesg, Hmesg, and_parts, ◌&&◌, ◌||◌, InOrder}
use Rattle.std.proofs.Common.{Err}
use Rattle.std.proofs.Math.Seq.{take-append_seam}
use Rattle.sam_term.specs.declared.event.Acted.TheVariants.{Done}
use Rattle.sam_term.specs.Term.{act_of, act_on, decided, flush_of, take_of, if_countable}
use Rattle.sam_term.specs.declared.event.Verdict.{Verdict}
use Rattle.sam_term.specs.declared.event.Acted.{Acted}
use Rattle.sam_mesg.specs.declared.hmesg.HFrame.{HFrame}
use Rattle.sam_host.specs.Laws.{AreGiven}
use Rattle.sam_crossing.specs.World.{PlainWorld, composed_by, step_of, after_act, after_answer, after_compose, host_takes, term_takes, joined_by, marked_by, mesgs, user_events, joined_files, marked_files}
use Rattle.sam_crossing.specs.Joining.{with_more, is_heard}
use Rattle.sam_crossing.specs.RunOrder.{IsInOrder}
use Rattle.sam_crossing.specs.declared.event.Event.{Event}
use Rattle.sam_crossing.specs.declared.event.Event.TheVariants.{User, Add, Mark, Act, Flush, HostTake, TermTake}
use Rattle.sam_term.specs.declared.event.Verdict.TheVariants.{Waits, Refuses}
use Rattle.sam_crossing.proofs.Ordered.{HostGoes, host_goes, mesgs_stamped}
use Rattle.sam_term.proofs.Edits.{flushed-held}
use Rattle.sam_crossing.proofs.RunLaws.{counted-result}
use Rattle.sam_crossing.proofs.Lenses.{frees_command}
use Rattle.sam_crossing.proofs.MoreFiles.{nothing_more, one_more, given_both, given_kept, deaf_reply, frees-behind, answers_behind, heard_frees, unheard_is}
use Rattle.sam_crossing.proofs.OrderLaws.{Joins, Marks, joins_step, marks_step, answer_gives, steps_in_order}
use Rattle.sam_local.specs.Local.{PlainEditor, Doing, Did, Joined, come_to, carried, carried_through, done_on, events_in, files_in, new_editor}
use Rattle.sam_local.specs.Worlds.{outlook, Order, in_order, let_go, hears_first, order_after, is_among, undoes, is_undone, unwritten_after, unwritten_on}
use Rattle.sam_host.specs.Host.{told_dirty}
use Rattle.sam_host.specs.Marking.{marked}
use Rattle.sam_crossing.proofs.Marking.{only_at, shown-more, told-more, marked-more}
use Rattle.sam_local.proofs.Gentle.{MarksGuarded, marks-less, marks-some}
use Rattle.sam_local.proofs.Marks.{marks-both, marks-dirty, marks-idle, marks-reply_of}
use Rattle.sam_local.proofs.Editors.{Stands, reached-stands, stands-come}
use Rattle.sam_local.proofs.Marked.{Differs, alike-then, carried-alike, joined-alike, marks-differ}
use Rattle.sam_local.proofs.Ahead.{come-to-is}
use Rattle.sam_local.proofs.Doings.{done-append, events-append, events-did, files-append, files-did, come-to-more}
use Rattle.sam_local.proofs.Steps.{comes-alike, host-takes, flushes}
use Rattle.sam_local.proofs.Takes.{term-takes}
use Rattle.sam_local.proofs.Checks.{passes-rest}
use Rattle.sam_local.proofs.Acts.{acts, refuses}
use Rattle.sam_local.proofs.Held.{event-held, frame-held}

-- ## What is kept

-- the world with these files joined now
abbrev pub with_joined : PlainWorld → List (List ℕ × List ℕ) → PlainWorld
with_joined w more = record w { host = with_more w.host (given_slots more) }

-- and its order
abbrev pub later : Order → List (List ℕ × List ℕ) → Order
later o more = record o { settled = o.settled ++ map Joined more }

-- the files that were marked, and those of which no write and no close has acted since
pub record Seen : Type 0 where
  pub files : List ℕ
  pub live : ℕ → Bool

abbrev pub seen_after : PlainWorld → Event → Seen → Seen
seen_after w e seen = record { files = seen.files ++ marked_files (e ∷ []); live = unwritten_after w e seen.live }

abbrev pub seen_on : PlainWorld → List Event → Seen → Seen
seen_on w es seen = record { files = seen.files ++ marked_files es; live = unwritten_on w es seen.live }

-- whether frames count that say of a file that it becomes dirty: not of one that was marked
abbrev pub counts : Seen → ℕ → Bool
counts seen f = not (is_among seen.files f)

-- however many files join now, the world comes to what its doings do, but that some marked files are dirty
pub record IsKept (given : List (List ℕ × List ℕ)) (w : PlainWorld) (o : Order) (seen : Seen) : Type 0 where
  pub order : IsInOrder w
  pub bound : (f : ℕ) → seen.live f ≡ true → is_among seen.files f ≡ true
  pub marks : (f : ℕ) → MarksGuarded (counts seen f) f (mesgs w.down)
  pub limits : AreGiven given
  pub fits : AreGiven (files_in (in_order o))
  pub comes : (more : List (List ℕ × List ℕ)) → AreGiven more → Differs seen.live (outlook (with_joined w more)) (carried_through given (in_order (later o more)))

-- as it is
pub comes-now : (given : List (List ℕ × List ℕ)) (w : PlainWorld) (o : Order) (seen : Seen) → IsKept given w o seen → Differs seen.live (outlook w) (carried_through given (in_order o))
comes-now given w o seen k =
    subst (λ (h : PlainHost). Differs seen.live (come_to h w.term w.up (mesgs w.down)) (carried_through given (in_order o))) (nothing_more w.host)
    (subst (λ (ds : List Doing). Differs seen.live (outlook (with_joined w [])) (carried_through given (ds ++ map Did o.since))) (append-nil o.settled) (k.comes [] tt))

-- the files of a list in order
files-of : (o : Order) → files_in (in_order o) ≡ files_in o.settled
files-of o = files-append o.settled (map Did o.since) ∙ ap (λ (l : List (List ℕ × List ℕ)). files_in o.settled ++ l) (files-did o.since) ∙ append-nil (files_in o.settled)

files-joined : (more : List (List ℕ × List ℕ)) → files_in (map Joined more) ≡ more
files-joined [] = refl
files-joined (x ∷ more) = ap (λ (l : List (List ℕ × List ℕ)). x ∷ l) (files-joined more)

-- the editor stands as both sides do at rest, with files that join too
stands-there : (given : List (List ℕ × List ℕ)) (w : PlainWorld) (o : Order) (seen : Seen) → IsKept given w o seen → (more : List (List ℕ × List ℕ)) → AreGiven more
    → Stands (carried_through given (in_order (later o more)))
stands-there given w o seen k more few =
    reached-stands (carried_through given (in_order (later o more))) (record {
      given = given;
      doings = in_order (later o more);
      limits = k.limits;
      joins = subst AreGiven
          (ap (λ (l : List (List ℕ × List ℕ)). l ++ more) (files-of o) ∙ ap (λ (l : List (List ℕ × List ℕ)). files_in o.settled ++ l) (sym (files-joined more))
          ∙ sym (files-append o.settled (map Joined more)) ∙ sym (files-of (later o more))) (given_both (files_in (in_order o)) more k.fits few);
      is = refl;
    })

-- an act, with the event that is done or refused in it, if one is
record Steps (given : List (List ℕ × List ℕ)) (w next : PlainWorld) (o : Order) (seen : Seen) : Type 0 where
  more : List UserEvent
  kept : IsKept given next (record o { since = o.since ++ more }) (record seen { live = unwritten_after w Act seen.live })
  held : w.term.held ≡ more ++ next.term.held

-- a step in which no event acts
idles : {given : List (List ℕ × List ℕ)} {w next : PlainWorld} {o : Order} {seen : Seen} → IsKept given w o seen → IsInOrder next → ((f : ℕ) → MarksGuarded (counts seen f) f (mesgs next.down))
    → ((more : List (List ℕ × List ℕ)) → AreGiven more → outlook (with_joined w more) ≡ outlook (with_joined next more)) → IsKept given next o seen
idles {given} {w} {next} {o} {seen} k i c e = record {
  order = i;
  bound = k.bound;
  marks = c;
  limits = k.limits;
  fits = k.fits;
  comes = λ more few. subst (λ (x : PlainEditor). Differs seen.live x (carried_through given (in_order (later o more)))) (e more few) (k.comes more few);
}

-- no write or close acts in the step
and-none : (a b : Bool) → b ≡ false → (a && not b) ≡ a
and-none true b e = ap not e
and-none false b e = refl

none-acts : {given : List (List ℕ × List ℕ)} {w : PlainWorld} {o : Order} {seen : Seen} (undone : ℕ → Bool) → ((f : ℕ) → undone f ≡ false) → IsKept given w o seen
    → IsKept given w o (record seen { live = λ f. seen.live f && not (undone f) })
none-acts {given} {w} {o} {seen} undone none k = record {
  order = k.order;
  bound = λ f on. k.bound f (sym (and-none (seen.live f) (undone f) (none f)) ∙ on);
  marks = k.marks;
  limits = k.limits;
  fits = k.fits;
  comes = λ more few. let was = k.comes more few in record { marks = was.marks; fewer = λ f on. and-none (seen.live f) (undone f) (none f) ∙ was.fewer f on; alike = was.alike };
}

waits : {given : List (List ℕ × List ℕ)} {w next : PlainWorld} {o : Order} {seen : Seen} → ((f : ℕ) → is_undone w.term w.term.held f ≡ false) → IsKept given next o seen
    → next.term.held ≡ w.term.held → Steps given w next o seen
waits {given} {w} {next} {o} {seen} none k h = record {
  more = [];
  kept = none-acts (is_undone w.term w.term.held) none (subst (λ (l : List UserEvent). IsKept given next (record o { since = l }) seen) (sym (append-nil o.since)) k);
  held = sym h;
}

-- a step in which one event acts, or is refused
does : {given : List (List ℕ × List ℕ)} {w next : PlainWorld} {o : Order} {seen : Seen} (e : UserEvent) → IsKept given w o seen → IsInOrder next → ((f : ℕ) → MarksGuarded (counts seen f) f (mesgs next.down))
    → ((more : List (List ℕ × List ℕ)) → AreGiven more → outlook (with_joined next more) ≡ carried (outlook (with_joined w more)) e) → w.term.held ≡ e ∷ next.term.held
    → ((more : List (List ℕ × List ℕ)) → AreGiven more → (f : ℕ) → (first_of_checks (event_checks (outlook (with_joined w more)).term e) ≡ None → undoes f e ≡ false)
    → is_undone w.term w.term.held f ≡ false)
    → Steps given w next o seen
does {given} {w} {next} {o} {seen} e k i c q h left = record {
  more = e ∷ [];
  kept = record {
    order = i;
    bound = λ f on. k.bound f (and_parts (seen.live f) (not (is_undone w.term w.term.held f)) on).0;
    marks = c;
    limits = k.limits;
    fits = subst AreGiven (files-of o ∙ sym (files-of (record o { since = o.since ++ e ∷ [] }))) k.fits;
    comes = comes;
  };
  held = h;
}
  where
    comes : (more : List (List ℕ × List ℕ)) → AreGiven more
        → Differs (unwritten_after w Act seen.live) (outlook (with_joined next more)) (carried_through given ((o.settled ++ map Joined more) ++ map Did (o.since ++ e ∷ [])))
    comes more few =
        let first = o.settled ++ map Joined more in
        let x = outlook (with_joined w more) in
        let y = carried_through given (in_order (later o more)) in
        let was = k.comes more few in
        let next_one = carried-alike was.marks x y e (stands-come (with_more w.host (given_slots more)) w.term w.up (mesgs w.down) (k.order.joined more few)) (stands-there given w o seen k more few) was.alike in
        let there : carried y e ≡ carried_through given (first ++ map Did (o.since ++ e ∷ [])) =
        sym (done-append (first ++ map Did o.since) (Did e ∷ []) (new_editor given))
        ∙ ap (carried_through given) (append_assoc first (map Did o.since) (Did e ∷ []) ∙ ap (λ (l : List Doing). first ++ l) (sym (map-append Did o.since (e ∷ [])))) in
        subst (λ (z : PlainEditor). Differs (unwritten_after w Act seen.live) z (carried_through given (first ++ map Did (o.since ++ e ∷ [])))) (sym (q more few))
        (subst (λ (z : PlainEditor). Differs (unwritten_after w Act seen.live) (carried x e) z) there
        (record {
          marks = next_one.goes.marks;
          fewer = λ f on. and-none (seen.live f) (is_undone w.term w.term.held f) (left more few f (next_one.left f on)) ∙ was.fewer f (next_one.goes.fewer f on);
          alike = next_one.goes.alike;
        }))

-- ## The host

-- the host has taken the message
abbrev taken : PlainWorld → List Tmesg → Reply → PlainWorld
taken w ms r = record { host = r.0; term = w.term; up = ms; down = w.down ++ stamped r.0.taken r.1 }

record HostTakes (w next : PlainWorld) : Type 0 where
  message : Tmesg
  others : List Tmesg
  is_up : w.up ≡ message ∷ others
  goes : HostGoes w.host w.term message others (mesgs w.down)
  is : next ≡ taken w others goes.reply

host-took : (w next : PlainWorld) → IsInOrder w → (u : List Tmesg) → w.up ≡ u → host_takes w u ≡ Some next → HostTakes w next
host-took w next i [] eu s = absurd (grind (arith, s))
host-took w next i (m ∷ ms) eu s = by (answer w.host m) refl s
  where
    goes : HostGoes w.host w.term m ms (mesgs w.down)
    goes = host_goes w.host w.term m ms (mesgs w.down) (subst (λ (l : List Tmesg). InOrder w.host w.term l (mesgs w.down)) eu i.ordered)

    by : (a : Result (PlainHost × List HFrame) HostFault) → answer w.host m ≡ a → after_answer (record w { up = ms }) a ≡ Some next → HostTakes w next
    by (Err why) q e = absurd (grind (arith, e))
    by (Ok x) q e = record {
      message = m;
      others = ms;
      is_up = eu;
      goes = goes;
      is = sym (same_Some _ _ e) ∙ ap (λ (y : PlainHost × List HFrame). record w { host = y.0; up = ms; down = w.down ++ y.1 }) (answer_gives w.host m goes.reply x goes.answers_it q);
    }

module _ (given : List (List ℕ × List ℕ)) (w : PlainWorld) (m : Tmesg) (ms : List Tmesg) (goes : HostGoes w.host w.term m ms (mesgs w.down)) (o : Order) (seen : Seen) (k : IsKept given w o seen) (is_up : w.up ≡ m ∷ ms)
    (i : IsInOrder (taken w ms goes.reply)) where
  abbrev r : Reply
  r = goes.reply

  abbrev down : List Hmesg
  down = mesgs w.down

  took-frames : mesgs (w.down ++ stamped goes.reply.0.taken goes.reply.1) ≡ mesgs w.down ++ goes.reply.1
  took-frames = map-append (λ (f : HFrame). f.msg) w.down (stamped r.0.taken r.1) ∙ ap (λ (fs : List Hmesg). down ++ fs) (mesgs_stamped r.0.taken r.1)

  took-marks : (f : ℕ) → MarksGuarded (counts seen f) f (mesgs (taken w ms goes.reply).down)
  took-marks f =
      let c = counts seen f in subst (MarksGuarded c f) (sym took-frames) (marks-both c f down r.1 (k.marks f) (marks-less c f r.1 (marks-reply_of f w.host m r goes.answers_it)))

  -- a message that doesn't hear of files
  took-deaf : is_heard w.host m ≡ false → IsKept given (taken w ms goes.reply) o seen
  took-deaf e = idles k i took-marks same
    where
      same : (more : List (List ℕ × List ℕ)) → AreGiven more → outlook (with_joined w more) ≡ outlook (with_joined (taken w ms goes.reply) more)
      same more few =
          let us = given_slots more in
          let wide = with_more w.host us in
          let now = deaf_reply w.host m us r k.order.given (unheard_is w.host m e) goes.answers_it in
          ap (λ (l : List Tmesg). come_to wide w.term l down) is_up
          ∙ host-takes wide w.term m ms down (with_more r.0 us, r.1) now (subst (InOrder (with_more r.0 us) w.term ms) took-frames (i.joined more few))
          ∙ sym (ap (come_to (with_more r.0 us) w.term ms) took-frames)

  -- one that does: no other is up, so files may join after all that was done
  took-heard : is_heard w.host m ≡ true → IsKept given (taken w ms goes.reply) (record { settled = in_order o; since = [] }) seen
  took-heard e = record {
    order = i;
    bound = k.bound;
    marks = took-marks;
    limits = k.limits;
    fits = subst (λ (ds : List Doing). AreGiven (files_in ds)) (sym (append-nil (in_order o))) k.fits;
    comes = comes;
  }
    where
      after : List Hmesg
      after = down ++ r.1

      frees : frees_command (at_file 0 after) ≡ true
      frees = frees-behind down r.1 (heard_frees w.host m r goes.answers_it e)

      comes : (more : List (List ℕ × List ℕ)) → AreGiven more
          → Differs seen.live (outlook (with_joined (taken w ms goes.reply) more)) (carried_through given ((in_order o ++ map Joined more) ++ []))
      comes more few =
          let us = given_slots more in
          let here : outlook (with_joined (taken w ms goes.reply) more) ≡ done_on (outlook w) (map Joined more) =
          ap (come_to (with_more r.0 us) w.term ms) took-frames
          ∙ come-to-more r.0 w.term ms after goes.next more (answers_behind r.0 w.term ms after us goes.next (given_kept w.host m r k.order.given goes.answers_it) frees)
          ∙ ap (λ (editor : PlainEditor). done_on editor (map Joined more))
          (sym (host-takes w.host w.term m ms down r goes.answers_it goes.next) ∙ sym (ap (λ (l : List Tmesg). come_to w.host w.term l down) is_up)) in
          let there : done_on (carried_through given (in_order o)) (map Joined more) ≡ carried_through given ((in_order o ++ map Joined more) ++ []) =
          sym (done-append (in_order o) (map Joined more) (new_editor given)) ∙ ap (carried_through given) (sym (append-nil (in_order o ++ map Joined more))) in
          let now = comes-now given w o seen k in
          subst (λ (x : PlainEditor). Differs seen.live x (carried_through given ((in_order o ++ map Joined more) ++ []))) (sym here)
          (subst (λ (y : PlainEditor). Differs seen.live (done_on (outlook w) (map Joined more)) y) there
          (record { marks = now.marks; fewer = now.fewer; alike = joined-alike now.marks (outlook w) (carried_through given (in_order o)) more now.alike }))

host-steps : (given : List (List ℕ × List ℕ)) (w next : PlainWorld) (o : Order) (seen : Seen) → IsKept given w o seen → IsInOrder next → host_takes w w.up ≡ Some next
    → IsKept given next (order_after w HostTake next o) seen × (w.term.held ≡ next.term.held)
host-steps given w next o seen k i s = (subst (λ (b : Bool). IsKept given next (if b then record { settled = in_order o; since = [] } else o) seen) (sym (ap (hears_first w.host) t.is_up)) (by (is_heard w.host t.message) refl), ap (λ (v : PlainWorld). v.term.held) (sym t.is))
  where
    t : HostTakes w next
    t = host-took w next k.order w.up refl s

    there : IsInOrder (taken w t.others t.goes.reply)
    there = subst IsInOrder t.is i

    by : (b : Bool) → is_heard w.host t.message ≡ b → IsKept given next (if b then record { settled = in_order o; since = [] } else o) seen
    by true e = subst (λ (v : PlainWorld). IsKept given v (record { settled = in_order o; since = [] }) seen) (sym t.is) (took-heard given w t.message t.others t.goes o seen k t.is_up there e)
    by false e = subst (λ (v : PlainWorld). IsKept given v o seen) (sym t.is) (took-deaf given w t.message t.others t.goes o seen k t.is_up there e)

-- ## The terminal

take_gives : (t : PlainTerminal) (frame : HFrame) (r : Made) → take_of t frame ≡ Ok r → frame_outcome t frame.msg ≡ r
unfolding take_of
take_gives t frame r e = grind (arith, counted-result)

-- what is kept with more files at the host
order-more : (w : PlainWorld) (i : IsInOrder w) (frames : List Hmesg) → mesgs w.down ≡ frames → (more : List (List ℕ × List ℕ)) → AreGiven more
    → InOrder (with_more w.host (given_slots more)) w.term w.up frames
order-more w i frames e more few = subst (InOrder (with_more w.host (given_slots more)) w.term w.up) e (i.joined more few)

term-steps : (given : List (List ℕ × List ℕ)) (w next : PlainWorld) (o : Order) (seen : Seen) → IsKept given w o seen → IsInOrder next → (u : List HFrame) → w.down ≡ u → term_takes w u ≡ Some next
    → IsKept given next o seen × (w.term.held ≡ next.term.held)
term-steps given w next o seen k i [] eu s = absurd (grind arith)
term-steps given w next o seen k i (frame ∷ frames) eu s = by (take_of w.term frame) refl s
  where
    made : Made
    made = frame_outcome w.term frame.msg

    took : PlainWorld
    took = record { host = w.host; term = made.0; up = w.up ++ made.1; down = frames }

    before : mesgs w.down ≡ frame.msg ∷ mesgs frames
    before = ap mesgs eu

    done : IsInOrder took → IsKept given took o seen
    done i = idles k i (λ f. (subst (MarksGuarded (counts seen f) f) before (k.marks f)).1)
        (λ more few. ap (come_to (with_more w.host (given_slots more)) w.term w.up) before
        ∙ term-takes (with_more w.host (given_slots more)) w.term w.up frame.msg (mesgs frames) (order-more w k.order (frame.msg ∷ mesgs frames) before more few) (i.joined more few))

    by : (a : Result Made TermFault) → take_of w.term frame ≡ a → after_compose (record w { down = frames }) a ≡ Some next → IsKept given next o seen × (w.term.held ≡ next.term.held)
    by (Err why) q e = absurd (grind arith)
    by (Ok x) q e =
        let same = take_gives w.term frame x q in
        let is : took ≡ next = ap (λ (y : Made). record w { term = y.0; up = w.up ++ y.1; down = frames }) same ∙ same_Some _ _ e in
        subst (λ (v : PlainWorld). IsKept given v o seen × (w.term.held ≡ v.term.held)) is (done (subst IsInOrder (sym is) i), sym (frame-held w.term frame.msg))

flush-steps : (given : List (List ℕ × List ℕ)) (w next : PlainWorld) (o : Order) (seen : Seen) → IsKept given w o seen → IsInOrder next → after_compose w (flush_of w.term) ≡ Some next
    → IsKept given next o seen × (w.term.held ≡ next.term.held)
unfolding flush_of
flush-steps given w next o seen k i s = by (flush_of w.term) refl s
  where
    took : PlainWorld
    took = record w { term = (flushed w.term).0; up = w.up ++ (flushed w.term).1 }

    by : (a : Result Made TermFault) → flush_of w.term ≡ a → after_compose w a ≡ Some next → IsKept given next o seen × (w.term.held ≡ next.term.held)
    by (Err why) q e = absurd (grind arith)
    by (Ok x) q e =
        let same = counted-result (flushed w.term).0.sent (flushed w.term) x q in
        let is : took ≡ next = ap (λ (y : Made). record w { term = y.0; up = w.up ++ y.1 }) same ∙ same_Some _ _ e in
        subst (λ (v : PlainWorld). IsKept given v o seen × (w.term.held ≡ v.term.held)) is
        (idles k (subst IsInOrder (sym is) i) k.marks (λ more few. flushes (with_more w.host (given_slots more)) w.term w.up (mesgs w.down)), sym (flushed-held w.term))

-- ## An act

act-steps : (given : List (List ℕ × List ℕ)) (w next : PlainWorld) (o : Order) (seen : Seen) → IsKept given w o seen → IsInOrder next → (es : List UserEvent) → w.term.held ≡ es
    → after_act w (act_on w.term es) ≡ Some next → Steps given w next o seen
act-steps given w next o seen k i [] eh s =
    let is : record w { up = w.up ++ [] } ≡ next = same_Some _ _ s in
    let same : w ≡ next = ap (λ (l : List Tmesg). record w { up = l }) (sym (append-nil w.up)) ∙ is in
    waits (λ f. ap (λ (l : List UserEvent). is_undone w.term l f) eh) (subst (λ (v : PlainWorld). IsKept given v o seen) same k) (sym (ap (λ (v : PlainWorld). v.term.held) same))
act-steps given w next o seen k i (e ∷ es) eh s = by (first_of_checks (event_checks w.term e)) refl s
  where
    t : PlainTerminal
    t = record w.term { held = es }

    there : (more : List (List ℕ × List ℕ)) → AreGiven more → InOrder (with_more w.host (given_slots more)) t w.up (mesgs w.down)
    there more few = let x = k.order.joined more few in record { kept = x.kept; tidy = x.tidy; unsent = x.unsent }

    -- the event is held no longer
    let_loose : (h : PlainHost) → come_to h w.term w.up (mesgs w.down) ≡ come_to h t w.up (mesgs w.down)
    let_loose h = comes-alike h w.term t w.up w.up (mesgs w.down) refl refl

    made : Made
    made = event_outcome t e

    -- whether a write or a close acts
    undone_by : (v : Option Verdict) → first_of_checks (event_checks w.term e) ≡ v → (f : ℕ) → is_undone w.term w.term.held f ≡ (not (is_some v) && undoes f e)
    undone_by v q f = ap (λ (l : List UserEvent). is_undone w.term l f) eh ∙ ap (λ (x : Option Verdict). not (is_some x) && undoes f e) q

    none_undone : {why : Verdict} → first_of_checks (event_checks w.term e) ≡ Some why → (f : ℕ) → is_undone w.term w.term.held f ≡ false
    none_undone {why} q f = undone_by (Some why) q f

    -- nothing stands against the event where the world comes to
    passes : first_of_checks (event_checks w.term e) ≡ None → (more : List (List ℕ × List ℕ)) → AreGiven more → first_of_checks (event_checks (outlook (with_joined w more)).term e) ≡ None
    passes q more few =
        let h = with_more w.host (given_slots more) in
        ap (λ (x : PlainEditor). first_of_checks (event_checks x.term e)) (let_loose h ∙ come-to-is h t w.up (mesgs w.down) (there more few))
        ∙ passes-rest h t w.up (mesgs w.down) (there more few) (counts seen) k.marks e q

    by : (v : Option Verdict) → first_of_checks (event_checks w.term e) ≡ v → after_act w (decided v w.term es made) ≡ Some next → Steps given w next o seen
    by (Some Waits) q x =
        let same : w ≡ next = ap (λ (l : List Tmesg). record w { up = l }) (sym (append-nil w.up)) ∙ same_Some _ _ x in
        waits (none_undone q) (subst (λ (v : PlainWorld). IsKept given v o seen) same k) (sym (ap (λ (v : PlainWorld). v.term.held) same))
    by (Some (Refuses r)) q x =
        let is : record w { term = t } ≡ next = ap (λ (l : List Tmesg). record w { term = t; up = l }) (sym (append-nil w.up)) ∙ same_Some _ _ x in
        subst (λ (v : PlainWorld). Steps given w v o seen) is
        (does e k (subst IsInOrder (sym is) i) k.marks
        (λ more few. let h = with_more w.host (given_slots more) in refuses h t w.up (mesgs w.down) (there more few) (counts seen) k.marks e r q ∙ ap (λ (y : PlainEditor). carried y e) (sym (let_loose h))) eh
        (λ more few f n. none_undone q f))
    by None q x = go (if_countable made.0.sent (made.0, Done made.1)) refl x
      where
        took : PlainWorld
        took = record w { term = made.0; up = w.up ++ made.1 }

        go : (a : Result (PlainTerminal × Acted) TermFault) → if_countable made.0.sent (made.0, Done made.1) ≡ a → after_act w a ≡ Some next → Steps given w next o seen
        go (Err why) z y = absurd (grind arith)
        go (Ok r) z y =
            let same = counted-result made.0.sent (made.0, Done made.1) r z in
            let is : took ≡ next = ap (λ (p : PlainTerminal × Acted). record w { term = p.0; up = w.up ++ composed_by p.1 }) same ∙ same_Some _ _ y in
            let order = subst IsInOrder (sym is) i in
            subst (λ (v : PlainWorld). Steps given w v o seen) is
            (does e k order k.marks
            (λ more few. let h = with_more w.host (given_slots more) in acts h t w.up (mesgs w.down) (there more few) (counts seen) k.marks e q (order.joined more few) ∙ ap (λ (y : PlainEditor). carried y e) (sym (let_loose h)))
            (eh ∙ ap (λ (l : List UserEvent). e ∷ l) (sym (event-held t e)))
            (λ more few f n. undone_by None q f ∙ n (passes q more few)))

-- ## Every step

-- the events that are held no longer
let-go-is : (held more left : List UserEvent) → held ≡ more ++ left → take (length held - length left) held ≡ more
let-go-is held more left e =
    let count : length (more ++ left) - length left ≡ length more = omega (arith, (length-append more left)) in
    ap (λ (l : List UserEvent). take (length l - length left) l) e ∙ ap (λ (n : ℕ). take n (more ++ left)) count ∙ take-append_seam more left

-- what one step leaves
pub record Goes (given : List (List ℕ × List ℕ)) (w next : PlainWorld) (e : Event) (o p : Order) (seen : Seen) : Type 0 where
  pub kept : IsKept given next p (seen_after w e seen)
  pub said : events_in (in_order p) ++ next.term.held ≡ (events_in (in_order o) ++ w.term.held) ++ user_events (e ∷ [])
  pub joins : files_in (in_order p) ≡ files_in (in_order o) ++ joined_files (e ∷ [])

-- a step that leaves the order
goes-on : (given : List (List ℕ × List ℕ)) (w next : PlainWorld) (e : Event) (o : Order) (seen : Seen) → user_events (e ∷ []) ≡ [] → joined_files (e ∷ []) ≡ []
    → IsKept given next o (seen_after w e seen) × (w.term.held ≡ next.term.held) → Goes given w next e o o seen
goes-on given w next e o seen none nothing x = record {
  kept = x.0;
  said =
      ap (λ (l : List UserEvent). events_in (in_order o) ++ l) (sym x.1) ∙ sym (append-nil (events_in (in_order o) ++ w.term.held))
      ∙ ap (λ (l : List UserEvent). (events_in (in_order o) ++ w.term.held) ++ l) (sym none);
  joins = sym (append-nil (files_in (in_order o))) ∙ ap (λ (l : List (List ℕ × List ℕ)). files_in (in_order o) ++ l) (sym nothing);
}

-- the events and files of a list in order
events-of : (o : Order) → events_in (in_order o) ≡ events_in o.settled ++ o.since
events-of o = events-append o.settled (map Did o.since) ∙ ap (λ (l : List UserEvent). events_in o.settled ++ l) (events-did o.since)

-- a step in which no file is marked
pub unseen : {given : List (List ℕ × List ℕ)} {w : PlainWorld} {o : Order} {seen : Seen} → IsKept given w o seen → IsKept given w o (record seen { files = seen.files ++ [] })
unseen {given} {w} {o} {seen} k = subst (λ (l : List ℕ). IsKept given w o (record seen { files = l })) (sym (append-nil seen.files)) k

user-goes : (given : List (List ℕ × List ℕ)) (w next : PlainWorld) (e : UserEvent) (o : Order) (seen : Seen) → IsKept given w o seen → IsInOrder next
    → record w { term = record w.term { held = w.term.held ++ e ∷ [] } } ≡ next → Goes given w next (User e) o o seen
user-goes given w next e o seen k i is =
    let t : PlainTerminal = record w.term { held = w.term.held ++ e ∷ [] } in
    subst (λ (v : PlainWorld). Goes given w v (User e) o o seen) is
    (record {
      kept = unseen (idles k (subst IsInOrder (sym is) i) k.marks (λ more few. comes-alike (with_more w.host (given_slots more)) w.term t w.up w.up (mesgs w.down) refl refl));
      said = sym (append_assoc (events_in (in_order o)) w.term.held (e ∷ []));
      joins = sym (append-nil (files_in (in_order o)));
    })

add-goes : (given : List (List ℕ × List ℕ)) (w next : PlainWorld) (name text : List ℕ) (o : Order) (seen : Seen) → IsKept given w o seen → IsInOrder next → step_of w (Add name text) ≡ Some next
    → Goes given w next (Add name text) o (record o { settled = o.settled ++ Joined (name, text) ∷ [] }) seen
add-goes given w next name text o seen k i s = subst (λ (v : PlainWorld). Goes given w v (Add name text) o p seen) (sym j.is) (record { kept = kept; said = said; joins = joins })
  where
    j : Joins w next name text
    j = joins_step w next name text s

    p : Order
    p = record o { settled = o.settled ++ Joined (name, text) ∷ [] }

    comes : (more : List (List ℕ × List ℕ)) → AreGiven more → Differs seen.live (outlook (with_joined (joined_by w name text) more)) (carried_through given (in_order (later p more)))
    comes more few =
        subst (λ (x : PlainEditor). Differs seen.live x (carried_through given (in_order (later p more))))
        (sym (ap (λ (h : PlainHost). come_to h w.term w.up (mesgs w.down)) (one_more w.host (name, text) (given_slots more))))
        (subst (λ (y : PlainEditor). Differs seen.live (outlook (with_joined w ((name, text) ∷ more))) y)
        (ap (λ (l : List Doing). carried_through given (l ++ map Did o.since)) (sym (append_assoc o.settled (Joined (name, text) ∷ []) (map Joined more))))
        (k.comes ((name, text) ∷ more) (j.short.0, j.short.1, few)))

    fits : AreGiven (files_in (in_order p))
    fits =
        subst AreGiven
        (ap (λ (l : List (List ℕ × List ℕ)). l ++ (name, text) ∷ []) (files-of o) ∙ sym (files-append o.settled (Joined (name, text) ∷ [])) ∙ sym (files-of p))
        (given_both (files_in (in_order o)) ((name, text) ∷ []) k.fits (j.short.0, j.short.1, tt))

    kept : IsKept given (joined_by w name text) p (seen_after w (Add name text) seen)
    kept = unseen (record { order = subst IsInOrder j.is i; bound = k.bound; marks = k.marks; limits = k.limits; fits = fits; comes = comes })

    said : events_in (in_order p) ++ w.term.held ≡ (events_in (in_order o) ++ w.term.held) ++ []
    said =
        ap (λ (l : List UserEvent). l ++ w.term.held)
        (events-of p ∙ ap (λ (l : List UserEvent). l ++ o.since) (events-append o.settled (Joined (name, text) ∷ []) ∙ append-nil (events_in o.settled)) ∙ sym (events-of o))
        ∙ sym (append-nil (events_in (in_order o) ++ w.term.held))

    joins : files_in (in_order p) ≡ files_in (in_order o) ++ (name, text) ∷ []
    joins =
        files-of p ∙ files-append o.settled (Joined (name, text) ∷ []) ∙ ap (λ (l : List (List ℕ × List ℕ)). l ++ (name, text) ∷ []) (sym (files-of o))

act-goes : (given : List (List ℕ × List ℕ)) (w next : PlainWorld) (o : Order) (seen : Seen) → Steps given w next o seen
    → Goes given w next Act o (record o { since = o.since ++ let_go w next }) seen
act-goes given w next o seen x = subst (λ (l : List UserEvent). Goes given w next Act o (record o { since = o.since ++ l }) seen) (sym (let-go-is w.term.held x.more next.term.held x.held)) (record { kept = unseen x.kept; said = said; joins = joins })
  where
    p : Order
    p = record o { since = o.since ++ x.more }

    said : events_in (in_order p) ++ next.term.held ≡ (events_in (in_order o) ++ w.term.held) ++ []
    said =
        let first = events_in o.settled in
        ap (λ (l : List UserEvent). l ++ next.term.held) (events-of p ∙ sym (append_assoc first o.since x.more) ∙ ap (λ (l : List UserEvent). l ++ x.more) (sym (events-of o)))
        ∙ append_assoc (events_in (in_order o)) x.more next.term.held ∙ ap (λ (l : List UserEvent). events_in (in_order o) ++ l) (sym x.held)
        ∙ sym (append-nil (events_in (in_order o) ++ w.term.held))

    joins : files_in (in_order p) ≡ files_in (in_order o) ++ []
    joins = files-of p ∙ sym (files-of o) ∙ sym (append-nil (files_in (in_order o)))

host-goes : (given : List (List ℕ × List ℕ)) (w next : PlainWorld) (o : Order) (seen : Seen) → IsKept given next (order_after w HostTake next o) seen × (w.term.held ≡ next.term.held)
    → Goes given w next HostTake o (order_after w HostTake next o) seen
host-goes given w next o seen x = by (hears_first w.host w.up) x.0
  where
    settled : Order
    settled = record { settled = in_order o; since = [] }

    by : (b : Bool) → IsKept given next (if b then settled else o) seen → Goes given w next HostTake o (if b then settled else o) seen
    by false k = goes-on given w next HostTake o seen refl refl (unseen k, x.1)
    by true k = record {
      kept = unseen k;
      said =
          ap (λ (ds : List Doing). events_in ds ++ next.term.held) (append-nil (in_order o)) ∙ ap (λ (l : List UserEvent). events_in (in_order o) ++ l) (sym x.1)
          ∙ sym (append-nil (events_in (in_order o) ++ w.term.held));
      joins = ap files_in (append-nil (in_order o)) ∙ sym (append-nil (files_in (in_order o)));
    }

-- a file that is marked
among-last : (seen : List ℕ) (f g : ℕ) → is_among (seen ++ f ∷ []) g ≡ (is_among seen g || g == f)
among-last [] f g = by (g == f)
  where
    by : (b : Bool) → (b || false) ≡ b
    by true = refl
    by false = refl
among-last (h ∷ seen) f g = ap (λ (b : Bool). g == h || b) (among-last seen f g) ∙ assoc (g == h) (is_among seen g) (g == f)
  where
    assoc : (a b c : Bool) → (a || (b || c)) ≡ ((a || b) || c)
    assoc true b c = refl
    assoc false b c = refl

mark-goes : (given : List (List ℕ × List ℕ)) (w next : PlainWorld) (f : ℕ) (o : Order) (seen : Seen) → IsKept given w o seen → IsInOrder next → step_of w (Mark f) ≡ Some next
    → Goes given w next (Mark f) o o seen
mark-goes given w next f o seen k i s =
    subst (λ (v : PlainWorld). Goes given w v (Mark f) o o seen) (sym m.is)
    (goes-on given w (marked_by w f) (Mark f) o seen refl refl
    (record { order = subst IsInOrder m.is i; bound = bound; marks = guarded; limits = k.limits; fits = k.fits; comes = comes }, refl))
  where
    m : Marks w next f
    m = marks_step w next f s

    frames : mesgs (marked_by w f).down ≡ mesgs w.down ++ told_dirty w.host.files f
    frames =
        map-append (λ (frame : HFrame). frame.msg) w.down (stamped w.host.taken (told_dirty w.host.files f))
        ∙ ap (λ (fs : List Hmesg). mesgs w.down ++ fs) (mesgs_stamped w.host.taken (told_dirty w.host.files f))

    bound : (g : ℕ) → (seen.live g || g == f) ≡ true → is_among (seen.files ++ f ∷ []) g ≡ true
    bound g on = among-last seen.files f g ∙ by (seen.live g) refl on
      where
        last : (a b : Bool) → b ≡ true → (a || b) ≡ true
        last true b e = refl
        last false b e = e

        by : (b : Bool) → seen.live g ≡ b → (b || g == f) ≡ true → (is_among seen.files g || g == f) ≡ true
        by true q on = ap (λ (c : Bool). c || g == f) (k.bound g q)
        by false q on = last (is_among seen.files g) (g == f) on

    guarded : (g : ℕ) → MarksGuarded (counts (seen_after w (Mark f) seen) g) g (mesgs (marked_by w f).down)
    guarded g =
        subst (λ (c : Bool). MarksGuarded (not c) g (mesgs (marked_by w f).down)) (sym (among-last seen.files f g))
        (subst (MarksGuarded (not (is_among seen.files g || g == f)) g) (sym frames) (by (g == f) refl))
      where
        one : not (is_among seen.files g || true) ≡ false
        one = by (is_among seen.files g)
          where
            by : (b : Bool) → not (b || true) ≡ false
            by true = refl
            by false = refl

        same : not (is_among seen.files g || false) ≡ counts seen g
        same = by (is_among seen.files g)
          where
            by : (b : Bool) → not (b || false) ≡ not b
            by true = refl
            by false = refl

        by : (b : Bool) → (g == f) ≡ b → MarksGuarded (not (is_among seen.files g || b)) g (mesgs w.down ++ told_dirty w.host.files f)
        by true q =
            subst (λ (c : Bool). MarksGuarded c g (mesgs w.down ++ told_dirty w.host.files f)) (sym one)
            (marks-both false g (mesgs w.down) (told_dirty w.host.files f) (marks-some (counts seen g) g (mesgs w.down) (k.marks g)) (marks-idle g w.host.files f))
        by false q =
            subst (λ (c : Bool). MarksGuarded c g (mesgs w.down ++ told_dirty w.host.files f)) (sym same)
            (marks-both (counts seen g) g (mesgs w.down) (told_dirty w.host.files f) (k.marks g) (marks-less (counts seen g) g (told_dirty w.host.files f) (marks-dirty g w.host.files f q)))

    comes : (more : List (List ℕ × List ℕ)) → AreGiven more → Differs (seen_after w (Mark f) seen).live (outlook (with_joined (marked_by w f) more)) (carried_through given (in_order (later o more)))
    comes more few =
        subst (λ (x : PlainEditor). Differs (seen_after w (Mark f) seen).live x y) here
        (record {
          marks = λ g. was.marks g || now.marks g;
          fewer = λ g on. fewer g (was.marks g) refl on;
          alike = alike-then was.marks now.marks (come_to (marked wide f) w.term w.up (mesgs w.down ++ told_dirty wide.files f)) (outlook (with_joined w more)) y now.alike was.alike;
        })
      where
        us : Slots PlainFile
        us = given_slots more

        wide : PlainHost
        wide = with_more w.host us

        y : PlainEditor
        y = carried_through given (in_order (later o more))

        given_there : f < length w.host.files.slots
        given_there = slot_given w.host.files.slots f m.shown.0

        was : Differs seen.live (outlook (with_joined w more)) y
        was = k.comes more few

        now : Differs (only_at f) (come_to (marked wide f) w.term w.up (mesgs w.down ++ told_dirty wide.files f)) (come_to wide w.term w.up (mesgs w.down))
        now = marks-differ wide w.term w.up (mesgs w.down) f m.tag (shown-more w.host f us m.shown) (k.order.joined more few)

        here : come_to (marked wide f) w.term w.up (mesgs w.down ++ told_dirty wide.files f) ≡ outlook (with_joined (marked_by w f) more)
        here =
            (λ i. come_to (marked-more w.host f us given_there i) w.term w.up (mesgs w.down ++ told-more w.host f us given_there i))
            ∙ ap (come_to (with_more (marked w.host f) us) w.term w.up) (sym frames)

        fewer : (g : ℕ) (b : Bool) → was.marks g ≡ b → (was.marks g || now.marks g) ≡ true → (seen.live g || g == f) ≡ true
        fewer g true q on = ap (λ (c : Bool). c || g == f) (was.fewer g q)
        fewer g false q on = last (seen.live g) (now.fewer g (sym (ap (λ (c : Bool). c || now.marks g) q) ∙ on))
          where
            last : (a : Bool) → (g == f) ≡ true → (a || g == f) ≡ true
            last true e = refl
            last false e = e

pub step : (given : List (List ℕ × List ℕ)) (w next : PlainWorld) (o : Order) (seen : Seen) (e : Event) → IsKept given w o seen → step_of w e ≡ Some next → Goes given w next e o (order_after w e next o) seen
unfolding act_of
step given w next o seen (User e) k s = user-goes given w next e o seen k (steps_in_order w next (User e) k.order s) (same_Some _ _ s)
step given w next o seen (Add name text) k s = add-goes given w next name text o seen k (steps_in_order w next (Add name text) k.order s) s
step given w next o seen (Mark f) k s = mark-goes given w next f o seen k (steps_in_order w next (Mark f) k.order s) s
step given w next o seen Act k s = act-goes given w next o seen (act-steps given w next o seen k (steps_in_order w next Act k.order s) w.term.held refl s)
step given w next o seen Flush k s =
    let x = flush-steps given w next o seen k (steps_in_order w next Flush k.order s) s in goes-on given w next Flush o seen refl refl (unseen x.0, x.1)
step given w next o seen HostTake k s = host-goes given w next o seen (host-steps given w next o seen k (steps_in_order w next HostTake k.order s) s)
step given w next o seen TermTake k s =
    let x = term-steps given w next o seen k (steps_in_order w next TermTake k.order s) w.down refl s in goes-on given w next TermTake o seen refl refl (unseen x.0, x.1)
