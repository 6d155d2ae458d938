-- Every run keeps both sides in order; so neither refuses the other, and they agree wherever nothing is under way.
use Rattle.sam_crossing.proofs.Common.{◌≡◌, ℕ, ◌+◌, ◌≤◌, Bool, true, false, not, is_some, ◌&&◌, ◌==◌, nat_le, if◌then◌else◌, refl, sym, ap, ◌∙◌, subst, same_Some, Result, List, [], ◌∷◌, ◌++◌, length, Some, None, Ok, eqb-true, arith, length-append, unwrap_or, map-append, most_count, max_runes, first_of_checks, PlainHost, given_slots, starts_sound, new_terminal, Reply, answer, stamped, HostFault, window_at, PlainTerminal, Made, flushed, frame_outcome, frame_checks, known_at, put_window, blank_window, TermFault, UserEvent, Tmesg, Hmesg}
use Rattle.std.proofs.Common.{Err}
use Rattle.sam_term.specs.Term.{act_of, flush_of, take_of}
use Rattle.sam_term.specs.declared.event.Acted.{Acted}
use Rattle.sam_mesg.specs.declared.hmesg.HFrame.{HFrame}
use Rattle.sam_runes.specs.Texts.{most_in_name}
use Rattle.sam_host.specs.Laws.{AreGiven}
use Rattle.sam_crossing.specs.Joining.{HasGiven, with_more}
use Rattle.sam_crossing.specs.World.{new_world, PlainWorld, composed_by, step_of, after_answer, host_takes, joined_by, marked_by, host_after_all, mesgs}
use Rattle.sam_crossing.specs.RunOrder.{IsInOrder, StartsInOrder, StepsInOrder, RunsInOrder, HostNeverRefuses, TerminalNeverRefuses, OnlyCountsStop, QuietMeansAgreement, FreeMeansAhead, FreeMeansOneVersion, ReachedInOrder, FreeMeansVersionAtPlace, OthersStayFree}
use Rattle.sam_crossing.specs.declared.event.Event.{Event}
use Rattle.sam_crossing.specs.declared.event.Event.TheVariants.{User, Add, Mark, Act, Flush, HostTake, TermTake}
use Rattle.sam_host.specs.declared.fault.HostFault.TheVariants as hostfault
use Rattle.sam_term.specs.declared.records.Window.{Window}
use Rattle.sam_term.specs.declared.records.KnownFile.{KnownFile}
use Rattle.sam_term.specs.declared.fault.TermFault.TheVariants as fault
use Rattle.sam_crossing.specs.Fold.{answers, reply_of}
use Rattle.sam_crossing.specs.Order.{InOrder}
use Rattle.sam_crossing.proofs.Folds.{answered}
use Rattle.sam_crossing.proofs.Passing.{passed, held_passed, free_at}
use Rattle.sam_crossing.proofs.Sending.{nothing_goes, flushed_goes}
use Rattle.sam_crossing.proofs.Acting.{event_goes}
use Rattle.sam_crossing.proofs.Receiving.{received}
use Rattle.sam_crossing.proofs.Ordered.{HostGoes, host_goes, mesgs_stamped, answer_is, free_shows, quiet_settles}
use Rattle.sam_crossing.proofs.Starting.{starts}
use Rattle.sam_crossing.proofs.MoreFiles.{new_more, given_both, nothing_more, one_more, given_kept, given_joined, host_goes_more}
use Rattle.sam_crossing.proofs.Known.{IsShown}
use Rattle.sam_crossing.proofs.Marking.{given_marked, marks_more}
use Rattle.sam_crossing.proofs.Streaming.{one_version, version_at_place}
use Rattle.sam_text.specs.Files.{file_at, has_file}
use Rattle.sam_host.specs.declared.fault.MarkFault.TheVariants as refusal
use Rattle.sam_term.proofs.TermLaws.{known-put}
pub use Rattle.sam_sides.proofs.Refusing.{refused_act, refused_flush}
use Rattle.sam_crossing.proofs.RunLaws.{run_keeps, act_is, counted-start, counted_step, answer-counts, counted-result}

-- ## The start

pub starts_in_order : StartsInOrder
starts_in_order given fit = record {
  counted = counted-start given;
  given = record { command = omega arith; work = tt; fit = (starts_sound given fit).files };
  ordered = starts given fit;
  joined = λ more few. subst (λ (h : PlainHost). InOrder h new_terminal [] []) (sym (new_more given more)) (starts (given ++ more) (given_both given more fit few));
}

-- ## An act

act_goes : (h : PlainHost) (t : PlainTerminal) (up : List Tmesg) (down : List Hmesg) (r : PlainTerminal × Acted) → InOrder h t up down → act_of t ≡ Ok r → InOrder h r.0 (up ++ composed_by r.1) down
act_goes h t up down r o e =
    act_is (λ x. InOrder h x.0 (up ++ composed_by x.1) down) t r (nothing_goes h t up down o) (nothing_goes h t up down o) (λ es why. nothing_goes h _ up down (held es))
    (λ e es c. event_goes h (record t { held = es }) up down e (held es) (held_passed t es e (passed t e c))) e
  where
    held : (es : List UserEvent) → InOrder h (record t { held = es }) up down
    held es = record { kept = o.kept; tidy = o.tidy; unsent = o.unsent }

-- ## A frame

take_goes : (h : PlainHost) (t : PlainTerminal) (up : List Tmesg) (down : List HFrame) (frame : HFrame) (frames : List HFrame) (r : Made)
    → InOrder h t up (mesgs down) → down ≡ frame ∷ frames → take_of t frame ≡ Ok r → InOrder h r.0 (up ++ r.1) (mesgs frames)
unfolding take_of
take_goes h t up down frame frames r o is e =
    grind (arith, (counted-result (frame_outcome t frame.msg).0.sent (frame_outcome t frame.msg) r), (received h t up frame.msg (mesgs frames) (rw is at o)))

-- ## A message

-- the host answers, unless its count is full
answer_full : (h : PlainHost) (m : Tmesg) (x : Reply) (why : HostFault) → reply_of h m ≡ Some x → answer h m ≡ Err why → (why ≡ hostfault.CountFull) × (h.taken ≡ most_count)
unfolding answer
answer_full h m x why a e = grind (arith, answer_is, eqb-true)

pub answer_gives : (h : PlainHost) (m : Tmesg) (x : Reply) (r : PlainHost × List HFrame) → reply_of h m ≡ Some x → answer h m ≡ Ok r → r ≡ (x.0, stamped x.0.taken x.1)
unfolding answer
answer_gives h m x r a e = grind (arith, answer_is)

-- ## Every step

flush_goes : (h : PlainHost) (t : PlainTerminal) (up : List Tmesg) (down : List Hmesg) (r : Made) → InOrder h t up down → flush_of t ≡ Ok r → InOrder h r.0 (up ++ r.1) down
unfolding flush_of
flush_goes h t up down r o e = rw (← counted-result (flushed t).0.sent (flushed t) r e) (flushed_goes h t up down o)

-- the host takes no part in the step
abbrev is_apart : Event → Bool
is_apart (User e) = true
is_apart (Add name text) = false
is_apart (Mark f) = false
is_apart Act = true
is_apart Flush = true
is_apart HostTake = false
is_apart TermTake = true

host_same : (w next : PlainWorld) (e : Event) → is_apart e ≡ true → step_of w e ≡ Some next → next.host ≡ w.host
host_same w next e apart s = grind arith

-- so what it keeps in order with one host it keeps so with any
apart_step : (w next : PlainWorld) (e : Event) (h : PlainHost) → is_apart e ≡ true → InOrder h w.term w.up (mesgs w.down) → step_of w e ≡ Some next → InOrder h next.term next.up (mesgs next.down)
apart_step w next TermTake h apart o s =
    go (λ v. InOrder h v.term v.up (mesgs v.down)) (λ frame frames r is e. take_goes h w.term w.up w.down frame frames r o is e)
  where
    go : (P : PlainWorld → Type 0)
        → ((frame : HFrame) (frames : List HFrame) (r : Made) → w.down ≡ frame ∷ frames → take_of w.term frame ≡ Ok r → P (record w { term = r.0; up = w.up ++ r.1; down = frames })) → P next
    go P takes = grind arith
apart_step w next e h apart o s = grind (arith, (act_goes h w.term w.up (mesgs w.down)), (flush_goes h w.term w.up (mesgs w.down)))

-- the host's answer
record Answers (w next : PlainWorld) : Type 0 where
  message : Tmesg
  rest : List Tmesg
  is_up : w.up ≡ message ∷ rest
  goes : HostGoes w.host w.term message rest (mesgs w.down)
  is : next ≡ record w { host = goes.reply.0; up = rest; down = w.down ++ stamped goes.reply.0.taken goes.reply.1 }

answers_step : (w next : PlainWorld) → IsInOrder w → (u : List Tmesg) → w.up ≡ u → host_takes w u ≡ Some next → Answers w next
answers_step w next i [] eu s = absurd (grind (arith, s))
answers_step w next i (m ∷ ms) eu s = by (answer w.host m) refl s
  where
    goes : HostGoes w.host w.term m ms (mesgs w.down)
    goes = host_goes w.host w.term m ms (mesgs w.down) (subst (λ (l : List Tmesg). InOrder w.host w.term l (mesgs w.down)) eu i.ordered)

    by : (a : Result (PlainHost × List HFrame) HostFault) → answer w.host m ≡ a → after_answer (record w { up = ms }) a ≡ Some next → Answers w next
    by (Err why) q e = absurd (grind (arith, e))
    by (Ok r) q e = record {
      message = m;
      rest = ms;
      is_up = eu;
      goes = goes;
      is = sym (same_Some _ _ e) ∙ ap (λ (y : PlainHost × List HFrame). record w { host = y.0; up = ms; down = w.down ++ y.1 }) (answer_gives w.host m goes.reply r goes.answers_it q);
    }

-- the file that joins
pub record Joins (w next : PlainWorld) (name text : List ℕ) : Type 0 where
  pub short : (length name ≤ most_in_name) × (length text ≤ max_runes)
  pub is : next ≡ joined_by w name text

pub joins_step : (w next : PlainWorld) (name text : List ℕ) → step_of w (Add name text) ≡ Some next → Joins w next name text
joins_step w next name text s = by _ _ _ refl refl s
  where
    by : (a b c : Bool) → nat_le (length name) most_in_name ≡ b → nat_le (length text) max_runes ≡ c → (if a && b && c then Some (joined_by w name text) else None) ≡ Some next → Joins w next name text
    by true true true e f s = record { short = (grind (arith, e), grind (arith, f)); is = sym (same_Some _ _ s) }
    by a b c e f s = absurd (grind (arith, s))

-- the file that is marked
pub record Marks (w next : PlainWorld) (f : ℕ) : Type 0 where
  pub tag : (f == 0) ≡ false
  pub shown : IsShown w.host.files f
  pub is : next ≡ marked_by w f

pub marks_step : (w next : PlainWorld) (f : ℕ) → step_of w (Mark f) ≡ Some next → Marks w next f
marks_step w next f s = by _ _ _ refl refl refl s
  where
    by : (a b c : Bool) → has_file w.host.files f ≡ a → (f == 0) ≡ b → (file_at w.host.files f).announced ≡ c
        → (if not (is_some (first_of_checks ((not a, refusal.NoFile) ∷ (b, refusal.CommandFile) ∷ (not c, refusal.NotAnnounced) ∷ []))) then Some (marked_by w f) else None) ≡ Some next → Marks w next f
    by true false true p q r s = record { tag = q; shown = (p, r); is = sym (same_Some _ _ s) }
    by a b c p q r s = absurd (grind (arith, s))

given_step : (w next : PlainWorld) (e : Event) → IsInOrder w → step_of w e ≡ Some next → HasGiven next.host.files
given_step w next (Add name text) i s =
    let j = joins_step w next name text s in subst (λ (v : PlainWorld). HasGiven v.host.files) (sym j.is) (given_joined w.host (name, text) j.short.1 i.given)
given_step w next (Mark f) i s =
    let m = marks_step w next f s in subst (λ (v : PlainWorld). HasGiven v.host.files) (sym m.is) (given_marked w.host f m.shown i.given)
given_step w next HostTake i s =
    let a = answers_step w next i w.up refl s in
    subst (λ (v : PlainWorld). HasGiven v.host.files) (sym a.is) (given_kept w.host a.message a.goes.reply i.given a.goes.answers_it)
given_step w next e i s = subst (λ (h : PlainHost). HasGiven h.files) (sym (host_same w next e refl s)) i.given

-- with more files, too
joined_step : (w next : PlainWorld) (e : Event) → IsInOrder w → step_of w e ≡ Some next → (more : List (List ℕ × List ℕ)) → AreGiven more
    → InOrder (with_more next.host (given_slots more)) next.term next.up (mesgs next.down)
joined_step w next (Add name text) i s more few =
    let j = joins_step w next name text s in
    subst (λ (v : PlainWorld). InOrder (with_more v.host (given_slots more)) v.term v.up (mesgs v.down)) (sym j.is)
    (subst (λ (h : PlainHost). InOrder h w.term w.up (mesgs w.down)) (sym (one_more w.host (name, text) (given_slots more))) (i.joined ((name, text) ∷ more) (j.short.0, j.short.1, few)))
joined_step w next (Mark f) i s more few =
    let m = marks_step w next f s in
    subst (λ (v : PlainWorld). InOrder (with_more v.host (given_slots more)) v.term v.up (mesgs v.down)) (sym m.is)
    (rw (map-append, mesgs_stamped) (marks_more w.host w.term w.up (mesgs w.down) f (given_slots more) m.tag m.shown (i.joined more few)))
joined_step w next HostTake i s more few =
    let a = answers_step w next i w.up refl s in
    let wide = host_goes_more w.host w.term a.message a.rest (mesgs w.down) a.goes more few i.given
    (subst (λ (l : List Tmesg). InOrder (with_more w.host (given_slots more)) w.term l (mesgs w.down)) a.is_up (i.joined more few)) in
    subst (λ (v : PlainWorld). InOrder (with_more v.host (given_slots more)) v.term v.up (mesgs v.down)) (sym a.is) (rw (map-append, mesgs_stamped) wide)
joined_step w next e i s more few =
    subst (λ (h : PlainHost). InOrder (with_more h (given_slots more)) next.term next.up (mesgs next.down)) (sym (host_same w next e refl s))
    (apart_step w next e (with_more w.host (given_slots more)) refl (i.joined more few) s)

pub steps_in_order : StepsInOrder
steps_in_order w next e i s = record {
  counted = counted_step w e next i.counted s;
  given = given_step w next e i s;
  ordered = subst (λ (h : PlainHost). InOrder h next.term next.up (mesgs next.down)) (nothing_more next.host) (joined_step w next e i s [] tt);
  joined = joined_step w next e i s;
}

pub runs_in_order : RunsInOrder
runs_in_order w last es i s = run_keeps IsInOrder (λ v e next c q. steps_in_order v next e c q) w es last i s

pub reached_in_order : ReachedInOrder
reached_in_order given w fit r = runs_in_order (new_world given) w r.0 (starts_in_order given fit) r.1

-- ## No refusal

pub host_never_refuses : HostNeverRefuses
host_never_refuses w m ms why i e a =
    let g : HostGoes w.host w.term m ms (mesgs w.down) = host_goes w.host w.term m ms (mesgs w.down) (rw e at i.ordered) in
    answer_full w.host m g.reply why g.answers_it a

refused_take : (t : PlainTerminal) (frame : HFrame) (why : TermFault) → frame.seen ≤ t.sent → first_of_checks (frame_checks t frame.msg) ≡ None → take_of t frame ≡ Err why → why ≡ fault.CountFull
unfolding take_of
refused_take t frame why seen passes e = grind arith

pub terminal_never_refuses : TerminalNeverRefuses
terminal_never_refuses w frame frames why i e a = grind (arith, (refused_take w.term frame why), (received w.host w.term w.up frame.msg (mesgs frames)))

pub only_counts_stop : OnlyCountsStop
only_counts_stop t why = (refused_act t why, refused_flush t why)

-- ## Agreement

pub quiet_means_agreement : QuietMeansAgreement
quiet_means_agreement w i q = grind (arith, (quiet_settles w.host w.term))

-- the host that will have handled all, as the world's own definition has it
after_all : (ms : List Tmesg) (h : PlainHost) (r : Reply) → answers h ms ≡ Some r → h.taken + length ms ≤ most_count → host_after_all h ms ≡ r.0
after_all [] h r e l = grind arith
after_all (m ∷ ms) h r e l =
    let t = answered h m ms r e in
    let room : (h.taken == most_count) ≡ false = grind (arith, eqb-true) in
    let now = answer_is h m t.first t.now room in
    let count = answer-counts h m (t.first.0, stamped t.first.0.taken t.first.1) now in
    grind (arith, (after_all ms t.first.0 t.rest t.later))

pub free_means_ahead : FreeMeansAhead
free_means_ahead w f i room unlocked = grind (arith, length-append, after_all, (free_shows w.host w.term w.up (mesgs w.down) i.ordered f), free_at)

pub free_means_one_version : FreeMeansOneVersion
free_means_one_version w i c = one_version w.host w.term w.up (mesgs w.down) i.ordered c

pub version_at_its_place : FreeMeansVersionAtPlace
version_at_its_place w i c e = version_at_place w.host w.term w.up (mesgs w.down) i.ordered c e

-- ## Other files go on

other_window : (t : PlainTerminal) (f : ℕ) (x : Window) (g : ℕ) → (f == g) ≡ false → window_at (put_window t f x) g ≡ window_at t g
other_window t f x g e = grind (arith, (known-put (λ (k : KnownFile). unwrap_or k.window blank_window) t f (record (known_at t f) { window = Some x }) g))

pub others_stay_free : OthersStayFree
others_stay_free t m f g l e = grind (arith, other_window)
