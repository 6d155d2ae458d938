-- The real sides count as the law of two sides asks, and their frames are told apart.
use Rattle.sam_apart.proofs.Common.{◌≡◌, suc, ◌≤◌, List, [], ◌∷◌, Some, Result, Ok, arith, FitsT, Tmesg, FitsH, HFrame, terminal, host, frame_of, PlainTerminal, Made, flush_of, take_of, TermFault, Acted, composed_by, Each, Counts, TermRuns, TermLog, act_of, sides, unless_refused, acted}
use Rattle.std.proofs.Common.{All}
use Rattle.std.proofs.lemmas.Option.{same_Some}
use Rattle.sam_mesg.proofs.TerminalLaws as upwards
use Rattle.sam_mesg.proofs.HostLaws as downwards
use Rattle.sam_frame.specs.Reading.{IsSound}
use Rattle.sam_host.proofs.SoundLaws.{answers_are_counted}
use Rattle.sam_sides.specs.declared.log.TermLog.TheVariants as log
use Rattle.sam_world.proofs.Carries.{PrefixFree}
use Rattle.sam_sides.specs.RealSides.{at_work, worked}
use Rattle.sam_crossing.proofs.RunLaws.{act-counts, flush-counts, take-counts}

-- ## What a step of the sides was

pub answered_as : {A E : Type 0} (r : Result A E) (x : A) → unless_refused r ≡ Some x → r ≡ Ok x
answered_as r x e = grind (arith, same_Some)

taken_past : (t : PlainTerminal) (frame : HFrame) (r : Made) → take_of t frame ≡ Ok r → frame.seen ≤ t.sent
unfolding take_of
taken_past t frame r e = grind arith

pub each_of_all : {X : Type 0} (P : X → Type 0) (xs : List X) → All P xs → Each P xs
each_of_all P [] a = tt
each_of_all P (x ∷ xs) a = (a 0 x (omega arith), each_of_all P xs (λ k d l. a (suc k) d (omega (arith, l))))

acted_as : (r : Result (PlainTerminal × Acted) TermFault) (u : PlainTerminal) (ms : List Tmesg) → acted r ≡ Some (u, ms)
    → (p : PlainTerminal × Acted) × (r ≡ Ok p) × (p.0 ≡ u) × (composed_by p.1 ≡ ms)
acted_as r u ms e = grind arith

-- ## The counts count

pub counts : Counts sides
counts = grind (
  arith,
  answers_are_counted,
  answered_as,
  each_of_all,
  acted_as,
  act-counts,
  (λ (t u : PlainTerminal) (ms : List Tmesg). flush-counts t (u, ms)),
  (λ (t u : PlainTerminal) (frame : HFrame) (ms : List Tmesg). take-counts t frame (u, ms)),
  (λ (t : PlainTerminal). answered_as (flush_of t)),
  (λ (t : PlainTerminal) (frame : HFrame). answered_as (take_of t frame)),
  taken_past,
)

-- ## The frames of both directions

pub up_sound : IsSound terminal
up_sound = record { says = upwards.frame_says; one = upwards.one_frame }

pub down_sound : IsSound host
down_sound = record { says = downwards.frame_says; one = downwards.one_frame }

pub up_free : PrefixFree (FitsT 2) (frame_of terminal)
up_free = record { free = λ a b x y p q e. (upwards.one_frame 2 a b x y p q e).0; some = λ a e. absurd (cc) }

pub down_free : PrefixFree (FitsH 2) (frame_of host)
down_free = record { free = λ a b x y p q e. (downwards.one_frame 2 a b x y p q e).0; some = λ a e. absurd (cc) }

-- ## Sides at work

-- each step of sides at work is one of the sides

did_is : (t u : PlainTerminal) (ms : List Tmesg) → at_work.act t ≡ Some (u, ms) → sides.act t ≡ Some (u, ms)
did_is t u ms e = go (act_of t) e
  where
    go : (r : Result (PlainTerminal × Acted) TermFault) → worked r ≡ Some (u, ms) → acted r ≡ Some (u, ms)
    go r e = grind arith

flushed_is : (t u : PlainTerminal) (ms : List Tmesg) → at_work.flush t ≡ Some (u, ms) → sides.flush t ≡ Some (u, ms)
flushed_is t u ms e = grind arith

pub works : (es : List TermLog) (t u : PlainTerminal) (fs : List HFrame) (ms : List Tmesg) → TermRuns at_work t es fs ms u → TermRuns sides t es fs ms u
works [] t u fs ms r = r
works (log.User e ∷ es) t u fs ms r = works es (sides.user t e) u fs ms r
works (log.Act ∷ es) t u fs ms r = (r.0, r.1, r.2, did_is t r.0 r.1 r.3, r.4, works es r.0 u fs r.2 r.5)
works (log.Flush ∷ es) t u fs ms r = (r.0, r.1, r.2, flushed_is t r.0 r.1 r.3, r.4, works es r.0 u fs r.2 r.5)
works (log.Take k ∷ es) t u fs ms r = (r.0, r.1, r.2, r.3, r.4, r.5, r.6, r.7, r.8, works es r.2 u r.1 r.4 r.9)
