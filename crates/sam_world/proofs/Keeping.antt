-- What is kept of every world, step by step.
use Rattle.sam_world.proofs.Common.{◌≡◌, refl, ap, ◌∙◌, ℕ, suc, Bool, true, if◌then◌else◌, None, List, [], ◌∷◌, ◌++◌, drop, Some, Ok, arith, append-nil, All, IsTrue, All-append, same_Some, PlainHost, answer, AreGiven, PlainTerminal, act_of, flush_of, take_of, UserEvent, Acted, Done, Tmesg, fits_h, HFrame, PlainWorld, new_world, composed_by, after_act, after_compose, after_answer, host_takes, term_takes, head, IsSoundWorld, User, Add, Mark, Act, Flush, HostTake, TermTake}
use Rattle.sam_term.specs.Sound.{IsSound}
use Rattle.sam_mesg.specs.TerminalKinds.{fits_t}
use Rattle.sam_term.proofs.Fits.{act_fits, flushed_fits, taken_fits}
use Rattle.sam_crossing.proofs.OrderLaws.{refused_act}
use Rattle.std.specs.Prelude.{Result, Err, OnOk, OnErr}
use Rattle.sam_text.specs.declared.fault.FilesFault.{FilesFault}
use Rattle.sam_host.specs.Host.{with_given}
use Rattle.sam_crossing.specs.Joining.{may_join}
use Rattle.sam_crossing.specs.World.{joined_by, marked_by, may_mark}
use Rattle.std.proofs.Common.{not, ◌&&◌, ◌==◌}
use Rattle.std.proofs.lemmas.List.Elements.{All-cons, All-nil}
use Rattle.sam_text.specs.Files.{file_at}
use Rattle.sam_mesg.specs.declared.hmesg.Hmesg.TheVariants.{Hdirty}
use Rattle.sam_host.specs.Host.{stamped}
unfoldable use Rattle.sam_host.specs.Host.{when}
use Rattle.sam_host.specs.Marking.{mark_frames, marked}
use Rattle.sam_world.proofs.Within.{reached_step, answered_fits}

fit_rest : {X : Type 0} (P : X → Type 0) (xs : List X) → All P xs → All P (drop 1 xs)
fit_rest P [] a = a
fit_rest P (x ∷ xs) a = λ k d l. a (suc k) d (omega (arith, l))

pub kept_start : (given : List (List ℕ × List ℕ)) → AreGiven given → IsSoundWorld (new_world given)
kept_start given limits = grind arith

pub kept_user : (w : PlainWorld) (e : UserEvent) (t : PlainTerminal)
    → IsSoundWorld w → t ≡ record w.term { held = w.term.held ++ e ∷ [] } → IsSoundWorld (record { host = w.host; term = t; up = w.up; down = w.down })
kept_user w e t k same = grind (arith, (reached_step w _ (User e) k.reached refl))

-- a file that joins, where it may
pub kept_added : (w : PlainWorld) (name text name2 text2 : List ℕ) (h : PlainHost) → IsSoundWorld w → may_join w.host name text ≡ true → name2 ≡ name → text2 ≡ text
    → h ≡ with_given w.host (name2, text2) → IsSoundWorld (record { host = h; term = w.term; up = w.up; down = w.down })
kept_added w name text name2 text2 h k may first second same =
    rw (same, first, second) (record { reached = reached_step w _ (Add name text) k.reached (ap (λ (b : Bool). if b then Some (joined_by w name text) else None) may); up = k.up; down = k.down })

-- a file that is marked, where it may be
mark_fits : (b : Bool) (n f : ℕ) → All (λ frame. IsTrue (fits_h 2 frame.msg)) (stamped n (when b (Hdirty f ∷ [])))
unfolding when
mark_fits b n f = grind (arith, All-nil, All-cons)

pub kept_marked : (w : PlainWorld) (f : ℕ) (h : PlainHost) (frames down : List HFrame) → IsSoundWorld w → may_mark w.host f ≡ true → h ≡ marked w.host f → frames ≡ mark_frames w.host f
    → down ≡ w.down ++ frames → IsSoundWorld (record { host = h; term = w.term; up = w.up; down = down })
kept_marked w f h frames down k may same are joined = rw (same, joined, are) (record {
  reached = reached_step w _ (Mark f) k.reached (ap (λ (b : Bool). if b then Some (marked_by w f) else None) may);
  up = k.up;
  down = All-append (λ frame. IsTrue (fits_h 2 frame.msg)) w.down (mark_frames w.host f) k.down (mark_fits (not (file_at w.host.files f).dirty && not (f == 0)) w.host.taken f);
})

-- what a mark of a file keeps
pub ruleset mark_facts = (kept_marked)

-- so it is where the host may have refused it, and stayed as it was
pub kept_tried : (w : PlainWorld) (name text name2 text2 : List ℕ) (h : PlainHost) (result : Result ℕ FilesFault) → IsSoundWorld w → may_join w.host name text ≡ true → name2 ≡ name → text2 ≡ text
    → OnOk result (h ≡ with_given w.host (name2, text2)) → OnErr result (h ≡ w.host) → IsSoundWorld (record { host = h; term = w.term; up = w.up; down = w.down })
kept_tried w name text name2 text2 h (Ok tag) k may first second done kept = kept_added w name text name2 text2 h k may first second done
kept_tried w name text name2 text2 h (Err why) k may first second done kept = rw kept (record { reached = k.reached; up = k.up; down = k.down })

pub kept_done : (w : PlainWorld) (t : PlainTerminal) (ms up : List Tmesg)
    → IsSoundWorld w → IsSound w.term → act_of w.term ≡ Ok (t, Done ms) → up ≡ w.up ++ ms → IsSoundWorld (record { host = w.host; term = t; up = up; down = w.down })
kept_done w t ms up k s a same = rw same (record {
  reached = reached_step w _ Act k.reached (ap (λ x. after_act w x) a);
  up = All-append (λ m. IsTrue (fits_t 2 m)) w.up ms k.up (act_fits w.term t ms s a);
  down = k.down;
})

-- an act that composed nothing
pub kept_silent : (w : PlainWorld) (t : PlainTerminal) (acted : Acted) (up : List Tmesg)
    → IsSoundWorld w → act_of w.term ≡ Ok (t, acted) → composed_by acted ≡ [] → up ≡ w.up → IsSoundWorld (record { host = w.host; term = t; up = up; down = w.down })
kept_silent w t acted up k a none same = grind (arith, append-nil, (reached_step w _ Act k.reached (ap (λ x. after_act w x) a)))

-- what an act of the oldest held event keeps, and how one is refused
pub ruleset act_facts = (kept_done, kept_silent, refused_act)

pub kept_flush : (w : PlainWorld) (t : PlainTerminal) (ms up : List Tmesg)
    → IsSoundWorld w → IsSound w.term → flush_of w.term ≡ Ok (t, ms) → up ≡ w.up ++ ms → IsSoundWorld (record { host = w.host; term = t; up = up; down = w.down })
kept_flush w t ms up k s a same = rw same (record {
  reached = reached_step w _ Flush k.reached (ap (λ x. after_compose w x) a);
  up = All-append (λ m. IsTrue (fits_t 2 m)) w.up ms k.up (flushed_fits w.term t ms s a);
  down = k.down;
})

-- the first member stands before the rest
pub first_rest : {X : Type 0} (xs : List X) (x : X) → head xs ≡ Some x → xs ≡ x ∷ drop 1 xs
first_rest xs x e = grind (arith, same_Some)

pub kept_answer : (w : PlainWorld) (h : PlainHost) (m : Tmesg) (up : List Tmesg) (frames down : List HFrame) → IsSoundWorld w → head w.up ≡ Some m
    → answer w.host m ≡ Ok (h, frames) → up ≡ drop 1 w.up → down ≡ w.down ++ frames → IsSoundWorld (record { host = h; term = w.term; up = up; down = down })
kept_answer w h m up frames down k first a rest joined = rw (rest, joined) (record {
  reached = reached_step w _ HostTake k.reached (ap (λ ms. host_takes w ms) (first_rest w.up m first) ∙ ap (λ x. after_answer (record w { up = drop 1 w.up }) x) a);
  up = fit_rest (λ m. IsTrue (fits_t 2 m)) w.up k.up;
  down = All-append (λ frame. IsTrue (fits_h 2 frame.msg)) w.down frames k.down (answered_fits w h m frames k.reached a);
})

pub kept_take : (w : PlainWorld) (t : PlainTerminal) (frame : HFrame) (ms up : List Tmesg) (down : List HFrame) → IsSoundWorld w → IsSound w.term → head w.down ≡ Some
    frame → take_of w.term frame ≡ Ok (t, ms) → up ≡ w.up ++ ms → down ≡ drop 1 w.down → IsSoundWorld (record { host = w.host; term = t; up = up; down = down })
kept_take w t frame ms up down k s first a joined rest = rw (joined, rest) (record {
  reached = reached_step w _ TermTake k.reached (ap (λ frames. term_takes w frames) (first_rest w.down frame first) ∙ ap (λ x. after_compose (record w { down = drop 1 w.down }) x) a);
  up = All-append (λ m. IsTrue (fits_t 2 m)) w.up ms k.up (taken_fits w.term t frame ms s a);
  down = fit_rest (λ frame. IsTrue (fits_h 2 frame.msg)) w.down k.down;
})
