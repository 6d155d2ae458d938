-- Each step but an act leaves where both sides come to.
use Rattle.sam_crossing.proofs.Common.{◌≡◌, List, ◌∷◌, ◌++◌, Option, Some, None, sym, ap, ◌∙◌, append_assoc, append-nil, Tmesg, Hmesg, PlainHost, Reply, answers, reply_of, replied_then, PlainTerminal, flushed, unsent_message, Unsent, InOrder}
use Rattle.sam_crossing.specs.Fold.{after_frames}
use Rattle.sam_crossing.proofs.Views.{unsent-flushed}
use Rattle.sam_local.specs.Local.{at_rest, all_taken, answered_with, come_to}
use Rattle.sam_local.proofs.Sights.{sight, rests}
use Rattle.sam_local.proofs.Frames.{sight-taken}
use Rattle.sam_local.proofs.Ahead.{come-to-is, sight-flushed}

-- ## Terminals of one sight

pub answered-alike : (h : PlainHost) (t u : PlainTerminal) (down : List Hmesg) (o : Option Reply) → sight t ≡ sight u
    → answered_with h t down o ≡ answered_with h u down o
answered-alike h t u down None e = rests h t u e
answered-alike h t u down (Some r) e = rests r.0 (all_taken t (down ++ r.1)) (all_taken u (down ++ r.1)) (sight-taken (down ++ r.1) t u e)

-- what is unsent may already be under way
pub comes-alike : (h : PlainHost) (t u : PlainTerminal) (up more : List Tmesg) (down : List Hmesg) → sight t ≡ sight u
    → up ++ unsent_message t.unsent ≡ more ++ unsent_message u.unsent → come_to h t up down ≡ come_to h u more down
comes-alike h t u up more down e q =
    answered-alike h t u down (answers h (up ++ unsent_message t.unsent)) e ∙ ap (λ (line : List Tmesg). answered_with h u down (answers h line)) q

-- ## Steps

pub host-takes : (h : PlainHost) (t : PlainTerminal) (m : Tmesg) (up : List Tmesg) (down : List Hmesg) (r : Reply) → reply_of h m ≡ Some r
    → InOrder r.0 t up (down ++ r.1) → come_to h t (m ∷ up) down ≡ come_to r.0 t up (down ++ r.1)
host-takes h t m up down r e n =
    let line = up ++ unsent_message t.unsent in
    ap (λ (o : Option Reply). answered_with h t down (replied_then o (λ k. answers k line))) e
    ∙ ap (λ (o : Option Reply). answered_with h t down (after_frames r.1 o)) n.kept.folds
    ∙ ap (λ (fs : List Hmesg). at_rest n.kept.ahead (all_taken t fs)) (sym (append_assoc down r.1 n.kept.frames))
    ∙ sym (come-to-is r.0 t up (down ++ r.1) n)

pub flushes : (h : PlainHost) (t : PlainTerminal) (up : List Tmesg) (down : List Hmesg)
    → come_to h t up down ≡ come_to h (flushed t).0 (up ++ (flushed t).1) down
unfolding flushed
flushes h t up down =
    comes-alike h t (flushed t).0 up (up ++ unsent_message t.unsent) down (sym (sight-flushed t))
    (sym (ap (λ (o : Option Unsent). (up ++ unsent_message t.unsent) ++ unsent_message o) (unsent-flushed t) ∙ append-nil (up ++ unsent_message t.unsent)))
