-- Both sides have one version wherever the command lock is free, and it is that of the place of the next message.
use Rattle.sam_crossing.proofs.Common.{◌≡◌, ℕ, true, false, List, [], ◌∷◌, ◌++◌, Option, Some, None, ◌⊎◌, arith, same_Some, Unsent, first_of_checks, Hmesg, PlainHost, Reply, host_checks, reply_to, reply_version, PlainTerminal, unsent_message, at_file, unlocks_command, view, answers, InOrder, Tmesg, reply_stands}
use Rattle.sam_crossing.proofs.Runs.{no_unlock, same_version}
use Rattle.sam_crossing.proofs.Versions.{unlocks-append, unlocks_behind, unlock_frames, no_changes}
use Rattle.sam_crossing.proofs.Folds.{answered}
use Rattle.sam_mesg.specs.TerminalKinds.{after_t}
use Rattle.sam_crossing.specs.StreamVersions.{version_behind}
use Rattle.sam_crossing.proofs.Composing.{not_done_ahead}

-- ## Versions

-- the version changes only with an answer that frees the command lock
version_reply : (h : PlainHost) (m : Tmesg) → first_of_checks (host_checks h m) ≡ None → ((reply_to h m).0.version ≡ h.version) ⊎ (unlocks_command (reply_to h m).1 ≡ true)
unfolding reply_version
version_reply h m e = grind (arith, unlocks_behind, reply_stands)

answers_version : (ms : List Tmesg) (h : PlainHost) (a : Reply) → answers h ms ≡ Some a → unlocks_command a.1 ≡ false → a.0.version ≡ h.version
answers_version [] h a e u = grind (arith, same_Some)
answers_version (m ∷ ms) h a e u = let t = answered h m ms a e in grind (arith, unlocks_behind, unlocks-append, version_reply, (answers_version ms t.first.0 t.rest t.later))

-- where the command lock is free the terminal has the version of the host that will have handled all
ahead_version : (h : PlainHost) (t : PlainTerminal) (up : List Tmesg) (down : List Hmesg) (o : InOrder h t up down) → t.command_lock ≡ false → t.version ≡ o.kept.ahead.version
ahead_version h t up down o c =
    let x = o.kept.each 0 in
    grind (
      arith,
      (no_unlock (at_file 0 (down ++ o.kept.frames)) (view 0 t) x.final x.runs),
      (same_version (at_file 0 (down ++ o.kept.frames)) (view 0 t) x.final x.runs),
      (no_changes 0 (down ++ o.kept.frames) o.kept.versions),
      (unlock_frames 0 (down ++ o.kept.frames)),
    )

-- and both sides have one version
pub one_version : (h : PlainHost) (t : PlainTerminal) (up : List Tmesg) (down : List Hmesg) → InOrder h t up down → t.command_lock ≡ false → t.version ≡ h.version
one_version h t up down o c =
    let k = o.kept in
    let none = no_unlock (at_file 0 (down ++ k.frames)) (view 0 t) (k.each 0).final (k.each 0).runs c in
    grind (
      arith,
      (ahead_version h t up down o c),
      (answers_version (up ++ unsent_message t.unsent) h (k.ahead, k.frames) k.folds),
      (unlocks_behind down k.frames),
      (unlock_frames 0 (down ++ k.frames)),
    )

-- ## The version at the place of the next message

-- a host that is done stays so
pub still_done : (ms : List Tmesg) (h : PlainHost) (r : Reply) → answers h ms ≡ Some r → h.is_done ≡ true → r.0.is_done ≡ true
still_done [] h r e d = grind arith
still_done (m ∷ ms) h r e d = grind (arith, (still_done ms))

folded_version : (ms : List Tmesg) (h : PlainHost) (r : Reply) → answers h ms ≡ Some r → r.0.is_done ≡ false → r.0.version ≡ version_behind h.version ms
folded_version [] h r e d = grind arith
folded_version (m ∷ ms) h r e d = grind (arith, still_done, (folded_version ms), reply_stands)

unsent_past : (up : List Tmesg) (u : Option Unsent) (v : ℕ) → version_behind v (up ++ unsent_message u) ≡ version_behind v up
unsent_past [] u v = grind arith
unsent_past (m ∷ up) u v = unsent_past up u (after_t v m)

-- where the terminal may act, its version is that of the stream at the place of its next message
pub version_at_place : (h : PlainHost) (t : PlainTerminal) (up : List Tmesg) (down : List Hmesg) → InOrder h t up down → t.command_lock ≡ false → t.has_exited ≡ false
    → t.version ≡ version_behind h.version up
version_at_place h t up down o c e = grind (arith, (ahead_version h t up down o c), (folded_version _ h _ o.kept.folds), (not_done_ahead h _ _ down o.kept e c), unsent_past)
