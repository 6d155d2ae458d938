-- What the terminal may compose, the host will accept, and its answer is carried after what is under way.
use Rattle.sam_crossing.proofs.Common.{◌≡◌, ℕ, ◌+◌, ◌≤◌, false, List, [], ◌∷◌, ◌++◌, length, Option, arith, Agrees, length_agrees, max_runes, PlainFiles, file_at, Tmesg, Tversion, Hmesg, PlainHost, Lens, OpenAt, Anything, file_in, at_file, AllComeToSync}
use Rattle.sam_crossing.proofs.Lenses.{IsFree, exited_of, command_of}
use Rattle.sam_crossing.proofs.Changes.{Need, Startable, CanMeet, change_by, changed, Within, IsAllowed, CanCompose}
use Rattle.sam_crossing.proofs.HostFiles.{Opens, opens_at, is_there}
use Rattle.sam_crossing.proofs.Accepting.{Ready, IsMet, Accepted, Synced}
use Rattle.sam_crossing.proofs.Runs.{no_exit, exited_after}
use Rattle.sam_crossing.proofs.AllComeToSync.{kept_free}
use Rattle.sam_crossing.proofs.FileLocks.{file_locks}
use Rattle.sam_crossing.proofs.Edits.{edits}
use Rattle.sam_crossing.proofs.Commands.{command_locks}
use Rattle.sam_crossing.proofs.Announcing.{sync_version}
use Rattle.sam_crossing.proofs.Lines.{lines}
use Rattle.sam_crossing.proofs.Steady.{steady_reply}
use Rattle.sam_crossing.proofs.Folds.{acts}

-- the host that will have handled all is not done where the terminal acts
pub not_done_ahead : (h : PlainHost) (views : ℕ → Lens) (line : List Tmesg) (down : List Hmesg) (k : AllComeToSync h views line down) → exited_of (views 0) ≡ false → command_of (views 0) ≡ false
    → k.ahead.is_done ≡ false
not_done_ahead h views line down k e c =
    let x = k.each 0 in
    let s = at_file 0 (down ++ k.frames) in
    grind (arith, x.synced, (exited_after s (views 0) x.final x.runs), (no_exit s (views 0) x.final x.runs c))

-- an open file that is free is open at the host, and agrees
record OpenBoth (P : List (Option ℕ) → Type 0) (fs : PlainFiles) (f : ℕ) : Type 0 where
  rasp : List (Option ℕ)
  opens : Opens fs f
  agrees : Agrees rasp (file_at fs f).text
  has : P rasp

-- what the terminal may compose is accepted by the host that will have handled all
accepted : (h : PlainHost) (views : ℕ → Lens) (line : List Tmesg) (down : List Hmesg) (k : AllComeToSync h views line down) (m : Tmesg) → IsAllowed (change_by m) views → CanCompose m views
    → Accepted k.ahead m
accepted h views line down k m allowed can = grind (arith, met)
  where
    at : (P : List (Option ℕ) → Type 0) (f : ℕ) → OpenAt P (views f) → OpenBoth P k.ahead.files f
    at P f o = grind (arith, (kept_free (at_file f (down ++ k.frames)) (views f) k.ahead.is_done k.ahead.version (file_in k.ahead.files.slots f) (k.each f)), (opens_at k.ahead.files f))

    met : (n : Need) → ((f : ℕ) → n ≡ Startable f → IsFree (views f)) → CanMeet n views → IsMet k.ahead n
    met n free x = grind (
      arith,
      (at Anything),
      (λ (f p q : ℕ). at (Within p q) f),
      is_there,
      kept_free,
      length_agrees,
      (λ (f p : ℕ) (s : List ℕ). at (λ r. (p ≤ length r) × (length r + length s ≤ max_runes)) f),
    )

-- every message that the crossing lets come to the host leads from synced to synced, by the host's own answer: each of these lists has
-- the lemmas of several kinds
handled : (h : PlainHost) → Ready h → (m : Tmesg) → Accepted h m → Synced h m
handled h r (Tversion v) a = sync_version h r v a
handled h r _ a = search (file_locks, edits, command_locks, lines)

-- a message that the terminal composes of its own joins what is up
pub composes : (h : PlainHost) (views : ℕ → Lens) (line : List Tmesg) (down : List Hmesg) (m : Tmesg) → AllComeToSync h views line down → exited_of (views 0) ≡ false → command_of (views 0) ≡ false
    → IsAllowed (change_by m) views → CanCompose m views → AllComeToSync h (λ g. changed (change_by m) g (views g)) (line ++ m ∷ []) down
composes h views line down m k here free allowed can =
    let d = not_done_ahead h views line down k here free in
    let ready : Ready k.ahead = record { steady = k.steady; running = d } in
    let a = accepted h views line down k m allowed can in
    acts h views line down m k d allowed (handled k.ahead ready m a) (steady_reply k.ahead m ready a (handled k.ahead ready m a))
