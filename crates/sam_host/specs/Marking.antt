-- A file that is marked as dirty although no message changed it.
use Rattle.std.specs.Prelude.{◌≡◌, ℕ, not, ◌==◌, List, [], ◌∷◌, Option, Some, None, option_to_list, Result, Ok, Err}
use Rattle.sam_runes.specs.Checks.{Checks, first_of_checks}
use Rattle.sam_text.specs.Files.{dirty_file, file_at, has_file}
use Rattle.sam_mesg.specs.declared.hmesg.HFrame.{HFrame}
use Rattle.sam_host.specs.Host.{PlainHost, stamped, told_dirty, with_file}
use Rattle.sam_host.specs.Laws.{IsSound}
use Rattle.sam_host.specs.declared.fault.MarkFault.{MarkFault}
use Rattle.sam_host.specs.declared.fault.MarkFault.TheVariants as refusal

-- what stands against marking the file f, in its order
abbrev pub mark_checks : PlainHost → ℕ → Checks MarkFault
mark_checks h f =
    (not (has_file h.files f), refusal.NoFile)
    ∷ (f == 0, refusal.CommandFile)
    ∷ (not (file_at h.files f).announced, refusal.NotAnnounced)
    ∷ []

-- the host with f dirty, and all else as it was
abbrev pub marked : PlainHost → ℕ → PlainHost
marked h f = with_file h f (dirty_file (file_at h.files f))

-- the frame for it, where f was clean. It answers no message, so it has seen those that the host has taken
abbrev pub mark_frames : PlainHost → ℕ → List HFrame
mark_frames h f = stamped h.taken (told_dirty h.files f)

-- what marking f answers, and how it leaves the host
abbrev pub Marks : PlainHost → ℕ → Result (Option HFrame) MarkFault → PlainHost → Type 0
Marks h f (Ok frame) g =
    (first_of_checks (mark_checks h f) ≡ None) × (option_to_list frame ≡ mark_frames h f) × (g ≡ marked h f)
Marks h f (Err why) g = (first_of_checks (mark_checks h f) ≡ Some why) × (g ≡ h)

-- ## The law

-- a sound host is sound after a mark
abbrev pub MarksKeepSound : Type 0
MarksKeepSound = (h : PlainHost) (f : ℕ) → IsSound h → IsSound (marked h f)
