-- The terminal and the files of the host, as the crossing of messages sees them.
use Rattle.std.specs.Prelude.{◌≡◌, ℕ, Bool, true, false, if◌then◌else◌, nat_lt, length, Option, Some, None}
use Rattle.sam_runes.specs.Slots.{Slots, slot}
use Rattle.sam_runes.specs.Checks.{first_of_checks}
use Rattle.sam_mesg.specs.declared.tmesg.Tmesg.{Tmesg}
use Rattle.sam_mesg.specs.declared.tmesg.Tmesg.TheVariants.{Tack}
use Rattle.sam_mesg.specs.declared.hmesg.Hmesg.{Hmesg}
use Rattle.sam_mesg.specs.declared.hmesg.Hmesg.TheVariants.{Hversion, Hbindname, Hcurrent, Hnewname, Hmovname, Hgrow, Hcheck, Hunlock, Hdata, Horigin, Hunlockfile, Hsetdot, Hgrowdata, Hmoveto, Hclean, Hdirty, Hcut, Hsetpat, Hdelname, Hclose, Hsetsnarf, Hsnarflen, Hack, Hexit}
use Rattle.sam_text.specs.Files.{PlainFile}
use Rattle.sam_term.specs.declared.records.Window.{Window}
use Rattle.sam_term.specs.declared.records.KnownFile.{KnownFile}
use Rattle.sam_term.specs.Term.{PlainTerminal, frame_outcome, frame_checks, took_unlockfile, wanted, sends_if}
use Rattle.sam_crossing.specs.Lens.{Slot, Unknown, Known, Open, Lens, lens, move, HFile, Absent, Hidden, Named, Opened, Gone}
use Rattle.sam_crossing.specs.Frames.{action}

abbrev pub slot_of_window : Option Window → Slot
slot_of_window None = Known
slot_of_window (Some w) = Open w.rasp w.locks

abbrev pub slot_of : Option KnownFile → Slot
slot_of None = Unknown
slot_of (Some known) = slot_of_window known.window

-- what of the terminal concerns the file g
abbrev pub view : ℕ → PlainTerminal → Lens
view g t = lens t.command_lock t.has_exited t.version (slot_of (slot t.files g))

-- a file that the host has
abbrev pub file_of : PlainFile → HFile
file_of x = if x.opened then Opened x.text else if x.announced then Named x.text else Hidden x.text

-- a slot that holds nothing: closed for good, or not given yet
abbrev pub file_of_slot : Bool → Option PlainFile → HFile
file_of_slot given (Some x) = file_of x
file_of_slot true None = Gone
file_of_slot false None = Absent

-- what of the host concerns the file g
abbrev pub file_in : Slots PlainFile → ℕ → HFile
file_in ss g = file_of_slot (nat_lt g (length ss)) (slot ss g)

-- what a frame does before anything is composed for it
abbrev pub effect : PlainTerminal → Hmesg → PlainTerminal
effect t (Hcheck f) = t
effect t (Hunlockfile f) = took_unlockfile t f
effect t Hack = t
effect t (Hversion v) = (frame_outcome t (Hversion v)).0
effect t (Hbindname f) = (frame_outcome t (Hbindname f)).0
effect t (Hcurrent f) = (frame_outcome t (Hcurrent f)).0
effect t (Hnewname f) = (frame_outcome t (Hnewname f)).0
effect t (Hmovname f s) = (frame_outcome t (Hmovname f s)).0
effect t (Hgrow f p n) = (frame_outcome t (Hgrow f p n)).0
effect t Hunlock = (frame_outcome t Hunlock).0
effect t (Hdata f p s) = (frame_outcome t (Hdata f p s)).0
effect t (Horigin f p) = (frame_outcome t (Horigin f p)).0
effect t (Hsetdot f p q) = (frame_outcome t (Hsetdot f p q)).0
effect t (Hgrowdata f p s) = (frame_outcome t (Hgrowdata f p s)).0
effect t (Hmoveto f p) = (frame_outcome t (Hmoveto f p)).0
effect t (Hclean f) = (frame_outcome t (Hclean f)).0
effect t (Hdirty f) = (frame_outcome t (Hdirty f)).0
effect t (Hcut f p n) = (frame_outcome t (Hcut f p n)).0
effect t (Hsetpat s) = (frame_outcome t (Hsetpat s)).0
effect t (Hdelname f) = (frame_outcome t (Hdelname f)).0
effect t (Hclose f) = (frame_outcome t (Hclose f)).0
effect t (Hsetsnarf s) = (frame_outcome t (Hsetsnarf s)).0
effect t (Hsnarflen n) = (frame_outcome t (Hsnarflen n)).0
effect t Hexit = (frame_outcome t Hexit).0

-- what is composed for it
abbrev pub composed_for : PlainTerminal → Hmesg → Option Tmesg
composed_for t (Hcheck f) = wanted t f
composed_for t (Hunlockfile f) = wanted (took_unlockfile t f) f
composed_for t Hack = if t.has_exited then None else Some Tack
composed_for t (Hversion v) = None
composed_for t (Hbindname f) = None
composed_for t (Hcurrent f) = None
composed_for t (Hnewname f) = None
composed_for t (Hmovname f s) = None
composed_for t (Hgrow f p n) = None
composed_for t Hunlock = None
composed_for t (Hdata f p s) = None
composed_for t (Horigin f p) = None
composed_for t (Hsetdot f p q) = None
composed_for t (Hgrowdata f p s) = None
composed_for t (Hmoveto f p) = None
composed_for t (Hclean f) = None
composed_for t (Hdirty f) = None
composed_for t (Hcut f p n) = None
composed_for t (Hsetpat s) = None
composed_for t (Hdelname f) = None
composed_for t (Hclose f) = None
composed_for t (Hsetsnarf s) = None
composed_for t (Hsnarflen n) = None
composed_for t Hexit = None

-- no lens refuses the frame
abbrev pub NoneRefuses : PlainTerminal → Hmesg → Type 0
NoneRefuses t m = (g : ℕ) → (v : Lens) × (move (action g m) (view g t) ≡ Some v)

-- nothing stands against the frame, each lens moves, and then at most one message is composed
pub record Moves (t : PlainTerminal) (m : Hmesg) : Type 0 where
  pub passes : first_of_checks (frame_checks t m) ≡ None
  pub moves : (g : ℕ) → move (action g m) (view g t) ≡ Some (view g (effect t m))
  pub composes : frame_outcome t m ≡ sends_if (composed_for t m) (effect t m)

abbrev pub TakeLaw : Type 0
TakeLaw = (t : PlainTerminal) (m : Hmesg) → NoneRefuses t m → Moves t m
