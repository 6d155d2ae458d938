-- What changed in the texts of a terminal: of each, how much of it is as it was when that was asked last.
use Rattle.std.specs.Prelude.{◌≡◌, ◌⊎◌, ℕ, ◌+◌, ◌-◌, ◌≤◌, ◌≢◌, min, ◌==◌, ◌&&◌, if◌then◌else◌, List, [], ◌∷◌, ◌++◌, length, take, drop, set, replicate, slice_index_or, slice_get, Option, Some, None, option_and_then, Result, Ok, Err}
use Rattle.sam_mesg.specs.declared.hmesg.Hmesg.{Hmesg}
use Rattle.sam_mesg.specs.declared.hmesg.Hmesg.TheVariants.{Hversion, Hbindname, Hcurrent, Hnewname, Hmovname, Hgrow, Hcheck, Hunlock, Hdata, Horigin, Hunlockfile, Hsetdot, Hgrowdata, Hmoveto, Hclean, Hdirty, Hcut, Hsetpat, Hdelname, Hclose, Hsetsnarf, Hsnarflen, Hack, Hexit}
use Rattle.sam_mesg.specs.declared.hmesg.HFrame.{HFrame}
use Rattle.sam_mesg.specs.declared.tmesg.Tmesg.{Tmesg}
use Rattle.sam_rasp.specs.Rasp.{PartialText}
use Rattle.sam_term.specs.Sound.{IsSound}
use Rattle.sam_term.specs.Term.{PlainTerminal, act_of, flush_of, rasp_at, take_of, window_at}
use Rattle.sam_term.specs.declared.event.Acted.{Acted}
use Rattle.sam_term.specs.declared.event.Acted.TheVariants.{Idle, Locked, Done, Refused}
use Rattle.sam_term.specs.declared.event.UserEvent.{UserEvent}
use Rattle.sam_term.specs.declared.event.UserEvent.TheVariants.{Typed, Select, Cut, Paste, Snarf, Look, Search, Send, Dclick, Scroll, View, Load, Edit, Open, Close, Write, Work, OpenCmd, New, Exit, Check, GetSnarf, SetSnarf, Version, Flush}
use Rattle.sam_term.specs.declared.fault.TermFault.{TermFault}
use Rattle.sam_endpoint.specs.declared.changes.Change.{Change}
use Rattle.sam_endpoint.specs.declared.changes.Kept.{Kept}
use Rattle.sam_endpoint.specs.declared.changes.Touch.{Touch}

-- ## The meaning

-- the old text became the new one: some members from a place on gave way to others, and all else is as it was
pub record IsChange (old new : PartialText) (c : Change) : Type 0 where
  pub front : take c.start new ≡ take c.start old
  pub rest : drop (c.start + c.came) new ≡ drop (c.start + c.gone) old
  pub old_end : c.start + c.gone ≤ length old
  pub new_end : c.start + c.came ≤ length new

-- the last n members
abbrev pub last : ℕ → PartialText → PartialText
last n text = drop (length text - n) text

-- of the old text so much stands in the new one at its front and at its end: all of it, or two parts that don't meet
pub record IsKept (old new : PartialText) (k : Kept) : Type 0 where
  pub len : k.len ≡ length old
  pub front : take k.front new ≡ take k.front old
  pub back : last k.back new ≡ last k.back old
  pub apart : ((k.front + k.back ≤ length old) × (k.front + k.back ≤ length new))
      ⊎ ((new ≡ old) × (k.front ≡ length old) × (k.back ≡ length old))

-- ## What is kept of each file

-- of a file that was never asked for nothing is kept, as if it had been empty
abbrev pub unasked : Kept
unasked = record { front = 0; back = 0; len = 0 }

abbrev pub kept_at : List Kept → ℕ → Kept
kept_at ks tag = slice_index_or ks tag unasked

-- all of a text of n members
abbrev pub all_kept : ℕ → Kept
all_kept n = record { front = n; back = n; len = n }

-- the change to a text that has n members now
abbrev pub change_of : Kept → ℕ → Change
change_of k n = record { start = k.front; gone = k.len - (k.front + k.back); came = n - (k.front + k.back) }

-- no more than so many members at the front and at the end
abbrev pub narrowed : Kept → ℕ → ℕ → Kept
narrowed k front back = record k { front = min k.front front; back = min k.back back }

-- the text of a file was touched
abbrev pub kept_after : List Kept → Option Touch → List Kept
kept_after ks None = ks
kept_after ks (Some t) = set ks t.tag (narrowed (kept_at ks t.tag) t.front t.back)

-- it was asked of a file, whose text has n members, what changed
abbrev pub asked : List Kept → ℕ → ℕ → List Kept
asked ks tag n = set (ks ++ replicate (tag + 1 - length ks) unasked) tag (all_kept n)

-- ## What frames and events touch

-- so many members of a text of n, from p on, give way to so many others; with none on either side nothing is touched
abbrev pub edit_touch : ℕ → ℕ → ℕ → ℕ → ℕ → Option Touch
edit_touch tag n p gone came = if gone == 0 && came == 0 then None else Some (record { tag = tag; front = p; back = n - (p + gone) })

-- the whole text of a file
abbrev pub whole_touch : ℕ → Option Touch
whole_touch tag = Some (record { tag = tag; front = 0; back = 0 })

-- a frame loads runes in the place of gaps, brings or cuts some, or begins or ends a text
abbrev pub frame_touch : PlainTerminal → Hmesg → Option Touch
frame_touch t (Hversion v) = None
frame_touch t (Hbindname f) = whole_touch f
frame_touch t (Hcurrent f) = None
frame_touch t (Hnewname f) = whole_touch f
frame_touch t (Hmovname f s) = None
frame_touch t (Hgrow f p n) = edit_touch f (length (rasp_at t f)) p 0 n
frame_touch t (Hcheck f) = None
frame_touch t Hunlock = None
frame_touch t (Hdata f p s) = edit_touch f (length (rasp_at t f)) p (length s) (length s)
frame_touch t (Horigin f p) = None
frame_touch t (Hunlockfile f) = None
frame_touch t (Hsetdot f p q) = None
frame_touch t (Hgrowdata f p s) = edit_touch f (length (rasp_at t f)) p 0 (length s)
frame_touch t (Hmoveto f p) = None
frame_touch t (Hclean f) = None
frame_touch t (Hdirty f) = None
frame_touch t (Hcut f p n) = edit_touch f (length (rasp_at t f)) p n 0
frame_touch t (Hsetpat s) = None
frame_touch t (Hdelname f) = whole_touch f
frame_touch t (Hclose f) = whole_touch f
frame_touch t (Hsetsnarf s) = None
frame_touch t (Hsnarflen n) = None
frame_touch t Hack = None
frame_touch t Hexit = None

-- the dot gives way to what is typed, or to nothing; the range of an edit to its text
abbrev pub event_touch : PlainTerminal → UserEvent → Option Touch
event_touch t (Typed f s) = let d = (window_at t f).dot in edit_touch f (length (rasp_at t f)) d.0 (d.1 - d.0) (length s)
event_touch t (Select f p q) = None
event_touch t (Cut f) = let d = (window_at t f).dot in edit_touch f (length (rasp_at t f)) d.0 (d.1 - d.0) 0
event_touch t (Paste f) = let d = (window_at t f).dot in edit_touch f (length (rasp_at t f)) d.0 (d.1 - d.0) 0
event_touch t (Snarf f) = None
event_touch t (Look f) = None
event_touch t (Search f) = None
event_touch t (Send f) = None
event_touch t (Dclick f p) = None
event_touch t (Scroll f n) = None
event_touch t (View f p n) = None
event_touch t (Load f p n) = None
event_touch t (Edit f p q s) = edit_touch f (length (rasp_at t f)) p (q - p) (length s)
event_touch t (Open f) = None
event_touch t (Close f) = None
event_touch t (Write f) = None
event_touch t (Work f) = None
event_touch t OpenCmd = None
event_touch t New = None
event_touch t Exit = None
event_touch t (Check f) = None
event_touch t GetSnarf = None
event_touch t (SetSnarf s) = None
event_touch t (Version v) = None
event_touch t Flush = None

-- what the oldest event touches where it acts
abbrev pub oldest_touch : PlainTerminal → Option Touch
oldest_touch t = option_and_then (event_touch t) (slice_get t.held 0)

abbrev pub act_touch : PlainTerminal → Acted → Option Touch
act_touch t (Done ms) = oldest_touch t
act_touch t Idle = None
act_touch t Locked = None
act_touch t (Refused why) = None

-- how many members the text has that is touched
abbrev pub touched_len : PlainTerminal → Option Touch → ℕ
touched_len t None = 0
touched_len t (Some touch) = length (rasp_at t touch.tag)

-- the change of a text that is touched, of n members before and m after
abbrev pub change_by : Option Touch → ℕ → ℕ → Change
change_by None n m = record { start = 0; gone = 0; came = 0 }
change_by (Some touch) n m = change_of (narrowed (all_kept n) touch.front touch.back) m

-- the change by which one terminal became the other, where no other text is touched
abbrev pub change_between : PlainTerminal → Option Touch → PlainTerminal → Change
change_between t touch u = change_by touch (touched_len t touch) (touched_len u touch)

-- the terminal that an answer leaves
abbrev pub left_by : {A : Type 0} → PlainTerminal → Result (PlainTerminal × A) TermFault → PlainTerminal
left_by t (Ok x) = x.0
left_by t (Err why) = t

-- what is kept after the terminal took these frames
abbrev pub kept_received : PlainTerminal → List HFrame → List Kept → List Kept
kept_received t [] ks = ks
kept_received t (frame ∷ frames) ks = kept_received (left_by t (take_of t frame)) frames (kept_after ks (frame_touch t frame.msg))

-- and after this became of its oldest events
abbrev pub kept_acted : PlainTerminal → List Acted → List Kept → List Kept
kept_acted t [] ks = ks
kept_acted t (acted ∷ rest) ks = kept_acted (left_by t (act_of t)) rest (kept_after ks (act_touch t acted))

-- ## The laws

-- what is kept is the change
abbrev pub KeptTellsChange : Type 0
KeptTellsChange = (old new : PartialText) (k : Kept) → IsKept old new k → IsChange old new (change_of k (length new))

-- it stays so as the terminal takes a frame
abbrev pub FramesKeep : Type 0
FramesKeep =
    (old : PartialText) (t u : PlainTerminal) (frame : HFrame) (ms : List Tmesg) (ks : List Kept) (f : ℕ)
    → take_of t frame ≡ Ok (u, ms) → IsKept old (rasp_at t f) (kept_at ks f)
    → IsKept old (rasp_at u f) (kept_at (kept_after ks (frame_touch t frame.msg)) f)

-- and as its oldest event acts
abbrev pub ActsKeep : Type 0
ActsKeep =
    (old : PartialText) (t u : PlainTerminal) (acted : Acted) (ks : List Kept) (f : ℕ)
    → IsSound t → act_of t ≡ Ok (u, acted) → IsKept old (rasp_at t f) (kept_at ks f)
    → IsKept old (rasp_at u f) (kept_at (kept_after ks (act_touch t acted)) f)

-- and as its unsent runes are composed
abbrev pub FlushesKeep : Type 0
FlushesKeep = (t u : PlainTerminal) (ms : List Tmesg) (f : ℕ) → flush_of t ≡ Ok (u, ms) → rasp_at u f ≡ rasp_at t f

-- where it was asked all is kept, and of other files what was
abbrev pub AskingBegins : Type 0
AskingBegins =
    (ks : List Kept) (f : ℕ) (text : PartialText)
    → IsKept text text (kept_at (asked ks f (length text)) f) × ((g : ℕ) → g ≢ f → kept_at (asked ks f (length text)) g ≡ kept_at ks g)

-- what was never asked for was empty, as it were
abbrev pub UnaskedIsKept : Type 0
UnaskedIsKept = (text : PartialText) → IsKept [] text unasked
