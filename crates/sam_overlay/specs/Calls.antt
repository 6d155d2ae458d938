-- An overlay, and what its calls do.
use Rattle.std.specs.Prelude.{◌≡◌, ◌≢◌, ℕ, ◌+◌, ◌-◌, ◌^◌, ◌<◌, ◌≤◌, Bool, true, false, not, ◌&&◌, ◌||◌, ◌==◌, nat_lt, List, [], ◌∷◌, length, take, drop, Option, Some, None, is_some, option_map, Result, Ok, Err}
use Rattle.sam_runes.specs.Checks.{Checks}
use Rattle.sam_runes.specs.Slots.{Slots, slot}
use Rattle.sam_runes.specs.Texts.{is_empty, max_runes}
use Rattle.sam_runes.specs.declared.edit.Edit.{Edit}
use Rattle.sam_rasp.specs.Rasp.{first_gaps}
use Rattle.sam_pending.specs.Cells.{PartialText, Cell, Change, IsMade, shown_of, text_at}
use Rattle.sam_pending.specs.Groups.{IsPutUpTo}
use Rattle.sam_pending.specs.Layers.{Layer, next_edit, next_made, rasp_length, waiting_length}
use Rattle.sam_pending.specs.declared.fault.PendingFault.{PendingFault}
use Rattle.sam_pending.specs.declared.fault.PendingFault.TheVariants as failed
use Rattle.sam_pending.specs.declared.told.Dropped.{Dropped}
use Rattle.sam_term.specs.Term.{PlainTerminal, is_known, is_open, rasp_at, window_at}
use Rattle.sam_term.specs.declared.event.UserEvent.{UserEvent}
use Rattle.sam_endpoint.specs.TermEndpoints.{PlainTermEndpoint, IsDone, new_term_endpoint}
use Rattle.sam_endpoint.specs.TermStepping.{BringsEvent, BringsIn}
use Rattle.sam_endpoint.specs.declared.fault.TermStop.{TermStop}
use Rattle.sam_endpoint.specs.declared.step.BringFault.{BringFault}
use Rattle.sam_endpoint.specs.declared.step.BringFault.TheVariants as bring
use Rattle.sam_overlay.specs.Effects.{cells_after}
use Rattle.sam_overlay.specs.Outcomes.{LacksRoom, LayerDrops, has_edit}
use Rattle.sam_overlay.specs.Overlays.{AreOver, AreRequests, IsPutting, cells_of_file, edit_event, is_received, step_effect}
use Rattle.sam_overlay.specs.Requests.{concerns}
use Rattle.sam_overlay.specs.declared.fault.ReplaceFault.{ReplaceFault}
use Rattle.sam_overlay.specs.declared.fault.ReplaceFault.TheVariants as refuses
use Rattle.sam_overlay.specs.declared.fault.PutFault.{PutFault}
use Rattle.sam_overlay.specs.declared.fault.PutFault.TheVariants as unput
use Rattle.sam_overlay.specs.declared.shown_change.Put.{Put}
use Rattle.sam_overlay.specs.declared.shown_change.Put.TheVariants as put
use Rattle.sam_overlay.specs.declared.overlay.Overlay.TheInside.{Inside}
use Rattle.sam_overlay.specs.declared.shown_change.OverlayStep.{OverlayStep}

pub record PlainOverlay : Type 0 where
  pub end : PlainTermEndpoint
  pub layers : Slots Layer  -- what waits over the rasp of each file, by tag
  pub putting : Option ℕ  -- the file whose next edit was put and has not acted yet
  pub limit : Option ℕ  -- of that edit, the newest group of which it could be

-- the overlay as contracts see it
abbrev pub seen : Inside → PlainOverlay
seen a = record { end = a.end; layers = a.layers; putting = a.putting; limit = a.limit }

abbrev pub new_overlay : PlainOverlay
new_overlay = record { end = new_term_endpoint; layers = []; putting = None; limit = None }

-- the cells of a file: its rasp, with what waits over it
abbrev pub cells_at : PlainOverlay → ℕ → List Cell
cells_at o f = cells_of_file o.end.term o.layers f

-- what is shown of it
abbrev pub shown_at : PlainOverlay → ℕ → PartialText
shown_at o f = shown_of (cells_at o f)

-- these members, one at least, stand in the text from that place on
abbrev pub IsShownFrom : ℕ → PartialText → PartialText → Type 0
IsShownFrom place text found = (0 < length found) × (take (length found) (drop place text) ≡ found)

-- how many members stand before the first gap
abbrev pub gap_in : PartialText → Option ℕ
gap_in text = option_map (λ gaps. gaps.0) (first_gaps text)

-- the first place from that one on whose rune is not loaded
abbrev pub gap_from : ℕ → PartialText → Option ℕ
gap_from place text = option_map (λ n. place + n) (gap_in (drop place text))

-- an edit waits over the file
abbrev pub has_edit_at : PlainOverlay → ℕ → Bool
has_edit_at o f = has_edit (slot o.layers f)

-- requests alone are held, or the edit that was put
abbrev pub HoldsOnly : PlainTermEndpoint → Slots Layer → Option ℕ → Option ℕ → Type 0
HoldsOnly e ls m None = AreRequests e.term.held
HoldsOnly e ls m (Some f) = IsPutting e ls m f

-- what is true of each overlay
pub record IsSound (o : PlainOverlay) : Type 0 where
  pub over : AreOver o.end.term o.layers
  pub command : slot o.layers 0 ≡ None
  pub holds : HoldsOnly o.end o.layers o.limit o.putting

-- ## The host's stream, and requests

-- what waits, and what was put, is as before
abbrev pub Keeps : PlainOverlay → PlainOverlay → Type 0
Keeps o n = (n.layers ≡ o.layers) × (n.putting ≡ o.putting) × (n.limit ≡ o.limit)

-- an edit that was put has to act first
abbrev pub IsNotNow : PlainTermEndpoint → BringFault TermStop → Type 0
IsNotNow e (bring.Stopped why) = e.stop ≡ Some why
IsNotNow e bring.Waiting = e.stop ≡ None
IsNotNow e bring.CountFull = ⊥
IsNotNow e bring.OutOfMemory = ⊥

abbrev pub Refuses : PlainOverlay → Result (Unit {0}) (BringFault TermStop) → PlainOverlay → Type 0
Refuses o (Err why) n = IsNotNow o.end why × (n ≡ o)
Refuses o (Ok done) n = ⊥

-- the end takes the piece, unless an edit that was put has to act first
abbrev pub Brings : PlainOverlay → List ℕ → Result (Unit {0}) (BringFault TermStop) → PlainOverlay → Type 0
Brings o piece result n = When o.putting
  where
    When : Option ℕ → Type 0
    When None = BringsIn o.end piece result n.end × Keeps o n
    When (Some f) = Refuses o result n

-- the end holds the request, unless an edit that was put has to act first
abbrev pub Asks : PlainOverlay → UserEvent → Result (Unit {0}) (BringFault TermStop) → PlainOverlay → Type 0
Asks o event result n = When o.putting
  where
    When : Option ℕ → Type 0
    When None = BringsEvent o.end event result n.end × Keeps o n
    When (Some f) = Refuses o result n

-- ## Steps

-- the cells of each file go as the frame says that was received (those of the command file, over which nothing waits, also as its events
-- say); or one edit of what waits came to the rasp of the file for which it was
-- put, and by it nothing that is shown moves
abbrev pub CellsGo : PlainOverlay → OverlayStep → PlainOverlay → Type 0
CellsGo o x n = When o.putting
  where
    When : Option ℕ → Type 0
    When None = (f : ℕ) → (f ≡ 0 → is_received x.step ≡ true) → cells_at n f ≡ cells_after (step_effect o.end x.step f) (cells_at o f)
    When (Some g) =
        (e : Change) × IsMade (cells_at o g) e (cells_at n g) × ((f : ℕ) → f ≢ g → cells_at n f ≡ cells_at o f)

-- the edit that was put is of the groups up to its limit: the text that a request of the group at the limit, or of a later one, comes to
-- stays
abbrev pub KeepsTexts : PlainOverlay → PlainOverlay → Type 0
KeepsTexts o n =
    (f g h k : ℕ) → o.putting ≡ Some f → o.limit ≡ Some g → g ≤ h → text_at h (cells_at n k) ≡ text_at h (cells_at o k)

-- ## What the user does

-- how many runes wait
abbrev pub waiting_in : Option Layer → ℕ
waiting_in None = 0
waiting_in (Some l) = waiting_length l

abbrev pub waiting_at : PlainOverlay → ℕ → ℕ
waiting_at o f = waiting_in (slot o.layers f)

-- what stands against an edit, in its order
abbrev pub replace_checks : PlainOverlay → ℕ → ℕ → ℕ → List ℕ → Checks ReplaceFault
replace_checks o f p q s =
    (o.end.term.has_exited, refuses.Exited)
    ∷ (is_some o.end.stop, refuses.Stopped)
    ∷ (not (is_known o.end.term f), refuses.NoFile)
    ∷ (f == 0, refuses.CommandFile)
    ∷ (not (is_open o.end.term f), refuses.NotOpen)
    ∷ (nat_lt q p || nat_lt (length (shown_at o f)) q, refuses.BadPosition)
    ∷ (not (is_empty s) && nat_lt max_runes (length (rasp_at o.end.term f) + waiting_at o f + length s), refuses.TooLong)
    ∷ []

-- ## Edits that waited are put

-- an edit of the file can act at once: the end has nothing else to do, and no lock holds the user out
abbrev pub is_free : PlainTerminal → ℕ → Bool
is_free t f = not t.has_exited && not t.command_lock && is_open t f && not (f == 0) && ((window_at t f).locks == 0)

pub record IsFree (e : PlainTermEndpoint) (f : ℕ) : Type 0 where
  pub going : e.stop ≡ None
  pub done : IsDone e
  pub none_held : e.term.held ≡ []
  pub free : is_free e.term f ≡ true

-- the end has nothing else to do
pub record IsIdle (o : PlainOverlay) : Type 0 where
  pub putting : o.putting ≡ None
  pub going : o.end.stop ≡ None
  pub done : IsDone o.end
  pub none_held : o.end.term.held ≡ []

-- of file f no edit up to group g is left to put, and no lock holds the user out of it
pub record IsReady (o : PlainOverlay) (f g : ℕ) : Type 0 where
  pub clear : IsPutUpTo g (cells_at o f)
  pub free : (o.end.term.command_lock || nat_lt 0 (window_at o.end.term f).locks) ≡ false

-- an event that stands behind the edits up to group g can act at once: the end has nothing else to do, and the files that it concerns are
-- ready
pub record CanAct (o : PlainOverlay) (event : UserEvent) (g : ℕ) : Type 0 where
  pub idle : IsIdle o
  pub unlocked : o.end.term.command_lock ≡ false
  pub ready : (f : ℕ) → f < 2 ^ 16 → concerns event f ≡ true → IsReady o f g

-- the rasp of each file that an event concerns is the text that a request of group g comes to
abbrev pub FindsText : PlainOverlay → UserEvent → ℕ → Type 0
FindsText o event g = (f : ℕ) → f < 2 ^ 16 → concerns event f ≡ true → rasp_at o.end.term f ≡ text_at g (cells_at o f)

-- edits wait over file f, and none is left to put of the groups up to the limit: all of them stand behind it
abbrev pub IsBehind : Option ℕ → PlainOverlay → ℕ → Type 0
IsBehind None o f = ⊥
IsBehind (Some g) o f = (has_edit_at o f ≡ true) × IsPutUpTo g (cells_at o f)

-- what to put an edit that waits over file f, of the groups up to a limit, leads to: nothing waits over it; or an edit can't act at once,
-- or what waits stands behind the limit; or one can, and the next edit was put, alone, and the next step has it act; or why it isn't, and
-- all is as before
abbrev pub PutsUpTo : Option ℕ → PlainOverlay → ℕ → Result Put PutFault → PlainOverlay → Type 0
PutsUpTo m o f (Ok put.Nothing) n =
    (has_edit_at o f ≡ false) × (n.end ≡ o.end) × (n.putting ≡ o.putting) × (slot n.layers f ≡ None)
    × ((g : ℕ) → cells_at n g ≡ cells_at o g)
PutsUpTo m o f (Ok put.NotFree) n = (n ≡ o) × ((o.putting ≡ None) → IsFree o.end f → IsBehind m o f)
PutsUpTo m o f (Ok put.Edit) n =
    IsFree o.end f × (l : Layer) × (e : Edit) × (slot o.layers f ≡ Some l) × (next_edit m l ≡ Some e)
    × BringsEvent o.end (edit_event f e) (Ok tt) n.end × (n.layers ≡ o.layers) × (n.putting ≡ Some f)
PutsUpTo m o f (Err (unput.Stopped why)) n = (o.end.stop ≡ Some why) × (n ≡ o)
PutsUpTo m o f (Err unput.TooLong) n = (l : Layer) × (slot o.layers f ≡ Some l) × (max_runes < rasp_length (next_made m l)) × (n ≡ o)
PutsUpTo m o f (Err unput.CountFull) n = (o.end.events ≡ 2 ^ 64 - 1) × (n ≡ o)
PutsUpTo m o f (Err unput.OutOfMemory) n = n ≡ o

abbrev pub Puts : PlainOverlay → ℕ → Result Put PutFault → PlainOverlay → Type 0
Puts o f result n = PutsUpTo None o f result n

-- what to take back the next runes that wait over file f, of the groups up to a limit, leads to: they went, since an edit could act at
-- once and they have no room; or all is as before, since one can't or they have
abbrev pub DropsUpTo : Option ℕ → PlainOverlay → ℕ → Result (Option Dropped) PendingFault → PlainOverlay → Type 0
DropsUpTo m o f (Ok None) n = (n ≡ o) × ((o.putting ≡ None) → IsFree o.end f → LacksRoom m (slot o.layers f) → ⊥)
DropsUpTo m o f (Ok (Some d)) n =
    (o.putting ≡ None) × IsFree o.end f × LayerDrops m (slot o.layers f) (Ok (Some d)) (slot n.layers f)
    × ((g : ℕ) → g ≢ f → slot n.layers g ≡ slot o.layers g) × (n.end ≡ o.end) × (n.putting ≡ o.putting)
DropsUpTo m o f (Err why) n = (why ≡ failed.OutOfMemory) × (n ≡ o)

abbrev pub Drops : PlainOverlay → ℕ → Result (Option Dropped) PendingFault → PlainOverlay → Type 0
Drops o f result n = DropsUpTo None o f result n

-- ## Laws

-- where nothing waits over a file its rasp is shown
abbrev pub RestsShow : Type 0
RestsShow = (o : PlainOverlay) (f : ℕ) → slot o.layers f ≡ None → shown_at o f ≡ rasp_at o.end.term f
