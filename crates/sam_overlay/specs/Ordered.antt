-- An overlay whose requests stand in one order with the edits, and what its calls do.
use Rattle.std.specs.Prelude.{◌≡◌, ◌^◌, ◌-◌, ℕ, max, List, [], ◌∷◌, ◌++◌, map, Option, Some, None, Result, Ok, Err, slice_get}
use Rattle.sam_runes.specs.Checks.{Checks}
use Rattle.sam_runes.specs.Slots.{slot}
use Rattle.sam_pending.specs.Cells.{Cell, text_at}
use Rattle.sam_pending.specs.declared.fault.PendingFault.{PendingFault}
use Rattle.sam_pending.specs.declared.told.Dropped.{Dropped}
use Rattle.sam_term.specs.declared.event.UserEvent.{UserEvent}
use Rattle.sam_term.specs.declared.event.UserEvent.TheVariants as event
use Rattle.sam_endpoint.specs.TermStepping.{BringsEvent}
use Rattle.sam_endpoint.specs.declared.fault.EndpointFault.{EndpointFault}
use Rattle.sam_endpoint.specs.declared.fault.TermStop.{TermStop}
use Rattle.sam_overlay.specs.Calls.{CanAct, FindsText, Keeps, cells_at, new_overlay, replace_checks, shown_at}
use Rattle.sam_overlay.specs.Marks.{moved_by, moved_by_drop}
use Rattle.sam_overlay.specs.Outcomes.{newest_in, newest_over}
use Rattle.sam_overlay.specs.Overlays.{step_effect}
use Rattle.sam_overlay.specs.Requests.{is_closing, is_leaving, next_group, put_limit, shared_write}
use Rattle.sam_overlay.specs.declared.fault.ReplaceFault.{ReplaceFault}
use Rattle.sam_overlay.specs.declared.fault.ReplaceFault.TheVariants as refuses
use Rattle.sam_overlay.specs.declared.fault.PutFault.{PutFault}
use Rattle.sam_overlay.specs.declared.fault.PutFault.TheVariants as unput
use Rattle.sam_overlay.specs.declared.ordered.OrderedOverlay.{OrderedOverlay}
use Rattle.sam_overlay.specs.declared.request.Request.{Request}
use Rattle.sam_overlay.specs.declared.shown_change.Asked.{Asked}
use Rattle.sam_overlay.specs.declared.shown_change.Asked.TheVariants as asked
use Rattle.sam_overlay.specs.declared.shown_change.OverlayStep.{OverlayStep}
use Rattle.sam_overlay.specs.declared.shown_change.Turn.{Turn}
use Rattle.sam_overlay.specs.declared.shown_change.Turn.TheVariants as turn

-- so many requests wait at most
abbrev pub most_waiting_requests : ℕ
most_waiting_requests = 1_000

abbrev pub new_ordered : OrderedOverlay
new_ordered = record { alloc = _; overlay = new_overlay; queue = [] }

-- ## Edits

-- what stands against an edit, in its order: it is not taken behind a leave, nor behind a close of its file
abbrev pub ordered_checks : OrderedOverlay → ℕ → ℕ → ℕ → List ℕ → Checks ReplaceFault
ordered_checks o f p q s =
    (is_leaving o.queue, refuses.Exited) ∷ (is_closing o.queue f, refuses.NotOpen) ∷ replace_checks o.overlay f p q s

-- what each request that waits comes to stays
abbrev pub NoneFinds : List Request → List Cell → List Cell → Type 0
NoneFinds [] cs ds = Unit {0}
NoneFinds (r ∷ rs) cs ds = (text_at r.group ds ≡ text_at r.group cs) × NoneFinds rs cs ds

-- ## Requests

-- the group that a request closes now: no edit that waits is of a later one, and it is later than those of the requests before
abbrev pub closing_group : OrderedOverlay → ℕ
closing_group o = max (newest_over o.overlay.layers) (next_group o.queue)

-- the place among the requests of the write that an event shares, if it is a write and shares one
abbrev pub shared_with : OrderedOverlay → UserEvent → Option ℕ
shared_with o (event.Write f) = shared_write o.queue f (newest_in (slot o.overlay.layers f))
shared_with o e = None

-- the event is taken in behind the others, and comes to what is shown now of every file
pub record Joins (o : OrderedOverlay) (e : UserEvent) (n : OrderedOverlay) : Type 0 where
  pub alone : shared_with o e ≡ None
  pub taken : n ≡ record o { queue = o.queue ++ record { event = e; group = closing_group o } ∷ [] }
  pub finds : (f : ℕ) → text_at (closing_group o) (cells_at o.overlay f) ≡ shown_at o.overlay f

-- the event is a write of a file, as is the request at that place, which comes to what is shown now of the file; nothing is taken in
pub record Shares (o : OrderedOverlay) (e : UserEvent) (place : ℕ) (n : OrderedOverlay) : Type 0 where
  pub shared : shared_with o e ≡ Some place
  pub file : ℕ
  pub group : ℕ
  pub writes : e ≡ event.Write file
  pub waits : slice_get o.queue place ≡ Some (record { event = e; group = group })
  pub finds : text_at group (cells_at o.overlay file) ≡ shown_at o.overlay file
  pub same : n ≡ o

abbrev pub IsAsked : OrderedOverlay → UserEvent → Asked → OrderedOverlay → Type 0
IsAsked o e asked.New n = Joins o e n
IsAsked o e (asked.Shares place) n = Shares o e place n

-- the oldest request leaves the queue, and is the one event that the end holds
pub record Acts (o n : OrderedOverlay) : Type 0 where
  pub request : Request
  pub rest : List Request
  pub old : o.queue ≡ request ∷ rest
  pub new : n.queue ≡ rest
  pub can : CanAct o.overlay request.event request.group
  pub finds : FindsText o.overlay request.event request.group
  pub brings : BringsEvent o.overlay.end request.event (Ok tt) n.overlay.end
  pub keeps : Keeps o.overlay n.overlay

-- a request waits, and the oldest can't act yet
pub record IsNotYet (o : OrderedOverlay) : Type 0 where
  pub request : Request
  pub rest : List Request
  pub old : o.queue ≡ request ∷ rest
  pub not : CanAct o.overlay request.event request.group → ⊥

-- what to have the next request act leads to
abbrev pub ActsNext : OrderedOverlay → Result Turn PutFault → OrderedOverlay → Type 0
ActsNext o (Ok turn.Nothing) n = (o.queue ≡ []) × (n ≡ o)
ActsNext o (Ok turn.NotYet) n = IsNotYet o × (n ≡ o)
ActsNext o (Ok turn.Request) n = Acts o n
ActsNext o (Err (unput.Stopped why)) n = (o.overlay.end.stop ≡ Some why) × (n ≡ o)
ActsNext o (Err unput.TooLong) n = ⊥
ActsNext o (Err unput.CountFull) n = (o.overlay.end.events ≡ 2 ^ 64 - 1) × (n ≡ o)
ActsNext o (Err unput.OutOfMemory) n = n ≡ o

-- ## Steps

-- the requests after a step: as the host changes a text, the places move that they name in it
abbrev pub queue_after : OrderedOverlay → Result OverlayStep (EndpointFault TermStop) → List Request
queue_after o (Ok x) = map (moved_by o.overlay (step_effect o.overlay.end x.step)) o.queue
queue_after o (Err why) = o.queue

-- ## Runes that are taken back

-- the requests after runes that wait over file f are taken back, if some are: the places move that those of the file name
abbrev pub queue_after_drop : OrderedOverlay → ℕ → Result (Option Dropped) PendingFault → List Request
queue_after_drop o f (Ok None) = o.queue
queue_after_drop o f (Ok (Some d)) = map (moved_by_drop (put_limit o.queue f) o.overlay f) o.queue
queue_after_drop o f (Err why) = o.queue
