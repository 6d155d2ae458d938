-- Places that requests name, and where they go as the host changes the texts that they come to, and as runes are taken back.
use Rattle.std.specs.Prelude.{◌≡◌, ◌≤◌, ℕ, ◌+◌, ◌-◌, ◌^◌, ◌==◌, min, nat_lt, if◌then◌else◌, List, [], ◌∷◌, ◌++◌, length, take, drop, Option, Some, None}
use Rattle.sam_runes.specs.Slots.{slot}
use Rattle.sam_rasp.specs.Rasp.{place_after_ins}
use Rattle.sam_pending.specs.Cells.{Cell, PartialText, inserted, place_at, text_at}
use Rattle.sam_pending.specs.Groups.{place_after_removal}
use Rattle.sam_pending.specs.Layers.{Layer, runs_of}
use Rattle.sam_pending.specs.Runs.{lost_in}
use Rattle.sam_term.specs.Events.{file_of}
use Rattle.sam_term.specs.declared.event.UserEvent.{UserEvent}
use Rattle.sam_term.specs.declared.event.UserEvent.TheVariants as event
use Rattle.sam_overlay.specs.Calls.{PlainOverlay, cells_at}
use Rattle.sam_overlay.specs.Effects.{Effect, plan_of}
use Rattle.sam_overlay.specs.declared.frame_plan.Plan.{Plan}
use Rattle.sam_overlay.specs.declared.frame_plan.Plan.TheVariants as plan
use Rattle.sam_overlay.specs.declared.marks.Marks.{Marks}
use Rattle.sam_overlay.specs.declared.request.Request.{Request}

-- where place x of it goes as the rasp below these cells changes so. What comes in at the place itself stands behind it, as it does at a
-- terminal's dot. (A place is below 2^32, and each text is shorter.)
abbrev pub moved_place : ℕ → Plan → List Cell → ℕ → ℕ
moved_place g plan.Stays cs x = x
moved_place g (plan.Inserts p n) cs x = min (2 ^ 32 - 1) (place_after_ins (place_at g p cs) n x)
moved_place g (plan.Fills p n) cs x = x
moved_place g (plan.Removes p n) cs x = place_after_removal g p (p + n) x cs
moved_place g plan.Empties cs x = x

-- where place x goes that a request of group g names. Past the end of the text that the request comes to no place moves: it is one of a
-- text that is to come, as of a file that is to be opened first
abbrev pub place_after : ℕ → Plan → List Cell → ℕ → ℕ
place_after g change cs x = if nat_lt (length (text_at g cs)) x then x else moved_place g change cs x

-- the places that an event names: where a range begins and ends, or a single one twice; 0 where it names none
abbrev pub marks_of : UserEvent → Marks
marks_of (event.Select f p q) = record { p = p; q = q }
marks_of (event.Dclick f p) = record { p = p; q = p }
marks_of (event.View f p n) = record { p = p; q = p }
marks_of (event.Load f p n) = record { p = p; q = p }
marks_of e = record { p = 0; q = 0 }

-- the event with those places
abbrev pub with_marks : Marks → UserEvent → UserEvent
with_marks m (event.Select f p q) = event.Select f m.p m.q
with_marks m (event.Dclick f p) = event.Dclick f m.p
with_marks m (event.View f p n) = event.View f m.p n
with_marks m (event.Load f p n) = event.Load f m.p n
with_marks m e = e

-- where the places of a request go as each file's text changes so, if it names a file
abbrev pub file_marks : PlainOverlay → (ℕ → Effect) → Request → Option ℕ → Marks
file_marks o change r None = marks_of r.event
file_marks o change r (Some f) =
    let after = place_after r.group (plan_of (change f)) (cells_at o f) in
    record { p = after (marks_of r.event).p; q = after (marks_of r.event).q }

abbrev pub marks_after : PlainOverlay → (ℕ → Effect) → Request → Marks
marks_after o change r = file_marks o change r (file_of r.event)

abbrev pub with_request_marks : Marks → Request → Request
with_request_marks m r = record r { event = with_marks m r.event }

abbrev pub moved_by : PlainOverlay → (ℕ → Effect) → Request → Request
moved_by o change r = with_request_marks (marks_after o change r) r

-- the requests with those places, one after another
abbrev pub marked : List Marks → List Request → List Request
marked [] rs = rs
marked (m ∷ ms) [] = []
marked (m ∷ ms) (r ∷ rs) = with_request_marks m r ∷ marked ms rs

-- ## As runes are taken back

-- of the first x members of the text that a request of group g comes to, how many go as the next runes are taken back of what waits over
-- the file, of the groups up to a limit
abbrev pub lost_of : Option ℕ → ℕ → ℕ → Option Layer → ℕ
lost_of m g x None = 0
lost_of m g x (Some l) = lost_in m g x (runs_of l)

-- where place x goes that such a request names: as many to the front as go before it. Past the end of that text no place moves
abbrev pub place_after_drop : Option ℕ → ℕ → Option Layer → List Cell → ℕ → ℕ
place_after_drop m g waits cs x = if nat_lt (length (text_at g cs)) x then x else x - lost_of m g x waits

-- where the places of a request go as runes that wait over file f are taken back, if that is the file that it names
abbrev pub file_marks_after_drop : Option ℕ → PlainOverlay → ℕ → Request → Option ℕ → Marks
file_marks_after_drop m o f r None = marks_of r.event
file_marks_after_drop m o f r (Some h) =
    let after = place_after_drop m r.group (slot o.layers f) (cells_at o f) in
    if h == f then record { p = after (marks_of r.event).p; q = after (marks_of r.event).q } else marks_of r.event

abbrev pub marks_after_drop : Option ℕ → PlainOverlay → ℕ → Request → Marks
marks_after_drop m o f r = file_marks_after_drop m o f r (file_of r.event)

abbrev pub moved_by_drop : Option ℕ → PlainOverlay → ℕ → Request → Request
moved_by_drop m o f r = with_request_marks (marks_after_drop m o f r) r

-- ## The law

-- what stood before place x of a text, with what came in at place k if that is before it
abbrev pub text_before : ℕ → ℕ → PartialText → PartialText → PartialText
text_before k x new t = if nat_lt k x then take k t ++ new ++ drop k (take x t) else take x t

-- as members come into the rasp, the text before a place is what stood before it, with what came in before the place
abbrev pub InsertionsMovePlaces : Type 0
InsertionsMovePlaces =
    (g p x : ℕ) (new : PartialText) (cs : List Cell) → x ≤ length (text_at g cs)
    → take (place_after_ins (place_at g p cs) (length new) x) (text_at g (inserted p new cs))
    ≡ text_before (place_at g p cs) x new (text_at g cs)
