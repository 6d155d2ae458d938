-- Requests of the user that wait: one queue over all files, in the order in which they were asked for. What is not an edit is a request.
use Rattle.std.specs.Prelude.{◌≡◌, ℕ, suc, ◌+◌, ◌<◌, ◌^◌, max, nat_le, Bool, true, false, ◌==◌, ◌&&◌, ◌||◌, if◌then◌else◌, List, [], ◌∷◌, Option, Some, None, is_some, option_map}
use Rattle.sam_runes.specs.Slots.{Slots}
use Rattle.sam_pending.specs.Cells.{text_at}
use Rattle.sam_pending.specs.Groups.{IsPutUpTo}
use Rattle.sam_pending.specs.Layers.{Layer}
use Rattle.sam_term.specs.Events.{file_of, waits_for_all}
use Rattle.sam_term.specs.Term.{PlainTerminal, rasp_at}
use Rattle.sam_term.specs.declared.event.UserEvent.{UserEvent}
use Rattle.sam_term.specs.declared.event.UserEvent.TheVariants as event
use Rattle.sam_overlay.specs.Overlays.{AreOver, cells_of_file, is_request}
use Rattle.sam_overlay.specs.declared.request.Request.{Request}

-- a group is the newest of those edits that stand before a request. The group of the next edit is above those of all requests that wait
abbrev pub next_group : List Request → ℕ
next_group [] = 0
next_group (r ∷ rs) = max (r.group + 1) (next_group rs)

-- there is a number above each group, and none of them is an edit
abbrev pub AreAsked : List Request → Type 0
AreAsked [] = Unit {0}
AreAsked (r ∷ rs) = ((is_request r.event ≡ true) × (r.group + 1 < 2 ^ 32)) × AreAsked rs

-- ## What stands before a request

abbrev pub is_file : ℕ → Option ℕ → Bool
is_file f None = false
is_file f (Some g) = g == f

-- it waits for edits of its file; for those of all files, if it takes the command lock
abbrev pub concerns : UserEvent → ℕ → Bool
concerns e f = waits_for_all e || is_file f (file_of e)

-- of the files that it concerns all edits before it are in the rasp
abbrev pub IsClear : PlainTerminal → Slots Layer → Request → Type 0
IsClear t ls r = (f : ℕ) → f < 2 ^ 16 → concerns r.event f ≡ true → IsPutUpTo r.group (cells_of_file t ls f)

-- ## What stands behind it

-- up to which group edits of file f may be put: to that of the first request which concerns it, if one waits
abbrev pub put_limit : List Request → ℕ → Option ℕ
put_limit [] f = None
put_limit (r ∷ rs) f = if concerns r.event f then Some r.group else put_limit rs f

-- from a leave no edit is taken, and from a close of file f none of that file: else it would be shown, and go with the text
abbrev pub leaves : UserEvent → Bool
leaves event.Exit = true
leaves e = false

abbrev pub closes : ℕ → UserEvent → Bool
closes f (event.Close g) = g == f
closes f e = false

abbrev pub is_leaving : List Request → Bool
is_leaving [] = false
is_leaving (r ∷ rs) = leaves r.event || is_leaving rs

abbrev pub is_closing : List Request → ℕ → Bool
is_closing [] f = false
is_closing (r ∷ rs) f = closes f r.event || is_closing rs f

-- ## Writes that are shared

abbrev pub writes : ℕ → UserEvent → Bool
writes f (event.Write g) = g == f
writes f e = false

-- a write of file f, behind which no edit of it was made: the newest group of those that wait over the file is not later than the write's
abbrev pub serves : ℕ → ℕ → Request → Bool
serves f newest r = writes f r.event && nat_le newest r.group

-- the place, the oldest at 0, of the write of file f that another one shares: the youngest request which concerns the file, if it serves
abbrev pub shared_write : List Request → ℕ → ℕ → Option ℕ
shared_write [] f newest = None
shared_write (r ∷ rs) f newest =
    if is_some (put_limit rs f) then option_map suc (shared_write rs f newest) else (if serves f newest r then Some 0 else None)

-- ## The law

-- a request finds the text that was shown as it was asked for, with the host's changes since (`requests_find_what_was_shown` says how these
-- change it, and that edits do not)
abbrev pub RequestsFindTheirText : Type 0
RequestsFindTheirText =
    (t : PlainTerminal) (ls : Slots Layer) (r : Request) (f : ℕ) → AreOver t ls → IsClear t ls r → f < 2 ^ 16 → concerns r.event f ≡ true
    → rasp_at t f ≡ text_at r.group (cells_of_file t ls f)
