-- What a front end's client loads by itself: which stretch of which text comes next, and when. Times are in milliseconds.
use Rattle.std.specs.Prelude.{◌≢◌, ℕ, ◌+◌, ◌-◌, ◌*◌, ◌/◌, ◌^◌, ◌≤◌, max, min, nat_lt, Bool, true, false, not, ◌||◌, ◌==◌, if◌then◌else◌, List, [], ◌∷◌, AllPairs, filter, length, Option, Some, None}
use Rattle.sam_runes.specs.Texts.{part}
use Rattle.sam_rasp.specs.Rasp.{PartialText}
use Rattle.sam_rasp.specs.Tallies.{tally_of}
use Rattle.sam_term.specs.Term.{PlainTerminal, is_open, window_at}
use Rattle.sam_overlay.specs.Calls.{PlainOverlay, gap_from, has_edit_at, shown_at}
use Rattle.sam_front.specs.declared.loader.Loader.TheInside.{Inside}
use Rattle.sam_front.specs.declared.loader.Next.{Next}
use Rattle.sam_front.specs.declared.loader.Next.TheVariants as next
use Rattle.sam_front.specs.declared.loader.Seen.{Seen}
use Rattle.sam_front.specs.declared.loader.Slice.{Slice}
use Rattle.sam_front.specs.declared.loader.Stretch.{Stretch}

-- ## The limits

-- so long after the last key only what windows show is loaded
abbrev pub rest_time : ℕ
rest_time = 1_000

-- and so long after anything came or acted
abbrev pub break_time : ℕ
break_time = 50

-- so long after a refusal nothing is loaded
abbrev pub pause_time : ℕ
pause_time = 1_000

-- so long a slice may take the line
abbrev pub slice_time : ℕ
slice_time = 1_000

-- a slice that took so long, or less, says no more than that the line is at least so quick
abbrev pub least_measured : ℕ
least_measured = 50

-- how many runes the first slice has, and the fewest and the most runes of a slice
abbrev pub first_slice : ℕ
first_slice = 4_096

abbrev pub least_slice : ℕ
least_slice = 512

abbrev pub most_slice : ℕ
most_slice = 1_000_000

-- so many of what a window shows are asked for at once, also where a slice has fewer
abbrev pub page : ℕ
page = 4_096

-- the most holes that are asked for at once
abbrev pub most_holes : ℕ
most_holes = 1_800

-- so long after that time; no time is later than the last one that a number holds
abbrev pub later : ℕ → ℕ → ℕ
later now long = min (now + long) (2 ^ 64 - 1)

-- ## A loader

pub record PlainLoader : Type 0 where
  pub seen : List Seen  -- of each file the stretch that a window showed last; what was told last stands first
  pub size : ℕ  -- how many runes the next slice has
  pub rests_until : ℕ  -- before this time only what windows show is loaded
  pub pauses_until : ℕ  -- before this time nothing is loaded
  pub trip : ℕ  -- the least that a round trip took; 0 while none is known
  pub slice : Option Slice  -- what is being loaded
  pub view : Option ℕ  -- the request that emptied a view last

abbrev pub view_of : Inside → PlainLoader
view_of a = record {
  seen = a.seen.items;
  size = a.size;
  rests_until = a.rests_until;
  pauses_until = a.pauses_until;
  trip = a.trip;
  slice = a.slice;
  view = a.view;
}

-- the stretches of all other files
abbrev pub without : ℕ → List Seen → List Seen
without f seen = filter (λ s. not (s.tag == f)) seen

-- each file stands once
abbrev pub AreOnce : List Seen → Type 0
AreOnce seen = AllPairs (λ s r. s.tag ≢ r.tag) seen

-- what is true of each loader
pub record IsLoader (l : PlainLoader) : Type 0 where
  pub once : AreOnce l.seen
  pub least : least_slice ≤ l.size
  pub most : l.size ≤ most_slice

abbrev pub new_loader : PlainLoader
new_loader = record { seen = []; size = first_slice; rests_until = 0; pauses_until = 0; trip = 0; slice = None; view = None }

-- ## What comes next

-- of each file, the first place from a place on whose rune is not loaded, if there is one
abbrev pub Gaps : Type 0
Gaps = ℕ → ℕ → Option ℕ

-- the command lock is held, or a lock of the file
abbrev pub is_locked : PlainTerminal → ℕ → Bool
is_locked t f = t.command_lock || nat_lt 0 (window_at t f).locks

-- those of the texts that an overlay shows; a file that is not open, is locked, or has an edit that waits, has none
abbrev pub gaps_of : PlainOverlay → Gaps
gaps_of o f place =
    if is_locked o.end.term f || has_edit_at o f then None else if is_open o.end.term f then gap_from place (shown_at o f) else None

-- the stretch from that gap on, if the gap stands in it, and at most a slice or a page; else the other
abbrev pub load_seen : ℕ → Seen → Option ℕ → Next → Next
load_seen size s None other = other
load_seen size s (Some gap) other = if nat_lt gap s.end then next.Load s.tag gap (min (s.end - gap) (max size page)) else other

-- the first gap that a window shows
abbrev pub next_seen : Gaps → ℕ → List Seen → Next
next_seen gap size [] = next.Nothing
next_seen gap size (s ∷ rest) = load_seen size s (gap s.tag s.start) (next_seen gap size rest)

-- a slice of the file from that gap on, if there is one; else the other
abbrev pub load_slice : ℕ → ℕ → Option ℕ → Next → Next
load_slice size f None other = other
load_slice size f (Some gap) other = next.Load f gap size

-- a slice of the first of these files that has a gap: from its stretch on; if there is none, from its beginning on
abbrev pub next_slice : Gaps → ℕ → List Seen → Next
next_slice gap size [] = next.Nothing
next_slice gap size (s ∷ rest) =
    load_slice size s.tag (gap s.tag s.start) (load_slice size s.tag (gap s.tag 0) (next_slice gap size rest))

-- before that time what is to be loaded waits for it
abbrev pub not_before : ℕ → ℕ → Next → Next
not_before time now (next.Load f place count) = if nat_lt now time then next.Wait time else next.Load f place count
not_before time now other = other

-- what windows show comes first; if all of that is loaded, a slice comes once the user rests
abbrev pub next_at : Gaps → PlainLoader → ℕ → Next
next_at gap l now = choose (next_seen gap l.size l.seen)
  where
    choose : Next → Next
    choose next.Nothing = not_before (max l.pauses_until l.rests_until) now (next_slice gap l.size l.seen)
    choose found = not_before l.pauses_until now found

-- ## What is loaded at once

-- how many gaps stand among so many runes and gaps of a text from a place on
abbrev pub gaps_among : PartialText → ℕ → ℕ → ℕ
gaps_among r place count = (tally_of (part r place (place + count))).gaps

-- there may be too many holes among so many runes and gaps: no more than there are gaps, and than there are runes
abbrev pub may_be_torn : ℕ → ℕ → Bool
may_be_torn count gaps = nat_lt most_holes (min gaps (count - gaps))

abbrev pub stretch : PartialText → ℕ → ℕ → Stretch
stretch r place count = record { count = count; gaps = gaps_among r place count }

-- so many from the place on as there are; of a text that may be torn there, so few that there are not too many holes
abbrev pub untorn : PartialText → ℕ → ℕ → Stretch
untorn r place count =
    if may_be_torn count (gaps_among r place count) then stretch r place (min count (2 * most_holes))
    else stretch r place count

abbrev pub stretch_of : PartialText → ℕ → ℕ → Stretch
stretch_of r place count = untorn r place (min count (length r - place))

-- ## What is noted

-- something came or acted
abbrev pub stepped : PlainLoader → ℕ → PlainLoader
stepped l now = record l { rests_until = max l.rests_until (later now break_time) }

abbrev pub is_slice : Option Slice → ℕ → Bool
is_slice None request = false
is_slice (Some s) request = s.request == request

abbrev pub is_view : Option ℕ → ℕ → Bool
is_view None request = false
is_view (Some view) request = view == request

-- the slice has acted, if the request is its own
abbrev pub acted : Option Slice → ℕ → Option Slice
acted None request = None
acted (Some s) request = Some (if s.request == request then record s { has_acted = true } else s)

-- the refusal of what is being loaded ends it, and makes a pause
abbrev pub refused : PlainLoader → ℕ → ℕ → PlainLoader
refused l request now =
    if is_slice l.slice request then record l { slice = None; pauses_until = later now pause_time } else l

-- as many runes as come in the time of a slice, where `count` came in `took`
abbrev pub size_by : ℕ → ℕ → ℕ
size_by count took = max least_slice (min (count * slice_time / max took least_measured) most_slice)

-- one that was too quick to be measured makes no shorter one
abbrev pub size_then : ℕ → ℕ → ℕ → ℕ
size_then size new took = if nat_lt least_measured took || nat_lt size new then new else size

-- the next size: by what the slice took beyond a round trip
abbrev pub size_after : ℕ → Option Slice → ℕ → ℕ → ℕ
size_after size None round_trip now = size
size_after size (Some s) round_trip now = size_then size (size_by s.count (now - s.since - round_trip)) (now - s.since - round_trip)

-- the lesser of the least round trip and another one, where 0 is none
abbrev pub least_trip : ℕ → ℕ → ℕ
least_trip least trip = if least == 0 then trip else if trip == 0 then least else min least trip

-- what was being loaded has come
abbrev pub ended : PlainLoader → ℕ → ℕ → PlainLoader
ended l round_trip now =
    let trip = least_trip l.trip round_trip in record l { slice = None; trip = trip; size = size_after l.size l.slice trip now }
