-- How a terminal's log becomes a schedule of both sides.
use Rattle.std.specs.Prelude.{◌≡◌, ◌≤◌, ℕ, ◌-◌, max, Bool, false, ◌||◌, nat_lt, List, [], ◌∷◌, ◌++◌, length, replicate}
use Rattle.sam_crossing.specs.declared.event.Event.{Event}
use Rattle.sam_crossing.specs.declared.event.Event.TheVariants.{User, Act, Flush, HostTake, TermTake}
use Rattle.sam_sides.specs.declared.log.TermLog.{TermLog}
use Rattle.sam_sides.specs.declared.log.TermLog.TheVariants as log

-- ## One entry by itself

-- the events that an entry stands for where the host has taken so many messages
abbrev pub events_of : ℕ → TermLog → List Event
events_of done (log.User e) = User e ∷ []
events_of done log.Act = Act ∷ []
events_of done log.Flush = Flush ∷ []
events_of done (log.Take k) = replicate (k - done) HostTake ++ TermTake ∷ []

-- how many it has then taken
abbrev pub done_after : ℕ → TermLog → ℕ
done_after done (log.User e) = done
done_after done log.Act = done
done_after done log.Flush = done
done_after done (log.Take k) = max done k

-- the entry takes a frame that saw more than n messages
abbrev pub is_bad_entry : TermLog → ℕ → Bool
is_bad_entry (log.User e) n = false
is_bad_entry log.Act n = false
is_bad_entry log.Flush n = false
is_bad_entry (log.Take k) n = nat_lt n k

-- ## The whole log

-- before each Take(k), HostTakes until k are done, then the TermTake; the rest of the n HostTakes at the end
abbrev pub merged_from : ℕ → List TermLog → ℕ → List Event
merged_from done [] n = replicate (n - done) HostTake
merged_from done (entry ∷ entries) n = events_of done entry ++ merged_from (done_after done entry) entries n

abbrev pub merged : List TermLog → ℕ → List Event
merged entries n = merged_from 0 entries n

-- some Take is above n
abbrev pub is_bad_log : List TermLog → ℕ → Bool
is_bad_log [] n = false
is_bad_log (entry ∷ entries) n = is_bad_entry entry n || is_bad_log entries n

-- ## The room for it

-- room for so many events is enough for the schedule of a log that is not bad
abbrev pub IsRoomForMerge : List TermLog → ℕ → ℕ → Type 0
IsRoomForMerge entries n room = (is_bad_log entries n ≡ false) × (length (merged entries n) ≤ room)
