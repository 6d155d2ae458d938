-- The numbers of the requests of an ordered overlay.
use Rattle.std.specs.Prelude.{ℕ, ◌+◌, ◌-◌, Bool, true, false, nat_lt, if◌then◌else◌}
use Rattle.sam_endpoint.specs.declared.step.TermStep.{TermStep}
use Rattle.sam_endpoint.specs.declared.step.TermStep.TheVariants.{Acted, Idle, Locked, Received, Refused, Wrote}
use Rattle.sam_overlay.specs.declared.numbers.RequestNumbers.{RequestNumbers}
use Rattle.sam_overlay.specs.declared.shown_change.Asked.{Asked}
use Rattle.sam_overlay.specs.declared.shown_change.Asked.TheVariants as asked

abbrev pub no_numbers : RequestNumbers
no_numbers = record { taken = 0; told = 0 }

-- ## Asking

-- A new request has the next number, and those that wait have the last ones of those that were taken. So a write that shares the one at
-- this place, among so many that wait, has the number of that
abbrev pub number_of : RequestNumbers → ℕ → Asked → ℕ
number_of n waiting asked.New = n.taken + 1
number_of n waiting (asked.Shares place) = n.taken - (waiting - place - 1)

abbrev pub after_asking : RequestNumbers → Asked → RequestNumbers
after_asking n asked.New = record n { taken = n.taken + 1 }
after_asking n (asked.Shares place) = n

-- ## Telling

-- by the step an event of the user acted, or was refused
abbrev pub is_outcome : TermStep → Bool
is_outcome Idle = false
is_outcome Locked = false
is_outcome Wrote = false
is_outcome (Received kind tag change) = false
is_outcome (Acted number tag change) = true
is_outcome (Refused number why) = true

-- with so many requests that wait, one has left them that was not told of
abbrev pub is_due : RequestNumbers → ℕ → Bool
is_due n waiting = nat_lt n.told (n.taken - waiting)

-- an outcome is that of the request that is due; where none is, that of an edit
abbrev pub is_of_request : RequestNumbers → ℕ → TermStep → Bool
is_of_request n waiting step = if is_outcome step then is_due n waiting else false

-- the number of the request that it tells of, or 0
abbrev pub told_number : RequestNumbers → ℕ → TermStep → ℕ
told_number n waiting step = if is_of_request n waiting step then n.told + 1 else 0

abbrev pub after_telling : RequestNumbers → ℕ → TermStep → RequestNumbers
after_telling n waiting step = if is_of_request n waiting step then record n { told = n.told + 1 } else n
