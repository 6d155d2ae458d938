-- What of a stream the other side is to acknowledge. Times are in milliseconds.
use Rattle.std.specs.Prelude.{ℕ, ◌-◌, nat_le, Option, None, Some, if◌then◌else◌}
use Rattle.sam_line.specs.declared.question.Question.{Question}

-- so many bytes are to be acknowledged
abbrev pub owing_to : Question → ℕ → Question
owing_to q count = record q { due = count }

-- a question was put, which ends there
abbrev pub asked_at : Question → ℕ → ℕ → Question
asked_at q count now = record { due = count; asked = count; since = Some now; round_trip = q.round_trip }

-- so many bytes are acknowledged: the answer to the question may be here
abbrev pub measured_from : Question → Option ℕ → ℕ → ℕ → Question
measured_from q None acknowledged now = q
measured_from q (Some since) acknowledged now =
    if nat_le q.asked acknowledged then record q { since = None; round_trip = now - since } else q

abbrev pub measured : Question → ℕ → ℕ → Question
measured q acknowledged now = measured_from q q.since acknowledged now

-- a connection is made: the answer to a question before it measures nothing
abbrev pub unmeasured : Question → Question
unmeasured q = record q { since = None }
