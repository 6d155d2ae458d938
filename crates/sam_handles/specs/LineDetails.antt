-- How a line stands for C, and the words that came on it.
use Rattle.std.specs.Prelude.{◌≡◌, ℕ, List}
use Rattle.sam_line.specs.Clock.{silence}
use Rattle.sam_line.specs.Greeting.{IsFront}
use Rattle.sam_line.specs.Line.{has_all, is_broken, is_due, overdue_after, put_len}
use Rattle.sam_line.specs.declared.line.Line.{Line}
use Rattle.sam_handles.specs.Buffers.{Takes}
use Rattle.sam_handles.specs.LineStatus.{lost_status, state_number}
use Rattle.sam_handles.specs.Status.{ok}
use Rattle.sam_handles.specs.declared.line_details.SamLineDetails.{SamLineDetails}

abbrev pub line_details : ℕ → Line → SamLineDetails
line_details now l =
    record {
      silence = silence l.clock (is_due l) now;
      round_trip = l.question.round_trip;
      overdue_after = overdue_after l;
      failures = l.clock.failures;
      attempt = l.link.attempt;
      put_count = put_len l.link;
      acknowledged = l.link.keeps.base;
      received = l.link.received;
      state = state_number l.clock.state;
      why = lost_status l.clock.state;
      is_known = l.link.is_known;
      is_broken = is_broken l;
      has_all = has_all l;
    }

-- the words that came before the host's hello, as many of their bytes as have room
abbrev pub CopiesWords : Line → List ℕ → List ℕ → ℕ → ℕ → Type 0
CopiesWords l before after status new =
    (front : List ℕ) × (left : List ℕ) × IsFront l.greeting front × (status ≡ ok) × Takes front before after new left
