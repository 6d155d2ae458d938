-- What may go out: two numbers for each record that is not durable, and for the last that is.
use Rattle.std.specs.Prelude.{ℕ, zero, suc, ◌+◌, ◌-◌, List, [], ◌∷◌, length, ◌==◌, if◌then◌else◌}
use Rattle.sam_link.specs.End.{End}
use Rattle.sam_server.specs.declared.gate.Mark.{Mark}

-- how many bytes of its stream an end has put in all, and how many of them have gone on its connection or before
abbrev pub put_count : End → ℕ
put_count e = e.keeps.base + length e.keeps.kept

abbrev pub gone_count : End → ℕ
gone_count e = e.keeps.base + e.keeps.sent

pub record PlainGate : Type 0 where
  pub base : Mark  -- of the last durable record
  pub waiting : List Mark  -- of those behind it, the oldest first

-- nothing was recorded, so nothing was taken and put
abbrev pub new_gate : PlainGate
new_gate = record { base = record { attempt = 0; put = 0 }; waiting = [] }

-- so many more of the records are durable, or all: the last of them is the base
abbrev pub passed : ℕ → Mark → List Mark → PlainGate
passed zero base marks = record { base = base; waiting = marks }
passed (suc n) base [] = record { base = base; waiting = [] }
passed (suc n) base (mark ∷ marks) = passed n mark marks

-- How many bytes may go out on this connection, of whose hello so many are left, and where so many of the stream's bytes have gone: where a
-- durable record took the connection, the rest of the hello, and the stream as far as durable records put it
abbrev pub allowed : PlainGate → ℕ → ℕ → ℕ → ℕ
allowed g attempt hello gone = if g.base.attempt == attempt then hello + (g.base.put - gone) else 0
