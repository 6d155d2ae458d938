-- What leaves a line.
use Rattle.std.specs.Prelude.{◌≡◌, ℕ, ◌≤◌, List, length, take, Bool, true, false, Option, Some, None}
use Rattle.sam_link.specs.Inbox.{Waiting, left_of, note_of, ready}
use Rattle.sam_link.specs.Packets.{Packet}
use Rattle.sam_line.specs.declared.line.Line.{Line}

-- this waits in it for the program
abbrev pub waits_with : Line → Waiting → Line
waits_with l w = record l { link = record l.link { waiting = w } }

-- the bytes that leave it next: of one packet at most
abbrev pub next_bytes : Line → List ℕ
next_bytes l = take 4096 (ready l.link.waiting).part

abbrev pub without_bytes : Line → Line
without_bytes l = waits_with l (left_of l.link.waiting (length (next_bytes l)))

-- the note that leaves it next, once all bytes in front of it have left, and the packets behind it
abbrev pub next_note : Line → Option (List ℕ × List Packet)
next_note l = note_of l.link.waiting.part l.link.waiting.packets

-- it leaves the line, if there is one
abbrev pub GivesNote : Line → List ℕ → Bool → Line → List ℕ → Type 0
GivesNote l old true n new =
    (rest : List Packet) × (next_note l ≡ Some (new, rest)) × (length new ≤ 4096)
    × (n ≡ waits_with l (record l.link.waiting { packets = rest }))
GivesNote l old false n new = (next_note l ≡ None) × (n ≡ l) × (new ≡ old)
