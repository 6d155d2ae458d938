-- No packet begins another, so a front of a stream of packets has a front of its packets.
use Rattle.std.proofs.Common.{◌≡◌, ℕ, ◌<◌, ◌^◌, List, [], ◌++◌, ◌∷◌, None, true, length, w64, refl, sym, ap, ◌∙◌, append_assoc, append-nil, arith}
use Rattle.std.proofs.lemmas.Nat.{from_be_bytes-to_be_bytes_8}
use Rattle.std.specs.Int.{from_be_bytes}
use Rattle.sam_mesg.specs.Bounds.{may_be}
use Rattle.sam_mesg.specs.Spelling.{eight}
use Rattle.sam_mesg.proofs.FrameLaws.{header_of_frame, same_frame}
use Rattle.sam_frame.specs.Direction.{frame_of}
use Rattle.sam_frame.specs.Reading.{IsSound}
use Rattle.sam_frame.specs.Stream.{FitInTurn, Splits, stream_of}
use Rattle.sam_frame.proofs.Unique.{reads_on}
use Rattle.sam_link.specs.Packets.{IsPacket, Packet, body_of, bounds, kind_of, packets}
use Rattle.sam_link.specs.Packets.Packet.{Data, Note, Acknowledge, Ask}

allowed : (p : Packet) → IsPacket p → may_be (bounds (kind_of p)) (length (body_of p)) ≡ true
allowed (Data bytes) good = grind arith
allowed (Note bytes) good = grind arith
allowed (Acknowledge count) good = refl
allowed Ask good = refl

pub short : (p : Packet) → IsPacket p → length (body_of p) < 2 ^ 16
short (Data bytes) good = omega (arith, good.1)
short (Note bytes) good = omega (arith, good)
short (Acknowledge count) good = omega arith
short Ask good = omega arith

same_count : (a b : ℕ) → a < 2 ^ 64 → b < 2 ^ 64 → eight a ≡ eight b → a ≡ b
same_count a b fits_a fits_b e = sym (from_be_bytes-to_be_bytes_8 a fits_a) ∙ ap (from_be_bytes w64) e ∙ from_be_bytes-to_be_bytes_8 b fits_b

-- kind and body tell a packet
same_packet : (p q : Packet) → IsPacket p → IsPacket q → kind_of p ≡ kind_of q → body_of p ≡ body_of q → p ≡ q
same_packet (Data a) (Data b) good fine kinds bodies = ap Data bodies
same_packet (Note a) (Note b) good fine kinds bodies = ap Note bodies
same_packet (Acknowledge a) (Acknowledge b) good fine kinds bodies = ap Acknowledge (same_count a b good fine bodies)
same_packet Ask Ask good fine kinds bodies = refl
same_packet p q good fine kinds bodies = absurd (omega (arith, kinds))

one_packet : (p q : Packet) (a b : List ℕ) → IsPacket p → IsPacket q → frame_of packets p ++ a ≡ frame_of packets q ++ b → (p ≡ q) × (a ≡ b)
one_packet p q a b good fine e =
    let same = same_frame bounds (kind_of p) (kind_of q) (body_of p) (body_of q) a b (allowed p good) (short p good) (allowed q fine) (short q fine) e in
    (same_packet p q good fine same.0 same.1, same.2)

pub packets_sound : IsSound packets
packets_sound =
    record {
      says = λ version p rest good. header_of_frame bounds (kind_of p) (body_of p) rest (allowed p good) (short p good);
      one = λ version p q a b good fine e. one_packet p q a b good fine e;
    }

-- what is read of a front of a stream of packets
pub front_read : (ps qs : List Packet) (came rest held : List ℕ) → FitInTurn packets 1 ps → stream_of packets ps ≡ came ++ rest → Splits packets 1 came qs held → (more : List Packet) × (ps ≡ qs ++ more)
front_read ps qs came rest held fit whole splits =
    reads_on packets packets_sound 1 (stream_of packets ps) qs ps (held ++ rest) [] None
    (record { whole = whole ∙ ap (λ b. b ++ rest) splits.whole ∙ append_assoc (stream_of packets qs) held rest; fit = splits.fit })
    (record { whole = sym (append-nil (stream_of packets ps)); fit = fit }) tt

pub no_bytes : (bytes : List ℕ) → length bytes ≡ 0 → [] ≡ bytes
no_bytes [] is = refl
no_bytes (byte ∷ bytes) is = absurd (omega (arith, is))
