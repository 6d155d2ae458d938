-- How long the packets of some bytes are, and how they are written one after another.
use Rattle.std.proofs.Common.{◌≡◌, ℕ, zero, suc, ◌+◌, ◌*◌, List, [], ◌∷◌, ◌++◌, length, take, drop, refl, sym, ap, subst, ◌∙◌, arith, append_assoc, length-append, length-take, length-drop}
use Rattle.std.proofs.Math.Numerals.{add-one}
use Rattle.std.proofs.Math.Seq.{take-append_seam}
use Rattle.std.proofs.lemmas.List.{take_min}
use Rattle.std.specs.Prelude.{min}
use Rattle.sam_frame.specs.Stream.{stream_of}
use Rattle.sam_frame.proofs.Fronts.{stream_of-append, stream_of-one}
use Rattle.sam_mesg.specs.Spelling.{frame}
use Rattle.sam_link.specs.Packets.{packets}
use Rattle.sam_link.specs.Putting.{data_packets, data_stream, packets_needed}
use Rattle.sam_link.specs.Packets.Packet.{Data}

abbrev part : List ℕ → ℕ → List ℕ
part bytes n = take 4096 (drop (n * 4096) bytes)

-- what was put after is cut off again
pub cut_again : (before more out after : List ℕ) (n : ℕ) → n ≡ length before → out ≡ before ++ more → after ≡ take n out → after ≡ before
cut_again before more out after n long put cut = grind (arith, take-append_seam)

pub data_none : (bytes : List ℕ) → stream_of packets (data_packets 0 bytes) ≡ []
unfolding data_packets
data_none bytes = refl

data_suc : (bytes : List ℕ) (n : ℕ) → stream_of packets (data_packets (suc n) bytes) ≡ stream_of packets (data_packets n bytes) ++ frame 1 (part bytes n)
unfolding data_packets
data_suc bytes n =
    stream_of-append packets (data_packets n bytes) (Data (part bytes n) ∷ [])
    ∙ ap (λ b. stream_of packets (data_packets n bytes) ++ b) (stream_of-one packets (Data (part bytes n)))

-- one packet more
pub data_more : (bytes : List ℕ) (n : ℕ) → stream_of packets (data_packets (n + 1) bytes) ≡ stream_of packets (data_packets n bytes) ++ frame 1 (part bytes n)
data_more bytes n = subst (λ m. stream_of packets (data_packets m bytes) ≡ stream_of packets (data_packets n bytes) ++ frame 1 (part bytes n)) (sym (add-one n)) (data_suc bytes n)

pub data_written : (bytes before out next rest : List ℕ) (n : ℕ) → rest ≡ drop (n * 4096) bytes
    → out ≡ before ++ stream_of packets (data_packets n bytes) → next ≡ out ++ frame 1 (take (min 4096 (length rest)) rest)
    → next ≡ before ++ stream_of packets (data_packets (n + 1) bytes)
data_written bytes before out next rest n is so_far one =
    one ∙ ap (λ b. out ++ frame 1 b) (take_min 4096 rest) ∙ ap (λ b. out ++ frame 1 (take 4096 b)) is ∙ ap (λ b. b ++ frame 1 (part bytes n)) so_far
    ∙ append_assoc before (stream_of packets (data_packets n bytes)) (frame 1 (part bytes n)) ∙ ap (λ b. before ++ b) (sym (data_more bytes n))

data_len : (bytes : List ℕ) (n : ℕ) → length (stream_of packets (data_packets n bytes)) ≡ min (n * 4096) (length bytes) + n * 3
data_len bytes zero = ap length (data_none bytes) ∙ omega arith
data_len bytes (suc n) = omega (
  arith,
  (data_len bytes n),
  (ap length (data_suc bytes n)),
  (length-append (stream_of packets (data_packets n bytes)) (frame 1 (part bytes n))),
  (length-take 4096 (drop (n * 4096) bytes)),
  (length-drop (n * 4096) bytes),
)

pub data_length : (bytes : List ℕ) → length (data_stream bytes) ≡ length bytes + packets_needed (length bytes) * 3
unfolding data_stream
data_length bytes = data_len bytes (packets_needed (length bytes)) ∙ omega arith

pub all_written : (bytes before out : List ℕ) (n : ℕ) → n ≡ packets_needed (length bytes) → out ≡ before ++ stream_of packets (data_packets n bytes)
    → out ≡ before ++ data_stream bytes
unfolding data_stream
all_written bytes before out n is e = e ∙ ap (λ m. before ++ stream_of packets (data_packets m bytes)) is
