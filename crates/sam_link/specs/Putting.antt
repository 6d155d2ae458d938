-- How what a program puts becomes packets.
use Rattle.std.specs.Prelude.{ℕ, suc, zero, ◌+◌, ◌*◌, ◌/◌, List, [], ◌∷◌, ◌++◌, length, take, drop}
use Rattle.sam_frame.specs.Stream.{stream_of}
use Rattle.sam_link.specs.Packets.{Packet, packets}
use Rattle.sam_link.specs.Packets.Packet.{Data}

-- the first of the packets of these bytes, which are all full but for the last
unfoldable pub data_packets : ℕ → List ℕ → List Packet
data_packets zero bytes = []
data_packets (suc n) bytes = data_packets n bytes ++ Data (take 4096 (drop (n * 4096) bytes)) ∷ []

abbrev pub packets_needed : ℕ → ℕ
packets_needed len = (len + 4095) / 4096

-- the bytes that a program puts, as packets
unfoldable pub data_stream : List ℕ → List ℕ
data_stream bytes = stream_of packets (data_packets (packets_needed (length bytes)) bytes)
