-- Lists of packets: what they put, and what they acknowledge.
use Rattle.std.proofs.Common.{◌≡◌, ℕ, zero, suc, ◌+◌, ◌*◌, ◌<◌, ◌≤◌, ◌^◌, List, [], ◌∷◌, ◌++◌, length, take, drop, map, Bool, true, false, refl, sym, ap, ◌∙◌, subst, append-nil, arith, length-drop, length-take}
use Rattle.std.proofs.lemmas.Grind.{flat_map-append}
use Rattle.std.proofs.lemmas.List.{map-append, take_min}
use Rattle.std.proofs.Math.Seq.{take-add, take-length}
use Rattle.std.specs.List.{flat_map}
use Rattle.std.specs.Prelude.{max, min, if◌then◌else◌}
use Rattle.sam_mesg.specs.Spelling.{eight, frame}
use Rattle.sam_frame.specs.Stream.{FitInTurn, stream_of, version_after}
use Rattle.sam_frame.proofs.Fronts.{FitInTurn-append, stream_of-one}
use Rattle.sam_link.specs.Calls.{Byte, Note, items_in}
use Rattle.sam_link.specs.Feeding.{told, tells}
use Rattle.sam_link.specs.Inbox.{items_of}
use Rattle.sam_link.specs.Keeping.{Keeps, put}
use Rattle.sam_link.specs.Packets.{Packet, packets, top_of}
use Rattle.sam_link.specs.Putting.{data_packets, data_stream, packets_needed}
use Rattle.sam_link.specs.Packets.{Packet as packet}

pub take_all : {A : Type 0} (n : ℕ) (l : List A) → length l ≤ n → take n l ≡ l
take_all n l long = let all : min n (length l) ≡ length l = omega (arith, long) in sym (take_min n l) ∙ ap (λ k. take k l) all ∙ take-length l

pub same_version : (ps : List Packet) → version_after packets 1 ps ≡ 1
same_version [] = refl
same_version (p ∷ ps) = same_version ps

pub fit_more : (ps more : List Packet) → FitInTurn packets 1 ps → FitInTurn packets 1 more → FitInTurn packets 1 (ps ++ more)
fit_more ps more a b = FitInTurn-append packets 1 ps more a (subst (λ v. FitInTurn packets v more) (sym (same_version ps)) b)

pub top_more : (ps more : List Packet) → top_of (ps ++ more) ≡ max (top_of ps) (top_of more)
top_more [] more = omega arith
top_more (p ∷ ps) more = omega (arith, (top_more ps more))

pub items_more : (ps more : List Packet) → flat_map items_in (ps ++ more) ≡ flat_map items_in ps ++ flat_map items_in more
items_more ps more = flat_map-append items_in ps more

item_first : (p : Packet) (ps : List Packet) → flat_map items_in (items_of ps) ≡ flat_map items_in ps → flat_map items_in (items_of (p ∷ ps)) ≡ items_in p ++ flat_map items_in ps
item_first (packet.Data bytes) ps e = ap (λ l. map Byte bytes ++ l) e
item_first (packet.Note bytes) ps e = ap (λ l. Note bytes ∷ l) e
item_first (packet.Acknowledge count) ps e = e
item_first packet.Ask ps e = e

-- what is for the program is all that a program puts
pub items_are : (ps : List Packet) → flat_map items_in (items_of ps) ≡ flat_map items_in ps
items_are [] = refl
items_are (p ∷ ps) = item_first p ps (items_are ps)

-- ## Data

data_fit : (bytes : List ℕ) (n : ℕ) → n * 4096 < length bytes + 4096 → FitInTurn packets 1 (data_packets n bytes)
unfolding data_packets
data_fit bytes zero l = tt
data_fit bytes (suc n) l = fit_more (data_packets n bytes) (packet.Data (take 4096 (drop (n * 4096) bytes)) ∷ []) (data_fit bytes n (omega arith))
    ((omega (arith, (length-take 4096 (drop (n * 4096) bytes)), (length-drop (n * 4096) bytes)), omega (arith, (length-take 4096 (drop (n * 4096) bytes)))), tt)

data_top : (bytes : List ℕ) (n : ℕ) → top_of (data_packets n bytes) ≡ 0
unfolding data_packets
data_top bytes zero = refl
data_top bytes (suc n) = top_more (data_packets n bytes) (packet.Data (take 4096 (drop (n * 4096) bytes)) ∷ []) ∙ omega (arith, (data_top bytes n))

data_items : (bytes : List ℕ) (n : ℕ) → flat_map items_in (data_packets n bytes) ≡ map Byte (take (n * 4096) bytes)
unfolding data_packets
data_items bytes zero = refl
data_items bytes (suc n) =
    let next : take (n * 4096 + 4096) bytes ≡ take (n * 4096) bytes ++ take 4096 (drop (n * 4096) bytes) = take-add (n * 4096) 4096 bytes in
    let long : suc n * 4096 ≡ n * 4096 + 4096 = omega arith in
    items_more (data_packets n bytes) (packet.Data (take 4096 (drop (n * 4096) bytes)) ∷ [])
    ∙ ap (λ l. l ++ (map Byte (take 4096 (drop (n * 4096) bytes)) ++ [])) (data_items bytes n)
    ∙ ap (λ l. map Byte (take (n * 4096) bytes) ++ l) (append-nil (map Byte (take 4096 (drop (n * 4096) bytes))))
    ∙ sym (map-append Byte (take (n * 4096) bytes) (take 4096 (drop (n * 4096) bytes)))
    ∙ ap (λ l. map Byte l) (sym next) ∙ ap (λ k. map Byte (take k bytes)) (sym long)

pub data_of : List ℕ → List Packet
data_of bytes = data_packets (packets_needed (length bytes)) bytes

pub data_of_fit : (bytes : List ℕ) → FitInTurn packets 1 (data_of bytes)
unfolding data_of
data_of_fit bytes = data_fit bytes (packets_needed (length bytes)) (omega arith)

pub data_of_top : (bytes : List ℕ) → top_of (data_of bytes) ≡ 0
unfolding data_of
data_of_top bytes = data_top bytes (packets_needed (length bytes))

pub data_of_items : (bytes : List ℕ) → flat_map items_in (data_of bytes) ≡ map Byte bytes
unfolding data_of
data_of_items bytes = data_items bytes (packets_needed (length bytes)) ∙ ap (λ l. map Byte l) (take_all (packets_needed (length bytes) * 4096) bytes (omega arith))

pub data_of_stream : (bytes : List ℕ) → data_stream bytes ≡ stream_of packets (data_of bytes)
unfolding data_of data_stream
data_of_stream bytes = refl

-- ## An acknowledgement that is owed

pub ack_if : Bool → ℕ → List Packet
ack_if true count = packet.Acknowledge count ∷ []
ack_if false count = []

told_by : (k : Keeps) (b : Bool) (count : ℕ) → (if b then put k (frame 3 (eight count)) else k) ≡ put k (stream_of packets (ack_if b count))
unfolding ack_if
told_by k true count = ap (λ b. put k b) (sym (stream_of-one packets (packet.Acknowledge count)))
told_by k false count = ap (λ l. record k { kept = l }) (sym (append-nil k.kept))

pub told_keeps : (k : Keeps) (owes : Bool) (count : ℕ) → told k owes count ≡ put k (stream_of packets (ack_if (tells k owes) count))
told_keeps k owes count = told_by k (tells k owes) count

pub ack_fit : (b : Bool) (count : ℕ) → count < 2 ^ 64 → FitInTurn packets 1 (ack_if b count)
unfolding ack_if
ack_fit true count l = (l, tt)
ack_fit false count l = tt

pub ack_top : (b : Bool) (count : ℕ) → top_of (ack_if b count) ≡ (if b then count else 0)
unfolding ack_if
ack_top true count = omega arith
ack_top false count = refl

pub ack_items : (b : Bool) (count : ℕ) → flat_map items_in (ack_if b count) ≡ []
unfolding ack_if
ack_items true count = refl
ack_items false count = refl

pub ack_long : (b : Bool) (count : ℕ) → length (stream_of packets (ack_if b count)) ≡ (if b then 11 else 0)
unfolding ack_if
ack_long true count = refl
ack_long false count = refl
