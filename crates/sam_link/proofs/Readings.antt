-- Packets that are read one after another.
use Rattle.std.proofs.Common.{◌≡◌, ℕ, ◌+◌, List, [], ◌∷◌, ◌++◌, drop, refl, arith, length-append}
use Rattle.std.specs.Prelude.{max, ◌||◌}
use Rattle.sam_frame.proofs.Fronts.{Front-more}
use Rattle.sam_link.specs.Packets.{IsRead, Packet, StandsFirst, asks, packets}
use Rattle.sam_link.specs.declared.reading.Said.{Said}
use Rattle.sam_link.proofs.Packing.{top_more}

asks_more : (ps : List Packet) (p : Packet) → asks (ps ++ p ∷ []) ≡ (asks ps || asks (p ∷ []))
asks_more [] p = refl
asks_more (q ∷ ps) p = grind (arith, (asks_more ps p))

-- one packet more
pub read_more : (bytes : List ℕ) (count len more : ℕ) (said next all : Said) → IsRead bytes count len said → StandsFirst (drop len bytes) next more
    → all.top ≡ max said.top next.top → all.asked ≡ (said.asked || next.asked) → IsRead bytes (count + 1) (len + more) all
read_more bytes count len more said next all r s top asked =
    record {
      ps = r.ps ++ s.0 ∷ [];
      front = Front-more packets 1 bytes r.ps 1 len s.0 more r.front s.1;
      count_is = omega (arith, (length-append r.ps (s.0 ∷ [])), (r.count_is));
      fewer = omega (arith, (r.fewer), (s.1.more));
      top_is = omega (arith, top, (r.top_is), (s.2), (top_more r.ps (s.0 ∷ [])));
      asked_is = grind (arith, asked, (r.asked_is), (s.3), (asks_more r.ps s.0));
    }
