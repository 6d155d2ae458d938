-- What a host's end is after a piece, and after a packet left it.
use Rattle.std.proofs.Common.{◌≡◌, ℕ, ◌+◌, ◌-◌, ◌<◌, ◌≤◌, List, [], ◌∷◌, ◌++◌, length, take, drop, Some, Ok, refl, sym, ap, ◌∙◌, subst, arith, length-append, length-drop, take_all, take_at}
use Rattle.std.specs.Prelude.{min}
use Rattle.std.proofs.lemmas.List.{drop_all}
use Rattle.sam_frame.specs.Stream.{FitInTurn, stream_of}
use Rattle.sam_link.specs.End.{End}
use Rattle.sam_link.specs.Feeding.{Feeds, fed, owes, tells}
use Rattle.sam_link.specs.Inbox.{GivesNote, Waiting, items_of, note_of, ready, ready_of}
use Rattle.sam_link.specs.Keeping.{Keeps, acknowledged, put}
use Rattle.sam_link.specs.Packets.{Packet, packets, top_of}
use Rattle.sam_link.specs.Packets.{Packet as packet}
use Rattle.sam_link.proofs.Packing.{ack_if, told_keeps}
use Rattle.sam_server.specs.HostLinks.{AreItems, HandsOut, IsHostEnd}
use Rattle.sam_server.specs.Servers.{waits_for}
use Rattle.sam_server.specs.declared.host_link.Next.{Next}
use Rattle.sam_server.specs.declared.host_link.Next.TheVariants as next

-- ## After a piece

all_items : (ps : List Packet) → FitInTurn packets 1 ps → AreItems (items_of ps)
all_items [] fit = tt
all_items (packet.Data bytes ∷ ps) fit = (fit.0, all_items ps fit.1)
all_items (packet.Note bytes ∷ ps) fit = (fit.0, all_items ps fit.1)
all_items (packet.Acknowledge count ∷ ps) fit = all_items ps fit.1
all_items (packet.Ask ∷ ps) fit = all_items ps fit.1

items_on : (ps qs : List Packet) → AreItems ps → AreItems qs → AreItems (ps ++ qs)
items_on [] qs a b = b
items_on (p ∷ ps) qs a b = (a.0, items_on ps qs a.1 b)

kept_inside : (k n : Keeps) (bytes : List ℕ) (top : ℕ) → k.sent ≤ length k.kept → n ≡ acknowledged (put k bytes) top → n.sent ≤ length n.kept
kept_inside k n bytes top inside is =
    let d = top - k.base in
    subst (λ (m : Keeps). m.sent ≤ length m.kept) (sym is)
    (omega (arith, inside, length-append k.kept bytes, length-drop d (k.kept ++ bytes)))

pub fed_well : (e n : End) (left attempt : ℕ) (piece : List ℕ) → IsHostEnd e left → Feeds e attempt piece (Ok tt) n → IsHostEnd n left
fed_well e n left attempt piece well (ps, len, may, front, unread, top, is) =
    let count = e.received + length piece in
    subst (λ (m : End). IsHostEnd m left) (sym is) (record {
      role = well.role;
      hello = well.hello;
      inside = kept_inside e.keeps (fed e piece ps len).keeps (stream_of packets (ack_if (tells e.keeps (owes e ps count)) count)) (top_of ps)
          well.inside
          (ap (λ (k : Keeps). acknowledged k (top_of ps)) (told_keeps e.keeps (owes e ps count) count));
      whole = well.whole;
      items = items_on e.waiting.packets (items_of ps) well.items (all_items ps front.splits.fit);
    })

-- ## After a packet left it

-- what a call of `take_in` brings where nothing is left of a packet: the data that is next, whole
pub record Took (qs : List Packet) (w : Waiting) (count : ℕ) (new : List ℕ) : Type 0 where
  pub rest : List Packet
  pub brief : count ≤ 4096
  pub was : qs ≡ packet.Data (take count new) ∷ rest
  pub part : drop count w.part ≡ []
  pub packets_are : w.packets ≡ rest
  pub items : AreItems rest

took : (part : List ℕ) (qs : List Packet) (count : ℕ) (old new : List ℕ) → part ≡ [] → AreItems qs → 4096 ≤ length old → 0 < count
    → count ≡ min (length (ready_of part qs).part) (length old) → new ≡ take count (ready_of part qs).part ++ drop count old
    → Took qs (ready_of part qs) count new
took (byte ∷ part) qs count old new none items room some count_is new_is = absurd (cc)
took [] [] count old new none items room some count_is new_is = absurd (omega (arith, some, count_is))
took [] (packet.Note bytes ∷ ps) count old new none items room some count_is new_is = absurd (omega (arith, some, count_is))
took [] (packet.Acknowledge n ∷ ps) count old new none items room some count_is new_is = absurd items.0
took [] (packet.Ask ∷ ps) count old new none items room some count_is new_is = absurd items.0
took [] (packet.Data bytes ∷ ps) count old new none items room some count_is new_is =
    let all : count ≡ length bytes = omega (arith, count_is, items.0.1, room) in
    let whole : take count bytes ≡ bytes = take_all count bytes (omega (arith, all)) in
    record {
      rest = ps;
      brief = omega (arith, all, items.0.1);
      was =
          ap (λ (l : List ℕ). packet.Data l ∷ ps) (sym (ap (λ (l : List ℕ). take count l) new_is
          ∙ take_at (take count bytes) (drop count old) count (ap length whole ∙ sym all) ∙ whole));
      part = drop_all count bytes (omega (arith, all));
      packets_are = refl;
      items = items.1;
    }

-- where it brings none, no data is next
pub record TookNone (qs : List Packet) (w : Waiting) (count : ℕ) : Type 0 where
  pub part : drop count w.part ≡ []
  pub packets_are : w.packets ≡ qs

took_none : (part : List ℕ) (qs : List Packet) (count : ℕ) (old : List ℕ) → part ≡ [] → AreItems qs → 4096 ≤ length old
    → (0 < count → ⊥) → count ≡ min (length (ready_of part qs).part) (length old) → TookNone qs (ready_of part qs) count
took_none (byte ∷ part) qs count old none items room not count_is = absurd (cc)
took_none [] [] count old none items room not count_is = record { part = drop_all count [] (omega arith); packets_are = refl }
took_none [] (packet.Note bytes ∷ ps) count old none items room not count_is =
    record { part = drop_all count [] (omega arith); packets_are = refl }
took_none [] (packet.Acknowledge n ∷ ps) count old none items room not count_is = absurd items.0
took_none [] (packet.Ask ∷ ps) count old none items room not count_is = absurd items.0
took_none [] (packet.Data bytes ∷ ps) count old none items room not count_is =
    absurd (not (omega (arith, count_is, items.0.0, room)))

-- ## What it hands out

pub record Handed (e n : End) (left : ℕ) (what : Next) (new : List ℕ) : Type 0 where
  pub out : HandsOut e what new n
  pub well : IsHostEnd n left

with_rest : (e : End) (left : ℕ) (rest : List Packet) → IsHostEnd e left → AreItems rest → IsHostEnd (waits_for e rest) left
with_rest e left rest well items =
    record { role = well.role; hello = well.hello; inside = well.inside; whole = well.whole; items = items }

pub data_handed : (e n : End) (left count : ℕ) (old new : List ℕ) → IsHostEnd e left → 4096 ≤ length old → 0 < count
    → count ≡ min (length (ready e.waiting).part) (length old) → new ≡ take count (ready e.waiting).part ++ drop count old
    → n ≡ record e { waiting = record { part = drop count (ready e.waiting).part; packets = (ready e.waiting).packets } }
    → Handed e n left (next.Data count) new
data_handed e n left count old new well room some count_is new_is is =
    let t = took e.waiting.part e.waiting.packets count old new well.whole well.items room some count_is new_is in
    let same : n ≡ waits_for e t.rest =
    is ∙ ap (λ (p : List ℕ). record e { waiting = record { part = p; packets = (ready e.waiting).packets } }) (t.part ∙ sym well.whole)
    ∙ ap (λ (p : List Packet). waits_for e p) t.packets_are in
    record {
      out = (t.rest, some, t.brief, t.was, same);
      well = subst (λ (m : End). IsHostEnd m left) (sym same) (with_rest e left t.rest well t.items);
    }

-- where no data was next, all stays
still_there : (e m : End) (left count : ℕ) (old : List ℕ) → IsHostEnd e left → 4096 ≤ length old → (0 < count → ⊥)
    → count ≡ min (length (ready e.waiting).part) (length old)
    → m ≡ record e { waiting = record { part = drop count (ready e.waiting).part; packets = (ready e.waiting).packets } }
    → m ≡ e
still_there e m left count old well room not count_is is =
    let t = took_none e.waiting.part e.waiting.packets count old well.whole well.items room not count_is in
    is ∙ ap (λ (p : List ℕ). record e { waiting = record { part = p; packets = (ready e.waiting).packets } }) t.part
    ∙ ap (λ (p : List Packet). record e { waiting = record { part = []; packets = p } }) t.packets_are
    ∙ ap (λ (p : List ℕ). record e { waiting = record { part = p; packets = e.waiting.packets } }) (sym well.whole)

note_next : (part : List ℕ) (qs rest : List Packet) (bytes : List ℕ) → AreItems qs → note_of part qs ≡ Some (bytes, rest)
    → (qs ≡ packet.Note bytes ∷ rest) × AreItems rest
note_next (byte ∷ part) qs rest bytes items is = absurd (cc)
note_next [] [] rest bytes items is = absurd (cc)
note_next [] (packet.Data b ∷ ps) rest bytes items is = absurd (cc)
note_next [] (packet.Acknowledge n ∷ ps) rest bytes items is = absurd items.0
note_next [] (packet.Ask ∷ ps) rest bytes items is = absurd items.0
note_next [] (packet.Note b ∷ ps) rest bytes items is =
    let both : (b, ps) ≡ (bytes, rest) = cc in
    let same : ps ≡ rest = ap (λ (x : List ℕ × List Packet). x.1) both in
    (ap (λ (x : List ℕ × List Packet). packet.Note x.0 ∷ x.1) both, subst AreItems same items.1)

note_handed : (e n : End) (left count : ℕ) (new : List ℕ) → IsHostEnd e left → count ≤ 4096
    → GivesNote e.waiting (Some (take count new)) n.waiting → n ≡ record e { waiting = n.waiting } → Handed e n left (next.Note count) new
note_handed e n left count new well brief gives is =
    let x = note_next e.waiting.part e.waiting.packets n.waiting.packets (take count new) well.items gives.0 in
    let same : n ≡ waits_for e n.waiting.packets =
    is ∙ ap (λ (p : List ℕ). record e { waiting = record { part = p; packets = n.waiting.packets } }) gives.1 in
    record {
      out = (n.waiting.packets, brief, x.0, same);
      well = subst (λ (m : End). IsHostEnd m left) (sym same) (with_rest e left n.waiting.packets well x.1);
    }

-- the same where a call of `take_in` came before, which brought nothing
pub note_after : (e m n : End) (left count none : ℕ) (old new : List ℕ) → IsHostEnd e left → 4096 ≤ length old → (0 < none → ⊥)
    → none ≡ min (length (ready e.waiting).part) (length old)
    → m ≡ record e { waiting = record { part = drop none (ready e.waiting).part; packets = (ready e.waiting).packets } }
    → count ≤ 4096 → GivesNote m.waiting (Some (take count new)) n.waiting → n ≡ record m { waiting = n.waiting }
    → Handed e n left (next.Note count) new
note_after e m n left count none old new well room not none_is mid brief gives is =
    let still = still_there e m left none old well room not none_is mid in
    note_handed e n left count new well brief (subst (λ (k : End). GivesNote k.waiting (Some (take count new)) n.waiting) still gives)
    (subst (λ (k : End). n ≡ record k { waiting = n.waiting }) still is)
