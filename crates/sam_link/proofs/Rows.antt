-- Packets that stand one behind the other in the bytes of an inbox.
use Rattle.std.proofs.Common.{◌≡◌, ℕ, suc, ◌+◌, ◌-◌, ◌<◌, ◌≤◌, List, [], ◌∷◌, ◌++◌, length, take, drop, slice_index, refl, sym, ap, subst, ◌∙◌, arith, append_assoc, append-nil, length-append, drop-drop}
use Rattle.std.proofs.Math.Seq.{drop-append_seam, take-append_seam}
use Rattle.sam_frame.specs.Direction.{frame_of}
use Rattle.sam_frame.specs.Stream.{FitInTurn, stream_of}
use Rattle.sam_frame.specs.Splitting.{Front}
use Rattle.sam_frame.proofs.Fronts.{FitInTurn-append, stream_of-append}
use Rattle.sam_link.specs.Inbox.{IsRow, Stands, body_len, item_at, item_of, items_among, items_of}
use Rattle.sam_link.specs.Packets.{IsPacket, Packet, body_of, kind_of, packets}
use Rattle.sam_link.specs.Packets.Packet.{Data, Note, Acknowledge, Ask}
use Rattle.sam_link.proofs.PacketLaws.{short}
use Rattle.sam_link.proofs.Packing.{same_version}

-- ## The packet that stands first

body_short : (p : Packet) → IsPacket p → length (body_of p) ≤ 4096
body_short (Data bytes) good = good.1
body_short (Note bytes) good = good
body_short (Acknowledge count) good = omega arith
body_short Ask good = omega arith

a_kind : (p : Packet) → 1 ≤ kind_of p
a_kind (Data bytes) = omega arith
a_kind (Note bytes) = omega arith
a_kind (Acknowledge count) = omega arith
a_kind Ask = omega arith

item_is : (p : Packet) → item_at (kind_of p) (body_of p) ≡ item_of p
item_is (Data bytes) = refl
item_is (Note bytes) = refl
item_is (Acknowledge count) = refl
item_is Ask = refl

abbrev bytes_from : Packet → List ℕ → List ℕ
bytes_from p rest = frame_of packets p ++ rest

len_read : (p : Packet) (rest : List ℕ) → IsPacket p → body_len (bytes_from p rest) ≡ length (body_of p)
len_read p rest good = let small = short p good in omega (arith, small)

frame_long : (p : Packet) (rest : List ℕ) → IsPacket p → 3 + body_len (bytes_from p rest) ≡ length (frame_of packets p)
frame_long p rest good = omega (arith, (len_read p rest good))

behind : (p : Packet) (rest : List ℕ) → IsPacket p → drop (3 + body_len (bytes_from p rest)) (bytes_from p rest) ≡ rest
behind p rest good = ap (λ n. drop n (bytes_from p rest)) (frame_long p rest good) ∙ drop-append_seam (frame_of packets p) rest

body_read : (p : Packet) (rest : List ℕ) → IsPacket p → take (body_len (bytes_from p rest)) (drop 3 (bytes_from p rest)) ≡ body_of p
body_read p rest good = ap (λ n. take n (body_of p ++ rest)) (len_read p rest good) ∙ take-append_seam (body_of p) rest

-- what is at the front of so many packets that take so many bytes
pub record HasFirst (bytes : List ℕ) (count len : ℕ) : Type 0 where
  pub some : 1 ≤ slice_index bytes 0
  pub brief : body_len bytes ≤ 4096
  pub inside : 3 + body_len bytes ≤ len
  pub rest : IsRow (drop (3 + body_len bytes) bytes) (count - 1) (len - (3 + body_len bytes))
  pub items : items_among count bytes ≡ item_at (slice_index bytes 0) (take (body_len bytes) (drop 3 bytes)) ++ items_among (count - 1) (drop (3 + body_len bytes) bytes)

-- ## Rows

pub row_of : (ps : List Packet) (rest : List ℕ) → FitInTurn packets 1 ps → IsRow (stream_of packets ps ++ rest) (length ps) (length (stream_of packets ps))
row_of ps rest fit =
    record {
      ps = ps;
      front = record {
        splits = record { whole = ap (λ r. stream_of packets ps ++ r) (sym (drop-append_seam (stream_of packets ps) rest)); fit = fit };
        version_is = sym (same_version ps);
        len_is = refl;
        inside = omega (arith, (length-append (stream_of packets ps) rest));
      };
      count_is = refl;
    }

pub row_to : (bytes rest : List ℕ) (ps : List Packet) (count len : ℕ) → bytes ≡ stream_of packets ps ++ rest → FitInTurn packets 1 ps → count ≡ length ps
    → len ≡ length (stream_of packets ps) → IsRow bytes count len
row_to bytes rest ps count len whole fit count_is len_is = rw (whole, count_is, len_is) (row_of ps rest fit)

items_step : (n : ℕ) (bytes : List ℕ) → items_among (suc n) bytes ≡ item_at (slice_index bytes 0) (take (body_len bytes) (drop 3 bytes)) ++ items_among n (drop (3 + body_len bytes) bytes)
unfolding items_among
items_step n bytes = refl

first_is : (p : Packet) (ps : List Packet) (rest : List ℕ) → IsPacket p → FitInTurn packets 1 ps
    → HasFirst (bytes_from p (stream_of packets ps ++ rest)) (suc (length ps)) (length (stream_of packets (p ∷ ps)))
first_is p ps rest good fit =
    let here = bytes_from p (stream_of packets ps ++ rest) in
    let long = frame_long p (stream_of packets ps ++ rest) good in
    let all = length-append (frame_of packets p) (stream_of packets ps) in
    record {
      some = a_kind p;
      brief = omega (arith, (len_read p (stream_of packets ps ++ rest) good), (body_short p good));
      inside = omega (arith, long, all);
      rest = row_to (drop (3 + body_len here) here) rest ps (suc (length ps) - 1) (length (stream_of packets (p ∷ ps)) - (3 + body_len here))
          (behind p (stream_of packets ps ++ rest) good) fit (omega arith) (omega (arith, long, all));
      items = items_step (length ps) here ∙ ap (λ n. item_at (slice_index here 0) (take (body_len here) (drop 3 here)) ++ items_among n (drop (3 + body_len here) here)) (omega arith);
    }

first_at : (p : Packet) (ps : List Packet) (bytes rest : List ℕ) (count len : ℕ) → bytes ≡ bytes_from p (stream_of packets ps ++ rest) → count ≡ suc (length ps)
    → len ≡ length (stream_of packets (p ∷ ps)) → IsPacket p → FitInTurn packets 1 ps → HasFirst bytes count len
first_at p ps bytes rest count len whole is long good fit = rw (whole, is, long) (first_is p ps rest good fit)

first_of : (ps : List Packet) (bytes : List ℕ) (count len : ℕ) → Front packets 1 bytes ps 1 len → count ≡ length ps → 0 < count → HasFirst bytes count len
first_of [] bytes count len front is some = absurd (omega (arith, is, some))
first_of (p ∷ ps) bytes count len front is some =
    first_at p ps bytes (drop len bytes) count len (front.splits.whole ∙ append_assoc (frame_of packets p) (stream_of packets ps) (drop len bytes)) is front.len_is
    front.splits.fit.0 front.splits.fit.1

pub row_first : (bytes : List ℕ) (count len : ℕ) → IsRow bytes count len → 0 < count → HasFirst bytes count len
row_first bytes count len r some = first_of r.ps bytes count len r.front r.count_is some

-- ## What of them is for the program

pub items_then : (ps : List Packet) (rest : List ℕ) (m : ℕ) → FitInTurn packets 1 ps → items_among (length ps + m) (stream_of packets ps ++ rest) ≡ items_of ps ++ items_among m rest
items_then [] rest m fit = ap (λ n. items_among n rest) (omega arith)
items_then (p ∷ ps) rest m fit =
    let tail = stream_of packets ps ++ rest in
    ap (λ n. items_among n (stream_of packets (p ∷ ps) ++ rest)) (omega arith)
    ∙ ap (λ b. items_among (suc (length ps + m)) b) (append_assoc (frame_of packets p) (stream_of packets ps) rest)
    ∙ items_step (length ps + m) (bytes_from p tail)
    ∙ ap (λ b. item_at (kind_of p) b ++ items_among (length ps + m) (drop (3 + body_len (bytes_from p tail)) (bytes_from p tail))) (body_read p tail fit.0)
    ∙ ap (λ i. i ++ items_among (length ps + m) (drop (3 + body_len (bytes_from p tail)) (bytes_from p tail))) (item_is p)
    ∙ ap (λ b. item_of p ++ items_among (length ps + m) b) (behind p tail fit.0)
    ∙ ap (λ i. item_of p ++ i) (items_then ps rest m fit.1)
    ∙ sym (append_assoc (item_of p) (items_of ps) (items_among m rest))

pub items_none : (bytes : List ℕ) → items_among 0 bytes ≡ []
unfolding items_among
items_none bytes = refl

-- what its packets have for the program
pub items_is : (bytes rest : List ℕ) (ps : List Packet) (count : ℕ) → bytes ≡ stream_of packets ps ++ rest → count ≡ length ps → FitInTurn packets 1 ps → items_among count bytes ≡ items_of ps
items_is bytes rest ps count whole is fit =
    ap (items_among count) whole
    ∙ ap (λ n. items_among n (stream_of packets ps ++ rest)) (omega (arith, is))
    ∙ items_then ps rest 0 fit
    ∙ ap (λ i. items_of ps ++ i) (items_none rest)
    ∙ append-nil (items_of ps)

pub items_more : (bytes : List ℕ) (count len m : ℕ) → IsRow bytes count len → items_among (count + m) bytes ≡ items_among count bytes ++ items_among m (drop len bytes)
items_more bytes count len m r =
    let e = r.front.splits.whole in
    let all : items_among (length r.ps + m) bytes ≡ items_of r.ps ++ items_among m (drop len bytes) =
    ap (λ b. items_among (length r.ps + m) b) e ∙ items_then r.ps (drop len bytes) m r.front.splits.fit in
    ap (λ n. items_among (n + m) bytes) r.count_is ∙ all
    ∙ ap (λ i. i ++ items_among m (drop len bytes)) (sym (items_is bytes (drop len bytes) r.ps count e r.count_is r.front.splits.fit))

-- one row behind another
pub row_more : (bytes : List ℕ) (count len more long : ℕ) → IsRow bytes count len → IsRow (drop len bytes) more long → IsRow bytes (count + more) (len + long)
row_more bytes count len more long r q =
    row_to bytes (drop long (drop len bytes)) (r.ps ++ q.ps) (count + more) (len + long)
    (r.front.splits.whole ∙ ap (λ b. stream_of packets r.ps ++ b) q.front.splits.whole
    ∙ sym (append_assoc (stream_of packets r.ps) (stream_of packets q.ps) (drop long (drop len bytes)))
    ∙ ap (λ b. b ++ drop long (drop len bytes)) (sym (stream_of-append packets r.ps q.ps)))
    (FitInTurn-append packets 1 r.ps q.ps r.front.splits.fit (subst (λ v. FitInTurn packets v q.ps) (sym (same_version r.ps)) q.front.splits.fit))
    (grind (arith, (length-append r.ps q.ps), (r.count_is), (q.count_is)))
    (grind (arith, (ap length (stream_of-append packets r.ps q.ps)), (length-append (stream_of packets r.ps) (stream_of packets q.ps)), (r.front.len_is), (q.front.len_is)))

pub row_at : (a b : List ℕ) (count m n : ℕ) → a ≡ b → m ≡ n → IsRow a count m → IsRow b count n
row_at a b count m n e f r = subst (λ l. IsRow l count n) e (subst (λ k. IsRow a count k) f r)

not_item : (kind : ℕ) (body : List ℕ) → 2 < kind → item_at kind body ≡ []
not_item kind body other = grind arith

-- a packet that is not for the program is passed
pub passed : (row rest : List ℕ) (count len at left kind n : ℕ) → at ≤ len → IsRow (drop at row) left (len - at) → items_among left (drop at row) ≡ items_among count row
    → 0 < left → rest ≡ drop at row → kind ≡ slice_index rest 0 → n ≡ body_len rest → 2 < kind
    → (at + (3 + n) ≤ len) × IsRow (drop (at + (3 + n)) row) (left - 1) (len - (at + (3 + n))) × (items_among (left - 1) (drop (at + (3 + n)) row) ≡ items_among count row)
passed row rest count len at left kind n inside r items some is kind_is n_is other =
    let first = row_first (drop at row) left (len - at) r some in
    let same : n ≡ body_len (drop at row) = n_is ∙ ap body_len is in
    let step : drop (3 + n) (drop at row) ≡ drop (at + (3 + n)) row = drop-drop (3 + n) at row in
    let there : drop (3 + body_len (drop at row)) (drop at row) ≡ drop (at + (3 + n)) row = ap (λ k. drop (3 + k) (drop at row)) (sym same) ∙ step in
    let none = not_item (slice_index (drop at row) 0) (take (body_len (drop at row)) (drop 3 (drop at row))) (subst (λ k. 2 < k) (kind_is ∙ ap (λ b. slice_index b 0) is) other) in (
      omega (arith, (first.inside), same, inside),
      row_at (drop (3 + body_len (drop at row)) (drop at row)) (drop (at + (3 + n)) row) (left - 1) (len - at - (3 + body_len (drop at row))) (len - (at + (3 + n)))
          there (omega (arith, same)) first.rest,
      ap (λ b. items_among (left - 1) b) (sym there) ∙ sym (ap (λ i. i ++ items_among (left - 1) (drop (3 + body_len (drop at row)) (drop at row))) none) ∙ sym first.items ∙ items,
    )

-- ## The first packet for the program

abbrev rest_of : List ℕ → ℕ → List ℕ
rest_of row at = drop at row

-- where a head stands at `at`, the body of its packet stands behind it
pub stands : (row : List ℕ) (count len at left kind n : ℕ) (item : List ℕ → Packet) → at ≤ len → IsRow (drop at row) left (len - at)
    → items_among left (drop at row) ≡ items_among count row → 0 < left → n ≡ body_len (drop at row)
    → ((body : List ℕ) → item_at (slice_index (drop at row) 0) body ≡ item body ∷ [])
    → Stands row count len (record { start = at + 3; len = n; left = left - 1 }) item
stands row count len at left kind n item inside r items some is shown =
    let first = row_first (drop at row) left (len - at) r some in
    let there : drop (3 + body_len (drop at row)) (drop at row) ≡ drop (at + 3 + n) row =
    ap (λ k. drop (3 + k) (drop at row)) (sym is) ∙ drop-drop (3 + n) at row ∙ ap (λ k. drop k row) (omega arith) in
    record {
      inside = omega (arith, (first.inside), is, inside);
      brief = omega (arith, (first.brief), is);
      behind = row_at (drop (3 + body_len (drop at row)) (drop at row)) (drop (at + 3 + n) row) (left - 1) (len - at - (3 + body_len (drop at row))) (len - (at + 3 + n))
          there (omega (arith, is)) first.rest;
      items = sym items ∙ first.items
          ∙ ap (λ i. i ++ items_among (left - 1) (drop (3 + body_len (drop at row)) (drop at row))) (shown (take (body_len (drop at row)) (drop 3 (drop at row))))
          ∙ ap (λ b. item b ∷ items_among (left - 1) (drop (3 + body_len (drop at row)) (drop at row)))
          (ap (λ k. take k (drop 3 (drop at row))) (sym is) ∙ ap (take n) (drop-drop 3 at row))
          ∙ ap (λ b. item (take n (drop (at + 3) row)) ∷ items_among (left - 1) b) there;
    }

pub none_left : (row : List ℕ) (count at left : ℕ) → left ≡ 0 → items_among left (drop at row) ≡ items_among count row → items_among count row ≡ []
none_left row count at left none items = sym items ∙ ap (λ n. items_among n (drop at row)) none ∙ items_none (drop at row)

pub shows_data : (kind : ℕ) (body : List ℕ) → kind ≡ 1 → item_at kind body ≡ Data body ∷ []
shows_data kind body is = grind arith

pub shows_note : (kind : ℕ) (body : List ℕ) → 1 ≤ kind → kind ≤ 2 → (kind ≡ 1 → ⊥) → item_at kind body ≡ Note body ∷ []
shows_note kind body some few other = grind arith

stream_long : (ps : List Packet) → length ps ≤ length (stream_of packets ps)
stream_long [] = omega arith
stream_long (p ∷ ps) = omega (arith, (stream_long ps), (length-append (frame_of packets p) (stream_of packets ps)))

-- a packet takes a byte at least
pub fewer : (bytes : List ℕ) (count len : ℕ) → IsRow bytes count len → count ≤ len
fewer bytes count len r = omega (arith, (stream_long r.ps), (r.count_is), (r.front.len_is))
