-- Where what came lies in an inbox.
use Rattle.std.proofs.Common.{◌≡◌, ℕ, ◌+◌, ◌-◌, ◌≤◌, List, [], ◌++◌, length, take, drop, refl, sym, ap, subst, ◌∙◌, arith, append_assoc, length-append, length-drop, length-take, drop-drop, take-append-drop}
use Rattle.std.proofs.lemmas.List.{drop-append-le, drop-take, take-append-le}
use Rattle.std.proofs.Math.Seq.{drop-append_seam, take-add, take-append_seam}
use Rattle.sam_frame.specs.Stream.{stream_of}
use Rattle.sam_link.specs.Inbox.{Arrived, IsInbox, IsRow, Waiting, arrived, items_among, lying, nothing}
use Rattle.sam_link.specs.Packets.{Packet, packets}
use Rattle.std.specs.Prelude.{OnOk, Result, Ok, Err, is_ok, if◌then◌else◌}
use Rattle.std.specs.declared.alloc.AllocError.{AllocError}
use Rattle.sam_link.specs.declared.inbox.Marks.{Marks}
use Rattle.sam_link.proofs.Rows.{items_is, items_more, row_at, row_more, row_to}

abbrev waits_as : List ℕ → List Packet → Waiting
waits_as part ps = record { part = part; packets = ps }

abbrev lies_as : List ℕ → List ℕ → List Packet → Arrived
lies_as held part ps = record { held = held; waiting = waits_as part ps }

abbrev with_held : List ℕ → Arrived → Arrived
with_held held a = record a { held = held }

same_arrived : (h k p q : List ℕ) (ps qs : List Packet) → h ≡ k → p ≡ q → ps ≡ qs → lies_as h p ps ≡ lies_as k q qs
same_arrived h k p q ps qs a b c = ap (λ x. lies_as x p ps) a ∙ ap (λ x. lies_as k x ps) b ∙ ap (λ x. lies_as k q x) c

no_packets : lies_as [] (take 0 []) (items_among 0 []) ≡ lies_as [] [] []
unfolding items_among
no_packets = refl

pub nothing_came : (bytes : List ℕ) → bytes ≡ [] → arrived bytes 0 0 0 0 ≡ lies_as [] [] []
nothing_came bytes is = subst (λ b. arrived b 0 0 0 0 ≡ lies_as [] [] []) (sym is) no_packets

pub nothing_at : (bytes : List ℕ) (m : Marks) → bytes ≡ [] → m ≡ record { gone = 0; next = 0; whole = 0; count = 0 } → lying m bytes ≡ nothing
nothing_at bytes m none is = ap (λ k. lying k bytes) is ∙ nothing_came bytes none

-- ## Bytes behind a row

row_grown : (b tail : List ℕ) (count len : ℕ) → IsRow b count len → IsRow (b ++ tail) count len
row_grown b tail count len r =
    row_to (b ++ tail) (drop len b ++ tail) r.ps count len (ap (λ x. x ++ tail) r.front.splits.whole ∙ append_assoc (stream_of packets r.ps) (drop len b) tail)
    r.front.splits.fit r.count_is r.front.len_is

first_bytes : (s d : List ℕ) (n : ℕ) → n ≡ length s → take n (s ++ d) ≡ s
first_bytes s d n is = ap (λ k. take k (s ++ d)) is ∙ take-append_seam s d

row_cut : (b tail : List ℕ) (count len : ℕ) → len ≤ length b → IsRow (b ++ tail) count len → IsRow b count len
row_cut b tail count len inside r =
    let s = stream_of packets r.ps in
    let same : take len b ≡ s =
    sym (take-append-le len b tail inside) ∙ ap (take len) r.front.splits.whole ∙ first_bytes s (drop len (b ++ tail)) len r.front.len_is in
    row_to b (drop len b) r.ps count len (sym (take-append-drop len b) ∙ ap (λ x. x ++ drop len b) same) r.front.splits.fit r.count_is r.front.len_is

items_same : (b tail : List ℕ) (count len : ℕ) → IsRow b count len → items_among count (b ++ tail) ≡ items_among count b
items_same b tail count len r =
    items_is (b ++ tail) (drop len b ++ tail) r.ps count
    (ap (λ x. x ++ tail) r.front.splits.whole ∙ append_assoc (stream_of packets r.ps) (drop len b) tail) r.count_is r.front.splits.fit
    ∙ sym (items_is b (drop len b) r.ps count r.front.splits.whole r.count_is r.front.splits.fit)

-- ## What is held

front_long : (bytes : List ℕ) (whole : ℕ) → whole ≤ length bytes → length (take whole bytes) ≡ whole
front_long bytes whole inside = omega (arith, (length-take whole bytes), inside)

behind_front : (front held : List ℕ) (n : ℕ) → n ≤ length front → drop n (front ++ held) ≡ drop n front ++ held
behind_front front held n inside = drop-append-le n front held inside

drop_front : (front held : List ℕ) (whole : ℕ) → length front ≡ whole → drop whole (front ++ held) ≡ held
drop_front front held whole long = ap (λ n. drop n (front ++ held)) (sym long) ∙ drop-append_seam front held

inbox_of : (front held : List ℕ) (gone next whole count : ℕ) → length front ≡ whole → gone ≤ next → next ≤ whole → IsRow (drop next front) count (whole - next)
    → IsInbox (front ++ held) gone next whole count
inbox_of front held gone next whole count long begun behind r =
    record {
      begun = begun;
      behind = behind;
      inside = omega (arith, (length-append front held), long);
      row = subst (λ b. IsRow b count (whole - next)) (sym (behind_front front held next (omega (arith, long, behind))))
          (row_grown (drop next front) held count (whole - next) r);
    }

arrived_of : (front held : List ℕ) (gone next whole count : ℕ) → length front ≡ whole → gone ≤ next → next ≤ whole → IsRow (drop next front) count (whole - next)
    → arrived (front ++ held) gone next whole count ≡ lies_as held (take (next - gone) (drop gone front)) (items_among count (drop next front))
arrived_of front held gone next whole count long begun behind r =
    same_arrived (drop whole (front ++ held)) held (take (next - gone) (drop gone (front ++ held))) (take (next - gone) (drop gone front))
    (items_among count (drop next (front ++ held))) (items_among count (drop next front))
    (drop_front front held whole long)
    (ap (take (next - gone)) (behind_front front held gone (omega (arith, long, begun, behind)))
    ∙ take-append-le (next - gone) (drop gone front) held (omega (arith, (length-drop gone front), long, behind)))
    (ap (items_among count) (behind_front front held next (omega (arith, long, behind)))
    ∙ items_same (drop next front) held count (whole - next) r)

in_front : (bytes : List ℕ) (gone next whole count : ℕ) → IsInbox bytes gone next whole count → IsRow (drop next (take whole bytes)) count (whole - next)
in_front bytes gone next whole count i =
    let long = front_long bytes whole i.inside in
    let e : drop next bytes ≡ drop next (take whole bytes) ++ drop whole bytes =
    ap (drop next) (sym (take-append-drop whole bytes)) ∙ behind_front (take whole bytes) (drop whole bytes) next (omega (arith, long, (i.behind))) in
    row_cut (drop next (take whole bytes)) (drop whole bytes) count (whole - next) (omega (arith, (length-drop next (take whole bytes)), long))
    (subst (λ b. IsRow b count (whole - next)) e i.row)

-- other bytes are held
pub other_held : (bytes new held : List ℕ) (gone next whole count : ℕ) → IsInbox bytes gone next whole count → new ≡ take whole bytes ++ held
    → IsInbox new gone next whole count × (arrived new gone next whole count ≡ record (arrived bytes gone next whole count) { held = held })
other_held bytes new held gone next whole count i is =
    let front = take whole bytes in
    let long = front_long bytes whole i.inside in
    let r = in_front bytes gone next whole count i in
    let old : arrived bytes gone next whole count ≡ lies_as (drop whole bytes) (take (next - gone) (drop gone front)) (items_among count (drop next front)) =
    ap (λ b. arrived b gone next whole count) (sym (take-append-drop whole bytes)) ∙ arrived_of front (drop whole bytes) gone next whole count long i.begun i.behind r in (
      subst (λ b. IsInbox b gone next whole count) (sym is) (inbox_of front held gone next whole count long i.begun i.behind r),
      ap (λ b. arrived b gone next whole count) is ∙ arrived_of front held gone next whole count long i.begun i.behind r ∙ sym (ap (with_held held) old),
    )

pub held_more : (bytes piece : List ℕ) (whole : ℕ) → bytes ++ piece ≡ take whole bytes ++ (drop whole bytes ++ piece)
held_more bytes piece whole = ap (λ b. b ++ piece) (sym (take-append-drop whole bytes)) ∙ append_assoc (take whole bytes) (drop whole bytes) piece

pub piece_held : (result : Result (Unit {0}) AllocError) (bytes new piece : List ℕ) (gone next whole count : ℕ) → IsInbox bytes gone next whole count
    → new ≡ (if is_ok result then bytes ++ piece else bytes)
    → OnOk result (arrived new gone next whole count ≡ record (arrived bytes gone next whole count) { held = drop whole bytes ++ piece })
piece_held (Ok done) bytes new piece gone next whole count i is = (other_held bytes new (drop whole bytes ++ piece) gone next whole count i (is ∙ held_more bytes piece whole)).1
piece_held (Err why) bytes new piece gone next whole count i is = tt

pub held_less : (bytes new : List ℕ) (whole len : ℕ) → new ≡ take (whole + len) bytes → new ≡ take whole bytes ++ take len (drop whole bytes)
held_less bytes new whole len is = is ∙ take-add whole len bytes

-- ## Packets that are whole

between : (bytes : List ℕ) (next whole : ℕ) → next ≤ whole → drop (whole - next) (drop next bytes) ≡ drop whole bytes
between bytes next whole behind = drop-drop (whole - next) next bytes ∙ ap (λ n. drop n bytes) (omega (arith, behind))

pub taken_whole : (bytes : List ℕ) (gone next whole count more len : ℕ) → IsInbox bytes gone next whole count → IsRow (drop whole bytes) more len
    → IsInbox bytes gone next (whole + len) (count + more)
    × (arrived bytes gone next (whole + len) (count + more)
    ≡ lies_as (drop len (drop whole bytes)) (take (next - gone) (drop gone bytes)) (items_among count (drop next bytes) ++ items_among more (drop whole bytes)))
taken_whole bytes gone next whole count more len i q =
    let here = between bytes next whole i.behind in
    let next_row : IsRow (drop next bytes) (count + more) (whole - next + len) =
    row_more (drop next bytes) count (whole - next) more len i.row (subst (λ b. IsRow b more len) (sym here) q) in (
      record {
        begun = i.begun;
        behind = omega (arith, (i.behind));
        inside = omega (arith, (q.front.inside), (length-drop whole bytes), (i.inside));
        row = row_at (drop next bytes) (drop next bytes) (count + more) (whole - next + len) (whole + len - next) refl (omega (arith, (i.behind))) next_row;
      },
      same_arrived (drop (whole + len) bytes) (drop len (drop whole bytes)) (take (next - gone) (drop gone bytes)) (take (next - gone) (drop gone bytes))
          (items_among (count + more) (drop next bytes)) (items_among count (drop next bytes) ++ items_among more (drop whole bytes))
          (sym (drop-drop len whole bytes)) refl
          (items_more (drop next bytes) count (whole - next) more i.row ∙ ap (λ b. items_among count (drop next bytes) ++ items_among more b) here),
    )

-- ## Data is taken

pub part_taken : (bytes : List ℕ) (gone next whole count n : ℕ) → n ≤ next - gone
    → arrived bytes (gone + n) next whole count ≡ lies_as (drop whole bytes) (drop n (take (next - gone) (drop gone bytes))) (items_among count (drop next bytes))
part_taken bytes gone next whole count n inside =
    ap (λ p. lies_as (drop whole bytes) p (items_among count (drop next bytes)))
    (ap (take (next - (gone + n))) (sym (drop-drop n gone bytes)) ∙ sym (drop-take n (next - (gone + n)) (drop gone bytes))
    ∙ ap (λ k. drop n (take k (drop gone bytes))) (omega (arith, inside)))
