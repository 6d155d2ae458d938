-- Taking in again and again, as calls.
use Rattle.std.proofs.Common.{◌≡◌, ℕ, zero, suc, ◌+◌, ◌≤◌, List, [], ◌∷◌, ◌++◌, length, min, take, drop, map, Ok, Err, Result, refl, sym, ap, subst, ◌∙◌, arith, append-nil, length-drop, length-take, take-append-drop}
use Rattle.std.specs.Prelude.{flat_map}
use Rattle.std.proofs.Math.Seq.{take-add, take-length}
use Rattle.std.proofs.lemmas.List.{map-append}
use Rattle.std.proofs.lemmas.List.Elements.{All-append, All-cons, All-nil}
use Rattle.sam_link.specs.Calls.{Byte, Call, Does, DoesAll, DoesInto, DoesPlaces, IsTakeIn, Item, Moves, handed, handed_by}
use Rattle.sam_link.specs.Calls.Call.{TakeIn}
use Rattle.sam_link.specs.End.{End}
use Rattle.sam_link.specs.Feeding.{FeedsInto, FeedsPlaces}
use Rattle.sam_link.specs.Inbox.{TakesOften, TakesPlaces, Waiting, left_of, ready, stretch}
use Rattle.sam_link.specs.declared.fault.FeedFault.{FeedFault}
use Rattle.sam_link.specs.declared.inbox.Place.{Place}
use Rattle.sam_link.proofs.OwnMoves.{with_last}

one_after : (e m n : End) (calls : List Call) (call : Call) → DoesAll e calls m → Does m call n → DoesAll e (calls ++ call ∷ []) n
one_after e m n [] call all last = (n, subst (λ x. Does x call n) all last, refl)
one_after e m n (c ∷ calls) call all last = (all.0, all.1, one_after all.0 m n calls call all.2 last)

moved_more : (before more : ℕ) (into new : List ℕ) (calls : List Call) (call : Call) → handed calls ≡ map Byte (take before into)
    → handed_by call ≡ map Byte (take more (drop before new)) → take before new ≡ take before into → handed (calls ++ call ∷ []) ≡ map Byte (take (before + more) new)
moved_more before more into new calls call all last front =
    with_last handed_by calls call
    ∙ ap (λ (l : List Item). l ++ handed_by call) (all ∙ ap (map Byte) (sym front))
    ∙ ap (λ (l : List Item). map Byte (take before new) ++ l) last
    ∙ sym (map-append Byte (take before new) (take more (drop before new)))
    ∙ ap (map Byte) (sym (take-add before more new))

pub as_takes : (often : ℕ) (e : End) (old : List ℕ) (count : ℕ) (new : List ℕ) (w : Waiting) → TakesOften often e.waiting old count new w
    → Moves e (take count new) (record e { waiting = w })
as_takes zero e old count new w takes =
    record {
      takes = [];
      are = All-nil IsTakeIn;
      does = ap (λ v. record e { waiting = v }) takes.2;
      moved = ap (λ n. map Byte (take n new)) (sym takes.0);
    }
as_takes (suc often) e old count new w takes =
    let before = as_takes often e old takes.1 takes.3 takes.0 takes.4 in
    let m = record e { waiting = takes.0 } in
    let n = record e { waiting = w } in
    let call = TakeIn (drop takes.1 takes.3) takes.2 (drop takes.1 new) in
    record {
      takes = before.takes ++ call ∷ [];
      are = All-append IsTakeIn before.takes (call ∷ []) before.are (All-cons IsTakeIn call [] tt (All-nil IsTakeIn));
      does = one_after e m n before.takes call before.does (takes.7.0, takes.7.1, ap (λ v. record e { waiting = v }) takes.7.2);
      moved = moved_more takes.1 takes.2 takes.3 new before.takes call before.moved refl takes.6 ∙ ap (λ k. map Byte (take k new)) (sym takes.5);
    }

one_more : (e m n : End) (bytes : List ℕ) (call : Call) → Moves e bytes m → Does m call n → IsTakeIn call → handed_by call ≡ [] → Moves e bytes n
one_more e m n bytes call before does is none =
    record {
      takes = before.takes ++ call ∷ [];
      are = All-append IsTakeIn before.takes (call ∷ []) before.are (All-cons IsTakeIn call [] is (All-nil IsTakeIn));
      does = one_after e m n before.takes call before.does does;
      moved = with_last handed_by before.takes call ∙ ap (λ (l : List Item). handed before.takes ++ l) none ∙ append-nil (handed before.takes) ∙ before.moved;
    }

pub as_calls : (e : End) (attempt : ℕ) (piece old : List ℕ) (result : Result ℕ FeedFault) (new : List ℕ) (n : End) → FeedsInto e attempt piece old result new n
    → DoesInto e attempt piece result new n
as_calls e attempt piece old (Ok count) new n f =
    let all = as_takes f.2.0 f.0 old count new f.2.1 f.2.2 in
    let last = record f.0 { waiting = n.waiting } in (
      f.0,
      f.1,
      subst (λ x. Moves f.0 (take count new) x) (sym f.3)
          (one_more f.0 (record f.0 { waiting = f.2.1 }) last (take count new) (TakeIn (drop count new) 0 (drop count new)) all
          (f.2.3.0, f.2.3.1, ap (λ v. record f.0 { waiting = v }) f.2.3.2) tt refl),
    )
as_calls e attempt piece old (Err fault) new n f = f.0

place_long : (piece : List ℕ) (p : Place) → p.start + p.len ≤ length piece → length (stretch piece p) ≡ p.len
place_long piece p inside = omega (arith, inside, (length-take p.len (drop p.start piece)), (length-drop p.start piece))

as_places : (piece : List ℕ) (ps : List Place) (e : End) (w : Waiting) → TakesPlaces piece e.waiting ps w
    → Moves e (flat_map (stretch piece) ps) (record e { waiting = w })
as_places piece [] e w takes =
    record { takes = []; are = All-nil IsTakeIn; does = ap (λ v. record e { waiting = v }) takes; moved = refl }
as_places piece (p ∷ ps) e w takes =
    let m = record e { waiting = left_of e.waiting p.len } in
    let rest = as_places piece ps m w takes.1 in
    let bytes = stretch piece p in
    let long = place_long piece p takes.0.0 in
    let call = TakeIn bytes p.len bytes in
    let count : p.len ≡ min (length (ready e.waiting).part) (length bytes) = omega (arith, long, (ap length takes.0.1)) in
    let came : bytes ≡ take p.len (ready e.waiting).part ++ drop p.len bytes =
    sym (take-append-drop p.len bytes) ∙ ap (λ b. take p.len b ++ drop p.len bytes) takes.0.1 in
    record {
      takes = call ∷ rest.takes;
      are = All-cons IsTakeIn call rest.takes tt rest.are;
      does = (m, (count, came, refl), rest.does);
      moved = ap (λ b. map Byte b ++ handed rest.takes) (ap (λ n. take n bytes) (sym long) ∙ take-length bytes)
          ∙ ap (λ (l : List Item). map Byte bytes ++ l) rest.moved
          ∙ sym (map-append Byte bytes (flat_map (stretch piece) ps));
    }

pub places_as_calls : (e : End) (attempt : ℕ) (piece : List ℕ) (old : List Place) (result : Result ℕ FeedFault) (new : List Place) (n : End)
    → FeedsPlaces e attempt piece old result new n → DoesPlaces e attempt piece result new n
places_as_calls e attempt piece old (Ok count) new n f =
    (f.0, f.1, subst (λ x. Moves f.0 (flat_map (stretch piece) (take count new)) x) (sym f.5) (as_places piece (take count new) f.0 n.waiting f.4))
places_as_calls e attempt piece old (Err fault) new n f = f.0
