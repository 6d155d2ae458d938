-- What leaves a line.
use Rattle.std.proofs.Common.{◌≡◌, ℕ, ◌≤◌, List, [], ◌++◌, length, take, drop, min, sym, ap, ◌∙◌, arith}
use Rattle.std.proofs.lemmas.List.{length-take, take-append-le, take_all, take_min}
use Rattle.sam_link.specs.Inbox.{left_of, ready}
use Rattle.sam_line.specs.Line.{TakesIn}
use Rattle.sam_line.specs.declared.line.Line.{Line}
use Rattle.sam_client.specs.Packets.{next_bytes, without_bytes}

pub none_by_length : (bytes : List ℕ) (len : ℕ) → len ≤ length bytes → take len bytes ≡ [] → len ≡ 0
none_by_length bytes len inside none = omega (arith, inside, ap length none, length-take len bytes)

-- as many of them as a buffer of so many bytes has room for
fits : (part old : List ℕ) (count : ℕ) → length old ≡ 4096 → count ≡ min (length part) (length old)
    → (take count (take count part ++ drop count old) ≡ take 4096 part) × (count ≡ length (take 4096 part))
fits part old count room is =
    let least : count ≡ min 4096 (length part) = omega (arith, room, is) in
    let front : take count part ≡ take 4096 part = ap (λ n. take n part) least ∙ take_min 4096 part in
    let all : length (take count part) ≡ count = omega (arith, length-take count part, least) in (
      take-append-le count (take count part) (drop count old) (omega (arith, all)) ∙ take_all count (take count part) (omega (arith, all)) ∙ front,
      least ∙ sym (length-take 4096 part),
    )

-- as many bytes come into a buffer of 4,096 as there are of the packet in front
pub taken_in : (l n : Line) (old new : List ℕ) (count : ℕ) → length old ≡ 4096 → TakesIn l old count new n
    → (take count new ≡ next_bytes l) × (n ≡ without_bytes l)
taken_in l n old new count room ((is, bytes, link), rest) =
    let f = fits (ready l.link.waiting).part old count room is in (
      ap (take count) bytes ∙ f.0,
      rest ∙ ap (λ e. record l { link = e }) link ∙ ap (λ k. record l { link = record l.link { waiting = left_of l.link.waiting k } }) f.1,
    )
