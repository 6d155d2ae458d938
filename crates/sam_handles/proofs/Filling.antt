-- A buffer that is filled rune by rune.
use Rattle.std.proofs.Common.{◌≡◌, ◌∙◌, refl, sym, ap, ℕ, ◌+◌, ◌<◌, ◌≤◌, List, ◌++◌, length, length-append, take, drop, Some, None, encode_utf8, arith, encode_utf8_all, append-nil, drop-drop, length-drop, get_or}
use Rattle.std.proofs.Math.Seq.{take-append_seam, drop-append-add}
use Rattle.sam_runes.proofs.Codes.{spelled-more, counted-more}
use Rattle.sam_handles.specs.Buffers.{Puts, Fills}
use Rattle.sam_handles.specs.declared.utf8.Filled.{Filled}

-- after the first i runes: their bytes stand in the buffer, and after them what stood there before
pub record Stands (runes before now : List ℕ) (i bytes : ℕ) : Type 0 where
  bytes_are : bytes ≡ length (encode_utf8_all (take i runes))
  room : bytes ≤ length before
  now_is : now ≡ encode_utf8_all (take i runes) ++ drop bytes before

pub starts : (runes before : List ℕ) → Stands runes before before 0 0
starts runes before = record { bytes_are = refl; room = omega arith; now_is = refl }

size-now : (runes before now : List ℕ) (i bytes : ℕ) → Stands runes before now i bytes → length now ≡ length before
size-now runes before now i bytes s = grind (arith, length-append, length-drop)

pub fits-now : (runes before now : List ℕ) (i bytes : ℕ) → Stands runes before now i bytes → bytes ≤ length now
fits-now runes before now i bytes s = omega (arith, size-now runes before now i bytes s, s.room)

pub one-more : (runes before now after : List ℕ) (i bytes end r : ℕ) → i < length runes → r ≡ get_or runes i r → Stands runes before now i bytes
    → Puts r bytes now after (Some end) → Stands runes before after (i + 1) end
one-more runes before now after i bytes end r lt is s puts =
    let done = encode_utf8_all (take i runes) in
    let spelt = encode_utf8 r in
    let front : take bytes now ≡ done = ap (λ n. take n now) s.bytes_are ∙ ap (λ x. take (length done) x) s.now_is ∙ take-append_seam done (drop bytes before) in
    let behind : drop end now ≡ drop end before = ap (λ n. drop n now) puts.0 ∙ ap (λ n. drop (n + length spelt) now) s.bytes_are
    ∙ ap (λ x. drop (length done + length spelt) x) s.now_is ∙ drop-append-add done (drop bytes before) (length spelt)
    ∙ drop-drop (length spelt) bytes before ∙ ap (λ n. drop n before) (sym puts.0) in
    record {
      bytes_are = grind (arith, encode_utf8, counted-more);
      room = grind (arith, size-now);
      now_is = puts.2 ∙ ap (λ x. (x ++ spelt) ++ drop end now) front ∙ ap (λ x. (done ++ spelt) ++ x) behind ∙ ap (λ x. x ++ drop end before)
          (sym (spelled-more runes i r lt is ∙ ap (λ x. done ++ x) (append-nil spelt)));
    }

pub no-more : (runes before now : List ℕ) (filled : Filled) (r : ℕ) → filled.runes < length runes → r ≡ get_or runes filled.runes r
    → Stands runes before now filled.runes filled.bytes → (after : List ℕ) → Puts r filled.bytes now after None → Fills runes before after filled
no-more runes before now filled r lt is s after puts = grind (arith, size-now, counted-more)

pub no-rest : (runes before now : List ℕ) (filled : Filled) → length runes ≤ filled.runes → filled.runes ≤ length runes
    → Stands runes before now filled.runes filled.bytes → Fills runes before now filled
no-rest runes before now filled all within s = grind arith
