-- What it rests on that runes are taken back whole.
use Rattle.std.proofs.Common.{◌≡◌, ◌∙◌, refl, sym, ap, subst, ℕ, ◌*◌, ◌+◌, ◌<◌, ◌≤◌, ◌⊎◌, inl, inr, List, [], ◌∷◌, ◌++◌, length, take, drop, length-take, Bool, true, false, cond, Option, Some, None, option_map, Result, Ok, Err, encode_utf8_all, arith}
use Rattle.std.proofs.Math.Nat.{eq-or-lt_of_le}
use Rattle.std.proofs.Math.Seq.{take-length}
use Rattle.sam_runes.proofs.Codes.{counted-front}
use Rattle.sam_runes.specs.declared.edit.Edit.{Edit}
use Rattle.sam_mesg.proofs.Texts.{length-text}
use Rattle.sam_pending.specs.Layers.{Layer, DropsNext, runs_of, waiting_length}
use Rattle.sam_pending.specs.Runs.{edit_at, first_due, is_due, next_deed, room, wait, waits}
use Rattle.sam_pending.specs.declared.fault.PendingFault.{PendingFault}
use Rattle.sam_pending.specs.declared.run.Deed.{Deed}
use Rattle.sam_pending.specs.declared.run.Run.{Run}
use Rattle.sam_pending.specs.declared.run.Run.TheVariants.{Held, Typed}
use Rattle.sam_pending.specs.declared.told.Dropped.{Dropped}
use Rattle.sam_overlay.specs.Calls.{DropsUpTo, PlainOverlay, waiting_at, waiting_in}
use Rattle.sam_handles.specs.Buffers.{Fills}
use Rattle.sam_handles.specs.Splices.{FitsWhole}
use Rattle.sam_handles.specs.declared.utf8.Filled.{Filled}

-- ## A buffer with room for all runes

all-filled : (runes before after : List ℕ) (filled : Filled) → Fills runes before after filled → 4 * length runes ≤ length before
    → filled.runes ≡ length runes
all-filled runes before after filled fills room = go (eq-or-lt_of_le fills.count)
  where
    go : (filled.runes ≡ length runes) ⊎ (filled.runes < length runes) → filled.runes ≡ length runes
    go (inl all) = all
    go (inr less) = absurd (omega (arith, fills.most less, counted-front runes (filled.runes + 1), length-text runes, room))

all-taken : (runes before after : List ℕ) (filled : Filled) → Fills runes before after filled → 4 * length runes ≤ length before
    → take filled.runes runes ≡ runes
all-taken runes before after filled fills room =
    ap (λ n. take n runes) (all-filled runes before after filled fills room) ∙ take-length runes

pub whole_count : (runes before after : List ℕ) (filled : Filled) → Fills runes before after filled → 4 * length runes ≤ length before
    → filled.bytes ≡ length (encode_utf8_all runes)
whole_count runes before after filled fills room =
    fills.bytes_are ∙ ap (λ x. length (encode_utf8_all x)) (all-taken runes before after filled fills room)

pub whole_bytes : (runes before after : List ℕ) (filled : Filled) → Fills runes before after filled → 4 * length runes ≤ length before
    → after ≡ encode_utf8_all runes ++ drop filled.bytes before
whole_bytes runes before after filled fills room =
    fills.after_is ∙ ap (λ x. encode_utf8_all x ++ drop filled.bytes before) (all-taken runes before after filled fills room)

-- ## What is taken back, among what waits

text-waits : (t : List ℕ) (n : ℕ) (x : Run) → length (edit_at t n x).text ≤ wait x
text-waits t n (Held k d) = omega arith
text-waits t n (Typed s b d) = omega (arith, length-take s.count (drop s.start t))

due-waits : (w : Deed) (xs : List Run) (n : ℕ) (z : Run × ℕ) → first_due w n xs ≡ Some z → wait z.0 ≤ waits xs
due-waits w [] n z f = absurd cc
due-waits w (y ∷ xs) n z f = step (is_due w y) f (due-waits w xs (n + room y) z)
  where
    step : (t : Bool) → cond t (Some (y, n)) (first_due w (n + room y) xs) ≡ Some z
        → (first_due w (n + room y) xs ≡ Some z → wait z.0 ≤ waits xs) → wait z.0 ≤ wait y + waits xs
    step true g next =
        let here : (y, n) ≡ z = cc in
        subst (λ (u : Run × ℕ). wait u.0 ≤ wait y + waits xs) here (omega arith)
    step false g next = omega (arith, next g)

dropped-waits : (m : Option ℕ) (l : Layer) (d : Dropped) → DropsNext m l d → length d.text ≤ waiting_length l
dropped-waits m l d drops = go (first_due (next_deed m (runs_of l)) 0 (runs_of l)) refl drops.next
  where
    go : (o : Option (Run × ℕ)) → first_due (next_deed m (runs_of l)) 0 (runs_of l) ≡ o
        → option_map (λ (e : Edit). e.text) (option_map (λ (z : Run × ℕ). edit_at l.text z.1 z.0) o) ≡ Some d.text
        → length d.text ≤ waiting_length l
    go None is text = absurd cc
    go (Some z) is text =
        let same : (edit_at l.text z.1 z.0).text ≡ d.text = cc in
        subst (λ s. length s ≤ waiting_length l) same
        (omega (arith, text-waits l.text z.1 z.0, due-waits (next_deed m (runs_of l)) (runs_of l) 0 z is))

-- so a buffer has room for it that has four bytes for each rune that waits
back_fits : (m : Option ℕ) (o n : PlainOverlay) (f : ℕ) (d : Dropped) → DropsUpTo m o f (Ok (Some d)) n → length d.text ≤ waiting_at o f
back_fits m o n f d drops =
    let taken = drops.2.1 in
    subst (λ k. length d.text ≤ k) (sym (ap waiting_in taken.1)) (dropped-waits m taken.0 d taken.2)

pub back_whole : (m : Option ℕ) (o n : PlainOverlay) (f room : ℕ) (came : Result (Option Dropped) PendingFault) → DropsUpTo m o f came n
    → 4 * waiting_at o f ≤ room → FitsWhole came room
back_whole m o n f room (Ok None) drops fits = tt
back_whole m o n f room (Ok (Some d)) drops fits = omega (arith, back_fits m o n f d drops, fits)
back_whole m o n f room (Err why) drops fits = tt

pub ruleset back_facts = back_whole
