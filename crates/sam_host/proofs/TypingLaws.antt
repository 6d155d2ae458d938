-- The line that a typing ends, and typing and sending in terms of a line.
use Rattle.sam_host.proofs.Common.{common_steps, ◌≡◌, ◌≢◌, ℕ, ◌+◌, ◌-◌, ◌<◌, ◌≤◌, List, [], ◌∷◌, ◌++◌, length, take, drop, reverse, Bool, true, false, not, cond, if◌then◌else◌, nat_eq, refl, ap, ◌∙◌, arith, append_assoc, append-nil, length-append, rules, ◌&&◌, ◌||◌, ◌==◌, take_at, drop_at, ins, part, ends_line, as_lines, last_line, newline, max_runes, slot-put_same, file_at, typed_file, has_room, after_print, Hunlock, PlainHost, line_to, with_file, with_files, printed, reply_line, reply_type, reply_send}
use Rattle.std.proofs.Common.{eqb, drop-drop, length-take-le, sym, take-add}
use Rattle.std.proofs.Math.Seq.{take-length, drop-length}
use Rattle.std.proofs.lemmas.List.{length-reverse, reverse-append, take-append-le, drop-append-le}
use Rattle.std.proofs.lemmas.List.Folds.{prefix_len-append}
use Rattle.std.proofs.lemmas.List.Sums.{prefix_len-le-length}
use Rattle.std.proofs.lemmas.Slice.{between_is}
use Rattle.std.specs.List.{prefix_len}
use Rattle.sam_runes.proofs.EditLaws.{length-ins}
use Rattle.sam_runes.specs.Texts.{is_in_line, line_start}
use Rattle.sam_host.specs.Typing.{sent, typed_line, reply_typed_line}

-- ## The line that is typed

-- the last line of t, of its own
abbrev last_of : List ℕ → List ℕ
last_of t = drop (length t - prefix_len is_in_line (reverse t)) t

-- the line of a place is the last one before it
line-last : (t : List ℕ) (e : ℕ) → e ≤ length t → line_to t e ≡ last_of (take e t)
line-last t e h = grind (arith, between_is, length-take-le)

drop-past : (u v : List ℕ) (n : ℕ) → drop (length u + n) (u ++ v) ≡ drop n v
drop-past u v n = sym (drop-drop n (length u) (u ++ v)) ∙ ap (λ (t : List ℕ). drop n t) (drop_at u v (length u) refl)

-- the last line of two texts begins in the first one where the second has no newline
last-joined : (u v : List ℕ) → last_of (u ++ v) ≡ cond (eqb (prefix_len is_in_line (reverse v)) (length v)) (last_of u ++ v) (last_of v)
last-joined u v = go (eqb (prefix_len is_in_line (reverse v)) (length v)) refl
  where
    k : ℕ
    k = prefix_len is_in_line (reverse v)

    below : k ≤ length v
    below = omega (arith, prefix_len-le-length is_in_line (reverse v), length-reverse v)

    both : prefix_len is_in_line (reverse (u ++ v)) ≡ cond (eqb k (length v)) (length v + prefix_len is_in_line (reverse u)) k
    both = ap (prefix_len is_in_line) (reverse-append u v) ∙ prefix_len-append is_in_line (reverse v) (reverse u)
        ∙ ap (λ (n : ℕ). cond (eqb k n) (n + prefix_len is_in_line (reverse u)) k) (length-reverse v)

    go : (b : Bool) → eqb k (length v) ≡ b → last_of (u ++ v) ≡ cond b (last_of u ++ v) (last_of v)
    go true e =
        let n : length (u ++ v) - prefix_len is_in_line (reverse (u ++ v)) ≡ length u - prefix_len is_in_line (reverse u) = grind (arith, both, length-append) in
        ap (λ (n : ℕ). drop n (u ++ v)) n ∙ drop-append-le (length u - prefix_len is_in_line (reverse u)) u v (omega arith)
    go false e =
        let n : length (u ++ v) - prefix_len is_in_line (reverse (u ++ v)) ≡ length u + (length v - k) = grind (arith, both, below, length-append) in
        ap (λ (n : ℕ). drop n (u ++ v)) n ∙ drop-past u v (length v - k)

-- what stands before the end of what was typed
typed-front : (t s : List ℕ) (p e : ℕ) → p ≤ length t → e ≤ length s → take (p + e) (ins t p s) ≡ take p t ++ take e s
typed-front t s p e h l =
    let front : length (take p t) ≡ p = length-take-le p t h in
    grind (arith, (take-add p e (ins t p s)), (take_at (take p t) (s ++ drop p t) p front), (drop_at (take p t) (s ++ drop p t) p front), (take-append-le e s (drop p t) l), append_assoc)

joined-at : (t s : List ℕ) (p e : ℕ) → p ≤ length t → e ≤ length s
    → cond (eqb (line_start s e) 0) (line_to t p) [] ++ part s (line_start s e) e ≡ line_to (ins t p s) (p + e)
joined-at t s p e h l =
    grind (arith, (line-last (ins t p s) (p + e)), (typed-front t s p e h l), (last-joined (take p t) (take e s)), (line-last t p h), (line-last s e l), (length-take-le e s l), (length-reverse (take e s)), (prefix_len-le-length is_in_line (reverse (take e s))), (length-ins t s p h))

-- the line that a typing ends, in two pieces: what stands before the typing, where its newline is the first, and what is typed
pub line_joined : (t s : List ℕ) (p : ℕ) → 0 < length s → p ≤ length t
    → (if line_start s (length s - 1) == 0 then line_to t p else []) ++ part s (line_start s (length s - 1)) (length s - 1) ≡ typed_line t p s
line_joined t s p filled h =
    let e : p + (length s - 1) ≡ p + length s - 1 = omega arith in
    joined-at t s p (length s - 1) h (omega arith) ∙ ap (λ end. line_to (ins t p s) end) e

-- ## Lines

-- what ends a line is not empty
pub ends_filled : (t : List ℕ) → ends_line t ≡ true → 0 < length t
ends_filled [] e = grind arith
ends_filled (c ∷ t) e = omega arith

typed-as-line : (h : PlainHost) (f p : ℕ) (s : List ℕ) → f ≡ 0 → (nat_eq f 0 && ends_line s) ≡ true → reply_type h f p s ≡ reply_typed_line h p s
unfolding reply_type
typed-as-line h f p s e test = grind (arith, slot-put_same)

-- typing that ends a line of the command file runs it, and any other runs none
pub type_as_line : (h : PlainHost) (f p : ℕ) (s : List ℕ) → f ≡ 0 → ends_line s ≡ true → reply_type h f p s ≡ reply_typed_line h p s
type_as_line h f p s e ends = grind (arith, typed-as-line)

pub type_alone : (h : PlainHost) (f p : ℕ) (s : List ℕ) → (nat_eq f 0 && ends_line s) ≡ false → reply_type h f p s ≡ (with_file h f (typed_file f (file_at h.files f) p s), [])
unfolding reply_type
type_alone h f p s test = grind arith

-- what the answer to Ttype rests on
pub ruleset type_facts = (type_as_line, type_alone, ends_filled)

-- ## Sending

-- what is printed is typed at the end
pub print_as_typed : (h : PlainHost) (s : List ℕ) → 0 < length s → has_room h.files s ≡ true → with_files h (after_print h.files s) ≡ sent h s
print_as_typed h s filled room = grind (arith, take-length, drop-length, append-nil)

lines-or : (b : Bool) (s : List ℕ) → ends_line s ≡ b → 0 < length (cond b s (s ++ newline ∷ []))
lines-or false s e = omega (arith, length-append s (newline ∷ []))
lines-or true [] e = absurd (cc)
lines-or true (c ∷ s) e = omega arith

pub lines_filled : (s : List ℕ) → 0 < length (as_lines s)
lines_filled s = lines-or (ends_line s) s refl

-- a send of nothing, or without room, does nothing; any other runs its last line after what it prints
pub send_nothing : (h : PlainHost) (f p q : ℕ) → ((p == q) || not (has_room h.files (as_lines (part (file_at h.files f).text p q)))) ≡ true → reply_send h f p q ≡ (h, Hunlock ∷ [])
unfolding reply_send
send_nothing h f p q test = grind arith

pub send_as_line : (h : PlainHost) (f p q : ℕ) → ((p == q) || not (has_room h.files (as_lines (part (file_at h.files f).text p q)))) ≡ false
    → has_room h.files (as_lines (part (file_at h.files f).text p q)) ≡ true
    → (let s = as_lines (part (file_at h.files f).text p q) in reply_send h f p q ≡ ((reply_line (sent h s) [] (last_line s)).0, printed h.files s ++ (reply_line (sent h s) [] (last_line s)).1))
unfolding reply_send
send_as_line h f p q test room = search (rules, common_steps, print_as_typed, lines_filled)

-- a send that is run, where s is what is sent as lines
pub send_runs : (h : PlainHost) (f p q : ℕ) (s : List ℕ) → p ≢ q → s ≡ as_lines (part (file_at h.files f).text p q) → length (file_at h.files 0).text + length s ≤ max_runes
    → reply_send h f p q ≡ ((reply_line (sent h s) [] (last_line s)).0, printed h.files s ++ (reply_line (sent h s) [] (last_line s)).1)
send_runs h f p q s other is fits = grind (arith, send_as_line)
