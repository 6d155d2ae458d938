-- How the words, numbers and texts of a line are read, for the clauses of private functions.
use Rattle.std.specs.Prelude.{◌≡◌, ◌^◌, ◌==◌, ◌&&◌, ℕ, Bool, List, [], ◌∷◌, ◌++◌, Option, Some, None, Result, Ok, Err, length, nat_lt, true}
use Rattle.std.specs.Prelude.{false, not, if◌then◌else◌, chars}
use Rattle.std.specs.Str.{all_ascii_digits}
use Rattle.std.specs.Str.Parse.{digits_value}
use Rattle.sam_script.specs.declared.fault.LineFault.{LineFault}
use Rattle.sam_script.specs.declared.fault.LineFault.TheVariants.{Wrong, OutOfMemory}

-- what a function answers, seen by view, is what reading gives, unless memory ran out
abbrev pub Fails : {Y : Type 0} → LineFault → Option Y → Type 0
Fails Wrong read = read ≡ None
Fails OutOfMemory read = Unit {0}

abbrev pub Gives : {X Y : Type 0} → (X → Y) → Result X LineFault → Option Y → Type 0
Gives view (Ok x) read = read ≡ Some (view x)
Gives view (Err why) read = Fails why read

infixl 10 ◌>>=◌
abbrev pub ◌>>=◌ : {A B : Type 0} → Option A → (A → Option B) → Option B
(Some x) >>= f = f x
None >>= f = None

-- bytes up to the first space, and the space with what follows it
abbrev pub word_of : List ℕ → List ℕ
word_of [] = []
word_of (b ∷ bytes) = if b == 32 then [] else b ∷ word_of bytes

abbrev pub behind_word : List ℕ → List ℕ
behind_word [] = []
behind_word (b ∷ bytes) = if b == 32 then b ∷ bytes else behind_word bytes

-- the word after a space, and what follows it
abbrev pub word_at : List ℕ → Option (List ℕ × List ℕ)
word_at [] = None
word_at (b ∷ bytes) = if b == 32 then Some (word_of bytes, behind_word bytes) else None

abbrev pub number_of : ℕ → List ℕ → Option ℕ
number_of bits word =
    if all_ascii_digits word && nat_lt 0 (length word) && nat_lt (digits_value 10 word) (2 ^ bits) then Some (digits_value 10 word)
    else None

unfoldable pub number_at : ℕ → List ℕ → Option (ℕ × List ℕ)
number_at bits bytes = word_at bytes >>= λ x. number_of bits x.0 >>= λ n. Some (n, x.1)

-- what a rune of a text means, which a backslash may escape
abbrev pub meant : Bool → ℕ → Option ℕ
meant true c = if c == 110 then Some 10 else if c == 92 then Some 92 else None
meant false c = if c == 10 then None else Some c

-- the runes of a text, after those that came before
abbrev pub unescaped : List ℕ → Bool → List ℕ → Option (List ℕ)
unescaped front true [] = None
unescaped front false [] = Some front
unescaped front is_escaped (c ∷ cs) =
    if c == 92 && not is_escaped then unescaped front true cs else (meant is_escaped c >>= λ rune. unescaped (front ++ rune ∷ []) false cs)

abbrev pub text_at : List ℕ → Option (List ℕ)
text_at [] = Some []
text_at (b ∷ bytes) = if b == 32 then unescaped [] false (chars bytes) else None

-- nothing follows
abbrev pub ended : {X : Type 0} → X → List ℕ → Option X
ended x [] = Some x
ended x (b ∷ bytes) = None

-- what stands after the word of an event
unfoldable pub tag_alone : List ℕ → Option ℕ
tag_alone bytes = number_at 16 bytes >>= λ f. ended f.0 f.1

unfoldable pub tag_and_place : List ℕ → Option (ℕ × ℕ)
tag_and_place bytes = number_at 16 bytes >>= λ f. number_at 32 f.1 >>= λ p. ended (f.0, p.0) p.1

unfoldable pub tag_and_range : List ℕ → Option (ℕ × ℕ × ℕ)
tag_and_range bytes = number_at 16 bytes >>= λ f. number_at 32 f.1 >>= λ p. number_at 32 p.1 >>= λ q. ended (f.0, p.0, q.0) q.1

unfoldable pub tag_and_text : List ℕ → Option (ℕ × List ℕ)
tag_and_text bytes = number_at 16 bytes >>= λ f. text_at f.1 >>= λ s. Some (f.0, s)
