-- What each line does can be put in: its file can be the work file, dot is a range of its text, name and pattern are within their limits.
use Rattle.sam_text.proofs.Common.{◌≡◌, ℕ, ◌≤◌, List, length, Option, Some, Result, arith, IfOk, IfSome, unwrap_or, most_in_name, Word, Command, ◌>>=◌, command_of, PlainFiles, PlainOutcome, file_at, file_after, IsFit, IsPattern, IsOutcomeFor, IsOutcomeOf, AreSoundFiles, WorkFile, meaning, work_file, line_outcome, effect_of, effect_on, effect_of_line, or_wrong}
use Rattle.sam_text.proofs.ReadLaws.{CommandOk, command-read}
use Rattle.sam_text.proofs.FitLaws.{fit-meaning}

-- the name and the pattern of an outcome are within their limits
abbrev pub HasShortParts : PlainOutcome → Type 0
HasShortParts o = (IfSome o.name (λ (name : List ℕ). length name ≤ most_in_name)) × (IfSome o.pattern IsPattern)

short-or : (r : Result PlainOutcome Word) → IfOk r HasShortParts → HasShortParts (or_wrong r)
short-or r e = grind arith

short-then : {A : Type 0} (r : Result A Word) (f : A → Result PlainOutcome Word) → ((x : A) → IfOk (f x) HasShortParts) → IfOk (r >>= f) HasShortParts
short-then r f e = grind arith

short-on : (f : WorkFile) (c : Command) → CommandOk c → IfOk (effect_on f c) HasShortParts
short-on f c e = grind (arith, short-then)

short-read : (f : Option WorkFile) (r : Result Command Word) → IfOk r CommandOk → IfOk (r >>= effect_of f) HasShortParts
short-read f r e = grind (arith, short-on)

-- the name and the pattern of every line
pub line_short : (f : Option WorkFile) (line : List ℕ) → HasShortParts (line_outcome f line)
unfolding line_outcome
line_short f line = short-or (effect_of_line f line) (short-read f (command_of line) (command-read line))

puts-some : (fs : PlainFiles) (o : PlainOutcome) (x : Option ℕ) → ((g : ℕ) → x ≡ Some g → IsOutcomeFor fs o g) → IfSome x (IsOutcomeFor fs o)
puts-some fs o x e = grind arith

-- what a line does can be put in
pub meaning_puts : (fs : PlainFiles) (line : List ℕ) → AreSoundFiles fs → IsOutcomeOf fs (meaning fs line)
meaning_puts fs line all = (puts-some fs (meaning fs line) (meaning fs line).file at, short.0, short.1)
  where
    short : HasShortParts (meaning fs line)
    short = line_short (work_file fs) line

    at : (g : ℕ) → (meaning fs line).file ≡ Some g → IsOutcomeFor fs (meaning fs line) g
    at g e = let m = fit-meaning fs line g fs.work all.5 e in grind arith

-- a name within the limit, or the old one, is within the limit
pub named-within : (name : Option (List ℕ)) (old : List ℕ) → IfSome name (λ (name : List ℕ). length name ≤ most_in_name) → length old ≤ most_in_name → length (unwrap_or name old) ≤ most_in_name
named-within name old e u = grind arith

-- an outcome that can be put in leaves its file fit, and its name short
pub puts_there : (fs : PlainFiles) (o : PlainOutcome) (f : ℕ) → AreSoundFiles fs → IsOutcomeOf fs o → o.file ≡ Some f
    → (IsFit (file_after (file_at fs f) o)) × (length (unwrap_or o.name (file_at fs f).name) ≤ most_in_name)
puts_there fs o f all puts e = grind arith
