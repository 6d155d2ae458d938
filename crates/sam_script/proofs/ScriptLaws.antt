-- A list of lines spells at most one script, and one line more spells it with what the line says.
use Rattle.sam_script.proofs.Common.{◌≡◌, ◌<◌, ◌≤◌, ◌∙◌, ◌+◌, refl, sym, ap, ap₂, subst, ℕ, suc, List, [], ◌∷◌, ◌++◌, length, take, get_or, ◌-◌, arith, append-nil, length-append, ◌==◌, take_all, length-take-le, AllZip, take_more, Said, PlainScript, Says, file_said, files_said, lines_said, AreFilesFirst, SpellsLines, lines_of, IsWrongLine, Adds, AddsNone}
use Rattle.std.proofs.lemmas.Grind.{flat_map-append}
use Rattle.std.proofs.lemmas.List.Splits.{length-slice_split}
use Rattle.std.proofs.lemmas.List.Sums.{count_by-le-length}
use Rattle.sam_script.specs.declared.fault.LineFault.TheVariants.{Wrong}
use Rattle.sam_script.specs.declared.line.Said.TheVariants as said
use Rattle.sam_script.proofs.LineLaws.{says_one}

zip_one : (xs ys : List Said) (lines : List (List ℕ)) → AllZip Says xs lines → AllZip Says ys lines → xs ≡ ys
zip_one (x ∷ xs) (y ∷ ys) (line ∷ lines) p q = ap₂ (λ z zs. z ∷ zs) (says_one line x y p.0 q.0) (zip_one xs ys lines p.1 q.1)
zip_one [] [] lines p q = refl
zip_one xs ys lines p q = grind arith

zip_push : (xs : List Said) (lines : List (List ℕ)) (x : Said) (line : List ℕ) → AllZip Says xs lines → Says x line → AllZip Says (xs ++ x ∷ []) (lines ++ line ∷ [])
zip_push (y ∷ xs) (l ∷ lines) x line p q = (p.0, zip_push xs lines x line p.1 q)
zip_push xs lines x line e u = grind arith

zip_length : (xs : List Said) (lines : List (List ℕ)) → AllZip Says xs lines → length xs ≡ length lines
zip_length (y ∷ xs) (l ∷ lines) p = ap suc (zip_length xs lines p.1)
zip_length xs lines e = grind arith

zip_last : (xs : List Said) (lines : List (List ℕ)) (line : List ℕ) → AllZip Says xs (lines ++ line ∷ [])
    → (front : List Said) × (x : Said) × (xs ≡ front ++ x ∷ []) × AllZip Says front lines × Says x line
zip_last [] [] line p = absurd p
zip_last [] (l ∷ lines) line p = absurd p
zip_last (y ∷ []) [] line p = ([], y, refl, tt, p.0)
zip_last (y ∷ z ∷ xs) [] line p = absurd p.1
zip_last (y ∷ xs) (l ∷ lines) line p = let more = zip_last xs lines line p.1 in (y ∷ more.0, more.1, ap (λ zs. y ∷ zs) more.2, (p.0, more.3), more.4)

files_push : (xs : List Said) (x : Said) → files_said (xs ++ x ∷ []) ≡ files_said xs ++ file_said x
files_push xs x = grind (arith, append-nil, (flat_map-append file_said xs (x ∷ [])))

lines_push : (n : ℕ) (xs : List Said) (x : Said) → lines_said n (xs ++ x ∷ []) ≡ lines_said n xs ++ lines_said (length xs + n) (x ∷ [])
lines_push n [] x = grind arith
lines_push n (y ∷ xs) x = let moved : length xs + (n + 1) ≡ suc (length xs) + n = omega arith in grind (arith, moved, (lines_push (n + 1) xs x))

-- what comes last says no file
ordered_other : (xs : List Said) (x : Said) → AreFilesFirst xs → file_said x ≡ [] → AreFilesFirst (xs ++ x ∷ [])
ordered_other [] x p none = grind arith
ordered_other (y ∷ xs) x p none = grind (arith, files_push, (ordered_other xs x))

ordered_file : (n : ℕ) (xs : List Said) (name text : List ℕ) → AreFilesFirst xs → lines_said n xs ≡ [] → AreFilesFirst (xs ++ said.File name text ∷ [])
ordered_file n [] name text p none = grind arith
ordered_file n (y ∷ xs) name text p none = grind (arith, (ordered_file (n + 1) xs name text))

ordered_last : (n : ℕ) (xs : List Said) (name text : List ℕ) → AreFilesFirst (xs ++ said.File name text ∷ []) → lines_said n xs ≡ []
ordered_last n [] name text p = refl
ordered_last n (y ∷ xs) name text p = grind (arith, (files_push xs (said.File name text)), (length-append (files_said xs) ((name, text) ∷ [])), (ordered_last (n + 1) xs name text))

-- one line more
pub spells_push : (lines : List (List ℕ)) (line : List ℕ) (old new : PlainScript) → SpellsLines lines old → Adds (length lines + 1) line old new
    → SpellsLines (lines ++ line ∷ []) new
spells_push lines line old new p (it, says, may, is) =
    grind (
      arith,
      (zip_push p.said lines it line p.each says),
      (files_push p.said it),
      (zip_length p.said lines p.each),
      lines_push,
      ordered_other,
      ordered_file,
      length-append,
    )

-- a line that may not follow
pub spells_no_more : (lines : List (List ℕ)) (line : List ℕ) (old : PlainScript) → SpellsLines lines old → AddsNone line old Wrong
    → (script : PlainScript) → SpellsLines (lines ++ line ∷ []) script → ⊥
spells_no_more lines line old p none script q = grind (arith, zip_last, zip_one, files_push, ordered_last, length-append)

-- lines spell at most one script
pub spells_one : (lines : List (List ℕ)) (a b : PlainScript) → SpellsLines lines a → SpellsLines lines b → a ≡ b
spells_one lines a b p q = grind (arith, zip_one)

-- the next line is read
pub read_more : (lines : List (List ℕ)) (n k number : ℕ) (line : List ℕ) (old new : PlainScript) → (n < length lines) × (line ≡ get_or lines n line) → number ≡ n + 1 → k ≡ n + 1
    → SpellsLines (take n lines) old → Adds number line old new → SpellsLines (take k lines) new
read_more lines n k number line old new at is same p adds = grind (arith, (take_more lines n line at.0), (spells_push (take n lines) line old new p), (length-take-le n lines))

-- the next line is wrong
pub read_wrong : (bytes : List ℕ) (n number : ℕ) (line : List ℕ) (old : PlainScript) → (n < length (lines_of bytes)) × (line ≡ get_or (lines_of bytes) n line) → number ≡ n + 1
    → SpellsLines (take n (lines_of bytes)) old → AddsNone line old Wrong → IsWrongLine bytes number
read_wrong bytes n number line old at is p none =
    let one_less : n ≡ n + 1 - 1 = omega arith in
    subst (IsWrongLine bytes) (sym is) (
      omega arith,
      omega (arith, at.0),
      (old, subst (λ j. SpellsLines (take j (lines_of bytes)) old) one_less p),
      λ script q. spells_no_more (take n (lines_of bytes)) line old p none script
          (subst (λ (xs : List (List ℕ)). SpellsLines xs script) (take_more (lines_of bytes) n line at.0 ∙ ap (λ l. take n (lines_of bytes) ++ l ∷ []) (sym at.1)) q),
    )

-- all lines are read
pub read_all_lines : (lines : List (List ℕ)) (n : ℕ) (script : PlainScript) → n ≡ length lines → SpellsLines (take n lines) script → SpellsLines lines script
read_all_lines lines n script is p = subst (λ (xs : List (List ℕ)). SpellsLines xs script) (ap (λ j. take j lines) is ∙ take_all (length lines) lines (omega arith)) p

-- a line has its number
pub numbered : (bytes : List ℕ) (n : ℕ) → n < length (lines_of bytes) → n ≤ length bytes
numbered bytes n within = omega (arith, within, length-slice_split (λ b. b == 10) bytes, count_by-le-length (λ b. b == 10) bytes)
