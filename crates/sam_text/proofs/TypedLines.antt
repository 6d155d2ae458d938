-- A command line that takes effect as it is typed: what is typed, what is printed and what the line leaves do not meet, since a line
-- never works on the command file.
use Rattle.sam_text.proofs.Common.{◌≡◌, ℕ, zero, suc, ◌+◌, ◌<◌, ◌≤◌, List, [], ◌∷◌, length, Option, Some, None, refl, sym, subst, arith, IfSome, slot, put_slot, slot-put_same, slot-put_other, length-append, file_after, RoomyFiles, ap, ◌∙◌, blank_file, unwrap_or, option_map, PlainFile, PlainFiles, PlainOutcome, IsOutcomeOf, IsOutcomeFor, file_at, put_file, typed_file, after_print, put_outcome, committed, length-ins}
use Rattle.sam_text.specs.Files.{typed_files}
use Rattle.sam_text.specs.Views.{KeepRooms, KeepRoomsBut, text_of}

-- a line works on another file than the command file
abbrev pub IsElsewhere : Option ℕ → Type 0
IsElsewhere o = IfSome o (λ f. 0 < f)

abbrev with_slots : PlainFiles → List (Option PlainFile) → PlainFiles
with_slots fs ss = record fs { slots = ss }

print-put : (fs : PlainFiles) (ss : List (Option PlainFile)) (o : PlainOutcome) (s : List ℕ) (f : ℕ)
    → put_outcome (Some (suc f)) (after_print (with_slots fs ss) s) o ≡ after_print (put_outcome (Some (suc f)) (with_slots fs ss) o) s
print-put fs [] o s f = grind arith
print-put fs (y ∷ ys) o s f = grind arith

-- printing and putting an outcome in, in either order
put_print : (x : Option ℕ) (fs : PlainFiles) (o : PlainOutcome) (s : List ℕ) → IsElsewhere x → put_outcome x (after_print fs s) o ≡ after_print (put_outcome x fs o) s
put_print None fs o s h = refl
put_print (Some zero) fs o s h = absurd (omega arith)
put_print (Some (suc f)) fs o s h = print-put fs fs.slots o s f

-- a print and an outcome that is put in leave the same files in either order
pub commit_print : (fs : PlainFiles) (o : PlainOutcome) (s : List ℕ) → IsElsewhere o.file → committed (after_print fs s) o ≡ after_print (committed fs o) s
commit_print fs o s h = grind (arith, put_print)

-- printing leaves the other files
slot-printed : (fs : PlainFiles) (ss : List (Option PlainFile)) (s : List ℕ) (f : ℕ) → slot (after_print (with_slots fs ss) s).slots (suc f) ≡ slot ss (suc f)
slot-printed fs [] s f = grind arith
slot-printed fs (y ∷ ys) s f = grind arith

-- an outcome that can be put in can be put in after a print
pub outcome_after_print : (fs : PlainFiles) (o : PlainOutcome) (s : List ℕ) → IsOutcomeOf fs o → IsOutcomeOf (after_print fs s) o
outcome_after_print fs o s h = (go o.file h.0, h.1, h.2)
  where
    go : (x : Option ℕ) → IfSome x (IsOutcomeFor fs o) → IfSome x (IsOutcomeFor (after_print fs s) o)
    go None k = tt
    go (Some zero) k = absurd (omega (arith, k.0.0))
    go (Some (suc f)) k = grind (arith, (slot-printed fs fs.slots s f))

-- another command file leaves the other files
pub slot-kept : (ss : List (Option PlainFile)) (x : PlainFile) (f : ℕ) → slot (put_slot ss 0 x) (suc f) ≡ slot ss (suc f)
slot-kept [] x f = refl
slot-kept (y ∷ ys) x f = refl

-- an outcome that can be put in can be put in where the command file is another one
outcome-put : (fs : PlainFiles) (x : PlainFile) (o : PlainOutcome) → IsOutcomeOf fs o → IsOutcomeOf (put_file fs 0 x) o
outcome-put fs x o h = (go o.file h.0, h.1, h.2)
  where
    go : (y : Option ℕ) → IfSome y (IsOutcomeFor fs o) → IfSome y (IsOutcomeFor (put_file fs 0 x) o)
    go None k = tt
    go (Some zero) k = absurd (omega (arith, k.0.0))
    go (Some (suc f)) k = grind (arith, (slot-kept fs.slots x f))

-- each outcome that can be put in is of such a line
pub elsewhere : (fs : PlainFiles) (o : PlainOutcome) → IsOutcomeOf fs o → IsElsewhere o.file
elsewhere fs o h = go o.file h.0
  where
    go : (y : Option ℕ) → IfSome y (IsOutcomeFor fs o) → IsElsewhere y
    go None k = tt
    go (Some f) k = k.0.0

-- the outcome of a line is put in after its typing and its print
pub line_put : (fs gs : PlainFiles) (p : ℕ) (s : List ℕ) (o : PlainOutcome) → IsOutcomeOf fs o → gs ≡ after_print (typed_files fs p s) o.printed
    → IsOutcomeOf gs o × (committed gs o ≡ after_print (committed (typed_files fs p s) o) o.printed)
line_put fs gs p s o h e =
    let x = typed_file 0 (file_at fs 0) p s in
    subst (λ gs. IsOutcomeOf gs o × (committed gs o ≡ after_print (committed (typed_files fs p s) o) o.printed)) (sym e)
    (outcome_after_print (put_file fs 0 x) o o.printed (outcome-put fs x o h), commit_print (put_file fs 0 x) o o.printed (elsewhere fs o h))

-- what is typed is there
pub typed_length : (fs : PlainFiles) (p : ℕ) (s : List ℕ) → p ≤ length (file_at fs 0).text
    → length (file_at (typed_files fs p s) 0).text ≡ length (file_at fs 0).text + length s
typed_length fs p s h = grind (arith, slot-put_same, length-ins)

-- ## Rooms

-- a line leaves the slot of the command file
slot-committed : (fs : PlainFiles) (o : PlainOutcome) → IsElsewhere o.file → slot (committed fs o).slots 0 ≡ slot fs.slots 0
slot-committed fs o h = go o.file h
  where
    go : (x : Option ℕ) → IsElsewhere x → slot (put_outcome x fs o).slots 0 ≡ slot fs.slots 0
    go None k = refl
    go (Some zero) k = absurd (omega arith)
    go (Some (suc f)) k = slot-put_other fs.slots (suc f) 0 (file_after (file_at fs (suc f)) o) (λ e. absurd (omega (arith, e)))

-- a print that doesn't lengthen the command file changes nothing
print-none : (fs : PlainFiles) (u : List ℕ) → length (file_at (after_print fs u) 0).text ≤ length (file_at fs 0).text → after_print fs u ≡ fs
print-none fs [] e = refl
print-none fs (x ∷ u) e = grind (arith, slot-put_same, length-append)

-- the text of a tag, where it has a file
abbrev text_in : PlainFiles → ℕ → Option (List ℕ)
text_in fs f = option_map (λ (file : PlainFile). file.text) (slot fs.slots f)

text-at : (fs : PlainFiles) (f : ℕ) → (file_at fs f).text ≡ unwrap_or (text_in fs f) []
text-at fs f = go (slot fs.slots f)
  where
    go : (x : Option PlainFile) → (unwrap_or x blank_file).text ≡ unwrap_or (option_map (λ (file : PlainFile). file.text) x) []
    go None = refl
    go (Some file) = refl

-- a text that typing, a print and an outcome leave as it was is left so by each of them
each_leaves : (fs gs : PlainFiles) (p : ℕ) (s : List ℕ) (o : PlainOutcome) (f : ℕ) → p ≤ length (file_at fs 0).text → IsElsewhere o.file
    → gs ≡ after_print (typed_files fs p s) o.printed → text_in (committed gs o) f ≡ text_in fs f
    → (text_in (typed_files fs p s) f ≡ text_in fs f) × (text_in gs f ≡ text_in (typed_files fs p s) f)
each_leaves fs gs p s o (suc f) place away is same =
    let text = λ (x : Option PlainFile). option_map (λ (file : PlainFile). file.text) x in
    let kept = slot-kept fs.slots (typed_file 0 (file_at fs 0) p s) f in
    let printed = ap (λ (hs : PlainFiles). slot hs.slots (suc f)) is ∙ slot-printed (typed_files fs p s) (typed_files fs p s).slots o.printed f in
    (ap text kept, ap text printed)
each_leaves fs gs p s o zero place away is same =
    let there : text_in gs 0 ≡ text_in fs 0 =
    sym (ap (λ (x : Option PlainFile). option_map (λ (file : PlainFile). file.text) x) (slot-committed gs o away)) ∙ same in
    let long : length (file_at gs 0).text ≡ length (file_at fs 0).text =
    ap (λ (t : List ℕ). length t) (text-at gs 0 ∙ ap (λ (t : Option (List ℕ)). unwrap_or t []) there ∙ sym (text-at fs 0)) in
    let short : length (file_at (after_print (typed_files fs p s) o.printed) 0).text ≤ length (file_at (typed_files fs p s) 0).text =
    grind (arith, (typed_length fs p s place), (ap (λ (hs : PlainFiles). length (file_at hs 0).text) is)) in
    let none : gs ≡ typed_files fs p s = is ∙ print-none (typed_files fs p s) o.printed short in
    let stays = ap (λ (hs : PlainFiles). text_in hs 0) none in
    (sym stays ∙ there, stays)

nothing : (f : ℕ) → None ≡ Some f → ⊥
nothing f e = grind arith

-- so each text that stays as it was keeps its room, but that of the file that the outcome gives a text
pub rooms_kept : (a b c d : RoomyFiles) (p : ℕ) (s : List ℕ) (o : PlainOutcome) (x : Option ℕ) → p ≤ length (file_at a.plain 0).text → IsOutcomeOf a.plain o
    → b.plain ≡ typed_files a.plain p s → c.plain ≡ after_print (typed_files a.plain p s) o.printed → d.plain ≡ committed c.plain o
    → KeepRooms a b → KeepRooms b c → KeepRoomsBut x c d → KeepRoomsBut x a d
rooms_kept a b c d p s o x place fits typed printed commits ab bc cd f but same =
    let at = λ (fs : PlainFiles). text_in fs f in
    let each = each_leaves a.plain c.plain p s o f place (elsewhere a.plain o fits) printed (sym (ap at commits) ∙ same) in
    let left : text_of b f ≡ text_of a f = ap at typed ∙ each.0 in
    let kept : text_of c f ≡ text_of b f = each.1 ∙ sym (ap at typed) in
    cd f but (same ∙ sym (kept ∙ left)) ∙ bc f (nothing f) kept ∙ ab f (nothing f) left
