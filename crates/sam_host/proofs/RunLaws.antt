-- A line is told over the files before its typing: it never works on the command file.
use Rattle.sam_host.proofs.Common.{common_steps, ◌≡◌, ℕ, zero, suc, ◌+◌, ◌<◌, ◌≤◌, List, [], ◌∷◌, ◌++◌, length, take, get_or, Option, Some, None, Bool, not, ◌||◌, is_empty, refl, sym, ap, ◌∙◌, subst, arith, rules, unwrap_or, option_map, option_and_then, IfSome, if◌then◌else◌, flat_map, reverse, max_runes, either, Edit, slot, put_slot, meaning, work_on, line_outcome, PlainFile, PlainFiles, PlainOutcome, IsOutcomeOf, blank_file, file_at, put_file, typed_file, after_print, put_outcome, committed, AreFit, IsFit, Hmesg, Hexit, Hunlock, HFrame, PlainHost, stamped, printed, grown, told_edit, told_outcome, reply_line}
use Rattle.std.proofs.lemmas.List.{get_or-set_other}
use Rattle.sam_runes.specs.Edits.{inserted}
use Rattle.sam_runes.proofs.EditLaws.{length-ins}
use Rattle.sam_text.specs.Files.{IsWork, file_after, typed_files}
use Rattle.sam_text.proofs.MeaningLaws.{line_fits, without_work}
use Rattle.sam_text.proofs.TypedLines.{IsElsewhere, elsewhere, slot-kept}
use Rattle.sam_host.specs.Host.{reply_outcome}
use Rattle.sam_host.specs.Typing.{typed, printed_at, told_line, IsSameButEdits}
use Rattle.sam_host.proofs.FrameLaws.{told_both}

abbrev with_slots : PlainFiles → List (Option PlainFile) → PlainFiles
with_slots fs ss = record fs { slots = ss }

-- what is printed stands in the command file, which no outcome changes
printed-slots : (fs : PlainFiles) (ss : List (Option PlainFile)) (o : PlainOutcome) (p : Option (List ℕ)) (s : List ℕ) (f : ℕ)
    → printed (record (put_outcome (Some (suc f)) (with_slots fs ss) o) { pattern = p }) s ≡ printed (with_slots fs ss) s
unfolding printed grown
printed-slots fs [] o p s f = refl
printed-slots fs (y ∷ ys) o p s f = refl

-- what is printed is told the same before and after an outcome is put in
pub printed_committed : (fs : PlainFiles) (o : PlainOutcome) (s : List ℕ) → IsElsewhere o.file → printed (committed fs o) s ≡ printed fs s
unfolding printed grown
printed_committed fs o s h = go o.file h
  where
    go : (x : Option ℕ) → IsElsewhere x → printed (record (put_outcome x fs o) { pattern = either o.pattern fs.pattern }) s ≡ printed fs s
    go None k = refl
    go (Some zero) k = absurd (omega arith)
    go (Some (suc f)) k = printed-slots fs fs.slots o (either o.pattern fs.pattern) s f

-- ## A line after its typing

-- a line does the same where the command file is another one
meaning-put : (fs : PlainFiles) (x : PlainFile) (line : List ℕ) → IfSome fs.work (IsWork fs) → meaning (put_file fs 0 x) line ≡ meaning fs line
meaning-put fs x line h = ap (λ w. line_outcome w line) (go fs.work h)
  where
    go : (w : Option ℕ) → IfSome w (IsWork fs)
        → option_and_then (λ f. option_map (work_on f) (slot (put_slot fs.slots 0 x) f)) w ≡ option_and_then (λ f. option_map (work_on f) (slot fs.slots f)) w
    go None k = refl
    go (Some zero) k = absurd (omega (arith, k.0))
    go (Some (suc f)) k = ap (λ (s : Option PlainFile). option_map (work_on (suc f)) s) (slot-kept fs.slots x f)

told-slots : (fs : PlainFiles) (ss : List (Option PlainFile)) (x : PlainFile) (o : PlainOutcome) (f : ℕ)
    → told_outcome (Some (suc f)) (put_file (with_slots fs ss) 0 x) o ≡ told_outcome (Some (suc f)) (with_slots fs ss) o
unfolding told_outcome told_edit grown
told-slots fs [] x o f = refl
told-slots fs (y ∷ ys) x o f = refl

-- what a line did is told the same where the command file is another one
told-put : (y : Option ℕ) (fs : PlainFiles) (x : PlainFile) (o : PlainOutcome) → IsElsewhere y → told_outcome y (put_file fs 0 x) o ≡ told_outcome y fs o
unfolding told_outcome
told-put None fs x o h = refl
told-put (Some zero) fs x o h = absurd (omega arith)
told-put (Some (suc f)) fs x o h = told-slots fs fs.slots x o f

printed-slots-at : (fs : PlainFiles) (ss : List (Option PlainFile)) (x : PlainFile) (s : List ℕ) → x.opened ≡ (file_at (with_slots fs ss) 0).opened
    → printed (put_file (with_slots fs ss) 0 x) s ≡ printed_at (with_slots fs ss) (length x.text) s
unfolding printed printed_at grown
printed-slots-at fs [] x s e = grind arith
printed-slots-at fs (y ∷ ys) x s e = grind arith

-- what is printed after a typing is told over the files before it
printed-typed : (fs : PlainFiles) (p : ℕ) (t s : List ℕ) → p ≤ length (file_at fs 0).text
    → printed (typed_files fs p t) s ≡ printed_at fs (length (file_at fs 0).text + length t) s
printed-typed fs p t s h =
    printed-slots-at fs fs.slots (typed_file 0 (file_at fs 0) p t) s refl ∙ ap (λ n. printed_at fs n s) (length-ins (file_at fs 0).text t p h)

-- the reply to a line after its typing, over the files before it
pub line_replied : (h : PlainHost) (p : ℕ) (s line : List ℕ) (o : PlainOutcome) → o ≡ meaning h.files line → IsOutcomeOf h.files o → IfSome h.files.work (IsWork h.files)
    → p ≤ length (file_at h.files 0).text
    → reply_line (typed h p s) [] line ≡ (
      record (typed h p s) { files = after_print (committed (typed_files h.files p s) o) o.printed; is_done = o.quit },
      told_line h.files (length (file_at h.files 0).text + length s) o,
    )
line_replied h p s line o is fits work place =
    let same : meaning (typed_files h.files p s) line ≡ o = meaning-put h.files (typed_file 0 (file_at h.files 0) p s) line work ∙ sym is in
    let told = told-put o.file h.files (typed_file 0 (file_at h.files 0) p s) o (elsewhere h.files o fits) in
    let out = printed_committed (typed_files h.files p s) o o.printed (elsewhere h.files o fits) ∙ printed-typed h.files p s o.printed place in
    ap (λ o. reply_outcome (typed h p s) [] o) same
    ∙ ap (λ (ms : List Hmesg). (record (typed h p s) { files = after_print (committed (typed_files h.files p s) o) o.printed; is_done = o.quit }, ms))
    (λ i. told i ++ out i ++ (if o.quit then Hexit else Hunlock) ∷ [])

-- ## An outcome that has lost the texts of its edits

same-empty : (es fs : List Edit) → length es ≡ length fs → is_empty es ≡ is_empty fs
same-empty [] [] e = refl
same-empty [] (x ∷ fs) e = absurd (omega arith)
same-empty (x ∷ es) [] e = absurd (omega arith)
same-empty (x ∷ es) (y ∷ fs) e = refl

-- it can be put in as before
pub same_fits : (fs : PlainFiles) (o left : PlainOutcome) → IsSameButEdits o left → IsOutcomeOf fs o → IsOutcomeOf fs left
same_fits fs o left same fits = subst (λ (l : PlainOutcome). IsOutcomeOf fs l) (sym same.0) fits

-- it leads to the same files
same-commits : (fs : PlainFiles) (o left : PlainOutcome) → IsSameButEdits o left → committed fs left ≡ committed fs o
same-commits fs o left same =
    subst (λ (l : PlainOutcome). committed fs l ≡ committed fs o) (sym same.0)
    (ap (λ (gs : PlainFiles). record gs { pattern = either o.pattern fs.pattern }) (go o.file))
  where
    empty : is_empty left.edits ≡ is_empty o.edits
    empty = same-empty left.edits o.edits same.1

    go : (x : Option ℕ) → put_outcome x fs (record o { edits = left.edits }) ≡ put_outcome x fs o
    go None = refl
    go (Some f) = ap (λ (b : Bool). put_file fs f (record (file_after (file_at fs f) o) { dirty = (file_at fs f).dirty || not b })) empty

-- the reply to a line after its typing, by what is left of its outcome once its frames are made
pub line_left : (h : PlainHost) (p : ℕ) (s line : List ℕ) (o left : PlainOutcome) → IsSameButEdits o left → o ≡ meaning h.files line → IsOutcomeOf h.files o
    → IfSome h.files.work (IsWork h.files) → p ≤ length (file_at h.files 0).text
    → reply_line (typed h p s) [] line ≡ (
      record (typed h p s) { files = after_print (committed (typed_files h.files p s) left) left.printed; is_done = left.quit },
      told_line h.files (length (file_at h.files 0).text + length s) o,
    )
line_left h p s line o left same is fits work place =
    let commits = sym (same-commits (typed_files h.files p s) o left same) in
    let out : o.printed ≡ left.printed = sym (ap (λ (l : PlainOutcome). l.printed) same.0) in
    let end : o.quit ≡ left.quit = sym (ap (λ (l : PlainOutcome). l.quit) same.0) in
    line_replied h p s line o is fits work place
    ∙ (λ i. (record (typed h p s) { files = after_print (commits i) (out i); is_done = end i }, told_line h.files (length (file_at h.files 0).text + length s) o))

-- ## What a line puts in

no-edits : (line : List ℕ) → inserted (line_outcome None line).edits ≤ max_runes
no-edits line = subst (λ es. inserted es ≤ max_runes) (sym (without_work line).1) (omega arith)

-- what a line puts in is no more than a text may have
pub meaning_inserted : (fs : PlainFiles) (line : List ℕ) → AreFit fs → inserted (meaning fs line).edits ≤ max_runes
meaning_inserted fs line all = go fs.work
  where
    at : (g : ℕ) (s : Option PlainFile) → IsFit (unwrap_or s blank_file) → inserted (line_outcome (option_map (work_on g) s) line).edits ≤ max_runes
    at g None fit = no-edits line
    at g (Some file) fit = omega (arith, (line_fits (work_on g file) line fit).within)

    go : (x : Option ℕ) → inserted (line_outcome (option_and_then (λ g. option_map (work_on g) (slot fs.slots g)) x) line).edits ≤ max_runes
    go x = grind (arith, no-edits, at)

-- what one edit puts in is no more than all that is put in
pub text_below_inserted : (es : List Edit) (i : ℕ) (d : Edit) → i < length es → length (get_or es i d).text ≤ inserted es
text_below_inserted (e ∷ es) (suc i) d l = omega (arith, text_below_inserted es i d (omega arith))
text_below_inserted es i d e = grind arith

-- ## How a line is told

-- an edit more is told, before those in front of it
pub edit_told : (tell : Edit → List Hmesg) (before : List HFrame) (seen : ℕ) (es : List Edit) (i : ℕ) (e : Edit) → i < length es → e ≡ get_or es i e
    → (before ++ stamped seen (tell e)) ++ stamped seen (flat_map tell (reverse (take i es))) ≡ before ++ stamped seen (flat_map tell (reverse (take (suc i) es)))
edit_told tell before seen es i e l is = search (rules, common_steps, told_both)

-- what telling the edits from the last to the first rests on
pub ruleset edits_facts = (edit_told, text_below_inserted, get_or-set_other)

-- the frames after six parts, each told after those before it
pub six_told : (before x1 x2 x3 x4 x5 x6 : List HFrame) (seen : ℕ) (a b c d e f : List Hmesg) → x1 ≡ before ++ stamped seen a → x2 ≡ x1 ++ stamped seen b
    → x3 ≡ x2 ++ stamped seen c → x4 ≡ x3 ++ stamped seen d → x5 ≡ x4 ++ stamped seen e → x6 ≡ x5 ++ stamped seen f
    → x6 ≡ before ++ stamped seen (a ++ b ++ c ++ d ++ e ++ f)
six_told before x1 x2 x3 x4 x5 x6 seen a b c d e f e1 e2 e3 e4 e5 e6 = grind (arith, told_both)
