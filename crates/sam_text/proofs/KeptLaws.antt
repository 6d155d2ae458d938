-- What holds of all files stays so under each change.
use Rattle.sam_text.proofs.Common.{◌≡◌, ◌∙◌, refl, ap, false, changed, ℕ, zero, suc, ◌<◌, ◌≤◌, List, [], ◌∷◌, length, set, Option, Some, true, sym, subst, arith, length-append, unwrap_or, is_some, Result, Ok, Err, OnOk, OnErr, length-drop, length-take-le, ⊤, all_tags, part, Slots, slot, put_slot, free_slot, slot-put_same, slot-put_other, slot-free_same, slot-free_other, slot-map, slot_given, length-put_slot, length-free_slot, length-map_slots, put_slot-push, PlainFile, PlainFiles, blank_file, file_at, has_file, put_file, with_new, without_file, announced_file, announce_all, IsFit, HasShortName, AreSoundFiles, AreAnnounced, IfSome, RoomyFile, plain_slots}
use Rattle.std.proofs.Common.{length-set}
use Rattle.std.proofs.lemmas.Result.{on_err_weaker}
use Rattle.sam_text.proofs.ViewLaws.{view-set}
use Rattle.sam_text.proofs.FitLaws.{all-put, fit-put}
use Rattle.sam_text.specs.Files.{IsCommandFileClean, file_in, is_changed}
use Rattle.sam_text.specs.Views.{KeepsClean, plain_file}
use Rattle.sam_text.specs.declared.file.FileChange.{FileChange}

-- a tag that has a file keeps one where a file is put
pub given-put : {X : Type 0} (ss : Slots X) (f g : ℕ) (x : X) → is_some (slot ss g) ≡ true → is_some (slot (put_slot ss f x) g) ≡ true
given-put ss f g x e = grind (arith, slot-put_same, slot-put_other)

-- the command file stays clean where another file is put, and where a clean one is put in its place
pub clean-put : (fs : PlainFiles) (g : ℕ) (x : PlainFile) → IsCommandFileClean fs → (g ≡ 0 → x.dirty ≡ false) → IsCommandFileClean (put_file fs g x)
clean-put fs zero x all new = ap (λ s. (unwrap_or s blank_file).dirty) (slot-put_same fs.slots 0 x) ∙ new refl
clean-put fs (suc g) x all new = ap (λ s. (unwrap_or s blank_file).dirty) (slot-put_other fs.slots (suc g) 0 x (omega arith)) ∙ all

-- a change that makes no file dirty leaves a clean one clean
pub clean-changed : (change : FileChange) (file : PlainFile) → KeepsClean change → file.dirty ≡ false → (changed change file).dirty ≡ false
clean-changed change file keeps clean = grind arith

-- a change leaves an announced file announced
pub announced-changed : (change : FileChange) (file : PlainFile) → file.announced ≡ true → (changed change file).announced ≡ true
announced-changed change file told = grind arith

-- a file is put where one was
pub kept_put : (fs : PlainFiles) (g : ℕ) (x : PlainFile) → AreSoundFiles fs → has_file fs g ≡ true → IsFit x → HasShortName x → (g ≡ 0 → x.dirty ≡ false)
    → AreSoundFiles (put_file fs g x)
kept_put fs g x all there fit short clean = grind (arith, length-put_slot, slot_given, given-put, fit-put, (all-put HasShortName), (clean-put fs g x all.7 clean))

-- what holds of every file, and of a blank one, holds of every file once one is gone
pub all-free : (P : PlainFile → Type 0) (fs : PlainFiles) (g : ℕ) → P blank_file → ((f : ℕ) → P (file_at fs f)) → (f : ℕ) → P (unwrap_or (slot (free_slot fs.slots g) f) blank_file)
all-free P fs g none all f = grind (arith, slot-free_same, slot-free_other)

-- a file that is not the command file is taken away
pub kept_free : (fs : PlainFiles) (g : ℕ) → AreSoundFiles fs → 0 < g → AreSoundFiles (without_file fs g)
kept_free fs g all positive = grind (arith, length-free_slot, slot-free_other, (all-free IsFit), (all-free HasShortName))

-- a file is added
pub kept_new : (fs : PlainFiles) (x : PlainFile) → AreSoundFiles fs → length fs.slots < all_tags → IsFit x → HasShortName x → AreSoundFiles (with_new fs x)
kept_new fs x all free fit short =
    let clean : length fs.slots ≡ 0 → x.dirty ≡ false = λ e. absurd (omega (arith, e, slot_given fs.slots 0 all.1)) in
    grind (arith, put_slot-push, length-append, given-put, fit-put, (all-put HasShortName), (clean-put fs (length fs.slots) x all.7 clean))

-- a file that was put is there
pub put_is_there : (fs : PlainFiles) (f : ℕ) (x : PlainFile) → has_file (put_file fs f x) f ≡ true
put_is_there fs f x = grind (arith, slot-put_same)

-- what holds of every file, also once it is announced, holds of every file once all are announced
pub all-announce : (P : PlainFile → Type 0) → ((x : PlainFile) → P x → P (announced_file x)) → (ss : Slots PlainFile)
    → ((f : ℕ) → P (unwrap_or (slot ss f) blank_file)) → (f : ℕ) → P (unwrap_or (slot (announce_all ss) f) blank_file)
all-announce P step [] all f = all f
all-announce P step (s ∷ ss) all zero = all 0
all-announce P step (s ∷ ss) all (suc f) = let here : P (unwrap_or (slot ss f) blank_file) = all (suc f) in grind (arith, (slot-map announced_file ss f))

clean-announce : (fs : PlainFiles) (ss : Slots PlainFile) → (unwrap_or (slot ss 0) blank_file).dirty ≡ false → (unwrap_or (slot (announce_all ss) 0) blank_file).dirty ≡ false
clean-announce fs [] clean = clean
clean-announce fs (s ∷ ss) clean = clean

-- all files but the command file are announced
pub kept_announce : (fs : PlainFiles) → AreSoundFiles fs → AreSoundFiles (record fs { slots = announce_all fs.slots })
kept_announce fs all = grind (arith, (all-announce IsFit), (all-announce HasShortName), length-map_slots, slot-map, (clean-announce fs fs.slots all.7))

-- an edit of the command file leaves it clean
clean-edited : (ss : Slots PlainFile) (g : ℕ) → (file_in ss 0).dirty ≡ false → g ≡ 0 → is_changed g (file_in ss g) ≡ false
clean-edited ss zero clean e = clean
clean-edited ss (suc g) clean e = absurd (omega (arith, e))

-- ## Files that are announced

-- a file is put that is announced where the one before it was
announced-put_at : (ss : Slots PlainFile) (g f : ℕ) (x : PlainFile) → is_some (slot ss g) ≡ true → ((file_in ss g).announced ≡ true → x.announced ≡ true)
    → IfSome (slot ss f) (λ file. file.announced ≡ true) → IfSome (slot (put_slot ss g x) f) (λ file. file.announced ≡ true)
announced-put_at ss g f x there keeps is = grind (arith, slot-put_same, slot-put_other)

announced-put : (n : ℕ) (ss : Slots PlainFile) (g : ℕ) (x : PlainFile) → AreAnnounced n ss → is_some (slot ss g) ≡ true
    → ((file_in ss g).announced ≡ true → x.announced ≡ true) → AreAnnounced n (put_slot ss g x)
unfolding AreAnnounced
announced-put n ss g x all there keeps = λ f p l. announced-put_at ss g f x there keeps (all f p l)

-- the tag of a new file is not below
announced-new : (n : ℕ) (ss : Slots PlainFile) (x : PlainFile) → n ≤ length ss → AreAnnounced n ss → AreAnnounced n (put_slot ss (length ss) x)
unfolding AreAnnounced
announced-new n ss x within all = λ f p l. subst (λ s. IfSome s (λ (file : PlainFile). file.announced ≡ true)) (sym (slot-put_other ss (length ss) f x (λ e. absurd (omega (arith, e, l, within))))) (all f p l)

announced-free_at : (ss : Slots PlainFile) (g f : ℕ) → IfSome (slot ss f) (λ file. file.announced ≡ true) → IfSome (slot (free_slot ss g) f) (λ file. file.announced ≡ true)
announced-free_at ss g f is = grind (arith, slot-free_same, slot-free_other)

announced-all_at : (ss : Slots PlainFile) (f : ℕ) → 0 < f → IfSome (slot (announce_all ss) f) (λ file. file.announced ≡ true)
announced-all_at (s ∷ ss) (suc f) l = grind (arith, slot-map)
announced-all_at ss f l = grind arith

-- ## What holds of the code's files: they are sound, and those below a tag are announced
abbrev pub AreKept : List (Option RoomyFile) → List ℕ → Option (List ℕ) → Option ℕ → ℕ → Type 0
AreKept ss snarf pattern work n =
    AreSoundFiles (record { slots = plain_slots ss; snarf = snarf; pattern = pattern; work = work })
    × (1 ≤ n) × (n ≤ length ss) × (AreAnnounced n (plain_slots ss))

-- the file of a slot was lent, and is left as a sound one, announced if it was
pub kept_lent : (ss : List (Option RoomyFile)) (snarf : List ℕ) (pattern : Option (List ℕ)) (work : Option ℕ) (n g : ℕ) (x : RoomyFile)
    → AreKept ss snarf pattern work n → is_some (slot (plain_slots ss) g) ≡ true → IsFit x.plain → HasShortName x.plain → (g ≡ 0 → x.plain.dirty ≡ false)
    → ((file_in (plain_slots ss) g).announced ≡ true → x.plain.announced ≡ true) → AreKept (set ss g (Some x)) snarf pattern work n
kept_lent ss snarf pattern work n g x all there fit short clean told =
    let fs : PlainFiles = record { slots = plain_slots ss; snarf = snarf; pattern = pattern; work = work } in
    let within : g < length ss = subst (λ n. g < n) (length-map_slots plain_file ss) (slot_given (plain_slots ss) g there) in
    let put : plain_slots (set ss g (Some x)) ≡ put_slot (plain_slots ss) g x.plain = view-set plain_file ss g x within in (
      subst (λ (s : Slots PlainFile). AreSoundFiles (record fs { slots = s })) (sym put) (kept_put fs g x.plain all.0 there fit short clean),
      all.1,
      subst (λ m. n ≤ m) (sym (length-set ss g (Some x))) all.2,
      subst (λ s. AreAnnounced n s) (sym put) (announced-put n (plain_slots ss) g x.plain all.3 there told),
    )

-- the same where the file was changed
pub kept_changed : (ss : List (Option RoomyFile)) (snarf : List ℕ) (pattern : Option (List ℕ)) (work : Option ℕ) (n g : ℕ) (x : RoomyFile) (change : FileChange)
    → AreKept ss snarf pattern work n → is_some (slot (plain_slots ss) g) ≡ true
    → IsFit x.plain → HasShortName x.plain → (g ≡ 0 → KeepsClean change) → x.plain ≡ changed change (file_in (plain_slots ss) g)
    → AreKept (set ss g (Some x)) snarf pattern work n
kept_changed ss snarf pattern work n g x change all there fit short keeps is =
    kept_lent ss snarf pattern work n g x all there fit short
    (λ e. ap (λ (file : PlainFile). file.dirty) is ∙ clean-changed change (file_in (plain_slots ss) g) (keeps e) (subst (λ f. (file_in (plain_slots ss) f).dirty ≡ false) (sym e) all.0.7))
    (λ told. ap (λ (file : PlainFile). file.announced) is ∙ announced-changed change (file_in (plain_slots ss) g) told)

-- the same where it was edited, which keeps the mark of the command file
pub kept_edited : (ss : List (Option RoomyFile)) (snarf : List ℕ) (pattern : Option (List ℕ)) (work : Option ℕ) (n g : ℕ) (x : RoomyFile)
    → AreKept ss snarf pattern work n → is_some (slot (plain_slots ss) g) ≡ true
    → IsFit x.plain → HasShortName x.plain → x.plain.dirty ≡ is_changed g (file_in (plain_slots ss) g) → x.plain.announced ≡ (file_in (plain_slots ss) g).announced
    → AreKept (set ss g (Some x)) snarf pattern work n
kept_edited ss snarf pattern work n g x all there fit short is same =
    kept_lent ss snarf pattern work n g x all there fit short (λ e. is ∙ clean-edited (plain_slots ss) g all.0.7 e) (λ told. same ∙ told)

-- a file is added, or nothing is changed
pub kept_new_or : {E : Type 0} (fs : PlainFiles) (x : PlainFile) → AreSoundFiles fs → length fs.slots < all_tags → IsFit x → HasShortName x
    → (r : Result ⊤ E) (after : Slots PlainFile) → OnOk r (after ≡ put_slot fs.slots (length fs.slots) x) → OnErr r (after ≡ fs.slots)
    → AreSoundFiles (record fs { slots = after })
kept_new_or fs x all free fit short (Ok u) after same err = subst (λ ss. AreSoundFiles (record fs { slots = ss })) (sym same) (kept_new fs x all free fit short)
kept_new_or fs x all free fit short (Err e) after same err = subst (λ ss. AreSoundFiles (record fs { slots = ss })) (sym err) all

-- those below a tag stay announced
pub announced_new_or : {E : Type 0} (n : ℕ) (ss : Slots PlainFile) (x : PlainFile) → n ≤ length ss → AreAnnounced n ss
    → (r : Result ⊤ E) (after : Slots PlainFile) → OnOk r (after ≡ put_slot ss (length ss) x) → OnErr r (after ≡ ss)
    → (n ≤ length after) × (AreAnnounced n after)
announced_new_or n ss x within all (Ok u) after same err =
    subst (λ s. (n ≤ length s) × (AreAnnounced n s)) (sym same) (grind (arith, put_slot-push, length-append), announced-new n ss x within all)
announced_new_or n ss x within all (Err e) after same err = subst (λ s. (n ≤ length s) × (AreAnnounced n s)) (sym err) (within, all)

-- the same of a file that is taken away
pub announced_free : (n : ℕ) (ss : Slots PlainFile) (g : ℕ) → AreAnnounced n ss → AreAnnounced n (free_slot ss g)
unfolding AreAnnounced
announced_free n ss g all = λ f p l. announced-free_at ss g f (all f p l)

-- none is below the first
pub announced_first : (ss : Slots PlainFile) → AreAnnounced 1 ss
unfolding AreAnnounced
announced_first ss = λ f p l. absurd (omega (arith, p, l))

-- once all are announced, they are so below any tag
pub announced_all : (n : ℕ) (ss : Slots PlainFile) → AreAnnounced n (announce_all ss)
unfolding AreAnnounced
announced_all n ss = λ f p l. announced-all_at ss f p

pub part_within : {X : Type 0} (t : List X) (p q : ℕ) → p ≤ q → q ≤ length t → length (part t p q) ≤ length t
part_within t p q l h = grind (arith, length-drop, length-take-le)

-- what `add` rests on
pub ruleset add_facts = (kept_new_or, announced_new_or, length-map_slots, on_err_weaker)
