-- Files that are marked as dirty: what changes them or tells of them does as before, but that it tells of fewer that they become dirty.
use Rattle.sam_host.proofs.Common.{◌≡◌, refl, sym, ap, ◌∙◌, subst, ℕ, zero, suc, ◌+◌, ◌-◌, ◌≤◌, Bool, true, false, not, ◌&&◌, ◌||◌, ◌==◌, if◌then◌else◌, flat_map, reverse, drop, List, [], ◌∷◌, ◌++◌, length, Option, Some, None, IfSome, arith, unwrap_or, option_map, option_and_then, either, max_runes, is_empty, nat_le, nat_lt, most_in_message, Slots, slot, put_slot, PlainFile, PlainFiles, PlainOutcome, blank_file, file_at, has_file, has_room, put_file, announce_all, after_print, put_outcome, committed, meaning, work_on, Edit, Hmesg, Hcut, Hgrow, Hgrowdata, Hdirty, Hmovname, Hnewname, Hsetpat, PlainHost, told_dirty}
use Rattle.std.specs.Prelude.{is_some}
use Rattle.std.proofs.Common.{◌⊎◌, inl, inr, true≢false}
use Rattle.sam_runes.specs.Slots.{map_slots}
use Rattle.sam_text.specs.Files.{announced_file, file_after, printed_file, is_printed}
use Rattle.sam_text.specs.Meaning.{WorkFile}
unfoldable use Rattle.sam_text.specs.Meaning.{line_outcome}
unfoldable use Rattle.sam_host.specs.Host.{when, when_given, grown, printed, told_edit, told_outcome, told_names}

-- ## Files that are marked

abbrev pub dirtied : Bool → PlainFile → PlainFile
dirtied b x = record x { dirty = x.dirty || b }

-- each file for whose tag the test holds is dirty
abbrev pub dirty_slots : (ℕ → Bool) → Slots PlainFile → Slots PlainFile
dirty_slots d [] = []
dirty_slots d (s ∷ ss) = option_map (dirtied (d 0)) s ∷ dirty_slots (λ f. d (suc f)) ss

abbrev pub dirty_files : (ℕ → Bool) → PlainFiles → PlainFiles
dirty_files d fs = record fs { slots = dirty_slots d fs.slots }

abbrev pub with_dirt : (ℕ → Bool) → PlainHost → PlainHost
with_dirt d h = record h { files = dirty_files d h.files }

-- no file that was not given is marked, nor the command file
pub record IsDirt (d : ℕ → Bool) (ss : Slots PlainFile) : Type 0 where
  pub command : d 0 ≡ false
  pub past : (f : ℕ) → length ss ≤ f → d f ≡ false

-- ## Slots

or-false : (b : Bool) → (b || false) ≡ b
or-false true = refl
or-false false = refl

pub or-true : (b : Bool) → (b || true) ≡ true
or-true true = refl
or-true false = refl

pub clean-same : (b : Bool) (x : PlainFile) → b ≡ false → dirtied b x ≡ x
clean-same b x e = ap (λ (c : Bool). dirtied c x) e ∙ ap (λ (c : Bool). record x { dirty = c }) (or-false x.dirty)

pub slot-dirt : (d : ℕ → Bool) (ss : Slots PlainFile) (f : ℕ) → slot (dirty_slots d ss) f ≡ option_map (dirtied (d f)) (slot ss f)
slot-dirt d [] f = refl
slot-dirt d (s ∷ ss) zero = refl
slot-dirt d (s ∷ ss) (suc f) = slot-dirt (λ g. d (suc g)) ss f

pub length-dirt : (d : ℕ → Bool) (ss : Slots PlainFile) → length (dirty_slots d ss) ≡ length ss
length-dirt d [] = refl
length-dirt d (s ∷ ss) = ap suc (length-dirt (λ f. d (suc f)) ss)

pub put-dirt : (d : ℕ → Bool) (ss : Slots PlainFile) (f : ℕ) (x : PlainFile) → put_slot (dirty_slots d ss) f (dirtied (d f) x) ≡ dirty_slots d (put_slot ss f x)
put-dirt d [] zero x = refl
put-dirt d [] (suc f) x = ap (λ (ss : Slots PlainFile). None ∷ ss) (put-dirt (λ g. d (suc g)) [] f x)
put-dirt d (s ∷ ss) zero x = refl
put-dirt d (s ∷ ss) (suc f) x = ap (λ (rest : Slots PlainFile). option_map (dirtied (d 0)) s ∷ rest) (put-dirt (λ g. d (suc g)) ss f x)

map-dirt : (d : ℕ → Bool) (ss : Slots PlainFile) → map_slots announced_file (dirty_slots d ss) ≡ dirty_slots d (map_slots announced_file ss)
map-dirt d [] = refl
map-dirt d (None ∷ ss) = ap (λ (rest : Slots PlainFile). None ∷ rest) (map-dirt (λ f. d (suc f)) ss)
map-dirt d (Some x ∷ ss) = ap (λ (rest : Slots PlainFile). Some (announced_file (dirtied (d 0) x)) ∷ rest) (map-dirt (λ f. d (suc f)) ss)

pub announce-dirt : (d : ℕ → Bool) (ss : Slots PlainFile) → announce_all (dirty_slots d ss) ≡ dirty_slots d (announce_all ss)
announce-dirt d [] = refl
announce-dirt d (s ∷ ss) = ap (λ (rest : Slots PlainFile). option_map (dirtied (d 0)) s ∷ rest) (map-dirt (λ f. d (suc f)) ss)

names-dirt : (d : ℕ → Bool) (f : ℕ) (ss : Slots PlainFile) → told_names f (dirty_slots d ss) ≡ told_names f ss
unfolding told_names
names-dirt d f [] = refl
names-dirt d f (None ∷ ss) = names-dirt (λ g. d (suc g)) (1 + f) ss
names-dirt d f (Some x ∷ ss) = ap (λ (ms : List Hmesg). when (not x.announced) (Hnewname f ∷ Hmovname f x.name ∷ []) ++ ms) (names-dirt (λ g. d (suc g)) (1 + f) ss)

pub names-behind : (d : ℕ → Bool) (ss : Slots PlainFile) → told_names 1 (drop 1 (dirty_slots d ss)) ≡ told_names 1 (drop 1 ss)
names-behind d [] = refl
names-behind d (s ∷ ss) = names-dirt (λ g. d (suc g)) 1 ss

-- ## Files

pub has-dirt : (d : ℕ → Bool) (fs : PlainFiles) (f : ℕ) → has_file (dirty_files d fs) f ≡ has_file fs f
has-dirt d fs f = ap is_some (slot-dirt d fs.slots f) ∙ by (slot fs.slots f)
  where
    by : (s : Option PlainFile) → is_some (option_map (dirtied (d f)) s) ≡ is_some s
    by None = refl
    by (Some x) = refl

pub file-dirt : (d : ℕ → Bool) (fs : PlainFiles) (f : ℕ) → file_at (dirty_files d fs) f ≡ dirtied (has_file fs f && d f) (file_at fs f)
file-dirt d fs f = ap (λ (s : Option PlainFile). unwrap_or s blank_file) (slot-dirt d fs.slots f) ∙ by (slot fs.slots f)
  where
    by : (s : Option PlainFile) → unwrap_or (option_map (dirtied (d f)) s) blank_file ≡ dirtied (is_some s && d f) (unwrap_or s blank_file)
    by None = refl
    by (Some x) = refl

-- a file that is there
file-there : (d : ℕ → Bool) (fs : PlainFiles) (f : ℕ) → has_file fs f ≡ true → file_at (dirty_files d fs) f ≡ dirtied (d f) (file_at fs f)
file-there d fs f there = file-dirt d fs f ∙ ap (λ (b : Bool). dirtied (b && d f) (file_at fs f)) there

-- a file that is not marked
pub file-clean : (d : ℕ → Bool) (fs : PlainFiles) (f : ℕ) → d f ≡ false → file_at (dirty_files d fs) f ≡ file_at fs f
file-clean d fs f e = file-dirt d fs f ∙ clean-same (has_file fs f && d f) (file_at fs f) (grind (arith, e))

-- the change of a file that marks don't touch
pub put-there : (d : ℕ → Bool) (fs : PlainFiles) (f : ℕ) (change : PlainFile → PlainFile) → has_file fs f ≡ true
    → ((b : Bool) (x : PlainFile) → change (dirtied b x) ≡ dirtied b (change x))
    → put_file (dirty_files d fs) f (change (file_at (dirty_files d fs) f)) ≡ dirty_files d (put_file fs f (change (file_at fs f)))
put-there d fs f change there same =
    ap (λ (x : PlainFile). put_file (dirty_files d fs) f x) (ap change (file-there d fs f there) ∙ same (d f) (file_at fs f))
    ∙ ap (λ (ss : Slots PlainFile). record fs { slots = ss }) (put-dirt d fs.slots f (change (file_at fs f)))

-- a file that is put where none is marked
pub put-clean : (d : ℕ → Bool) (fs : PlainFiles) (f : ℕ) (x : PlainFile) → d f ≡ false → put_file (dirty_files d fs) f x ≡ dirty_files d (put_file fs f x)
put-clean d fs f x e =
    ap (λ (y : PlainFile). put_file (dirty_files d fs) f y) (sym (clean-same (d f) x e)) ∙ ap (λ (ss : Slots PlainFile). record fs { slots = ss }) (put-dirt d fs.slots f x)

-- ## Frames

-- the second list is the first, but for some frames that say of files of `d` that they become dirty
abbrev pub Fewer : (ℕ → Bool) → List Hmesg → List Hmesg → Type 0
Fewer d [] ys = ys ≡ []
Fewer d (x ∷ xs) ys = ((f : ℕ) × (x ≡ Hdirty f) × (d f ≡ true) × Fewer d xs ys) ⊎ ((zs : List Hmesg) × (ys ≡ x ∷ zs) × Fewer d xs zs)

pub fewer-same : (d : ℕ → Bool) (xs : List Hmesg) → Fewer d xs xs
fewer-same d [] = refl
fewer-same d (x ∷ xs) = inr (xs, refl, fewer-same d xs)

pub fewer-is : (d : ℕ → Bool) (xs ys : List Hmesg) → ys ≡ xs → Fewer d xs ys
fewer-is d xs ys e = subst (Fewer d xs) (sym e) (fewer-same d xs)

pub fewer-append : (d : ℕ → Bool) (xs ys us vs : List Hmesg) → Fewer d xs ys → Fewer d us vs → Fewer d (xs ++ us) (ys ++ vs)
fewer-append d [] ys us vs a b = subst (λ (l : List Hmesg). Fewer d us (l ++ vs)) (sym a) b
fewer-append d (x ∷ xs) ys us vs (inl (f, e, on, a)) b = inl (f, e, on, fewer-append d xs ys us vs a b)
fewer-append d (x ∷ xs) ys us vs (inr (zs, e, a)) b = inr (zs ++ vs, ap (λ (l : List Hmesg). l ++ vs) e, fewer-append d xs zs us vs a b)

-- some frames of more files
pub fewer-wide : (c d : ℕ → Bool) (xs ys : List Hmesg) → ((f : ℕ) → c f ≡ true → d f ≡ true) → Fewer c xs ys → Fewer d xs ys
fewer-wide c d [] ys w a = a
fewer-wide c d (x ∷ xs) ys w (inl (f, e, on, a)) = inl (f, e, w f on, fewer-wide c d xs ys w a)
fewer-wide c d (x ∷ xs) ys w (inr (zs, e, a)) = inr (zs, e, fewer-wide c d xs zs w a)

fewer-when : (d : ℕ → Bool) (f : ℕ) (a b : Bool) → (a ≡ false → b ≡ false) → (a ≡ true → b ≡ false → d f ≡ true) → Fewer d (when a (Hdirty f ∷ [])) (when b (Hdirty f ∷ []))
unfolding when
fewer-when d f true true e on = fewer-same d (Hdirty f ∷ [])
fewer-when d f true false e on = inl (f, refl, on refl refl, refl)
fewer-when d f false true e on = absurd (grind (arith, e))
fewer-when d f false false e on = refl

pub grown-dirt : (d : ℕ → Bool) (fs : PlainFiles) (f p : ℕ) (s : List ℕ) → grown (dirty_files d fs) f p s ≡ grown fs f p s
unfolding grown
grown-dirt d fs f p s =
    ap (λ (x : PlainFile). when (x.opened && not (is_empty s)) ((if nat_le (length s) most_in_message then Hgrowdata f p s else Hgrow f p (length s)) ∷ [])) (file-dirt d fs f)

pub dirty-dirt : (d : ℕ → Bool) (fs : PlainFiles) (f : ℕ) → Fewer d (told_dirty fs f) (told_dirty (dirty_files d fs) f)
dirty-dirt d fs f =
    subst (λ (x : PlainFile). Fewer d (told_dirty fs f) (when (not x.dirty && not (f == 0)) (Hdirty f ∷ []))) (sym (file-dirt d fs f))
    (fewer-when d f (not (file_at fs f).dirty && not (f == 0)) (not ((file_at fs f).dirty || (has_file fs f && d f)) && not (f == 0)) (by (file_at fs f).dirty (has_file fs f && d f) (not (f == 0)))
    (on (file_at fs f).dirty (has_file fs f) (d f) (not (f == 0))))
  where
    by : (a b c : Bool) → (not a && c) ≡ false → (not (a || b) && c) ≡ false
    by true b c e = refl
    by false true c e = refl
    by false false c e = e

    on : (a b m c : Bool) → (not a && c) ≡ true → (not (a || (b && m)) && c) ≡ false → m ≡ true
    on a b true c e q = refl
    on true b false c e q = absurd (true≢false (sym e))
    on false true false c e q = absurd (true≢false (sym e ∙ q))
    on false false false c e q = absurd (true≢false (sym e ∙ q))

edit-dirt : (d : ℕ → Bool) (fs : PlainFiles) (f : ℕ) (e : Edit) → told_edit (dirty_files d fs) f e ≡ told_edit fs f e
unfolding told_edit
edit-dirt d fs f e = ap (λ (ms : List Hmesg). when (nat_lt e.p e.q) (Hcut f e.p (e.q - e.p) ∷ []) ++ ms) (grown-dirt d fs f e.p e.text)

edits-dirt : (d : ℕ → Bool) (fs : PlainFiles) (f : ℕ) (es : List Edit) → flat_map (told_edit (dirty_files d fs) f) es ≡ flat_map (told_edit fs f) es
edits-dirt d fs f [] = refl
edits-dirt d fs f (e ∷ es) = λ i. edit-dirt d fs f e i ++ edits-dirt d fs f es i

-- ## The command file

pub print-dirt : (d : ℕ → Bool) (fs : PlainFiles) (s : List ℕ) → d 0 ≡ false → after_print (dirty_files d fs) s ≡ dirty_files d (after_print fs s)
print-dirt d fs s e =
    ap (λ (x : PlainFile). if not (is_empty s) && nat_le (length x.text + length s) max_runes then put_file (dirty_files d fs) 0 (printed_file x s) else dirty_files d fs) (file-clean d fs 0 e)
    ∙ by (is_printed fs s)
  where
    by : (b : Bool) → (if b then put_file (dirty_files d fs) 0 (printed_file (file_at fs 0) s) else dirty_files d fs) ≡ dirty_files d (if b then put_file fs 0 (printed_file (file_at fs 0) s) else fs)
    by true = put-clean d fs 0 (printed_file (file_at fs 0) s) e
    by false = refl

pub printed-dirt : (d : ℕ → Bool) (fs : PlainFiles) (s : List ℕ) → d 0 ≡ false → printed (dirty_files d fs) s ≡ printed fs s
unfolding printed
printed-dirt d fs s e = grind (arith, file-clean, grown-dirt)

pub has_room-dirt : (d : ℕ → Bool) (fs : PlainFiles) (s : List ℕ) → d 0 ≡ false → has_room (dirty_files d fs) s ≡ has_room fs s
has_room-dirt d fs s e = ap (λ (x : PlainFile). nat_le (length x.text + length s) max_runes) (file-clean d fs 0 e)

-- ## Lines

pub meaning-dirt : (d : ℕ → Bool) (fs : PlainFiles) (line : List ℕ) → meaning (dirty_files d fs) line ≡ meaning fs line
meaning-dirt d fs line = ap (λ x. line_outcome x line) (go fs.work)
  where
    same : (f : ℕ) (b : Bool) (s : Option PlainFile) → option_map (work_on f) (option_map (dirtied b) s) ≡ option_map (work_on f) s
    same f b None = refl
    same f b (Some x) = refl

    go : (o : Option ℕ) → option_and_then (λ f. option_map (work_on f) (slot (dirty_slots d fs.slots) f)) o ≡ option_and_then (λ f. option_map (work_on f) (slot fs.slots f)) o
    go None = refl
    go (Some f) = ap (λ (s : Option PlainFile). option_map (work_on f) s) (slot-dirt d fs.slots f) ∙ same f (d f) (slot fs.slots f)

-- the file that a line works on is there
nameless : (line : List ℕ) (f : ℕ) → (line_outcome None line).file ≡ Some f → ⊥
unfolding line_outcome
nameless line f e = grind arith

tagged : (w : WorkFile) (line : List ℕ) (f : ℕ) → (line_outcome (Some w) line).file ≡ Some f → w.tag ≡ f
unfolding line_outcome
tagged w line f e = grind arith

pub work_there : (fs : PlainFiles) (line : List ℕ) (f : ℕ) → (meaning fs line).file ≡ Some f → has_file fs f ≡ true
work_there fs line f e = by fs.work e
  where
    at : (k : ℕ) (o : Option PlainFile) → slot fs.slots k ≡ o → (line_outcome (option_map (work_on k) o) line).file ≡ Some f → has_file fs f ≡ true
    at k None q e = absurd (nameless line f e)
    at k (Some x) q e = subst (λ (n : ℕ). has_file fs n ≡ true) (tagged (work_on k x) line f e) (ap is_some q)

    by : (work : Option ℕ) → (line_outcome (option_and_then (λ k. option_map (work_on k) (slot fs.slots k)) work) line).file ≡ Some f → has_file fs f ≡ true
    by None e = absurd (nameless line f e)
    by (Some k) e = at k (slot fs.slots k) refl e

abbrev Has : PlainFiles → Option ℕ → Type 0
Has fs x = IfSome x (λ f. has_file fs f ≡ true)

pub line-there : (fs : PlainFiles) (line : List ℕ) → Has fs (meaning fs line).file
line-there fs line = go (meaning fs line).file refl
  where
    go : (x : Option ℕ) → (meaning fs line).file ≡ x → Has fs x
    go None e = tt
    go (Some f) e = work_there fs line f e

or-swap : (a b c : Bool) → ((a || b) || c) ≡ ((a || c) || b)
or-swap true b c = refl
or-swap false true c = sym (or-true c)
or-swap false false c = sym (or-false c)

outcome-dirt : (d : ℕ → Bool) (x : Option ℕ) (fs : PlainFiles) (o : PlainOutcome) → Has fs x → put_outcome x (dirty_files d fs) o ≡ dirty_files d (put_outcome x fs o)
outcome-dirt d None fs o there = refl
outcome-dirt d (Some f) fs o there =
    put-there d fs f (λ (x : PlainFile). file_after x o) there (λ b x. ap (λ (c : Bool). record (file_after x o) { dirty = c }) (or-swap x.dirty b (not (is_empty o.edits))))

pub committed-dirt : (d : ℕ → Bool) (fs : PlainFiles) (o : PlainOutcome) → Has fs o.file → committed (dirty_files d fs) o ≡ dirty_files d (committed fs o)
committed-dirt d fs o there = ap (λ (gs : PlainFiles). record gs { pattern = either o.pattern fs.pattern }) (outcome-dirt d o.file fs o there)

pub told-dirt : (d : ℕ → Bool) (x : Option ℕ) (fs : PlainFiles) (o : PlainOutcome) → Fewer d (told_outcome x fs o) (told_outcome x (dirty_files d fs) o)
unfolding told_outcome
told-dirt d None fs o = fewer-same d (when_given o.pattern Hsetpat)
told-dirt d (Some f) fs o =
    fewer-append d _ _ _ _ (fewer-append d _ _ _ _ (fewer-append d _ _ _ _ (fewer-append d _ _ _ _ (fewer-append d _ _ _ _
    (fewer-is d _ _ (edits-dirt d fs f (reverse o.edits)))
    (subst (λ (x : PlainFile). Fewer d (when (some && not (file_at fs f).dirty) (Hdirty f ∷ [])) (when (some && not x.dirty) (Hdirty f ∷ []))) (sym (file-dirt d fs f))
    (fewer-when d f (some && not (file_at fs f).dirty) (some && not ((file_at fs f).dirty || (has_file fs f && d f))) (by some (file_at fs f).dirty (has_file fs f && d f))
    (on some (file_at fs f).dirty (has_file fs f) (d f)))))
    (fewer-same d _)) (fewer-same d _)) (fewer-same d _)) (fewer-same d _)
  where
    some : Bool
    some = not (is_empty o.edits)

    by : (a b c : Bool) → (a && not b) ≡ false → (a && not (b || c)) ≡ false
    by true true c e = refl
    by true false c e = absurd (grind (arith, e))
    by false b c e = refl

    on : (a b c m : Bool) → (a && not b) ≡ true → (a && not (b || (c && m))) ≡ false → m ≡ true
    on a b c true e q = refl
    on false b c false e q = absurd (true≢false (sym e))
    on true true c false e q = absurd (true≢false (sym e))
    on true false true false e q = absurd (true≢false q)
    on true false false false e q = absurd (true≢false q)
