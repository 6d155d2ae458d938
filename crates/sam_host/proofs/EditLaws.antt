-- Edits in a row, with checks among them, are taken as one after another.
use Rattle.sam_host.proofs.Common.{◌≡◌, ◌&&◌, ◌||◌, ℕ, suc, ◌+◌, ◌<◌, ◌≤◌, Bool, true, false, List, [], ◌∷◌, length, take, Ok, Some, None, unwrap_or, option_and_then, Tcheck, HFrame, FitInPlace, reply_check, PlainFiles, put_file, ◌-◌, if◌then◌else◌, refl, sym, ap, subst, ◌∙◌, arith, nat_eq, reply_cut, ◌++◌, ends_line, most_count, stamped, zero, Slots, slot, put_slot, PlainHost, answer, counted, with_file, PlainFile, file_at, has_file, typed_file, cut_file, Tmesg, Ttype, Tcut, All, All-cons, All-nil}
use Rattle.std.proofs.Common.{◌^◌, inl, inr, le-ltb, is_some, length-take-le, slice_get, take-take}
use Rattle.sam_runes.proofs.SlotLaws.{put_slot-put_slot, slot-put_other, slot-put_same}
use Rattle.sam_text.specs.Files.{blank_file, is_changed}
use Rattle.sam_text.specs.Changes.{AllowsAll, IsAllowed, after_change, changed_by}
use Rattle.sam_text.specs.declared.text_change.TextChange.{TextChange}
use Rattle.sam_text.specs.declared.text_change.TextChange.TheVariants.{Insert, Delete}
use Rattle.std.proofs.lemmas.List.Elements.{All-tail}
use Rattle.sam_host.specs.Edits.{EditFile, EditsOrChecks, IsOpened, MayAnswer, Notes, TakesAll, Tells, checked, edited_file, edits_by, edits_in, message_in, message_of}
use Rattle.sam_host.specs.declared.editing.Entry.{Entry}
use Rattle.sam_host.specs.declared.editing.Entry.TheVariants.{Change, Check}
use Rattle.sam_host.proofs.FrameLaws.{answered}
use Rattle.sam_host.proofs.TypingLaws.{type_alone}

-- the file f after a change
abbrev changed_once : ℕ → PlainFile → TextChange → PlainFile
changed_once f file (Insert p s) = typed_file f file p s.now
changed_once f file (Delete p q) = cut_file f file p q

-- the host after a change of the file f
abbrev taken_once : PlainHost → ℕ → TextChange → PlainHost
taken_once h f c = counted (with_file h f (changed_once f (file_at h.files f) c))

no_command : (f : ℕ) (s : List ℕ) → 0 < f → (nat_eq f 0 && ends_line s) ≡ false
no_command f s l = grind arith

cuts : (h : PlainHost) (f p q : ℕ) → reply_cut h f p q ≡ (with_file h f (cut_file f (file_at h.files f) p q), [])
unfolding reply_cut
cuts h f p q = refl

-- a change that is allowed in an open file is answered with no frame
takes_once : (h : PlainHost) (f : ℕ) (c : TextChange) → 0 < f → has_file h.files f ≡ true → (file_at h.files f).opened ≡ true → h.is_done ≡ false → h.taken < most_count
    → IsAllowed c (file_at h.files f).text → answer h (message_of f c) ≡ Ok (taken_once h f c, [])
takes_once h f (Insert p s) other there opened goes room allowed =
    answered h (with_file h f (typed_file f (file_at h.files f) p s.now)) (Ttype f p s.now) [] (grind arith) goes (grind (arith, le-ltb))
    (ap (λ r. r.0) (sym (type_alone h f p s.now (no_command f s.now other)))) (ap (λ r. stamped (h.taken + 1) r.1) (sym (type_alone h f p s.now (no_command f s.now other)))) refl
takes_once h f (Delete p q) other there opened goes room allowed =
    answered h (with_file h f (cut_file f (file_at h.files f) p q)) (Tcut f p q) [] (grind arith) goes (grind (arith, le-ltb))
    (ap (λ r. r.0) (sym (cuts h f p q))) (ap (λ r. stamped (h.taken + 1) r.1) (sym (cuts h f p q))) refl

or_true : (b : Bool) → (b || true) ≡ true
or_true b = grind arith

or_false : (b : Bool) → (b || false) ≡ b
or_false b = grind arith

dirties : (f : ℕ) (file : PlainFile) → 0 < f → is_changed f file ≡ true
dirties f file l = grind arith

opened_once : (f : ℕ) (file : PlainFile) (c : TextChange) → (changed_once f file c).opened ≡ file.opened
opened_once f file (Insert p s) = refl
opened_once f file (Delete p q) = refl

text_once : (f : ℕ) (file : PlainFile) (c : TextChange) → (changed_once f file c).text ≡ after_change c file.text
text_once f file (Insert p s) = refl
text_once f file (Delete p q) = refl

-- a change, and then others, of a file that is not the command file
changed_more : (f : ℕ) (file : PlainFile) (c : TextChange) (cs : List TextChange) → 0 < f → changed_by cs (changed_once f file c) ≡ changed_by (c ∷ cs) file
changed_more f file (Insert p s) cs l = grind (arith, dirties, or_true)
changed_more f file (Delete p q) cs l = grind (arith, dirties, or_true)

-- no change leaves a file as it is
unchanged : (ss : Slots PlainFile) (f : ℕ) → is_some (slot ss f) ≡ true → put_slot ss f (changed_by [] (unwrap_or (slot ss f) blank_file)) ≡ ss
unchanged (Some x ∷ ss) zero e = ap (λ b. Some (record x { dirty = b }) ∷ ss) (or_false x.dirty)
unchanged (s ∷ ss) (suc f) e = ap (λ rest. s ∷ rest) (unchanged ss f e)
unchanged ss f e = grind arith

-- ## Checks

-- an open file stays open where a file that is there changes, and stays open
still_opened : (fs : PlainFiles) (f g : ℕ) (file : PlainFile) → file.opened ≡ true → IsOpened fs g → IsOpened (put_file fs f file) g
still_opened fs f g file o opened = (grind (arith, slot-put_same, slot-put_other), grind (arith, slot-put_same, slot-put_other))

-- a check of an open file is answered with one frame
checks_once : (h : PlainHost) (g : ℕ) → IsOpened h.files g → h.is_done ≡ false → h.taken < most_count → answer h (Tcheck g) ≡ Ok (counted h, checked h.taken g ∷ [])
unfolding reply_check
checks_once h g opened goes room = answered h h (Tcheck g) (checked h.taken g ∷ []) (grind arith) goes (grind arith) refl refl refl

-- ## Runs

-- edits and checks that may be answered are taken one after another
pub takes_all : (fs : PlainFiles) (h : PlainHost) (f : ℕ) (ms : List Tmesg) (cs : List TextChange) (frames : List HFrame) → ((g : ℕ) → IsOpened fs g → IsOpened h.files g)
    → Tells fs f h.taken ms cs frames → 0 < f → IsOpened h.files f → h.is_done ≡ false → h.taken + length ms ≤ most_count → AllowsAll cs (file_at h.files f).text
    → TakesAll h ms frames (record (with_file h f (changed_by cs (file_at h.files f))) { taken = h.taken + length ms })
takes_all fs h f [] cs frames opens (none, silent) other opened goes room allowed = (silent, grind (arith, none, (unchanged h.files.slots f opened.0)))
takes_all fs h f (m ∷ ms) cs frames opens (inl (c, rest, is, first, tells)) other opened goes room allowed =
    let k = taken_once h f c in
    let file = file_at h.files f in
    let here : file_at k.files f ≡ changed_once f file c = ap (λ s. unwrap_or s blank_file) (slot-put_same h.files.slots f (changed_once f file c)) in
    let there' : has_file k.files f ≡ true = ap is_some (slot-put_same h.files.slots f (changed_once f file c)) in
    let opened' : (changed_once f file c).opened ≡ true = opened_once f file c ∙ opened.1 in
    let allowed' : AllowsAll (c ∷ rest) file.text = subst (λ x. AllowsAll x file.text) first allowed in
    let opens' : (g : ℕ) → IsOpened fs g → IsOpened k.files g = λ g o. still_opened h.files f g (changed_once f file c) opened' (opens g o) in
    let all = takes_all fs k f ms rest frames opens' tells other (there', ap (λ x. x.opened) here ∙ opened') goes (omega (arith, room))
    (subst (AllowsAll rest) (sym (ap (λ x. x.text) here ∙ text_once f file c)) allowed'.1) in
    let same : record (with_file k f (changed_by rest (file_at k.files f))) { taken = k.taken + length ms }
    ≡ record (with_file h f (changed_by (c ∷ rest) file)) { taken = h.taken + length (m ∷ ms) } =
    grind (arith, here, (changed_more f file c rest other), (put_slot-put_slot h.files.slots f (changed_once f file c) (changed_by (c ∷ rest) file))) in
    let same' = same ∙ ap (λ x. record (with_file h f (changed_by x file)) { taken = h.taken + length (m ∷ ms) }) (sym first) in
    (k, [], frames, ap (answer h) is ∙ takes_once h f c other opened.0 opened.1 goes (omega (arith, room)) allowed'.0, refl, subst (TakesAll k ms frames) same' all)
takes_all fs h f (m ∷ ms) cs frames opens (inr (g, rest, is, may, first, tells)) other opened goes room allowed =
    let all = takes_all fs (counted h) f ms cs rest opens tells other opened goes (omega (arith, room)) allowed in
    let same : record (with_file (counted h) f (changed_by cs (file_at h.files f))) { taken = h.taken + 1 + length ms }
    ≡ record (with_file h f (changed_by cs (file_at h.files f))) { taken = h.taken + length (m ∷ ms) } = grind arith in
    (counted h, checked h.taken g ∷ [], rest, ap (answer h) is ∙ checks_once h g (opens g may) goes (omega (arith, room)), first, subst (TakesAll (counted h) ms rest) same all)

-- the answers to checks fit
pub tells_fit : (fs : PlainFiles) (f taken version : ℕ) (ms : List Tmesg) (cs : List TextChange) (frames : List HFrame) → Tells fs f taken ms cs frames → FitInPlace version frames
tells_fit fs f taken version [] cs frames (none, silent) = subst (FitInPlace version) (sym silent) tt
tells_fit fs f taken version (m ∷ ms) cs frames (inl (c, rest, is, first, tells)) = tells_fit fs f (taken + 1) version ms rest frames tells
tells_fit fs f taken version (m ∷ ms) cs frames (inr (g, rest, is, may, first, tells)) =
    subst (FitInPlace version) (sym first) (refl, refl, tells_fit fs f (taken + 1) version ms cs rest tells)

edits_once : (f : ℕ) (c : TextChange) → edited_file (message_of f c) ≡ Some f
edits_once f (Insert p s) = refl
edits_once f (Delete p q) = refl

-- each of them is an edit or a check
tells_run : (fs : PlainFiles) (f taken : ℕ) (ms : List Tmesg) (cs : List TextChange) (frames : List HFrame) → Tells fs f taken ms cs frames → All (EditsOrChecks f) ms
tells_run fs f taken [] cs frames tells = All-nil (EditsOrChecks f)
tells_run fs f taken (m ∷ ms) cs frames (inl (c, rest, is, first, tells)) =
    All-cons (EditsOrChecks f) m ms (inl (ap edited_file is ∙ edits_once f c)) (tells_run fs f (taken + 1) ms rest frames tells)
tells_run fs f taken (m ∷ ms) cs frames (inr (g, rest, is, may, first, tells)) =
    All-cons (EditsOrChecks f) m ms (inr (g, is)) (tells_run fs f (taken + 1) ms cs rest tells)

run_first : (f n : ℕ) (ms : List Tmesg) → option_and_then edited_file (slice_get ms 0) ≡ Some f → All (EditsOrChecks f) (take n ms) → EditFile f (take n ms)
run_first f zero ms first run = tt
run_first f (suc n) [] first run = tt
run_first f (suc n) (m ∷ ms) first run = (first, All-tail (EditsOrChecks f) m (take n ms) run)

-- the first messages edit one file, where the first of them does
pub edits_file : (fs : PlainFiles) (f taken n : ℕ) (ms : List Tmesg) (cs : List TextChange) (frames : List HFrame) → option_and_then edited_file (slice_get ms 0) ≡ Some f
    → Tells fs f taken (take n ms) cs frames → EditFile f (take n ms)
edits_file fs f taken n ms cs frames first tells = run_first f n ms first (tells_run fs f taken (take n ms) cs frames tells)

-- ## One more message

take_next : (ms : List Tmesg) (n : ℕ) (m : Tmesg) → slice_get ms n ≡ Some m → take (n + 1) ms ≡ take n ms ++ m ∷ []
take_next (x ∷ ms) zero m e = grind arith
take_next (x ∷ ms) (suc n) m e = grind (arith, (take_next ms n m))
take_next ms n m e = grind arith

-- a message that is read is there
pub is_there : (ms : List Tmesg) (n : ℕ) (m : Tmesg) → slice_get ms n ≡ Some m → n < length ms
is_there (x ∷ ms) (suc n) m e = grind (arith, (is_there ms n m))
is_there ms n m e = grind arith

then_change : (fs : PlainFiles) (f taken : ℕ) (ms : List Tmesg) (cs : List TextChange) (frames : List HFrame) (c : TextChange) → Tells fs f taken ms cs frames
    → Tells fs f taken (ms ++ message_of f c ∷ []) (cs ++ c ∷ []) frames
then_change fs f taken [] cs frames c (none, silent) = inl (c, [], refl, ap (λ x. x ++ c ∷ []) none, (refl, silent))
then_change fs f taken (m ∷ ms) cs frames c (inl (d, rest, is, first, tells)) =
    inl (d, rest ++ c ∷ [], is, ap (λ x. x ++ c ∷ []) first, then_change fs f (taken + 1) ms rest frames c tells)
then_change fs f taken (m ∷ ms) cs frames c (inr (g, rest, is, may, first, tells)) =
    inr (g, rest, is, may, first, then_change fs f (taken + 1) ms cs rest c tells)

then_check : (fs : PlainFiles) (f taken at : ℕ) (ms : List Tmesg) (cs : List TextChange) (frames : List HFrame) (g : ℕ) → IsOpened fs g → at ≡ taken + length ms
    → Tells fs f taken ms cs frames → Tells fs f taken (ms ++ Tcheck g ∷ []) cs (frames ++ checked at g ∷ [])
then_check fs f taken at [] cs frames g opened is (none, silent) =
    let here : at ≡ taken = omega (arith, is) in inr (g, [], refl, opened, ap (λ x. x ++ checked at g ∷ []) silent ∙ ap (λ n. checked n g ∷ []) here, (none, refl))
then_check fs f taken at (m ∷ ms) cs frames g opened is (inl (d, rest, eq, first, tells)) =
    inl (d, rest, eq, first, then_check fs f (taken + 1) at ms rest frames g opened (omega (arith, is)) tells)
then_check fs f taken at (m ∷ ms) cs frames g opened is (inr (x, rest, eq, may, first, tells)) =
    inr (x, rest ++ checked at g ∷ [], eq, may, ap (λ x. x ++ checked at g ∷ []) first, then_check fs f (taken + 1) at ms cs rest g opened (omega (arith, is)) tells)

-- the first messages are told, and the next one is put behind them
pub one_more : (fs : PlainFiles) (f taken n : ℕ) (ms : List Tmesg) (cs ds : List TextChange) (frames more : List HFrame) (e : Entry) → Tells fs f taken (take n ms) cs frames
    → slice_get ms n ≡ Some (message_in f e) → MayAnswer fs e → Notes e (taken + n) cs frames ds more → Tells fs f taken (take (n + 1) ms) ds more
one_more fs f taken n ms cs ds frames more (Change c) tells next may (changes, same) =
    subst (λ x. Tells fs f taken (take (n + 1) ms) ds x) (sym same) (subst (λ x. Tells fs f taken (take (n + 1) ms) x frames) (sym changes)
    (subst (λ x. Tells fs f taken x (cs ++ c ∷ []) frames) (sym (take_next ms n (message_of f c) next)) (then_change fs f taken (take n ms) cs frames c tells)))
one_more fs f taken n ms cs ds frames more (Check g) tells next may (same, answers) =
    let long : length (take n ms) ≡ n = length-take-le n ms (grind (arith, (is_there ms n (Tcheck g)))) in
    subst (λ x. Tells fs f taken (take (n + 1) ms) ds x) (sym answers) (subst (λ x. Tells fs f taken (take (n + 1) ms) x (frames ++ checked (taken + n) g ∷ [])) (sym same)
    (subst (λ x. Tells fs f taken x cs (frames ++ checked (taken + n) g ∷ [])) (sym (take_next ms n (Tcheck g) next))
    (then_check fs f taken (taken + n) (take n ms) cs frames g may (omega (arith, long)) tells)))

-- ## The first of them

-- how many of the messages neither type nor cut
abbrev others_in : List Tmesg → ℕ
others_in [] = 0
others_in (m ∷ ms) = (if is_some (edited_file m) then 0 else 1) + others_in ms

one_edit : (f : ℕ) (m : Tmesg) (ms : List Tmesg) → edited_file m ≡ Some f → (edits_in (m ∷ ms) ≡ suc (edits_in ms)) × (others_in (m ∷ ms) ≡ others_in ms)
one_edit f m ms edits = (grind arith, grind arith)

no_edit : (m : Tmesg) (ms : List Tmesg) → edited_file m ≡ None → (edits_in (m ∷ ms) ≡ edits_in ms) × (others_in (m ∷ ms) ≡ suc (others_in ms))
no_edit m ms other = (grind arith, grind arith)

all_in : (ms : List Tmesg) → edits_in ms + others_in ms ≡ length ms
all_in [] = refl
all_in (m ∷ ms) = grind (arith, (all_in ms))

-- as many as there are changes
pub edits_told : (fs : PlainFiles) (f taken : ℕ) (ms : List Tmesg) (cs : List TextChange) (frames : List HFrame) → Tells fs f taken ms cs frames → edits_in ms ≡ length cs
edits_told fs f taken [] cs frames (none, silent) = ap length (sym none)
edits_told fs f taken (m ∷ ms) cs frames (inl (c, rest, is, first, tells)) = grind (arith, (edits_once f c), (edits_told fs f (taken + 1) ms rest frames tells))
edits_told fs f taken (m ∷ ms) cs frames (inr (g, rest, is, may, first, tells)) = grind (arith, (edits_told fs f (taken + 1) ms cs rest tells))

front : (fs : PlainFiles) (f taken n : ℕ) (ms : List Tmesg) (cs : List TextChange) (frames : List HFrame) → Tells fs f taken ms cs frames
    → Tells fs f taken (take n ms) (take (edits_in (take n ms)) cs) (take (others_in (take n ms)) frames)
front fs f taken zero ms cs frames tells = (refl, refl)
front fs f taken (suc n) [] cs frames tells = (refl, refl)
front fs f taken (suc n) (m ∷ ms) cs frames (inl (c, rest, is, first, tells)) =
    let one = one_edit f m (take n ms) (ap edited_file is ∙ edits_once f c) in
    let told = front fs f (taken + 1) n ms rest frames tells in
    inl (
      c,
      take (edits_in (take n ms)) rest,
      is,
      ap (λ k. take k cs) one.0 ∙ ap (take (suc (edits_in (take n ms)))) first,
      subst (λ k. Tells fs f (taken + 1) (take n ms) (take (edits_in (take n ms)) rest) (take k frames)) (sym one.1) told,
    )
front fs f taken (suc n) (m ∷ ms) cs frames (inr (g, rest, is, may, first, tells)) =
    let none = no_edit m (take n ms) (ap edited_file is) in
    let told = front fs f (taken + 1) n ms cs rest tells in
    inr (
      g,
      take (others_in (take n ms)) rest,
      is,
      may,
      ap (λ k. take k frames) none.1 ∙ ap (take (suc (others_in (take n ms)))) first,
      subst (λ k. Tells fs f (taken + 1) (take n ms) (take k cs) (take (others_in (take n ms)) rest)) (sym none.0) told,
    )

-- the first n messages, of which so many type or cut, tell the first changes
pub tells_front : (fs : PlainFiles) (f taken k n edits : ℕ) (ms : List Tmesg) (cs : List TextChange) (frames : List HFrame) → Tells fs f taken (take k ms) cs frames
    → n ≤ k → k ≤ length ms → edits_in (take n ms) ≡ edits → Tells fs f taken (take n ms) (take edits cs) (take (n - edits) frames)
tells_front fs f taken k n edits ms cs frames tells within there is =
    let same : take n (take k ms) ≡ take n ms = grind (arith, take-take) in
    let long : length (take n ms) ≡ n = length-take-le n ms (omega (arith, within, there)) in
    let others : others_in (take n ms) ≡ n - edits = omega (arith, (all_in (take n ms)), is, long) in
    subst (λ x. Tells fs f taken (take n ms) (take edits cs) (take x frames)) others
    (subst (λ x. Tells fs f taken (take n ms) (take x cs) (take (others_in (take n ms)) frames)) is
    (subst (λ x. Tells fs f taken x (take (edits_in x) cs) (take (others_in x) frames)) same (front fs f taken n (take k ms) cs frames tells)))

edits_push : (ms : List Tmesg) (m : Tmesg) → edits_in (ms ++ m ∷ []) ≡ edits_in ms + edits_by m
edits_push [] m = grind arith
edits_push (x ∷ ms) m = grind (arith, (edits_push ms m))

-- one more message is counted
pub edits_next : (ms : List Tmesg) (n : ℕ) (m : Tmesg) → slice_get ms n ≡ Some m → edits_in (take (n + 1) ms) ≡ edits_in (take n ms) + edits_by m
edits_next ms n m e = ap edits_in (take_next ms n m e) ∙ edits_push (take n ms) m

-- no message is more than one edit
pub edits_within : (ms : List Tmesg) (n : ℕ) → edits_in (take n ms) ≤ n
edits_within ms zero = grind arith
edits_within [] (suc n) = grind arith
edits_within (m ∷ ms) (suc n) = grind (arith, (edits_within ms n))

-- ## The whole

-- so many changes of a run were made: the messages before the next one are taken
pub run_made : (h g : PlainHost) (f k n made : ℕ) (ms : List Tmesg) (cs : List TextChange) (frames answers : List HFrame) → 0 < f → IsOpened h.files f → h.is_done ≡ false
    → h.taken + k < 2 ^ 64 → k ≤ length ms → Tells h.files f h.taken (take k ms) cs frames → n ≤ k → edits_in (take n ms) ≡ made
    → AllowsAll (take made cs) (file_at h.files f).text → answers ≡ take (n - made) frames
    → g ≡ record (with_file h f (changed_by (take made cs) (file_at h.files f))) { taken = h.taken + n } → TakesAll h (take n ms) answers g
run_made h g f k n made ms cs frames answers other opened goes room there tells within edits allowed are is =
    let told = tells_front h.files f h.taken k n made ms cs frames tells within there edits in
    let long : length (take n ms) ≡ n = length-take-le n ms (omega (arith, within, there)) in
    let all = takes_all h.files h f (take n ms) (take made cs) (take (n - made) frames) (λ g o. o) told other opened goes (omega (arith, long, room, within)) allowed in
    subst (λ x. TakesAll h (take n ms) x g) (sym are) (subst (TakesAll h (take n ms) (take (n - made) frames))
    (ap (λ x. record (with_file h f (changed_by (take made cs) (file_at h.files f))) { taken = h.taken + x }) long ∙ sym is) all)
