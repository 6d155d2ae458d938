-- What the answers of the host tell of names.
use Rattle.std.proofs.Common.{◌≡◌, ℕ, zero, suc, ◌+◌, ◌<◌, Bool, true, false, not, ◌&&◌, ◌||◌, if◌then◌else◌, ◌==◌, List, [], ◌∷◌, ◌++◌, ◌-◌, length, Option, Some, None, refl, sym, ap, ◌∙◌, subst, arith, drop, option_map, unwrap_or, flat_map, reverse}
use Rattle.std.specs.Prelude.{nat_le, nat_lt}
use Rattle.sam_runes.specs.Slots.{Slots, slot}
use Rattle.sam_runes.specs.Texts.{Range, all_tags, as_lines, ends_line, is_empty, last_line, max_runes, part, searched, word_at}
use Rattle.sam_runes.proofs.SlotLaws.{slot-put_same, slot-put_other, slot-free_same, slot-free_other, slot-map}
use Rattle.sam_runes.specs.declared.edit.Edit.{Edit}
use Rattle.sam_text.specs.Files.{PlainFile, PlainFiles, PlainOutcome, blank_file, file_at, put_file, put_outcome, file_after, committed, after_print, printed_file, is_printed, typed_file, cut_file, pasted_file, opened_file, written_file, announced_file, announce_all, without_file, new_file, has_room, command_name, may_look, searched_for}
use Rattle.sam_text.specs.Files.{dirty_file}
use Rattle.sam_text.specs.Meaning.{meaning}
use Rattle.sam_host.specs.Marking.{marked}
use Rattle.sam_mesg.specs.declared.tmesg.Tmesg.{Tmesg}
use Rattle.sam_mesg.specs.declared.tmesg.Tmesg.TheVariants.{Tversion, Tstartcmdfile, Tcheck, Trequest, Torigin, Tstartfile, Tworkfile, Ttype, Tcut, Tpaste, Tsnarf, Tstartnewfile, Twrite, Tclose, Tlook, Tsearch, Tsend, Tdclick, Tstartsnarf, Tsetsnarf, Tack, Texit}
use Rattle.sam_mesg.specs.declared.hmesg.Hmesg.{Hmesg}
use Rattle.sam_mesg.specs.declared.hmesg.Hmesg.TheVariants.{Hbindname, Hcurrent, Hnewname, Hmovname, Hgrow, Hcheck, Hunlock, Hunlockfile, Hsetdot, Hclean, Hdirty, Hcut, Hsetpat, Hdelname, Hclose, Hsnarflen, Hack, Hexit}
use Rattle.sam_host.specs.Host.{PlainHost, Reply, line_to, no_tag_left, reply_found, reply_line, reply_outcome, reply_to, told_at, told_dirty, told_edits, told_found, told_paste, with_file, with_files}
unfoldable use Rattle.sam_host.specs.Host.{grown, printed, told_edit, told_length, told_names, told_outcome, when, when_given, reply_check, reply_close, reply_cut, reply_dclick, reply_exit, reply_look, reply_origin, reply_paste, reply_request, reply_search, reply_send, reply_setsnarf, reply_snarf, reply_startcmdfile, reply_startfile, reply_startnewfile, reply_startsnarf, reply_type, reply_version, reply_workfile, reply_write}
use Rattle.sam_rest.proofs.TermNames.{all_named, named-append}

-- ## Files

-- n is the name of the file, if it was announced
abbrev pub IsNameOf : PlainFiles → ℕ → List ℕ → Type 0
IsNameOf fs g n = (file_at fs g).announced ≡ true → n ≡ (file_at fs g).name

-- as much is told of the name of g as changed
pub record Tells (g : ℕ) (fs gs : PlainFiles) (frames : List Hmesg) : Type 0 where
  pub told : (n : List ℕ) → IsNameOf fs g n → IsNameOf gs g (all_named g frames n)

tells_then : (g : ℕ) (fs gs hs : PlainFiles) (xs ys : List Hmesg) → Tells g fs gs xs → Tells g gs hs ys → Tells g fs hs (xs ++ ys)
tells_then g fs gs hs xs ys a b = record { told = λ n is. subst (IsNameOf hs g) (sym (named-append g xs ys n)) (b.told (all_named g xs n) (a.told n is)) }

-- the file bears the same name, and is announced or not, as it was
record Same (g : ℕ) (fs gs : PlainFiles) : Type 0 where
  announced : (file_at gs g).announced ≡ (file_at fs g).announced
  name : (file_at gs g).name ≡ (file_at fs g).name

record Silent (g : ℕ) (frames : List Hmesg) : Type 0 where
  none : (n : List ℕ) → all_named g frames n ≡ n

tells_nothing : (g : ℕ) (fs gs : PlainFiles) (frames : List Hmesg) → Same g fs gs → Silent g frames → Tells g fs gs frames
tells_nothing g fs gs frames same silent = record { told = λ n is e. silent.none n ∙ is (sym same.announced ∙ e) ∙ sym same.name }

same : (g : ℕ) (fs : PlainFiles) → Same g fs fs
same g fs = record { announced = refl; name = refl }

same_file : (g : ℕ) (fs gs : PlainFiles) → file_at gs g ≡ file_at fs g → Same g fs gs
same_file g fs gs e = record { announced = ap (λ (x : PlainFile). x.announced) e; name = ap (λ (x : PlainFile). x.name) e }

pub file-put : (fs : PlainFiles) (f : ℕ) (x : PlainFile) → file_at (put_file fs f x) f ≡ x
file-put fs f x = ap (λ (o : Option PlainFile). unwrap_or o blank_file) (slot-put_same fs.slots f x)

pub file-other : (fs : PlainFiles) (f g : ℕ) (x : PlainFile) → (f == g) ≡ false → file_at (put_file fs f x) g ≡ file_at fs g
file-other fs f g x n = ap (λ (o : Option PlainFile). unwrap_or o blank_file) (slot-put_other fs.slots f g x (λ e. absurd (grind (arith, n, e))))

same_put : (g : ℕ) (fs : PlainFiles) (f : ℕ) (x : PlainFile) → x.announced ≡ (file_at fs f).announced → x.name ≡ (file_at fs f).name → Same g fs (put_file fs f x)
same_put g fs f x a b = by (f == g) refl
  where
    by : (b : Bool) → (f == g) ≡ b → Same g fs (put_file fs f x)
    by true q = subst (λ (k : ℕ). Same k fs (put_file fs f x)) (grind (arith, q))
        (record { announced = ap (λ (y : PlainFile). y.announced) (file-put fs f x) ∙ a; name = ap (λ (y : PlainFile). y.name) (file-put fs f x) ∙ b })
    by false q = same_file g fs (put_file fs f x) (file-other fs f g x q)

same_print : (g : ℕ) (fs : PlainFiles) (s : List ℕ) → Same g fs (after_print fs s)
same_print g fs s = by (is_printed fs s)
  where
    by : (b : Bool) → Same g fs (if b then put_file fs 0 (printed_file (file_at fs 0) s) else fs)
    by true = same_put g fs 0 (printed_file (file_at fs 0) s) refl refl
    by false = same g fs

-- ## Frames without names

silent_none : (g : ℕ) → Silent g []
silent_none g = record { none = λ n. refl }

silent_then : (g : ℕ) (xs ys : List Hmesg) → Silent g xs → Silent g ys → Silent g (xs ++ ys)
silent_then g xs ys a b = record { none = λ n. named-append g xs ys n ∙ b.none (all_named g xs n) ∙ a.none n }

silent_when : (g : ℕ) (b : Bool) (frames : List Hmesg) → Silent g frames → Silent g (when b frames)
unfolding when
silent_when g true frames s = s
silent_when g false frames s = silent_none g

silent_grown : (g : ℕ) (fs : PlainFiles) (f p : ℕ) (s : List ℕ) → Silent g (grown fs f p s)
unfolding grown when
silent_grown g fs f p s = grind (arith, silent_none)

silent_dirty : (g : ℕ) (fs : PlainFiles) (f : ℕ) → Silent g (told_dirty fs f)
silent_dirty g fs f = silent_when g (not (file_at fs f).dirty && not (f == 0)) (Hdirty f ∷ []) (record { none = λ n. refl })

silent_length : (g f : ℕ) (file : PlainFile) → Silent g (told_length f file)
unfolding told_length
silent_length g f file = silent_when g (not (is_empty file.text)) (Hgrow f 0 (length file.text) ∷ []) (record { none = λ n. refl })

silent_printed : (g : ℕ) (fs : PlainFiles) (s : List ℕ) → Silent g (printed fs s)
unfolding printed
silent_printed g fs s =
    let end = length (file_at fs 0).text + length s in
    silent_when g (is_printed fs s && (file_at fs 0).opened) (grown fs 0 (length (file_at fs 0).text) s ++ Hsetdot 0 end end ∷ Hcheck 0 ∷ [])
    (silent_then g (grown fs 0 (length (file_at fs 0).text) s) (Hsetdot 0 end end ∷ Hcheck 0 ∷ []) (silent_grown g fs 0 (length (file_at fs 0).text) s) (record { none = λ n. refl }))

silent_edit : (g : ℕ) (fs : PlainFiles) (f : ℕ) (e : Edit) → Silent g (told_edit fs f e)
unfolding told_edit
silent_edit g fs f e =
    silent_then g (when (nat_lt e.p e.q) (Hcut f e.p (e.q - e.p) ∷ [])) (grown fs f e.p e.text)
    (silent_when g (nat_lt e.p e.q) (Hcut f e.p (e.q - e.p) ∷ []) (record { none = λ n. refl })) (silent_grown g fs f e.p e.text)

silent_edits : (g : ℕ) (fs : PlainFiles) (f : ℕ) (es : List Edit) → Silent g (flat_map (told_edit fs f) es)
silent_edits g fs f [] = silent_none g
silent_edits g fs f (e ∷ es) = silent_then g (told_edit fs f e) (flat_map (told_edit fs f) es) (silent_edit g fs f e) (silent_edits g fs f es)

silent_given : {A : Type 0} (g : ℕ) (o : Option A) (frame : A → Hmesg) → ((x : A) → Silent g (frame x ∷ [])) → Silent g (when_given o frame)
unfolding when_given
silent_given g None frame s = silent_none g
silent_given g (Some x) frame s = s x

-- a mark tells none
pub mark_tells : (g : ℕ) (h : PlainHost) (f : ℕ) → Tells g h.files (marked h f).files (told_dirty h.files f)
mark_tells g h f =
    tells_nothing g h.files (marked h f).files (told_dirty h.files f) (same_put g h.files f (dirty_file (file_at h.files f)) refl refl) (silent_dirty g h.files f)

-- ## Answers in which no name is told

found_tells : (g : ℕ) (h : PlainHost) (f : ℕ) (d : Option Range) (frames : List Hmesg) → Silent g frames → Tells g h.files (reply_found h f d frames).0.files (reply_found h f d frames).1
found_tells g h f None frames s = tells_nothing g h.files h.files (Hunlockfile f ∷ []) (same g h.files) (record { none = λ n. refl })
found_tells g h f (Some d) frames s =
    tells_nothing g h.files (put_file h.files f (record (file_at h.files f) { dot = d })) (frames ++ told_found f d) (same_put g h.files f (record (file_at h.files f) { dot = d }) refl refl)
    (silent_then g frames (told_found f d) s (record { none = λ n. refl }))

-- ## The line that is run

-- the name of the file changes with the frame for it
named_by_line : (g f : ℕ) (fs : PlainFiles) (o : PlainOutcome) → Tells g fs (put_file fs f (file_after (file_at fs f) o)) (when_given o.name (Hmovname f))
unfolding when_given
named_by_line g f fs o = by o.name refl
  where
    x : PlainFile
    x = file_after (file_at fs f) o

    given : (s : List ℕ) → o.name ≡ Some s → (b : Bool) → (f == g) ≡ b → (n : List ℕ) → IsNameOf fs g n → IsNameOf (put_file fs f x) g (if b then s else n)
    given s e true q n is a = sym (ap (λ (k : ℕ). (file_at (put_file fs f x) k).name) (sym same_tag) ∙ ap (λ (y : PlainFile). y.name) (file-put fs f x) ∙ ap (λ (z : Option (List ℕ)). unwrap_or z (file_at fs f).name) e)
      where
        same_tag : f ≡ g
        same_tag = grind (arith, q)
    given s e false q n is a = let other = file-other fs f g x q in is (sym (ap (λ (y : PlainFile). y.announced) other) ∙ a) ∙ sym (ap (λ (y : PlainFile). y.name) other)

    by : (name : Option (List ℕ)) → o.name ≡ name → Tells g fs (put_file fs f x) (when_given name (Hmovname f))
    by None e = tells_nothing g fs (put_file fs f x) [] (same_put g fs f x refl (ap (λ (z : Option (List ℕ)). unwrap_or z (file_at fs f).name) e)) (silent_none g)
    by (Some s) e = record { told = λ n is. given s e (f == g) refl n is }

outcome_tells : (g : ℕ) (fs : PlainFiles) (o : PlainOutcome) → Tells g fs (committed fs o) (told_outcome o.file fs o)
unfolding told_outcome
outcome_tells g fs o = record { told = (by o.file).told }
  where
    by : (file : Option ℕ) → Tells g fs (put_outcome file fs o) (told_outcome file fs o)
    by None = tells_nothing g fs fs (when_given o.pattern Hsetpat) (same g fs) (silent_given g o.pattern Hsetpat (λ s. record { none = λ n. refl }))
    by (Some f) =
        let gs = put_file fs f (file_after (file_at fs f) o) in
        let quiet : (frames : List Hmesg) → Silent g frames → Tells g gs gs frames = λ frames s. tells_nothing g gs gs frames (same g gs) s in
        let edits = tells_nothing g fs fs (told_edits fs f o.edits) (same g fs) (silent_edits g fs f (reverse o.edits)) in
        let dirty = tells_nothing g fs fs (when (not (is_empty o.edits) && not (file_at fs f).dirty) (Hdirty f ∷ [])) (same g fs)
        (silent_when g (not (is_empty o.edits) && not (file_at fs f).dirty) (Hdirty f ∷ []) (record { none = λ n. refl })) in
        let pattern = quiet (when_given o.pattern Hsetpat) (silent_given g o.pattern Hsetpat (λ s. record { none = λ n. refl })) in
        let dot = quiet (when_given o.dot (λ d. Hsetdot f d.0 d.1)) (silent_given g o.dot (λ d. Hsetdot f d.0 d.1) (λ d. record { none = λ n. refl })) in
        let check = quiet (when (not (is_empty o.edits)) (Hcheck f ∷ [])) (silent_when g (not (is_empty o.edits)) (Hcheck f ∷ []) (record { none = λ n. refl })) in
        tells_then g fs gs gs _ (when (not (is_empty o.edits)) (Hcheck f ∷ []))
        (tells_then g fs gs gs _ (when_given o.dot (λ d. Hsetdot f d.0 d.1))
        (tells_then g fs gs gs _ (when_given o.pattern Hsetpat)
        (tells_then g fs fs gs _ (when_given o.name (Hmovname f)) (tells_then g fs fs fs (told_edits fs f o.edits) _ edits dirty) (named_by_line g f fs o)) pattern) dot) check

line_tells : (g : ℕ) (h : PlainHost) (fs : PlainFiles) (before : List Hmesg) (o : PlainOutcome) → Tells g fs h.files before
    → Tells g fs (reply_outcome h before o).0.files (reply_outcome h before o).1
line_tells g h fs before o first =
    let gs = committed h.files o in
    let out = after_print gs o.printed in
    let line = told_outcome o.file h.files o in
    tells_then g fs out out (before ++ line ++ printed gs o.printed) ((if o.quit then Hexit else Hunlock) ∷ [])
    (tells_then g fs gs out (before ++ line) (printed gs o.printed) (tells_then g fs h.files gs before line first (outcome_tells g h.files o))
    (tells_nothing g gs out (printed gs o.printed) (same_print g gs o.printed) (silent_printed g gs o.printed)))
    (tells_nothing g out out ((if o.quit then Hexit else Hunlock) ∷ []) (same g out) (end o.quit))
  where
    end : (quit : Bool) → Silent g ((if quit then Hexit else Hunlock) ∷ [])
    end true = record { none = λ n. refl }
    end false = record { none = λ n. refl }

-- ## The answer to a Version

-- an announced slot bears its name
abbrev IsSlotName : Option PlainFile → List ℕ → Type 0
IsSlotName s n = (unwrap_or s blank_file).announced ≡ true → n ≡ (unwrap_or s blank_file).name

names_before : (k g : ℕ) (ss : Slots PlainFile) → g < k → Silent g (told_names k ss)
unfolding told_names when
names_before k g [] l = silent_none g
names_before k g (None ∷ ss) l = names_before (1 + k) g ss (omega (arith, l))
names_before k g (Some x ∷ ss) l = silent_then g (told_at k (Some x)) (told_names (1 + k) ss) (at x.announced) (names_before (1 + k) g ss (omega (arith, l)))
  where
    apart : (k == g) ≡ false
    apart = grind (arith, l)

    at : (b : Bool) → Silent g (when (not b) (Hnewname k ∷ Hmovname k x.name ∷ []))
    at true = silent_none g
    at false = record { none = λ n. rw apart refl }

names_tell : (k i g : ℕ) (ss : Slots PlainFile) → g ≡ k + i → (n : List ℕ) → IsSlotName (slot ss i) n → (x : PlainFile) → slot ss i ≡ Some x → all_named g (told_names k ss) n ≡ x.name
unfolding told_names when
names_tell k i g [] e n is x s = absurd (grind (arith, s))
names_tell k zero g (None ∷ ss) e n is x s = absurd (cc)
names_tell k zero g (Some y ∷ ss) e n is x s =
    let here : (k == g) ≡ true = grind (arith, e) in
    let same_file : y ≡ x = grind (arith, s) in
    named-append g (told_at k (Some y)) (told_names (1 + k) ss) n ∙ (names_before (1 + k) g ss (omega (arith, e))).none (all_named g (told_at k (Some y)) n)
    ∙ at here y.announced refl ∙ ap (λ (z : PlainFile). z.name) same_file
  where
    at : (k == g) ≡ true → (b : Bool) → y.announced ≡ b → all_named g (when (not b) (Hnewname k ∷ Hmovname k y.name ∷ [])) n ≡ y.name
    at here true a = is a
    at here false a = rw here refl
names_tell k (suc i) g (None ∷ ss) e n is x s = names_tell (1 + k) i g ss (omega (arith, e)) n is x s
names_tell k (suc i) g (Some y ∷ ss) e n is x s =
    let apart : (k == g) ≡ false = grind (arith, e) in
    named-append g (told_at k (Some y)) (told_names (1 + k) ss) n
    ∙ ap (λ (l : List ℕ). all_named g (told_names (1 + k) ss) l) (at apart y.announced)
    ∙ names_tell (1 + k) i g ss (omega (arith, e)) n is x s
  where
    at : (k == g) ≡ false → (b : Bool) → all_named g (when (not b) (Hnewname k ∷ Hmovname k y.name ∷ [])) n ≡ n
    at apart true = refl
    at apart false = rw apart refl

announced-name : (s : Option PlainFile) → (unwrap_or (option_map announced_file s) blank_file).name ≡ (unwrap_or s blank_file).name
announced-name None = refl
announced-name (Some x) = refl

pub slot-announced : (ss : Slots PlainFile) (f : ℕ) → slot (announce_all ss) (suc f) ≡ option_map announced_file (slot ss (suc f))
slot-announced [] f = refl
slot-announced (s ∷ ss) f = slot-map announced_file ss f

slot-behind : (ss : Slots PlainFile) (f : ℕ) → slot (drop 1 ss) f ≡ slot ss (suc f)
slot-behind [] f = refl
slot-behind (s ∷ ss) f = refl

version_tells : (g : ℕ) (h : PlainHost) (v : ℕ) → Tells (suc g) h.files (reply_version h v).0.files (reply_version h v).1
unfolding reply_version
version_tells g h v = record { told = told }
  where
    ss : Slots PlainFile
    ss = h.files.slots

    names : List Hmesg
    names = told_names 1 (drop 1 ss)

    by : (o : Option PlainFile) → slot ss (suc g) ≡ o → (n : List ℕ) → IsSlotName (slot ss (suc g)) n → (unwrap_or (option_map announced_file (slot ss (suc g))) blank_file).announced ≡ true
        → all_named (suc g) names n ≡ (unwrap_or (slot ss (suc g)) blank_file).name
    by None e n is a = absurd (grind (arith, e, a))
    by (Some x) e n is a =
        names_tell 1 g (suc g) (drop 1 ss) (omega arith) n (subst (λ (s : Option PlainFile). IsSlotName s n) (sym (slot-behind ss g)) is) x (slot-behind ss g ∙ e)
        ∙ ap (λ (s : Option PlainFile). (unwrap_or s blank_file).name) (sym e)

    told : (n : List ℕ) → IsNameOf h.files (suc g) n → IsNameOf (record h.files { slots = announce_all ss }) (suc g) (all_named (suc g) (names ++ Hack ∷ Hunlock ∷ []) n)
    told n is a =
        named-append (suc g) names (Hack ∷ Hunlock ∷ []) n
        ∙ by (slot ss (suc g)) refl n is (subst (λ (s : Option PlainFile). (unwrap_or s blank_file).announced ≡ true) (slot-announced ss g) a)
        ∙ sym (ap (λ (s : Option PlainFile). (unwrap_or s blank_file).name) (slot-announced ss g) ∙ announced-name (slot ss (suc g)))

-- ## The other answers that tell names

-- a file that is gone is no longer announced
close_tells : (g f : ℕ) (h : PlainHost) → Tells g h.files (without_file h.files f) (Hclose f ∷ Hdelname f ∷ Hunlock ∷ [])
close_tells g f h = record { told = λ n is. by (f == g) refl n is }
  where
    gone : f ≡ g → file_at (without_file h.files f) g ≡ blank_file
    gone e = subst (λ (k : ℕ). file_at (without_file h.files f) k ≡ blank_file) e (ap (λ (o : Option PlainFile). unwrap_or o blank_file) (slot-free_same h.files.slots f))

    there : (f == g) ≡ false → file_at (without_file h.files f) g ≡ file_at h.files g
    there q = ap (λ (o : Option PlainFile). unwrap_or o blank_file) (slot-free_other h.files.slots f g (λ e. absurd (grind (arith, q, e))))

    by : (b : Bool) → (f == g) ≡ b → (n : List ℕ) → IsNameOf h.files g n → IsNameOf (without_file h.files f) g (if b then [] else n)
    by true q n is a = absurd (false_announced (sym (ap (λ (x : PlainFile). x.announced) (gone (grind (arith, q)))) ∙ a))
      where
        false_announced : false ≡ true → ⊥
        false_announced e = cc
    by false q n is a = is (sym (ap (λ (x : PlainFile). x.announced) (there q)) ∙ a) ∙ sym (ap (λ (x : PlainFile). x.name) (there q))

new_tells : (g : ℕ) (h : PlainHost) → Tells g h.files (put_file h.files (length h.files.slots) new_file)
    (Hnewname (length h.files.slots) ∷ Hbindname (length h.files.slots) ∷ Hcurrent (length h.files.slots) ∷ Hunlock ∷ [])
new_tells g h = record { told = λ n is. by (f == g) refl n is }
  where
    f : ℕ
    f = length h.files.slots

    by : (b : Bool) → (f == g) ≡ b → (n : List ℕ) → IsNameOf h.files g n → IsNameOf (put_file h.files f new_file) g (if b then [] else n)
    by true q n is a = sym (ap (λ (x : PlainFile). x.name) (subst (λ (k : ℕ). file_at (put_file h.files f new_file) k ≡ new_file) (grind (arith, q)) (file-put h.files f new_file)))
    by false q n is a = let other = file-other h.files f g new_file q in is (sym (ap (λ (x : PlainFile). x.announced) other) ∙ a) ∙ sym (ap (λ (x : PlainFile). x.name) other)

-- ## Every answer

-- of a file, but the command file, each reply tells as much of the name as it changes
pub reply_tells : (g : ℕ) (h : PlainHost) (m : Tmesg) → Tells (suc g) h.files (reply_to h m).0.files (reply_to h m).1
unfolding reply_check reply_cut reply_dclick reply_exit reply_look reply_origin reply_paste reply_request reply_search reply_send reply_setsnarf reply_snarf reply_startcmdfile reply_startfile reply_startnewfile reply_startsnarf reply_type reply_workfile reply_write reply_close
reply_tells g h (Tversion v) = version_tells g h v
reply_tells g h Tstartcmdfile = by (file_at h.files 0).opened
  where
    file : PlainFile
    file = file_at h.files 0

    apart : (0 == suc g) ≡ false
    apart = grind arith

    front : List Hmesg
    front = Hnewname 0 ∷ Hmovname 0 command_name ∷ Hbindname 0 ∷ told_length 0 file

    by : (b : Bool) → let r : Reply = if b then (h, Hunlock ∷ []) else (with_file h 0 (opened_file file), Hnewname 0 ∷ Hmovname 0 command_name ∷ Hbindname 0 ∷ told_length 0 file ++ Hunlock ∷ []) in
        Tells (suc g) h.files r.0.files r.1
    by true = tells_nothing (suc g) h.files h.files (Hunlock ∷ []) (same (suc g) h.files) (record { none = λ n. refl })
    by false =
        tells_nothing (suc g) h.files (put_file h.files 0 (opened_file file)) (front ++ Hunlock ∷ []) (same_put (suc g) h.files 0 (opened_file file) refl refl)
        (silent_then (suc g) front (Hunlock ∷ []) (record { none = λ n. (silent_length (suc g) 0 file).none (if 0 == suc g then command_name else (if 0 == suc g then [] else n)) ∙ rw apart refl }) (record { none = λ n. refl }))
reply_tells g h (Tcheck f) = tells_nothing (suc g) h.files h.files (Hcheck f ∷ []) (same (suc g) h.files) (record { none = λ n. refl })
reply_tells g h (Trequest f p n) =
    tells_nothing (suc g) h.files h.files (reply_request h f p n).1 (same (suc g) h.files) (silent_when (suc g) _ _ (record { none = λ n. refl }))
reply_tells g h (Torigin f p n) = tells_nothing (suc g) h.files h.files (reply_origin h f p n).1 (same (suc g) h.files) (record { none = λ n. refl })
reply_tells g h (Tstartfile f) =
    let file = file_at h.files f in
    record {
      told = (tells_nothing (suc g) h.files (put_file h.files f (opened_file file)) (when (not file.opened) (Hbindname f ∷ told_length f file) ++ Hunlock ∷ [])
          (same_put (suc g) h.files f (opened_file file) refl refl)
          (silent_then (suc g) (when (not file.opened) (Hbindname f ∷ told_length f file)) (Hunlock ∷ [])
          (silent_when (suc g) (not file.opened) (Hbindname f ∷ told_length f file) (record { none = (silent_length (suc g) f file).none })) (record { none = λ n. refl }))).told;
    }
reply_tells g h (Tworkfile f p q) =
    record {
      told = (tells_nothing (suc g) h.files (put_file h.files f (record (file_at h.files f) { dot = (p, q) })) (Hcurrent f ∷ [])
          (same_put (suc g) h.files f (record (file_at h.files f) { dot = (p, q) }) refl refl) (record { none = λ n. refl })).told;
    }
reply_tells g h (Ttype f p s) = by ((f == 0) && ends_line s)
  where
    typed : PlainHost
    typed = with_file h f (typed_file f (file_at h.files f) p s)

    first : Tells (suc g) h.files typed.files []
    first = tells_nothing (suc g) h.files typed.files [] (same_put (suc g) h.files f (typed_file f (file_at h.files f) p s) refl refl) (silent_none (suc g))

    by : (b : Bool) → let r : Reply = if b then reply_line typed [] (line_to (file_at typed.files f).text (p + length s - 1)) else (typed, []) in Tells (suc g) h.files r.0.files r.1
    by true = line_tells (suc g) typed h.files [] (meaning typed.files (line_to (file_at typed.files f).text (p + length s - 1))) first
    by false = first
reply_tells g h (Tcut f p q) =
    tells_nothing (suc g) h.files (put_file h.files f (cut_file f (file_at h.files f) p q)) [] (same_put (suc g) h.files f (cut_file f (file_at h.files f) p q) refl refl) (silent_none (suc g))
reply_tells g h (Tpaste f p) = by (is_empty s || nat_lt max_runes (length file.text + length s))
  where
    file : PlainFile
    file = file_at h.files f

    s : List ℕ
    s = h.files.snarf

    by : (b : Bool) → let r : Reply = if b then (h, Hunlockfile f ∷ []) else (with_file h f (pasted_file f file p s), told_paste h.files f p s) in Tells (suc g) h.files r.0.files r.1
    by true = tells_nothing (suc g) h.files h.files (Hunlockfile f ∷ []) (same (suc g) h.files) (record { none = λ n. refl })
    by false =
        tells_nothing (suc g) h.files (put_file h.files f (pasted_file f file p s)) (told_paste h.files f p s) (same_put (suc g) h.files f (pasted_file f file p s) refl refl)
        (silent_then (suc g) (grown h.files f p s ++ told_dirty h.files f) (Hsetdot f p (p + length s) ∷ Hcheck f ∷ Hunlockfile f ∷ [])
        (silent_then (suc g) (grown h.files f p s) (told_dirty h.files f) (silent_grown (suc g) h.files f p s) (silent_dirty (suc g) h.files f)) (record { none = λ n. refl }))
reply_tells g h (Tsnarf f p q) = record { told = (tells_nothing (suc g) h.files h.files (Hsnarflen (q - p) ∷ []) (same (suc g) h.files) (record { none = λ n. refl })).told }
reply_tells g h Tstartnewfile = by (nat_le all_tags f)
  where
    f : ℕ
    f = length h.files.slots

    by : (b : Bool) → let r : Reply = if b then (with_files h (after_print h.files no_tag_left), printed h.files no_tag_left ++ Hunlock ∷ [])
        else (with_files h (record (put_file h.files f new_file) { work = Some f }), Hnewname f ∷ Hbindname f ∷ Hcurrent f ∷ Hunlock ∷ []) in Tells (suc g) h.files r.0.files r.1
    by true =
        tells_nothing (suc g) h.files (after_print h.files no_tag_left) (printed h.files no_tag_left ++ Hunlock ∷ []) (same_print (suc g) h.files no_tag_left)
        (silent_then (suc g) (printed h.files no_tag_left) (Hunlock ∷ []) (silent_printed (suc g) h.files no_tag_left) (record { none = λ n. refl }))
    by false = record { told = (new_tells (suc g) h).told }
reply_tells g h (Twrite f) =
    tells_nothing (suc g) h.files (put_file h.files f (written_file (file_at h.files f))) (Hclean f ∷ Hunlockfile f ∷ []) (same_put (suc g) h.files f (written_file (file_at h.files f)) refl refl)
    (record { none = λ n. refl })
reply_tells g h (Tclose f) = close_tells (suc g) f h
reply_tells g h (Tlook f p q) = by (may_look lit)
  where
    t : List ℕ
    t = (file_at h.files f).text

    lit : List ℕ
    lit = part t p q

    k : PlainHost
    k = with_files h (record h.files { pattern = Some lit })

    by : (b : Bool) → let r : Reply = if b then reply_found k f (searched t lit q) (Hsetpat lit ∷ []) else (h, Hunlockfile f ∷ []) in Tells (suc g) h.files r.0.files r.1
    by true = record { told = (found_tells (suc g) k f (searched t lit q) (Hsetpat lit ∷ []) (record { none = λ n. refl })).told }
    by false = tells_nothing (suc g) h.files h.files (Hunlockfile f ∷ []) (same (suc g) h.files) (record { none = λ n. refl })
reply_tells g h (Tsearch f p q) = found_tells (suc g) h f (searched_for h.files.pattern (file_at h.files f).text q) [] (silent_none (suc g))
reply_tells g h (Tsend f p q) = by ((p == q) || not (has_room h.files s))
  where
    s : List ℕ
    s = as_lines (part (file_at h.files f).text p q)

    k : PlainHost
    k = with_files h (after_print h.files s)

    by : (b : Bool) → let r : Reply = if b then (h, Hunlock ∷ []) else reply_line k (printed h.files s) (last_line s) in Tells (suc g) h.files r.0.files r.1
    by true = tells_nothing (suc g) h.files h.files (Hunlock ∷ []) (same (suc g) h.files) (record { none = λ n. refl })
    by false =
        line_tells (suc g) k h.files (printed h.files s) (meaning k.files (last_line s))
        (tells_nothing (suc g) h.files k.files (printed h.files s) (same_print (suc g) h.files s) (silent_printed (suc g) h.files s))
reply_tells g h (Tdclick f p) =
    let file = file_at h.files f in
    let d = word_at file.text p in
    tells_nothing (suc g) h.files (put_file h.files f (record file { dot = d })) (Hsetdot f d.0 d.1 ∷ Hunlockfile f ∷ []) (same_put (suc g) h.files f (record file { dot = d }) refl refl) (record { none = λ n. refl })
reply_tells g h Tstartsnarf = tells_nothing (suc g) h.files h.files (reply_startsnarf h).1 (same (suc g) h.files) (record { none = λ n. refl })
reply_tells g h (Tsetsnarf s) = record { told = (tells_nothing (suc g) h.files h.files (Hsnarflen (length s) ∷ []) (same (suc g) h.files) (record { none = λ n. refl })).told }
reply_tells g h Tack = tells_nothing (suc g) h.files h.files [] (same (suc g) h.files) (silent_none (suc g))
reply_tells g h Texit = tells_nothing (suc g) h.files h.files (Hexit ∷ []) (same (suc g) h.files) (record { none = λ n. refl })
