-- A file whose name was announced: the terminal knows it once it has taken what is under way.
use Rattle.sam_crossing.proofs.Common.{◌≡◌, ℕ, suc, ◌+◌, ◌-◌, Bool, true, false, not, ◌&&◌, ◌||◌, ◌==◌, if◌then◌else◌, List, [], ◌∷◌, ◌++◌, length, flat_map, reverse, drop, Option, Some, None, is_some, refl, sym, ap, ◌∙◌, subst, arith, same_Some, true≢false, unwrap_or, option_map, eqb-true, nat_lt, nat_le, Slots, slot, slot-put_same, slot-put_other, slot-free_other, slot_given, slot-map, PlainFile, PlainFiles, PlainOutcome, blank_file, file_at, has_file, has_room, put_file, put_outcome, file_after, committed, after_print, is_printed, printed_file, announced_file, announce_all, new_file, typed_file, cut_file, pasted_file, command_name, searched_for, may_look, Range, part, is_empty, max_runes, min, most_in_message, as_lines, ends_line, last_line, searched, first_of_checks, Tmesg, Tversion, Tstartcmdfile, Trequest, Tstartfile, Tworkfile, Ttype, Tcut, Tpaste, Tstartnewfile, Twrite, Tclose, Tlook, Tsearch, Tsend, Tdclick, Hmesg, Hack, Hbindname, Hcheck, Hclean, Hclose, Hcurrent, Hcut, Hdata, Hdelname, Hdirty, Hexit, Hgrow, Hmovname, Hnewname, Hsetdot, Hsetpat, Hunlock, Hunlockfile, Hversion, PlainHost, Reply, Close, counted, host_checks, reply_to, reply_line, reply_found, with_file, with_files, no_tag_left, Action, Join, Lens, lens, Unknown, Known, Open, move, run, closes, is_close, action, only, at_file, IsSynced, file_in, reply_of, answers, InOrder, view, PlainTerminal}
unfoldable use Rattle.sam_crossing.proofs.Common.{grown, printed, told_edit, told_length, told_names, told_outcome, when, when_given}
use Rattle.sam_runes.specs.Texts.{all_tags, common_version, word_at}
use Rattle.sam_runes.specs.declared.edit.Edit.{Edit}
use Rattle.sam_text.specs.Files.{opened_file, written_file, without_file}
use Rattle.sam_text.specs.Meaning.{meaning}
use Rattle.sam_host.specs.Host.{told_dirty, told_paste, told_found, told_at}
use Rattle.sam_host.specs.declared.fault.HostFault.{HostFault}
use Rattle.sam_host.proofs.EachFrame.{replies_opened}
use Rattle.sam_crossing.specs.Fold.{replied}
use Rattle.sam_crossing.specs.Lens.{Free_file, Leave, Needs_known}
use Rattle.sam_crossing.proofs.Folds.{answered}
use Rattle.sam_crossing.proofs.Runs.{stepped}
use Rattle.sam_crossing.proofs.Guards.{at_file-append}
use Rattle.sam_crossing.proofs.MoreFiles.{split}

-- ## Lenses that don't know the file

abbrev pub is_unknown : Lens → Bool
is_unknown (lens c e n Unknown) = true
is_unknown (lens c e n Known) = false
is_unknown (lens c e n (Open r k)) = false

abbrev pub is_join : Action → Bool
is_join Join = true
is_join _ = false

abbrev pub joins : List Action → Bool
joins [] = false
joins (a ∷ s) = is_join a || joins s

-- the file stays unknown, and is not closed, where it doesn't join
unknown_moves : (a : Action) (v w : Lens) → move a v ≡ Some w → is_unknown v ≡ true → is_join a ≡ false → (is_unknown w ≡ true) × (is_close a ≡ false)
unknown_moves a v w e u j = grind arith

unknown_runs : (s : List Action) (v w : Lens) → run s v ≡ Some w → is_unknown v ≡ true → joins s ≡ false → (is_unknown w ≡ true) × (closes s ≡ false)
unknown_runs [] v w r u j = (ap is_unknown (sym (same_Some _ _ r)) ∙ u, refl)
unknown_runs (a ∷ s) v w r u j = by (is_join a) refl j (unknown_runs s)
  where
    Runs : Type 0
    Runs = (v w : Lens) → run s v ≡ Some w → is_unknown v ≡ true → joins s ≡ false → (is_unknown w ≡ true) × (closes s ≡ false)

    by : (b : Bool) → is_join a ≡ b → (b || joins s) ≡ false → Runs → (is_unknown w ≡ true) × (closes (a ∷ s) ≡ false)
    by true q j more = absurd (true≢false j)
    by false q j more =
        let t = stepped a s v w r in
        let first = unknown_moves a v t.mid t.moves u q in
        let rest = more t.mid w t.on first.0 j in
        (rest.0, ap (λ (b : Bool). b || closes s) first.1 ∙ rest.1)

-- ## Frames at which the file doesn't join

-- the frame makes the terminal know the file anew, tells that it is clean, or takes it away
abbrev pub loses : ℕ → Hmesg → Bool
loses g (Hnewname f) = g == f
loses g (Hclean f) = g == f
loses g (Hclose f) = g == f
loses g (Hdelname f) = g == f
loses g m = false

abbrev pub losses : ℕ → List Hmesg → Bool
losses g [] = false
losses g (m ∷ ms) = loses g m || losses g ms

abbrev pub NoLoss : ℕ → List Hmesg → Type 0
NoLoss g ms = losses g ms ≡ false

none_then : (g : ℕ) (xs ys : List Hmesg) → NoLoss g xs → NoLoss g ys → NoLoss g (xs ++ ys)
none_then g [] ys a b = b
none_then g (x ∷ xs) ys a b = by (loses g x) a (λ a. none_then g xs ys a b)
  where
    by : (j : Bool) → (j || losses g xs) ≡ false → (NoLoss g xs → NoLoss g (xs ++ ys)) → (j || losses g (xs ++ ys)) ≡ false
    by true a more = a
    by false a more = more a

none_when : (g : ℕ) (b : Bool) (frames : List Hmesg) → NoLoss g frames → NoLoss g (when b frames)
unfolding when
none_when g true frames s = s
none_when g false frames s = refl

none_if : (g : ℕ) (b : Bool) (x y : Reply) → NoLoss g x.1 → NoLoss g y.1 → NoLoss g (if b then x else y).1
none_if g true x y a b = a
none_if g false x y a b = b

-- a frame that does none of these to any file
abbrev is_named : Hmesg → Bool
is_named (Hnewname f) = true
is_named (Hclean f) = true
is_named (Hclose f) = true
is_named (Hdelname f) = true
is_named m = false

no_loss : (g : ℕ) (m : Hmesg) → is_named m ≡ false → loses g m ≡ false
no_loss g m e = grind arith

abbrev are_named : List Hmesg → Bool
are_named [] = false
are_named (m ∷ ms) = is_named m || are_named ms

none_named : (g : ℕ) (ms : List Hmesg) → are_named ms ≡ false → NoLoss g ms
none_named g [] e = refl
none_named g (m ∷ ms) e = by (is_named m) refl e (none_named g ms)
  where
    by : (b : Bool) → is_named m ≡ b → (b || are_named ms) ≡ false → (are_named ms ≡ false → NoLoss g ms) → NoLoss g (m ∷ ms)
    by true q e more = absurd (true≢false e)
    by false q e more = ap (λ (b : Bool). b || losses g ms) (no_loss g m q) ∙ more e

none_grown : (g : ℕ) (fs : PlainFiles) (f p : ℕ) (s : List ℕ) → NoLoss g (grown fs f p s)
unfolding grown when
none_grown g fs f p s = grind arith

none_printed : (g : ℕ) (fs : PlainFiles) (s : List ℕ) → NoLoss g (printed fs s)
unfolding printed
none_printed g fs s =
    let end = length (file_at fs 0).text + length s in
    none_when g (is_printed fs s && (file_at fs 0).opened) (grown fs 0 (length (file_at fs 0).text) s ++ Hsetdot 0 end end ∷ Hcheck 0 ∷ [])
    (none_then g (grown fs 0 (length (file_at fs 0).text) s) (Hsetdot 0 end end ∷ Hcheck 0 ∷ []) (none_grown g fs 0 (length (file_at fs 0).text) s) (none_named g (Hsetdot 0 end end ∷ Hcheck 0 ∷ []) refl))

none_edits : (g : ℕ) (fs : PlainFiles) (f : ℕ) (es : List Edit) → NoLoss g (flat_map (told_edit fs f) es)
unfolding told_edit
none_edits g fs f [] = refl
none_edits g fs f (e ∷ es) =
    none_then g (told_edit fs f e) (flat_map (told_edit fs f) es)
    (none_then g (when (nat_lt e.p e.q) (Hcut f e.p (e.q - e.p) ∷ [])) (grown fs f e.p e.text) (none_when g (nat_lt e.p e.q) _ (none_named g (Hcut f e.p (e.q - e.p) ∷ []) refl)) (none_grown g fs f e.p e.text))
    (none_edits g fs f es)

none_given : {A : Type 0} (g : ℕ) (o : Option A) (frame : A → Hmesg) → ((x : A) → is_named (frame x) ≡ false) → NoLoss g (when_given o frame)
unfolding when_given
none_given g None frame s = refl
none_given g (Some x) frame s = none_named g (frame x ∷ []) (ap (λ (b : Bool). b || false) (s x))

none_outcome : (g : ℕ) (x : Option ℕ) (fs : PlainFiles) (o : PlainOutcome) → NoLoss g (told_outcome x fs o)
unfolding told_outcome
none_outcome g None fs o = none_given g o.pattern Hsetpat (λ s. refl)
none_outcome g (Some f) fs o =
    let edits = flat_map (told_edit fs f) (reverse o.edits) in
    let dirty = when (not (is_empty o.edits) && not (file_at fs f).dirty) (Hdirty f ∷ []) in
    let name = when_given o.name (Hmovname f) in
    let pattern = when_given o.pattern Hsetpat in
    let dot = when_given o.dot (λ d. Hsetdot f d.0 d.1) in
    let check = when (not (is_empty o.edits)) (Hcheck f ∷ []) in
    none_then g ((((edits ++ dirty) ++ name) ++ pattern) ++ dot) check
    (none_then g (((edits ++ dirty) ++ name) ++ pattern) dot (none_then g ((edits ++ dirty) ++ name) pattern (none_then g (edits ++ dirty) name (none_then g edits dirty (none_edits g fs f (reverse o.edits))
    (none_when g (not (is_empty o.edits) && not (file_at fs f).dirty) (Hdirty f ∷ []) (none_named g (Hdirty f ∷ []) refl)))
    (none_given g o.name (Hmovname f) (λ s. refl))) (none_given g o.pattern Hsetpat (λ s. refl))) (none_given g o.dot (λ d. Hsetdot f d.0 d.1) (λ d. refl)))
    (none_when g (not (is_empty o.edits)) (Hcheck f ∷ []) (none_named g (Hcheck f ∷ []) refl))

none_line : (g : ℕ) (h : PlainHost) (before : List Hmesg) (line : List ℕ) → NoLoss g before → NoLoss g (reply_line h before line).1
none_line g h before line first =
    let o = meaning h.files line in
    let told = told_outcome o.file h.files o in
    let out = printed (committed h.files o) o.printed in
    none_then g ((before ++ told) ++ out) ((if o.quit then Hexit else Hunlock) ∷ [])
    (none_then g (before ++ told) out (none_then g before told first (none_outcome g o.file h.files o)) (none_printed g (committed h.files o) o.printed)) (by o.quit)
  where
    by : (b : Bool) → NoLoss g ((if b then Hexit else Hunlock) ∷ [])
    by true = refl
    by false = refl

none_found : (g : ℕ) (h : PlainHost) (f : ℕ) (d : Option Range) (frames : List Hmesg) → NoLoss g frames → NoLoss g (reply_found h f d frames).1
none_found g h f None frames a = none_named g (Hunlockfile f ∷ []) refl
none_found g h f (Some d) frames a = none_then g frames (told_found f d) a (none_named g (told_found f d) refl)

-- a file that was announced is not announced again
abbrev pub IsShown : PlainFiles → ℕ → Type 0
IsShown fs f = (has_file fs f ≡ true) × ((file_at fs f).announced ≡ true)

none_names : (g i : ℕ) (ss : Slots PlainFile) → ((j : ℕ) → g ≡ i + j → (unwrap_or (slot ss j) blank_file).announced ≡ true) → NoLoss g (told_names i ss)
unfolding told_names when
none_names g i [] a = refl
none_names g i (None ∷ ss) a = none_names g (1 + i) ss (λ j e. a (suc j) (e ∙ omega arith))
none_names g i (Some x ∷ ss) a =
    none_then g (told_at i (Some x)) (told_names (1 + i) ss) (by (g == i) refl) (none_names g (1 + i) ss (λ j e. a (suc j) (e ∙ omega arith)))
  where
    by : (b : Bool) → (g == i) ≡ b → NoLoss g (when (not x.announced) (Hnewname i ∷ Hmovname i x.name ∷ []))
    by true q = ap (λ (b : Bool). losses g (if not b then Hnewname i ∷ Hmovname i x.name ∷ [] else [])) (a 0 (grind (arith, q)))
    by false q = none_when g (not x.announced) (Hnewname i ∷ Hmovname i x.name ∷ []) (ap (λ (b : Bool). b || false) q)

behind_first : (g : ℕ) (ss : Slots PlainFile) → (unwrap_or (slot ss (suc g)) blank_file).announced ≡ true → (j : ℕ) → suc g ≡ 1 + j → (unwrap_or (slot (drop 1 ss) j) blank_file).announced ≡ true
behind_first g [] a j e = a
behind_first g (s ∷ ss) a j e = subst (λ (k : ℕ). (unwrap_or (slot ss k) blank_file).announced ≡ true) (omega (arith, e)) a

-- the message writes or closes the file
abbrev pub undoes : ℕ → Tmesg → Bool
undoes g (Twrite f) = g == f
undoes g (Tclose f) = g == f
undoes g m = false

pub never_lost : (g : ℕ) (h : PlainHost) (m : Tmesg) → undoes (suc g) m ≡ false → IsShown h.files (suc g) → NoLoss (suc g) (reply_to h m).1
unfolding replies_opened told_length when
never_lost g h (Tversion v) u shown =
    none_then (suc g) (Hversion (common_version v) ∷ told_names 1 (drop 1 h.files.slots)) (Hack ∷ Hunlock ∷ [])
    (by (none_names (suc g) 1 (drop 1 h.files.slots) (behind_first g h.files.slots shown.1))) (none_named (suc g) (Hack ∷ Hunlock ∷ []) refl)
  where
    first : List Hmesg
    first = Hversion (common_version v) ∷ []

    by : NoLoss (suc g) (told_names 1 (drop 1 h.files.slots)) → NoLoss (suc g) (first ++ told_names 1 (drop 1 h.files.slots))
    by n = none_then (suc g) first (told_names 1 (drop 1 h.files.slots)) (none_named (suc g) first refl) n
never_lost g h Tstartcmdfile u shown =
    let file = file_at h.files 0 in
    none_if (suc g) file.opened (h, Hunlock ∷ []) _ refl
    (none_then (suc g) (Hnewname 0 ∷ Hmovname 0 command_name ∷ Hbindname 0 ∷ told_length 0 file) (Hunlock ∷ []) (by (not (is_empty file.text))) refl)
  where
    by : (b : Bool) → NoLoss (suc g) (Hnewname 0 ∷ Hmovname 0 command_name ∷ Hbindname 0 ∷ (if b then Hgrow 0 0 (length (file_at h.files 0).text) ∷ [] else []))
    by true = grind arith
    by false = grind arith
never_lost g h Tstartnewfile u shown =
    none_if (suc g) (nat_le all_tags f) (with_files h (after_print h.files no_tag_left), printed h.files no_tag_left ++ Hunlock ∷ []) (with_files h (record (put_file h.files f new_file) { work = Some f }), Hnewname f ∷ Hbindname f ∷ Hcurrent f ∷ Hunlock ∷ [])
    (none_then (suc g) (printed h.files no_tag_left) (Hunlock ∷ []) (none_printed (suc g) h.files no_tag_left) refl)
    (ap (λ (b : Bool). b || false) other)
  where
    f : ℕ
    f = length h.files.slots

    other : (suc g == f) ≡ false
    other = let l = slot_given h.files.slots (suc g) shown.0 in grind (arith, l)
never_lost g h (Ttype f p s) u shown =
    let typed = with_file h f (typed_file f (file_at h.files f) p s) in
    none_if (suc g) ((f == 0) && ends_line s) (reply_line typed [] _) (typed, []) (none_line (suc g) typed [] _ refl) refl
never_lost g h (Tstartfile f) u shown =
    let file = file_at h.files f in
    none_then (suc g) (when (not file.opened) (Hbindname f ∷ told_length f file)) (Hunlock ∷ [])
    (none_when (suc g) (not file.opened) (Hbindname f ∷ told_length f file) (none_then (suc g) (Hbindname f ∷ []) (told_length f file) (none_named (suc g) (Hbindname f ∷ []) refl)
    (none_when (suc g) (not (is_empty file.text)) (Hgrow f 0 (length file.text) ∷ []) (none_named (suc g) (Hgrow f 0 (length file.text) ∷ []) refl)))) refl
never_lost g h (Tpaste f p) u shown =
    let s = h.files.snarf in
    none_if (suc g) (is_empty s || nat_lt max_runes (length (file_at h.files f).text + length s)) (h, Hunlockfile f ∷ []) (_, told_paste h.files f p s) (none_named (suc g) (Hunlockfile f ∷ []) refl)
    (none_then (suc g) (grown h.files f p s ++ told_dirty h.files f) _ (none_then (suc g) (grown h.files f p s) (told_dirty h.files f) (none_grown (suc g) h.files f p s)
    (none_when (suc g) (not (file_at h.files f).dirty && not (f == 0)) (Hdirty f ∷ []) (none_named (suc g) (Hdirty f ∷ []) refl))) (none_named (suc g) (Hsetdot f p (p + length s) ∷ Hcheck f ∷ Hunlockfile f ∷ []) refl))
never_lost g h (Trequest f p n) u shown =
    let t = (file_at h.files f).text in
    let a = min p (length t) in
    let filled = Hdata f a (part t a (min (p + min n most_in_message) (length t))) in
    none_when (suc g) (has_file h.files f) (filled ∷ Hunlockfile f ∷ []) (none_named (suc g) (filled ∷ Hunlockfile f ∷ []) refl)
never_lost g h (Tlook f p q) u shown =
    let lit = part (file_at h.files f).text p q in
    none_if (suc g) (may_look lit) (reply_found (with_files h (record h.files { pattern = Some lit })) f (searched (file_at h.files f).text lit q) (Hsetpat lit ∷ [])) (h, Hunlockfile f ∷ [])
    (none_found (suc g) (with_files h (record h.files { pattern = Some lit })) f (searched (file_at h.files f).text lit q) (Hsetpat lit ∷ []) (none_named (suc g) (Hsetpat lit ∷ []) refl))
    (none_named (suc g) (Hunlockfile f ∷ []) refl)
never_lost g h (Tsearch f p q) u shown = none_found (suc g) h f (searched_for h.files.pattern (file_at h.files f).text q) [] refl
never_lost g h (Tsend f p q) u shown =
    let s = as_lines (part (file_at h.files f).text p q) in
    none_if (suc g) ((p == q) || not (has_room h.files s)) (h, Hunlock ∷ []) (reply_line (with_files h (after_print h.files s)) (printed h.files s) (last_line s)) refl
    (none_line (suc g) (with_files h (after_print h.files s)) (printed h.files s) (last_line s) (none_printed (suc g) h.files s))
never_lost g h (Twrite f) u shown = ap (λ (b : Bool). b || false) u
never_lost g h (Tclose f) u shown = λ i. u i || (u i || false)
never_lost g h m u shown = none_named (suc g) (reply_to h m).1 (grind arith)

-- so it doesn't join
joins_less : (g : ℕ) (ms : List Hmesg) → NoLoss g ms → joins (at_file g ms) ≡ false
joins_less g [] e = refl
joins_less g (m ∷ ms) e = by (loses g m) refl e (joins_less g ms)
  where
    first : (m : Hmesg) → loses g m ≡ false → is_join (action g m) ≡ false
    first m e = grind arith

    by : (b : Bool) → loses g m ≡ b → (b || losses g ms) ≡ false → (NoLoss g ms → joins (at_file g ms) ≡ false) → joins (at_file g (m ∷ ms)) ≡ false
    by true q e more = absurd (true≢false e)
    by false q e more = ap (λ (b : Bool). b || joins (at_file g ms)) (first m q) ∙ more e

-- nor is it closed
closes_less : (g : ℕ) (ms : List Hmesg) → NoLoss g ms → closes (at_file g ms) ≡ false
closes_less g [] e = refl
closes_less g (m ∷ ms) e = by (loses g m) refl e (closes_less g ms)
  where
    first : (m : Hmesg) → loses g m ≡ false → is_close (action g m) ≡ false
    first m e = grind arith

    by : (b : Bool) → loses g m ≡ b → (b || losses g ms) ≡ false → (NoLoss g ms → closes (at_file g ms) ≡ false) → closes (at_file g (m ∷ ms)) ≡ false
    by true q e more = absurd (true≢false e)
    by false q e more = ap (λ (b : Bool). b || closes (at_file g ms)) (first m q) ∙ more e

undone_joins : (g : ℕ) (h : PlainHost) (m : Tmesg) → undoes g m ≡ true → joins (at_file g (reply_to h m).1) ≡ false
unfolding replies_opened
undone_joins g h (Twrite f) e = λ i. idle (g == f) i || (free (g == f) i || false)
  where
    idle : (b : Bool) → is_join (only b Needs_known) ≡ false
    idle true = refl
    idle false = refl

    free : (b : Bool) → is_join (only b Free_file) ≡ false
    free true = refl
    free false = refl
undone_joins g h (Tclose f) e = λ i. close (g == f) i || (leave (g == f) i || false)
  where
    close : (b : Bool) → is_join (only b Close) ≡ false
    close true = refl
    close false = refl

    leave : (b : Bool) → is_join (only b Leave) ≡ false
    leave true = refl
    leave false = refl
undone_joins g h m e = absurd (true≢false (sym e))

never_joins : (g : ℕ) (h : PlainHost) (m : Tmesg) → IsShown h.files (suc g) → joins (at_file (suc g) (reply_to h m).1) ≡ false
never_joins g h m shown = by (undoes (suc g) m) refl
  where
    by : (b : Bool) → undoes (suc g) m ≡ b → joins (at_file (suc g) (reply_to h m).1) ≡ false
    by true e = undone_joins (suc g) h m e
    by false e = joins_less (suc g) (reply_to h m).1 (never_lost g h m e shown)

-- ## A file that was announced stays so, unless it is closed

shown_other : (fs : PlainFiles) (f g : ℕ) (x : PlainFile) → (f == g) ≡ false → IsShown fs g → IsShown (put_file fs f x) g
shown_other fs f g x n s =
    let same = slot-put_other fs.slots f g x (λ e. absurd (grind (arith, n, e))) in
    (ap is_some same ∙ s.0, ap (λ (o : Option PlainFile). (unwrap_or o blank_file).announced) same ∙ s.1)

shown_put : (fs : PlainFiles) (f g : ℕ) (x : PlainFile) → x.announced ≡ (file_at fs f).announced → IsShown fs g → IsShown (put_file fs f x) g
shown_put fs f g x same s = by (f == g) refl
  where
    by : (b : Bool) → (f == g) ≡ b → IsShown (put_file fs f x) g
    by true q =
        let here : f ≡ g = eqb-true f g q in
        let there = slot-put_same fs.slots f x in
        subst (λ (k : ℕ). IsShown (put_file fs f x) k) here
        (ap is_some there, ap (λ (o : Option PlainFile). (unwrap_or o blank_file).announced) there ∙ same ∙ ap (λ (k : ℕ). (file_at fs k).announced) here ∙ s.1)
    by false q = shown_other fs f g x q s

shown_print : (fs : PlainFiles) (s : List ℕ) (g : ℕ) → IsShown fs g → IsShown (after_print fs s) g
shown_print fs s g shown = by (is_printed fs s)
  where
    by : (b : Bool) → IsShown (if b then put_file fs 0 (printed_file (file_at fs 0) s) else fs) g
    by true = shown_put fs 0 g (printed_file (file_at fs 0) s) refl shown
    by false = shown

shown_line : (h : PlainHost) (before : List Hmesg) (line : List ℕ) (g : ℕ) → IsShown h.files g → IsShown (reply_line h before line).0.files g
shown_line h before line g shown =
    let o = meaning h.files line in
    shown_print (committed h.files o) o.printed g (by o o.file)
  where
    by : (o : PlainOutcome) (x : Option ℕ) → IsShown (put_outcome x h.files o) g
    by o None = shown
    by o (Some f) = shown_put h.files f g (file_after (file_at h.files f) o) refl shown

shown_if : (g : ℕ) (b : Bool) (x y : Reply) → IsShown x.0.files g → IsShown y.0.files g → IsShown (if b then x else y).0.files g
shown_if g true x y a b = a
shown_if g false x y a b = b

shown_found : (g : ℕ) (h : PlainHost) (f : ℕ) (d : Option Range) (frames : List Hmesg) → IsShown h.files g → IsShown (reply_found h f d frames).0.files g
shown_found g h f None frames s = s
shown_found g h f (Some d) frames s = shown_put h.files f g (record (file_at h.files f) { dot = d }) refl s

shown_announced : (ss : Slots PlainFile) (g : ℕ) (h : PlainFiles) → IsShown (record h { slots = ss }) (suc g) → IsShown (record h { slots = announce_all ss }) (suc g)
shown_announced [] g h s = s
shown_announced (x ∷ ss) g h s = by (slot ss g) (slot-map announced_file ss g) s.0
  where
    by : (o : Option PlainFile) → slot (announce_all (x ∷ ss)) (suc g) ≡ option_map announced_file o → is_some o ≡ true → IsShown (record h { slots = announce_all (x ∷ ss) }) (suc g)
    by None q e = absurd (true≢false (sym e))
    by (Some y) q e = (ap is_some q, ap (λ (o : Option PlainFile). (unwrap_or o blank_file).announced) q)

shown_stays : (g : ℕ) (h : PlainHost) (m : Tmesg) → closes (at_file (suc g) (reply_to h m).1) ≡ false → IsShown h.files (suc g) → IsShown (reply_to h m).0.files (suc g)
unfolding replies_opened
shown_stays g h (Tversion v) c s = shown_announced h.files.slots g h.files s
shown_stays g h Tstartcmdfile c s =
    let file = file_at h.files 0 in
    shown_if (suc g) file.opened (h, Hunlock ∷ []) (with_file h 0 (opened_file file), _) s (shown_put h.files 0 (suc g) (opened_file file) refl s)
shown_stays g h (Tstartfile f) c s = shown_put h.files f (suc g) (opened_file (file_at h.files f)) refl s
shown_stays g h (Tworkfile f p q) c s = shown_put h.files f (suc g) (record (file_at h.files f) { dot = (p, q) }) refl s
shown_stays g h (Ttype f p t) c s =
    let typed = with_file h f (typed_file f (file_at h.files f) p t) in
    let there = shown_put h.files f (suc g) (typed_file f (file_at h.files f) p t) refl s in
    shown_if (suc g) ((f == 0) && ends_line t) (reply_line typed [] _) (typed, []) (shown_line typed [] _ (suc g) there) there
shown_stays g h (Tcut f p q) c s = shown_put h.files f (suc g) (cut_file f (file_at h.files f) p q) refl s
shown_stays g h (Tpaste f p) c s =
    let t = h.files.snarf in
    shown_if (suc g) (is_empty t || nat_lt max_runes (length (file_at h.files f).text + length t)) (h, Hunlockfile f ∷ []) (with_file h f (pasted_file f (file_at h.files f) p t), _) s
    (shown_put h.files f (suc g) (pasted_file f (file_at h.files f) p t) refl s)
shown_stays g h Tstartnewfile c s =
    let f = length h.files.slots in
    let l = slot_given h.files.slots (suc g) s.0 in
    shown_if (suc g) (nat_le all_tags f) (with_files h (after_print h.files no_tag_left), _) (with_files h (record (put_file h.files f new_file) { work = Some f }), _)
    (shown_print h.files no_tag_left (suc g) s) (shown_other h.files f (suc g) new_file (grind (arith, l)) s)
shown_stays g h (Twrite f) c s = shown_put h.files f (suc g) (written_file (file_at h.files f)) refl s
shown_stays g h (Tclose f) c s = by (suc g == f) refl c
  where
    by : (b : Bool) → (suc g == f) ≡ b → (is_close (only (suc g == f) Close) || closes (at_file (suc g) (Hdelname f ∷ Hunlock ∷ []))) ≡ false → IsShown (without_file h.files f) (suc g)
    by true q c = absurd (true≢false (sym (ap (λ (b : Bool). is_close (only b Close) || closes (at_file (suc g) (Hdelname f ∷ Hunlock ∷ []))) q) ∙ c))
    by false q c =
        let same = slot-free_other h.files.slots f (suc g) (λ e. absurd (grind (arith, q, e))) in
        (ap is_some same ∙ s.0, ap (λ (o : Option PlainFile). (unwrap_or o blank_file).announced) same ∙ s.1)
shown_stays g h (Tlook f p q) c s =
    let lit = part (file_at h.files f).text p q in
    shown_if (suc g) (may_look lit) (reply_found (with_files h (record h.files { pattern = Some lit })) f (searched (file_at h.files f).text lit q) (Hsetpat lit ∷ [])) (h, Hunlockfile f ∷ [])
    (shown_found (suc g) (with_files h (record h.files { pattern = Some lit })) f (searched (file_at h.files f).text lit q) (Hsetpat lit ∷ []) s) s
shown_stays g h (Tsearch f p q) c s = shown_found (suc g) h f (searched_for h.files.pattern (file_at h.files f).text q) [] s
shown_stays g h (Tsend f p q) c s =
    let t = as_lines (part (file_at h.files f).text p q) in
    shown_if (suc g) ((p == q) || not (has_room h.files t)) (h, Hunlock ∷ []) (reply_line (with_files h (after_print h.files t)) (printed h.files t) (last_line t)) s
    (shown_line (with_files h (after_print h.files t)) (printed h.files t) (last_line t) (suc g) (shown_print h.files t (suc g) s))
shown_stays g h (Tdclick f p) c s = shown_put h.files f (suc g) (record (file_at h.files f) { dot = word_at (file_at h.files f).text p }) refl s
shown_stays g h m c s = s

pub shown_kept : (g : ℕ) (h : PlainHost) (m : Tmesg) → undoes (suc g) m ≡ false → IsShown h.files (suc g) → IsShown (reply_to h m).0.files (suc g)
shown_kept g h m u s = shown_stays g h m (closes_less (suc g) (reply_to h m).1 (never_lost g h m u s)) s

-- ## Answers

unknown_reply : (g : ℕ) (h : PlainHost) (m : Tmesg) (r : Reply) (v w : Lens) → IsShown h.files (suc g) → reply_of h m ≡ Some r → run (at_file (suc g) r.1) v ≡ Some w → is_unknown v ≡ true
    → (is_unknown w ≡ true) × IsShown r.0.files (suc g)
unknown_reply g h m r v w s e q u = by h.is_done e
  where
    told : (counted (reply_to h m).0, (reply_to h m).1) ≡ r → (is_unknown w ≡ true) × IsShown r.0.files (suc g)
    told is =
        let first = unknown_runs (at_file (suc g) (reply_to h m).1) v w (subst (λ (x : Reply). run (at_file (suc g) x.1) v ≡ Some w) (sym is) q) u (never_joins g h m s) in
        (first.0, subst (λ (x : Reply). IsShown x.0.files (suc g)) is (shown_stays g h m first.1 s))

    checked : (o : Option HostFault) → replied o (reply_to h m) ≡ Some r → (is_unknown w ≡ true) × IsShown r.0.files (suc g)
    checked None e = told (same_Some _ _ e)
    checked (Some why) e = absurd (grind (arith, e))

    silent : (counted h, []) ≡ r → (is_unknown w ≡ true) × IsShown r.0.files (suc g)
    silent is =
        let same : v ≡ w = same_Some _ _ (subst (λ (x : Reply). run (at_file (suc g) x.1) v ≡ Some w) (sym is) q) in
        (ap is_unknown (sym same) ∙ u, subst (λ (x : Reply). IsShown x.0.files (suc g)) is s)

    by : (b : Bool) → (if b then Some (counted h, []) else replied (first_of_checks (host_checks h m)) (reply_to h m)) ≡ Some r → (is_unknown w ≡ true) × IsShown r.0.files (suc g)
    by true e = silent (same_Some _ _ e)
    by false e = checked (first_of_checks (host_checks h m)) e

unknown_answers : (g : ℕ) (h : PlainHost) (line : List Tmesg) (x : Reply) (v w : Lens) → IsShown h.files (suc g) → answers h line ≡ Some x → run (at_file (suc g) x.1) v ≡ Some w → is_unknown v ≡ true
    → (is_unknown w ≡ true) × IsShown x.0.files (suc g)
unknown_answers g h [] x v w s e q u =
    let is : (h, []) ≡ x = same_Some _ _ e in
    let same : v ≡ w = same_Some _ _ (subst (λ (y : Reply). run (at_file (suc g) y.1) v ≡ Some w) (sym is) q) in
    (ap is_unknown (sym same) ∙ u, subst (λ (y : Reply). IsShown y.0.files (suc g)) is s)
unknown_answers g h (m ∷ ms) x v w s e q u =
    let t = answered h m ms x e in
    let parts = split (at_file (suc g) t.first.1) (at_file (suc g) t.rest.1) v w
    (subst (λ (s : List Action). run s v ≡ Some w) (ap (λ (y : Reply). at_file (suc g) y.1) t.whole ∙ at_file-append (suc g) t.first.1 t.rest.1) q) in
    let one = unknown_reply g h m t.first v parts.mid s t.now parts.first u in
    let rest = unknown_answers g t.first.0 ms t.rest parts.mid w one.1 t.later parts.last one.0 in
    (rest.0, subst (λ (y : Reply). IsShown y.0.files (suc g)) (sym t.whole) rest.1)

-- ## Where what is under way to the terminal leads

shown_synced : (fs : PlainFiles) (f : ℕ) (v : Lens) (d : Bool) (n : ℕ) → IsSynced v d n (file_in fs.slots f) → IsShown fs f → is_unknown v ≡ true → ⊥
shown_synced fs f v d n synced s u = by (slot fs.slots f) refl (nat_lt f (length fs.slots)) refl
  where
    by : (o : Option PlainFile) → slot fs.slots f ≡ o → (b : Bool) → nat_lt f (length fs.slots) ≡ b → ⊥
    by None q b e = true≢false (sym s.0 ∙ ap is_some q)
    by (Some x) q b e = grind (arith, q, e)

pub known_then : (h : PlainHost) (t : PlainTerminal) (up : List Tmesg) (down : List Hmesg) (g : ℕ) (v : Lens) → InOrder h t up down → IsShown h.files (suc g)
    → run (at_file (suc g) down) (view (suc g) t) ≡ Some v → is_unknown v ≡ false
known_then h t up down g v o s r = by (is_unknown v) refl
  where
    by : (b : Bool) → is_unknown v ≡ b → is_unknown v ≡ false
    by false u = u
    by true u =
        let c = o.kept.each (suc g) in
        let parts = split (at_file (suc g) down) (at_file (suc g) o.kept.frames) (view (suc g) t) c.final
        (subst (λ (s : List Action). run s (view (suc g) t) ≡ Some c.final) (at_file-append (suc g) down o.kept.frames) c.runs) in
        let here : parts.mid ≡ v = same_Some _ _ (sym parts.first ∙ r) in
        let there = unknown_answers g h _ (o.kept.ahead, o.kept.frames) v c.final s o.kept.folds (subst (λ (x : Lens). run (at_file (suc g) o.kept.frames) x ≡ Some c.final) here parts.last) u in
        absurd (shown_synced o.kept.ahead.files (suc g) c.final o.kept.ahead.is_done o.kept.ahead.version c.synced there.1 there.0)
