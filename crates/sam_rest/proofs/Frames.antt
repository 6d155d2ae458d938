-- Which answers have data, and what a request is answered by.
use Rattle.sam_crossing.proofs.Common.{◌≡◌, ℕ, ◌+◌, ◌-◌, ◌<◌, slot, min, Bool, true, false, not, ◌||◌, ◌&&◌, ◌==◌, if◌then◌else◌, List, [], ◌∷◌, ◌++◌, length, drop, reverse, flat_map, Option, Some, None, ◌⊎◌, inl, inr, refl, sym, ap, ◌∙◌, subst, true≢false, arith, eq-eqb, eqb-true, same_Some, is_empty, part, Range, searched, max_runes, most_in_message, Slots, PlainFile, PlainFiles, PlainOutcome, file_at, has_file, Tmesg, Tversion, Tstartcmdfile, Tstartfile, Ttype, Tpaste, Tstartnewfile, Tclose, Tlook, Tsearch, Tsend, Trequest, Hmesg, Hdata, Hunlockfile, Hversion, Hack, Hunlock, Hexit, Hgrow, Hgrowdata, Hsetdot, Hcheck, Hcut, Hdirty, Hmovname, Hsetpat, nat_le, nat_lt, is_printed, committed, common_version, Hnewname, Hbindname, Hcurrent, command_name, no_tag_left, ends_line, typed_file, with_file, with_files, may_look, searched_for, as_lines, last_line, has_room, after_print, PlainHost, Reply, HostFault, counted, host_checks, first_of_checks, reply_to, reply_found, reply_line, reply_request, grown, printed, told_edit, told_length, told_names, told_outcome, when, when_given, answers, reply_of, replied_then, at_file, file_in, Opened, Gone}
unfoldable use Rattle.sam_host.proofs.EachFrame.{replies_opened}
use Rattle.sam_runes.specs.declared.edit.Edit.{Edit}
use Rattle.sam_host.specs.Host.{told_dirty, told_found, told_at}
use Rattle.sam_text.specs.Files.{opened_file}
use Rattle.sam_runes.specs.Texts.{all_tags}
use Rattle.sam_text.specs.Meaning.{meaning}
use Rattle.sam_term.specs.LockCounts.{asks_for, requests}
use Rattle.sam_crossing.specs.Fold.{replied, after_frames}
use Rattle.sam_crossing.proofs.HostFiles.{opens_at, gone_at}
use Rattle.sam_crossing.proofs.Folds.{plain_reply}
use Rattle.sam_rest.proofs.Actions.{fills}
use Rattle.sam_rest.proofs.Gaps.{data_at, data_of}

-- ## Lists of frames without data of f

abbrev pub HasNone : ℕ → List Hmesg → Type 0
HasNone f frames = fills (at_file f frames) ≡ false

pub none-both : (f : ℕ) (xs ys : List Hmesg) → HasNone f xs → HasNone f ys → HasNone f (xs ++ ys)
none-both f [] ys a b = b
none-both f (m ∷ xs) ys a b = grind (arith, (none-both f xs ys))

none-when : (f : ℕ) (b : Bool) (xs : List Hmesg) → HasNone f xs → HasNone f (when b xs)
unfolding when
none-when f b xs a = grind arith

none-given : (f : ℕ) {A : Type 0} (o : Option A) (frame : A → Hmesg) → ((x : A) → HasNone f (frame x ∷ [])) → HasNone f (when_given o frame)
unfolding when_given
none-given f None frame a = refl
none-given f (Some x) frame a = a x

none-one : (f : ℕ) (b : Bool) (x y : Hmesg) → HasNone f (x ∷ []) → HasNone f (y ∷ []) → HasNone f ((if b then x else y) ∷ [])
none-one f true x y c d = c
none-one f false x y c d = d

none-grown : (f : ℕ) (fs : PlainFiles) (g p : ℕ) (s : List ℕ) → HasNone f (grown fs g p s)
unfolding grown
none-grown f fs g p s =
    none-when f ((file_at fs g).opened && not (is_empty s)) ((if nat_le (length s) most_in_message then Hgrowdata g p s else Hgrow g p (length s)) ∷ [])
    (none-one f (nat_le (length s) most_in_message) (Hgrowdata g p s) (Hgrow g p (length s)) (grind arith) (grind arith))

none-dirty : (f : ℕ) (fs : PlainFiles) (g : ℕ) → HasNone f (told_dirty fs g)
none-dirty f fs g = none-when f _ _ (grind arith)

none-length : (f g : ℕ) (file : PlainFile) → HasNone f (told_length g file)
unfolding told_length
none-length f g file = none-when f _ _ (grind arith)

none-printed : (f : ℕ) (fs : PlainFiles) (s : List ℕ) → HasNone f (printed fs s)
unfolding printed
none-printed f fs s =
    let end = length (file_at fs 0).text + length s in
    let frames = grown fs 0 (length (file_at fs 0).text) s in
    none-when f (is_printed fs s && (file_at fs 0).opened) (frames ++ Hsetdot 0 end end ∷ Hcheck 0 ∷ [])
    (none-both f frames (Hsetdot 0 end end ∷ Hcheck 0 ∷ []) (none-grown f fs 0 (length (file_at fs 0).text) s) (grind arith))

none-edit : (f : ℕ) (fs : PlainFiles) (g : ℕ) (e : Edit) → HasNone f (told_edit fs g e)
unfolding told_edit
none-edit f fs g e =
    none-both f (when (nat_lt e.p e.q) (Hcut g e.p (e.q - e.p) ∷ [])) (grown fs g e.p e.text) (none-when f (nat_lt e.p e.q) (Hcut g e.p (e.q - e.p) ∷ []) (grind arith))
    (none-grown f fs g e.p e.text)

none-edits : (f : ℕ) (fs : PlainFiles) (g : ℕ) (es : List Edit) → HasNone f (flat_map (told_edit fs g) es)
none-edits f fs g [] = refl
none-edits f fs g (e ∷ es) = none-both f (told_edit fs g e) (flat_map (told_edit fs g) es) (none-edit f fs g e) (none-edits f fs g es)

none-outcome : (f : ℕ) (x : Option ℕ) (fs : PlainFiles) (o : PlainOutcome) → HasNone f (told_outcome x fs o)
unfolding told_outcome
none-outcome f None fs o = none-given f o.pattern Hsetpat (λ s. refl)
none-outcome f (Some g) fs o =
    let edits = none-edits f fs g (reverse o.edits) in
    let dirty = none-when f (not (is_empty o.edits) && not (file_at fs g).dirty) (Hdirty g ∷ []) (grind arith) in
    let named = none-given f o.name (Hmovname g) (λ s. grind arith) in
    let pattern = none-given f o.pattern Hsetpat (λ s. refl) in
    let dot = none-given f o.dot (λ d. Hsetdot g d.0 d.1) (λ d. grind arith) in
    let check = none-when f (not (is_empty o.edits)) (Hcheck g ∷ []) (grind arith) in
    let a = flat_map (told_edit fs g) (reverse o.edits) in
    let b = when (not (is_empty o.edits) && not (file_at fs g).dirty) (Hdirty g ∷ []) in
    let c = when_given o.name (Hmovname g) in
    let d = when_given o.pattern Hsetpat in
    let e = when_given o.dot (λ d. Hsetdot g d.0 d.1) in
    none-both f (a ++ b ++ c ++ d ++ e) (when (not (is_empty o.edits)) (Hcheck g ∷ []))
    (none-both f (a ++ b ++ c ++ d) e (none-both f (a ++ b ++ c) d (none-both f (a ++ b) c (none-both f a b edits dirty) named) pattern) dot) check

none-names : (f g : ℕ) (ss : Slots PlainFile) → HasNone f (told_names g ss)
unfolding told_names
none-names f g [] = refl
none-names f g (None ∷ ss) = none-names f (1 + g) ss
none-names f g (Some file ∷ ss) = none-both f (told_at g (Some file)) (told_names (1 + g) ss) (none-when f _ _ (grind arith)) (none-names f (1 + g) ss)

none-line : (f : ℕ) (h : PlainHost) (before : List Hmesg) (line : List ℕ) → HasNone f before → HasNone f (reply_line h before line).1
none-line f h before line a =
    let o = meaning h.files line in
    let told = none-outcome f o.file h.files o in
    let out = none-printed f (committed h.files o) o.printed in
    let x = told_outcome o.file h.files o in
    let y = printed (committed h.files o) o.printed in
    none-both f (before ++ x ++ y) ((if o.quit then Hexit else Hunlock) ∷ []) (none-both f (before ++ x) y (none-both f before x a told) out) (none-one f o.quit Hexit Hunlock refl refl)

none-found : (f : ℕ) (h : PlainHost) (g : ℕ) (d : Option Range) (frames : List Hmesg) → HasNone f frames → HasNone f (reply_found h g d frames).1
none-found f h g None frames a = grind arith
none-found f h g (Some d) frames a = none-both f frames (told_found g d) a (grind arith)

none-if : (f : ℕ) (b : Bool) (x y : Reply) → HasNone f x.1 → HasNone f y.1 → HasNone f (if b then x else y).1
none-if f true x y c d = c
none-if f false x y c d = d

none-version : (f v : ℕ) → HasNone f (Hversion v ∷ [])
none-version f v = grind arith

-- ## Answers

pub eqb-sym : (f g : ℕ) → (f == g) ≡ (g == f)
eqb-sym f g = by (f == g) (g == f) refl refl
  where
    by : (a b : Bool) → (f == g) ≡ a → (g == f) ≡ b → a ≡ b
    by true true p q = refl
    by false false p q = refl
    by true false p q = absurd (true≢false (sym (eq-eqb g f (sym (eqb-true f g p))) ∙ q))
    by false true p q = absurd (true≢false (sym (eq-eqb f g (sym (eqb-true g f q))) ∙ p))

none-data : (f g p : ℕ) (x : List ℕ) → (g == f) ≡ false → HasNone f (Hdata g p x ∷ Hunlockfile g ∷ [])
none-data f g p x e = let no : (f == g) ≡ false = eqb-sym f g ∙ e in rw no refl

-- a message that asks for no data of f is answered by none
none-reply : (f : ℕ) (h : PlainHost) (m : Tmesg) → asks_for f m ≡ 0 → HasNone f (reply_to h m).1
unfolding replies_opened
none-reply f h (Tversion v) e =
    let names = told_names 1 (drop 1 h.files.slots) in
    none-both f (Hversion (common_version v) ∷ []) (names ++ Hack ∷ Hunlock ∷ []) (none-version f (common_version v))
    (none-both f names (Hack ∷ Hunlock ∷ []) (none-names f 1 (drop 1 h.files.slots)) refl)
none-reply f h Tstartcmdfile e =
    let file = file_at h.files 0 in
    let named = Hnewname 0 ∷ Hmovname 0 command_name ∷ Hbindname 0 ∷ [] in
    none-if f file.opened (h, Hunlock ∷ []) (with_file h 0 (opened_file file), (named ++ told_length 0 file) ++ Hunlock ∷ []) refl
    (none-both f (named ++ told_length 0 file) (Hunlock ∷ []) (none-both f named (told_length 0 file) (grind arith) (none-length f 0 file)) refl)
none-reply f h (Tstartfile g) e =
    let file = file_at h.files g in
    none-both f (when (not file.opened) (Hbindname g ∷ told_length g file)) (Hunlock ∷ [])
    (none-when f (not file.opened) (Hbindname g ∷ told_length g file) (none-both f (Hbindname g ∷ []) (told_length g file) (grind arith) (none-length f g file))) refl
none-reply f h (Trequest g p n) e =
    let t = (file_at h.files g).text in
    let a = min p (length t) in
    none-when f (has_file h.files g) (Hdata g a (part t a (min (p + min n most_in_message) (length t))) ∷ Hunlockfile g ∷ []) (none-data f g a _ (grind arith))
none-reply f h (Ttype g p s) e =
    none-if f ((g == 0) && ends_line s) _ (with_file h g (typed_file g (file_at h.files g) p s), []) (none-line f (with_file h g (typed_file g (file_at h.files g) p s)) [] _ refl) refl
none-reply f h (Tpaste g p) e =
    let s = h.files.snarf in
    let after_frames = Hsetdot g p (p + length s) ∷ Hcheck g ∷ Hunlockfile g ∷ [] in
    let x = grown h.files g p s in
    let y = told_dirty h.files g in
    none-if f (is_empty s || nat_lt max_runes (length (file_at h.files g).text + length s)) (h, Hunlockfile g ∷ []) (_, x ++ y ++ after_frames) (grind arith)
    (none-both f (x ++ y) after_frames (none-both f x y (none-grown f h.files g p s) (none-dirty f h.files g)) (grind arith))
none-reply f h Tstartnewfile e =
    let g = length h.files.slots in
    none-if f (nat_le all_tags g) (_, printed h.files no_tag_left ++ Hunlock ∷ []) (_, Hnewname g ∷ Hbindname g ∷ Hcurrent g ∷ Hunlock ∷ [])
    (none-both f (printed h.files no_tag_left) (Hunlock ∷ []) (none-printed f h.files no_tag_left) refl) (grind arith)
none-reply f h (Tclose g) e = grind arith
none-reply f h (Tlook g p q) e =
    let t = (file_at h.files g).text in
    let lit = part t p q in
    let sought = with_files h (record h.files { pattern = Some lit }) in
    none-if f (may_look lit) (reply_found sought g (searched t lit q) (Hsetpat lit ∷ [])) (h, Hunlockfile g ∷ []) (none-found f sought g (searched t lit q) (Hsetpat lit ∷ []) refl) (grind arith)
none-reply f h (Tsearch g p q) e = none-found f h g (searched_for h.files.pattern (file_at h.files g).text q) [] refl
none-reply f h (Tsend g p q) e =
    let s = as_lines (part (file_at h.files g).text p q) in
    let sent = with_files h (after_print h.files s) in
    none-if f ((p == q) || not (has_room h.files s)) (h, Hunlock ∷ []) (reply_line sent (printed h.files s) (last_line s)) refl
    (none-line f sent (printed h.files s) (last_line s) (none-printed f h.files s))
none-reply f h m e = grind arith

none-reply_of : (f : ℕ) (h : PlainHost) (m : Tmesg) (r : Reply) → asks_for f m ≡ 0 → reply_of h m ≡ Some r → HasNone f r.1
none-reply_of f h m r a e = by h.is_done e
  where
    checked : (o : Option HostFault) → replied o (reply_to h m) ≡ Some r → HasNone f r.1
    checked None e = subst (HasNone f) (ap (λ (x : Reply). x.1) (same_Some _ _ e)) (none-reply f h m a)
    checked (Some why) e = absurd (grind arith)

    by : (b : Bool) → (if b then Some (counted h, []) else replied (first_of_checks (host_checks h m)) (reply_to h m)) ≡ Some r → HasNone f r.1
    by true e = subst (HasNone f) (ap (λ (x : Reply). x.1) (same_Some _ _ e)) refl
    by false e = checked (first_of_checks (host_checks h m)) e

pub none-answers : (f : ℕ) (ms : List Tmesg) (h : PlainHost) (r : Reply) → requests f ms ≡ 0 → answers h ms ≡ Some r → HasNone f r.1
none-answers f [] h r a e = subst (HasNone f) (ap (λ (x : Reply). x.1) (same_Some _ _ e)) refl
none-answers f (m ∷ ms) h r a e = by (reply_of h m) refl e (λ k x. none-answers f ms k x (omega (arith, a)))
  where
    by : (o : Option Reply) → reply_of h m ≡ o → replied_then o (λ k. answers k ms) ≡ Some r → ((k : PlainHost) (x : Reply) → answers k ms ≡ Some x → HasNone f x.1)
        → HasNone f r.1
    by None q e more = absurd (grind arith)
    by (Some s) q e more = go (answers s.0 ms) refl e
      where
        go : (o : Option Reply) → answers s.0 ms ≡ o → after_frames s.1 o ≡ Some r → HasNone f r.1
        go None v w = absurd (grind arith)
        go (Some y) v w =
            subst (HasNone f) (ap (λ (x : Reply). x.1) (same_Some _ _ w)) (none-both f s.1 y.1 (none-reply_of f h m s (omega (arith, a)) q) (more s.0 y v))

-- ## A request

pub request-none : (k : PlainHost) (f p n : ℕ) → (k.is_done ≡ true) ⊎ (file_in k.files.slots f ≡ Gone) → reply_of k (Trequest f p n) ≡ Some (counted k, [])
unfolding reply_request when
request-none k f p n (inl d) = rw d refl
request-none k f p n (inr e) = by k.is_done refl (gone_at k.files.slots f e)
  where
    by : (d : Bool) → k.is_done ≡ d → (f < length k.files.slots) × (slot k.files.slots f ≡ None) → reply_of k (Trequest f p n) ≡ Some (counted k, [])
    by true q x = rw q refl
    by false q x = grind (arith, (plain_reply k (Trequest f p n) q), x.0, x.1)

pub request-data : (k : PlainHost) (f p n : ℕ) (t : List ℕ) → k.is_done ≡ false → file_in k.files.slots f ≡ Opened t
    → reply_of k (Trequest f p n) ≡ Some (counted k, Hdata f (data_at t p) (data_of t p n) ∷ Hunlockfile f ∷ [])
unfolding reply_request when
request-data k f p n t d e =
    let o = opens_at k.files f t e in
    let passes : first_of_checks (host_checks k (Trequest f p n)) ≡ None = grind (arith, o.0.given, o.0.there, o.0.opened) in
    rw (← o.1) (grind (arith, (plain_reply k (Trequest f p n) d passes), o.0.given, o.0.there, o.0.opened))
