-- Events after which the host sets dot: a paste, a double click, a look and a search.
use Rattle.sam_crossing.proofs.Common.{◌||◌, ◌&&◌, ◌≡◌, ℕ, zero, suc, ◌+◌, ◌<◌, ◌≤◌, Bool, true, false, not, ◌==◌, if◌then◌else◌, List, [], ◌∷◌, ◌++◌, length, take, drop, Option, Some, None, is_some, refl, sym, ap, ◌∙◌, subst, true≢false, arith, not-false, nat_lt, length-ins, length-del, length-drop, length-take, length-take-le, is_empty, max_runes, part, del, searched, may_look, searched_for, Range, PlainFile, PlainFiles, file_at, put_file, cut_file, pasted_file, Tcut, Tpaste, Tlook, Tsearch, Tdclick, Hcheck, Hsetdot, Hmoveto, Hsetpat, Hunlockfile, PlainHost, Reply, counted, reply_to, reply_found, with_file, with_files, reply_paste, reply_cut, reply_dclick, reply_look, reply_search, grown, KnownFile, Window, PlainTerminal, known_at, window_at, window_in, is_open, put_known, effect, Slots, place_after_ins, InOrder}
use Rattle.sam_runes.specs.Texts.{either, leftmost, word_at}
use Rattle.std.specs.Prelude.{nat_eq}
use Rattle.std.specs.List.{starts_with}
use Rattle.sam_runes.proofs.PlaceSteps.{begins-Decides}
use Rattle.sam_text.specs.Files.{is_changed}
use Rattle.sam_host.specs.Host.{told_paste, told_dirty, told_found}
use Rattle.sam_term.specs.declared.event.UserEvent.TheVariants.{Paste, Look, Search, Dclick}
use Rattle.sam_term.specs.Windows.{known_in}
use Rattle.sam_crossing.proofs.Passing.{passed}
use Rattle.sam_local.specs.Local.{PlainEditor, at_rest, all_taken, carried}
use Rattle.sam_local.specs.Editing.{text_in, dot_in, snarf_in, May, replaced, moved_window, with_host_file, with_known, with_window, with_typing, with_paste, with_found, with_pattern, PasteReplaces, DclickSelects, LookSelects, SearchSelects}
use Rattle.sam_local.proofs.Sights.{bare, sight, turned}
use Rattle.sam_local.proofs.Frames.{turn, taken-append}
use Rattle.sam_local.proofs.Uncounted.{rest}
use Rattle.sam_local.proofs.Events.{is_cut, cut_window, opened-turned, turn_nothing}
use Rattle.sam_local.proofs.Editors.{acted, after-one, after-two, opened-same}
use Rattle.sam_local.proofs.Whole.{file-put, same-but, kept-file, kept-both, back, file-twice, unlock-sight}
use Rattle.sam_local.proofs.Seen.{Seen, seen-alike, seen-first, seen-dot, seen-view, seen-unlock, seen-grown, seen-dirty, in_it, ins_window}
use Rattle.sam_local.proofs.Editing.{tidy, ends, within, reached, edited_here, cut-seen, cut-in, cut-view, cut-length, typing-none, typing-some, replaced-ins, replaced-both}

-- ## A text that stands somewhere is found

begins : (lit t : List ℕ) (at : ℕ) (n : ℕ) → 0 < length lit → take (length lit) (drop n t) ≡ lit → is_some (leftmost lit at t) ≡ true
begins lit [] at n l e = absurd (grind (arith, l, e, length-take, length-drop))
begins lit (c ∷ t) at zero l e = grind (arith, e, begins-Decides)
begins lit (c ∷ t) at (suc n) l e = by (starts_with nat_eq (c ∷ t) lit) (begins lit t (suc at) n l e)
  where
    by : (b : Bool) → is_some (leftmost lit (suc at) t) ≡ true → is_some (if b then Some (at, at + length lit) else leftmost lit (suc at) t) ≡ true
    by true x = refl
    by false x = x

stands : (t : List ℕ) (p q : ℕ) → p ≤ q → q ≤ length t → may_look (part t p q) ≡ true → is_some (searched t (part t p q) q) ≡ true
stands t p q l m e = by (leftmost (part t p q) q (drop q t)) (begins (part t p q) t 0 p (grind (arith, e)) (grind (arith, length-drop, length-take, length-take-le)))
  where
    by : (o : Option Range) → is_some (leftmost (part t p q) 0 t) ≡ true → is_some (either o (leftmost (part t p q) 0 t)) ≡ true
    by None x = x
    by (Some r) x = refl

-- ## A paste

paste-plain : (h : PlainHost) (f p : ℕ) → (is_empty h.files.snarf || nat_lt max_runes (length (file_at h.files f).text + length h.files.snarf)) ≡ false
    → reply_to h (Tpaste f p) ≡ (with_file h f (pasted_file f (file_at h.files f) p h.files.snarf), told_paste h.files f p h.files.snarf)
unfolding reply_paste
paste-plain h f p e = rw e refl

paste-nothing : (h : PlainHost) (f p : ℕ) → (is_empty h.files.snarf || nat_lt max_runes (length (file_at h.files f).text + length h.files.snarf)) ≡ true
    → reply_to h (Tpaste f p) ≡ (h, Hunlockfile f ∷ [])
unfolding reply_paste
paste-nothing h f p e = rw e refl

-- where the terminal is told that the file is dirty
told-alone : (d z : Bool) → (not d && not z) ≡ not (not true || d || z)
told-alone true true = refl
told-alone true false = refl
told-alone false true = refl
told-alone false false = refl

told-never : (d z : Bool) → (not (if z then d else true) && not z) ≡ not (not false || d || z)
told-never true true = refl
told-never true false = refl
told-never false true = refl
told-never false false = refl

-- a file that is there, with s pasted in the place of d
abbrev paste_in : ℕ → PlainFile → Range → List ℕ → PlainFile
paste_in f file d s = record file { text = replaced file.text d s; dot = (d.0, d.0 + length s); dirty = is_changed f file }

pasted-in : (f : ℕ) (file : PlainFile) (p q : ℕ) (s : List ℕ) → (p == q) ≡ true → pasted_file f file p s ≡ paste_in f file (p, q) s
pasted-in f file p q s e = λ i. record file { text = replaced-ins file.text s p q e i; dot = (p, p + length s); dirty = is_changed f file }

pasted-both : (f : ℕ) (file : PlainFile) (p q : ℕ) (s : List ℕ) → p ≤ length file.text → pasted_file f (cut_file f file p q) p s ≡ paste_in f file (p, q) s
pasted-both f file p q s l = λ i. record file { text = replaced-both file.text s p q l i; dot = (p, p + length s); dirty = twice (f == 0) i }
  where
    twice : (b : Bool) → (if b then (if b then file.dirty else true) else true) ≡ (if b then file.dirty else true)
    twice true = refl
    twice false = refl

-- the frames of a paste, after a cut or not
seen-pasted : (z : PlainTerminal) (f : ℕ) (fs : PlainFiles) (x : PlainTerminal) (known : KnownFile) (w : Window) (p : ℕ) (s : List ℕ) → (file_at fs f).opened ≡ true → Seen z f x (in_it known w)
    → Seen z f (all_taken x (told_paste fs f p s))
    (record known { dirty = known.dirty || (not (file_at fs f).dirty && not (f == 0)); window = Some (record (ins_window p s w) { dot = (p, p + length s) }) })
seen-pasted z f fs x known w p s o e =
    let grew = grown fs f p s in
    let dirty = told_dirty fs f in
    let last = Hsetdot f p (p + length s) ∷ Hcheck f ∷ Hunlockfile f ∷ [] in
    let b = not (file_at fs f).dirty && not (f == 0) in
    let marked : KnownFile = record known { dirty = known.dirty || b } in
    let one = seen-grown z f fs x known w p s o e in
    let two = seen-dirty z f (all_taken x grew) (in_it known (ins_window p s w)) b one in
    let y = all_taken (all_taken x grew) dirty in
    ap sight (taken-append (grew ++ dirty) last x ∙ ap (λ (u : PlainTerminal). all_taken u last) (taken-append grew dirty x))
    ∙ seen-unlock z f (effect y (Hsetdot f p (p + length s))) marked (record (ins_window p s w) { dot = (p, p + length s) }) (seen-dot z f y marked (ins_window p s w) p (p + length s) two)

module _ (h : PlainHost) (t : PlainTerminal) (o : InOrder (rest h) (at_rest h t).term [] []) (f : ℕ) where
  abbrev editor : PlainEditor
  editor = at_rest h t

  abbrev term : PlainTerminal
  term = (at_rest h t).term

  abbrev known : KnownFile
  known = known_at (at_rest h t).term f

  abbrev w : Window
  w = window_at (at_rest h t).term f

  abbrev file : PlainFile
  file = file_at h.files f

  abbrev text : List ℕ
  text = (file_at h.files f).text

  abbrev snarf : List ℕ
  snarf = h.files.snarf

  abbrev p : ℕ
  p = w.dot.0

  abbrev q : ℕ
  q = w.dot.1

  abbrev cut : PlainFile
  cut = cut_file f file p q

  abbrev cut_files : PlainFiles
  cut_files = put_file h.files f cut

  abbrev cut_host : PlainHost
  cut_host = with_files (rest h) cut_files

  abbrev y : PlainTerminal
  y = turned term f (turn is_cut cut_window)

  -- what the terminal keeps of the file, where it is told that it is dirty or not
  abbrev pasted_here : KnownFile
  pasted_here =
      record known {
        dirty = known.dirty || not (not (p == q) || file.dirty || f == 0);
        changed = not (p == q) || known.changed;
        window = Some (record (moved_window w.dot snarf w) { dot = (p, p + length snarf) });
      }

  paste-seen : (fs : PlainFiles) → (file_at fs f).opened ≡ true → (not (file_at fs f).dirty && not (f == 0)) ≡ not (not (p == q) || file.dirty || f == 0)
      → sight (all_taken y (told_paste fs f p snarf)) ≡ sight (put_known term f pasted_here)
  paste-seen fs opened told =
      let cuts = record known { changed = not (p == q) || known.changed } in
      let s = snarf in
      seen-alike term f (all_taken y (told_paste fs f p s))
      (record cuts { dirty = known.dirty || (not (file_at fs f).dirty && not (f == 0)); window = Some (record (ins_window p s (cut_window w)) { dot = (p, p + length s) }) }) pasted_here
      (seen-pasted term f fs y cuts (cut_window w) p s opened refl)
      (λ i. bare (record cuts {
        dirty = known.dirty || told i;
        window = Some (record w { dot = (p, p + length s); view_start = place_after_ins p (length s) (cut-view w i); view_length = cut-length w i });
      }))

  -- a paste that comes to a host with this file
  paste-comes : (fs : PlainFiles) (x : PlainFile) → (file_at fs f).opened ≡ true → (not (file_at fs f).dirty && not (f == 0)) ≡ not (not (p == q) || file.dirty || f == 0) → x ≡ paste_in f file w.dot snarf
      → at_rest (with_file h f x) (all_taken y (told_paste fs f p snarf)) ≡ with_paste editor f
  paste-comes fs x opened told e =
      kept-both h t (all_taken y (told_paste fs f p snarf)) f x pasted_here (paste-seen fs opened told)
      ∙ ap (λ (x : PlainFile). with_known (with_host_file editor f x) f pasted_here) e

  -- the length of the text, where the dot is empty, and of the text without the dot
  size-alone : is_open term f ≡ true → (p == q) ≡ true → length (replaced text w.dot snarf) ≡ length text + length snarf
  size-alone opened x =
      sym (ap (λ (l : List ℕ). length l) (replaced-ins text snarf p q x)) ∙ length-ins text snarf p (omega (arith, tidy h t o f, ends h t o f opened))

  size-cut : is_open term f ≡ true → length (replaced text w.dot snarf) ≡ length (file_at cut_files f).text + length snarf
  size-cut opened =
      let shorter = length-del text p q (tidy h t o f) (ends h t o f opened) in
      sym (ap (λ (l : List ℕ). length l) (replaced-both text snarf p q (within h t o f opened)))
      ∙ length-ins (del text p q) snarf p (omega (arith, tidy h t o f, ends h t o f opened, shorter)) ∙ ap (λ (z : PlainFile). length z.text + length snarf) (sym (file-put h.files f cut))

  pastes : May editor (Paste f)
      → carried editor (Paste f) ≡ (if is_empty snarf || nat_lt max_runes (length (replaced text w.dot snarf)) then with_typing editor f [] else with_paste editor f)
  unfolding reply_cut
  pastes may = by (w.dot.0 == w.dot.1) (is_empty snarf || nat_lt max_runes (length (replaced text w.dot snarf))) refl refl
    where
      opened : is_open term f ≡ true
      opened = not-false (is_open term f) (passed term (Paste f) may).opened

      there : (file_at h.files f).opened ≡ true
      there = sym (opened-same h t o f) ∙ opened

      long : (n : ℕ) (b : Bool) → length (replaced text w.dot snarf) ≡ n → (is_empty snarf || nat_lt max_runes (length (replaced text w.dot snarf))) ≡ b → (is_empty snarf || nat_lt max_runes n) ≡ b
      long n b e x = sym (ap (λ (m : ℕ). is_empty snarf || nat_lt max_runes m) e) ∙ x

      unlocked : sight (effect y (Hunlockfile f)) ≡ sight y
      unlocked = unlock-sight y f (opened-turned term f is_cut cut_window)

      by : (b l : Bool) → (w.dot.0 == w.dot.1) ≡ b → (is_empty snarf || nat_lt max_runes (length (replaced text w.dot snarf))) ≡ l
          → carried editor (Paste f) ≡ (if l then with_typing editor f [] else with_paste editor f)
      by true true x e =
          after-one h t o (Paste f) (Tpaste f p) may (rw x refl)
          ∙ ap (λ (r : Reply). at_rest r.0 (all_taken y r.1)) (paste-nothing (rest h) f p (long (length text + length snarf) true (size-alone opened x) e))
          ∙ back h t (effect y (Hunlockfile f)) (unlocked ∙ turn_nothing term f opened (w.dot.0 == w.dot.1) x)
          ∙ sym (typing-none editor f [] (ap (λ (b : Bool). b && true) x))
      by true false x e =
          after-one h t o (Paste f) (Tpaste f p) may (rw x refl)
          ∙ ap (λ (r : Reply). at_rest r.0 (all_taken y r.1)) (paste-plain (rest h) f p (long (length text + length snarf) false (size-alone opened x) e))
          ∙ paste-comes h.files (pasted_file f file p snarf) there
          (told-alone file.dirty (f == 0) ∙ ap (λ (b : Bool). not (not b || file.dirty || f == 0)) (sym x))
          (pasted-in f file p q snarf x)
      by false true x e =
          after-two h t o (Paste f) (Tcut f p q) (Tpaste f p) cut_host may (rw x refl) refl (acted h t o (Paste f) may).running
          ∙ ap (λ (r : Reply). at_rest r.0 (all_taken y ([] ++ r.1))) (paste-nothing (counted cut_host) f p (long (length (file_at cut_files f).text + length snarf) true (size-cut opened) e))
          ∙ kept-both h t (effect y (Hunlockfile f)) f cut (edited_here h t o f []) (unlocked ∙ cut-seen h t o f term refl x)
          ∙ ap (λ (x : PlainFile). with_known (with_host_file editor f x) f (edited_here h t o f [])) (cut-in f file p q)
          ∙ sym (typing-some editor f [] (ap (λ (b : Bool). b && true) x))
      by false false x e =
          let both = pasted_file f (file_at cut_files f) p snarf in
          let is_cut : file_at cut_files f ≡ cut = file-put h.files f cut in
          after-two h t o (Paste f) (Tcut f p q) (Tpaste f p) cut_host may (rw x refl) refl (acted h t o (Paste f) may).running
          ∙ ap (λ (r : Reply). at_rest r.0 (all_taken y ([] ++ r.1))) (paste-plain (counted cut_host) f p (long (length (file_at cut_files f).text + length snarf) false (size-cut opened) e))
          ∙ ap (λ (k : PlainHost). at_rest k (all_taken y (told_paste cut_files f p snarf))) (file-twice h f cut both)
          ∙ paste-comes cut_files both (ap (λ (z : PlainFile). z.opened) is_cut ∙ there)
          (ap (λ (z : PlainFile). not z.dirty && not (f == 0)) is_cut ∙ told-never file.dirty (f == 0) ∙ ap (λ (b : Bool). not (not b || file.dirty || f == 0)) (sym x))
          (ap (λ (z : PlainFile). pasted_file f z p snarf) is_cut ∙ pasted-both f file p q snarf (within h t o f opened))

  -- ## Finding

  clicked : (at : ℕ) → May editor (Dclick f at)
      → let d = word_at text at in carried editor (Dclick f at) ≡ with_window (with_host_file editor f (record file { dot = d })) f (record w { dot = d })
  unfolding reply_dclick
  clicked at may =
      let d = word_at text at in
      let x = effect term (Hsetdot f d.0 d.1) in
      after-one h t o (Dclick f at) (Tdclick f at) may refl
      ∙ kept-both h t (effect x (Hunlockfile f)) f (record file { dot = d }) (record known { window = Some (record w { dot = d }) })
      (seen-unlock term f x known (record w { dot = d }) (seen-dot term f term known w d.0 d.1 (seen-first term f (not-false (is_open term f) (passed term (Dclick f at) may).opened))))

  -- what was found, where the terminal was told more before it
  found-seen : (z : PlainTerminal) → z.files ≡ term.files → is_open z f ≡ true → (d : Range) → sight (all_taken z (told_found f d)) ≡ sight (put_known z f (record known { window = Some (record w { dot = d; view_start = d.0 }) }))
  found-seen z e opened d =
      let set = effect z (Hsetdot f d.0 d.1) in
      let first : Seen z f z (in_it known w) = subst (λ (ss : Slots KnownFile). Seen z f z (in_it (known_in ss f) (window_in ss f))) e (seen-first z f opened) in
      seen-unlock z f (effect set (Hmoveto f d.0)) known (record w { dot = d; view_start = d.0 }) (seen-view z f set known (record w { dot = d }) d.0 (seen-dot z f z known w d.0 d.1 first))

  sought : May editor (Search f) → carried editor (Search f) ≡ with_found editor f (searched_for h.files.pattern text q)
  unfolding reply_search
  sought may = after-one h t o (Search f) (Tsearch f p q) may refl ∙ by (searched_for h.files.pattern text q)
    where
      opened : is_open term f ≡ true
      opened = not-false (is_open term f) (passed term (Search f) may).opened

      by : (d : Option Range) → at_rest (reply_found (rest h) f d []).0 (all_taken term (reply_found (rest h) f d []).1) ≡ with_found editor f d
      by None = back h t (effect term (Hunlockfile f)) (unlock-sight term f opened)
      by (Some d) = kept-both h t (all_taken term (told_found f d)) f (record file { dot = d }) (record known { window = Some (record w { dot = d; view_start = d.0 }) }) (found-seen term refl opened d)

  look-plain : (k : PlainHost) (a b : ℕ) → let lit = part (file_at k.files f).text a b in may_look lit ≡ true
      → reply_to k (Tlook f a b) ≡ reply_found (with_files k (record k.files { pattern = Some lit })) f (searched (file_at k.files f).text lit b) (Hsetpat lit ∷ [])
  unfolding reply_look
  look-plain k a b e = rw e refl

  looked : May editor (Look f) → let lit = part text p q in may_look lit ≡ true
      → carried editor (Look f) ≡ with_found (with_pattern editor (Some lit)) f (searched text lit q)
  looked may e =
      after-one h t o (Look f) (Tlook f p q) may refl ∙ ap (λ (r : Reply). at_rest r.0 (all_taken term r.1)) (look-plain (rest h) p q e) ∙ by (searched text lit q) (stands text p q (tidy h t o f) (ends h t o f opened) e)
    where
      lit : List ℕ
      lit = part text p q

      opened : is_open term f ≡ true
      opened = not-false (is_open term f) (passed term (Look f) may).opened

      k : PlainHost
      k = with_files (rest h) (record h.files { pattern = Some lit })

      told : PlainTerminal
      told = record term { pattern = lit }

      by : (d : Option Range) → is_some d ≡ true → at_rest (reply_found k f d (Hsetpat lit ∷ [])).0 (all_taken term (reply_found k f d (Hsetpat lit ∷ [])).1) ≡ with_found (with_pattern editor (Some lit)) f d
      by None x = absurd (true≢false (sym x))
      by (Some d) x =
          kept-file h t (with_file k f (record file { dot = d })) (all_taken told (told_found f d)) told refl f (record known { window = Some (record w { dot = d; view_start = d.0 }) }) (same-but h.files f (record file { dot = d }))
          (found-seen told refl opened d)

-- ## The laws

pub paste_replaces : PasteReplaces
paste_replaces editor f r =
    reached
    (λ x. May x (Paste f) → let s = snarf_in x in
    carried x (Paste f) ≡ (if is_empty s || nat_lt max_runes (length (replaced (text_in x f) (dot_in x f) s)) then with_typing x f [] else with_paste x f))
    (λ h t o. pastes h t o f) editor r

pub dclick_selects : DclickSelects
dclick_selects editor f p r =
    reached
    (λ x. May x (Dclick f p) → let d = word_at (text_in x f) p in
    carried x (Dclick f p) ≡ with_window (with_host_file x f (record (file_at x.host.files f) { dot = d })) f (record (window_at x.term f) { dot = d }))
    (λ h t o. clicked h t o f p) editor r

pub look_selects : LookSelects
look_selects editor f r =
    reached
    (λ x. May x (Look f) → let d = dot_in x f in let lit = part (text_in x f) d.0 d.1 in
    may_look lit ≡ true → carried x (Look f) ≡ with_found (with_pattern x (Some lit)) f (searched (text_in x f) lit d.1))
    (λ h t o. looked h t o f) editor r

pub search_selects : SearchSelects
search_selects editor f r =
    reached (λ x. May x (Search f) → carried x (Search f) ≡ with_found x f (searched_for x.host.files.pattern (text_in x f) (dot_in x f).1)) (λ h t o. sought h t o f) editor r
