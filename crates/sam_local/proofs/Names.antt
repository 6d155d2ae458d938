-- The terminal has the names that the host has, and its marks: each event keeps them so.
use Rattle.sam_crossing.proofs.Common.{◌≡◌, ℕ, zero, suc, ◌+◌, ◌≤◌, Bool, true, false, not, ◌==◌, ◌&&◌, ◌||◌, if◌then◌else◌, List, [], ◌∷◌, ◌++◌, length, drop, Option, Some, None, is_some, unwrap_or, refl, sym, ap, ◌∙◌, subst, true≢false, arith, not-false, eq-eqb, eqb-true, and_parts, append-nil, option_map, Slots, slot, put_slot, free_slot, slot-map, slot-put_same, slot-put_other, slot-free_same, slot-free_other, is_empty, given_slots, first_of_checks, part, may_look, nat_le, PlainFile, PlainFiles, PlainOutcome, blank_file, file_at, file_after, command_name, announce_all, announced_file, new_file, printed_file, is_printed, has_room, no_tag_left, as_lines, last_line, searched_for, searched, Window, KnownFile, UserEvent, PlainTerminal, known_at, window_at, is_known, is_open, is_command_line, event_checks, blank_known, IsSynced, IsCommandFile, AllOpenAnnounced, view, ends_line, nat_lt, ◌-◌, blank_window, with_files, put_file}
use Rattle.sam_crossing.specs.View.{file_in as host_file_in}
use Rattle.sam_runes.specs.Texts.{Range, all_tags, lines_before, max_runes, most_in_name, word_at}
use Rattle.sam_text.specs.Files.{file_in, is_changed, opened_file, written_file}
use Rattle.sam_text.specs.Meaning.{meaning}
use Rattle.sam_host.specs.Host.{given_file, line_to}
use Rattle.sam_host.specs.Laws.{AreGiven}
use Rattle.sam_term.specs.Windows.{known_in}
use Rattle.sam_term.specs.declared.event.UserEvent.TheVariants.{Typed, Select, Cut, Paste, Snarf, Look, Search, Send, Dclick, Scroll, View, Load, Edit, Open, Close, Write, Work, OpenCmd, New, Exit, Check, GetSnarf, SetSnarf, Version, Flush}
use Rattle.sam_term.specs.declared.event.Verdict.{Verdict}
use Rattle.sam_crossing.proofs.HostFiles.{not_given}
use Rattle.sam_crossing.proofs.Passing.{passed}
use Rattle.sam_local.specs.Local.{PlainEditor, Doing, Did, Joined, at_rest, carried, done_on, joined, files_in, new_editor, whole_file}
use Rattle.sam_local.specs.Editing.{IsReached, May, dot_in, text_in, with_typing, with_edit, with_paste, with_found, with_outcome, with_pattern, with_printed, with_snarf, with_line, with_host_file, with_known, with_window, with_names, over, edited_window, moved_window, replaced, NamesAndMarksAgree}
use Rattle.sam_local.proofs.Checks.{open-known}
use Rattle.sam_local.proofs.Doings.{done-append, files-append}
use Rattle.sam_local.proofs.Editors.{acted, synced-here}
use Rattle.sam_local.proofs.Editing.{reached, refused_does_nothing, select_sets, cut_moves, snarf_copies, set_snarf_sets, write_saves, close_drops, work_sets, exit_ends}
use Rattle.sam_local.proofs.Finding.{paste_replaces, dclick_selects, look_selects, search_selects}
use Rattle.sam_local.proofs.Looking.{empty_dot_keeps, look_keeps, check_and_flush_keep, view_shows, load_shows, scroll_shows, get_snarf_fetches}
use Rattle.sam_local.proofs.Replacing.{edit_replaces, edit_of_nothing_keeps}
use Rattle.sam_local.proofs.Lines.{IsSettled, settled, settled-typing, settled-printed, names-work, command-after, steady, typing_replaces, send_runs}
use Rattle.sam_local.proofs.Opening.{open_opens, command_file_opens, new_makes, version_agrees}

-- ## Files of both sides

record Marked (ss : Slots PlainFile) (ks : Slots KnownFile) : Type 0 where
  names : (f : ℕ) → is_some (slot ks f) ≡ true → (known_in ks f).name ≡ (file_in ss f).name
  marks : (f : ℕ) → (f == 0) ≡ false → ((known_in ks f).dirty || (known_in ks f).changed) ≡ (file_in ss f).dirty
  command : (file_in ss 0).name ≡ command_name

abbrev M : PlainEditor → Type 0
M editor = Marked editor.host.files.slots editor.term.files

-- what is the same at a file
record SameAt (ss : Slots PlainFile) (ks : Slots KnownFile) (rr : Slots PlainFile) (js : Slots KnownFile) (g : ℕ) : Type 0 where
  known : slot js g ≡ slot ks g
  name : (file_in rr g).name ≡ (file_in ss g).name
  dirty : (file_in rr g).dirty ≡ (file_in ss g).dirty

-- a change of one file
module _ (ss : Slots PlainFile) (ks : Slots KnownFile) (m : Marked ss ks) (rr : Slots PlainFile) (js : Slots KnownFile) (f : ℕ) (others : (g : ℕ) → (g == f) ≡ false → SameAt ss ks rr js g)
    (name : is_some (slot js f) ≡ true → (known_in js f).name ≡ (file_in rr f).name) (mark : (f == 0) ≡ false → ((known_in js f).dirty || (known_in js f).changed) ≡ (file_in rr f).dirty)
    (command : (f == 0) ≡ true → (file_in rr f).name ≡ command_name) where
  names-at : (g : ℕ) (b : Bool) → (g == f) ≡ b → is_some (slot js g) ≡ true → (known_in js g).name ≡ (file_in rr g).name
  names-at g true q = subst (λ (n : ℕ). is_some (slot js n) ≡ true → (known_in js n).name ≡ (file_in rr n).name) (sym (eqb-true g f q)) name
  names-at g false q =
      let s = others g q in
      λ e. ap (λ (k : Option KnownFile). (unwrap_or k blank_known).name) s.known ∙ m.names g (sym (ap (λ (k : Option KnownFile). is_some k) s.known) ∙ e) ∙ sym s.name

  marks-at : (g : ℕ) (b : Bool) → (g == f) ≡ b → (g == 0) ≡ false → ((known_in js g).dirty || (known_in js g).changed) ≡ (file_in rr g).dirty
  marks-at g true q = subst (λ (n : ℕ). (n == 0) ≡ false → ((known_in js n).dirty || (known_in js n).changed) ≡ (file_in rr n).dirty) (sym (eqb-true g f q)) mark
  marks-at g false q =
      let s = others g q in
      λ e. ap (λ (k : Option KnownFile). (unwrap_or k blank_known).dirty || (unwrap_or k blank_known).changed) s.known ∙ m.marks g e ∙ sym s.dirty

  command-at : (b : Bool) → (0 == f) ≡ b → (file_in rr 0).name ≡ command_name
  command-at true q =
      let same : 0 ≡ f = eqb-true 0 f q in
      subst (λ (n : ℕ). (n == 0) ≡ true → (file_in rr n).name ≡ command_name) (sym same) command refl
  command-at false q = (others 0 q).name ∙ m.command

  marked-at : Marked rr js
  marked-at = record { names = λ g e. names-at g (g == f) refl e; marks = λ g e. marks-at g (g == f) refl e; command = command-at (0 == f) refl }

apart : (g f : ℕ) → (g == f) ≡ false → (f ≡ g) → ⊥
apart g f e q = true≢false (sym (eq-eqb g f (sym q)) ∙ e)

file-same : (ss : Slots PlainFile) (f : ℕ) (x : PlainFile) → file_in (put_slot ss f x) f ≡ x
file-same ss f x = ap (λ (s : Option PlainFile). unwrap_or s blank_file) (slot-put_same ss f x)

known-same : (ks : Slots KnownFile) (f : ℕ) (x : KnownFile) → known_in (put_slot ks f x) f ≡ x
known-same ks f x = ap (λ (s : Option KnownFile). unwrap_or s blank_known) (slot-put_same ks f x)

file-there : (ss : Slots PlainFile) (f g : ℕ) (x : PlainFile) → (g == f) ≡ false → file_in (put_slot ss f x) g ≡ file_in ss g
file-there ss f g x e = ap (λ (s : Option PlainFile). unwrap_or s blank_file) (slot-put_other ss f g x (apart g f e))

module _ (ss : Slots PlainFile) (ks : Slots KnownFile) (m : Marked ss ks) (f : ℕ) where
  -- both sides have another file there
  marked-put : (file : PlainFile) (known : KnownFile) → known.name ≡ file.name → ((f == 0) ≡ false → (known.dirty || known.changed) ≡ file.dirty) → ((f == 0) ≡ true → file.name ≡ command_name)
      → Marked (put_slot ss f file) (put_slot ks f known)
  marked-put file known name mark command =
      let x = file-same ss f file in
      let k = known-same ks f known in
      marked-at ss ks m (put_slot ss f file) (put_slot ks f known) f
      (λ g e. record {
        known = slot-put_other ks f g known (apart g f e);
        name = ap (λ (y : PlainFile). y.name) (file-there ss f g file e);
        dirty = ap (λ (y : PlainFile). y.dirty) (file-there ss f g file e);
      })
      (λ e. ap (λ (y : KnownFile). y.name) k ∙ name ∙ sym (ap (λ (y : PlainFile). y.name) x))
      (λ e. ap (λ (y : KnownFile). y.dirty || y.changed) k ∙ mark e ∙ sym (ap (λ (y : PlainFile). y.dirty) x))
      (λ e. ap (λ (y : PlainFile). y.name) x ∙ command e)

  -- the host has another of the same name and mark
  marked-host : (file : PlainFile) → file.name ≡ (file_in ss f).name → file.dirty ≡ (file_in ss f).dirty → Marked (put_slot ss f file) ks
  marked-host file name dirty =
      let x = file-same ss f file in
      marked-at ss ks m (put_slot ss f file) ks f
      (λ g e. record { known = refl; name = ap (λ (y : PlainFile). y.name) (file-there ss f g file e); dirty = ap (λ (y : PlainFile). y.dirty) (file-there ss f g file e) })
      (λ e. m.names f e ∙ sym (ap (λ (y : PlainFile). y.name) x ∙ name))
      (λ e. m.marks f e ∙ sym (ap (λ (y : PlainFile). y.dirty) x ∙ dirty))
      (λ e. ap (λ (y : PlainFile). y.name) x ∙ name ∙ subst (λ (n : ℕ). (file_in ss n).name ≡ command_name) (sym (eqb-true f 0 e)) m.command)

  -- the terminal has another
  marked-here : (known : KnownFile) → known.name ≡ (file_in ss f).name → ((f == 0) ≡ false → (known.dirty || known.changed) ≡ (file_in ss f).dirty) → Marked ss (put_slot ks f known)
  marked-here known name mark =
      let k = known-same ks f known in
      marked-at ss ks m ss (put_slot ks f known) f (λ g e. record { known = slot-put_other ks f g known (apart g f e); name = refl; dirty = refl })
      (λ e. ap (λ (y : KnownFile). y.name) k ∙ name) (λ e. ap (λ (y : KnownFile). y.dirty || y.changed) k ∙ mark e)
      (λ e. subst (λ (n : ℕ). (file_in ss n).name ≡ command_name) (sym (eqb-true f 0 e)) m.command)

  marked-free : (f == 0) ≡ false → Marked (free_slot ss f) (free_slot ks f)
  marked-free z =
      let s = slot-free_same ss f in
      let k = slot-free_same ks f in
      marked-at ss ks m (free_slot ss f) (free_slot ks f) f
      (λ g e. record {
        known = slot-free_other ks f g (apart g f e);
        name = ap (λ (s : Option PlainFile). (unwrap_or s blank_file).name) (slot-free_other ss f g (apart g f e));
        dirty = ap (λ (s : Option PlainFile). (unwrap_or s blank_file).dirty) (slot-free_other ss f g (apart g f e));
      })
      (λ e. absurd (true≢false (sym e ∙ ap (λ (s : Option KnownFile). is_some s) k)))
      (λ e. ap (λ (s : Option KnownFile). (unwrap_or s blank_known).dirty || (unwrap_or s blank_known).changed) k ∙ sym (ap (λ (s : Option PlainFile). (unwrap_or s blank_file).dirty) s))
      (λ e. absurd (true≢false (sym e ∙ z)))

-- ## Marks

or-true : (b : Bool) → (b || true) ≡ true
or-true true = refl
or-true false = refl

-- a paste makes a file dirty, at both sides
paste-marks : (d c cuts : Bool) → ((d || not (cuts || (d || c) || false)) || (cuts || c)) ≡ true
paste-marks true c cuts = refl
paste-marks false true true = refl
paste-marks false true false = refl
paste-marks false false true = refl
paste-marks false false false = refl

-- edits of a line do
line-marks : (d c edits : Bool) → ((d || (edits && not (d || c))) || c) ≡ ((d || c) || edits)
line-marks true c edits = refl
line-marks false true true = refl
line-marks false true false = refl
line-marks false false true = refl
line-marks false false false = refl

changed-is : (f : ℕ) (file : PlainFile) → (f == 0) ≡ false → is_changed f file ≡ true
changed-is f file z = ap (λ (b : Bool). if b then file.dirty else true) z

-- ## Editors

module _ (editor : PlainEditor) (m : M editor) (f : ℕ) (here : is_known editor.term f ≡ true) where
  abbrev file : PlainFile
  file = file_at editor.host.files f

  abbrev known : KnownFile
  known = known_at editor.term f

  named : known.name ≡ file.name
  named = m.names f here

  first-named : (f == 0) ≡ true → file.name ≡ command_name
  first-named e = subst (λ (n : ℕ). (file_at editor.host.files n).name ≡ command_name) (sym (eqb-true f 0 e)) m.command

  marked-edit : (d : Range) (s : List ℕ) (w : Window) → M (with_edit editor f d s w)
  marked-edit d s w =
      let end = d.0 + length s in
      marked-put editor.host.files.slots editor.term.files m f (record file { text = replaced file.text d s; dot = (end, end); dirty = is_changed f file })
      (whole_file (text_in (with_host_file editor f (record file { text = replaced file.text d s; dot = (end, end); dirty = is_changed f file })) f) (record known { changed = true; window = Some w })) named
      (λ z. or-true known.dirty ∙ sym (changed-is f file z)) first-named

  marked-typing : (s : List ℕ) → M (with_typing editor f s)
  marked-typing s = by ((dot_in editor f).0 == (dot_in editor f).1 && is_empty s)
    where
      w : Window
      w = window_at editor.term f

      shown : Window
      shown = record (moved_window w.dot s w) { dot = (w.dot.0 + length s, w.dot.0 + length s) }

      by : (b : Bool) → M (if b then editor else with_edit editor f w.dot s shown)
      by true = m
      by false = marked-edit w.dot s shown

  -- a file of the same name and mark, with another window
  marked-shown : (x : PlainFile) (w : Window) → x.name ≡ file.name → x.dirty ≡ file.dirty → M (with_window (with_host_file editor f x) f w)
  marked-shown x w name dirty =
      marked-put editor.host.files.slots editor.term.files m f x (whole_file (text_in (with_host_file editor f x) f) (record known { window = Some w })) (named ∙ sym name) (λ z. m.marks f z ∙ sym dirty)
      (λ e. name ∙ first-named e)

  marked-window : (w : Window) → M (with_window editor f w)
  marked-window w = marked-here editor.host.files.slots editor.term.files m f (whole_file (text_in editor f) (record known { window = Some w })) named (λ z. m.marks f z)

  marked-found : (d : Option Range) → M (with_found editor f d)
  marked-found None = m
  marked-found (Some d) = marked-shown (record file { dot = d }) (record (window_at editor.term f) { dot = d; view_start = d.0 }) refl refl

  marked-paste : M (with_paste editor f)
  marked-paste =
      let w = window_at editor.term f in
      let s = editor.host.files.snarf in
      let pasted : Range = (w.dot.0, w.dot.0 + length s) in
      let cuts = not (w.dot.0 == w.dot.1) in
      let x = record file { text = replaced file.text w.dot s; dot = pasted; dirty = is_changed f file } in
      let k = record known { dirty = known.dirty || not (cuts || file.dirty || f == 0); changed = cuts || known.changed; window = Some (record (moved_window w.dot s w) { dot = pasted }) } in
      marked-put editor.host.files.slots editor.term.files m f x (whole_file (text_in (with_host_file editor f x) f) k) named
      (λ z. sym (λ i. (known.dirty || not (cuts || m.marks f z i || sym z i)) || (cuts || known.changed)) ∙ paste-marks known.dirty known.changed cuts ∙ sym (changed-is f file z)) first-named

marked-outcome : (w : Option ℕ) (editor : PlainEditor) (o : PlainOutcome) → M editor → ((f : ℕ) → w ≡ Some f → ((f == 0) ≡ false) × (is_known editor.term f ≡ true)) → M (with_outcome w editor o)
marked-outcome None editor o m works = m
marked-outcome (Some f) editor o m works =
    let both = works f refl in
    let file = file_at editor.host.files f in
    let known = known_at editor.term f in
    let w = edited_window o.edits (window_at editor.term f) in
    let x = file_after file o in
    let edits = not (is_empty o.edits) in
    let k = record known { name = unwrap_or o.name known.name; dirty = known.dirty || (edits && not file.dirty); window = Some (record w { dot = unwrap_or o.dot w.dot }) } in
    marked-put editor.host.files.slots editor.term.files m f x (whole_file (text_in (with_host_file editor f x) f) k) (ap (unwrap_or o.name) (m.names f both.1))
    (λ z. subst (λ (d : Bool). ((known.dirty || (edits && not d)) || known.changed) ≡ (d || edits)) (m.marks f z) (line-marks known.dirty known.changed edits)) (λ e. absurd (true≢false (sym e ∙ both.0)))

marked-pattern : (editor : PlainEditor) (pattern : Option (List ℕ)) → M editor → M (with_pattern editor pattern)
marked-pattern editor None m = m
marked-pattern editor (Some lit) m = m

marked-printed : (editor : PlainEditor) (s : List ℕ) → is_open editor.term 0 ≡ (file_at editor.host.files 0).opened → M editor → M (with_printed editor s)
marked-printed editor s command m = by (is_printed editor.host.files s) (file_at editor.host.files 0).opened refl
  where
    file : PlainFile
    file = file_at editor.host.files 0

    end : ℕ
    end = length file.text

    after : PlainEditor
    after = with_host_file editor 0 (printed_file file s)

    shown : Window
    shown = record (moved_window (end, end) s (window_at editor.term 0)) { dot = (end + length s, end + length s) }

    by : (b o : Bool) → (file_at editor.host.files 0).opened ≡ o → M (if not b then editor else if not o then after else with_window after 0 shown)
    by false o q = m
    by true false q = marked-host editor.host.files.slots editor.term.files m 0 (printed_file file s) refl refl
    by true true q = marked-shown editor m 0 (open-known editor.term 0 (command ∙ q)) (printed_file file s) shown refl refl

marked-line : (editor : PlainEditor) (line : List ℕ) → IsSettled editor → M editor → M (with_line editor line)
marked-line editor line s m = by o.quit
  where
    o : PlainOutcome
    o = meaning editor.host.files line

    works : (f : ℕ) → o.file ≡ Some f → ((f == 0) ≡ false) × (is_known editor.term f ≡ true)
    works f e = let x = s.works f (names-work editor.host.files line f (λ g w. (s.works g w).3) e) in (x.0, open-known editor.term f x.2)

    after : PlainEditor
    after = with_pattern (with_outcome o.file editor o) o.pattern

    marked : M (with_printed after o.printed)
    marked =
        marked-printed after o.printed (command-after o.file editor o o.pattern (λ f e. (works f e).0) s.command)
        (marked-pattern (with_outcome o.file editor o) o.pattern (marked-outcome o.file editor o m works))

    by : (b : Bool) → M (if b then over (with_printed after o.printed) else with_printed after o.printed)
    by true = marked
    by false = marked

-- ## Names that are told

later : (f : ℕ) → ((1 + f) == 0) ≡ false
later f = grind arith

next : (f g : ℕ) → f + suc g ≡ 1 + f + g
next f g = omega arith

no_slot : (s : Option KnownFile) → is_some s ≡ false → s ≡ None
no_slot None e = refl
no_slot (Some x) e = absurd (true≢false e)

told-marked : (ss : Slots PlainFile) (f : ℕ) (whole : Slots PlainFile) (ks : Slots KnownFile) → (f == 0) ≡ false → ((g : ℕ) → slot ss g ≡ slot whole (f + g))
    → ((g : ℕ) → (file_in ss g).announced ≡ false → is_some (slot ks (f + g)) ≡ false) → Marked whole ks → Marked whole (with_names f ss ks)
told-marked [] f whole ks z same none m = m
told-marked (None ∷ ss) f whole ks z same none m =
    told-marked ss (1 + f) whole ks (later f) (λ g. same (suc g) ∙ ap (slot whole) (next f g)) (λ g e. ap (λ (n : ℕ). is_some (slot ks n)) (sym (next f g)) ∙ none (suc g) e) m
told-marked (Some file ∷ ss) f whole ks z same none m = by file.announced refl (told-marked ss (1 + f) whole)
  where
    by : (b : Bool) → file.announced ≡ b
        → ((js : Slots KnownFile) → ((1 + f) == 0) ≡ false → ((g : ℕ) → slot ss g ≡ slot whole (1 + f + g)) → ((g : ℕ) → (file_in ss g).announced ≡ false → is_some (slot js (1 + f + g)) ≡ false) → Marked whole js
        → Marked whole (with_names (1 + f) ss js))
        → Marked whole (with_names (1 + f) ss (if b then ks else put_slot ks f (record blank_known { name = file.name })))
    by true q more =
        more ks (later f) (λ g. same (suc g) ∙ ap (slot whole) (next f g)) (λ g e. ap (λ (n : ℕ). is_some (slot ks n)) (sym (next f g)) ∙ none (suc g) e) m
    by false q more =
        let known = record blank_known { name = file.name } in
        let at : f + 0 ≡ f = omega arith in
        let here : Some file ≡ slot whole f = same 0 ∙ ap (slot whole) at in
        let gone : slot ks f ≡ None = no_slot (slot ks f) (ap (λ (n : ℕ). is_some (slot ks n)) (sym at) ∙ none 0 q) in
        more (put_slot ks f known) (later f) (λ g. same (suc g) ∙ ap (slot whole) (next f g))
        (λ g e. ap (λ (s : Option KnownFile). is_some s) (slot-put_other ks f (1 + f + g) known (λ q. absurd (omega (arith, q)))) ∙ ap (λ (n : ℕ). is_some (slot ks n)) (sym (next f g)) ∙ none (suc g) e)
        (marked-here whole ks m f known (ap (λ (s : Option PlainFile). (unwrap_or s blank_file).name) here)
        (λ e. sym (ap (λ (s : Option KnownFile). (unwrap_or s blank_known).dirty || (unwrap_or s blank_known).changed) gone) ∙ m.marks f e))

announced-file : (s : Option PlainFile) → ((unwrap_or (option_map announced_file s) blank_file).name ≡ (unwrap_or s blank_file).name) × ((unwrap_or (option_map announced_file s) blank_file).dirty ≡ (unwrap_or s blank_file).dirty)
announced-file None = (refl, refl)
announced-file (Some x) = (refl, refl)

announced-both : (ss : Slots PlainFile) (f : ℕ) → ((file_in (announce_all ss) f).name ≡ (file_in ss f).name) × ((file_in (announce_all ss) f).dirty ≡ (file_in ss f).dirty)
announced-both [] f = (refl, refl)
announced-both (s ∷ ss) zero = (refl, refl)
announced-both (s ∷ ss) (suc f) =
    let both = announced-file (slot ss f) in
    let same = slot-map announced_file ss f in
    (ap (λ (s : Option PlainFile). (unwrap_or s blank_file).name) same ∙ both.0, ap (λ (s : Option PlainFile). (unwrap_or s blank_file).dirty) same ∙ both.1)

announced-marked : (ss : Slots PlainFile) (ks : Slots KnownFile) → Marked ss ks → Marked (announce_all ss) ks
announced-marked ss ks m = record {
  names = λ f e. m.names f e ∙ sym (announced-both ss f).0;
  marks = λ f e. m.marks f e ∙ sym (announced-both ss f).1;
  command = (announced-both ss 0).0 ∙ m.command;
}

-- ## Editors that were reached

running-settled : (editor : PlainEditor) (e : UserEvent) → IsReached editor → May editor e → IsSettled editor
running-settled editor e r = reached (λ x. May x e → IsSettled x) (λ h t o q. settled h t o (acted h t o e q).running) editor r

-- a file whose name was not announced is unknown to the terminal
record Hidden (editor : PlainEditor) : Type 0 where
  unknown : (f : ℕ) → (f == 0) ≡ false → (file_at editor.host.files f).announced ≡ false → is_known editor.term f ≡ false
  next_tag : (length editor.host.files.slots == 0) ≡ false
  next_unknown : is_known editor.term (length editor.host.files.slots) ≡ false

unannounced : (t : PlainTerminal) (fs : PlainFiles) (f : ℕ) (d : Bool) (n : ℕ) → IsSynced (view f t) d n (host_file_in fs.slots f) → ((file_at fs f).opened ≡ true → (file_at fs f).announced ≡ true)
    → (file_at fs f).announced ≡ false → is_known t f ≡ false
unannounced t fs f d n s opened e = grind arith

has-command : (ss : Slots PlainFile) → IsCommandFile (host_file_in ss 0) → (length ss == 0) ≡ false
has-command [] c = absurd c
has-command (s ∷ ss) c = grind arith

opened-announced : (fs : PlainFiles) (f : ℕ) → (f == 0) ≡ false → AllOpenAnnounced fs → (file_at fs f).opened ≡ true → (file_at fs f).announced ≡ true
opened-announced fs zero z a = absurd (true≢false z)
opened-announced fs (suc f) z a = a f

-- a tag that was not given is unknown
unknown-past : (t : PlainTerminal) (fs : PlainFiles) (d : Bool) (n : ℕ) → IsSynced (view (length fs.slots) t) d n (host_file_in fs.slots (length fs.slots)) → is_known t (length fs.slots) ≡ false
unknown-past t fs d n s = grind (arith, (not_given fs.slots (length fs.slots) (omega arith)))

hidden-here : (editor : PlainEditor) → IsReached editor → Hidden editor
hidden-here editor r =
    reached Hidden
    (λ h t o. record {
      unknown = λ f z e. unannounced (at_rest h t).term h.files f _ _ (synced-here h t o f) (opened-announced h.files f z (steady h t o).announced) e;
      next_tag = has-command h.files.slots (steady h t o).sound.commands;
      next_unknown = unknown-past (at_rest h t).term h.files _ _ (synced-here h t o (length h.files.slots));
    })
    editor r

-- ## Each event

dropped : (ss : Slots PlainFile) (g : ℕ) → slot (drop 1 ss) g ≡ slot ss (1 + g)
dropped [] g = refl
dropped (s ∷ ss) g = let next : 1 + g ≡ suc g = omega arith in sym (ap (slot (s ∷ ss)) next)

module _ (editor : PlainEditor) (r : IsReached editor) (m : M editor) where
  abbrev ss : Slots PlainFile
  ss = editor.host.files.slots

  abbrev ks : Slots KnownFile
  ks = editor.term.files

  known-there : (f : ℕ) → not (is_known editor.term f) ≡ false → is_known editor.term f ≡ true
  known-there f e = not-false (is_known editor.term f) e

  marked-typed : (f : ℕ) (s : List ℕ) → May editor (Typed f s) → (b : Bool) → is_command_line f s ≡ b → (line : List ℕ) → M (if b then with_line (with_typing editor f s) line else with_typing editor f s)
  marked-typed f s q false e line = marked-typing editor m f (known-there f (passed editor.term (Typed f s) q).known) s
  marked-typed f s q true e line =
      let p = passed editor.term (Typed f s) q in
      let zero_is : f ≡ 0 = eqb-true f 0 (and_parts (f == 0) (ends_line s) e).0 in
      let opened : is_open editor.term f ≡ true = not-false (is_open editor.term f) p.opened in
      let set : IsSettled (with_typing editor f s) =
      subst (λ (g : ℕ). IsSettled (with_typing editor g s)) (sym zero_is)
      (settled-typing editor s (running-settled editor (Typed f s) r q) (subst (λ (g : ℕ). is_open editor.term g ≡ true) zero_is opened)) in
      marked-line (with_typing editor f s) line set (marked-typing editor m f (known-there f p.known) s)

  marked-event : (e : UserEvent) → May editor e → M (carried editor e)
  marked-event (Typed f s) q = subst M (sym (typing_replaces editor f s r q)) (marked-typed f s q (is_command_line f s) refl (line_to (text_in (with_typing editor f s) f) ((dot_in editor f).0 + length s - 1)))
  marked-event (Select f a b) q = subst M (sym (select_sets editor f a b r q)) (marked-window editor m f (known-there f (passed editor.term (Select f a b) q).known) (record (window_at editor.term f) { dot = (a, b) }))
  marked-event (Cut f) q = by ((dot_in editor f).0 == (dot_in editor f).1) refl
    where
      by : (b : Bool) → ((dot_in editor f).0 == (dot_in editor f).1) ≡ b → M (carried editor (Cut f))
      by true e = subst M (sym (empty_dot_keeps editor f r e).0) m
      by false e =
          let snarfed = with_snarf editor (part (text_in editor f) (dot_in editor f).0 (dot_in editor f).1) in
          subst M (sym (cut_moves editor f r q e)) (marked-typing snarfed m f (known-there f (passed editor.term (Cut f) q).known) [])
  marked-event (Paste f) q = subst M (sym (paste_replaces editor f r q)) (by (is_empty editor.host.files.snarf || nat_lt max_runes (length (replaced (text_in editor f) (dot_in editor f) editor.host.files.snarf))))
    where
      here : is_known editor.term f ≡ true
      here = known-there f (passed editor.term (Paste f) q).known

      by : (b : Bool) → M (if b then with_typing editor f [] else with_paste editor f)
      by true = marked-typing editor m f here []
      by false = marked-paste editor m f here
  marked-event (Snarf f) q = by ((dot_in editor f).0 == (dot_in editor f).1) refl
    where
      by : (b : Bool) → ((dot_in editor f).0 == (dot_in editor f).1) ≡ b → M (carried editor (Snarf f))
      by true e = subst M (sym (empty_dot_keeps editor f r e).1) m
      by false e = subst M (sym (snarf_copies editor f r q e)) m
  marked-event (Look f) q = by (may_look lit) refl
    where
      lit : List ℕ
      lit = part (text_in editor f) (dot_in editor f).0 (dot_in editor f).1

      by : (b : Bool) → may_look lit ≡ b → M (carried editor (Look f))
      by true e =
          subst M (sym (look_selects editor f r q e))
          (marked-found (with_pattern editor (Some lit)) m f (known-there f (passed editor.term (Look f) q).known) (searched (text_in editor f) lit (dot_in editor f).1))
      by false e = subst M (sym (look_keeps editor f r e)) m
  marked-event (Search f) q =
      subst M (sym (search_selects editor f r q))
      (marked-found editor m f (known-there f (passed editor.term (Search f) q).known) (searched_for editor.host.files.pattern (text_in editor f) (dot_in editor f).1))
  marked-event (Send f) q = by ((dot_in editor f).0 == (dot_in editor f).1) refl
    where
      s : List ℕ
      s = as_lines (part (text_in editor f) (dot_in editor f).0 (dot_in editor f).1)

      set : IsSettled editor
      set = running-settled editor (Send f) r q

      room : (b : Bool) → M (if b then with_line (with_printed editor s) (last_line s) else editor)
      room true = marked-line (with_printed editor s) (last_line s) (settled-printed editor s set) (marked-printed editor s set.command m)
      room false = m

      by : (b : Bool) → ((dot_in editor f).0 == (dot_in editor f).1) ≡ b → M (carried editor (Send f))
      by true e = subst M (sym (empty_dot_keeps editor f r e).2) m
      by false e = subst M (sym (send_runs editor f r q e)) (room (has_room editor.host.files s))
  marked-event (Dclick f p) q =
      let d = word_at (text_in editor f) p in
      subst M (sym (dclick_selects editor f p r q))
      (marked-shown editor m f (known-there f (passed editor.term (Dclick f p) q).known) (record (file_at editor.host.files f) { dot = d }) (record (window_at editor.term f) { dot = d }) refl refl)
  marked-event (Scroll f n) q =
      let w = window_at editor.term f in
      subst M (sym (scroll_shows editor f n r q)) (marked-window editor m f (known-there f (passed editor.term (Scroll f n) q).known) (record w { view_start = lines_before (text_in editor f) w.view_start n }))
  marked-event (View f p n) q =
      subst M (sym (view_shows editor f p n r q)) (marked-window editor m f (known-there f (passed editor.term (View f p n) q).known) (record (window_at editor.term f) { view_start = p; view_length = n }))
  marked-event (Load f p n) q =
      subst M (sym (load_shows editor f p n r q)) (marked-window editor m f (known-there f (passed editor.term (Load f p n) q).known) (record (window_at editor.term f) { view_start = p; view_length = n }))
  marked-event (Edit f a b s) q = by (a == b && is_empty s) refl
    where
      by : (none : Bool) → (a == b && is_empty s) ≡ none → M (carried editor (Edit f a b s))
      by true e = subst M (sym (edit_of_nothing_keeps editor f a b s r e)) m
      by false e =
          subst M (sym (edit_replaces editor f a b s r q e))
          (marked-edit editor m f (known-there f (passed editor.term (Edit f a b s) q).known) (a, b) s (moved_window (a, b) s (window_at editor.term f)))
  marked-event (Open f) q = subst M (sym (open_opens editor f r q)) (by (is_open editor.term f))
    where
      file : PlainFile
      file = file_at editor.host.files f

      after : PlainEditor
      after = record editor { host = with_files editor.host (record (put_file editor.host.files f (opened_file file)) { work = Some f }) }

      by : (b : Bool) → M (if b then after else with_window after f blank_window)
      by true = marked-host ss ks m f (opened_file file) refl refl
      by false = marked-shown editor m f (known-there f (passed editor.term (Open f) q).known) (opened_file file) blank_window refl refl
  marked-event (Close f) q = subst M (sym (close_drops editor f r q)) (marked-free ss ks m f (passed editor.term (Close f) q).other)
  marked-event (Write f) q =
      let here = known-there f (passed editor.term (Write f) q).known in
      let file = file_at editor.host.files f in
      subst M (sym (write_saves editor f r q))
      (marked-put ss ks m f (written_file file) (whole_file (text_in (with_host_file editor f (written_file file)) f) (record (known_at editor.term f) { dirty = false; changed = false })) (m.names f here) (λ z. refl)
      (first-named editor m f here))
  marked-event (Work f) q =
      let d = dot_in editor f in
      subst M (sym (work_sets editor f r q)) (marked-host ss ks m f (record (file_at editor.host.files f) { dot = d }) refl refl)
  marked-event OpenCmd q = subst M (sym (command_file_opens editor r q)) (by (is_open editor.term 0))
    where
      file : PlainFile
      file = opened_file (file_at editor.host.files 0)

      known : KnownFile
      known = record blank_known { name = command_name; window = Some blank_window }

      by : (b : Bool) → M (if b then editor else with_known (with_host_file editor 0 file) 0 known)
      by true = m
      by false = marked-put ss ks m 0 file (whole_file (text_in (with_host_file editor 0 file) 0) known) (sym m.command) (λ z. absurd (true≢false z)) (λ e. m.command)
  marked-event New q = subst M (sym (new_makes editor r q)) (by (nat_le all_tags f))
    where
      f : ℕ
      f = length editor.host.files.slots

      after : PlainEditor
      after = record editor { host = with_files editor.host (record (put_file editor.host.files f new_file) { work = Some f }); term = record editor.term { current = Some f } }

      known : KnownFile
      known = record blank_known { window = Some blank_window }

      by : (b : Bool) → M (if b then with_printed editor no_tag_left else with_known after f known)
      by true = marked-printed editor no_tag_left (running-settled editor New r q).command m
      by false = marked-put ss ks m f new_file (whole_file (text_in after f) known) refl (λ z. refl) (λ e. absurd (true≢false (sym e ∙ (hidden-here editor r).next_tag)))
  marked-event Exit q = subst M (sym (exit_ends editor r q)) m
  marked-event (Check f) q = subst M (sym ((check_and_flush_keep editor r).0 f)) m
  marked-event GetSnarf q = subst M (sym (get_snarf_fetches editor r q)) m
  marked-event (SetSnarf s) q = subst M (sym (set_snarf_sets editor s r q)) m
  marked-event (Version v) q =
      let hidden = hidden-here editor r in
      subst M (sym (version_agrees editor v r q))
      (announced-marked ss (with_names 1 (drop 1 ss) ks)
      (told-marked (drop 1 ss) 1 ss ks refl (λ g. dropped ss g) (λ g e. hidden.unknown (1 + g) (later g) (sym (ap (λ (s : Option PlainFile). (unwrap_or s blank_file).announced) (dropped ss g)) ∙ e)) m))
  marked-event Flush q = subst M (sym (check_and_flush_keep editor r).1) m

  marked-carried : (e : UserEvent) → M (carried editor e)
  marked-carried e = by (first_of_checks (event_checks editor.term e)) refl
    where
      by : (v : Option Verdict) → first_of_checks (event_checks editor.term e) ≡ v → M (carried editor e)
      by None q = marked-event e q
      by (Some why) q = subst M (sym (refused_does_nothing editor e why q)) m

  -- a file that joins is clean, and unknown to the terminal
  marked-joined : (file : List ℕ × List ℕ) → M (joined editor file)
  marked-joined file =
      let f = length editor.host.files.slots in
      let hidden = hidden-here editor r in
      let x = given_file file in
      let there = file-same ss f x in
      let none = no_slot (slot ks f) hidden.next_unknown in
      marked-at ss ks m (put_slot ss f x) ks f
      (λ g e. record { known = refl; name = ap (λ (y : PlainFile). y.name) (file-there ss f g x e); dirty = ap (λ (y : PlainFile). y.dirty) (file-there ss f g x e) })
      (λ e. absurd (true≢false (sym e ∙ hidden.next_unknown)))
      (λ e. ap (λ (s : Option KnownFile). (unwrap_or s blank_known).dirty || (unwrap_or s blank_known).changed) none ∙ sym (ap (λ (y : PlainFile). y.dirty) there))
      (λ e. absurd (true≢false (sym e ∙ hidden.next_tag)))

-- ## All editors that were reached

reached-did : (editor : PlainEditor) (e : UserEvent) → IsReached editor → IsReached (carried editor e)
reached-did editor e r = record {
  given = r.given;
  doings = r.doings ++ Did e ∷ [];
  limits = r.limits;
  joins = subst AreGiven (sym (files-append r.doings (Did e ∷ []) ∙ append-nil (files_in r.doings))) r.joins;
  is = ap (λ (x : PlainEditor). carried x e) r.is ∙ sym (done-append r.doings (Did e ∷ []) (new_editor r.given));
}

given-append : (xs ys : List (List ℕ × List ℕ)) → AreGiven xs → AreGiven ys → AreGiven (xs ++ ys)
given-append [] ys a b = b
given-append (x ∷ xs) ys a b = (a.0, a.1, given-append xs ys a.2 b)

reached-joined : (editor : PlainEditor) (file : List ℕ × List ℕ) → length file.0 ≤ most_in_name → length file.1 ≤ max_runes → IsReached editor → IsReached (joined editor file)
reached-joined editor file short long r = record {
  given = r.given;
  doings = r.doings ++ Joined file ∷ [];
  limits = r.limits;
  joins = subst AreGiven (sym (files-append r.doings (Joined file ∷ []))) (given-append (files_in r.doings) (file ∷ []) r.joins (short, long, tt));
  is = ap (λ (x : PlainEditor). joined x file) r.is ∙ sym (done-append r.doings (Joined file ∷ []) (new_editor r.given));
}

names-on : (ds : List Doing) (editor : PlainEditor) → AreGiven (files_in ds) → IsReached editor → M editor → M (done_on editor ds)
names-on [] editor few r m = m
names-on (Did e ∷ ds) editor few r m = names-on ds (carried editor e) few (reached-did editor e r) (marked-carried editor r m e)
names-on (Joined file ∷ ds) editor few r m = names-on ds (joined editor file) few.2 (reached-joined editor file few.0 few.1 r) (marked-joined editor r m file)

given-clean : (given : List (List ℕ × List ℕ)) (f : ℕ) → (file_in (given_slots given) f).dirty ≡ false
given-clean [] f = refl
given-clean (x ∷ given) zero = refl
given-clean (x ∷ given) (suc f) = given-clean given f

marked-first : (given : List (List ℕ × List ℕ)) → M (new_editor given)
marked-first given = record { names = λ f e. absurd (true≢false (sym e)); marks = λ f z. clean f z; command = refl }
  where
    clean : (f : ℕ) → (f == 0) ≡ false → false ≡ (file_in (new_editor given).host.files.slots f).dirty
    clean zero z = absurd (true≢false z)
    clean (suc f) z = sym (given-clean given f)

marked-reached : (editor : PlainEditor) → IsReached editor → M editor
marked-reached editor r =
    let first : IsReached (new_editor r.given) = record { given = r.given; doings = []; limits = r.limits; joins = tt; is = refl } in
    subst M (sym r.is) (names-on r.doings (new_editor r.given) r.joins first (marked-first r.given))

-- ## The law

pub names_and_marks_agree : NamesAndMarksAgree
names_and_marks_agree editor r =
    let m = marked-reached editor r in
    record {
      names = m.names;
      marks = λ f z. ap (λ (b : Bool). not b && ((known_at editor.term f).dirty || (known_at editor.term f).changed)) z ∙ m.marks f z;
    }
