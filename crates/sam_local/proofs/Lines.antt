-- Command lines: what is printed, what a line does to its file, and the end of a session.
use Rattle.sam_crossing.proofs.Common.{◌≡◌, ℕ, ◌+◌, ◌-◌, Bool, true, false, not, ◌==◌, ◌&&◌, ◌||◌, if◌then◌else◌, List, [], ◌∷◌, ◌++◌, length, Option, Some, None, is_some, unwrap_or, refl, sym, ap, ◌∙◌, subst, true≢false, arith, not-false, eq-eqb, eqb-true, same_Some, option_map, Range, part, as_lines, last_line, is_empty, slot, PlainFile, PlainFiles, PlainOutcome, file_at, put_file, typed_file, file_after, put_outcome, committed, after_print, is_printed, printed_file, has_room, Tcut, Ttype, Tsend, Hmesg, Hexit, Hunlock, Hcheck, Hdirty, Hmovname, Hsetdot, Hsetpat, PlainHost, Reply, counted, reply_to, reply_line, with_file, with_files, reply_type, reply_cut, reply_send, printed, grown, told_outcome, when, when_given, KnownFile, Window, UserEvent, PlainTerminal, known_at, window_at, is_open, put_known, effect, InOrder, IsSteady, IsOpened, file_in, is_command_line, and_parts, append_assoc}
use Rattle.sam_runes.specs.Texts.{either, ends_line}
use Rattle.sam_text.specs.Meaning.{WorkFile, meaning, work_on, work_file, line_outcome}
use Rattle.sam_text.specs.Outcomes.{Fits}
use Rattle.sam_text.proofs.MeaningLaws.{line_fits}
use Rattle.sam_text.specs.Files.{IsFit, is_changed}
use Rattle.sam_host.specs.Host.{line_to, told_edits}
use Rattle.sam_term.specs.declared.event.UserEvent.TheVariants.{Typed, Send}
use Rattle.sam_crossing.proofs.HostFiles.{at_there}
use Rattle.sam_crossing.proofs.Passing.{passed}
use Rattle.sam_local.specs.Local.{PlainEditor, whole_window, at_rest, all_taken, carried}
use Rattle.sam_local.specs.Editing.{text_in, dot_in, May, replaced, moved_window, edited_window, with_host_file, with_known, with_window, with_edit, with_typing, with_outcome, with_pattern, with_printed, with_line, over, TypingReplaces, SendRuns}
use Rattle.sam_local.proofs.Sights.{bare, sight, sight-rest, rests, turned}
use Rattle.sam_local.proofs.Frames.{known-put_same, known-put_other, taken-append, turn}
use Rattle.sam_local.proofs.Uncounted.{rest}
use Rattle.sam_local.proofs.Doings.{whole-more}
use Rattle.sam_local.proofs.Events.{opens-alike, typed_window}
use Rattle.sam_local.proofs.Editors.{acted, after-one, after-two, opened-same}
use Rattle.sam_local.proofs.Whole.{file-put, file-other, same-but, stilled, kept-file, kept-all, kept-both, back, none-deleted}
use Rattle.sam_local.proofs.Seen.{Seen, seen-alike, seen-effect, seen-first, seen-dot, seen-grown, seen-dirty, seen-edits, in_it, ins_window}
use Rattle.sam_local.proofs.Editing.{cut_host, typed_onto, typed, typed-alone, typed-both, sight-exit, reached}

-- ## The file that a line names

nameless : (line : List ℕ) (f : ℕ) → (line_outcome None line).file ≡ Some f → ⊥
unfolding line_outcome
nameless line f e = grind arith

-- it is the work file
pub names-work : (fs : PlainFiles) (line : List ℕ) (f : ℕ) → ((g : ℕ) → fs.work ≡ Some g → IsFit (file_at fs g)) → (meaning fs line).file ≡ Some f → fs.work ≡ Some f
names-work fs line f fit e = by_work fs.work refl
  where
    at_slot : (g : ℕ) → fs.work ≡ Some g → (y : Option PlainFile) → slot fs.slots g ≡ y → fs.work ≡ Some f
    at_slot g w None q = absurd (nameless line f (grind arith))
    at_slot g w (Some x) q =
        let here : work_file fs ≡ Some (work_on g (file_at fs g)) = grind (arith, at_there) in
        let fits : Fits (work_on g (file_at fs g)) (meaning fs line) =
        subst (λ (k : Option WorkFile). Fits (work_on g (file_at fs g)) (line_outcome k line)) (sym here) (line_fits (work_on g (file_at fs g)) line (fit g w)) in
        w ∙ ap Some (sym (fits.own f e))

    by_work : (w : Option ℕ) → fs.work ≡ w → fs.work ≡ Some f
    by_work None q = absurd (nameless line f (grind arith))
    by_work (Some g) q = at_slot g q (slot fs.slots g) refl

-- ## Editors in which a line can run

-- the session goes on, the work file is open on both sides and is not the command file, and that is open on both sides or on none
pub record IsSettled (editor : PlainEditor) : Type 0 where
  pub running : editor.host.is_done ≡ false
  pub works : (f : ℕ) → editor.host.files.work ≡ Some f → ((f == 0) ≡ false) × ((file_at editor.host.files f).opened ≡ true) × (is_open editor.term f ≡ true) × IsFit (file_at editor.host.files f)
  pub command : is_open editor.term 0 ≡ (file_at editor.host.files 0).opened

some-mapped : (text : List ℕ) (w : Option Window) → is_some (option_map (whole_window text) w) ≡ is_some w
some-mapped text None = refl
some-mapped text (Some w) = refl

open-put : (editor : PlainEditor) (f : ℕ) (known : KnownFile) → is_open (with_known editor f known).term f ≡ is_some known.window
open-put editor f known =
    ap (λ (k : KnownFile). is_some k.window) (known-put_same editor.term f (record known { window = option_map (whole_window (text_in editor f)) known.window }))
    ∙ some-mapped (text_in editor f) known.window

open-other : (editor : PlainEditor) (f g : ℕ) (known : KnownFile) → (g == f) ≡ false → is_open (with_known editor f known).term g ≡ is_open editor.term g
open-other editor f g known e =
    ap (λ (k : KnownFile). is_some k.window)
    (known-put_other editor.term f g (record known { window = option_map (whole_window (text_in editor f)) known.window }) (λ q. true≢false (sym (eq-eqb g f (sym q)) ∙ e)))

settled-put : (editor : PlainEditor) → IsSettled editor → (file : PlainFile) (known : KnownFile) → file.opened ≡ (file_at editor.host.files 0).opened → is_some known.window ≡ is_open editor.term 0
    → IsSettled (with_known (with_host_file editor 0 file) 0 known)
settled-put editor s file known there here = record {
  running = s.running;
  works = λ f e.
      let x = s.works f e in
      let same = file-other editor.host.files 0 f file x.0 in
      (x.0, ap (λ (y : PlainFile). y.opened) same ∙ x.1, open-other (with_host_file editor 0 file) 0 f known x.0 ∙ x.2, subst IsFit (sym same) x.3);
  command = open-put (with_host_file editor 0 file) 0 known ∙ here ∙ s.command ∙ sym there ∙ sym (ap (λ (y : PlainFile). y.opened) (file-put editor.host.files 0 file));
}

settled-host : (editor : PlainEditor) → IsSettled editor → (file : PlainFile) → file.opened ≡ (file_at editor.host.files 0).opened → IsSettled (with_host_file editor 0 file)
settled-host editor s file there = record {
  running = s.running;
  works = λ f e.
      let x = s.works f e in
      let same = file-other editor.host.files 0 f file x.0 in
      (x.0, ap (λ (y : PlainFile). y.opened) same ∙ x.1, x.2, subst IsFit (sym same) x.3);
  command = s.command ∙ sym there ∙ sym (ap (λ (y : PlainFile). y.opened) (file-put editor.host.files 0 file));
}

pub settled-typing : (editor : PlainEditor) (s : List ℕ) → IsSettled editor → is_open editor.term 0 ≡ true → IsSettled (with_typing editor 0 s)
settled-typing editor s e opened = by ((dot_in editor 0).0 == (dot_in editor 0).1 && is_empty s)
  where
    file : PlainFile
    file = file_at editor.host.files 0

    w : Window
    w = window_at editor.term 0

    end : ℕ
    end = w.dot.0 + length s

    shown : Window
    shown = record (moved_window w.dot s w) { dot = (end, end) }

    by : (b : Bool) → IsSettled (if b then editor else with_edit editor 0 w.dot s shown)
    by true = e
    by false =
        settled-put editor e (record file { text = replaced file.text w.dot s; dot = (end, end); dirty = is_changed 0 file })
        (record (known_at editor.term 0) { changed = true; window = Some shown }) refl (sym opened)

pub settled-printed : (editor : PlainEditor) (s : List ℕ) → IsSettled editor → IsSettled (with_printed editor s)
settled-printed editor s e = by (is_printed editor.host.files s) (file_at editor.host.files 0).opened refl
  where
    file : PlainFile
    file = file_at editor.host.files 0

    end : ℕ
    end = length file.text

    after : PlainEditor
    after = with_host_file editor 0 (printed_file file s)

    shown : Window
    shown = record (moved_window (end, end) s (window_at editor.term 0)) { dot = (end + length s, end + length s) }

    by : (b o : Bool) → (file_at editor.host.files 0).opened ≡ o → IsSettled (if not b then editor else if not o then after else with_window after 0 shown)
    by false o q = e
    by true false q = settled-host editor e (printed_file file s) refl
    by true true q = settled-put editor e (printed_file file s) (in_it (known_at editor.term 0) shown) refl (sym (e.command ∙ q))

-- ## What is printed

prints : (k : PlainHost) (x : PlainTerminal) (s : List ℕ) → is_open (at_rest k x).term 0 ≡ (file_at k.files 0).opened
    → at_rest (with_files k (after_print k.files s)) (all_taken x (printed k.files s)) ≡ with_printed (at_rest k x) s
unfolding printed when
prints k x s command = by (is_printed k.files s) (file_at k.files 0).opened refl
  where
    file : PlainFile
    file = file_at k.files 0

    term : PlainTerminal
    term = (at_rest k x).term

    end : ℕ
    end = length file.text

    stop : ℕ
    stop = end + length s

    known : KnownFile
    known = known_at term 0

    w : Window
    w = window_at term 0

    frames : List Hmesg
    frames = grown k.files 0 end s ++ Hsetdot 0 stop stop ∷ Hcheck 0 ∷ []

    after : PlainEditor
    after = with_host_file (at_rest k x) 0 (printed_file file s)

    shown : Window
    shown = record (moved_window (end, end) s w) { dot = (stop, stop) }

    closed : file.opened ≡ false → (f : ℕ) → is_open x f ≡ true → file_at (put_file k.files 0 (printed_file file s)) (0 + f) ≡ file_at k.files (0 + f)
    closed e f opened =
        let same : 0 + f ≡ f = omega arith in
        file-other k.files 0 (0 + f) (printed_file file s) (not_first f opened (f == 0) refl ∙ refl)
      where
        not_first : (f : ℕ) → is_open x f ≡ true → (b : Bool) → (f == 0) ≡ b → (0 + f == 0) ≡ false
        not_first f opened true q = absurd (true≢false (sym opened ∙ ap (is_open x) (eqb-true f 0 q) ∙ sym (opens-alike term x 0 (sight-rest k x)) ∙ command ∙ e))
        not_first f opened false q = grind (arith, q)

    seen : file.opened ≡ true → sight (all_taken x frames) ≡ sight (put_known term 0 (in_it known shown))
    seen e =
        let first : Seen term 0 x (in_it known w) = sym (sight-rest k x) ∙ seen-first term 0 (command ∙ e) in
        let grew = all_taken x (grown k.files 0 end s) in
        let same : end == end ≡ true = eq-eqb end end refl in
        ap sight (taken-append (grown k.files 0 end s) (Hsetdot 0 stop stop ∷ Hcheck 0 ∷ []) x)
        ∙ seen-alike term 0 (effect grew (Hsetdot 0 stop stop)) (in_it known (record (ins_window end s w) { dot = (stop, stop) })) (in_it known shown)
        (seen-dot term 0 grew known (ins_window end s w) stop stop (seen-grown term 0 k.files x known w end s e first))
        (λ i. bare (in_it known (record (ins_window end s (record w { view_start = sym (none-deleted end end w.view_start same) i })) { dot = (stop, stop) })))

    by : (b o : Bool) → file.opened ≡ o → at_rest (with_files k (if b then put_file k.files 0 (printed_file file s) else k.files)) (all_taken x (if b && o then frames else []))
        ≡ (if not b then at_rest k x else if not o then after else with_window after 0 shown)
    by false o e = refl
    by true false e = λ i. record after { term = record term { files = whole-more k.files (put_file k.files 0 (printed_file file s)) 0 x.files (closed e) i } }
    by true true e = kept-both k x (all_taken x frames) 0 (printed_file file s) (in_it known shown) (seen e)

-- ## The outcome

-- the terminal with this pattern, if there is one
abbrev patterned : Option (List ℕ) → PlainTerminal → PlainTerminal
patterned None z = z
patterned (Some lit) z = record z { pattern = lit }

patterned-files : (pattern : Option (List ℕ)) (z : PlainTerminal) → (patterned pattern z).files ≡ z.files
patterned-files None z = refl
patterned-files (Some lit) z = refl

seen-pattern : (z : PlainTerminal) (f : ℕ) (x : PlainTerminal) (known : KnownFile) (pattern : Option (List ℕ)) → Seen z f x known
    → Seen (patterned pattern z) f (all_taken x (when_given pattern Hsetpat)) known
unfolding when_given
seen-pattern z f x known None e = e
seen-pattern z f x known (Some lit) e = ap (λ (u : PlainTerminal). record u { pattern = lit }) e

seen-name : (z : PlainTerminal) (f : ℕ) (x : PlainTerminal) (known : KnownFile) (name : Option (List ℕ)) → Seen z f x known
    → Seen z f (all_taken x (when_given name (Hmovname f))) (record known { name = unwrap_or name known.name })
unfolding when_given
seen-name z f x known None e = e
seen-name z f x known (Some name) e = seen-effect z f x known (Hmovname f name) (λ known. record known { name = name }) e refl

seen-set : (z : PlainTerminal) (f : ℕ) (x : PlainTerminal) (known : KnownFile) (w : Window) (dot : Option Range) → Seen z f x (in_it known w)
    → Seen z f (all_taken x (when_given dot (λ d. Hsetdot f d.0 d.1))) (in_it known (record w { dot = unwrap_or dot w.dot }))
unfolding when_given
seen-set z f x known w None e = e
seen-set z f x known w (Some d) e = seen-dot z f x known w d.0 d.1 e

checks-nothing : (x : PlainTerminal) (f : ℕ) (b : Bool) → all_taken x (when b (Hcheck f ∷ [])) ≡ x
unfolding when
checks-nothing x f true = refl
checks-nothing x f false = refl

-- an outcome that names no file
pattern-comes : (k : PlainHost) (x : PlainTerminal) (pattern : Option (List ℕ))
    → at_rest (with_files k (record k.files { pattern = either pattern k.files.pattern })) (all_taken x (when_given pattern Hsetpat)) ≡ with_pattern (at_rest k x) pattern
unfolding when_given
pattern-comes k x None = refl
pattern-comes k x (Some lit) =
    kept-all k x (with_files k (record k.files { pattern = Some lit })) (record x { pattern = lit }) (record (at_rest k x).term { pattern = lit }) refl (λ g. refl)
    (ap (λ (u : PlainTerminal). record u { pattern = lit }) (sym (sight-rest k x)))

outcome-comes : (k : PlainHost) (x : PlainTerminal) (o : PlainOutcome) → ((f : ℕ) → o.file ≡ Some f → ((file_at k.files f).opened ≡ true) × (is_open (at_rest k x).term f ≡ true))
    → at_rest (with_files k (committed k.files o)) (all_taken x (told_outcome o.file k.files o)) ≡ with_pattern (with_outcome o.file (at_rest k x) o) o.pattern
unfolding told_outcome
outcome-comes k x o opens = by o.file opens
  where
    editor : PlainEditor
    editor = at_rest k x

    term : PlainTerminal
    term = (at_rest k x).term

    some : (f : ℕ) → (file_at k.files f).opened ≡ true → is_open term f ≡ true
        → at_rest (with_files k (committed k.files (record o { file = Some f }))) (all_taken x (told_outcome (Some f) k.files o)) ≡ with_pattern (with_outcome (Some f) editor o) o.pattern
    some f there here = kept-file k x (with_files k (record (put_file k.files f file) { pattern = either o.pattern k.files.pattern })) y (patterned o.pattern term) (patterned-files o.pattern term) f known_after
        (same-but k.files f file) seen ∙ last o.pattern
      where
        file : PlainFile
        file = file_after (file_at k.files f) o

        known : KnownFile
        known = known_at term f

        moved : Window
        moved = edited_window o.edits (window_at term f)

        is_dirty : Bool
        is_dirty = not (is_empty o.edits) && not (file_at k.files f).dirty

        marked : KnownFile
        marked = record known { dirty = known.dirty || is_dirty }

        named : KnownFile
        named = record marked { name = unwrap_or o.name known.name }

        known_after : KnownFile
        known_after = in_it named (record moved { dot = unwrap_or o.dot moved.dot })

        edits : List Hmesg
        edits = told_edits k.files f o.edits

        dirty : List Hmesg
        dirty = when is_dirty (Hdirty f ∷ [])

        names : List Hmesg
        names = when_given o.name (Hmovname f)

        patterns : List Hmesg
        patterns = when_given o.pattern Hsetpat

        dots : List Hmesg
        dots = when_given o.dot (λ d. Hsetdot f d.0 d.1)

        check : List Hmesg
        check = when (not (is_empty o.edits)) (Hcheck f ∷ [])

        y : PlainTerminal
        y = all_taken x (edits ++ dirty ++ names ++ patterns ++ dots ++ check)

        y1 : PlainTerminal
        y1 = all_taken x edits

        y2 : PlainTerminal
        y2 = all_taken y1 dirty

        y3 : PlainTerminal
        y3 = all_taken y2 names

        y4 : PlainTerminal
        y4 = all_taken y3 patterns

        y5 : PlainTerminal
        y5 = all_taken y4 dots

        apart : y ≡ y5
        apart =
            taken-append (edits ++ dirty ++ names ++ patterns ++ dots) check x ∙ checks-nothing (all_taken x (edits ++ dirty ++ names ++ patterns ++ dots)) f (not (is_empty o.edits))
            ∙ taken-append (edits ++ dirty ++ names ++ patterns) dots x ∙ ap (λ (u : PlainTerminal). all_taken u dots)
            (taken-append (edits ++ dirty ++ names) patterns x ∙ ap (λ (u : PlainTerminal). all_taken u patterns)
            (taken-append (edits ++ dirty) names x ∙ ap (λ (u : PlainTerminal). all_taken u names) (taken-append edits dirty x)))

        seen : Seen (patterned o.pattern term) f y known_after
        seen =
            let first : Seen term f x (in_it known (window_at term f)) = sym (sight-rest k x) ∙ seen-first term f here in
            let one = seen-edits term f k.files known (window_at term f) there o.edits x first in
            let two = seen-dirty term f y1 (in_it known moved) is_dirty one in
            let three = seen-name term f y2 (in_it marked moved) o.name two in
            let four = seen-pattern term f y3 (in_it named moved) o.pattern three in
            ap sight apart ∙ seen-set (patterned o.pattern term) f y4 named moved o.dot four

        last : (pattern : Option (List ℕ))
            → with_known (record { host = rest (with_files k (record (put_file k.files f file) { pattern = either pattern k.files.pattern })); term = stilled (patterned pattern term) }) f known_after
            ≡ with_pattern (with_known (with_host_file editor f file) f known_after) pattern
        last None = refl
        last (Some lit) = refl

    by : (w : Option ℕ) → ((f : ℕ) → w ≡ Some f → ((file_at k.files f).opened ≡ true) × (is_open term f ≡ true))
        → at_rest (with_files k (record (put_outcome w k.files o) { pattern = either o.pattern k.files.pattern })) (all_taken x (told_outcome w k.files o)) ≡ with_pattern (with_outcome w editor o) o.pattern
    by None opens = pattern-comes k x o.pattern
    by (Some f) opens = let both = opens f refl in some f both.0 both.1

-- ## A line

-- whether the command file is open, after an outcome
pub command-after : (w : Option ℕ) (editor : PlainEditor) (o : PlainOutcome) (pattern : Option (List ℕ)) → ((f : ℕ) → w ≡ Some f → (f == 0) ≡ false)
    → is_open editor.term 0 ≡ (file_at editor.host.files 0).opened
    → is_open (with_pattern (with_outcome w editor o) pattern).term 0 ≡ (file_at (with_pattern (with_outcome w editor o) pattern).host.files 0).opened
command-after None editor o None other e = e
command-after None editor o (Some lit) other e = e
command-after (Some f) editor o pattern other e = by pattern
  where
    after : PlainEditor
    after = with_outcome (Some f) editor o

    apart : (0 == f) ≡ false
    apart = grind (arith, (other f refl))

    moved : Window
    moved = edited_window o.edits (window_at editor.term f)

    known : KnownFile
    known =
        let known = known_at editor.term f in
        record known {
          name = unwrap_or o.name known.name;
          dirty = known.dirty || (not (is_empty o.edits) && not (file_at editor.host.files f).dirty);
          window = Some (record moved { dot = unwrap_or o.dot moved.dot });
        }

    both : is_open after.term 0 ≡ (file_at after.host.files 0).opened
    both =
        open-other (with_host_file editor f (file_after (file_at editor.host.files f) o)) f 0 known apart ∙ e
        ∙ sym (ap (λ (x : PlainFile). x.opened) (file-other editor.host.files f 0 (file_after (file_at editor.host.files f) o) apart))

    by : (pattern : Option (List ℕ)) → is_open (with_pattern after pattern).term 0 ≡ (file_at (with_pattern after pattern).host.files 0).opened
    by None = both
    by (Some lit) = both

line-comes : (k : PlainHost) (x : PlainTerminal) (line : List ℕ) → IsSettled (at_rest k x)
    → at_rest (reply_line k [] line).0 (all_taken x (reply_line k [] line).1) ≡ with_line (at_rest k x) line
line-comes k x line settled =
    ap (at_rest (reply_line k [] line).0)
    (taken-append (told ++ says) ((if o.quit then Hexit else Hunlock) ∷ []) x
    ∙ ap (λ (u : PlainTerminal). all_taken u ((if o.quit then Hexit else Hunlock) ∷ [])) (taken-append told says x))
    ∙ by o.quit ∙ ap (λ (e : PlainEditor). if o.quit then over e else e) (prints k1 x1 o.printed command ∙ ap (λ (e : PlainEditor). with_printed e o.printed) outcome)
  where
    o : PlainOutcome
    o = meaning k.files line

    told : List Hmesg
    told = told_outcome o.file k.files o

    says : List Hmesg
    says = printed (committed k.files o) o.printed

    k1 : PlainHost
    k1 = with_files k (committed k.files o)

    x1 : PlainTerminal
    x1 = all_taken x told

    k2 : PlainHost
    k2 = with_files k1 (after_print k1.files o.printed)

    x2 : PlainTerminal
    x2 = all_taken x1 says

    work : (f : ℕ) → o.file ≡ Some f → ((f == 0) ≡ false) × ((file_at k.files f).opened ≡ true) × (is_open (at_rest k x).term f ≡ true) × IsFit (file_at k.files f)
    work f e = settled.works f (names-work k.files line f (λ g w. (settled.works g w).3) e)

    outcome : at_rest k1 x1 ≡ with_pattern (with_outcome o.file (at_rest k x) o) o.pattern
    outcome = outcome-comes k x o (λ f e. ((work f e).1, (work f e).2))

    command : is_open (at_rest k1 x1).term 0 ≡ (file_at k1.files 0).opened
    command =
        subst (λ (e : PlainEditor). is_open e.term 0 ≡ (file_at e.host.files 0).opened) (sym outcome)
        (command-after o.file (at_rest k x) o o.pattern (λ f e. (work f e).0) settled.command)

    by : (b : Bool) → at_rest (record k2 { is_done = b }) (all_taken x2 ((if b then Hexit else Hunlock) ∷ [])) ≡ (if b then over (at_rest k2 x2) else at_rest k2 x2)
    by true = rests (record k2 { is_done = true }) (effect x2 Hexit) (record x2 { has_exited = true }) (sight-exit x2)
    by false = ap (λ (b : Bool). at_rest (record k2 { is_done = b }) x2) (sym settled.running)

-- with frames before those of the line
line-before : (k : PlainHost) (x : PlainTerminal) (before : List Hmesg) (line : List ℕ) → IsSettled (at_rest k (all_taken x before))
    → at_rest (reply_line k before line).0 (all_taken x (reply_line k before line).1) ≡ with_line (at_rest k (all_taken x before)) line
line-before k x before line settled =
    ap (λ (fs : List Hmesg). at_rest (reply_line k [] line).0 (all_taken x fs)) grouped
    ∙ ap (at_rest (reply_line k [] line).0) (taken-append before (reply_line k [] line).1 x) ∙ line-comes k (all_taken x before) line settled
  where
    o : PlainOutcome
    o = meaning k.files line

    told : List Hmesg
    told = told_outcome o.file k.files o

    says : List Hmesg
    says = printed (committed k.files o) o.printed

    last : List Hmesg
    last = (if o.quit then Hexit else Hunlock) ∷ []

    grouped : before ++ told ++ says ++ last ≡ before ++ (told ++ says ++ last)
    grouped = grind (arith, append_assoc)

-- ## At an editor that was reached

type-line : (h : PlainHost) (p : ℕ) (s : List ℕ) → is_command_line 0 s ≡ true
    → reply_to h (Ttype 0 p s)
    ≡ reply_line (with_file h 0 (typed_file 0 (file_at h.files 0) p s)) [] (line_to (file_at (put_file h.files 0 (typed_file 0 (file_at h.files 0) p s)) 0).text (p + length s - 1))
unfolding reply_type
type-line h p s e = rw e refl

send-line : (h : PlainHost) (f p q : ℕ) → (p == q) ≡ false → let s = as_lines (part (file_at h.files f).text p q) in has_room h.files s ≡ true
    → reply_to h (Tsend f p q) ≡ reply_line (with_files h (after_print h.files s)) (printed h.files s) (last_line s)
unfolding reply_send
send-line h f p q n e = rw (n, e) refl

send-none : (h : PlainHost) (f p q : ℕ) → (p == q) ≡ false → has_room h.files (as_lines (part (file_at h.files f).text p q)) ≡ false → reply_to h (Tsend f p q) ≡ (h, Hunlock ∷ [])
unfolding reply_send
send-none h f p q n e = rw (n, e) refl

opened-there : (fs : PlainFiles) (f : ℕ) → IsOpened (file_in fs.slots f) → (file_at fs f).opened ≡ true
opened-there fs f e = grind arith

module _ (h : PlainHost) (t : PlainTerminal) (o : InOrder (rest h) (at_rest h t).term [] []) where
  abbrev editor : PlainEditor
  editor = at_rest h t

  abbrev term : PlainTerminal
  term = (at_rest h t).term

  abbrev w : Window
  w = window_at (at_rest h t).term 0

  again : at_rest (rest h) term ≡ editor
  again = back h t term refl

  pub steady : IsSteady (rest h)
  steady = subst (λ (r : Reply). IsSteady r.0) (sym (same_Some _ _ o.kept.folds)) o.kept.steady

  pub settled : h.is_done ≡ false → IsSettled editor
  settled running = record {
    running = running;
    works = λ f e.
        let sound = steady.sound.works f e in
        let there = opened-there h.files f sound.0 in
        (sound.1, there, opened-same h t o f ∙ there, steady.fit f);
    command = opened-same h t o 0;
  }

  pub prints-here : (s : List ℕ) → at_rest (with_files (rest h) (after_print h.files s)) (all_taken term (printed h.files s)) ≡ with_printed editor s
  prints-here s =
      prints (rest h) term s (subst (λ (e : PlainEditor). is_open e.term 0 ≡ (file_at e.host.files 0).opened) (sym again) (opened-same h t o 0)) ∙ ap (λ (e : PlainEditor). with_printed e s) again

  -- a line that was typed
  typed-line : (k : PlainHost) (x : PlainTerminal) (s : List ℕ) → h.is_done ≡ false → is_open term 0 ≡ true → at_rest k x ≡ with_typing editor 0 s
      → let r = reply_line k [] (line_to (file_at k.files 0).text (w.dot.0 + length s - 1)) in
      at_rest r.0 (all_taken x r.1) ≡ with_line (with_typing editor 0 s) (line_to (text_in (with_typing editor 0 s) 0) (w.dot.0 + length s - 1))
  typed-line k x s running opened e =
      line-comes k x (line_to (file_at k.files 0).text (w.dot.0 + length s - 1)) (subst IsSettled (sym e) (settled-typing editor s (settled running) opened))
      ∙ ap (λ (e : PlainEditor). with_line e (line_to (text_in e 0) (w.dot.0 + length s - 1))) e

  line-typed : (s : List ℕ) → is_command_line 0 s ≡ true → May editor (Typed 0 s)
      → carried editor (Typed 0 s) ≡ with_line (with_typing editor 0 s) (line_to (text_in (with_typing editor 0 s) 0) (w.dot.0 + length s - 1))
  unfolding reply_cut
  line-typed [] e may = absurd (true≢false (sym e))
  line-typed (c ∷ s) e may = by (w.dot.0 == w.dot.1) refl
    where
      p : ℕ
      p = w.dot.0

      said : UserEvent
      said = Typed 0 (c ∷ s)

      y : PlainTerminal
      y = turned term 0 (turn (λ w. true) (typed_window (c ∷ s)))

      running : h.is_done ≡ false
      running = (acted h t o said may).running

      opened : is_open term 0 ≡ true
      opened = not-false (is_open term 0) (passed term said may).opened

      by : (b : Bool) → (w.dot.0 == w.dot.1) ≡ b
          → carried editor said ≡ with_line (with_typing editor 0 (c ∷ s)) (line_to (text_in (with_typing editor 0 (c ∷ s)) 0) (p + length (c ∷ s) - 1))
      by true x =
          after-one h t o said (Ttype 0 p (c ∷ s)) may (rw x refl) ∙ ap (λ (r : Reply). at_rest r.0 (all_taken y r.1)) (type-line (rest h) p (c ∷ s) e)
          ∙ typed-line (with_file (rest h) 0 (typed_file 0 (file_at h.files 0) p (c ∷ s))) y (c ∷ s) running opened (typed-alone h t o 0 c s x)
      by false x =
          after-two h t o said (Tcut 0 p w.dot.1) (Ttype 0 p (c ∷ s)) (cut_host h t o 0) may (rw x refl) refl running
          ∙ ap (λ (r : Reply). at_rest r.0 (all_taken y ([] ++ r.1))) (type-line (counted (cut_host h t o 0)) p (c ∷ s) e)
          ∙ typed-line (typed_onto h t o 0 (counted (cut_host h t o 0)) (c ∷ s)) y (c ∷ s) running opened (typed-both h t o 0 c s opened)

  types : (f : ℕ) (s : List ℕ) → May editor (Typed f s) → let typed = with_typing editor f s in
      carried editor (Typed f s) ≡ (if is_command_line f s then with_line typed (line_to (text_in typed f) ((dot_in editor f).0 + length s - 1)) else typed)
  types f s may = by (is_command_line f s) refl
    where
      by : (b : Bool) → is_command_line f s ≡ b → let typed = with_typing editor f s in
          carried editor (Typed f s) ≡ (if b then with_line typed (line_to (text_in typed f) ((dot_in editor f).0 + length s - 1)) else typed)
      by false e = typed h t o f s e may
      by true e = command (sym (eqb-true f 0 (and_parts (f == 0) (ends_line s) e).0)) e may
        where
          command : 0 ≡ f → is_command_line f s ≡ true → May editor (Typed f s)
              → carried editor (Typed f s) ≡ with_line (with_typing editor f s) (line_to (text_in (with_typing editor f s) f) ((dot_in editor f).0 + length s - 1))
          command q =
              subst
              (λ (g : ℕ). is_command_line g s ≡ true → May editor (Typed g s)
              → carried editor (Typed g s) ≡ with_line (with_typing editor g s) (line_to (text_in (with_typing editor g s) g) ((dot_in editor g).0 + length s - 1)))
              q (line-typed s)

  sends : (f : ℕ) → May editor (Send f) → let d = dot_in editor f in
      let s = as_lines (part (text_in editor f) d.0 d.1) in
      (d.0 == d.1) ≡ false → carried editor (Send f) ≡ (if has_room h.files s then with_line (with_printed editor s) (last_line s) else editor)
  sends f may n = after-one h t o (Send f) (Tsend f d.0 d.1) may refl ∙ by (has_room h.files s) refl
    where
      d : Range
      d = dot_in editor f

      s : List ℕ
      s = as_lines (part (text_in editor f) d.0 d.1)

      by : (b : Bool) → has_room h.files s ≡ b
          → at_rest (reply_to (rest h) (Tsend f d.0 d.1)).0 (all_taken term (reply_to (rest h) (Tsend f d.0 d.1)).1) ≡ (if b then with_line (with_printed editor s) (last_line s) else editor)
      by true e =
          ap (λ (r : Reply). at_rest r.0 (all_taken term r.1)) (send-line (rest h) f d.0 d.1 n e)
          ∙ line-before (with_files (rest h) (after_print h.files s)) term (printed h.files s) (last_line s)
          (subst IsSettled (sym (prints-here s)) (settled-printed editor s (settled (acted h t o (Send f) may).running)))
          ∙ ap (λ (e : PlainEditor). with_line e (last_line s)) (prints-here s)
      by false e = ap (λ (r : Reply). at_rest r.0 (all_taken term r.1)) (send-none (rest h) f d.0 d.1 n e) ∙ back h t (effect term Hunlock) refl

-- ## The laws

pub typing_replaces : TypingReplaces
typing_replaces editor f s r =
    reached
    (λ x. May x (Typed f s) → let typed = with_typing x f s in
    carried x (Typed f s) ≡ (if is_command_line f s then with_line typed (line_to (text_in typed f) ((dot_in x f).0 + length s - 1)) else typed))
    (λ h t o. types h t o f s) editor r

pub send_runs : SendRuns
send_runs editor f r =
    reached
    (λ x. May x (Send f) → let d = dot_in x f in let s = as_lines (part (text_in x f) d.0 d.1) in
    ((d.0 == d.1) ≡ false) → carried x (Send f) ≡ (if has_room x.host.files s then with_line (with_printed x s) (last_line s) else x))
    (λ h t o. sends h t o f) editor r
