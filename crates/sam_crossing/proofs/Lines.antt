-- The two messages that run a command line, and what a line does: from synced to synced.
use Rattle.sam_crossing.proofs.Common.{rules, ◌≡◌, ℕ, ◌+◌, ◌-◌, Bool, true, false, not, ◌||◌, ◌==◌, if◌then◌else◌, List, [], ◌∷◌, ◌++◌, length, reverse, Option, Some, None, unwrap_or, refl, sym, ap, ◌∙◌, subst, eqb-true, arith, flat_map, Range, ins, part, line_start, as_lines, last_line, slot, last_first_is_at_once, edits_fit, agrees_typed, PlainFile, PlainFiles, PlainOutcome, file_at, typed_file, after_print, has_room, file_after, put_outcome, committed, AreFit, Ttype, Tsend, Hmesg, Hsetdot, Hexit, Hunlock, is_command_line, CommandLock, NoLock, PlainHost, Reply, with_file, with_files, when_given, printed, told_edit, told_outcome, no_range, reply_line, reply_type, reply_send, Slot, Lens, lens, Action, Free_command, HFile, IsCommandFile, Opened, Fits_slot, ComesToSync, at_file, file_in, HasFiles}
use Rattle.sam_text.specs.Meaning.{WorkFile, meaning, work_on, work_file, line_outcome}
use Rattle.sam_text.specs.Outcomes.{Fits}
use Rattle.sam_text.proofs.MeaningLaws.{line_fits}
use Rattle.sam_text.proofs.FitLaws.{fit-put, fit-typed, fit-print}
use Rattle.sam_crossing.proofs.Changes.{changed, type_change, typed_in, commanded}
use Rattle.sam_crossing.proofs.Accepting.{Synced, Accepted, Ready}
use Rattle.sam_crossing.proofs.HostFiles.{is_there, put, put_opened, Opens, work_opens, Lasts, lasts_same, lasts_then, lasts_opened, still_has, at_there}
use Rattle.sam_crossing.proofs.Tests.{open_tests, range_test}
use Rattle.sam_crossing.proofs.Guards.{at_file-append}
use Rattle.sam_crossing.proofs.Telling.{Told, told-append, told_if, told_given, told_edits, told_dot, told_check, told_dirty, told_name, told_pattern}
use Rattle.sam_crossing.proofs.Edits.{type_passes, sync_short}
use Rattle.sam_crossing.proofs.Commands.{Moves, Unlocked, stays_put, Carries, carries_nothing, carries-append, carries_told, unlocks, exits_kept, unlocked_only, unlocked_if, sync_by, printed_carries, printed_work}

-- ## What a line does to the work file

nameless : (line : List ℕ) (f : ℕ) → (line_outcome None line).file ≡ Some f → ⊥
unfolding line_outcome
nameless line f e = grind arith

-- the file that a line names is the work file, and its edits, its new text and dot fit that file
record LineOn (fs : PlainFiles) (line : List ℕ) (f : ℕ) : Type 0 where
  is_work : fs.work ≡ Some f
  fits : Fits (work_on f (file_at fs f)) (meaning fs line)

line_on : (fs : PlainFiles) (line : List ℕ) (f : ℕ) → AreFit fs → (meaning fs line).file ≡ Some f → LineOn fs line f
line_on fs line f fit e = by_work fs.work refl
  where
    at_slot : (g : ℕ) → fs.work ≡ Some g → (y : Option PlainFile) → slot fs.slots g ≡ y → LineOn fs line f
    at_slot g w None q = absurd (nameless line f (grind arith))
    at_slot g w (Some x) q =
        let here : work_file fs ≡ Some (work_on g (file_at fs g)) = grind (arith, at_there) in
        let fits : Fits (work_on g (file_at fs g)) (meaning fs line) =
        subst (λ (k : Option WorkFile). Fits (work_on g (file_at fs g)) (line_outcome k line)) (sym here) (line_fits (work_on g (file_at fs g)) line (fit g)) in
        let same : g ≡ f = sym (fits.own f e) in
        record { is_work = w ∙ ap Some same; fits = subst (λ (k : ℕ). Fits (work_on k (file_at fs k)) (meaning fs line)) same fits }

    by_work : (w : Option ℕ) → fs.work ≡ w → LineOn fs line f
    by_work None q = absurd (nameless line f (grind arith))
    by_work (Some g) q = at_slot g q (slot fs.slots g) refl

-- how it is told at the work file
outcome_told : (fs : PlainFiles) (o : PlainOutcome) (f : ℕ) → Opens fs f → Fits (work_on f (file_at fs f)) o
    → Told f (told_outcome (Some f) fs o) (file_at fs f).text (unwrap_or o.text (file_at fs f).text)
unfolding told_outcome
outcome_told fs o f opens fit =
    let t : List ℕ = (file_at fs f).text in
    let t2 : List ℕ = unwrap_or o.text t in
    let edits : Told f (flat_map (told_edit fs f) (reverse o.edits)) t t2 =
    grind (arith, (last_first_is_at_once o.edits t fit.ascend), (told_edits fs f (reverse o.edits) t opens.opened (edits_fit o.edits t fit.ascend fit.within))) in
    let on : (a b : List Hmesg) → Told f a t t2 → Told f b t2 t2 → Told f (a ++ b) t t2 = λ a b x y. told-append f a b t t2 t2 x y in
    let dot : (d : Range) → o.dot ≡ Some d → Told f (Hsetdot f d.0 d.1 ∷ []) t2 t2 = λ d e. grind (arith, told_dot) in
    search (rules, on, told_if, told_given, told_dirty, told_name, told_pattern, dot, told_check)

none_told : (d : Bool) (n : ℕ) (fs : PlainFiles) (o : PlainOutcome) → Carries d n (file_in fs.slots) (told_outcome None fs o) (file_in fs.slots)
unfolding told_outcome when_given
none_told d n fs o = grind (arith, stays_put, lasts_same)

-- the outcome of a line, told and put in
outcome_carries : (d : Bool) (n : ℕ) (fs : PlainFiles) (line : List ℕ) → HasFiles fs → AreFit fs
    → Carries d n (file_in fs.slots) (told_outcome (meaning fs line).file fs (meaning fs line)) (file_in (committed fs (meaning fs line)).slots)
outcome_carries d n fs line sound fit = go (meaning fs line).file refl
  where
    go : (w : Option ℕ) → (meaning fs line).file ≡ w → Carries d n (file_in fs.slots) (told_outcome w fs (meaning fs line)) (file_in (put_outcome w fs (meaning fs line)).slots)
    go None e = none_told d n fs (meaning fs line)
    go (Some f) e =
        let l = line_on fs line f fit e in
        let opens = work_opens fs f (sound.works f l.is_work).0 in
        carries_told d n (file_in fs.slots) _ f _ (file_at fs f).text _ opens.shown (put_opened fs f opens.given (file_after (file_at fs f) (meaning fs line)) opens.opened)
        (outcome_told fs (meaning fs line) f opens l.fits)

-- ## The ending of a line: its outcome, what it prints, and Hunlock or Hexit

-- tag 0 takes what is printed
prints : (d : Bool) (n : ℕ) (fs : PlainFiles) (s : List ℕ) → IsCommandFile (file_in fs.slots 0) → Carries d n (file_in fs.slots) (printed fs s) (file_in (after_print fs s).slots)
prints d n fs s c = let there = is_there fs 0 false IsCommandFile (λ c. c) (λ c. c) (λ t c. c) c in printed_carries d n fs s there.file there.there

ended : (g : ℕ) (q : Bool) (u : List Action) (d : Bool) (n : ℕ) (s : Slot) (file : HFile) → d ≡ false → Moves u d n s file
    → ComesToSync (u ++ at_file g ((if q then Hexit else Hunlock) ∷ [])) (lens true d n s) q n file
ended g true u d n s file e m = exits_kept u d n s file m
ended g false u d n s file e m = subst (λ (x : Bool). ComesToSync (u ++ Free_command ∷ []) (lens true d n s) x n file) e (unlocks u d n s file m)

-- after frames that lead to the files fs, the line leads on
line_runs : (h : PlainHost) (fs : PlainFiles) (before : List Hmesg) (line : List ℕ) → HasFiles fs → AreFit fs
    → Carries h.is_done h.version (file_in h.files.slots) before (file_in fs.slots) → h.is_done ≡ false
    → Unlocked h (reply_line (with_files h fs) before line)
line_runs h fs before line sound fit first done =
    let o : PlainOutcome = meaning fs line in
    let out : PlainFiles = after_print (committed fs o) o.printed in
    let on = outcome_carries h.is_done h.version fs line sound fit in
    let last = prints h.is_done h.version (committed fs o) o.printed (on.lasts.commands sound.commands) in
    let all = carries-append _ _ _ _ (file_in out.slots) (before ++ told_outcome o.file fs o) _ (carries-append _ _ _ _ _ before (told_outcome o.file fs o) first on) last in
    record {
      each = λ g s x. subst (λ (u : List Action). ComesToSync u (lens true h.is_done h.version s) o.quit h.version (file_in out.slots g))
          (sym (at_file-append g ((before ++ told_outcome o.file fs o) ++ printed (committed fs o) o.printed) _))
          (ended g o.quit _ _ _ s _ done (all.moves g s x));
      gone = all.lasts.gone;
      sound = still_has fs out sound (grind arith) (lasts_then _ _ _ on.lasts last.lasts);
    }

-- ## The messages

abbrev slot_in : Lens → Slot
slot_in (lens c e n s) = s

-- typing that ends a line of tag 0
sync_line : (h : PlainHost) → Ready h → (p : ℕ) (s : List ℕ) → Accepted h (Ttype 0 p s) → is_command_line 0 s ≡ true → Synced h (Ttype 0 p s)
unfolding reply_type
sync_line h r p s o ends =
    let t : List ℕ = (file_at h.files 0).text in
    let file : PlainFile = typed_file 0 (file_at h.files 0) p s in
    let k : PlainHost = with_file h 0 file in
    let a : ℕ → HFile = file_in k.files.slots in
    let text : List ℕ = let u = (file_at k.files 0).text in part u (line_start u (p + length s - 1)) (p + length s - 1) in
    let run : Reply = reply_line k [] text in
    let files : (g : ℕ) → a g ≡ put (file_in h.files.slots) 0 (Opened (ins t p s)) g = put_opened h.files 0 o.0.given file o.0.opened in
    let lasts : Lasts (file_in h.files.slots) a = lasts_opened (file_in h.files.slots) a 0 t (ins t p s) o.0.shown files in
    let has : HasFiles k.files = still_has h.files k.files r.steady.sound refl lasts in
    let fit : AreFit k.files = fit-put h.files 0 file r.steady.fit (fit-typed 0 (file_at h.files 0) p s o.1 o.2) in
    let line = line_runs k k.files [] text has fit (carries_nothing h.is_done h.version a a (λ g. refl)) r.running in
    record {
      passes = type_passes h 0 p s o.0 o.1 o.2;
      each = λ g w x.
          let z : Slot = slot_in (if g == 0 then typed_in p s w else w) in
          let fits : Fits_slot z (a g) = grind (arith, files, agrees_typed) in
          let is : lens true h.is_done h.version z ≡ commanded (if g == 0 then typed_in p s w else w) = grind arith in
          subst (λ (b : Bool). let r : Reply = if b then run else (k, []) in
          ComesToSync (at_file g r.1) (changed (type_change (if b then CommandLock else NoLock) 0 p s) g w) r.0.is_done r.0.version (file_in r.0.files.slots g)) (sym ends)
          (subst (λ (y : Lens). ComesToSync (at_file g run.1) y run.0.is_done run.0.version (file_in run.0.files.slots g)) is (line.each g z fits));
      gone = λ g e. ap (λ (b : Bool). file_in (if b then run else (k, [])).0.files.slots g) ends ∙ line.gone g (lasts.gone g e);
      sound = subst (λ (b : Bool). HasFiles (if b then run else (k, [])).0.files) (sym ends) line.sound;
    }

pub sync_type : (h : PlainHost) → Ready h → (f p : ℕ) (s : List ℕ) → Accepted h (Ttype f p s) → Synced h (Ttype f p s)
sync_type h r f p s a = grind (arith, (eqb-true f 0), (sync_line h r p s), (sync_short h f p s r.steady.sound a.0 a.1 a.2))

-- what is sent is printed as lines, and its last line is run
pub sync_send : (h : PlainHost) → Ready h → (f p q : ℕ) → Accepted h (Tsend f p q) → Synced h (Tsend f p q)
unfolding reply_send
sync_send h r f p q a =
    let s : List ℕ = as_lines (part (file_at h.files f).text p q) in
    let first = prints h.is_done h.version h.files s r.steady.sound.commands in
    let has = still_has h.files (after_print h.files s) r.steady.sound (printed_work h.files s) first.lasts in
    sync_by h (Tsend f p q) refl (open_tests h f a.0 (no_range h f p q ∷ []) (range_test h f p q a.1 a.2))
    (unlocked_if h ((p == q) || not (has_room h.files s)) (h, Hunlock ∷ []) (reply_line (with_files h (after_print h.files s)) (printed h.files s) (last_line s)) (λ e. unlocked_only h r.steady.sound)
    (λ e. line_runs h (after_print h.files s) (printed h.files s) (last_line s) has (fit-print h.files s r.steady.fit) first r.running))

pub ruleset lines = (sync_type, sync_send)
