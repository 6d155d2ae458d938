-- The messages that take the command lock: from synced to synced.
use Rattle.sam_crossing.proofs.Common.{map-append, and_parts, length-append, common_steps, ◌≡◌, ℕ, ◌+◌, ◌≤◌, Bool, true, false, not, ◌&&◌, ◌==◌, if◌then◌else◌, List, [], ◌∷◌, ◌++◌, length, map, Some, None, ◌⊎◌, inl, inr, refl, sym, ap, ◌∙◌, subst, arith, append-nil, eqb-true, nat_le, leb-true, rules, take_all, drop_all, cases_Bool, ins, is_empty, max_runes, slot, first_of_checks, PlainFile, PlainFiles, file_at, put_file, has_room, is_printed, after_print, printed_file, new_file, command_name, Tmesg, Tstartcmdfile, Tstartfile, Tstartnewfile, Tclose, Texit, Hmesg, Hcurrent, Hunlock, Hbindname, Hnewname, Hmovname, Hsetdot, Hcheck, PlainHost, Reply, host_checks, reply_to, with_files, when, grown, told_length, printed, no_tag_left, reply_startcmdfile, reply_startfile, reply_startnewfile, reply_close, reply_exit, Slot, Unknown, Known, Open, lens, Action, Needs_known, Join, Bind, Close, Leave, Free_command, Exit, run, closes, HFile, Absent, Hidden, Named, Opened, Gone, Fits_slot, ComesToSync, at_file, only, file_of, file_in, HasFiles}
use Rattle.sam_crossing.proofs.Lenses.{AreSkips}
use Rattle.sam_crossing.proofs.Changes.{Command, change_by}
use Rattle.sam_crossing.proofs.Accepting.{Synced, Accepted, Ready, first_there}
use Rattle.sam_crossing.proofs.Runs.{run-append_some}
use Rattle.sam_crossing.proofs.HostFiles.{put, put_same, put_again, file_in-put, file_in-free, file_in-push, not_given, in_slots, shown_at, file_opened, file_hidden, file_named, put_opened, Lasts, lasts_same, lasts_put, lasts_opened, still_has, works_on}
use Rattle.sam_crossing.proofs.Guards.{kept_then, guarded_by, no_close_behind, guarded_before}
use Rattle.sam_crossing.proofs.Telling.{told_nothing, Told, Rewrites, tells_there, tells_elsewhere, told-append, told_grown, told_dot, told_check, told_opened}

-- ## Frames while the command lock is held and no other

-- they take the slot to one that fits the file
pub record Moves (u : List Action) (d : Bool) (n : ℕ) (s : Slot) (file : HFile) : Type 0 where
  pub slot : Slot
  pub runs : run u (lens true d n s) ≡ Some (lens true d n slot)
  pub fits : Fits_slot slot file
  pub no_close : closes u ≡ false

pub stays_put : (u : List Action) (d : Bool) (n : ℕ) (s : Slot) (file : HFile) → AreSkips u → Fits_slot s file → Moves u d n s file
stays_put [] d n s file a f = record { slot = s; runs = refl; fits = f; no_close = refl }
stays_put (a ∷ u) d n s file q f = grind (arith, (stays_put u d n s file q.1 f))

pub and_moves : (u w : List Action) (d : Bool) (n : ℕ) (s : Slot) (file file2 : HFile) → Moves u d n s file → ((s2 : Slot) → Fits_slot s2 file → Moves w d n s2 file2) → Moves (u ++ w) d n s file2
and_moves u w d n s file file2 m k = grind (arith, run-append_some, no_close_behind)

pub moves_rewrite : (u : List Action) (t t2 : List ℕ) (d : Bool) (n : ℕ) (s : Slot) → Rewrites u t t2 → Fits_slot s (Opened t) → Moves u d n s (Opened t2)
moves_rewrite u t t2 d n (Open r k) x f = let e = x.runs true d n r k f.1 in record { slot = Open e.rasp k; runs = e.is; fits = (f.0, e.agrees); no_close = x.no_close }
moves_rewrite u t t2 d n s e w = grind arith

-- they take each slot that fits the files a to one that fits the files b, and b has what a has
pub record Carries (d : Bool) (n : ℕ) (a : ℕ → HFile) (frames : List Hmesg) (b : ℕ → HFile) : Type 0 where
  pub moves : (g : ℕ) (s : Slot) → Fits_slot s (a g) → Moves (at_file g frames) d n s (b g)
  pub lasts : Lasts a b

pub carries_nothing : (d : Bool) (n : ℕ) (a b : ℕ → HFile) → ((g : ℕ) → b g ≡ a g) → Carries d n a [] b
carries_nothing d n a b same = grind (arith, stays_put, lasts_same)

pub carries-append : (d : Bool) (n : ℕ) (a b c : ℕ → HFile) (u w : List Hmesg) → Carries d n a u b → Carries d n b w c → Carries d n a (u ++ w) c
carries-append d n a b c u w x y = search (rules, common_steps, and_moves)

-- frames about the file f alone
pub carries_at : (d : Bool) (n : ℕ) (a b : ℕ → HFile) (f : ℕ) (frames : List Hmesg) (acts : List Action) (x : HFile) → ((g : ℕ) → at_file g frames ≡ map (only (g == f)) acts)
    → ((g : ℕ) → b g ≡ put a f x g) → ((s : Slot) → Fits_slot s (a f) → Moves acts d n s x) → Lasts a b → Carries d n a frames b
carries_at d n a b f frames acts x tells is there lasts = record { moves = λ g s y. go g s y (cases_Bool (g == f)); lasts = lasts }
  where
    go : (g : ℕ) (s : Slot) → Fits_slot s (a g) → ((g == f) ≡ true) ⊎ ((g == f) ≡ false) → Moves (at_file g frames) d n s (b g)
    go g s y (inl e) = rw (is g, e, tells_there f g frames acts (tells g) e) (there s (rw (eqb-true g f e) at y))
    go g s y (inr e) = rw (is g, e) (stays_put _ d n s (a g) (tells_elsewhere f g frames acts (tells g) e) y)

-- and that file is open
pub carries_told : (d : Bool) (n : ℕ) (a b : ℕ → HFile) (f : ℕ) (frames : List Hmesg) (t t2 : List ℕ) → a f ≡ Opened t → ((g : ℕ) → b g ≡ put a f (Opened t2) g) → Told f frames t t2
    → Carries d n a frames b
carries_told d n a b f frames t t2 e is told =
    carries_at d n a b f frames told.acts (Opened t2) told.tells is (λ s x. moves_rewrite told.acts t t2 d n s told.rewrites (subst (Fits_slot s) e x)) (lasts_opened a b f t t2 e is)

-- Hunlock ends it
pub unlocks : (u : List Action) (d : Bool) (n : ℕ) (s : Slot) (file : HFile) → Moves u d n s file → ComesToSync (u ++ Free_command ∷ []) (lens true d n s) d n file
unlocks u d n s file m = kept_then u (Free_command ∷ []) _ _ (lens false d n m.slot) d n file m.runs m.no_close refl (refl, refl, refl, m.fits) refl refl refl

-- so does Hexit
pub exits_kept : (u : List Action) (d : Bool) (n : ℕ) (s : Slot) (file : HFile) → Moves u d n s file → ComesToSync (u ++ Exit ∷ []) (lens true d n s) true n file
exits_kept u d n s file m =
    grind (
      arith,
      (run-append_some u (Exit ∷ []) (lens true d n s) (lens true d n m.slot) m.runs),
      (guarded_before u (Exit ∷ []) refl (guarded_by (Exit ∷ []) refl)),
      (no_close_behind u (Exit ∷ []) m.no_close),
    )

-- ## A message that takes the command lock

-- what a reply owes that ends the command lock: where the host is the same but for its files
pub record Unlocked (h : PlainHost) (r : Reply) : Type 0 where
  pub each : (g : ℕ) (s : Slot) → Fits_slot s (file_in h.files.slots g) → ComesToSync (at_file g r.1) (lens true h.is_done h.version s) r.0.is_done r.0.version (file_in r.0.files.slots g)
  pub gone : (g : ℕ) → file_in h.files.slots g ≡ Gone → file_in r.0.files.slots g ≡ Gone
  pub sound : HasFiles r.0.files

pub unlocked : (h : PlainHost) (fs : PlainFiles) (front : List Hmesg) → Carries h.is_done h.version (file_in h.files.slots) front (file_in fs.slots) → HasFiles fs
    → Unlocked h (with_files h fs, front ++ Hunlock ∷ [])
unlocked h fs front c sound = search (rules, common_steps, unlocks)

pub unlocked_if : (h : PlainHost) (b : Bool) (x y : Reply) → (b ≡ true → Unlocked h x) → (b ≡ false → Unlocked h y) → Unlocked h (if b then x else y)
unlocked_if h b x y e u = grind arith

-- nothing but the lock is freed
pub unlocked_only : (h : PlainHost) → HasFiles h.files → Unlocked h (h, Hunlock ∷ [])
unlocked_only h sound = record { each = λ g s x. unlocks [] _ _ s _ (stays_put [] _ _ s _ tt x); gone = λ g e. e; sound = sound }

pub sync_by : (h : PlainHost) (m : Tmesg) → change_by m ≡ Command → first_of_checks (host_checks h m) ≡ None → Unlocked h (reply_to h m) → Synced h m
sync_by h m c passes x = grind arith

-- ## The messages

pub sync_exit : (h : PlainHost) → Ready h → Accepted h Texit → Synced h Texit
unfolding reply_exit
sync_exit h r met = sync_by h Texit refl refl
    (record { each = λ g s f. exits_kept [] _ _ s _ (stays_put [] _ _ s _ tt f); gone = λ g e. e; sound = r.steady.sound })

-- a file is closed for good
close_there : (d : Bool) (n : ℕ) (s : Slot) (t : List ℕ) → Fits_slot s (Opened t) → ComesToSync (Close ∷ Leave ∷ Free_command ∷ []) (lens true d n s) d n Gone
close_there d n (Open r k) t f = record { final = lens false d n Unknown; runs = refl; synced = (refl, refl, refl, tt); guarded = grind (arith, guarded_by); closed = λ e. refl }
close_there d n s t e = grind arith

pub sync_close : (h : PlainHost) → Ready h → (f : ℕ) → Accepted h (Tclose f) → Synced h (Tclose f)
unfolding reply_close
sync_close h r f met = grind (arith, file_in-free, close_there)

-- a file that was not open: the frames u take its slot to an open one, and those after tell of its text
opens : (h : PlainHost) (fs : PlainFiles) (f : ℕ) (front back : List Hmesg) (u : List Action) (x : HFile) (first : Slot) (t : List ℕ) → HasFiles h.files → file_in h.files.slots f ≡ x
    → ((s : Slot) → Fits_slot s x → s ≡ first) → ((d : Bool) (n : ℕ) → run u (lens true d n first) ≡ Some (lens true d n (Open [] 0))) → closes u ≡ false → (x ≡ Gone → ⊥)
    → ((g : ℕ) → at_file g front ≡ map (only (g == f)) u) → Told f back [] t → ((g : ℕ) → file_in fs.slots g ≡ put (file_in h.files.slots) f (Opened t) g)
    → ((g : ℕ) → fs.work ≡ Some g → (h.files.work ≡ Some g) ⊎ ((g ≡ f) × ((g == 0) ≡ false))) → Unlocked h (with_files h fs, (front ++ back) ++ Hunlock ∷ [])
opens h fs f front back u x first t sound e one runs close gone tells told is work =
    unlocked h fs (front ++ back) (carries_at h.is_done h.version a _ f (front ++ back) (u ++ told.acts) (Opened t) (λ g. simp (map-append, tells g, told.tells g)) is
    (λ s y. rw (one s (rw e at y)) (and_moves u told.acts _ _ first (Opened []) (Opened t)
    (record { slot = Open [] 0; runs = runs h.is_done h.version; fits = (refl, tt); no_close = close }) (λ s2 z. moves_rewrite told.acts [] t _ _ s2 told.rewrites z))) lasts)
    (grind (arith, lasts, (put_same a f (Opened t))))
  where
    a : ℕ → HFile
    a = file_in h.files.slots

    lasts : Lasts a (file_in fs.slots)
    lasts = lasts_put a (file_in fs.slots) f (Opened t) (λ q. gone (sym e ∙ q)) (λ y. tt) (λ q y. tt) is

pub sync_start : (h : PlainHost) → Ready h → (f : ℕ) → Accepted h (Tstartfile f) → Synced h (Tstartfile f)
unfolding reply_startfile when
sync_start h r f met = sync_by h (Tstartfile f) refl (grind arith) (go met.0.kind)
  where
    file : PlainFile
    file = file_at h.files f

    fs : PlainFiles
    fs = record (put_file h.files f (record file { opened = true })) { work = Some f }

    a : ℕ → HFile
    a = file_in h.files.slots

    files : (g : ℕ) → file_in fs.slots g ≡ put a f (Opened file.text) g
    files = put_opened h.files f (in_slots h.files f met.0.file met.0.there) (record file { opened = true }) refl

    shown : a f ≡ file_of file
    shown = shown_at h.files f met.0.file met.0.there

    go : (file.opened ≡ true) ⊎ ((file.opened ≡ false) × (file.announced ≡ true)) → Unlocked h (with_files h fs, when (not file.opened) (Hbindname f ∷ told_length f file) ++ Hunlock ∷ [])
    go (inl w) =
        let c = carries_nothing h.is_done h.version a (file_in fs.slots) (λ g. files g ∙ sym (put_again a f (Opened file.text) g (shown ∙ file_opened file w))) in
        rw w (unlocked h fs [] c (works_on h.files fs f r.steady.sound refl met.1 (rw (files f, put_same a f (Opened file.text)) tt) c.lasts))
    go (inr w) = rw w.0 (opens h fs f (Hbindname f ∷ []) (told_length f file) (Bind ∷ []) (Named file.text) Known file.text r.steady.sound (shown ∙ file_named file w.0 w.1)
        (λ s y. grind arith) (λ d n. refl) refl (λ q. cc) (λ g. refl) (told_opened f file (r.steady.fit f).2) files (λ g e. inr (grind (arith, met.1))))

-- the command file is announced and opened at once
pub sync_first : (h : PlainHost) → Ready h → Accepted h Tstartcmdfile → Synced h Tstartcmdfile
unfolding reply_startcmdfile
sync_first h r met = grind (arith, sync_by, unlocked_if, unlocked_only, opening)
  where
    file : PlainFile
    file = file_at h.files 0

    fs : PlainFiles
    fs = put_file h.files 0 (record file { opened = true })

    opening : file.opened ≡ false → file.announced ≡ false → Unlocked h (with_files h fs, (Hnewname 0 ∷ Hmovname 0 command_name ∷ Hbindname 0 ∷ told_length 0 file) ++ Hunlock ∷ [])
    opening w n =
        let there = first_there h r in
        opens h fs 0 (Hnewname 0 ∷ Hmovname 0 command_name ∷ Hbindname 0 ∷ []) (told_length 0 file) (Join ∷ Needs_known ∷ Bind ∷ []) (Hidden file.text) Unknown file.text r.steady.sound
        (shown_at h.files 0 there.file there.there ∙ file_hidden file w n) (λ s y. grind arith) (λ d n. refl) refl (λ q. cc) (λ g. refl) (told_opened 0 file (r.steady.fit 0).2)
        (put_opened h.files 0 (in_slots h.files 0 there.file there.there) (record file { opened = true }) refl) (λ g e. inl e)

-- ## What is printed at the end of tag 0

-- a file has another text, open or not
lasts_text : (a b : ℕ → HFile) (f : ℕ) (o n : Bool) (t u : List ℕ) → a f ≡ (if o then Opened t else if n then Named t else Hidden t)
    → ((g : ℕ) → b g ≡ put a f (if o then Opened u else if n then Named u else Hidden u) g) → Lasts a b
lasts_text a b f o n t u e is = grind arith

pub printed_carries : (d : Bool) (n : ℕ) (fs : PlainFiles) (s : List ℕ) (x : PlainFile) → slot fs.slots 0 ≡ Some x → Carries d n (file_in fs.slots) (printed fs s) (file_in (after_print fs s).slots)
unfolding printed when
printed_carries d n fs s x e = go (is_printed fs s) refl
  where
    file : PlainFile
    file = file_at fs 0

    t : List ℕ
    t = file.text

    a : ℕ → HFile
    a = file_in fs.slots

    end : ℕ
    end = length t + length s

    told : List Hmesg
    told = grown fs 0 (length t) s ++ Hsetdot 0 end end ∷ Hcheck 0 ∷ []

    out : PlainFiles
    out = put_file fs 0 (printed_file file s)

    files : (g : ℕ) → file_in out.slots g ≡ put a 0 (file_of (printed_file file s)) g
    files = file_in-put fs.slots 0 (printed_file file s) (in_slots fs 0 x e)

    shown : a 0 ≡ file_of file
    shown = shown_at fs 0 x e

    opened : (o : Bool) → file.opened ≡ o → end ≤ max_runes → Carries d n a (when (true && o) told) (file_in out.slots)
    opened true w l =
        let longer : end ≤ length (t ++ s) = omega (arith, length-append t s) in
        let same : ins t (length t) s ≡ t ++ s = grind (arith, take_all, drop_all, append-nil) in
        let first : Told 0 (grown fs 0 (length t) s) t (t ++ s) = subst (Told 0 (grown fs 0 (length t) s) t) same (told_grown fs 0 (length t) s t w (omega arith) l) in
        carries_told d n a (file_in out.slots) 0 told t (t ++ s) (shown ∙ file_opened file w) (λ g. files g ∙ ap (λ (y : HFile). put a 0 y g) (file_opened (printed_file file s) w))
        (told-append _ _ _ _ _ _ first (told-append _ _ _ _ _ _ (told_dot 0 end end (t ++ s) (omega arith) longer) (told_check 0 (t ++ s))))
    opened false w l = grind (arith, carries_at, files, stays_put, shown, (lasts_text a (file_in out.slots) 0 file.opened file.announced t (t ++ s) shown files))

    go : (b : Bool) → is_printed fs s ≡ b → Carries d n a (when (b && file.opened) told) (file_in (if b then out else fs).slots)
    go true q = opened file.opened refl (leb-true end max_runes (and_parts (not (is_empty s)) (has_room fs s) q).1)
    go false q = carries_nothing d n a a (λ g. refl)

pub printed_work : (fs : PlainFiles) (s : List ℕ) → (after_print fs s).work ≡ fs.work
printed_work fs s = grind arith

-- ## A new file

pub sync_new : (h : PlainHost) → Ready h → Accepted h Tstartnewfile → Synced h Tstartnewfile
unfolding reply_startnewfile
sync_new h r met = grind (arith, sync_by, unlocked_if, nat_le, full, fresh)
  where
    f : ℕ
    f = length h.files.slots

    fs : PlainFiles
    fs = record (put_file h.files f new_file) { work = Some f }

    full : Unlocked h (with_files h (after_print h.files no_tag_left), printed h.files no_tag_left ++ Hunlock ∷ [])
    full =
        let there = first_there h r in
        let c = printed_carries h.is_done h.version h.files no_tag_left there.file there.there in
        unlocked h (after_print h.files no_tag_left) (printed h.files no_tag_left) c (still_has h.files (after_print h.files no_tag_left) r.steady.sound (printed_work h.files no_tag_left) c.lasts)

    fresh : Unlocked h (with_files h fs, (Hnewname f ∷ Hbindname f ∷ Hcurrent f ∷ []) ++ Hunlock ∷ [])
    fresh =
        let l = in_slots h.files 0 (first_there h r).file (first_there h r).there in
        opens h fs f (Hnewname f ∷ Hbindname f ∷ Hcurrent f ∷ []) [] (Join ∷ Bind ∷ Needs_known ∷ []) Absent Unknown [] r.steady.sound (not_given h.files.slots f (omega arith))
        (λ s y. grind arith) (λ d n. refl) refl (λ q. cc) (λ g. refl) (told_nothing f []) (file_in-push h.files.slots new_file) (λ g e. inr (grind arith))

pub ruleset command_locks = (sync_first, sync_start, sync_new, sync_close, sync_exit)
