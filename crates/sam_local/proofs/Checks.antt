-- What stands against an event at the terminal stands against it ahead, and nothing else.
use Rattle.sam_crossing.proofs.Common.{◌≡◌, ℕ, zero, suc, ◌+◌, ◌-◌, Bool, true, false, not, ◌||◌, ◌&&◌, if◌then◌else◌, List, [], ◌∷◌, ◌++◌, length, Option, Some, None, is_some, unwrap_or, refl, sym, ap, ◌∙◌, subst, inl, inr, ◌⊎◌, true≢false, arith, same_Some, option_map, nat_lt, not-false, length-map, length_agrees, Checks, first_of_checks, Slots, slot, slot-map, PlainFiles, file_at, Tmesg, Hmesg, PlainHost, Window, KnownFile, UserEvent, PlainTerminal, known_at, window_at, is_known, is_open, is_any_locked, is_unknown, is_closed, is_file_locked, has_bad_place, makes_too_long, waits_for_all, is_bad_version, is_for_command_file, needs_open, event_checks, blank_known, blank_window, InOrder, Lens, Unknown, Known, Open, lens, Action, IsGuarded, IsSynced, file_in, view, at_file, run, max_runes}
use Rattle.sam_runes.specs.Texts.{snarf_limit, utf8_length}
use Rattle.sam_term.specs.declared.event.UserEvent.TheVariants.{Typed, Select, Dclick, View, Load, Edit, SetSnarf}
use Rattle.sam_term.specs.declared.event.Verdict.{Verdict}
use Rattle.sam_term.specs.declared.event.Verdict.TheVariants.{Waits, Refuses}
use Rattle.sam_term.specs.declared.fault.Refusal.{Refusal}
use Rattle.sam_term.specs.declared.fault.Refusal.TheVariants as refusal
use Rattle.sam_term.specs.Events.{file_of}
use Rattle.sam_term.specs.Term.{has_long_text}
use Rattle.sam_crossing.proofs.Lenses.{IsFree, IsOpen, IsAlike, command_of}
use Rattle.sam_crossing.proofs.Runs.{stepped, frees_nothing, still, exited_after, no_exit, no_unlock, same_version}
use Rattle.sam_crossing.proofs.Versions.{no_changes, unlock_frames}
use Rattle.sam_crossing.proofs.Passing.{free_at, opened_at}
use Rattle.sam_local.specs.Local.{whole_window, whole_file, whole_slots, at_rest}
use Rattle.sam_local.proofs.Sights.{bare, sight, sight-rest}
use Rattle.sam_local.proofs.Gentle.{MarksGuarded, AreCalm, AreGentle, calm_free, calm_gentle, counted_in, known-stays, marks-less, window-stays}
use Rattle.sam_local.proofs.Marks.{marks-both, marks-answers}
use Rattle.sam_local.proofs.Ahead.{term_ahead, run-ahead, synced-ahead, opened-is, window-is, open-view}
use Rattle.sam_local.proofs.Events.{opens-alike}

-- ## Windows at rest

pub slot-whole : (fs : PlainFiles) (ss : Slots KnownFile) (f g k : ℕ) → f + g ≡ k → slot (whole_slots fs f ss) g ≡ option_map (whole_file (file_at fs k).text) (slot ss g)
slot-whole fs [] f g k e = refl
slot-whole fs (s ∷ ss) f zero k e = let same : f ≡ k = omega (arith, e) in ap (λ (n : ℕ). option_map (whole_file (file_at fs n).text) s) same
slot-whole fs (s ∷ ss) f (suc g) k e = slot-whole fs ss (suc f) g k (omega (arith, e))

module _ (h : PlainHost) (t : PlainTerminal) (f : ℕ) where
  pub rest-known : known_at (at_rest h t).term f ≡ unwrap_or (option_map (whole_file (file_at h.files f).text) (slot t.files f)) blank_known
  rest-known = ap (λ (s : Option KnownFile). unwrap_or s blank_known) (slot-whole h.files t.files 0 f f (omega arith))

  pub rest-window : is_open t f ≡ true → window_at (at_rest h t).term f ≡ whole_window (file_at h.files f).text (window_at t f)
  rest-window o =
      ap (λ (x : KnownFile). unwrap_or x.window blank_window)
      (rest-known ∙ ap (λ (s : Option KnownFile). unwrap_or (option_map (whole_file (file_at h.files f).text) s) blank_known) (opened-is t f o))
      ∙ ap (λ (w : Option Window). unwrap_or (option_map (whole_window (file_at h.files f).text) w) blank_window) (window-is t f o)

  pub rest-locks : (window_at (at_rest h t).term f).locks ≡ 0
  rest-locks = ap (λ (x : KnownFile). (unwrap_or x.window blank_window).locks) rest-known ∙ by (slot t.files f)
    where
      of_window : (w : Option Window) → (unwrap_or (option_map (whole_window (file_at h.files f).text) w) blank_window).locks ≡ 0
      of_window None = refl
      of_window (Some w) = refl

      by : (s : Option KnownFile) → (unwrap_or (unwrap_or (option_map (whole_file (file_at h.files f).text) s) blank_known).window blank_window).locks ≡ 0
      by None = refl
      by (Some known) = of_window known.window

pub none-locked : (fs : PlainFiles) (f : ℕ) (ss : Slots KnownFile) → is_any_locked (whole_slots fs f ss) ≡ false
none-locked fs f [] = refl
none-locked fs f (None ∷ ss) = none-locked fs (suc f) ss
none-locked fs f (Some known ∷ ss) = by known.window (none-locked fs (suc f) ss)
  where
    by : (w : Option Window) → is_any_locked (whole_slots fs (suc f) ss) ≡ false
        → (nat_lt 0 (unwrap_or (option_map (whole_window (file_at fs f).text) w) blank_window).locks || is_any_locked (whole_slots fs (suc f) ss)) ≡ false
    by None e = e
    by (Some w) e = e

-- ## Known files

abbrev knows : Lens → Bool
knows (lens c e n Unknown) = false
knows (lens c e n Known) = true
knows (lens c e n (Open r k)) = true

knows-is : (t : PlainTerminal) (f : ℕ) → is_known t f ≡ knows (view f t)
knows-is t f = grind arith

pub knows-alike : (t u : PlainTerminal) (f : ℕ) → sight t ≡ sight u → is_known t f ≡ is_known u f
knows-alike t u f e = sym (seen t) ∙ ap (λ (x : PlainTerminal). is_known x f) e ∙ seen u
  where
    mapped : (s : Option KnownFile) → is_some (option_map bare s) ≡ is_some s
    mapped None = refl
    mapped (Some x) = refl

    seen : (x : PlainTerminal) → is_known (sight x) f ≡ is_known x f
    seen x = ap is_some (slot-map bare x.files f) ∙ mapped (slot x.files f)

pub open-known : (t : PlainTerminal) (f : ℕ) → is_open t f ≡ true → is_known t f ≡ true
open-known t f e = grind arith

locked-open : (t : PlainTerminal) (f : ℕ) → nat_lt 0 (window_at t f).locks ≡ true → is_open t f ≡ true
locked-open t f e = grind arith

-- what is under way closes no open file while the command lock is free: after the close no lock would be freed
stays-open : (s : List Action) (v w : Lens) → command_of v ≡ false → IsOpen v → IsGuarded s → run s v ≡ Some w → IsOpen w
stays-open [] v w c o g r = grind (arith, same_Some)
stays-open (a ∷ s) v w c o g r = let t = stepped a s v w r in grind (arith, (frees_nothing s t.mid w), (stays-open s t.mid w))

alike-self : (v : Lens) → IsAlike v v
alike-self v = grind arith

pub agreed-length : (t : PlainTerminal) (fs : PlainFiles) (f : ℕ) (d : Bool) (n : ℕ) → IsSynced (view f t) d n (file_in fs.slots f) → is_open t f ≡ true
    → length (window_at t f).rasp ≡ length (file_at fs f).text
agreed-length t fs f d n s o = grind (arith, length_agrees)

-- ## What stands against an event

-- the tests of the file that an event names, and what comes after them
abbrev about_file : (bad_version unknown command closed : Bool) → Option Verdict → Option Verdict
about_file v u c n later =
    if v then Some (Refuses refusal.BadVersion)
    else if u then Some (Refuses refusal.NoFile)
    else if c then Some (Refuses refusal.CommandFile)
    else if n then Some (Refuses refusal.NotOpen)
    else later

-- the tests of places and lengths
abbrev about_text : PlainTerminal → UserEvent → Checks Verdict
about_text t e =
    (has_bad_place t e, Refuses refusal.BadPosition) ∷ (has_long_text t e, Refuses refusal.TextTooLong) ∷ (makes_too_long t e, Refuses refusal.TooLong) ∷ []

-- a lock of its file, or one that an event waits for
abbrev meets_lock : PlainTerminal → UserEvent → Bool
meets_lock t e = is_file_locked t (file_of e) || (waits_for_all e && is_any_locked t.files)

exited-first : (t : PlainTerminal) (e : UserEvent) → t.has_exited ≡ true → first_of_checks (event_checks t e) ≡ Some (Refuses refusal.Exited)
exited-first t e x = rw x refl

waits-first : (t : PlainTerminal) (e : UserEvent) → t.has_exited ≡ false → t.command_lock ≡ true → first_of_checks (event_checks t e) ≡ Some Waits
waits-first t e x c = rw (x, c) refl

file-first : (t : PlainTerminal) (e : UserEvent) → t.has_exited ≡ false → t.command_lock ≡ false
    → first_of_checks (event_checks t e)
    ≡ about_file (is_bad_version e) (is_unknown t (file_of e)) (is_for_command_file e) (needs_open e && is_closed t (file_of e))
    (if meets_lock t e then Some Waits else first_of_checks (about_text t e))
file-first t e x c = rw (x, c) refl

-- the same tests, and after them the same or a lock
about-same : (v u c n : Bool) (x y : Option Verdict) → (n ≡ false → (x ≡ Some Waits) ⊎ (x ≡ y)) → (about_file v u c n x ≡ Some Waits) ⊎ (about_file v u c n x ≡ about_file v u c n y)
about-same true u c n x y k = inr refl
about-same false true c n x y k = inr refl
about-same false false true n x y k = inr refl
about-same false false false true x y k = inr refl
about-same false false false false x y k = k refl

or-none : (a b : Bool) → (a || b) ≡ false → a ≡ false
or-none true b e = absurd (true≢false e)
or-none false b e = refl

none-waits : None ≡ Some Waits → ⊥
none-waits e = grind arith

waits-is : (r : Refusal) → Waits ≡ Refuses r → ⊥
waits-is r e = grind arith

-- a whole file, and what counts of it
whole-counted : (b : Bool) (text : List ℕ) (known : KnownFile) → counted_in b (whole_file text known) ≡ whole_file text (counted_in b known)
whole-counted true text known = refl
whole-counted false text known = refl

-- ## Ahead

module _ (h : PlainHost) (t : PlainTerminal) (up : List Tmesg) (down : List Hmesg) (o : InOrder h t up down) (counts : ℕ → Bool) (marks : (f : ℕ) → MarksGuarded (counts f) f down) where
  abbrev ahead : PlainTerminal
  ahead = term_ahead h t up down o

  pub calm-ahead : (f : ℕ) → IsFree (view f t) → AreCalm (counts f) f (down ++ o.kept.frames)
  calm-ahead f free =
      calm_free (counts f) f (down ++ o.kept.frames) (view f t) (o.kept.each f).final free (o.kept.each f).runs (o.kept.each f).guarded
      (marks-both (counts f) f down o.kept.frames (marks f) (marks-less (counts f) f o.kept.frames (marks-answers f _ h (o.kept.ahead, o.kept.frames) o.kept.folds)))

  pub gentle-ahead : (f : ℕ) → IsFree (view f t) → AreGentle f (down ++ o.kept.frames)
  gentle-ahead f free = calm_gentle (counts f) f (down ++ o.kept.frames) (calm-ahead f free)

  pub still-ahead : (f : ℕ) → IsFree (view f t) → view f (term_ahead h t up down o) ≡ view f t
  still-ahead f free =
      (still (at_file f (down ++ o.kept.frames)) (view f t) (view f (term_ahead h t up down o)) (view f t) free (o.kept.each f).guarded (alike-self (view f t)) (run-ahead h t up down o f)).0

  pub exits-ahead : t.has_exited ≡ true → (term_ahead h t up down o).has_exited ≡ true
  exits-ahead e = grind (arith, (exited_after (at_file 0 (down ++ o.kept.frames)) (view 0 t) (view 0 (term_ahead h t up down o)) (run-ahead h t up down o 0)))

  pub stays-ahead : t.has_exited ≡ false → t.command_lock ≡ false → (term_ahead h t up down o).has_exited ≡ false
  stays-ahead e c =
      grind (
        arith,
        (exited_after (at_file 0 (down ++ o.kept.frames)) (view 0 t) (view 0 (term_ahead h t up down o)) (run-ahead h t up down o 0)),
        (no_exit (at_file 0 (down ++ o.kept.frames)) (view 0 t) (view 0 (term_ahead h t up down o)) (run-ahead h t up down o 0) c),
      )

  pub version-ahead : t.command_lock ≡ false → (term_ahead h t up down o).version ≡ t.version
  version-ahead c =
      let s = at_file 0 (down ++ o.kept.frames) in
      let r = run-ahead h t up down o 0 in
      same_version s (view 0 t) (view 0 (term_ahead h t up down o)) r
      (no_changes 0 (down ++ o.kept.frames) o.kept.versions (sym (unlock_frames 0 (down ++ o.kept.frames)) ∙ no_unlock s (view 0 t) (view 0 (term_ahead h t up down o)) r c))

  -- the terminal at rest
  abbrev pub term_rest : PlainTerminal
  term_rest = (at_rest o.kept.ahead (term_ahead h t up down o)).term

  pub window-ahead : (f : ℕ) → IsFree (view f t) → window_at (term_ahead h t up down o) f ≡ window_at t f
  window-ahead f free = ap (λ (w : Option Window). unwrap_or w blank_window) (window-stays f (down ++ o.kept.frames) t (gentle-ahead f free))

  pub open-ahead : (f : ℕ) → IsFree (view f t) → is_open (term_ahead h t up down o) f ≡ is_open t f
  open-ahead f free = ap is_some (window-stays f (down ++ o.kept.frames) t (gentle-ahead f free))

  -- what is kept of a free open file, but for its runes and locks, and for its dirty mark where that doesn't count
  pub kept-rest : (f : ℕ) → IsFree (view f t) → is_open t f ≡ true
      → counted_in (counts f) (known_at term_rest f) ≡ counted_in (counts f) (whole_file (file_at o.kept.ahead.files f).text (known_at t f))
  kept-rest f free open_here =
      let text = (file_at o.kept.ahead.files f).text in
      let there = known_at (term_ahead h t up down o) f in
      ap (counted_in (counts f))
      (rest-known o.kept.ahead (term_ahead h t up down o) f
      ∙ ap (λ (s : Option KnownFile). unwrap_or (option_map (whole_file text) s) blank_known) (opened-is (term_ahead h t up down o) f (open-ahead f free ∙ open_here)))
      ∙ whole-counted (counts f) text there ∙ ap (whole_file text) (known-stays (counts f) f (down ++ o.kept.frames) t (calm-ahead f free)) ∙ sym (whole-counted (counts f) text (known_at t f))

  pub window-rest : (f : ℕ) → IsFree (view f t) → is_open t f ≡ true → window_at term_rest f ≡ whole_window (file_at o.kept.ahead.files f).text (window_at t f)
  window-rest f free open_here =
      rest-window o.kept.ahead (term_ahead h t up down o) f (open-ahead f free ∙ open_here)
      ∙ ap (whole_window (file_at o.kept.ahead.files f).text) (window-ahead f free)

  pub known-rest : (f : ℕ) → IsFree (view f t) → is_known term_rest f ≡ is_known t f
  known-rest f free =
      knows-alike term_rest (term_ahead h t up down o) f (sight-rest o.kept.ahead (term_ahead h t up down o)) ∙ knows-is (term_ahead h t up down o) f
      ∙ ap knows (still-ahead f free) ∙ sym (knows-is t f)

  pub open-rest : (f : ℕ) → IsFree (view f t) → is_open term_rest f ≡ is_open t f
  open-rest f free = opens-alike term_rest (term_ahead h t up down o) f (sight-rest o.kept.ahead (term_ahead h t up down o)) ∙ open-ahead f free

  pub length-rest : (f : ℕ) → IsFree (view f t) → is_open t f ≡ true → length (window_at term_rest f).rasp ≡ length (window_at t f).rasp
  length-rest f free open_here =
      ap (λ (w : Window). length w.rasp) (window-rest f free open_here) ∙ length-map (file_at o.kept.ahead.files f).text Some
      ∙ sym (agreed-length t o.kept.ahead.files f _ _ (subst (λ (v : Lens). IsSynced v o.kept.ahead.is_done o.kept.ahead.version (file_in o.kept.ahead.files.slots f)) (still-ahead f free) (synced-ahead h t up down o f)) open_here)

  -- a file that the event needs open is open, and free
  abbrev IsHandy : UserEvent → Type 0
  IsHandy e = (f : ℕ) → file_of e ≡ Some f → needs_open e ≡ true → IsFree (view f t) × (is_open t f ≡ true)

  same-place : (e : UserEvent) → IsHandy e → has_bad_place term_rest e ≡ has_bad_place t e
  same-place (Select f p q) k = let x = k f refl refl in ap (λ (n : ℕ). nat_lt q p || nat_lt n q) (length-rest f x.0 x.1)
  same-place (Dclick f p) k = let x = k f refl refl in ap (λ (n : ℕ). nat_lt n p) (length-rest f x.0 x.1)
  same-place (View f p n) k = let x = k f refl refl in ap (λ (n : ℕ). nat_lt n p) (length-rest f x.0 x.1)
  same-place (Load f p n) k = let x = k f refl refl in ap (λ (n : ℕ). nat_lt n p) (length-rest f x.0 x.1)
  same-place (Edit f p q s) k = let x = k f refl refl in ap (λ (n : ℕ). nat_lt q p || nat_lt n q) (length-rest f x.0 x.1)
  same-place e k = refl

  same-long : (e : UserEvent) → t.command_lock ≡ false → has_long_text term_rest e ≡ has_long_text t e
  same-long (SetSnarf s) c = ap (λ (v : ℕ). nat_lt (snarf_limit v) (utf8_length s)) (version-ahead c)
  same-long e c = refl

  same-room : (e : UserEvent) → IsHandy e → makes_too_long term_rest e ≡ makes_too_long t e
  same-room (Typed f s) k =
      let x = k f refl refl in
      let w = window_at t f in
      let there = window-rest f x.0 x.1 in
      ap (λ (w : Window). nat_lt max_runes (length w.rasp - (w.dot.1 - w.dot.0) + length s)) there
      ∙ ap (λ (n : ℕ). nat_lt max_runes (n - (w.dot.1 - w.dot.0) + length s)) (sym (ap (λ (w : Window). length w.rasp) there) ∙ length-rest f x.0 x.1)
  same-room (Edit f p q s) k = let x = k f refl refl in ap (λ (n : ℕ). nat_lt max_runes (n - (q - p) + length s)) (length-rest f x.0 x.1)
  same-room e k = refl

  unlocked-rest : (f : Option ℕ) → is_file_locked term_rest f ≡ false
  unlocked-rest None = refl
  unlocked-rest (Some f) = ap (nat_lt 0) (rest-locks o.kept.ahead (term_ahead h t up down o) f)

  and-false : (a : Bool) → (a && false) ≡ false
  and-false true = refl
  and-false false = refl

  all-unlocked-rest : (f : Option ℕ) (e : UserEvent) → (is_file_locked term_rest f || (waits_for_all e && is_any_locked term_rest.files)) ≡ false
  all-unlocked-rest f e =
      ap (λ (b : Bool). b || (waits_for_all e && is_any_locked term_rest.files)) (unlocked-rest f)
      ∙ ap (λ (b : Bool). waits_for_all e && b) (none-locked o.kept.ahead.files 0 (term_ahead h t up down o).files) ∙ and-false (waits_for_all e)

  -- a file that is locked while the command lock is free stays open
  locked-ahead : (f : ℕ) → t.command_lock ≡ false → is_open t f ≡ true → is_open (term_ahead h t up down o) f ≡ true
  locked-ahead f c opened =
      open-view (term_ahead h t up down o) f
      (stays-open (at_file f (down ++ o.kept.frames)) (view f t) (view f (term_ahead h t up down o)) c (opened_at t f opened) (o.kept.each f).guarded (run-ahead h t up down o f))

  -- it is known and open ahead as it is here, where the command lock is free
  same-known : (f : ℕ) → t.command_lock ≡ false → (is_known term_rest f ≡ is_known t f) × (is_open term_rest f ≡ is_open t f)
  same-known f c = by (nat_lt 0 (window_at t f).locks) refl
    where
      by : (b : Bool) → nat_lt 0 (window_at t f).locks ≡ b → (is_known term_rest f ≡ is_known t f) × (is_open term_rest f ≡ is_open t f)
      by false k = let free = free_at t f c k in (known-rest f free, open-rest f free)
      by true k =
          let opened = locked-open t f k in
          let z = term_ahead h t up down o in
          let seen = sight-rest o.kept.ahead z in
          let there = locked-ahead f c opened in
          (knows-alike term_rest z f seen ∙ open-known z f there ∙ sym (open-known t f opened), opens-alike term_rest z f seen ∙ there ∙ sym opened)

  same-unknown : (f : Option ℕ) → t.command_lock ≡ false → is_unknown term_rest f ≡ is_unknown t f
  same-unknown None c = refl
  same-unknown (Some f) c = ap not (same-known f c).0

  same-closed : (f : Option ℕ) → t.command_lock ≡ false → is_closed term_rest f ≡ is_closed t f
  same-closed None c = refl
  same-closed (Some f) c = ap not (same-known f c).1

  handy : (e : UserEvent) → t.command_lock ≡ false → is_file_locked t (file_of e) ≡ false → (needs_open e && is_closed t (file_of e)) ≡ false → IsHandy e
  handy e c k n f ef needs = (
    free_at t f c (sym (ap (is_file_locked t) ef) ∙ k),
    not-false (is_open t f) (sym (λ i. needs i && is_closed t (ef i)) ∙ n),
  )

  -- an event waits here, or just what stands against it here stands against it ahead
  pub verdict-rest : (e : UserEvent) → (first_of_checks (event_checks t e) ≡ Some Waits) ⊎ (first_of_checks (event_checks t e) ≡ first_of_checks (event_checks term_rest e))
  verdict-rest e = by t.has_exited t.command_lock refl refl
    where
      by : (x c : Bool) → t.has_exited ≡ x → t.command_lock ≡ c → (first_of_checks (event_checks t e) ≡ Some Waits) ⊎ (first_of_checks (event_checks t e) ≡ first_of_checks (event_checks term_rest e))
      by true c x k = inr (exited-first t e x ∙ sym (exited-first term_rest e (exits-ahead x)))
      by false true x k = inl (waits-first t e x k)
      by false false x k = elim (about-same (is_bad_version e) (is_unknown t (file_of e)) (is_for_command_file e) (needs_open e && is_closed t (file_of e)) here there (λ n. at_lock n (meets_lock t e) refl)) [
        | inl w ↦ inl (file-first t e x k ∙ w)
        | inr same ↦
            inr
            (file-first t e x k ∙ same
            ∙ sym (λ i. about_file (is_bad_version e) (same-unknown (file_of e) k i) (is_for_command_file e) (needs_open e && same-closed (file_of e) k i) there)
            ∙ sym (file-first term_rest e (stays-ahead x k) refl))
      ]
        where
          here : Option Verdict
          here = if meets_lock t e then Some Waits else first_of_checks (about_text t e)

          there : Option Verdict
          there = if meets_lock term_rest e then Some Waits else first_of_checks (about_text term_rest e)

          at_lock : (needs_open e && is_closed t (file_of e)) ≡ false → (b : Bool) → meets_lock t e ≡ b → (here ≡ Some Waits) ⊎ (here ≡ there)
          at_lock n true l = inl (ap (λ (b : Bool). if b then Some Waits else first_of_checks (about_text t e)) l)
          at_lock n false l =
              let open_here = handy e k (or-none (is_file_locked t (file_of e)) _ l) n in
              inr
              (ap (λ (b : Bool). if b then Some Waits else first_of_checks (about_text t e)) l
              ∙ sym (λ i. first_of_checks ((same-place e open_here i, Refuses refusal.BadPosition) ∷ (same-long e k i, Refuses refusal.TextTooLong) ∷ (same-room e open_here i, Refuses refusal.TooLong) ∷ []))
              ∙ sym (ap (λ (b : Bool). if b then Some Waits else first_of_checks (about_text term_rest e)) (all-unlocked-rest (file_of e) e)))

  -- nothing stands against it ahead where nothing stands against it here
  pub passes-rest : (e : UserEvent) → first_of_checks (event_checks t e) ≡ None → first_of_checks (event_checks term_rest e) ≡ None
  passes-rest e q = elim (verdict-rest e) [ inl w ↦ absurd (none-waits (sym q ∙ w)) | inr same ↦ sym same ∙ q ]

  -- what is refused here is refused ahead
  pub refused-rest : (e : UserEvent) (r : Refusal) → first_of_checks (event_checks t e) ≡ Some (Refuses r) → first_of_checks (event_checks term_rest e) ≡ Some (Refuses r)
  refused-rest e r q = elim (verdict-rest e) [ inl w ↦ absurd (waits-is r (same_Some _ _ (sym w ∙ q))) | inr same ↦ sym same ∙ q ]
