-- An event that acts does where both sides come to what it does to the editor without a network.
use Rattle.sam_crossing.proofs.Common.{◌≡◌, ℕ, ◌+◌, ◌≤◌, Bool, true, false, not, ◌==◌, ◌&&◌, if◌then◌else◌, List, [], ◌∷◌, ◌++◌, length, map, Option, Some, None, is_some, option_map, refl, sym, ap, ◌∙◌, subst, inl, inr, ◌⊎◌, ◌≢◌, true≢false, arith, and_parts, same_Some, nat_lt, nat_le, not-false, eqb-true, ltb-false, append_assoc, append-nil, max_runes, most_in_message, first_of_checks, file_at, Tmesg, Tversion, Tstartcmdfile, Tcheck, Torigin, Tstartfile, Tworkfile, Ttype, Tcut, Tpaste, Tsnarf, Tstartnewfile, Twrite, Tclose, Tlook, Tsearch, Tsend, Tdclick, Tstartsnarf, Tsetsnarf, Texit, Hmesg, PlainHost, Reply, answers, CommandLock, NoLock, Window, KnownFile, Unsent, is_command_line, UserEvent, PlainTerminal, Made, known_at, window_at, is_open, is_any_locked, put_window, has_empty_dot, cut_rasp, cuts_dot, moved_unsent, place_after_del, composed, flushed, unsent_message, sends, unchanged, requested, joins, types, event_checks, event_outcome, made_by_type, made_by_cut, made_by_paste, made_by_snarf, made_by_view, made_by_load, made_by_edit, is_empty, all_wanted, gaps_shown, requests_for, sends_all, all_composed, InOrder, AllComeToSync, IsHeldBack, views, view}
use Rattle.std.proofs.lemmas.List.{take-map, drop-map}
use Rattle.sam_runes.proofs.CheckLaws.{if-same}
use Rattle.sam_rasp.specs.Rasp.{hole_within, first_gaps}
use Rattle.sam_term.specs.declared.event.UserEvent.TheVariants.{Typed, Select, Cut, Paste, Snarf, Look, Search, Send, Dclick, Scroll, View, Load, Edit, Open, Close, Write, Work, OpenCmd, New, Exit, Check, GetSnarf, SetSnarf, Version, Flush}
use Rattle.sam_term.specs.declared.event.Verdict.{Verdict}
use Rattle.sam_term.specs.declared.event.Verdict.TheVariants.{Refuses}
use Rattle.sam_term.specs.declared.fault.Refusal.{Refusal}
use Rattle.sam_term.specs.Events.{about_dot}
use Rattle.sam_term.specs.Term.{cut_message, made_then, wanted, sends_if, view_end, stretches, front_of, most_requests}
use Rattle.sam_term.proofs.Edits.{unsent-all}
use Rattle.sam_term.proofs.Loads.{stretches-none}
use Rattle.sam_crossing.proofs.Changes.{type_change, change_by, changed, IsAllowed}
use Rattle.sam_crossing.proofs.Lenses.{IsFree}
use Rattle.sam_crossing.proofs.Composing.{composes}
use Rattle.sam_crossing.proofs.Passing.{Passed, passed, free_at, open_free, all_free}
use Rattle.sam_crossing.proofs.Views.{unsent-flushed, unsent-composed}
use Rattle.sam_local.specs.Local.{PlainEditor, whole_window, at_rest, all_taken, answered_with, come_to, carried_unless, carried}
use Rattle.sam_local.proofs.Sights.{sight, sight-rest, rests, turned}
use Rattle.sam_local.proofs.Frames.{turn, sight-taken, taken-append, known-put_other, cases}
use Rattle.sam_local.proofs.Folds.{Parted, parted}
use Rattle.sam_local.proofs.Ahead.{term_ahead, synced-ahead, come-to-is, window-put, opened-put, sight-flushed}
use Rattle.sam_local.proofs.Steps.{answered-alike}
use Rattle.sam_local.proofs.Takes.{wanted-is, fits-flushed, synced-open, silent-asked, sends-silent, sends-requests}
use Rattle.sam_local.proofs.Gentle.{MarksGuarded, AreGentle, past-frames}
use Rattle.sam_local.proofs.Uncounted.{rest, rested, answers-rested, answered-rested}
use Rattle.sam_local.proofs.Joined.{joined-answers}
use Rattle.sam_local.proofs.Events.{Turning, turn_of, altered_by, altered, seen-turns, altered-alike, opens-alike, opened-turned, event-alters, tail, told, sent-tail, edit-tail, edit_turn, cuts-tail, cuts-flush, types-apart, types-joined}
use Rattle.sam_local.proofs.Checks.{gentle-ahead, open-ahead, window-rest, passes-rest, refused-rest, term_rest}

-- ## Nothing is asked for where all is loaded

no-gaps : (s : List ℕ) → first_gaps (map Some s) ≡ None
no-gaps [] = refl
no-gaps (c ∷ s) = rw (no-gaps s) refl

no-hole : (s : List ℕ) (p q : ℕ) → hole_within (map Some s) p q ≡ None
no-hole s p q = grind (arith, take-map, drop-map, no-gaps)

pub wanted-none : (v : PlainTerminal) (f : ℕ) (text : List ℕ) → (window_at v f).rasp ≡ map Some text → wanted v f ≡ None
wanted-none v f text e =
    let hole : hole_within (window_at v f).rasp (window_at v f).view_start (view_end (window_at v f)) ≡ None =
    ap (λ r. hole_within r (window_at v f).view_start (view_end (window_at v f))) e ∙ no-hole text (window_at v f).view_start (view_end (window_at v f)) in
    rw hole (if-same _ None)

pub no-gaps-shown : (v : PlainTerminal) (f : ℕ) (text : List ℕ) → (window_at v f).rasp ≡ map Some text → gaps_shown v f ≡ []
no-gaps-shown v f text e =
    let w = window_at v f in
    ap (λ r. stretches r w.view_start (view_end w) most_requests) e
    ∙ stretches-none (map Some text) w.view_start (view_end w) most_requests (sym (ap (option_map front_of) (no-hole text w.view_start (view_end w))))

-- ## What is left for the host, where no runes join and nothing is asked for

abbrev pub IsApart : PlainTerminal → UserEvent → Type 0
IsApart t (Typed f []) = Unit {0}
IsApart t (Typed f (c ∷ s)) = has_empty_dot t f ≡ true → joins t.unsent f (window_at t f).dot.0 (c ∷ s) ≡ false
IsApart t (View f a n) = wanted (put_window t f (record (window_at t f) { view_start = a; view_length = n })) f ≡ None
IsApart t (Load f a n) = gaps_shown (put_window t f (record (window_at t f) { view_start = a; view_length = n })) f ≡ []
IsApart t _ = Unit {0}

cuts-keep : (t : PlainTerminal) (f : ℕ) → has_empty_dot t f ≡ true → cuts_dot t f ≡ (t, [])
cuts-keep t f e = rw e refl

apart-cut : (t : PlainTerminal) (f : ℕ) (s : List ℕ) → (has_empty_dot t f ≡ true → joins t.unsent f (window_at t f).dot.0 s ≡ false)
    → joins (cuts_dot t f).0.unsent f (window_at t f).dot.0 s ≡ false
apart-cut t f s a = by (has_empty_dot t f) refl
  where
    by : (b : Bool) → has_empty_dot t f ≡ b → joins (cuts_dot t f).0.unsent f (window_at t f).dot.0 s ≡ false
    by true e = ap (λ (m : Made). joins m.0.unsent f (window_at t f).dot.0 s) (cuts-keep t f e) ∙ a e
    by false e = ap (λ (o : Option Unsent). joins o f (window_at t f).dot.0 s) (cuts-flush t f e)

-- the cut of the dot, and then one message
then-tail : (t : PlainTerminal) (f : ℕ) (next : PlainTerminal → Made) (m : Tmesg) → tail (next (cuts_dot t f).0) ≡ unsent_message (cuts_dot t f).0.unsent ++ m ∷ []
    → tail (made_then (cuts_dot t f) next) ≡ unsent_message t.unsent ++ (cut_message f (window_at t f).dot ++ m ∷ [])
then-tail t f next m e =
    let cut = cuts_dot t f in
    append_assoc cut.1 (next cut.0).1 (unsent_message (next cut.0).0.unsent) ∙ ap (λ (ms : List Tmesg). cut.1 ++ ms) e
    ∙ sym (append_assoc cut.1 (unsent_message cut.0.unsent) (m ∷ [])) ∙ ap (λ (ms : List Tmesg). ms ++ m ∷ []) (cuts-tail t f)
    ∙ append_assoc (unsent_message t.unsent) (cut_message f (window_at t f).dot) (m ∷ [])

pub tail-apart : (t : PlainTerminal) (e : UserEvent) → IsApart t e → tail (event_outcome t e) ≡ unsent_message t.unsent ++ told t e
unfolding made_by_type made_by_cut made_by_paste made_by_snarf made_by_view made_by_load made_by_edit all_wanted requested flushed
tail-apart t (Typed f []) a = ap (λ (ms : List Tmesg). ms ++ unsent_message (cuts_dot t f).0.unsent) (append-nil (cuts_dot t f).1) ∙ cuts-tail t f
tail-apart t (Typed f (c ∷ s)) a =
    let p = (window_at t f).dot.0 in
    then-tail t f (λ u. types u f p (c ∷ s)) (Ttype f p (c ∷ s)) (types-apart (cuts_dot t f).0 f p (c ∷ s) (apart-cut t f (c ∷ s) a))
tail-apart t (Select f a b) x = sym (append-nil (unsent_message t.unsent))
tail-apart t (Cut f) a = by (has_empty_dot t f)
  where
    p : ℕ
    p = (window_at t f).dot.0

    q : ℕ
    q = (window_at t f).dot.1

    by : (b : Bool) → tail (if b then (t, []) else sends t (λ u. cut_rasp u f p q) (Tsnarf f p q ∷ Tcut f p q ∷ []))
        ≡ unsent_message t.unsent ++ (if b then [] else Tsnarf f p q ∷ Tcut f p q ∷ [])
    by true = sym (append-nil (unsent_message t.unsent))
    by false =
        ap (λ (o : Option Unsent). (unsent_message t.unsent ++ Tsnarf f p q ∷ Tcut f p q ∷ []) ++ unsent_message (moved_unsent f (place_after_del p q) o)) (unsent-flushed t)
        ∙ append-nil (unsent_message t.unsent ++ Tsnarf f p q ∷ Tcut f p q ∷ [])
tail-apart t (Paste f) a =
    let p = (window_at t f).dot.0 in
    then-tail t f (λ u. sends u unchanged (Tpaste f p ∷ [])) (Tpaste f p) (sent-tail (cuts_dot t f).0 (Tpaste f p))
tail-apart t (Snarf f) a = by (has_empty_dot t f)
  where
    p : ℕ
    p = (window_at t f).dot.0

    q : ℕ
    q = (window_at t f).dot.1

    by : (b : Bool) → tail (if b then (t, []) else sends t unchanged (Tsnarf f p q ∷ [])) ≡ unsent_message t.unsent ++ (if b then [] else Tsnarf f p q ∷ [])
    by true = sym (append-nil (unsent_message t.unsent))
    by false = sent-tail t (Tsnarf f p q)
tail-apart t (View f a n) x = ap (λ (o : Option Tmesg). tail (sends_if o (put_window t f (record (window_at t f) { view_start = a; view_length = n })))) x ∙ sym (append-nil (unsent_message t.unsent))
tail-apart t (Load f a n) x =
    ap (λ (xs : List (ℕ × ℕ)). tail (sends_all (requests_for f xs) (put_window t f (record (window_at t f) { view_start = a; view_length = n })))) x
    ∙ sym (append-nil (unsent_message t.unsent))
tail-apart t (Edit f p q s) a = edit-tail t f p q s
tail-apart t Flush a = ap (λ (o : Option Unsent). unsent_message t.unsent ++ unsent_message o) (unsent-flushed t)
tail-apart t (SetSnarf s) a = sent-tail t (Tsetsnarf s)
tail-apart t (Look f) a = sent-tail t (about_dot t.files f Tlook)
tail-apart t (Search f) a = sent-tail t (about_dot t.files f Tsearch)
tail-apart t (Send f) a = sent-tail t (about_dot t.files f Tsend)
tail-apart t (Dclick f p) a = sent-tail t (Tdclick f p)
tail-apart t (Scroll f n) a = sent-tail t (Torigin f (window_at t f).view_start n)
tail-apart t (Open f) a = sent-tail t (Tstartfile f)
tail-apart t (Close f) a = sent-tail t (Tclose f)
tail-apart t (Write f) a = sent-tail t (Twrite f)
tail-apart t (Work f) a = sent-tail t (about_dot t.files f Tworkfile)
tail-apart t OpenCmd a = sent-tail t Tstartcmdfile
tail-apart t New a = sent-tail t Tstartnewfile
tail-apart t Exit a = sent-tail t Texit
tail-apart t (Check f) a = sent-tail t (Tcheck f)
tail-apart t GetSnarf a = sent-tail t Tstartsnarf
tail-apart t (Version v) a = sent-tail t (Tversion v)

-- ## Where an event leads

-- what was made of an event comes to what the change and the messages of the event come to
abbrev pub Comes : PlainHost → PlainTerminal → List Tmesg → List Hmesg → UserEvent → Type 0
Comes h t up down e =
    come_to h (event_outcome t e).0 (up ++ (event_outcome t e).1) down ≡ answered_with h (altered t e) down (answers h ((up ++ unsent_message t.unsent) ++ told t e))

lined : (h : PlainHost) (made : Made) (u : PlainTerminal) (up : List Tmesg) (down : List Hmesg) (line : List Tmesg) → sight made.0 ≡ sight u → tail made ≡ line
    → come_to h made.0 (up ++ made.1) down ≡ answered_with h u down (answers h (up ++ line))
lined h made u up down line e q =
    answered-alike h made.0 u down (answers h ((up ++ made.1) ++ unsent_message made.0.unsent)) e
    ∙ ap (λ (ms : List Tmesg). answered_with h u down (answers h ms)) (append_assoc up made.1 (unsent_message made.0.unsent) ∙ ap (λ (ms : List Tmesg). up ++ ms) q)

comes-apart : (h : PlainHost) (t : PlainTerminal) (up : List Tmesg) (down : List Hmesg) (e : UserEvent) → Passed t e → IsApart t e → Comes h t up down e
comes-apart h t up down e p a =
    lined h (event_outcome t e) (altered t e) up down (unsent_message t.unsent ++ told t e) (event-alters t e p) (tail-apart t e a)
    ∙ ap (λ (ms : List Tmesg). answered_with h (altered t e) down (answers h ms)) (sym (append_assoc up (unsent_message t.unsent) (told t e)))

-- and the host answers these messages
pub record Came (h : PlainHost) (t : PlainTerminal) (up : List Tmesg) (down : List Hmesg) (e : UserEvent) : Type 0 where
  pub comes : Comes h t up down e
  pub reply : Reply
  pub folds : answers h ((up ++ unsent_message t.unsent) ++ told t e) ≡ Some reply

pub came-apart : (h : PlainHost) (t : PlainTerminal) (up : List Tmesg) (down : List Hmesg) (e : UserEvent) → Passed t e → IsApart t e
    → InOrder h (event_outcome t e).0 (up ++ (event_outcome t e).1) down → Came h t up down e
came-apart h t up down e p a n =
    let made = event_outcome t e in
    record {
      comes = comes-apart h t up down e p a;
      reply = (n.kept.ahead, n.kept.frames);
      folds =
          ap (answers h) (append_assoc up (unsent_message t.unsent) (told t e) ∙ ap (λ (ms : List Tmesg). up ++ ms) (sym (tail-apart t e a)) ∙ sym (append_assoc up made.1 (unsent_message made.0.unsent)))
          ∙ n.kept.folds;
    }

-- ## Runes that join

module _ (h : PlainHost) (t : PlainTerminal) (up : List Tmesg) (down : List Hmesg) (o : InOrder h t up down) (f c : ℕ) (s : List ℕ) (pass : Passed t (Typed f (c ∷ s)))
    (empty : has_empty_dot t f ≡ true) where
  abbrev p : ℕ
  p = (window_at t f).dot.0

  allowed : (line : Bool) → is_command_line f (c ∷ s) ≡ line → IsAllowed (type_change (if line then CommandLock else NoLock) f p (c ∷ s)) (views t)
  allowed true e = all_free t pass.free (sym (ap (λ (b : Bool). b && is_any_locked t.files) e) ∙ pass.all_unlocked)
  allowed false e = free_at t f pass.free pass.unlocked

  room : (p ≤ length (window_at t f).rasp) × (length (window_at t f).rasp + length (c ∷ s) ≤ max_runes)
  room =
      let tidy = o.tidy f in
      let same = eqb-true p (window_at t f).dot.1 empty in
      let wide = ltb-false max_runes _ pass.room in
      (omega (arith, tidy.0, tidy.1), grind (arith, same, wide))

  two : AllComeToSync h (λ g. changed (change_by (Ttype f p (c ∷ s))) g (view g t)) ((up ++ unsent_message t.unsent) ++ Ttype f p (c ∷ s) ∷ []) down
  two =
      composes h (views t) (up ++ unsent_message t.unsent) down (Ttype f p (c ∷ s)) o.kept pass.here pass.free (allowed (is_command_line f (c ∷ s)) refl)
      (open_free (λ r. (p ≤ length r) × (length r + length (c ∷ s) ≤ max_runes)) t f pass.free pass.opened pass.unlocked room)

  told-is : told t (Typed f (c ∷ s)) ≡ Ttype f p (c ∷ s) ∷ []
  told-is = rw empty refl

  came-joined : (y : Unsent) → t.unsent ≡ Some y → joins t.unsent f p (c ∷ s) ≡ true → Came h t up down (Typed f (c ∷ s))
  unfolding made_by_type
  came-joined y eu j =
      let parts = and_parts ((y.file == f) && (y.place + length y.runes == p)) (nat_le (length y.runes + length (c ∷ s)) most_in_message) (sym (ap (λ (u : Option Unsent). joins u f p (c ∷ s)) eu) ∙ j) in
      let tests = and_parts (y.file == f) (y.place + length y.runes == p) parts.0 in
      let file : y.file ≡ f = eqb-true y.file f tests.0 in
      let place : y.place + length y.runes ≡ p = eqb-true (y.place + length y.runes) p tests.1 in
      let held : IsHeldBack (views t) (Some y) = subst (IsHeldBack (views t)) eu o.unsent in
      let e : UserEvent = Typed f (c ∷ s) in
      let one = Ttype y.file y.place (y.runes ++ c ∷ s) ∷ [] in
      let left : tail (event_outcome t e) ≡ one =
      ap (λ (m : Made). tail (made_then m (λ u. types u f p (c ∷ s)))) (cuts-keep t f empty) ∙ types-joined t y f p (c ∷ s) eu file (omega (arith, place)) j in
      let line : (up ++ unsent_message t.unsent) ++ Ttype f p (c ∷ s) ∷ [] ≡ (up ++ Ttype y.file y.place y.runes ∷ []) ++ Ttype y.file (y.place + length y.runes) (c ∷ s) ∷ [] =
      λ i. (up ++ unsent_message (eu i)) ++ Ttype (sym file i) (sym place i) (c ∷ s) ∷ [] in
      let folds : answers h ((up ++ unsent_message t.unsent) ++ told t e) ≡ Some (two.ahead, two.frames) =
      ap (λ (ms : List Tmesg). answers h ((up ++ unsent_message t.unsent) ++ ms)) told-is ∙ two.folds in
      let same = joined-answers h up y.file y.place c y.runes s (two.ahead, two.frames) held.0 (sym (ap (answers h) line) ∙ two.folds) in
      record {
        comes =
            lined h (event_outcome t e) (altered t e) up down one (event-alters t e pass) left
            ∙ answered-rested h (altered t e) down (answers h (up ++ one)) (answers h ((up ++ unsent_message t.unsent) ++ told t e)) (same ∙ sym (ap rested folds));
        reply = (two.ahead, two.frames);
        folds = folds;
      }

  came-typed : InOrder h (event_outcome t (Typed f (c ∷ s))).0 (up ++ (event_outcome t (Typed f (c ∷ s))).1) down → Came h t up down (Typed f (c ∷ s))
  came-typed n = by t.unsent refl (joins t.unsent f p (c ∷ s)) refl
    where
      by : (u : Option Unsent) → t.unsent ≡ u → (b : Bool) → joins t.unsent f p (c ∷ s) ≡ b → Came h t up down (Typed f (c ∷ s))
      by (Some y) eu true j = came-joined y eu j
      by None eu true j = absurd (true≢false (sym (sym (ap (λ (u : Option Unsent). joins u f p (c ∷ s)) eu) ∙ j)))
      by u eu false j = came-apart h t up down (Typed f (c ∷ s)) pass (λ x. j) n

-- ## A view for which requests are composed

-- a turn opens no file, and closes none
turned-open : (z : PlainTerminal) (f : ℕ) (x : Window → Bool) (y : Window → Window) (g : ℕ) → is_open z f ≡ true → is_open (turned z f (turn x y)) g ≡ is_open z g
turned-open z f x y g o = by (cases f g)
  where
    by : (f ≡ g) ⊎ (f ≢ g) → is_open (turned z f (turn x y)) g ≡ is_open z g
    by (inl e) = sym (ap (λ (k : ℕ). is_open (turned z f (turn x y)) k) e) ∙ opened-turned z f x y ∙ sym o ∙ ap (is_open z) e
    by (inr n) = ap (λ (k : KnownFile). is_some k.window) (known-put_other z f g (turn x y (known_at z f)) n)

module _ (h : PlainHost) (t : PlainTerminal) (up : List Tmesg) (down : List Hmesg) (o : InOrder h t up down) (counts : ℕ → Bool) (marks : (f : ℕ) → MarksGuarded (counts f) f down) where
  -- both sides have the same files open where what is under way has been taken
  shown-opens : (f a n : ℕ) → IsFree (view f t) → is_open t f ≡ true → (g : ℕ)
      → is_open (all_taken (flushed (altered t (View f a n))).0 (down ++ o.kept.frames)) g ≡ (file_at o.kept.ahead.files g).opened
  shown-opens f a n free open_here g =
      let v = altered t (View f a n) in
      let y : Window → Window = λ w. record w { view_start = a; view_length = n } in
      opens-alike (all_taken (flushed v).0 (down ++ o.kept.frames)) (all_taken v (down ++ o.kept.frames)) g (sight-taken (down ++ o.kept.frames) (flushed v).0 v (sight-flushed v))
      ∙ opens-alike (all_taken v (down ++ o.kept.frames)) (turned (term_ahead h t up down o) f (turn (λ w. false) y)) g
      (past-frames f (λ w. false) y (down ++ o.kept.frames) t (gentle-ahead h t up down o counts marks f free))
      ∙ turned-open (term_ahead h t up down o) f (λ w. false) y g (open-ahead h t up down o counts marks f free ∙ open_here)
      ∙ synced-open (term_ahead h t up down o) o.kept.ahead.files g _ _ (synced-ahead h t up down o g)

  came-viewed : (f a n : ℕ) → Passed t (View f a n) → (x : Tmesg) → wanted (put_window t f (record (window_at t f) { view_start = a; view_length = n })) f ≡ Some x
      → InOrder h (event_outcome t (View f a n)).0 (up ++ (event_outcome t (View f a n)).1) down → Came h t up down (View f a n)
  unfolding made_by_view requested
  came-viewed f a n pass x e later = record { comes = sym asked ∙ ap (λ (ms : List Tmesg). answered_with h v down (answers h ms)) (sym (append-nil (up ++ unsent_message t.unsent))); reply = (o.kept.ahead, o.kept.frames); folds = ap (answers h) (append-nil (up ++ unsent_message t.unsent)) ∙ o.kept.folds }
    where
      v : PlainTerminal
      v = altered t (View f a n)

      z : PlainTerminal
      z = all_taken (flushed v).0 (down ++ o.kept.frames)

      opens : (g : ℕ) → is_open z g ≡ (file_at o.kept.ahead.files g).opened
      opens = shown-opens f a n (free_at t f pass.free pass.unlocked) (not-false (is_open t f) pass.opened)

      line : List Tmesg
      line = up ++ ((flushed v).1 ++ x ∷ [])

      sent : InOrder h (composed (flushed v).0 x) line down
      sent = subst (λ (m : Made). InOrder h m.0 (up ++ m.1) down) (ap (λ (q : Option Tmesg). sends_if q v) e) later

      both : answers h line ≡ Some (sent.kept.ahead, sent.kept.frames)
      both =
          sym (ap (λ (u : Option Unsent). answers h (line ++ unsent_message u)) (unsent-composed (flushed v).0 x ∙ unsent-flushed v) ∙ ap (answers h) (append-nil line))
          ∙ sent.kept.folds

      asked : come_to h v up down ≡ come_to h (event_outcome t (View f a n)).0 (up ++ (event_outcome t (View f a n)).1) down
      asked =
          sends-silent h v up down x (o.kept.ahead, o.kept.frames) (sent.kept.ahead, sent.kept.frames) o.kept.folds both (fits-flushed v x (wanted-is v f x e))
          (silent-asked o.kept.ahead z v x (wanted-is v f x e) opens)
          ∙ ap (λ (q : Option Tmesg). come_to h (sends_if q v).0 (up ++ (sends_if q v).1) down) (sym e)

  came-loaded : (f a n : ℕ) → Passed t (Load f a n) → (x : ℕ × ℕ) (xs : List (ℕ × ℕ))
      → gaps_shown (put_window t f (record (window_at t f) { view_start = a; view_length = n })) f ≡ x ∷ xs
      → InOrder h (event_outcome t (Load f a n)).0 (up ++ (event_outcome t (Load f a n)).1) down → Came h t up down (Load f a n)
  unfolding made_by_load all_wanted
  came-loaded f a n pass x xs e later = record { comes = sym asked ∙ ap (λ (ms : List Tmesg). answered_with h v down (answers h ms)) (sym (append-nil (up ++ unsent_message t.unsent))); reply = (o.kept.ahead, o.kept.frames); folds = ap (answers h) (append-nil (up ++ unsent_message t.unsent)) ∙ o.kept.folds }
    where
      v : PlainTerminal
      v = altered t (Load f a n)

      ms : List Tmesg
      ms = requests_for f (x ∷ xs)

      line : List Tmesg
      line = up ++ ((flushed v).1 ++ ms)

      sent : InOrder h (all_composed (flushed v).0 ms) line down
      sent = subst (λ (m : Made). InOrder h m.0 (up ++ m.1) down) (ap (λ (gaps : List (ℕ × ℕ)). sends_all (requests_for f gaps) v) e) later

      both : answers h line ≡ Some (sent.kept.ahead, sent.kept.frames)
      both =
          sym (ap (λ (u : Option Unsent). answers h (line ++ unsent_message u)) (unsent-all (flushed v).0 ms ∙ unsent-flushed v) ∙ ap (answers h) (append-nil line))
          ∙ sent.kept.folds

      open_there : is_open (flushed v).0 f ≡ true
      open_there = opens-alike (flushed v).0 v f (sight-flushed v) ∙ opened-put t f (record (window_at t f) { view_start = a; view_length = n })

      asked : come_to h v up down ≡ come_to h (event_outcome t (Load f a n)).0 (up ++ (event_outcome t (Load f a n)).1) down
      asked =
          sends-requests h v f (x ∷ xs) up down (o.kept.ahead, o.kept.frames) (sent.kept.ahead, sent.kept.frames) open_there o.kept.folds both
          (shown-opens f a n (free_at t f pass.free pass.unlocked) (not-false (is_open t f) pass.opened) f)
          ∙ ap (λ (gaps : List (ℕ × ℕ)). come_to h (sends_all (requests_for f gaps) v).0 (up ++ (sends_all (requests_for f gaps) v).1) down) (sym e)

  came : (e : UserEvent) → Passed t e → InOrder h (event_outcome t e).0 (up ++ (event_outcome t e).1) down → Came h t up down e
  came (Typed f []) p n = came-apart h t up down (Typed f []) p tt n
  came (Typed f (c ∷ s)) p n = by (has_empty_dot t f) refl
    where
      by : (b : Bool) → has_empty_dot t f ≡ b → Came h t up down (Typed f (c ∷ s))
      by true e = came-typed h t up down o f c s p e n
      by false e = came-apart h t up down (Typed f (c ∷ s)) p (λ x. absurd (true≢false (sym x ∙ e))) n
  came (View f a k) p n = by (wanted (put_window t f (record (window_at t f) { view_start = a; view_length = k })) f) refl
    where
      by : (x : Option Tmesg) → wanted (put_window t f (record (window_at t f) { view_start = a; view_length = k })) f ≡ x → Came h t up down (View f a k)
      by None e = came-apart h t up down (View f a k) p e n
      by (Some x) e = came-viewed f a k p x e n
  came (Load f a k) p n = by (gaps_shown (put_window t f (record (window_at t f) { view_start = a; view_length = k })) f) refl
    where
      by : (xs : List (ℕ × ℕ)) → gaps_shown (put_window t f (record (window_at t f) { view_start = a; view_length = k })) f ≡ xs → Came h t up down (Load f a k)
      by [] e = came-apart h t up down (Load f a k) p e n
      by (x ∷ xs) e = came-loaded f a k p x xs e n
  came e p n = came-apart h t up down e p tt n

  -- ## Ahead

  -- what is under way leaves alone the file that an event changes
  abbrev IsGentleTurn : Option Turning → Type 0
  IsGentleTurn None = Unit {0}
  IsGentleTurn (Some u) = AreGentle u.file (down ++ o.kept.frames)

  gentle-turn : (e : UserEvent) → Passed t e → IsGentleTurn (turn_of e)
  gentle-turn (Typed f []) p = gentle-ahead h t up down o counts marks f (free_at t f p.free p.unlocked)
  gentle-turn (Typed f (c ∷ s)) p = gentle-ahead h t up down o counts marks f (free_at t f p.free p.unlocked)
  gentle-turn (Select f a b) p = gentle-ahead h t up down o counts marks f (free_at t f p.free p.unlocked)
  gentle-turn (Cut f) p = gentle-ahead h t up down o counts marks f (free_at t f p.free p.unlocked)
  gentle-turn (Paste f) p = gentle-ahead h t up down o counts marks f (free_at t f p.free p.unlocked)
  gentle-turn (View f a n) p = gentle-ahead h t up down o counts marks f (free_at t f p.free p.unlocked)
  gentle-turn (Load f a n) p = gentle-ahead h t up down o counts marks f (free_at t f p.free p.unlocked)
  gentle-turn (Edit f a b s) p = by (a == b && is_empty s)
    where
      by : (none : Bool) → IsGentleTurn (edit_turn none f a b s)
      by true = tt
      by false = gentle-ahead h t up down o counts marks f (free_at t f p.free p.unlocked)
  gentle-turn e p = tt

  past-all : (u : Option Turning) → IsGentleTurn u → sight (all_taken (altered_by t u) (down ++ o.kept.frames)) ≡ sight (altered_by (term_ahead h t up down o) u)
  past-all None g = refl
  past-all (Some u) g = past-frames u.file u.mark u.window (down ++ o.kept.frames) t g

  window-same : {A : Type 0} (part_of : Window → A) → ((text : List ℕ) (w : Window) → part_of (whole_window text w) ≡ part_of w) → (f : ℕ) (e : UserEvent)
      → t.command_lock ≡ false → nat_lt 0 (window_at t f).locks ≡ false → not (is_open t f) ≡ false
      → part_of (window_at (term_rest h t up down o counts marks) f) ≡ part_of (window_at t f)
  window-same part_of same f e c k n =
      ap part_of (window-rest h t up down o counts marks f (free_at t f c k) (not-false (is_open t f) n)) ∙ same (file_at o.kept.ahead.files f).text (window_at t f)

  told-rest : (e : UserEvent) → Passed t e → told (term_rest h t up down o counts marks) e ≡ told t e
  told-rest (Typed f []) p = window-same (λ w. cut_message f w.dot) (λ text w. refl) f Flush p.free p.unlocked p.opened
  told-rest (Typed f (c ∷ s)) p = window-same (λ w. cut_message f w.dot ++ Ttype f w.dot.0 (c ∷ s) ∷ []) (λ text w. refl) f Flush p.free p.unlocked p.opened
  told-rest (Cut f) p =
      window-same (λ w. if w.dot.0 == w.dot.1 then [] else Tsnarf f w.dot.0 w.dot.1 ∷ Tcut f w.dot.0 w.dot.1 ∷ []) (λ text w. refl) f Flush p.free p.unlocked p.opened
  told-rest (Paste f) p = window-same (λ w. cut_message f w.dot ++ Tpaste f w.dot.0 ∷ []) (λ text w. refl) f Flush p.free p.unlocked p.opened
  told-rest (Snarf f) p = window-same (λ w. if w.dot.0 == w.dot.1 then [] else Tsnarf f w.dot.0 w.dot.1 ∷ []) (λ text w. refl) f Flush p.free p.unlocked p.opened
  told-rest (Look f) p = window-same (λ w. Tlook f w.dot.0 w.dot.1 ∷ []) (λ text w. refl) f Flush p.free p.unlocked p.opened
  told-rest (Search f) p = window-same (λ w. Tsearch f w.dot.0 w.dot.1 ∷ []) (λ text w. refl) f Flush p.free p.unlocked p.opened
  told-rest (Send f) p = window-same (λ w. Tsend f w.dot.0 w.dot.1 ∷ []) (λ text w. refl) f Flush p.free p.unlocked p.opened
  told-rest (Work f) p = window-same (λ w. Tworkfile f w.dot.0 w.dot.1 ∷ []) (λ text w. refl) f Flush p.free p.unlocked p.opened
  told-rest (Scroll f n) p = window-same (λ w. Torigin f w.view_start n ∷ []) (λ text w. refl) f Flush p.free p.unlocked p.opened
  told-rest e p = refl

  -- at rest no runes join, and nothing is asked for
  apart-rest : (e : UserEvent) → Passed t e → IsApart (term_rest h t up down o counts marks) e
  apart-rest (Typed f []) p = tt
  apart-rest (Typed f (c ∷ s)) p = λ x. refl
  apart-rest (View f a n) p =
      let u = term_rest h t up down o counts marks in
      let w : Window = record (window_at u f) { view_start = a; view_length = n } in
      wanted-none (put_window u f w) f (file_at o.kept.ahead.files f).text
      (ap (λ (x : Window). x.rasp) (window-put u f w)
      ∙ ap (λ (x : Window). x.rasp) (window-rest h t up down o counts marks f (free_at t f p.free p.unlocked) (not-false (is_open t f) p.opened)))
  apart-rest (Load f a n) p =
      let u = term_rest h t up down o counts marks in
      let w : Window = record (window_at u f) { view_start = a; view_length = n } in
      no-gaps-shown (put_window u f w) f (file_at o.kept.ahead.files f).text
      (ap (λ (x : Window). x.rasp) (window-put u f w)
      ∙ ap (λ (x : Window). x.rasp) (window-rest h t up down o counts marks f (free_at t f p.free p.unlocked) (not-false (is_open t f) p.opened)))
  apart-rest e p = tt

  -- the change and the messages, after all that is under way, and at rest
  meets : (e : UserEvent) → Passed t e → (x : Reply) → answers h ((up ++ unsent_message t.unsent) ++ told t e) ≡ Some x
      → answered_with h (altered t e) down (answers h ((up ++ unsent_message t.unsent) ++ told t e))
      ≡ answered_with (rest o.kept.ahead) (altered (term_rest h t up down o counts marks) e) [] (answers (rest o.kept.ahead) (told (term_rest h t up down o counts marks) e))
  meets e p x folds = ap (answered_with h (altered t e) down) folds ∙ ap (λ (r : Reply). at_rest r.0 (all_taken (altered t e) (down ++ r.1))) whole
      ∙ rests last.0 (all_taken (altered t e) (down ++ (o.kept.frames ++ last.1))) (all_taken (altered u e) last.1) same
      ∙ sym (answered-rested a0 (altered u e) [] (answers a0 (told u e)) (Some last) (ap (λ (ms : List Tmesg). rested (answers a0 ms)) (told-rest e p) ∙ answers-rested (told t e) a0 o.kept.ahead refl ∙ ap rested later))
    where
      a0 : PlainHost
      a0 = rest o.kept.ahead

      u : PlainTerminal
      u = term_rest h t up down o counts marks

      parts : Parted h (up ++ unsent_message t.unsent) (told t e) x
      parts = parted h (up ++ unsent_message t.unsent) (told t e) x folds

      last : Reply
      last = parts.last

      first : parts.first ≡ (o.kept.ahead, o.kept.frames)
      first = same_Some _ _ (sym parts.now ∙ o.kept.folds)

      later : answers o.kept.ahead (told t e) ≡ Some last
      later = sym (ap (λ (r : Reply). answers r.0 (told t e)) first) ∙ parts.later

      whole : x ≡ (last.0, o.kept.frames ++ last.1)
      whole = parts.whole ∙ ap (λ (r : Reply). (last.0, r.1 ++ last.1)) first

      same : sight (all_taken (altered t e) (down ++ (o.kept.frames ++ last.1))) ≡ sight (all_taken (altered u e) last.1)
      same =
          ap (λ (fs : List Hmesg). sight (all_taken (altered t e) fs)) (sym (append_assoc down o.kept.frames last.1))
          ∙ ap sight (taken-append (down ++ o.kept.frames) last.1 (altered t e))
          ∙ sight-taken last.1 (all_taken (altered t e) (down ++ o.kept.frames)) (altered u e)
          (past-all (turn_of e) (gentle-turn e p)
          ∙ altered-alike (turn_of e) (term_ahead h t up down o) u (seen-turns e) (sym (sight-rest o.kept.ahead (term_ahead h t up down o))))

  -- an event that acts
  pub acts : (e : UserEvent) → first_of_checks (event_checks t e) ≡ None → InOrder h (event_outcome t e).0 (up ++ (event_outcome t e).1) down
      → come_to h (event_outcome t e).0 (up ++ (event_outcome t e).1) down ≡ carried (come_to h t up down) e
  acts e q n =
      let p = passed t e q in
      let here = came e p n in
      let u = term_rest h t up down o counts marks in
      let passes = passes-rest h t up down o counts marks e q in
      here.comes ∙ meets e p here.reply here.folds ∙ sym (comes-apart (rest o.kept.ahead) u [] [] e (passed u e passes) (apart-rest e p))
      ∙ sym (ap (λ (v : Option Verdict). carried_unless v (at_rest o.kept.ahead (term_ahead h t up down o)) (event_outcome u e)) passes)
      ∙ sym (ap (λ (x : PlainEditor). carried x e) (come-to-is h t up down o))

  -- an event that is refused
  pub refuses : (e : UserEvent) (r : Refusal) → first_of_checks (event_checks t e) ≡ Some (Refuses r) → come_to h t up down ≡ carried (come_to h t up down) e
  refuses e r q =
      let u = term_rest h t up down o counts marks in
      come-to-is h t up down o
      ∙ sym (ap (λ (v : Option Verdict). carried_unless v (at_rest o.kept.ahead (term_ahead h t up down o)) (event_outcome u e)) (refused-rest h t up down o counts marks e r q))
      ∙ sym (ap (λ (x : PlainEditor). carried x e) (come-to-is h t up down o))
