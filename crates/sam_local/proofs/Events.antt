-- What an event changes at the terminal, and what it leaves for the host.
use Rattle.sam_crossing.proofs.Common.{◌≡◌, ℕ, ◌+◌, ◌≤◌, Bool, true, false, not, ◌==◌, ◌||◌, if◌then◌else◌, List, [], ◌∷◌, ◌++◌, length, map, Option, Some, None, is_some, unwrap_or, refl, sym, ap, ◌∙◌, true≢false, arith, append_assoc, append-nil, not-false, eq-eqb, Tmesg, Tversion, Tstartcmdfile, Tcheck, Torigin, Tstartfile, Tworkfile, Ttype, Tcut, Tpaste, Tsnarf, Tstartnewfile, Twrite, Tclose, Tlook, Tsearch, Tsend, Tdclick, Tstartsnarf, Tsetsnarf, Texit, Lock, FileLock, lock_of, Window, KnownFile, Unsent, is_command_line, UserEvent, PlainTerminal, Made, known_at, window_at, is_open, put_known, put_window, window_after_ins, window_after_del, has_empty_dot, cut_rasp, cuts_dot, moved_unsent, flushed, unsent_message, sends, unchanged, requested, joins, joined, typed_rasp, types, event_outcome, made_by_type, made_by_cut, made_by_paste, made_by_snarf, made_by_view, made_by_load, made_by_edit, edit_messages, typed_pieces, pieces, replaced, all_composed, is_empty, ◌&&◌, all_wanted, gaps_shown, requests_for, sends_all, blank_window, composed, place_after_del, place_after_ins}
use Rattle.sam_term.specs.declared.event.UserEvent.TheVariants.{Typed, Select, Cut, Paste, Snarf, Look, Search, Send, Dclick, Scroll, View, Load, Edit, Open, Close, Write, Work, OpenCmd, New, Exit, Check, GetSnarf, SetSnarf, Version, Flush}
use Rattle.sam_term.specs.Events.{about_dot, message_of}
use Rattle.sam_term.specs.Term.{cut_message, made_then, kept_unsent, wanted, sends_if}
use Rattle.sam_term.proofs.Edits.{unsent-all}
use Rattle.sam_crossing.proofs.Passing.{Passed}
use Rattle.sam_crossing.proofs.Views.{unsent-flushed, unsent-composed}
use Rattle.sam_local.specs.Local.{whole_window}
use Rattle.sam_local.proofs.Sights.{sight, IsSeen, turned}
use Rattle.sam_local.proofs.Frames.{IsSeenWindow, bare-window, in_window, sight-turned, together, turn, known-put_same}
use Rattle.sam_local.proofs.Ahead.{sight-window, opened-put, LockFits, sight-composed, sight-flushed}
use Rattle.sam_local.proofs.Takes.{open-sight, wanted-is, fits-flushed, sight-requests}

-- ## Turns

-- what an event changes in the window of a file, and whether the file is marked as changed
pub record Turning : Type 0 where
  pub file : ℕ
  pub mark : Window → Bool
  pub window : Window → Window

abbrev pub is_cut : Window → Bool
is_cut w = not (w.dot.0 == w.dot.1)

-- a window whose dot goes
abbrev pub cut_window : Window → Window
cut_window w = if w.dot.0 == w.dot.1 then w else window_after_del w w.dot.0 w.dot.1

-- a window in which s comes at p
abbrev pub typed_at : ℕ → List ℕ → Window → Window
typed_at p s w = record (window_after_ins w p (map Some s)) { dot = (p + length s, p + length s) }

abbrev pub typed_window : List ℕ → Window → Window
typed_window s w = typed_at w.dot.0 s (cut_window w)

-- a window in which s comes in the place of what stands from p to q
abbrev pub replaced_window : ℕ → ℕ → List ℕ → Window → Window
replaced_window p q s w = window_after_ins (window_after_del w p q) p (map Some s)

-- an edit, where nothing goes and nothing comes or not
abbrev pub edit_turn : Bool → ℕ → ℕ → ℕ → List ℕ → Option Turning
edit_turn true f p q s = None
edit_turn false f p q s = Some (record { file = f; mark = λ w. true; window = replaced_window p q s })

abbrev pub turn_of : UserEvent → Option Turning
turn_of (Typed f []) = Some (record { file = f; mark = is_cut; window = cut_window })
turn_of (Typed f (c ∷ s)) = Some (record { file = f; mark = λ w. true; window = typed_window (c ∷ s) })
turn_of (Select f p q) = Some (record { file = f; mark = λ w. false; window = λ w. record w { dot = (p, q) } })
turn_of (Cut f) = Some (record { file = f; mark = is_cut; window = cut_window })
turn_of (Paste f) = Some (record { file = f; mark = is_cut; window = cut_window })
turn_of (View f p n) = Some (record { file = f; mark = λ w. false; window = λ w. record w { view_start = p; view_length = n } })
turn_of (Load f p n) = Some (record { file = f; mark = λ w. false; window = λ w. record w { view_start = p; view_length = n } })
turn_of (Edit f p q s) = edit_turn (p == q && is_empty s) f p q s
turn_of _ = None

abbrev pub altered_by : PlainTerminal → Option Turning → PlainTerminal
altered_by t None = t
altered_by t (Some u) = turned t u.file (turn u.mark u.window)

abbrev pub altered : PlainTerminal → UserEvent → PlainTerminal
altered t e = altered_by t (turn_of e)

-- a turn of which the sight tells all
abbrev pub IsSeenTurn : Option Turning → Type 0
IsSeenTurn None = Unit {0}
IsSeenTurn (Some u) = ((w : Window) → u.mark (whole_window [] w) ≡ u.mark w) × IsSeenWindow u.window

seen-cut : IsSeenWindow cut_window
seen-cut w = by (w.dot.0 == w.dot.1)
  where
    by : (b : Bool) → whole_window [] (if b then whole_window [] w else window_after_del (whole_window [] w) w.dot.0 w.dot.1)
        ≡ whole_window [] (if b then w else window_after_del w w.dot.0 w.dot.1)
    by true = refl
    by false = refl

seen-typed : (s : List ℕ) → IsSeenWindow (typed_window s)
seen-typed s w = ap (λ (x : Window). whole_window [] (typed_at w.dot.0 s x)) (seen-cut w)

seen-edit : (none : Bool) (f p q : ℕ) (s : List ℕ) → IsSeenTurn (edit_turn none f p q s)
seen-edit true f p q s = tt
seen-edit false f p q s = ((λ w. refl), (λ w. refl))

pub seen-turns : (e : UserEvent) → IsSeenTurn (turn_of e)
seen-turns (Typed f []) = ((λ w. refl), seen-cut)
seen-turns (Typed f (c ∷ s)) = ((λ w. refl), seen-typed (c ∷ s))
seen-turns (Select f p q) = ((λ w. refl), (λ w. refl))
seen-turns (Cut f) = ((λ w. refl), seen-cut)
seen-turns (Paste f) = ((λ w. refl), seen-cut)
seen-turns (View f p n) = ((λ w. refl), (λ w. refl))
seen-turns (Load f p n) = ((λ w. refl), (λ w. refl))
seen-turns (Edit f p q s) = seen-edit (p == q && is_empty s) f p q s
seen-turns _ = tt

pub seen-turn : (x : Window → Bool) (y : Window → Window) → ((w : Window) → x (whole_window [] w) ≡ x w) → IsSeenWindow y → IsSeen (turn x y)
seen-turn x y ex ey known =
    let w = unwrap_or known.window blank_window in
    (λ i. record known { changed = x (bare-window known.window i) || known.changed; window = Some (whole_window [] (y (bare-window known.window i))) })
    ∙ (λ i. record known { changed = ex w i || known.changed; window = Some (ey w i) })

pub turned-alike : (t u : PlainTerminal) (f : ℕ) (d : KnownFile → KnownFile) → IsSeen d → sight t ≡ sight u → sight (turned t f d) ≡ sight (turned u f d)
turned-alike t u f d s e = sym (sight-turned t f d s) ∙ ap (λ (x : PlainTerminal). sight (turned x f d)) e ∙ sight-turned u f d s

pub altered-alike : (o : Option Turning) (t u : PlainTerminal) → IsSeenTurn o → sight t ≡ sight u → sight (altered_by t o) ≡ sight (altered_by u o)
altered-alike None t u s e = e
altered-alike (Some o) t u s e = turned-alike t u o.file (turn o.mark o.window) (seen-turn o.mark o.window s.0 s.1) e

-- ## What an event changes

pub opens-alike : (t u : PlainTerminal) (f : ℕ) → sight t ≡ sight u → is_open t f ≡ is_open u f
opens-alike t u f e = sym (open-sight t f) ∙ ap (λ (x : PlainTerminal). is_open x f) e ∙ open-sight u f

pub opened-turned : (t : PlainTerminal) (f : ℕ) (x : Window → Bool) (y : Window → Window) → is_open (turned t f (turn x y)) f ≡ true
opened-turned t f x y = ap (λ (known : KnownFile). is_some known.window) (known-put_same t f (turn x y (known_at t f)))

fits-alike : (l : Lock) (t u : PlainTerminal) → sight t ≡ sight u → LockFits l t → LockFits l u
fits-alike (FileLock f) t u e o = sym (opens-alike t u f e) ∙ o
fits-alike l t u e o = tt

sent-alters : (t : PlainTerminal) (m : Tmesg) → LockFits (lock_of m) t → sight (sends t unchanged (m ∷ [])).0 ≡ sight t
sent-alters t m fits = sight-composed (flushed t).0 m (fits-alike (lock_of m) t (flushed t).0 (sym (sight-flushed t)) fits) ∙ sight-flushed t

cut-alters : (t : PlainTerminal) (f p q : ℕ) → sight (cut_rasp (flushed t).0 f p q) ≡ sight (turned t f (turn (λ w. true) (λ w. window_after_del w p q)))
cut-alters t f p q =
    let y : Window → Window = λ w. window_after_del w p q in
    ap sight (together (flushed t).0 f (λ known. record known { changed = true }) (in_window y))
    ∙ turned-alike (flushed t).0 t f (turn (λ w. true) y) (seen-turn (λ w. true) y (λ w. refl) (λ w. refl)) (sight-flushed t)

-- a dot that is empty is no change
pub turn_nothing : (t : PlainTerminal) (f : ℕ) → is_open t f ≡ true → (b : Bool) → b ≡ true
    → sight (put_known t f (record (known_at t f) { changed = not b || (known_at t f).changed; window = Some (if b then window_at t f else window_after_del (window_at t f) (window_at t f).dot.0 (window_at t f).dot.1) })) ≡ sight t
turn_nothing t f o true e = sight-window t f (window_at t f) o refl
turn_nothing t f o false e = absurd (true≢false (sym e))

turn_something : (t : PlainTerminal) (f : ℕ) → (b : Bool) → b ≡ false
    → sight (turned t f (turn (λ w. true) (λ w. window_after_del w (window_at t f).dot.0 (window_at t f).dot.1)))
    ≡ sight (put_known t f (record (known_at t f) { changed = not b || (known_at t f).changed; window = Some (if b then window_at t f else window_after_del (window_at t f) (window_at t f).dot.0 (window_at t f).dot.1) }))
turn_something t f true e = absurd (true≢false e)
turn_something t f false e = refl

cuts-alters : (t : PlainTerminal) (f : ℕ) → is_open t f ≡ true → sight (cuts_dot t f).0 ≡ sight (turned t f (turn is_cut cut_window))
cuts-alters t f o = by (has_empty_dot t f) refl
  where
    p : ℕ
    p = (window_at t f).dot.0

    q : ℕ
    q = (window_at t f).dot.1

    by : (b : Bool) → has_empty_dot t f ≡ b → sight (if b then (t, []) else sends t (λ u. cut_rasp u f p q) (Tcut f p q ∷ [])).0 ≡ sight (turned t f (turn is_cut cut_window))
    by true e = sym (turn_nothing t f o (has_empty_dot t f) e)
    by false e = cut-alters t f p q ∙ turn_something t f (has_empty_dot t f) e

types-alters : (u : PlainTerminal) (f p : ℕ) (s : List ℕ) → sight (types u f p s).0 ≡ sight (turned u f (turn (λ w. true) (typed_at p s)))
types-alters u f p s = sends_line (is_command_line f s) ∙ typed (kept_unsent u f p s).0 ∙ kept (joins u.unsent f p s)
  where
    v : PlainTerminal
    v = (kept_unsent u f p s).0

    sends_line : (b : Bool) → sight (if b then flushed (typed_rasp v f p s) else (typed_rasp v f p s, [])).0 ≡ sight (typed_rasp v f p s)
    sends_line true = sight-flushed (typed_rasp v f p s)
    sends_line false = refl

    c1 : KnownFile → KnownFile
    c1 known = record known { changed = true }

    c2 : KnownFile → KnownFile
    c2 = in_window (λ w. window_after_ins w p (map Some s))

    c3 : KnownFile → KnownFile
    c3 = in_window (λ w. record w { dot = (p + length s, p + length s) })

    typed : (x : PlainTerminal) → sight (typed_rasp x f p s) ≡ sight (turned x f (turn (λ w. true) (typed_at p s)))
    typed x = ap sight (together (turned x f c1) f c2 c3 ∙ together x f c1 (λ known. c3 (c2 known)))

    d : KnownFile → KnownFile
    d = turn (λ w. true) (typed_at p s)

    seen : IsSeen d
    seen = seen-turn (λ w. true) (typed_at p s) (λ w. refl) (λ w. refl)

    kept : (b : Bool) → sight (turned (if b then (record u { unsent = Some (joined u.unsent f p s) }, []) else made_then (flushed u) (λ x. (record x { unsent = Some (joined None f p s) }, []))).0 f d) ≡ sight (turned u f d)
    kept true = refl
    kept false = turned-alike (flushed u).0 u f d seen (sight-flushed u)

-- an event on a file needs it open, unless it opens it
file-open : (t : PlainTerminal) (f : ℕ) → not (is_open t f) ≡ false → is_open t f ≡ true
file-open t f e = not-false (is_open t f) e

all-alters : (v : PlainTerminal) (f : ℕ) (xs : List (ℕ × ℕ)) → is_open v f ≡ true → sight (sends_all (requests_for f xs) v).0 ≡ sight v
all-alters v f [] o = refl
all-alters v f (x ∷ xs) o = sight-requests (flushed v).0 f (x ∷ xs) (opens-alike (flushed v).0 v f (sight-flushed v) ∙ o) ∙ sight-flushed v

typed-composed : (t : PlainTerminal) (f p : ℕ) (s : List ℕ) → (f == 0) ≡ false → composed t (Ttype f p s) ≡ record t { sent = t.sent + 1 }
typed-composed t f p s e = grind arith

-- messages of an edit take no lock
pieces-alter : (t : PlainTerminal) (f : ℕ) → (f == 0) ≡ false → (xs : List (ℕ × List ℕ)) → sight (all_composed t (typed_pieces f xs)) ≡ sight t
pieces-alter t f e [] = refl
pieces-alter t f e (x ∷ xs) = pieces-alter (composed t (Ttype f x.0 x.1)) f e xs ∙ ap sight (typed-composed t f x.0 x.1 e)

edit-alters : (t : PlainTerminal) (f p q : ℕ) (s : List ℕ) → (f == 0) ≡ false → sight (all_composed t (edit_messages f p q s)) ≡ sight t
edit-alters t f p q s e = by (p == q)
  where
    by : (none : Bool) → sight (all_composed t ((if none then [] else Tcut f p q ∷ []) ++ typed_pieces f (pieces (length s) p s))) ≡ sight t
    by true = pieces-alter t f e (pieces (length s) p s)
    by false = pieces-alter (composed t (Tcut f p q)) f e (pieces (length s) p s)

replaced-alters : (t : PlainTerminal) (f p q : ℕ) (s : List ℕ) → sight (replaced (flushed t).0 f p q s) ≡ sight (turned t f (turn (λ w. true) (replaced_window p q s)))
replaced-alters t f p q s =
    ap sight (together (turned u f marked) f goes comes ∙ together u f marked (λ known. comes (goes known)))
    ∙ turned-alike u t f (turn (λ w. true) (replaced_window p q s)) (seen-turn (λ w. true) (replaced_window p q s) (λ w. refl) (λ w. refl)) (sight-flushed t)
  where
    u : PlainTerminal
    u = (flushed t).0

    marked : KnownFile → KnownFile
    marked known = record known { changed = true }

    goes : KnownFile → KnownFile
    goes = in_window (λ w. window_after_del w p q)

    comes : KnownFile → KnownFile
    comes = in_window (λ w. window_after_ins w p (map Some s))

pub event-alters : (t : PlainTerminal) (e : UserEvent) → Passed t e → sight (event_outcome t e).0 ≡ sight (altered t e)
unfolding made_by_type made_by_cut made_by_paste made_by_snarf made_by_view made_by_load made_by_edit all_wanted requested
event-alters t (Typed f []) p = cuts-alters t f (file-open t f p.opened)
event-alters t (Typed f (c ∷ s)) p =
    let at = (window_at t f).dot.0 in
    types-alters (cuts_dot t f).0 f at (c ∷ s)
    ∙ turned-alike (cuts_dot t f).0 (turned t f (turn is_cut cut_window)) f (turn (λ w. true) (typed_at at (c ∷ s)))
    (seen-turn (λ w. true) (typed_at at (c ∷ s)) (λ w. refl) (λ w. refl)) (cuts-alters t f (file-open t f p.opened))
    ∙ ap sight (together t f (turn is_cut cut_window) (turn (λ w. true) (typed_at at (c ∷ s))))
event-alters t (Select f a b) p = refl
event-alters t (Cut f) pass = by (has_empty_dot t f) refl
  where
    p : ℕ
    p = (window_at t f).dot.0

    q : ℕ
    q = (window_at t f).dot.1

    by : (b : Bool) → has_empty_dot t f ≡ b
        → sight (if b then (t, []) else sends t (λ u. cut_rasp u f p q) (Tsnarf f p q ∷ Tcut f p q ∷ [])).0 ≡ sight (turned t f (turn is_cut cut_window))
    by true e = sym (turn_nothing t f (file-open t f pass.opened) (has_empty_dot t f) e)
    by false e = cut-alters t f p q ∙ turn_something t f (has_empty_dot t f) e
event-alters t (Paste f) p =
    let o = file-open t f p.opened in
    sent-alters (cuts_dot t f).0 (Tpaste f (window_at t f).dot.0) (opens-alike (cuts_dot t f).0 (turned t f (turn is_cut cut_window)) f (cuts-alters t f o) ∙ opened-turned t f is_cut cut_window)
    ∙ cuts-alters t f o
event-alters t (Snarf f) p = by (has_empty_dot t f)
  where
    by : (b : Bool) → sight (if b then (t, []) else sends t unchanged (Tsnarf f (window_at t f).dot.0 (window_at t f).dot.1 ∷ [])).0 ≡ sight t
    by true = refl
    by false = sight-flushed t
event-alters t (Look f) p = sent-alters t (about_dot t.files f Tlook) (file-open t f p.opened)
event-alters t (Search f) p = sent-alters t (about_dot t.files f Tsearch) (file-open t f p.opened)
event-alters t (Dclick f a) p = sent-alters t (Tdclick f a) (file-open t f p.opened)
event-alters t (Scroll f n) p = sent-alters t (Torigin f (window_at t f).view_start n) (file-open t f p.opened)
event-alters t (Write f) p = sent-alters t (Twrite f) (file-open t f p.opened)
event-alters t (View f a n) p = by (wanted v f) refl
  where
    v : PlainTerminal
    v = put_window t f (record (window_at t f) { view_start = a; view_length = n })

    by : (o : Option Tmesg) → wanted v f ≡ o → sight (sends_if o v).0 ≡ sight v
    by None e = refl
    by (Some x) e = sight-composed (flushed v).0 x (fits-flushed v x (wanted-is v f x e)) ∙ sight-flushed v
event-alters t (Load f a n) p =
    let v = put_window t f (record (window_at t f) { view_start = a; view_length = n }) in
    all-alters v f (gaps_shown v f) (opened-put t f (record (window_at t f) { view_start = a; view_length = n }))
event-alters t (Edit f p q s) pass = by (p == q && is_empty s)
  where
    by : (none : Bool) → sight (if none then (t, []) else sends t (λ u. replaced u f p q s) (edit_messages f p q s)).0 ≡ sight (altered_by t (edit_turn none f p q s))
    by true = refl
    by false = edit-alters (replaced (flushed t).0 f p q s) f p q s pass.other ∙ replaced-alters t f p q s
event-alters t Flush p = sight-flushed t
event-alters t (SetSnarf s) p = sent-alters t (Tsetsnarf s) tt
event-alters t (Send f) p = sent-alters t (about_dot t.files f Tsend) tt
event-alters t (Open f) p = sent-alters t (Tstartfile f) tt
event-alters t (Close f) p = sent-alters t (Tclose f) tt
event-alters t (Work f) p = sent-alters t (about_dot t.files f Tworkfile) tt
event-alters t OpenCmd p = sent-alters t Tstartcmdfile tt
event-alters t New p = sent-alters t Tstartnewfile tt
event-alters t Exit p = sent-alters t Texit tt
event-alters t (Check f) p = sent-alters t (Tcheck f) tt
event-alters t GetSnarf p = sent-alters t Tstartsnarf tt
event-alters t (Version v) p = sent-alters t (Tversion v) tt

-- ## What an event leaves for the host

-- what is composed, and then what is unsent
abbrev pub tail : Made → List Tmesg
tail made = made.1 ++ unsent_message made.0.unsent

-- the messages of an event, without the unsent runes that go first, and without a request
abbrev pub listed : Option Tmesg → List Tmesg
listed None = []
listed (Some m) = m ∷ []

abbrev pub told : PlainTerminal → UserEvent → List Tmesg
told t (Typed f []) = cut_message f (window_at t f).dot
told t (Typed f (c ∷ s)) = cut_message f (window_at t f).dot ++ Ttype f (window_at t f).dot.0 (c ∷ s) ∷ []
told t (Cut f) =
    let d = (window_at t f).dot in if has_empty_dot t f then [] else Tsnarf f d.0 d.1 ∷ Tcut f d.0 d.1 ∷ []
told t (Paste f) = cut_message f (window_at t f).dot ++ Tpaste f (window_at t f).dot.0 ∷ []
told t (Snarf f) = let d = (window_at t f).dot in if has_empty_dot t f then [] else Tsnarf f d.0 d.1 ∷ []
told t (Edit f p q s) = edit_messages f p q s
told t (SetSnarf s) = Tsetsnarf s ∷ []
told t e = listed (message_of t.files e)

pub sent-tail : (t : PlainTerminal) (m : Tmesg) → tail (sends t unchanged (m ∷ [])) ≡ unsent_message t.unsent ++ m ∷ []
unfolding flushed
sent-tail t m =
    ap (λ (o : Option Unsent). (unsent_message t.unsent ++ m ∷ []) ++ unsent_message o) (unsent-composed (flushed t).0 m ∙ unsent-flushed t)
    ∙ append-nil (unsent_message t.unsent ++ m ∷ [])

-- where nothing goes and nothing comes nothing is told
pub nothing-told : (f p q : ℕ) (s : List ℕ) → (p == q && is_empty s) ≡ true → edit_messages f p q s ≡ []
unfolding pieces
nothing-told f p q [] e = by (p == q) e
  where
    by : (b : Bool) → (b && true) ≡ true → (if b then [] else Tcut f p q ∷ []) ++ [] ≡ []
    by true e = refl
    by false e = absurd (true≢false (sym e))
nothing-told f p q (c ∷ s) e = absurd (grind (arith, e))

pub edit-tail : (t : PlainTerminal) (f p q : ℕ) (s : List ℕ)
    → tail (if p == q && is_empty s then (t, []) else sends t (λ u. replaced u f p q s) (edit_messages f p q s)) ≡ unsent_message t.unsent ++ edit_messages f p q s
unfolding flushed
edit-tail t f p q s = by (p == q && is_empty s) refl
  where
    ms : List Tmesg
    ms = edit_messages f p q s

    n : ℕ
    n = length (map {A = ℕ} {B = Option ℕ} Some s)

    by : (none : Bool) → (p == q && is_empty s) ≡ none → tail (if none then (t, []) else sends t (λ u. replaced u f p q s) ms) ≡ unsent_message t.unsent ++ ms
    by true e = sym (append-nil (unsent_message t.unsent)) ∙ ap (λ (l : List Tmesg). unsent_message t.unsent ++ l) (sym (nothing-told f p q s e))
    by false e =
        ap (λ (o : Option Unsent). (unsent_message t.unsent ++ ms) ++ unsent_message o)
        (unsent-all (replaced (flushed t).0 f p q s) ms ∙ ap (λ (o : Option Unsent). moved_unsent f (place_after_ins p n) (moved_unsent f (place_after_del p q) o)) (unsent-flushed t))
        ∙ append-nil (unsent_message t.unsent ++ ms)

pub cuts-tail : (t : PlainTerminal) (f : ℕ) → tail (cuts_dot t f) ≡ unsent_message t.unsent ++ cut_message f (window_at t f).dot
unfolding flushed
cuts-tail t f = by (has_empty_dot t f)
  where
    p : ℕ
    p = (window_at t f).dot.0

    q : ℕ
    q = (window_at t f).dot.1

    by : (b : Bool) → tail (if b then (t, []) else sends t (λ u. cut_rasp u f p q) (Tcut f p q ∷ [])) ≡ unsent_message t.unsent ++ (if b then [] else Tcut f p q ∷ [])
    by true = sym (append-nil (unsent_message t.unsent))
    by false =
        ap (λ (o : Option Unsent). (unsent_message t.unsent ++ Tcut f p q ∷ []) ++ unsent_message (moved_unsent f (place_after_del p q) o)) (unsent-flushed t)
        ∙ append-nil (unsent_message t.unsent ++ Tcut f p q ∷ [])

pub cuts-flush : (t : PlainTerminal) (f : ℕ) → has_empty_dot t f ≡ false → (cuts_dot t f).0.unsent ≡ None
cuts-flush t f e = by (has_empty_dot t f) e
  where
    p : ℕ
    p = (window_at t f).dot.0

    q : ℕ
    q = (window_at t f).dot.1

    by : (b : Bool) → b ≡ false → (if b then (t, []) else sends t (λ u. cut_rasp u f p q) (Tcut f p q ∷ [])).0.unsent ≡ None
    by true e = absurd (true≢false e)
    by false e = ap (moved_unsent f (place_after_del p q)) (unsent-flushed t)

-- ## Typing

typed-unsent : (x : PlainTerminal) (z : Unsent) (f p : ℕ) (s : List ℕ) → x.unsent ≡ Some z → z.file ≡ f → z.place ≤ p → (typed_rasp x f p s).unsent ≡ Some z
typed-unsent x z f p s e ef l = grind (arith, eq-eqb)

-- the typed runes are sent at once, or wait
typed-tail : (x : PlainTerminal) (z : Unsent) (f p : ℕ) (s : List ℕ) → x.unsent ≡ Some z → z.file ≡ f → z.place ≤ p → (b : Bool)
    → tail (if b then flushed (typed_rasp x f p s) else (typed_rasp x f p s, [])) ≡ Ttype z.file z.place z.runes ∷ []
unfolding flushed
typed-tail x z f p s e ef l true =
    (λ i. unsent_message (typed-unsent x z f p s e ef l i) ++ unsent_message (unsent-flushed (typed_rasp x f p s) i))
typed-tail x z f p s e ef l false = ap unsent_message (typed-unsent x z f p s e ef l)

pub types-apart : (u : PlainTerminal) (f p : ℕ) (s : List ℕ) → joins u.unsent f p s ≡ false → tail (types u f p s) ≡ unsent_message u.unsent ++ Ttype f p s ∷ []
unfolding flushed
types-apart u f p s e = by (joins u.unsent f p s) e
  where
    next : PlainTerminal → Made
    next x = let typed = typed_rasp x f p s in if is_command_line f s then flushed typed else (typed, [])

    by : (b : Bool) → b ≡ false
        → tail (made_then (if b then (record u { unsent = Some (joined u.unsent f p s) }, []) else made_then (flushed u) (λ x. (record x { unsent = Some (joined None f p s) }, []))) next)
        ≡ unsent_message u.unsent ++ Ttype f p s ∷ []
    by true e = absurd (true≢false e)
    by false e =
        let x : PlainTerminal = record (flushed u).0 { unsent = Some (joined None f p s) } in
        append_assoc (unsent_message u.unsent ++ []) (next x).1 (unsent_message (next x).0.unsent)
        ∙ ap (λ (ms : List Tmesg). (unsent_message u.unsent ++ []) ++ ms) (typed-tail x (joined None f p s) f p s refl refl (omega arith) (is_command_line f s))
        ∙ ap (λ (ms : List Tmesg). ms ++ Ttype f p s ∷ []) (append-nil (unsent_message u.unsent))

pub types-joined : (u : PlainTerminal) (y : Unsent) (f p : ℕ) (s : List ℕ) → u.unsent ≡ Some y → y.file ≡ f → y.place ≤ p → joins u.unsent f p s ≡ true
    → tail (types u f p s) ≡ Ttype y.file y.place (y.runes ++ s) ∷ []
types-joined u y f p s e ef l j = by (joins u.unsent f p s) j
  where
    next : PlainTerminal → Made
    next x = let typed = typed_rasp x f p s in if is_command_line f s then flushed typed else (typed, [])

    by : (b : Bool) → b ≡ true
        → tail (made_then (if b then (record u { unsent = Some (joined u.unsent f p s) }, []) else made_then (flushed u) (λ x. (record x { unsent = Some (joined None f p s) }, []))) next)
        ≡ Ttype y.file y.place (y.runes ++ s) ∷ []
    by true q = typed-tail (record u { unsent = Some (joined u.unsent f p s) }) (joined (Some y) f p s) f p s (ap (λ (o : Option Unsent). Some (joined o f p s)) e) ef l (is_command_line f s)
    by false q = absurd (true≢false (sym q))
