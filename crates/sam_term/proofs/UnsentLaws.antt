-- What is composed first is the unsent runes.
use Rattle.sam_term.proofs.Common.{common_steps, ◌≡◌, sym, ap, ◌∙◌, subst, ℕ, ◌≤◌, Bool, true, false, List, [], ◌∷◌, ◌++◌, length, map, Option, Some, None, if◌then◌else◌, arith, rules, append-nil, append_assoc, place_after_ins, Tmesg, Tsnarf, Tcut, Tack, Hcheck, Hunlockfile, Hack, is_command_line, UserEvent, Typed, Select, Cut, Paste, Snarf, View, Load, Flush, Unsent, PlainTerminal, Made, made_then, unsent_message, flushed, sends, sends_all, sends_if, unchanged, wanted, all_wanted, requested, joined, moved_unsent, kept_unsent, typed_rasp, types, cuts_dot, has_empty_dot, window_at, put_window, cut_rasp, made_by_type, made_by_cut, made_by_paste, made_by_snarf, made_by_view, made_by_load, event_outcome, took_unlockfile, made_by_edit, edit_messages, replaced, is_empty, ◌==◌, ◌&&◌, Edit}
use Rattle.sam_term.specs.Unsent.{SendsFirst, EventsSendFirst, FramesSendFirst}

-- what is unsent goes on what was unsent before
abbrev Longer : Option Unsent → Option Unsent → Type 0
Longer None after = Unit {0}
Longer (Some u) after = (typed : List ℕ) × (after ≡ Some (record u { runes = u.runes ++ typed }))

-- nothing is composed and what is unsent grows, or the unsent runes go first
abbrev Goes : Option Unsent → Option Unsent → List Tmesg → Type 0
Goes before after [] = Longer before after
Goes before after (m ∷ ms) = SendsFirst before (m ∷ ms)

same : (before : Option Unsent) → Goes before before []
same before = grind (arith, append-nil)

first : (before after : Option Unsent) (ms : List Tmesg) → Goes before after ms → SendsFirst before ms
first before after ms e = grind arith

-- one after another
later : (before middle after : Option Unsent) (ms : List Tmesg) → Longer before middle → Goes middle after ms → Goes before after ms
later before middle after ms e u = grind (arith, append_assoc)

both : (before middle after : Option Unsent) (ms ns : List Tmesg) → Goes before middle ms → Goes middle after ns → Goes before after (ms ++ ns)
both before middle after ms ns e u = grind (arith, later)

-- the unsent runes are composed, and anything after them
sent : (before after : Option Unsent) (ms : List Tmesg) → Goes before after (unsent_message before ++ ms)
sent before after ms = grind (arith, append-nil)

flush : (t : PlainTerminal) (after : Option Unsent) → Goes t.unsent after (flushed t).1
unfolding flushed
flush t after = subst (λ (ms : List Tmesg). Goes t.unsent after ms) (append-nil (unsent_message t.unsent)) (sent t.unsent after [])

send : (t : PlainTerminal) (after : Option Unsent) (ms : List Tmesg) → Goes t.unsent after ((flushed t).1 ++ ms)
unfolding flushed
send t after ms = sent t.unsent after ms

abbrev GoesMade : PlainTerminal → Made → Type 0
GoesMade t made = Goes t.unsent made.0.unsent made.1

chosen : (t : PlainTerminal) (b : Bool) (x y : Made) → GoesMade t x → GoesMade t y → GoesMade t (if b then x else y)
chosen t b x y e u = grind arith

followed : (t : PlainTerminal) (made : Made) (next : PlainTerminal → Made) → GoesMade t made → GoesMade made.0 (next made.0) → GoesMade t (made_then made next)
followed t made next g h = both t.unsent made.0.unsent (next made.0).0.unsent made.1 (next made.0).1 g h

sending : (t : PlainTerminal) (change : PlainTerminal → PlainTerminal) (ms : List Tmesg) → GoesMade t (sends t change ms)
sending t change ms = send t (sends t change ms).0.unsent ms

-- ## Typing

-- runes typed after the unsent ones leave their start where it is
moved : (f p n : ℕ) (u : Unsent) → u.place ≤ p → moved_unsent f (place_after_ins p n) (Some u) ≡ Some u
moved f p n u within = grind arith

keeps : (t : PlainTerminal) (f p : ℕ) (s : List ℕ) → GoesMade t (kept_unsent t f p s)
keeps t f p s = grind (arith, (send t (Some (joined None f p s))))

-- what is unsent then begins at or before the place
record Begins (p : ℕ) (o : Option Unsent) : Type 0 where
  unsent : Unsent
  is : o ≡ Some unsent
  within : unsent.place ≤ p

begins : (t : PlainTerminal) (f p : ℕ) (s : List ℕ) → Begins p (kept_unsent t f p s).0.unsent
begins t f p s = grind arith

typing : (u : PlainTerminal) (f p : ℕ) (s : List ℕ) → Begins p u.unsent → GoesMade u (if is_command_line f s then flushed (typed_rasp u f p s) else (typed_rasp u f p s, []))
typing u f p s b =
    let typed = typed_rasp u f p s in
    let is : typed.unsent ≡ u.unsent = ap (moved_unsent f (place_after_ins p (length (map {A = ℕ} {B = Option ℕ} Some s)))) b.is
    ∙ (moved f p (length (map {A = ℕ} {B = Option ℕ} Some s)) b.unsent b.within ∙ sym b.is) in
    chosen u (is_command_line f s) (flushed typed) (typed, [])
    (subst (λ (o : Option Unsent). Goes o (flushed typed).0.unsent (flushed typed).1) is (flush typed (flushed typed).0.unsent))
    (subst (λ (o : Option Unsent). Goes u.unsent o []) (sym is) (same u.unsent))

type : (t : PlainTerminal) (f p : ℕ) (s : List ℕ) → GoesMade t (types t f p s)
type t f p s =
    followed t (kept_unsent t f p s) (λ u. if is_command_line f s then flushed (typed_rasp u f p s) else (typed_rasp u f p s, []))
    (keeps t f p s) (typing (kept_unsent t f p s).0 f p s (begins t f p s))

-- ## Events

cuts : (t : PlainTerminal) (f : ℕ) → GoesMade t (cuts_dot t f)
cuts t f =
    let d = (window_at t f).dot in
    let change = λ (u : PlainTerminal). cut_rasp u f d.0 d.1 in
    chosen t (has_empty_dot t f) (t, []) (sends t change (Tcut f d.0 d.1 ∷ [])) (same t.unsent) (sending t change (Tcut f d.0 d.1 ∷ []))

typed : (t : PlainTerminal) (f : ℕ) (s : List ℕ) → GoesMade t (made_by_type t f s)
unfolding made_by_type
typed t f s = search (rules, common_steps, cuts, type)

cut : (t : PlainTerminal) (f : ℕ) → GoesMade t (made_by_cut t f)
unfolding made_by_cut
cut t f =
    let d = (window_at t f).dot in
    let change = λ (u : PlainTerminal). cut_rasp u f d.0 d.1 in
    let messages = Tsnarf f d.0 d.1 ∷ Tcut f d.0 d.1 ∷ [] in
    chosen t (has_empty_dot t f) (t, []) (sends t change messages) (same t.unsent) (sending t change messages)

paste : (t : PlainTerminal) (f : ℕ) → GoesMade t (made_by_paste t f)
unfolding made_by_paste
paste t f = search (arith, followed, cuts, sending)

snarf : (t : PlainTerminal) (f : ℕ) → GoesMade t (made_by_snarf t f)
unfolding made_by_snarf
snarf t f =
    let d = (window_at t f).dot in
    chosen t (has_empty_dot t f) (t, []) (sends t unchanged (Tsnarf f d.0 d.1 ∷ [])) (same t.unsent) (sending t unchanged (Tsnarf f d.0 d.1 ∷ []))

request : (t : PlainTerminal) (f : ℕ) → GoesMade t (requested t f)
unfolding requested
request t f = go (wanted t f)
  where
    go : (o : Option Tmesg) → GoesMade t (sends_if o t)
    go None = same t.unsent
    go (Some m) = sending t (λ u. u) (m ∷ [])

viewed : (t : PlainTerminal) (f p n : ℕ) → GoesMade t (made_by_view t f p n)
unfolding made_by_view
viewed t f p n = request (put_window t f (record (window_at t f) { view_start = p; view_length = n })) f

loaded : (t : PlainTerminal) (f p n : ℕ) → GoesMade t (made_by_load t f p n)
unfolding made_by_load
loaded t f p n = go (all_wanted u f)
  where
    u : PlainTerminal
    u = put_window t f (record (window_at t f) { view_start = p; view_length = n })

    go : (ms : List Tmesg) → GoesMade u (sends_all ms u)
    go [] = same u.unsent
    go (m ∷ ms) = sending u unchanged (m ∷ ms)

replace : (t : PlainTerminal) (f p q : ℕ) (s : List ℕ) → GoesMade t (made_by_edit t f p q s)
unfolding made_by_edit
replace t f p q s =
    let change = λ (u : PlainTerminal). replaced u f p q s in
    let messages = edit_messages f p q s in
    chosen t (p == q && is_empty s) (t, []) (sends t change messages) (same t.unsent) (sending t change messages)

event : (t : PlainTerminal) (e : UserEvent) → GoesMade t (event_outcome t e)
event t (Typed f s) = typed t f s
event t (Select f p q) = same t.unsent
event t (Cut f) = cut t f
event t (Paste f) = paste t f
event t (Snarf f) = snarf t f
event t (View f p n) = viewed t f p n
event t (Load f p n) = loaded t f p n
event t (Edit f p q s) = replace t f p q s
event t Flush = flush t _
event t _ = sending t unchanged _

pub events_send_first : EventsSendFirst
events_send_first t e = first t.unsent (event_outcome t e).0.unsent (event_outcome t e).1 (event t e)

-- ## Frames

none : (o : Option Unsent) → SendsFirst o []
none o = grind arith

requests : (t : PlainTerminal) (f : ℕ) → SendsFirst t.unsent (requested t f).1
requests t f = first t.unsent (requested t f).0.unsent (requested t f).1 (request t f)

unlocked : (t : PlainTerminal) (f : ℕ) → SendsFirst t.unsent (requested (took_unlockfile t f) f).1
unfolding took_unlockfile
unlocked t f = requests (took_unlockfile t f) f

acked : (t : PlainTerminal) (b : Bool) (ms : List Tmesg) → SendsFirst t.unsent (if b then (t, []) else sends t unchanged ms).1
acked t true ms = none t.unsent
acked t false ms = first t.unsent (sends t unchanged ms).0.unsent (sends t unchanged ms).1 (send t (sends t unchanged ms).0.unsent ms)

pub frames_send_first : FramesSendFirst
frames_send_first t (Hcheck f) = requests t f
frames_send_first t (Hunlockfile f) = unlocked t f
frames_send_first t Hack = acked t t.has_exited (Tack ∷ [])
frames_send_first t _ = none t.unsent
