-- The terminal takes a frame: both sides come to what they came to before.
use Rattle.sam_crossing.proofs.Common.{◌≡◌, ℕ, ◌+◌, min, Bool, true, false, not, ◌&&◌, if◌then◌else◌, List, [], ◌∷◌, ◌++◌, length, Option, Some, None, is_some, option_map, refl, sym, ap, ◌∙◌, arith, append_assoc, append-nil, same_Some, part, most_in_message, first_of_checks, file_at, PlainFiles, Tmesg, Trequest, Tack, Hmesg, Hdata, Hunlockfile, Hcheck, PlainHost, Reply, NoFile, NotOpen, counted, host_checks, reply_to, reply_request, when, answers, reply_of, replied_then, Window, lock_of, KnownFile, PlainTerminal, known_at, window_at, is_open, put_window, frame_outcome, composed, all_composed, flushed, unsent_message, requests_for, Unsent, InOrder, IsHeldBack, OpenAt, Anything, IsSynced, Lens, is_crossing, action, at_file, effect, view, views, file_in, took_bindname, took_data, took_grow, took_growdata, took_cut, took_unlockfile, took_close, took_exit}
use Rattle.sam_term.specs.Term.{sends_if, wanted, request_for}
use Rattle.sam_crossing.specs.Fold.{after_frames, replied}
use Rattle.sam_crossing.specs.View.{composed_for}
use Rattle.sam_crossing.proofs.Lenses.{IsFree}
use Rattle.sam_crossing.proofs.Runs.{first_is_quiet}
use Rattle.sam_crossing.proofs.Folds.{frame_moves}
use Rattle.sam_crossing.proofs.FrameMoves.{take_law}
use Rattle.sam_crossing.proofs.Views.{unsent-flushed, unsent-composed}
use Rattle.sam_local.specs.Local.{whole_window, at_rest, all_taken, answered_with, come_to}
use Rattle.sam_local.proofs.Sights.{sight, known-sight, rests}
use Rattle.sam_local.proofs.Frames.{sight-taken, taken-append, loaded_window}
use Rattle.sam_local.proofs.Folds.{answers-more, Parted, parted}
use Rattle.sam_local.proofs.Ahead.{synced-ahead, sight-window, opened-put, LockFits, sight-composed, sight-flushed}
use Rattle.sam_local.proofs.Steps.{flushes}

-- ## The unsent runes are left alone

free_of : (v : Lens) → OpenAt Anything v → IsFree v
free_of v e = grind arith

unsent_stays : (t : PlainTerminal) (m : Hmesg) (u : Unsent) → t.unsent ≡ Some u → is_crossing (action u.file m) ≡ false → (effect t m).unsent ≡ Some u
unfolding took_bindname took_data took_grow took_growdata took_cut took_unlockfile took_close took_exit
unsent_stays t m u e w = grind arith

unsent_none : (t : PlainTerminal) (m : Hmesg) → t.unsent ≡ None → (effect t m).unsent ≡ None
unfolding took_bindname took_data took_grow took_growdata took_cut took_unlockfile took_close took_exit
unsent_none t m e = grind arith

pub unsent-left : (h : PlainHost) (t : PlainTerminal) (up : List Tmesg) (m : Hmesg) (down : List Hmesg) → InOrder h t up (m ∷ down)
    → (effect t m).unsent ≡ t.unsent
unsent-left h t up m down o = go t.unsent refl o.unsent
  where
    go : (u : Option Unsent) → t.unsent ≡ u → IsHeldBack (views t) u → (effect t m).unsent ≡ t.unsent
    go None e held = unsent_none t m e ∙ sym e
    go (Some u) e held =
        let k = o.kept.each u.file in
        unsent_stays t m u e (first_is_quiet (action u.file m) (at_file u.file (down ++ o.kept.frames)) (view u.file t) k.final (free_of (view u.file t) held.1) k.guarded k.runs)
        ∙ sym e

-- ## A request, and its answer

pub open-sight : (t : PlainTerminal) (f : ℕ) → is_open (sight t) f ≡ is_open t f
open-sight t f = ap (λ (x : KnownFile). is_some x.window) (known-sight t f) ∙ mapped (known_at t f).window
  where
    mapped : (w : Option Window) → is_some (option_map (whole_window []) w) ≡ is_some w
    mapped None = refl
    mapped (Some w) = refl

-- what a synced lens says of its file
pub synced-open : (t : PlainTerminal) (fs : PlainFiles) (f : ℕ) (d : Bool) (n : ℕ) → IsSynced (view f t) d n (file_in fs.slots f)
    → is_open t f ≡ (file_at fs f).opened
synced-open t fs f d n s = grind arith

data_silent : (z : PlainTerminal) (f p : ℕ) (s : List ℕ) → is_open z f ≡ true → sight (all_taken z (Hdata f p s ∷ Hunlockfile f ∷ [])) ≡ sight z
unfolding loaded_window took_data took_unlockfile
data_silent z f p s o = sight-window (put_window z f (loaded_window p s (window_at z f))) f _ (opened-put z f _) refl ∙ sight-window z f (loaded_window p s (window_at z f)) o refl

-- the message changes neither the host, its count aside, nor what its terminal comes to
abbrev pub SilentBy : PlainHost → PlainTerminal → Reply → Type 0
SilentBy a z s = (s.0 ≡ counted a) × (sight (all_taken z s.1) ≡ sight z)

abbrev pub IsSilent : PlainHost → PlainTerminal → Tmesg → Type 0
IsSilent a z m = (s : Reply) → reply_of a m ≡ Some s → SilentBy a z s

pub request-silent : (a : PlainHost) (z : PlainTerminal) (f p n : ℕ) → is_open z f ≡ (file_at a.files f).opened → IsSilent a z (Trequest f p n)
unfolding reply_request when
request-silent a z f p n o s e = by a.is_done e
  where
    text : List ℕ
    text = (file_at a.files f).text

    data_at : ℕ
    data_at = min p (length text)

    runes : List ℕ
    runes = part text data_at (min (p + min n most_in_message) (length text))

    told : (frames : List Hmesg) → sight (all_taken z frames) ≡ sight z → Some (counted a, frames) ≡ Some s → SilentBy a z s
    told frames q e = let same = same_Some _ _ e in (sym (ap (λ (r : Reply). r.0) same), ap (λ (r : Reply). sight (all_taken z r.1)) (sym same) ∙ q)

    asked : (c has op : Bool) → (file_at a.files f).opened ≡ op
        → replied (if c then Some NoFile else (if has && not op then Some NotOpen else None)) (a, if has then Hdata f data_at runes ∷ Hunlockfile f ∷ [] else []) ≡ Some s → SilentBy a z s
    asked true has op q e = grind arith
    asked false false op q e = told [] refl e
    asked false true false q e = grind arith
    asked false true true q e = told (Hdata f data_at runes ∷ Hunlockfile f ∷ []) (data_silent z f data_at runes (o ∙ q)) e

    by : (b : Bool) → (if b then Some (counted a, []) else replied (first_of_checks (host_checks a (Trequest f p n))) (reply_to a (Trequest f p n))) ≡ Some s → SilentBy a z s
    by true e = told [] refl e
    by false e = asked _ _ _ refl e

pub ack-silent : (a : PlainHost) (z : PlainTerminal) → IsSilent a z Tack
ack-silent a z s e = by a.is_done e
  where
    by : (b : Bool) → (if b then Some (counted a, []) else Some (counted a, [])) ≡ Some s → (s.0 ≡ counted a) × (sight (all_taken z s.1) ≡ sight z)
    by true e = let same = same_Some _ _ e in (sym (ap (λ (r : Reply). r.0) same), ap (λ (r : Reply). sight (all_taken z r.1)) (sym same))
    by false e = let same = same_Some _ _ e in (sym (ap (λ (r : Reply). r.0) same), ap (λ (r : Reply). sight (all_taken z r.1)) (sym same))

-- ## A silent message more

-- the host is as it was, its count aside, and so is what the terminal comes to
silently : (h : PlainHost) (k : PlainTerminal) (line : List Tmesg) (down : List Hmesg) (x : Tmesg) (r y : Reply) → LockFits (lock_of x) k → answers h line ≡ Some r
    → answers h (line ++ x ∷ []) ≡ Some y → IsSilent r.0 (all_taken k (down ++ r.1)) x
    → (y.0 ≡ counted r.0) × (sight (all_taken (composed k x) (down ++ y.1)) ≡ sight (all_taken k (down ++ r.1)))
silently h k line down x r y fits now both silent = last (reply_of r.0 x) refl
  where
    whole : answers h (line ++ x ∷ []) ≡ after_frames r.1 (replied_then (reply_of r.0 x) (λ j. Some (j, [])))
    whole = answers-more line (x ∷ []) h ∙ ap (λ (o : Option Reply). replied_then o (λ j. answers j (x ∷ []))) now

    z : PlainTerminal
    z = all_taken k (down ++ r.1)

    last : (o : Option Reply) → reply_of r.0 x ≡ o → (y.0 ≡ counted r.0) × (sight (all_taken (composed k x) (down ++ y.1)) ≡ sight z)
    last None q = absurd (grind (arith, whole, both, q))
    last (Some s) q =
        let one = silent s q in
        let is : (s.0, r.1 ++ (s.1 ++ [])) ≡ y =
        same_Some _ _ (sym (whole ∙ ap (λ (o : Option Reply). after_frames r.1 (replied_then o (λ j. Some (j, [])))) q) ∙ both) in
        let frames : down ++ (r.1 ++ (s.1 ++ [])) ≡ (down ++ r.1) ++ s.1 =
        ap (λ (fs : List Hmesg). down ++ (r.1 ++ fs)) (append-nil s.1) ∙ sym (append_assoc down r.1 s.1) in
        let same : sight (all_taken (composed k x) (down ++ (r.1 ++ (s.1 ++ [])))) ≡ sight z =
        sight-taken (down ++ (r.1 ++ (s.1 ++ []))) (composed k x) k (sight-composed k x fits)
        ∙ ap (λ (fs : List Hmesg). sight (all_taken k fs)) frames ∙ ap sight (taken-append (down ++ r.1) s.1 k) ∙ one.1 in
        (ap (λ (a : Reply). a.0) (sym is) ∙ one.0, ap (λ (a : Reply). sight (all_taken (composed k x) (down ++ a.1))) (sym is) ∙ same)

asks : (h : PlainHost) (k : PlainTerminal) (line : List Tmesg) (down : List Hmesg) (x : Tmesg) (r y : Reply) → k.unsent ≡ None → LockFits (lock_of x) k
    → answers h line ≡ Some r → answers h (line ++ x ∷ []) ≡ Some y → IsSilent r.0 (all_taken k (down ++ r.1)) x
    → come_to h k line down ≡ come_to h (composed k x) (line ++ x ∷ []) down
asks h k line down x r y none fits now both silent =
    ap (λ (o : Option Unsent). answered_with h k down (answers h (line ++ unsent_message o))) none
    ∙ ap (λ (ms : List Tmesg). answered_with h k down (answers h ms)) (append-nil line) ∙ ap (answered_with h k down) now
    ∙ rests r.0 (all_taken k (down ++ r.1)) u (sym after.1) ∙ ap (λ (a : PlainHost). at_rest a u) (sym after.0)
    ∙ sym
    (ap (λ (o : Option Unsent). answered_with h (composed k x) down (answers h ((line ++ x ∷ []) ++ unsent_message o))) (unsent-composed k x ∙ none)
    ∙ ap (λ (ms : List Tmesg). answered_with h (composed k x) down (answers h ms)) (append-nil (line ++ x ∷ []))
    ∙ ap (answered_with h (composed k x) down) both)
  where
    u : PlainTerminal
    u = all_taken (composed k x) (down ++ y.1)

    after : (y.0 ≡ counted r.0) × (sight u ≡ sight (all_taken k (down ++ r.1)))
    after = silently h k line down x r y fits now both silent

-- ## Requests for the gaps of an open file

requested-open : (t : PlainTerminal) (f p n : ℕ) → is_open t f ≡ true → is_open (composed t (Trequest f p n)) f ≡ true
requested-open t f p n o =
    sym (open-sight (composed t (Trequest f p n)) f) ∙ ap (λ (z : PlainTerminal). is_open z f) (sight-composed t (Trequest f p n) o) ∙ open-sight t f ∙ o

pub sight-requests : (t : PlainTerminal) (f : ℕ) (xs : List (ℕ × ℕ)) → is_open t f ≡ true → sight (all_composed t (requests_for f xs)) ≡ sight t
sight-requests t f [] o = refl
sight-requests t f (x ∷ xs) o =
    let m = Trequest f x.0 x.1 in
    sight-requests (composed t m) f xs (requested-open t f x.0 x.1 o) ∙ sight-composed t m o

-- the file is open at the host and at the terminal, or at neither, once the answers are taken
abbrev IsOpenAtBoth : ℕ → PlainTerminal → List Hmesg → Reply → Type 0
IsOpenAtBoth f k down r = is_open (all_taken k (down ++ r.1)) f ≡ (file_at r.0.files f).opened

-- one request after another
asks-all : (h : PlainHost) (k : PlainTerminal) (f : ℕ) (xs : List (ℕ × ℕ)) (line : List Tmesg) (down : List Hmesg) (r y : Reply) → k.unsent ≡ None → is_open k f ≡ true
    → answers h line ≡ Some r → answers h (line ++ requests_for f xs) ≡ Some y → IsOpenAtBoth f k down r
    → come_to h k line down ≡ come_to h (all_composed k (requests_for f xs)) (line ++ requests_for f xs) down
asks-all h k f [] line down r y none o now both opens = ap (λ (ms : List Tmesg). come_to h k ms down) (sym (append-nil line))
asks-all h k f (x ∷ xs) line down r y none o now both opens =
    asks h k line down m r parts.first none o now parts.now silent
    ∙ asks-all h (composed k m) f xs (line ++ m ∷ []) down parts.first y (unsent-composed k m ∙ none) (requested-open k f x.0 x.1 o) parts.now all
    (sym (open-sight z1 f) ∙ ap (λ (v : PlainTerminal). is_open v f) after.1 ∙ open-sight z f ∙ opens ∙ sym (ap (λ (a : PlainHost). (file_at a.files f).opened) after.0))
    ∙ ap (λ (ms : List Tmesg). come_to h (all_composed (composed k m) (requests_for f xs)) ms down) (append_assoc line (m ∷ []) (requests_for f xs))
  where
    m : Tmesg
    m = Trequest f x.0 x.1

    all : answers h ((line ++ m ∷ []) ++ requests_for f xs) ≡ Some y
    all = ap (answers h) (append_assoc line (m ∷ []) (requests_for f xs)) ∙ both

    parts : Parted h (line ++ m ∷ []) (requests_for f xs) y
    parts = parted h (line ++ m ∷ []) (requests_for f xs) y all

    z : PlainTerminal
    z = all_taken k (down ++ r.1)

    z1 : PlainTerminal
    z1 = all_taken (composed k m) (down ++ parts.first.1)

    silent : IsSilent r.0 z m
    silent = request-silent r.0 z f x.0 x.1 opens

    after : (parts.first.0 ≡ counted r.0) × (sight z1 ≡ sight z)
    after = silently h k line down m r parts.first o now parts.now silent

-- the requests, after the unsent runes
pub sends-requests : (h : PlainHost) (u : PlainTerminal) (f : ℕ) (xs : List (ℕ × ℕ)) (up : List Tmesg) (down : List Hmesg) (r y : Reply) → is_open (flushed u).0 f ≡ true
    → answers h (up ++ unsent_message u.unsent) ≡ Some r → answers h (up ++ ((flushed u).1 ++ requests_for f xs)) ≡ Some y → IsOpenAtBoth f (flushed u).0 down r
    → come_to h u up down ≡ come_to h (all_composed (flushed u).0 (requests_for f xs)) (up ++ ((flushed u).1 ++ requests_for f xs)) down
unfolding flushed
sends-requests h u f xs up down r y o now both opens =
    flushes h u up down
    ∙ asks-all h (flushed u).0 f xs (up ++ (flushed u).1) down r y (unsent-flushed u) o now (ap (answers h) (append_assoc up (flushed u).1 (requests_for f xs)) ∙ both) opens
    ∙ ap (λ (line : List Tmesg). come_to h (all_composed (flushed u).0 (requests_for f xs)) line down) (append_assoc up (flushed u).1 (requests_for f xs))

-- ## A frame

-- what may be composed in answer to a frame: a request for an open file, or an acknowledgement
abbrev pub IsAsked : PlainTerminal → Tmesg → Type 0
IsAsked t (Trequest f p n) = is_open t f ≡ true
IsAsked t Tack = Unit {0}
IsAsked t _ = ⊥

pub wanted-is : (t : PlainTerminal) (f : ℕ) (x : Tmesg) → wanted t f ≡ Some x → IsAsked t x
wanted-is t f x e = by (is_open t f) _ _ _ refl e
  where
    by : (o b c : Bool) (hole : Option (ℕ × ℕ)) → is_open t f ≡ o → (if o && b && c then request_for f hole else None) ≡ Some x → IsAsked t x
    by o b c hole q e = grind arith

composed-is : (t : PlainTerminal) (m : Hmesg) (x : Tmesg) → composed_for t m ≡ Some x → IsAsked (effect t m) x
composed-is t (Hcheck f) x e = wanted-is t f x e
composed-is t (Hunlockfile f) x e = wanted-is (effect t (Hunlockfile f)) f x e
composed-is t m x e = grind arith

pub fits-flushed : (t : PlainTerminal) (x : Tmesg) → IsAsked t x → LockFits (lock_of x) (flushed t).0
fits-flushed t (Trequest f p n) e = sym (open-sight (flushed t).0 f) ∙ ap (λ (z : PlainTerminal). is_open z f) (sight-flushed t) ∙ open-sight t f ∙ e
fits-flushed t Tack e = tt
fits-flushed t x e = absurd e

-- a message of the terminal's own, after the unsent runes
pub sends-silent : (h : PlainHost) (u : PlainTerminal) (up : List Tmesg) (down : List Hmesg) (x : Tmesg) (r y : Reply) → answers h (up ++ unsent_message u.unsent) ≡ Some r
    → answers h (up ++ ((flushed u).1 ++ x ∷ [])) ≡ Some y → LockFits (lock_of x) (flushed u).0 → IsSilent r.0 (all_taken (flushed u).0 (down ++ r.1)) x
    → come_to h u up down ≡ come_to h (composed (flushed u).0 x) (up ++ ((flushed u).1 ++ x ∷ [])) down
unfolding flushed
sends-silent h u up down x r y now both fits silent =
    flushes h u up down
    ∙ asks h (flushed u).0 (up ++ (flushed u).1) down x r y (unsent-flushed u) fits now (ap (answers h) (append_assoc up (flushed u).1 (x ∷ [])) ∙ both) silent
    ∙ ap (λ (line : List Tmesg). come_to h (composed (flushed u).0 x) line down) (append_assoc up (flushed u).1 (x ∷ []))

pub silent-asked : (a : PlainHost) (z u : PlainTerminal) (x : Tmesg) → IsAsked u x → ((f : ℕ) → is_open z f ≡ (file_at a.files f).opened) → IsSilent a z x
silent-asked a z u (Trequest f p n) e o = request-silent a z f p n (o f)
silent-asked a z u Tack e o = ack-silent a z
silent-asked a z u x e o = absurd e

pub term-takes : (h : PlainHost) (t : PlainTerminal) (up : List Tmesg) (m : Hmesg) (down : List Hmesg) → InOrder h t up (m ∷ down)
    → InOrder h (frame_outcome t m).0 (up ++ (frame_outcome t m).1) down
    → come_to h t up (m ∷ down) ≡ come_to h (frame_outcome t m).0 (up ++ (frame_outcome t m).1) down
term-takes h t up m down o n =
    first ∙ rw composes (second (composed_for t m) refl (rw composes at n))
  where
    u : PlainTerminal
    u = effect t m

    composes : frame_outcome t m ≡ sends_if (composed_for t m) u
    composes = (take_law t m (frame_moves h (views t) (up ++ unsent_message t.unsent) m down o.kept)).composes

    now : answers h (up ++ unsent_message u.unsent) ≡ Some (o.kept.ahead, o.kept.frames)
    now = ap (λ (un : Option Unsent). answers h (up ++ unsent_message un)) (unsent-left h t up m down o) ∙ o.kept.folds

    first : come_to h t up (m ∷ down) ≡ come_to h u up down
    first = ap (answered_with h t (m ∷ down)) o.kept.folds ∙ sym (ap (answered_with h u down) now)

    z : PlainTerminal
    z = all_taken (flushed u).0 (down ++ o.kept.frames)

    opens : (f : ℕ) → is_open z f ≡ (file_at o.kept.ahead.files f).opened
    opens f =
        sym (open-sight z f) ∙ ap (λ (x : PlainTerminal). is_open x f) (sight-taken (down ++ o.kept.frames) (flushed u).0 u (sight-flushed u))
        ∙ open-sight (all_taken u (down ++ o.kept.frames)) f
        ∙ synced-open (all_taken u (down ++ o.kept.frames)) o.kept.ahead.files f _ _ (synced-ahead h t up (m ∷ down) o f)

    second : (q : Option Tmesg) → composed_for t m ≡ q → InOrder h (sends_if q u).0 (up ++ (sends_if q u).1) down
        → come_to h u up down ≡ come_to h (sends_if q u).0 (up ++ (sends_if q u).1) down
    second None e n = ap (λ (line : List Tmesg). come_to h u line down) (sym (append-nil up))
    second (Some x) e n =
        let asked = composed-is t m x e in
        let none : (composed (flushed u).0 x).unsent ≡ None = unsent-composed (flushed u).0 x ∙ unsent-flushed u in
        let line = up ++ ((flushed u).1 ++ x ∷ []) in
        let both : answers h line ≡ Some (n.kept.ahead, n.kept.frames) =
        sym (ap (λ (un : Option Unsent). answers h (line ++ unsent_message un)) none ∙ ap (answers h) (append-nil line)) ∙ n.kept.folds in
        sends-silent h u up down x (o.kept.ahead, o.kept.frames) (n.kept.ahead, n.kept.frames) now both (fits-flushed u x asked) (silent-asked o.kept.ahead z u x asked opens)
