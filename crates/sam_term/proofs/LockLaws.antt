-- What events, flushes and frames do to the locks, and to the request that is awaited.
use Rattle.sam_term.proofs.Common.{◌≡◌, refl, ap, ◌∙◌, subst, ℕ, ◌+◌, ◌-◌, Bool, true, false, List, [], ◌∷◌, ◌++◌, Option, Some, None, if◌then◌else◌, ◌==◌, arith, ◌||◌, unwrap_or, slot, free_slot, map_slots, slot-free_same, slot-free_other, slot-map, if-same, Lock, Window, KnownFile, lock_of, is_command_line, UserEvent, Typed, Select, Cut, Paste, Snarf, View, Load, Flush, PlainTerminal, Made, known_at, window_at, put_known, put_window, edited, cut_rasp, lock_taken, asked, composed, all_composed, flushed, unsent_message, made_then, sends, sends_all, sends_if, unchanged, requested, wanted, kept_unsent, typed_rasp, types, event_outcome, made_by_type, made_by_cut, made_by_paste, made_by_snarf, made_by_view, made_by_load, frame_outcome, freed_known, took_bindname, took_data, took_grow, took_growdata, took_cut, took_unlockfile, took_close, took_exit, blank_window, blank_known, Tmesg, Trequest, Tack, Hmesg, Hbindname, Hnewname, Hmovname, Hgrow, Hcheck, Hdata, Horigin, Hunlockfile, Hsetdot, Hgrowdata, Hmoveto, Hclean, Hdirty, Hcut, Hdelname, Hclose, Hack, Hexit, made_by_edit, Edit, replaced}
use Rattle.sam_term.specs.declared.lock.Lock.TheVariants.{NoLock, CommandLock, FileLock}
use Rattle.sam_term.specs.LockCounts.{locks_taken, takes_command, requests, locks_left, command_left, awaited_left}
use Rattle.sam_term.proofs.TermLaws.{known-put}

-- the command lock, and of one file the locks and the requests that are awaited
record Held : Type 0 where
  command : Bool
  locks : ℕ
  awaited : ℕ

abbrev held_in : Bool → KnownFile → Held
held_in command known =
    let w = unwrap_or known.window blank_window in
    record { command = command; locks = w.locks; awaited = w.awaited }

abbrev held_of : ℕ → PlainTerminal → Held
held_of f t = held_in t.command_lock (known_at t f)

-- ## A file that is put

-- the locks of f, and what it awaits, where those of g change
abbrev changed_at : ℕ → (ℕ → ℕ) → (ℕ → ℕ) → ℕ → Held → Held
changed_at g locks awaited f h =
    record { command = h.command; locks = if g == f then locks h.locks else h.locks; awaited = if g == f then awaited h.awaited else h.awaited }

held-known : (locks awaited : ℕ → ℕ) (t : PlainTerminal) (g : ℕ) (x : KnownFile) (f : ℕ)
    → held_in t.command_lock x ≡ record { command = t.command_lock; locks = locks (window_at t g).locks; awaited = awaited (window_at t g).awaited }
    → held_of f (put_known t g x) ≡ changed_at g locks awaited f (held_of f t)
held-known locks awaited t g x f is = grind (arith, (known-put (held_in t.command_lock) t g x f))

held-same : (t : PlainTerminal) (g : ℕ) (x : KnownFile) (f : ℕ) → held_in t.command_lock x ≡ held_of g t → held_of f (put_known t g x) ≡ held_of f t
held-same t g x f is = grind (arith, held-known, (if-same (g == f) (window_at t f).locks), (if-same (g == f) (window_at t f).awaited))

held-window : (t : PlainTerminal) (g : ℕ) (w : Window) (f : ℕ) → w.locks ≡ (window_at t g).locks → w.awaited ≡ (window_at t g).awaited → held_of f (put_window t g w) ≡ held_of f t
held-window t g w f l a = grind (arith, held-same)

-- ## Messages that are composed

abbrev with_lock : ℕ → Lock → Held → Held
with_lock f NoLock h = h
with_lock f CommandLock h = record h { command = true }
with_lock f (FileLock g) h = changed_at g (λ n. n + 1) (λ n. n) f h

abbrev with_request : ℕ → Tmesg → Held → Held
with_request f (Trequest g p n) h = changed_at g (λ n. n) (λ n. n + 1) f h
with_request f _ h = h

abbrev with_one : ℕ → Tmesg → Held → Held
with_one f m h = with_request f m (with_lock f (lock_of m) h)

abbrev with_all : ℕ → List Tmesg → Held → Held
with_all f [] h = h
with_all f (m ∷ ms) h = with_all f ms (with_one f m h)

held-lock : (f : ℕ) (l : Lock) (t : PlainTerminal) → held_of f (lock_taken l t) ≡ with_lock f l (held_of f t)
held-lock f (FileLock g) t = held-known (λ n. n + 1) (λ n. n) t g _ f refl
held-lock f l t = grind arith

held-asked : (f : ℕ) (m : Tmesg) (t : PlainTerminal) → held_of f (asked m t) ≡ with_request f m (held_of f t)
held-asked f (Trequest g p n) t = held-known (λ n. n) (λ n. n + 1) t g _ f refl
held-asked f _ t = refl

held-composed : (f : ℕ) (t : PlainTerminal) (m : Tmesg) → held_of f (composed t m) ≡ with_one f m (held_of f t)
held-composed f t m = grind (arith, held-asked, held-lock)

held-all : (f : ℕ) (t : PlainTerminal) (ms : List Tmesg) → held_of f (all_composed t ms) ≡ with_all f ms (held_of f t)
held-all f t [] = refl
held-all f t (m ∷ ms) = held-all f (composed t m) ms ∙ ap (λ h. with_all f ms h) (held-composed f t m)

all-append : (f : ℕ) (ms ns : List Tmesg) (h : Held) → with_all f (ms ++ ns) h ≡ with_all f ns (with_all f ms h)
all-append f [] ns h = refl
all-append f (m ∷ ms) ns h = all-append f ms ns (with_one f m h)

-- what was made holds what its messages take
record Holds (f : ℕ) (h : Held) (made : Made) : Type 0 where
  held : held_of f made.0 ≡ with_all f made.1 h

holds-none : (f : ℕ) (h : Held) (t : PlainTerminal) → held_of f t ≡ h → Holds f h (t, [])
holds-none f h t e = record { held = e }

holds-all : (f : ℕ) (h : Held) (t : PlainTerminal) (ms : List Tmesg) → held_of f t ≡ h → Holds f h (all_composed t ms, ms)
holds-all f h t ms e = record { held = held-all f t ms ∙ ap (λ x. with_all f ms x) e }

holds-then : (f : ℕ) (h : Held) (made : Made) (next : PlainTerminal → Made) → Holds f h made → Holds f (held_of f made.0) (next made.0) → Holds f h (made_then made next)
holds-then f h made next a b = grind (arith, all-append)

holds-if : (f : ℕ) (h : Held) (b : Bool) (x y : Made) → Holds f h x → Holds f h y → Holds f h (if b then x else y)
holds-if f h b x y e u = grind arith

holds-flushed : (f : ℕ) (t : PlainTerminal) → Holds f (held_of f t) (flushed t)
unfolding flushed
holds-flushed f t = holds-all f (held_of f t) (record t { unsent = None }) (unsent_message t.unsent) refl

holds-sends : (f : ℕ) (t : PlainTerminal) (change : PlainTerminal → PlainTerminal) (ms : List Tmesg) → ((u : PlainTerminal) → held_of f (change u) ≡ held_of f u)
    → Holds f (held_of f t) (sends t change ms)
holds-sends f t change ms same = search (arith, holds-then, holds-flushed, holds-all)

holds-plain : (f : ℕ) (t : PlainTerminal) (ms : List Tmesg) → Holds f (held_of f t) (sends t unchanged ms)
holds-plain f t ms = holds-sends f t unchanged ms (λ u. refl)

holds-sends_if : (f : ℕ) (m : Option Tmesg) (t : PlainTerminal) → Holds f (held_of f t) (sends_if m t)
holds-sends_if f None t = holds-none f (held_of f t) t refl
holds-sends_if f (Some m) t = holds-sends f t (λ u. u) (m ∷ []) (λ u. refl)

holds-requested : (f : ℕ) (h : Held) (t : PlainTerminal) (g : ℕ) → held_of f t ≡ h → Holds f h (requested t g)
unfolding requested
holds-requested f h t g e = subst (λ x. Holds f x (requested t g)) e (holds-sends_if f (wanted t g) t)

-- ## Events

held-edited : (f : ℕ) (t : PlainTerminal) (g : ℕ) → held_of f (edited t g) ≡ held_of f t
held-edited f t g = held-same t g (record (known_at t g) { changed = true }) f refl

held-cut : (f g p q : ℕ) (u : PlainTerminal) → held_of f (cut_rasp u g p q) ≡ held_of f u
held-cut f g p q u = held-window (edited u g) g _ f refl refl ∙ held-edited f u g

held-replaced : (f g p q : ℕ) (s : List ℕ) (u : PlainTerminal) → held_of f (replaced u g p q s) ≡ held_of f u
held-replaced f g p q s u = held-window (cut_rasp u g p q) g _ f refl refl ∙ held-cut f g p q u

holds-kept : (f : ℕ) (t : PlainTerminal) (g p : ℕ) (s : List ℕ) → Holds f (held_of f t) (kept_unsent t g p s)
holds-kept f t g p s = search (arith, holds-if, holds-then, holds-flushed)

held-typed : (f : ℕ) (t : PlainTerminal) (g p : ℕ) (s : List ℕ) → held_of f (typed_rasp t g p s) ≡ held_of f t
held-typed f t g p s = search (arith, held-window, held-edited)

holds-types : (f : ℕ) (t : PlainTerminal) (g p : ℕ) (s : List ℕ) → Holds f (held_of f t) (types t g p s)
holds-types f t g p s =
    let u = (kept_unsent t g p s).0 in
    let typed = typed_rasp u g p s in
    holds-then f (held_of f t) (kept_unsent t g p s) (λ v. let x = typed_rasp v g p s in if is_command_line g s then flushed x else (x, [])) (holds-kept f t g p s)
    (holds-if f (held_of f u) (is_command_line g s) (flushed typed) (typed, [])
    (subst (λ h. Holds f h (flushed typed)) (held-typed f u g p s) (holds-flushed f typed))
    (holds-none f (held_of f u) typed (held-typed f u g p s)))

holds-sends_all : (f : ℕ) (h : Held) (ms : List Tmesg) (t : PlainTerminal) → held_of f t ≡ h → Holds f h (sends_all ms t)
holds-sends_all f h [] t e = holds-none f h t e
holds-sends_all f h (m ∷ ms) t e = subst (λ x. Holds f x (sends t unchanged (m ∷ ms))) e (holds-plain f t (m ∷ ms))

holds-event : (f : ℕ) (t : PlainTerminal) (e : UserEvent) → Holds f (held_of f t) (event_outcome t e)
unfolding made_by_type made_by_cut made_by_paste made_by_snarf made_by_view made_by_load made_by_edit
holds-event f t (Typed g s) = search (arith, holds-then, holds-if, holds-types, holds-sends, held-cut)
holds-event f t (Select g p q) = grind (arith, held-window)
holds-event f t (Cut g) = search (arith, holds-if, holds-sends, held-cut)
holds-event f t (Paste g) = search (arith, holds-then, holds-plain, holds-if, holds-sends, held-cut)
holds-event f t (Snarf g) = grind (arith, (holds-plain f t))
holds-event f t (View g p n) = grind (arith, holds-requested, held-window)
holds-event f t (Load g p n) = grind (arith, holds-sends_all, held-window)
holds-event f t (Edit g p q s) = search (arith, holds-if, holds-none, holds-sends, held-replaced)
holds-event f t Flush = holds-flushed f t
holds-event f t _ = holds-plain f t _

-- ## Frames

abbrev left_by : ℕ → Hmesg → Held → Held
left_by f m h =
    record { command = command_left m h.command; locks = locks_left m f h.locks; awaited = awaited_left m f h.awaited }

-- a session that is over
held-exit : (f : ℕ) (t : PlainTerminal) → held_in false (unwrap_or (slot (map_slots freed_known t.files) f) blank_known) ≡ record { command = false; locks = 0; awaited = 0 }
held-exit f t = grind (arith, slot-map)

-- a file that is dropped
held-free : (f : ℕ) (t : PlainTerminal) (g : ℕ) → held_of f (record t { files = free_slot t.files g }) ≡ changed_at g (λ n. 0) (λ n. 0) f (held_of f t)
held-free f t g = grind (arith, slot-free_same, slot-free_other)

holds-frame : (f : ℕ) (t : PlainTerminal) (m : Hmesg) → Holds f (left_by f m (held_of f t)) (frame_outcome t m)
unfolding took_bindname took_data took_grow took_growdata took_cut took_unlockfile took_close took_exit
holds-frame f t (Hbindname g) = holds-none f _ (frame_outcome t (Hbindname g)).0 (held-known (λ n. 0) (λ n. 0) t g _ f refl)
holds-frame f t (Hnewname g) = holds-none f _ (frame_outcome t (Hnewname g)).0 (held-known (λ n. 0) (λ n. 0) t g blank_known f refl)
holds-frame f t (Hmovname g s) = holds-none f _ (frame_outcome t (Hmovname g s)).0 (held-same t g _ f refl)
holds-frame f t (Hgrow g p n) = holds-none f _ (frame_outcome t (Hgrow g p n)).0 (held-window t g _ f refl refl)
holds-frame f t (Hcheck g) = holds-requested f (held_of f t) t g refl
holds-frame f t (Hdata g p s) =
    holds-none f _ (frame_outcome t (Hdata g p s)).0
    (held-known (λ n. n) (λ n. n - 1) t g _ f refl
    ∙ ap (λ (n : ℕ). record { command = t.command_lock; locks = n; awaited = if g == f then (window_at t f).awaited - 1 else (window_at t f).awaited }) (if-same (g == f) (window_at t f).locks))
holds-frame f t (Horigin g p) = holds-none f _ (frame_outcome t (Horigin g p)).0 (held-window t g _ f refl refl)
holds-frame f t (Hunlockfile g) =
    holds-requested f _ (took_unlockfile t g) g
    (held-known (λ n. n - 1) (λ n. n) t g _ f refl
    ∙ ap (λ (n : ℕ). record { command = t.command_lock; locks = if g == f then (window_at t f).locks - 1 else (window_at t f).locks; awaited = n }) (if-same (g == f) (window_at t f).awaited))
holds-frame f t (Hsetdot g p q) = holds-none f _ (frame_outcome t (Hsetdot g p q)).0 (held-window t g _ f refl refl)
holds-frame f t (Hgrowdata g p s) = holds-none f _ (frame_outcome t (Hgrowdata g p s)).0 (held-window t g _ f refl refl)
holds-frame f t (Hmoveto g p) = holds-none f _ (frame_outcome t (Hmoveto g p)).0 (held-window t g _ f refl refl)
holds-frame f t (Hclean g) = holds-none f _ (frame_outcome t (Hclean g)).0 (held-same t g _ f refl)
holds-frame f t (Hdirty g) = holds-none f _ (frame_outcome t (Hdirty g)).0 (held-same t g _ f refl)
holds-frame f t (Hcut g p n) = holds-none f _ (frame_outcome t (Hcut g p n)).0 (held-window t g _ f refl refl)
holds-frame f t (Hdelname g) = holds-none f _ (frame_outcome t (Hdelname g)).0 (held-free f t g)
holds-frame f t (Hclose g) = holds-none f _ (frame_outcome t (Hclose g)).0 (held-known (λ n. 0) (λ n. 0) t g _ f refl)
holds-frame f t Hack = grind (arith, (holds-plain f t (Tack ∷ [])))
holds-frame f t Hexit = holds-none f _ (frame_outcome t Hexit).0 (held-exit f t)
holds-frame f t _ = holds-none f _ _ refl

-- ## What is held then, in numbers

or-none : (b : Bool) → b ≡ (b || false)
or-none b = grind arith

command-all : (f : ℕ) (ms : List Tmesg) (h : Held) → (with_all f ms h).command ≡ (h.command || takes_command ms)
command-all f [] h = or-none h.command
command-all f (m ∷ ms) h = grind (arith, (command-all f ms (with_one f m h)))

locks-all : (f : ℕ) (ms : List Tmesg) (h : Held) → (with_all f ms h).locks ≡ h.locks + locks_taken f ms
locks-all f [] h = omega arith
locks-all f (m ∷ ms) h = grind (arith, (locks-all f ms (with_one f m h)))

awaited-all : (f : ℕ) (ms : List Tmesg) (h : Held) → (with_all f ms h).awaited ≡ h.awaited + requests f ms
awaited-all f [] h = omega arith
awaited-all f (m ∷ ms) h = grind (arith, (awaited-all f ms (with_one f m h)))

-- ## The laws

command-made : (f : ℕ) (h : Held) (made : Made) → Holds f h made → made.0.command_lock ≡ (h.command || takes_command made.1)
command-made f h made k = ap (λ (x : Held). x.command) k.held ∙ command-all f made.1 h

locks-made : (f : ℕ) (h : Held) (made : Made) → Holds f h made → (window_at made.0 f).locks ≡ h.locks + locks_taken f made.1
locks-made f h made k = ap (λ (x : Held). x.locks) k.held ∙ locks-all f made.1 h

awaited-made : (f : ℕ) (h : Held) (made : Made) → Holds f h made → (window_at made.0 f).awaited ≡ h.awaited + requests f made.1
awaited-made f h made k = ap (λ (x : Held). x.awaited) k.held ∙ awaited-all f made.1 h

pub event_command : (t : PlainTerminal) (e : UserEvent) → (event_outcome t e).0.command_lock ≡ (t.command_lock || takes_command (event_outcome t e).1)
event_command t e = command-made 0 (held_of 0 t) (event_outcome t e) (holds-event 0 t e)

pub event_locks : (t : PlainTerminal) (e : UserEvent) (f : ℕ) → (window_at (event_outcome t e).0 f).locks ≡ (window_at t f).locks + locks_taken f (event_outcome t e).1
event_locks t e f = locks-made f (held_of f t) (event_outcome t e) (holds-event f t e)

pub event_awaits : (t : PlainTerminal) (e : UserEvent) (f : ℕ) → (window_at (event_outcome t e).0 f).awaited ≡ (window_at t f).awaited + requests f (event_outcome t e).1
event_awaits t e f = awaited-made f (held_of f t) (event_outcome t e) (holds-event f t e)

pub flush_command : (t : PlainTerminal) → (flushed t).0.command_lock ≡ (t.command_lock || takes_command (flushed t).1)
flush_command t = command-made 0 (held_of 0 t) (flushed t) (holds-flushed 0 t)

pub flush_locks : (t : PlainTerminal) (f : ℕ) → (window_at (flushed t).0 f).locks ≡ (window_at t f).locks + locks_taken f (flushed t).1
flush_locks t f = locks-made f (held_of f t) (flushed t) (holds-flushed f t)

pub flush_awaits : (t : PlainTerminal) (f : ℕ) → (window_at (flushed t).0 f).awaited ≡ (window_at t f).awaited + requests f (flushed t).1
flush_awaits t f = awaited-made f (held_of f t) (flushed t) (holds-flushed f t)

pub frame_command : (t : PlainTerminal) (m : Hmesg) → (frame_outcome t m).0.command_lock ≡ (command_left m t.command_lock || takes_command (frame_outcome t m).1)
frame_command t m = command-made 0 (left_by 0 m (held_of 0 t)) (frame_outcome t m) (holds-frame 0 t m)

pub frame_locks : (t : PlainTerminal) (m : Hmesg) (f : ℕ) → (window_at (frame_outcome t m).0 f).locks ≡ locks_left m f (window_at t f).locks + locks_taken f (frame_outcome t m).1
frame_locks t m f = locks-made f (left_by f m (held_of f t)) (frame_outcome t m) (holds-frame f t m)

pub frame_awaits : (t : PlainTerminal) (m : Hmesg) (f : ℕ) → (window_at (frame_outcome t m).0 f).awaited ≡ awaited_left m f (window_at t f).awaited + requests f (frame_outcome t m).1
frame_awaits t m f = awaited-made f (left_by f m (held_of f t)) (frame_outcome t m) (holds-frame f t m)
