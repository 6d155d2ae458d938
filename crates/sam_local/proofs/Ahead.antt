-- Where both sides come to, and what is known of it while all is in order.
use Rattle.sam_crossing.proofs.Common.{◌≡◌, ℕ, Bool, true, List, [], ◌∷◌, ◌++◌, ◌+◌, Option, Some, None, is_some, unwrap_or, option_map, refl, sym, ap, ◌∙◌, arith, same_Some, slot, slot-map, Tmesg, Trequest, Ttype, Hmesg, PlainHost, KnownFile, Window, Lock, NoLock, CommandLock, FileLock, lock_of, PlainTerminal, known_at, window_at, is_open, put_window, blank_window, composed, all_composed, flushed, unsent_message, Unsent, Lens, IsSynced, InOrder, at_file, action, run, view, effect, file_in}
use Rattle.sam_term.specs.Term.{lock_taken}
use Rattle.sam_crossing.proofs.Lenses.{IsOpen}
use Rattle.sam_crossing.proofs.Runs.{stepped}
use Rattle.sam_crossing.proofs.FrameMoves.{take_law}
use Rattle.sam_local.specs.Local.{whole_window, at_rest, all_taken, answered_with, come_to}
use Rattle.sam_local.proofs.Sights.{bare, sight, sight-put, put-again}
use Rattle.sam_local.proofs.Frames.{known-put_same}

-- ## Lenses of the terminal that has taken frames

pub views-taken : (ms : List Hmesg) (t : PlainTerminal) → ((g : ℕ) → (v : Lens) × (run (at_file g ms) (view g t) ≡ Some v))
    → (g : ℕ) → run (at_file g ms) (view g t) ≡ Some (view g (all_taken t ms))
views-taken [] t h g = refl
views-taken (m ∷ ms) t h g =
    let moves = (take_law t m (λ k. let s = stepped (action k m) (at_file k ms) (view k t) (h k).0 (h k).1 in (s.mid, s.moves))).moves in
    rw (moves g) (views-taken ms (effect t m) (λ k. ((h k).0, rw (moves k) at (h k).1)) g)

module _ (h : PlainHost) (t : PlainTerminal) (up : List Tmesg) (down : List Hmesg) (o : InOrder h t up down) where
  -- the terminal ahead
  abbrev pub term_ahead : PlainTerminal
  term_ahead = all_taken t (down ++ o.kept.frames)

  pub run-ahead : (g : ℕ) → run (at_file g (down ++ o.kept.frames)) (view g t) ≡ Some (view g term_ahead)
  run-ahead g = views-taken (down ++ o.kept.frames) t (λ k. ((o.kept.each k).final, (o.kept.each k).runs)) g

  pub final-ahead : (g : ℕ) → (o.kept.each g).final ≡ view g term_ahead
  final-ahead g = same_Some _ _ (sym (o.kept.each g).runs ∙ run-ahead g)

  pub synced-ahead : (g : ℕ) → IsSynced (view g term_ahead) o.kept.ahead.is_done o.kept.ahead.version (file_in o.kept.ahead.files.slots g)
  synced-ahead g = rw (final-ahead g) at (o.kept.each g).synced

  pub come-to-is : come_to h t up down ≡ at_rest o.kept.ahead term_ahead
  come-to-is = ap (answered_with h t down) o.kept.folds

-- ## Windows of which the sight tells nothing new

pub opened-is : (t : PlainTerminal) (f : ℕ) → is_open t f ≡ true → slot t.files f ≡ Some (known_at t f)
opened-is t f e = grind arith

pub window-is : (t : PlainTerminal) (f : ℕ) → is_open t f ≡ true → (known_at t f).window ≡ Some (window_at t f)
window-is t f e = grind arith

pub sight-window : (t : PlainTerminal) (f : ℕ) (w : Window) → is_open t f ≡ true → whole_window [] w ≡ whole_window [] (window_at t f)
    → sight (put_window t f w) ≡ sight t
sight-window t f w o e =
    let x : KnownFile = record (known_at t f) { window = Some w } in
    let same : bare x ≡ bare (known_at t f) = (λ i. record (known_at t f) { window = Some (e i) })
    ∙ sym (λ i. record (known_at t f) { window = option_map (whole_window []) (window-is t f o i) }) in
    sight-put t f x
    ∙ (λ i. record (sight t) { files = put-again (sight t).files f (bare x) (slot-map bare t.files f ∙ ap (option_map bare) (opened-is t f o) ∙ ap Some (sym same)) i })

pub opened-put : (t : PlainTerminal) (f : ℕ) (w : Window) → is_open (put_window t f w) f ≡ true
opened-put t f w = ap (λ (x : KnownFile). is_some x.window) (known-put_same t f (record (known_at t f) { window = Some w }))

pub window-put : (t : PlainTerminal) (f : ℕ) (w : Window) → window_at (put_window t f w) f ≡ w
window-put t f w = ap (λ (x : KnownFile). unwrap_or x.window blank_window) (known-put_same t f (record (known_at t f) { window = Some w }))

pub open-view : (t : PlainTerminal) (f : ℕ) → IsOpen (view f t) → is_open t f ≡ true
open-view t f o = grind arith

-- ## What is composed changes no sight

-- the file that a message locks is open
abbrev pub LockFits : Lock → PlainTerminal → Type 0
LockFits (FileLock f) t = is_open t f ≡ true
LockFits _ t = Unit {0}

pub sight-composed : (t : PlainTerminal) (m : Tmesg) → LockFits (lock_of m) t → sight (composed t m) ≡ sight t
sight-composed t (Trequest f p n) e =
    let u = lock_taken (FileLock f) (record t { sent = t.sent + 1 }) in
    sight-window u f _ (opened-put t f _) refl ∙ sight-window t f (record (window_at t f) { locks = (window_at t f).locks + 1 }) e refl
sight-composed t m e = locked (lock_of m) e
  where
    locked : (l : Lock) → LockFits l t → sight (lock_taken l (record t { sent = t.sent + 1 })) ≡ sight t
    locked NoLock e = refl
    locked CommandLock e = refl
    locked (FileLock f) e = sight-window t f (record (window_at t f) { locks = (window_at t f).locks + 1 }) e refl

pub sight-flushed : (t : PlainTerminal) → sight (flushed t).0 ≡ sight t
unfolding flushed
sight-flushed t = go t.unsent
  where
    locked : (b : Bool) (u : Unsent) → sight (composed (record t { unsent = None }) (Ttype u.file u.place u.runes)) ≡ sight t
    locked b u = grind arith

    go : (u : Option Unsent) → sight (all_composed (record t { unsent = None }) (unsent_message u)) ≡ sight t
    go None = refl
    go (Some u) = locked true u
