-- What the tests of an event say of the views, where none of them stands against it.
use Rattle.sam_crossing.proofs.Common.{[], ◌≡◌, ℕ, true, false, not, ◌&&◌, nat_lt, List, ◌∷◌, None, arith, or_parts, Slots, first_of_checks, PlainTerminal, window_at, is_open, is_known, is_any_locked, event_checks, is_unknown, is_closed, is_file_locked, has_bad_place, makes_too_long, waits_for_all, is_bad_version, is_for_command_file, needs_open, UserEvent, window_in, KnownFile, PartialText, OpenAt, view}
use Rattle.sam_term.specs.Events.{file_of}
use Rattle.sam_term.proofs.Acts.{none_holds, test_at}
use Rattle.sam_crossing.proofs.Lenses.{IsFree, IsOpen}
use Rattle.sam_crossing.proofs.Changes.{KnownAt}

-- each test of an event, none of which holds
pub record Passed (t : PlainTerminal) (e : UserEvent) : Type 0 where
  pub here : t.has_exited ≡ false
  pub free : t.command_lock ≡ false
  pub version : is_bad_version e ≡ false
  pub known : is_unknown t (file_of e) ≡ false
  pub other : is_for_command_file e ≡ false
  pub opened : (needs_open e && is_closed t (file_of e)) ≡ false
  pub unlocked : is_file_locked t (file_of e) ≡ false
  pub all_unlocked : (waits_for_all e && is_any_locked t.files) ≡ false
  pub place : has_bad_place t e ≡ false
  pub room : makes_too_long t e ≡ false

pub passed : (t : PlainTerminal) (e : UserEvent) → first_of_checks (event_checks t e) ≡ None → Passed t e
unfolding test_at
passed t e h =
    let stands = none_holds (event_checks t e) in
    let locks = or_parts (is_file_locked t (file_of e)) (waits_for_all e && is_any_locked t.files) (stands 6 h) in
    record {
      here = stands 0 h;
      free = stands 1 h;
      version = stands 2 h;
      known = stands 3 h;
      other = stands 4 h;
      opened = stands 5 h;
      unlocked = locks.0;
      all_unlocked = locks.1;
      place = stands 7 h;
      room = stands 9 h;
    }

-- a file without locks is free, where the command lock is
pub free_at : (t : PlainTerminal) (f : ℕ) → t.command_lock ≡ false → nat_lt 0 (window_at t f).locks ≡ false → IsFree (view f t)
free_at t f c k = grind arith

-- one that is open and has no locks
pub open_free : (P : PartialText → Type 0) (t : PlainTerminal) (f : ℕ) → t.command_lock ≡ false → not (is_open t f) ≡ false → nat_lt 0 (window_at t f).locks ≡ false → P (window_at t f).rasp
    → OpenAt P (view f t)
open_free P t f c o k p = grind arith

pub opened_at : (t : PlainTerminal) (f : ℕ) → is_open t f ≡ true → IsOpen (view f t)
opened_at t f o = grind arith

pub known_at_view : (t : PlainTerminal) (f : ℕ) → not (is_known t f) ≡ false → KnownAt (view f t)
known_at_view t f k = grind arith

-- where no file is locked, this one isn't
pub none_locked : (ss : Slots KnownFile) (g : ℕ) → is_any_locked ss ≡ false → nat_lt 0 (window_in ss g).locks ≡ false
none_locked [] g e = grind arith
none_locked (x ∷ ss) g e = grind (arith, (none_locked ss))

pub all_free : (t : PlainTerminal) → t.command_lock ≡ false → is_any_locked t.files ≡ false → (g : ℕ) → IsFree (view g t)
all_free t c e g = free_at t g c (none_locked t.files g e)

-- the tests of an event look at no event that is held
pub held_passed : (t : PlainTerminal) (es : List UserEvent) (e : UserEvent) → Passed t e → Passed (record t { held = es }) e
held_passed t es hk1 p = grind arith
