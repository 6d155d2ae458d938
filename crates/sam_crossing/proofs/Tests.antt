-- The host's tests of a message, where its file is open and its places lie in the text.
use Rattle.sam_crossing.proofs.Common.{◌≡◌, ℕ, ◌+◌, ◌≤◌, Bool, false, not, ◌==◌, List, [], ◌∷◌, length, None, refl, ap, nat_lt, arith, le-ltb, max_runes, Checks, first_of_checks, file_at, has_file, PlainHost, unknown, not_opened, is_command, past_end, no_range, no_room, HostFault, NoFile, NotOpen, BadPosition, TooLong}
use Rattle.sam_crossing.proofs.HostFiles.{Opens}

pub test : {E : Type 0} (b : Bool) (x : E) (rest : List (Bool × E)) → b ≡ false → first_of_checks {E = E} rest ≡ None → first_of_checks {E = E} ((b, x) ∷ rest) ≡ None
test b x rest e q = rw e q

pub last_test : (b : Bool) (x : HostFault) → b ≡ false → first_of_checks ((b, x) ∷ []) ≡ None
last_test b x e = test b x [] e refl

pub open_tests : (h : PlainHost) (f : ℕ) → Opens h.files f → (rest : Checks HostFault) → first_of_checks rest ≡ None → first_of_checks (unknown h f ∷ not_opened h f ∷ rest) ≡ None
open_tests h f o rest e = test (not (has_file h.files f)) NoFile (not_opened h f ∷ rest) (ap not o.there) (test (not (file_at h.files f).opened) NotOpen rest (ap not o.opened) e)

pub window_tests : (h : PlainHost) (f : ℕ) → Opens h.files f → (f == 0) ≡ false → (rest : Checks HostFault) → first_of_checks rest ≡ None
    → first_of_checks (unknown h f ∷ is_command f ∷ not_opened h f ∷ rest) ≡ None
window_tests h f o z rest e = grind arith

pub place_test : (h : PlainHost) (f p : ℕ) (rest : Checks HostFault) → p ≤ length (file_at h.files f).text → first_of_checks rest ≡ None → first_of_checks (past_end h f p ∷ rest) ≡ None
place_test h f p rest l e = test (nat_lt (length (file_at h.files f).text) p) BadPosition rest (le-ltb _ p l) e

pub range_test : (h : PlainHost) (f p q : ℕ) → p ≤ q → q ≤ length (file_at h.files f).text → first_of_checks (no_range h f p q ∷ []) ≡ None
range_test h f p q l l2 = grind arith

pub room_test : (h : PlainHost) (f : ℕ) (s : List ℕ) → length (file_at h.files f).text + length s ≤ max_runes → first_of_checks (no_room h f s ∷ []) ≡ None
room_test h f s l = last_test (nat_lt max_runes (length (file_at h.files f).text + length s)) TooLong (le-ltb max_runes _ l)
