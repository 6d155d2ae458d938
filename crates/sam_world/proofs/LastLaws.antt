-- Each answer frees just the lock that its message took, by its last frame.
use Rattle.sam_world.proofs.Common.{◌≡◌, refl, ℕ, Bool, true, false, List, [], ◌∷◌, ◌++◌, arith, common_version, PlainHost, reply_to, reply_version, reply_startsnarf, EachFrame, IsTold, Freed, Nothing, Command, File, end_frames, lock_freed, reply_ends, Lock, NoLock, CommandLock, FileLock, Tmesg, Tversion, Tstartsnarf, Hmesg, Hversion, RepliesFree, RepliesFreeLast, has_reply}
use Rattle.sam_term.specs.Events.{lock_of, all_freed}

-- ## The lock that an answer frees is the one that its message took

abbrev lock_in : Freed → Lock
lock_in Nothing = NoLock
lock_in Command = CommandLock
lock_in (File f) = FileLock f

same_lock : (h : PlainHost) (m : Tmesg) → has_reply h m ≡ true → lock_in (lock_freed h m) ≡ lock_of m
same_lock h m e = grind arith

-- ## Frames that free no lock, and one that does at their end

record Frees (l : Freed) (frames : List Hmesg) : Type 0 where
  front : List Hmesg
  quits : Bool
  is : frames ≡ front ++ end_frames l quits
  none : all_freed front ≡ []

-- any name may be told
abbrev Any : List ℕ → Type 0
Any s = Unit {0}

freed-none : (ms : List Hmesg) → EachFrame (IsTold Any) ms → all_freed ms ≡ []
unfolding all_freed
freed-none [] told = refl
freed-none (m ∷ ms) told = grind (arith, (freed-none ms told.1))

frees : (h : PlainHost) (m : Tmesg) → Frees (lock_freed h m) (reply_to h m).1
unfolding reply_version reply_startsnarf all_freed
frees h (Tversion v) =
    let k = reply_ends Any (λ s short. tt) h (Tversion v) (λ f. tt) in
    let agreed = Hversion (common_version v) in
    record { front = agreed ∷ k.front; quits = k.quits; is = cc k.is; none = freed-none k.front k.told }
frees h Tstartsnarf = record { front = (reply_startsnarf h).1; quits = false; is = refl; none = refl }
frees h m = let k = reply_ends Any (λ s short. tt) h m (λ f. tt) in record { front = k.front; quits = k.quits; is = k.is; none = freed-none k.front k.told }

-- ## The laws

pub reply_frees_last : RepliesFreeLast
reply_frees_last h m e some = grind (arith, (same_lock h m e), (frees h m))

freed-append : (xs ys : List Hmesg) → all_freed (xs ++ ys) ≡ all_freed xs ++ all_freed ys
unfolding all_freed
freed-append [] ys = refl
freed-append (x ∷ xs) ys = grind (arith, (freed-append xs ys))

pub reply_frees : RepliesFree
unfolding all_freed
reply_frees h m e = grind (arith, (frees h m), freed-append, (same_lock h m e))
