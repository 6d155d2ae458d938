-- The two sides have the same version wherever the command lock is free: after each Hversion stands an Hunlock.
use Rattle.sam_crossing.proofs.Common.{◌≡◌, ℕ, true, false, List, [], ◌∷◌, ◌++◌, refl, arith, Tmesg, Tversion, Hmesg, reply_version, reply_startsnarf, PlainHost, reply_to, at_file, unlocks_command, is_version, VersionsGuarded}
use Rattle.sam_host.proofs.EachFrame.{EachFrame, AreFrames, reply_each}
use Rattle.sam_crossing.proofs.Lenses.{changes, frees_command}

-- no Hversion among them
abbrev pub IsPlain : List Hmesg → Type 0
IsPlain ms = EachFrame (λ m. is_version m ≡ false) ms

plain_guarded : (a : List Hmesg) → IsPlain a → VersionsGuarded a
plain_guarded [] p = tt
plain_guarded (m ∷ a) p = grind (arith, (plain_guarded a))

pub unlocks-append : (a b : List Hmesg) → unlocks_command a ≡ true → unlocks_command (a ++ b) ≡ true
unlocks-append [] b e = grind arith
unlocks-append (m ∷ a) b e = grind (arith, (unlocks-append a b))

pub unlocks_behind : (a b : List Hmesg) → unlocks_command b ≡ true → unlocks_command (a ++ b) ≡ true
unlocks_behind [] b e = e
unlocks_behind (m ∷ a) b e = grind (arith, (unlocks_behind a b))

pub versions-append : (a b : List Hmesg) → VersionsGuarded a → VersionsGuarded b → VersionsGuarded (a ++ b)
versions-append [] b p q = q
versions-append (m ∷ a) b p q = grind (arith, unlocks-append, (versions-append a b))

-- ## No answer but that to Tversion has an Hversion

pub plain_frames : AreFrames (λ m. is_version m ≡ false) (λ s. Unit {0})
plain_frames = grind arith

-- no Hversion, where the message is not Tversion
abbrev pub HasNoVersion : PlainHost → Tmesg → Type 0
HasNoVersion h (Tversion v) = Unit {0}
HasNoVersion h m = IsPlain (reply_to h m).1

pub reply_plain : (h : PlainHost) (m : Tmesg) → HasNoVersion h m
unfolding reply_startsnarf
reply_plain h m = grind (arith, (reply_each plain_frames h m))

pub guarded_reply : (h : PlainHost) (m : Tmesg) → VersionsGuarded (reply_to h m).1
unfolding reply_version
guarded_reply h m = grind (arith, unlocks_behind, plain_guarded, (reply_plain h m), (reply_each plain_frames h m))

pub unlock_frames : (g : ℕ) (fs : List Hmesg) → frees_command (at_file g fs) ≡ unlocks_command fs
unlock_frames g [] = refl
unlock_frames g (m ∷ fs) = grind (arith, (unlock_frames g fs))

-- without an Hunlock there is no Hversion
pub no_changes : (g : ℕ) (fs : List Hmesg) → VersionsGuarded fs → unlocks_command fs ≡ false → changes (at_file g fs) ≡ false
no_changes g [] v e = refl
no_changes g (m ∷ fs) v e = grind (arith, (no_changes g fs))
