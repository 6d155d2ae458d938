-- Messages that fit at their place of a stream, where they fit at all.
use Rattle.sam_apart.proofs.Common.{◌≡◌, ℕ, true, List, [], ◌∷◌, ◌++◌, arith, fits_t, FitsT, after_t, Tmesg, Tsetsnarf, FitsH, after_h, HFrame, Direction, terminal, host, FitInTurn, version_after, Each}
use Rattle.sam_mesg.proofs.Versions.{grows_t, grows_h}

-- each message that fits in version 2 fits at its place
abbrev pub InTurn : {M : Type 0} → Direction M → ℕ → List M → Type 0
InTurn d v [] = Unit {0}
InTurn d v (m ∷ ms) = (d.good 2 m → d.good v m) × InTurn d (d.after v m) ms

pub in_turn : {M : Type 0} (d : Direction M) (v : ℕ) (ms : List M) → InTurn d v ms → Each (d.good 2) ms → FitInTurn d v ms
in_turn d v [] p q = tt
in_turn d v (m ∷ ms) p q = (p.0 q.0, in_turn d (d.after v m) ms p.1 q.1)

pub InTurn-append : {M : Type 0} (d : Direction M) (v : ℕ) (ms ns : List M) → InTurn d v ms → InTurn d (version_after d v ms) ns → InTurn d v (ms ++ ns)
InTurn-append d v [] ns p q = q
InTurn-append d v (m ∷ ms) ns p q = (p.0, InTurn-append d (d.after v m) ms ns p.1 q)

pub front_fits : {M : Type 0} (d : Direction M) (v : ℕ) (ms ns : List M) → FitInTurn d v (ms ++ ns) → FitInTurn d v ms
front_fits d v [] ns fit = tt
front_fits d v (m ∷ ms) ns fit = (fit.0, front_fits d (d.after v m) ms ns fit.1)

-- ## What fits in some version fits in version 2

pub each_t : (v : ℕ) (ms : List Tmesg) → FitInTurn terminal v ms → Each (FitsT 2) ms
each_t v [] p = tt
each_t v (m ∷ ms) p = (record { is_message = p.0.is_message; fits = grows_t v m p.0.fits }, each_t (after_t v m) ms p.1)

pub each_h : (v : ℕ) (fs : List HFrame) → FitInTurn host v fs → Each (FitsH 2) fs
each_h v [] p = tt
each_h v (f ∷ fs) p = (record { is_message = p.0.is_message; fits = grows_h v f.msg p.0.fits }, each_h (after_h v f.msg) fs p.1)

-- ## Messages whose limits no version changes

-- the message fits in every version or in none
abbrev pub IsFree : Tmesg → Type 0
IsFree (Tsetsnarf s) = ⊥
IsFree m = Unit {0}

same_fit : (v : ℕ) (m : Tmesg) → IsFree m → fits_t 2 m ≡ true → fits_t v m ≡ true
same_fit v m e u = grind arith

pub free_turn : (v : ℕ) (ms : List Tmesg) → Each IsFree ms → InTurn terminal v ms
free_turn v [] p = tt
free_turn v (m ∷ ms) p = ((λ g. record { is_message = g.is_message; fits = same_fit v m p.0 g.fits }), free_turn (after_t v m) ms p.1)
