-- Messages that fit at their place of a stream: so does a front of them, and each fits in version 2.
use Rattle.sam_workers.proofs.Common.{ℕ, List, [], ◌∷◌, ◌++◌, FitsT, after_t, Tmesg, Direction, terminal, FitInTurn, Each}
use Rattle.sam_mesg.proofs.Versions.{grows_t}

pub front_fits : {M : Type 0} (d : Direction M) (v : ℕ) (ms ns : List M) → FitInTurn d v (ms ++ ns) → FitInTurn d v ms
front_fits d v [] ns fit = tt
front_fits d v (m ∷ ms) ns fit = (fit.0, front_fits d (d.after v m) ms ns fit.1)

pub each_t : (v : ℕ) (ms : List Tmesg) → FitInTurn terminal v ms → Each (FitsT 2) ms
each_t v [] p = tt
each_t v (m ∷ ms) p = (record { is_message = p.0.is_message; fits = grows_t v m p.0.fits }, each_t (after_t v m) ms p.1)
