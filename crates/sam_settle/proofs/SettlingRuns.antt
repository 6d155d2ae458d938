-- Runs of the plain world that stop.
use Rattle.sam_settle.proofs.Common.{◌≡◌, ℕ, suc, List, ◌∷◌, take, slice_get, Some, None, arith, slice_get_cases, PlainWorld, new_world, step_of, run_of, Event}
use Rattle.sam_world.specs.Faults.{IsFaultOf, IsStoppedAt}
use Rattle.sam_world.specs.declared.event.RunStop.{RunStop}
use Rattle.sam_world.specs.declared.event.StepFault.{StepFault}
use Rattle.sam_world.specs.declared.event.StepFault.TheVariants.{OutOfMemory}
use Rattle.sam_world.proofs.Stopping.{passing_stops}

-- a fault other than out of memory is of an event that is no step
no_step : (w : PlainWorld) (e : Event) (why : StepFault) → IsFaultOf w e why → (why ≡ OutOfMemory → ⊥) → step_of w e ≡ None
no_step w e why u q = grind (arith, passing_stops)

no_run : (w v : PlainWorld) (es : List Event) (at : ℕ) (e : Event) → slice_get es at ≡ Some e → run_of w (take at es) ≡ Some v → step_of v e ≡ None → run_of w es ≡ None
no_run w v (d ∷ es) (suc at) e is r s = grind (arith, (λ (n : PlainWorld). no_run n v es at e))
no_run w v es at e u q y = grind arith

-- a run from the first world of these files that stopped for another reason than out of memory
pub stopped_first : (files : List (List ℕ × List ℕ)) (w v : PlainWorld) (es : List Event) (stop : RunStop) → w ≡ new_world files → IsStoppedAt w es stop v
    → (stop.fault ≡ OutOfMemory → ⊥) → None ≡ run_of (new_world files) es
stopped_first files w v es stop first s ne = grind (arith, slice_get_cases, no_run, no_step)
