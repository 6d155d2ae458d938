use Rattle.std.proofs.Common.{◌≡◌, ◌<◌, ℕ, true}
use Rattle.sam_overlay.specs.Calls.{IsReady}
use Rattle.sam_overlay.specs.Requests.{concerns}
use Rattle.sam_overlay.proofs.overlay.Overlay.can_act.Given as goal

abbrev pub invariant-loop-index : goal.invariant-loop-index
invariant-loop-index l = (f : ℕ) → f < l.index → concerns l.event f ≡ true → IsReady l.self f l.group
