-- What is written of a fault.
use Rattle.sam_modes.proofs.Common.{List, ℕ, Option, arith, Appends, PlayFault}
use Rattle.sam_modes.specs.Status.{fault_line, IsTold}

pub told : (before after : Option (List ℕ)) (e : PlayFault) → Appends before after (fault_line e) → IsTold before after e
told before after e u = grind arith
