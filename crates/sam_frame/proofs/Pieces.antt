-- What a framer gives for a piece.
use Rattle.std.proofs.Common.{◌≡◌, ℕ, List, Option, None, Some, is_some, arith}
use Rattle.sam_mesg.specs.declared.fault.MesgFault.{MesgFault}
use Rattle.sam_frame.specs.Direction.{Direction}
use Rattle.sam_frame.specs.Framing.{Held, Gave, GaveUpTo}
use Rattle.sam_frame.specs.Splitting.{Ends}

-- messages, and what stands after them
pub gave_up_to : {M : Type 0} (d : Direction M) (h k : Held) (piece : List ℕ) (ms : List M) (fault : Option MesgFault) (place : ℕ)
    → Gave d h piece ms k → Ends d k.version k.bytes fault → place ≡ k.offset → k.failed ≡ is_some fault → GaveUpTo d h piece ms fault place k
gave_up_to d h k piece ms None place gave waits place_is sound = grind arith
gave_up_to d h k piece ms (Some fault) place gave shows place_is failed = grind arith

pub gave_of : {M : Type 0} (d : Direction M) (h k : Held) (piece : List ℕ) (ms : List M) (fault : Option MesgFault) (place : ℕ)
    → GaveUpTo d h piece ms fault place k → Gave d h piece ms k
gave_of d h k piece ms None place up = up.0.gave
gave_of d h k piece ms (Some fault) place up = up.gave
