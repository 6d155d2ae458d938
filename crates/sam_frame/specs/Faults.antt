-- The numbers of a framer's faults.
use Rattle.std.specs.Prelude.{ℕ}
use Rattle.sam_frame.specs.declared.fault.FeedFault.{FeedFault}
use Rattle.sam_frame.specs.declared.fault.FeedFault.TheVariants.{BadKind, BadLength, BadText, Truncated, Failed, OutOfMemory, CountFull}
use Rattle.sam_frame.specs.declared.fault.FeedRefusal.{FeedRefusal}
use Rattle.sam_frame.specs.declared.fault.FeedRefusal.TheVariants as refusal

abbrev pub fault_number : {M : Type 0} → FeedFault M → ℕ
fault_number (BadKind ms place) = 1
fault_number (BadLength ms place) = 2
fault_number (BadText ms place) = 3
fault_number Truncated = 4
fault_number Failed = 5
fault_number OutOfMemory = 6
fault_number CountFull = 7

-- a refusal of give is this fault of feed
abbrev pub fault_of : {M : Type 0} → FeedRefusal → FeedFault M
fault_of refusal.Failed = Failed
fault_of refusal.CountFull = CountFull
fault_of refusal.OutOfMemory = OutOfMemory

abbrev pub refusal_number : FeedRefusal → ℕ
refusal_number why = fault_number {M = Unit {0}} (fault_of why)
