-- What a try of the oldest held event leaves, and what a step answers for whose messages no room could be made.
use Rattle.std.proofs.Common.{true≢false}
use Rattle.sam_world.proofs.Common.{◌≡◌, ◌==◌, Bool, false, if◌then◌else◌, Some, Result, Ok, refl, sym, subst, arith, append-nil, take_of, TermFault, Tmesg, HFrame, PlainTerminal, PlainWorld, head, WasReached, IsFaultOf, OutOfMemory, CountFull, Act, Flush, HostTake, TermTake, Acted, Locked, acts, step_of, act_of, flush_of, after_act}
use Rattle.sam_runes.specs.Texts.{most_count}
use Rattle.sam_term.specs.declared.event.Acted.TheVariants.{Idle}
use Rattle.sam_term.specs.Taking.{is_term_full}
use Rattle.sam_term.proofs.ActLaws.{idle_still, locked_still}
use Rattle.sam_world.specs.declared.event.StepFault.{StepFault}
use Rattle.sam_world.proofs.Stopping.{act_fault, flush_fault, take_fault, answer_fault, room_fault, take_room, answer_room}

-- an act that would neither do nor refuse anything leaves the world as it is
pub in_vain : (w : PlainWorld) → acts (act_of w.term) ≡ false → step_of w Act ≡ Some w
in_vain w none = by (act_of w.term) refl none
  where
    by : (o : Result (PlainTerminal × Acted) TermFault) → act_of w.term ≡ o → acts o ≡ false → after_act w o ≡ Some w
    by (Ok (t, Idle)) is idle = grind (arith, append-nil, (idle_still w.term t is))
    by (Ok (t, Locked)) is waits = grind (arith, append-nil, (locked_still w.term t is))
    by o is goes = absurd (true≢false goes)

pub act_without_room : (w : PlainWorld) (full : Bool) (s : StepFault) → full ≡ is_term_full (act_of w.term) → s ≡ (if full then CountFull else OutOfMemory) → IsFaultOf w Act s
act_without_room w full s is told = subst (λ (x : StepFault). IsFaultOf w Act x) (sym told) (room_fault w Act full refl refl is)

pub flush_without_room : (w : PlainWorld) (full : Bool) (s : StepFault) → full ≡ is_term_full (flush_of w.term) → s ≡ (if full then CountFull else OutOfMemory) → IsFaultOf w Flush s
flush_without_room w full s is told = subst (λ (x : StepFault). IsFaultOf w Flush x) (sym told) (room_fault w Flush full refl refl is)

pub take_without_room : (w : PlainWorld) (frame : HFrame) (full : Bool) (s : StepFault) → head w.down ≡ Some frame → full ≡ is_term_full (take_of w.term frame)
    → s ≡ (if full then CountFull else OutOfMemory) → IsFaultOf w TermTake s
take_without_room w frame full s first is told = subst (λ (x : StepFault). IsFaultOf w TermTake x) (sym told) (take_room w frame full first is)

pub answer_without_room : (w : PlainWorld) (m : Tmesg) (full : Bool) (s : StepFault) → WasReached w → head w.up ≡ Some m → full ≡ (w.host.taken == most_count)
    → s ≡ (if full then CountFull else OutOfMemory) → IsFaultOf w HostTake s
answer_without_room w m full s r first is told = subst (λ (x : StepFault). IsFaultOf w HostTake x) (sym told) (answer_room w m full r first is)

-- what the faults of a step rest on
pub ruleset act_fault_facts = (in_vain, act_fault, act_without_room)

pub ruleset flush_fault_facts = (flush_fault, flush_without_room)

pub ruleset take_fault_facts = (take_fault, take_without_room)

pub ruleset answer_fault_facts = (answer_fault, answer_without_room)
