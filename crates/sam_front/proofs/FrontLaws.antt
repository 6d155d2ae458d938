-- What a front does, by what its parts do.
use Rattle.std.proofs.Common.{◌≡◌, refl, sym, ap, ◌∙◌, ℕ, ◌+◌, ◌-◌, Bool, true, false, Ok, Err, arith}
use Rattle.sam_term.specs.declared.event.UserEvent.{UserEvent}
use Rattle.sam_overlay.specs.declared.fault.AskFault.{AskFault}
use Rattle.sam_note.specs.Messages.{Message}
use Rattle.sam_front.specs.Fronts.{AsksUnless, Says}
use Rattle.sam_front.specs.declared.fault.BeginFault.{BeginFault}
use Rattle.sam_front.specs.declared.fault.BeginFault.TheVariants.{BadField, BadLength, BadPath, CountFull, OutOfMemory, TooMany}
use Rattle.sam_front.specs.declared.front.Front.{Front}
use Rattle.sam_front.specs.Tasks.{PlainTasks, more, new_task, taken_back}
use Rattle.sam_front.proofs.TaskLaws.{back_is}

less-one : (n : ℕ) → n + 1 - 1 ≡ n
less-one n = omega arith

-- a task that is taken back as soon as it is begun was not begun
pub back_more : (t : PlainTasks) → taken_back (more t) ≡ t
back_more t =
    sym (back_is (t.begun + 1) (more t).waiting t.waiting (new_task (t.begun + 1)) refl)
    ∙ ap (λ n. record { begun = n; waiting = t.waiting }) (less-one t.begun)

-- a request that is not taken leaves the tasks
pub asks_keep : (full : Bool) (f : Front) (e : UserEvent) (why : AskFault) (n : Front) → AsksUnless full f e (Err why) n → n.tasks ≡ f.tasks
asks_keep true f e why n asks = ap (λ x. x.tasks) asks.1
asks_keep false f e why n (Ok x, does, numbered) = let wrong = numbered.0 in absurd cc
asks_keep false f e why n (Err w, does, numbered) = ap (λ x. x.tasks) numbered.1

-- so does a message that does not go into the line
pub says_keep : (f : Front) (m : Message) (now : ℕ) (why : BeginFault) (n : Front) → Says f m now (Err why) n → n.tasks ≡ f.tasks
says_keep f m now TooMany n says = absurd says
says_keep f m now BadField n says = ap (λ x. x.tasks) says.1
says_keep f m now BadLength n says = ap (λ x. x.tasks) says.1
says_keep f m now BadPath n says = ap (λ x. x.tasks) says.1
says_keep f m now CountFull n says = ap (λ x. x.tasks) says.2
says_keep f m now OutOfMemory n says = ap (λ x. x.tasks) says.2
