-- What the five joins hand on, of one gate, one script and one set of lines.
use Rattle.std.proofs.Common.{◌≡◌, refl, subst, ℕ, List, Option, Some, None, Result, arith, IfSome, IsSomeAnd, IfOk}
use Rattle.sam_term.specs.declared.event.UserEvent.{UserEvent}
use Rattle.sam_ends.specs.Lines.{LinesView}
use Rattle.sam_ends.specs.Gates.{GatesLetIn}
use Rattle.sam_ends.specs.WorkerEnds.{AllPassed, RefusesSome}
use Rattle.sam_ends.specs.declared.ends.Ends.{Ends}
use Rattle.sam_spawn.specs.Promised.{AllKept, AreOfKinds, KeepPromises, Keeps, Promises, SomeRefused, TasksKept, TasksPromised}
use Rattle.sam_ends.specs.Tasks.{AreReady}
use Rattle.sam_spawn.specs.declared.run.RunFault.{RunFault}
use Rattle.sam_spawn.specs.declared.spawning.Handles.{Handles}
use Rattle.sam_spawn.specs.declared.spawning.TaskPromise.{TaskPromise}
use Rattle.sam_ends.specs.declared.tasks.Tasks.{Tasks}
use Rattle.sam_spawn.specs.declared.work.Task.{Task}
use Rattle.sam_spawn.specs.declared.work.Task.TheVariants as task
use Rattle.sam_spawn.specs.declared.work.End.{End}
use Rattle.sam_spawn.specs.declared.work.End.TheVariants as end

-- what the joins hand on, where all five were started
module _ {G : Type 0} (may : G → ℕ → Type 0) (must : G → ℕ → Option ℕ → Type 0) (gate : G) (tasks : Tasks) (handles : Option (Handles G)) (ends : Option Ends)
    (ready : AreReady tasks.lines.now tasks) (promised : IfSome handles (TasksPromised gate tasks)) (joined : IfSome ends (λ e. IsSomeAnd handles (λ h. KeepPromises may must h e))) where
  -- what a thread promised, of the gate and of what its worker began with
  kept : (p : TaskPromise G) (t : Task) (e : End) → Promises gate t p → Keeps (may p.gate.now) (must p.gate.now) p.task.value e → Keeps (may gate) (must gate) t e
  kept p t e is k = subst (λ g. Keeps (may g) (must g) t e) is.0 (subst (λ v. Keeps (may p.gate.now) (must p.gate.now) v e) is.1 k)

  all_kept : (h : Handles G) (e : Ends) → TasksPromised gate tasks h → KeepPromises may must h e → TasksKept (may gate) (must gate) tasks e
  all_kept h e is k =
      let keyboard = kept h.keyboard.promise (task.User tasks.keyboard) (end.User e.keyboard) is.keyboard k.keyboard in
      let mouse = kept h.mouse.promise (task.User tasks.mouse) (end.User e.mouse) is.mouse k.mouse in
      let host = kept h.host.promise (task.Host tasks.host) (end.Host e.host) is.host k.host in
      let reader = kept h.reader.promise (task.Reader tasks.reader) (end.Reader e.reader) is.reader k.reader in
      let term = kept h.term.promise (task.Term tasks.term) (end.Term e.term) is.term k.term in
      record {
        keyboard = grind arith;
        mouse = grind arith;
        host = grind arith;
        reader = grind arith;
        term = grind arith;
      }

  joined_kept : (e : Ends) → ends ≡ Some e → TasksKept (may gate) (must gate) tasks e
  joined_kept e is = go handles promised (subst (λ o. IfSome o (λ x. IsSomeAnd handles (λ h. KeepPromises may must h x))) is joined)
    where
      go : (o : Option (Handles G)) → IfSome o (TasksPromised gate tasks) → IsSomeAnd o (λ h. KeepPromises may must h e) → TasksKept (may gate) (must gate) tasks e
      go o u w = grind (arith, all_kept)

  pub kept_ends : (r : Result Ends RunFault) → IfOk r (λ e. ends ≡ Some e) → IfOk r (TasksKept (may gate) (must gate) tasks)
  kept_ends r u = grind (arith, joined_kept)

  pub refused_some : IsSomeAnd ends SomeRefused → RefusesSome (may gate)
  refused_some refused = go ends refl refused
    where
      go : (o : Option Ends) → ends ≡ o → IsSomeAnd o SomeRefused → RefusesSome (may gate)
      go o e u = grind (arith, joined_kept)

-- each promise is of a worker of its handle's kind
pub kinds_of : {G : Type 0} (gate : G) (tasks : Tasks) (handles : Option (Handles G)) → IfSome handles (TasksPromised gate tasks) → IfSome handles AreOfKinds
kinds_of gate tasks None is = tt
kinds_of gate tasks (Some h) is = record {
  keyboard = (tasks.keyboard, is.keyboard.1);
  mouse = (tasks.mouse, is.mouse.1);
  host = (tasks.host, is.host.1);
  reader = (tasks.reader, is.reader.1);
  term = (tasks.term, is.term.1);
}

-- each worker began, so the gate lets each begin
pub kept_let_in : (refuses : ℕ → Type 0) (must : ℕ → Option ℕ → Type 0) (keys clicks : List UserEvent) (given : List (List ℕ × List ℕ)) (lines : LinesView) (e : Ends)
    → AllKept refuses must keys clicks given lines e → AllPassed e → GatesLetIn must
kept_let_in refuses must keys clicks given lines e kept passed worker less stops = grind arith
