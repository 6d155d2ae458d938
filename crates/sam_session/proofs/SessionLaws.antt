-- What a settled session of a script is.
use Rattle.std.proofs.Common.{◌≡◌, ℕ, List, [], ◌∷◌, length, map, take, drop, Option, None, Result, Ok, Err, IfOk, IfErr, inr, refl, sym, ap, subst, ◌∙◌, arith, take-append-drop}
use Rattle.std.proofs.lemmas.List.{map-append}
use Rattle.sam_term.specs.declared.event.UserEvent.{UserEvent}
use Rattle.sam_queue.specs.Views.{LineView}
use Rattle.sam_script.specs.Script.{PlainScript, keys_of, mouse_of, without_lines}
use Rattle.sam_world.specs.Prefixes.{Begins}
use Rattle.sam_crossing.specs.World.{new_world, run_of}
use Rattle.sam_ends.specs.Gates.{GatesLetIn, GatesLetOn}
use Rattle.sam_ends.specs.WorkerEnds.{Told, UserTold, AllPassed, GatesTold}
use Rattle.sam_session.specs.Session.{IsLeft, IsSession, IsSettled, SessionOf}
use Rattle.sam_ends.specs.declared.input.Input.TheVariants.{User}
use Rattle.sam_ends.specs.declared.ends.Ends.{Ends}
use Rattle.sam_ends.specs.declared.ends.UserEnd.{UserEnd}
use Rattle.sam_settle.specs.declared.settled.Settled.{Settled}
use Rattle.sam_spawn.specs.declared.run.RunFault.{RunFault}
use Rattle.sam_spawn.specs.declared.run.RunFault.TheVariants.{GateTimedOut, NoThread, OutOfMemory}
use Rattle.sam_ends.specs.declared.tasks.Tasks.{Tasks}

take_all : {A : Type 0} (xs : List A) → take (length xs) xs ≡ xs
take_all [] = refl
take_all (x ∷ xs) = ap (λ l. x ∷ l) (take_all xs)

puts_first : (number : ℕ) (events : List UserEvent) (line : LineView) (e : UserEnd) → UserTold number events line e → Begins e.post.put (map User events)
puts_first number events line e told = grind (arith, (take-append-drop told.many events), (map-append User (take told.many events) (drop told.many events)))

puts_all : (number : ℕ) (events : List UserEvent) (line : LineView) (e : UserEnd) → UserTold number events line e → e.stop ≡ None → e.post.put ≡ map User events
puts_all number events line e told none = grind (arith, take_all)

-- what the ends of these tasks settle to, is a session of a script that says what they begin with
session_of : (tasks : Tasks) (script : PlainScript) (refuses : ℕ → Type 0) (must : ℕ → Option ℕ → Type 0) (e : Ends) (s : Settled)
    → Told tasks.keyboard.events.items tasks.mouse.events.items tasks.lines.now e → e.host.files.items ≡ tasks.host.files.items → AllPassed e → GatesTold refuses e → GatesLetIn must → GatesLetOn must e
    → IsSettled e s → tasks.keyboard.events.items ≡ keys_of script.lines → tasks.mouse.events.items ≡ mouse_of script.lines → tasks.host.files.items ≡ script.files
    → IsSession script refuses must s
session_of tasks script refuses must e s tasks_told tasks_files begun gates let_in let_on came keys clicks given =
    let files = tasks_files ∙ given in
    let told : Told (keys_of script.lines) (mouse_of script.lines) tasks.lines.now e =
    subst (λ k. Told k (mouse_of script.lines) tasks.lines.now e) keys (subst (λ m. Told tasks.keyboard.events.items m tasks.lines.now e) clicks tasks_told) in
    record {
      ends = e;
      lines = tasks.lines.now;
      told = told;
      begun = begun;
      files = files;
      settled = came;
      run = ap (λ f. run_of (new_world f) s.schedule.items) (sym files) ∙ came.headline.run;
      keys = puts_first 0 (keys_of script.lines) tasks.lines.now.events e.keyboard told.keyboard;
      all_keys = puts_all 0 (keys_of script.lines) tasks.lines.now.events e.keyboard told.keyboard;
      clicks = puts_first 1 (mouse_of script.lines) tasks.lines.now.events e.mouse told.mouse;
      all_clicks = puts_all 1 (mouse_of script.lines) tasks.lines.now.events e.mouse told.mouse;
      gates = gates;
      let_in = let_in;
      let_on = let_on;
    }

-- so it is of each such script
pub settled_of : (tasks : Tasks) (refuses : ℕ → Type 0) (must : ℕ → Option ℕ → Type 0) (e : Ends) (r : Result Settled RunFault)
    → Told tasks.keyboard.events.items tasks.mouse.events.items tasks.lines.now e → e.host.files.items ≡ tasks.host.files.items → AllPassed e → GatesTold refuses e → GatesLetIn must → GatesLetOn must e
    → IfOk r (IsSettled e) → IfOk r (SessionOf tasks refuses must)
settled_of tasks refuses must e (Ok s) told files begun gates let_in let_on came = λ script keys clicks given. session_of tasks script refuses must e s told files begun gates let_in let_on came keys clicks given
settled_of tasks refuses must e (Err why) told files begun gates let_in let_on came = tt

-- what the tasks of a script came to
pub settled_session : (tasks : Tasks) (script : PlainScript) (refuses : ℕ → Type 0) (must : ℕ → Option ℕ → Type 0) (r : Result Settled RunFault)
    → IfOk r (SessionOf tasks refuses must) → tasks.keyboard.events.items ≡ keys_of script.lines → tasks.mouse.events.items ≡ mouse_of script.lines → tasks.host.files.items ≡ script.files
    → IfOk r (IsSession script refuses must)
settled_session tasks script refuses must (Ok s) is keys clicks files = is script keys clicks files
settled_session tasks script refuses must (Err why) is keys clicks files = tt

-- whatever the fault, the lines may be gone
pub lines_gone : (old new : PlainScript) (r : Result Settled RunFault) → new ≡ without_lines old → IfErr r (IsLeft old new)
lines_gone old new (Ok s) is = tt
lines_gone old new (Err GateTimedOut) is = is
lines_gone old new (Err NoThread) is = is
lines_gone old new (Err OutOfMemory) is = inr is
