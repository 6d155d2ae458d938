-- What a replay has printed, line by line.
use Rattle.sam_script.proofs.Common.{◌≡◌, ℕ, true, List, [], ◌∷◌, ◌++◌, Option, Some, Result, Ok, Err, refl, ap, ◌∙◌, subst, append_assoc, arith, PlainWorld, new_world, step_of, run_of, Event, PlainScript, Spells, IsReadFault, after_line, printed_by, stepped, after_output, replayed_from, replayed, IsReplayFault, IsStopOf, ScriptFault}
use Rattle.std.specs.Prelude.{All}
use Rattle.std.proofs.lemmas.List.Elements.{All-head, All-tail}
use Rattle.sam_host.specs.Laws.{AreGiven}
use Rattle.sam_term.specs.declared.event.UserEvent.{UserEvent}
use Rattle.sam_crossing.specs.World.{user_events, joined_files, marked_files}
use Rattle.sam_crossing.specs.declared.event.Event.TheVariants as event
use Rattle.sam_local.specs.Worlds.{HasLed, IsAsIfLocal}
use Rattle.sam_local.proofs.Runs.{runs_are_as_if_local, runs_come_in_order}
use Rattle.sam_world.specs.Given.{IsFile}
use Rattle.sam_world.specs.Drain.{drained, drain_limit}
use Rattle.sam_world.proofs.Runs.{drained_runs, run_then, users_then, files_then, marks_then}
use Rattle.sam_script.specs.Replay.{after_lines, and_on, or_full, user_of, users_of, added_by, all_added, marked_in, all_marked, ReplaysAsIfLocal}
use Rattle.sam_script.specs.declared.line.Line.{Line}
use Rattle.sam_script.specs.declared.line.Line.TheVariants.{Key, Mouse, Add, Dirty, Act, Flush, Host, Term, Drain, Show}
use Rattle.sam_world.specs.Counts.{passes_count}
use Rattle.sam_script.specs.declared.line.Numbered.{Numbered}
use Rattle.sam_script.specs.declared.fault.ScriptFault.TheVariants as fault

-- ---- a step that would pass a count

pub step_is_full : (number : ℕ) (w : PlainWorld) (e : Event) → passes_count w e ≡ true → stepped number w e ≡ Err fault.CountFull
step_is_full number w e full = grind arith

-- ---- lines

-- a line more
pub line_more : (all : Result (List ℕ) ScriptFault) (w v : PlainWorld) (before after : List ℕ) (d : Numbered) (left rest : List Numbered)
    → left ≡ d ∷ rest
    → all ≡ after_output before (replayed_from w left)
    → after_line d.number w d.line ≡ Ok v
    → after ≡ before ++ printed_by w d.line
    → all ≡ after_output after (replayed_from v rest)
line_more all w v before after d left rest here so_far done printed = grind (arith, append_assoc)

-- ---- as if there were no network

-- lines led from w to v, the user did this in them, these files joined, and these were marked
record AreDone (w v : PlainWorld) (said : List UserEvent) (added : List (List ℕ × List ℕ)) (marked : List ℕ) : Type 0 where
  events : List Event
  leads : run_of w events ≡ Some v
  are : user_events events ≡ said
  files : joined_files events ≡ added
  marks : marked_files events ≡ marked

one_step : (number : ℕ) (w v : PlainWorld) (e : Event) → stepped number w e ≡ Ok v → step_of w e ≡ Some v
one_step number w v e done = grind arith

not_full : (o : Option PlainWorld) (v : PlainWorld) → or_full o ≡ Ok v → o ≡ Some v
not_full o v e = grind arith

step_done : (number : ℕ) (w v : PlainWorld) (e : Event) → stepped number w e ≡ Ok v → AreDone w v (user_events (e ∷ [])) (joined_files (e ∷ [])) (marked_files (e ∷ []))
step_done number w v e done = record { events = e ∷ []; leads = rw (one_step number w v e done) refl; are = refl; files = refl; marks = refl }

line_done : (number : ℕ) (w v : PlainWorld) (line : Line) → after_line number w line ≡ Ok v → AreDone w v (user_of line) (added_by line) (marked_in line)
line_done number w v (Key e) done = step_done number w v (event.User e) done
line_done number w v (Mouse e) done = step_done number w v (event.User e) done
line_done number w v (Add name text) done = step_done number w v (event.Add name text) done
line_done number w v (Dirty f) done = step_done number w v (event.Mark f) done
line_done number w v Act done = step_done number w v event.Act done
line_done number w v Flush done = step_done number w v event.Flush done
line_done number w v Host done = step_done number w v event.HostTake done
line_done number w v Term done = step_done number w v event.TermTake done
line_done number w v Drain done =
    let silent = drained_runs drain_limit w v (not_full (drained drain_limit w) v done) in record { events = silent.events; leads = silent.leads; are = silent.none; files = silent.no_file; marks = silent.no_mark }
line_done number w v Show done = record { events = []; leads = grind arith; are = refl; files = refl; marks = refl }

lines_done : (lines : List Numbered) (w v : PlainWorld) → after_lines w lines ≡ Ok v → AreDone w v (users_of lines) (all_added lines) (all_marked lines)
lines_done [] w v done = record { events = []; leads = grind arith; are = refl; files = refl; marks = refl }
lines_done (numbered ∷ more) w v done = go (after_line numbered.number w numbered.line) refl done (λ u. lines_done more u v)
  where
    go : (r : Result PlainWorld ScriptFault) → after_line numbered.number w numbered.line ≡ r → and_on r (λ u. after_lines u more) ≡ Ok v
        → ((u : PlainWorld) → after_lines u more ≡ Ok v → AreDone u v (users_of more) (all_added more) (all_marked more)) → AreDone w v (users_of (numbered ∷ more)) (all_added (numbered ∷ more)) (all_marked (numbered ∷ more))
    go (Ok u) is done later =
        let first = line_done numbered.number w u numbered.line is in
        let rest = later u done in
        record {
          events = first.events ++ rest.events;
          leads = run_then w u v first.events rest.events first.leads rest.leads;
          are = users_then first.events rest.events ∙ ap (λ (es : List UserEvent). es ++ user_events rest.events) first.are
              ∙ ap (λ (es : List UserEvent). user_of numbered.line ++ es) rest.are;
          files = files_then first.events rest.events ∙ ap (λ (fs : List (List ℕ × List ℕ)). fs ++ joined_files rest.events) first.files
              ∙ ap (λ (fs : List (List ℕ × List ℕ)). added_by numbered.line ++ fs) rest.files;
          marks = marks_then first.events rest.events ∙ ap (λ (fs : List ℕ). fs ++ marked_files rest.events) first.marks
              ∙ ap (λ (fs : List ℕ). marked_in numbered.line ++ fs) rest.marks;
        }
    go (Err why) is done later = absurd (grind arith)

given_of_files : (files : List (List ℕ × List ℕ)) → All IsFile files → AreGiven files
given_of_files [] all = tt
given_of_files (file ∷ files) all =
    let here = All-head IsFile file files all in (here.1, here.2, given_of_files files (All-tail IsFile file files all))

pub replays_as_if_local : (script : PlainScript) → All IsFile script.files → ReplaysAsIfLocal script
replays_as_if_local script files done more w parts led =
    let run = lines_done done (new_world script.files) w led in
    let fit = given_of_files script.files files in
    let has_led : HasLed script.files run.events w = record { limits = fit; run = run.leads } in
    record {
      events = run.events;
      leads = run.leads;
      users = run.are;
      added = run.files;
      marked = run.marks;
      order = runs_come_in_order script.files run.events w has_led;
      alone = λ unmarked none. subst (λ (said : List UserEvent). IsAsIfLocal script.files said w) run.are
          (runs_are_as_if_local script.files run.events w has_led (run.files ∙ none) (run.marks ∙ unmarked));
    }

-- ---- the script that bytes spell

pub unread : (bytes : List ℕ) (why : ScriptFault) → IsReadFault bytes why → IsReplayFault bytes why
unread bytes why e = grind arith

pub stopped : (bytes : List ℕ) (script : PlainScript) (why : ScriptFault) → Spells bytes script → IsStopOf (replayed script) why → IsReplayFault bytes why
stopped bytes script why e u = grind arith
