-- A run that was printed, replayed, shows the world to which it leads.
use Rattle.sam_script.proofs.Common.{◌≡◌, ◌≤◌, ◌∙◌, ◌+◌, ap, ℕ, List, [], ◌∷◌, ◌++◌, length, map, Some, Ok, append-nil, arith, AllByRecursion, option_and_then_some, same_Some, most_files, PlainWorld, new_world, step_of, run_of, Event, PlainScript, show_lines, Spells, lines_of, after_line, printed_by, replayed_from, replayed, run_lines_of, line_of, numbered_from, run_script, CanBeNamed, CanBeWritten}
use Rattle.sam_script.specs.declared.line.Line.TheVariants as line
use Rattle.sam_script.proofs.ScriptLaws.{spells_one}
use Rattle.sam_script.proofs.RunSpelled.{run_is_spelled}

-- a step is done by the line of its event
line_steps : (n : ℕ) (w v : PlainWorld) (e : Event) → step_of w e ≡ Some v → after_line n w (line_of e) ≡ Ok v
line_steps n w v e u = grind arith

prints_nothing : (w : PlainWorld) (e : Event) → printed_by w (line_of e) ≡ []
prints_nothing w e = grind arith

lines_replay : (n : ℕ) (w v : PlainWorld) (events : List Event) → run_of w events ≡ Some v
    → replayed_from w (numbered_from n (map line_of events ++ line.Show ∷ [])) ≡ Ok (show_lines v)
lines_replay n w v [] h = ap (λ out. Ok out) (append-nil (show_lines w) ∙ ap show_lines (same_Some w v h))
lines_replay n w v (e ∷ events) h =
    option_and_then_some (λ next. run_of next events) (step_of w e) v h
    (λ next is more. grind (arith, (prints_nothing w e), (line_steps n w next e is), (lines_replay (n + 1) next v events more)))

pub run_replayed : (files : List (List ℕ × List ℕ)) (events : List Event) (w : PlainWorld) (script : PlainScript) → length files ≤ most_files → AllByRecursion CanBeNamed files
    → AllByRecursion CanBeWritten events → run_of (new_world files) events ≡ Some w → Spells (run_lines_of files events) script → replayed script ≡ Ok (show_lines w)
unfolding replayed
run_replayed files events w script count named written run spells =
    ap replayed (spells_one (lines_of (run_lines_of files events)) script (run_script files events) spells (run_is_spelled files events count named written))
    ∙ lines_replay (1 + length files) (new_world files) w events run
