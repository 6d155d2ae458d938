-- An act that does nothing, and one that fails.
use Rattle.sam_term.proofs.Common.{◌≡◌, ℕ, List, Result, Ok, Err, arith, PlainTerminal, act_of, if_countable, Tmesg, Acted, Idle, Locked, Done, TermFault}

-- what a result that is there says
unfoldable pub acted_in : Result (PlainTerminal × Acted) TermFault → Acted → Acted
acted_in (Ok p) acted = p.1
acted_in (Err why) acted = acted

unfoldable pub term_in : Result (PlainTerminal × Acted) TermFault → PlainTerminal → PlainTerminal
term_in (Ok p) t = p.0
term_in (Err why) t = t

pub not_done : (n : ℕ) (t u : PlainTerminal) (ms : List Tmesg) (acted : Acted) → if_countable {A = PlainTerminal × Acted} n (t, Done ms) ≡ Ok (u, acted) → acted ≡ Done ms
unfolding acted_in
not_done n t u ms acted e = grind arith

-- where no event is held the terminal stays as it is
pub idle_still : (t u : PlainTerminal) → act_of t ≡ Ok (u, Idle) → u ≡ t
unfolding act_of term_in
idle_still t u e = grind arith

-- where a lock holds the event back the terminal stays as it is
pub locked_still : (t u : PlainTerminal) → act_of t ≡ Ok (u, Locked) → u ≡ t
unfolding act_of acted_in
locked_still t u e = grind arith
