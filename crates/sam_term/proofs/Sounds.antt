-- A terminal stays sound.
use Rattle.sam_term.proofs.Common.{◌≡◌, ℕ, ◌≤◌, List, length, ◌⊎◌, arith, Result, IfOk, IfErr, OnErr, Ok, Err, [], PlainTerminal, window_at, put_window, TermFault, Window, countable, IsAnswer, IsFailure, most_count, Tmesg, IsSound, FitsWindow, FitsUnsent, slot-put_same, slot-put_other}
use Rattle.sam_term.specs.declared.fault.TermFault.TheVariants as fault

-- nothing stands against what was made without a message
pub quiet : (x u : PlainTerminal) (ms : List Tmesg) → u ≡ x → ms ≡ [] → u.sent ≤ most_count → countable (x, []) ≡ Ok (u, ms)
unfolding countable
quiet x u ms e none l = grind arith

-- a window that is lent and changed, so that its places fit and it is as long
pub sound_lent : (t : PlainTerminal) (f : ℕ) (w : Window) (change : Window → Window) → w ≡ window_at t f → IsSound t → FitsWindow t.sent (change (window_at t f))
    → length (change (window_at t f)).rasp ≡ length (window_at t f).rasp → IsSound (put_window t f (change w))
unfolding FitsUnsent
sound_lent t f w change e s fits same = grind (arith, slot-put_same, slot-put_other)

-- ## A call's answer, in its three clauses

pub answer_clauses : {A : Type 0} (t u : PlainTerminal) (r : Result A TermFault) (answer : Result (PlainTerminal × A) TermFault) → IsAnswer t u r answer
    → IfOk r (λ x. answer ≡ Ok (u, x)) × IfErr r (λ why. (why ≡ fault.OutOfMemory) ⊎ (answer ≡ Err why)) × IfErr r (IsFailure answer) × OnErr r (u ≡ t)
answer_clauses t u r answer e = grind arith

-- what an answer says in the clauses of a public call
pub ruleset answers = (answer_clauses)
