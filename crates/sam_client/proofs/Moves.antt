-- Moves of a client, one after another.
use Rattle.std.proofs.Common.{◌≡◌, ℕ, ◌+◌, ◌≤◌, List, [], ◌∷◌, ◌++◌, Some, None, Result, Ok, Err, refl, sym, ap, subst, arith}
use Rattle.sam_client.specs.Clients.{Act, Does, DoesAll}
use Rattle.sam_client.specs.Going.{Answers, AreSilent, Counts, GoesOn, IsMove, Moves, Tells, tells, work_in}
use Rattle.sam_client.specs.declared.client.Client.{Client}
use Rattle.sam_client.specs.declared.event.Event.{Event}
use Rattle.sam_client.specs.declared.event.Event.TheVariants as tell
use Rattle.sam_client.specs.declared.fault.GoOnFault.{GoOnFault}

all_then : (c m n : Client) (a b : List Act) → DoesAll c a m → DoesAll m b n → DoesAll c (a ++ b) n
all_then c m n [] b same more = subst (λ (x : Client). DoesAll x b n) same more
all_then c m n (act ∷ acts) b (k, does, rest) more = (k, does, all_then k m n acts b rest more)

silent_then : (now : ℕ) (a b : List Act) → AreSilent now a → AreSilent now b → AreSilent now (a ++ b)
silent_then now [] b first more = more
silent_then now (act ∷ acts) b (silent, rest) more = (silent, silent_then now acts b rest more)

work_then : (a b : List Act) → work_in (a ++ b) ≡ work_in a + work_in b
work_then [] b = omega arith
work_then (act ∷ acts) b = omega (arith, work_then acts b)

pub moves_none : (now : ℕ) (c : Client) → Moves now 0 c c
moves_none now c = record { acts = []; silent = tt; does = refl; works = refl }

pub moves_one : (now work : ℕ) (c n : Client) (act : Act) → IsMove now act → tells act ≡ None → work_in (act ∷ []) ≡ work → Does c act n
    → Moves now work c n
moves_one now work c n act move none works does =
    record { acts = act ∷ []; silent = ((move, none), tt); does = (n, does, refl); works = works }

pub moves_then : (now j k : ℕ) (c m n : Client) → Moves now j c m → Moves now k m n → Moves now (j + k) c n
moves_then now j k c m n first more = record {
  acts = first.acts ++ more.acts;
  silent = silent_then now first.acts more.acts first.silent more.silent;
  does = all_then c m n first.acts more.acts first.does more.does;
  works = omega (arith, work_then first.acts more.acts, first.works, more.works);
}

-- ## What is answered behind them

pub goes_idle : (now : ℕ) (c n : Client) → Moves now 0 c n → GoesOn now 1 c (Ok tell.Idle) n
goes_idle now c n moves = record { last = n; work = 0; moves = moves; counts = omega arith; answers = refl }

pub goes_busy : (now most : ℕ) (c n : Client) → Moves now most c n → GoesOn now most c (Ok tell.Busy) n
goes_busy now most c n moves = record { last = n; work = most; moves = moves; counts = refl; answers = refl }

ended_by : (now : ℕ) (c last n : Client) (j k : ℕ) → j ≡ k → n ≡ last → Moves now j c last → Moves now k c n
ended_by now c last n j k same is moves = subst (λ x. Moves now x c n) same (subst (Moves now j c) (sym is) moves)

pub went_idle : (now : ℕ) (c n : Client) → GoesOn now 1 c (Ok tell.Idle) n → Moves now 0 c n
went_idle now c n goes = ended_by now c goes.last n goes.work 0 (omega (arith, goes.counts)) goes.answers goes.moves

pub went_busy : (now : ℕ) (c n : Client) → GoesOn now 1 c (Ok tell.Busy) n → Moves now 1 c n
went_busy now c n goes = ended_by now c goes.last n goes.work 1 goes.counts goes.answers goes.moves

counts_then : (most first work : ℕ) (answer : Result Event GoOnFault) → Counts most answer work → Counts (first + most) answer (first + work)
counts_then most first work (Ok tell.Busy) is = ap (λ k. first + k) is
counts_then most first work (Ok tell.Idle) is = omega (arith, is)
counts_then most first work (Ok tell.Note) is = omega (arith, is)
counts_then most first work (Ok (tell.Refused number why)) is = omega (arith, is)
counts_then most first work (Ok (tell.Stepped x)) is = omega (arith, is)
counts_then most first work (Err why) is = omega (arith, is)

-- moves, and then going on
pub goes_then : (now first most : ℕ) (c m n : Client) (answer : Result Event GoOnFault) → Moves now first c m → GoesOn now most m answer n
    → GoesOn now (first + most) c answer n
goes_then now first most c m n answer moves goes = record {
  last = goes.last;
  work = first + goes.work;
  moves = moves_then now first goes.work c m goes.last moves goes.moves;
  counts = counts_then most first goes.work answer goes.counts;
  answers = goes.answers;
}

-- where it isn't busy, a call that may make more moves has made few enough
pub goes_within : (now few most : ℕ) (c n : Client) (event : Event) → few ≤ most → (event ≡ tell.Busy → ⊥) → GoesOn now few c (Ok event) n
    → GoesOn now most c (Ok event) n
goes_within now few most c n event less calm goes =
    record { last = goes.last; work = goes.work; moves = goes.moves; counts = counts event calm goes.counts; answers = goes.answers }
  where
    counts : (event : Event) → (event ≡ tell.Busy → ⊥) → Counts few (Ok event) goes.work → Counts most (Ok event) goes.work
    counts tell.Busy calm is = absurd (calm refl)
    counts tell.Idle calm is = omega (arith, less, is)
    counts tell.Note calm is = omega (arith, less, is)
    counts (tell.Refused number why) calm is = omega (arith, less, is)
    counts (tell.Stepped x) calm is = omega (arith, less, is)

pub fails_within : (now few most : ℕ) (c n : Client) (why : GoOnFault) → few ≤ most → GoesOn now few c (Err why) n → GoesOn now most c (Err why) n
fails_within now few most c n why less goes = record {
  last = goes.last;
  work = goes.work;
  moves = goes.moves;
  counts = omega (arith, less, goes.counts);
  answers = goes.answers;
}

tells_one : (now : ℕ) (m n : Client) (act : Act) (answer : Result Event GoOnFault) → IsMove now act → tells act ≡ Some answer → Does m act n
    → Tells now m answer n
tells_one now m n act answer move told does = record { act = act; move = move; told = told; does = does }

-- what is told of an act is neither that nothing moves nor that more may
abbrev pub IsTold : Result Event GoOnFault → Type 0
IsTold (Ok tell.Idle) = ⊥
IsTold (Ok tell.Busy) = ⊥
IsTold (Ok tell.Note) = Unit {0}
IsTold (Ok (tell.Refused number why)) = Unit {0}
IsTold (Ok (tell.Stepped x)) = Unit {0}
IsTold (Err why) = Unit {0}

answers_of : (now : ℕ) (m n : Client) (answer : Result Event GoOnFault) → IsTold answer → Tells now m answer n → Answers now m answer n
answers_of now m n (Ok tell.Idle) told tells = absurd told
answers_of now m n (Ok tell.Busy) told tells = absurd told
answers_of now m n (Ok tell.Note) told tells = tells
answers_of now m n (Ok (tell.Refused number why)) told tells = tells
answers_of now m n (Ok (tell.Stepped x)) told tells = tells
answers_of now m n (Err why) told tells = tells

counts_told : (answer : Result Event GoOnFault) → IsTold answer → Counts 1 answer 0
counts_told (Ok tell.Idle) told = absurd told
counts_told (Ok tell.Busy) told = absurd told
counts_told (Ok tell.Note) told = omega arith
counts_told (Ok (tell.Refused number why)) told = omega arith
counts_told (Ok (tell.Stepped x)) told = omega arith
counts_told (Err why) told = omega arith

pub goes_told : (now : ℕ) (c m n : Client) (act : Act) (answer : Result Event GoOnFault) → IsTold answer → Moves now 0 c m → IsMove now act
    → tells act ≡ Some answer → Does m act n → GoesOn now 1 c answer n
goes_told now c m n act answer is moves move told does = record {
  last = m;
  work = 0;
  moves = moves;
  counts = counts_told answer is;
  answers = answers_of now m n answer is (tells_one now m n act answer move told does);
}

pub goes_fails : (now : ℕ) (c n : Client) (act : Act) (why : GoOnFault) → IsMove now act → tells act ≡ Some (Err why) → Does c act n
    → GoesOn now 1 c (Err why) n
goes_fails now c n act why move told does = goes_told now c c n act (Err why) tt (moves_none now c) move told does

-- what rests leads on
pub goes_after : (now : ℕ) (c m n : Client) (answer : Result Event GoOnFault) → GoesOn now 1 c (Ok tell.Idle) m → GoesOn now 1 m answer n
    → GoesOn now 1 c answer n
goes_after now c m n answer first goes = goes_then now 0 1 c m n answer (went_idle now c m first) goes
