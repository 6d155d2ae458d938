-- What the host's program was asked for, and has not answered.
use Rattle.std.specs.Prelude.{◌≡◌, ℕ, ◌+◌, ◌-◌, ◌^◌, ◌<◌, ◌≤◌, ◌==◌, ◌&&◌, Bool, true, false, not, if◌then◌else◌, List, [], ◌∷◌, ◌++◌, length, take, Option, Some, None, Result, Ok, Err}
use Rattle.std.specs.List.{position_from, remove}
use Rattle.sam_front.specs.declared.fault.BeginFault.{BeginFault}
use Rattle.sam_front.specs.declared.fault.BeginFault.TheVariants.{BadField, BadLength, BadPath, CountFull, OutOfMemory, TooMany}
use Rattle.sam_front.specs.declared.tasks.Task.{Task}

pub record PlainTasks : Type 0 where
  pub begun : ℕ  -- how many were begun
  pub waiting : List Task  -- those that are open, the oldest first

abbrev pub no_tasks : PlainTasks
no_tasks = record { begun = 0; waiting = [] }

-- so many are open at most
abbrev pub most_tasks : ℕ
most_tasks = 1000

abbrev pub number_of : Task → ℕ
number_of t = t.number

-- ## What holds of those that are open

-- their numbers ascend, above the one number and up to the other
abbrev pub AreNumbered : ℕ → ℕ → List Task → Type 0
AreNumbered low high [] = Unit {0}
AreNumbered low high (t ∷ ts) = (low < t.number) × (t.number ≤ high) × AreNumbered t.number high ts

-- it is the write by this request
abbrev pub is_write : ℕ → Task → Bool
is_write request t = t.write == request

pub record AreTasks (begun : ℕ) (ts : List Task) : Type 0 where
  pub numbered : AreNumbered 0 begun ts
  pub few : length ts ≤ most_tasks

-- ## Beginning

-- a task whose message its caller puts
abbrev pub new_task : ℕ → Task
new_task number = record { number = number; write = 0; tag = 0; is_said = true }

abbrev pub more : PlainTasks → PlainTasks
more t = record { begun = t.begun + 1; waiting = t.waiting ++ new_task (t.begun + 1) ∷ [] }

abbrev pub Begins : PlainTasks → Result ℕ BeginFault → PlainTasks → Type 0
Begins t (Ok number) n = (length t.waiting < most_tasks) × (t.begun < 2 ^ 32 - 1) × (number ≡ t.begun + 1) × (n ≡ more t)
Begins t (Err TooMany) n = (most_tasks ≤ length t.waiting) × (n ≡ t)
Begins t (Err CountFull) n = (length t.waiting < most_tasks) × (t.begun ≡ 2 ^ 32 - 1) × (n ≡ t)
Begins t (Err BadField) n = ⊥
Begins t (Err BadLength) n = ⊥
Begins t (Err BadPath) n = ⊥
Begins t (Err OutOfMemory) n = (length t.waiting < most_tasks) × (t.begun < 2 ^ 32 - 1) × (n ≡ t)

-- the number of the newest; 0 if there is none
abbrev pub newest : List Task → ℕ
newest [] = 0
newest (t ∷ []) = t.number
newest (t ∷ u ∷ ts) = newest (u ∷ ts)

-- the newest was not begun
abbrev pub taken_back : PlainTasks → PlainTasks
taken_back t =
    if length t.waiting == 0 then t else record { begun = newest t.waiting - 1; waiting = take (length t.waiting - 1) t.waiting }

-- ## Writes

-- the number of the task of the write by this request; 0 if none is open. No write is by request 0
abbrev pub write_in : ℕ → List Task → ℕ
write_in request [] = 0
write_in request (t ∷ ts) = if is_write request t then t.number else write_in request ts

abbrev pub number_of_write : ℕ → List Task → ℕ
number_of_write request ts = if request == 0 then 0 else write_in request ts

-- the newest is the write of this file by this request, and its message is not put yet
abbrev pub as_write : ℕ → ℕ → List Task → List Task
as_write request tag [] = []
as_write request tag (t ∷ []) = record { number = t.number; write = request; tag = tag; is_said = false } ∷ []
as_write request tag (t ∷ u ∷ ts) = t ∷ as_write request tag (u ∷ ts)

-- no task of that write is open, and so the newest is that write; or one is open, it is that one, and the newest is taken back
abbrev pub SharesWith : Bool → PlainTasks → ℕ → ℕ → ℕ → PlainTasks → Type 0
SharesWith true t request tag number n = (number ≡ newest t.waiting) × (n ≡ record t { waiting = as_write request tag t.waiting })
SharesWith false t request tag number n = (number ≡ number_of_write request t.waiting) × (n ≡ taken_back t)

abbrev pub Shares : PlainTasks → ℕ → ℕ → ℕ → PlainTasks → Type 0
Shares t request tag number n = SharesWith (number_of_write request t.waiting == 0) t request tag number n

-- it is the write that acts next, where requests up to this one are told, and its message is not put
abbrev pub is_due : ℕ → Task → Bool
is_due done t = not t.is_said && ((t.write - 1) == done)

-- the message of the task of this number is put
abbrev pub said : ℕ → Task → Task
said number t = if t.number == number then record t { is_said = true } else t

-- ## Closing

abbrev pub has_number : ℕ → Task → Bool
has_number number t = t.number == number

-- the place, the oldest at 0, of the task of this number
abbrev pub place_of : ℕ → List Task → Option ℕ
place_of number ts = position_from (has_number number) 0 ts

-- without what stands at this place
abbrev pub without : Option ℕ → List Task → List Task
without None ts = ts
without (Some place) ts = remove ts place

-- the task of this number is closed, if it is open
abbrev pub closed : ℕ → PlainTasks → PlainTasks
closed number t = record t { waiting = without (place_of number t.waiting) t.waiting }
