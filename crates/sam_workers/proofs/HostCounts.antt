-- How many messages the host has taken, by which its gate is asked.
use Rattle.sam_workers.proofs.Common.{◌≡◌, ℕ, ap, Option, List, PlainHost, new_host}
use Rattle.sam_ends.specs.Gates.{LetOn}
use Rattle.sam_ends.proofs.GateLaws.{let_on_from}

-- a new host has taken nothing
pub let_on_new : (must : Option ℕ → Type 0) (h : PlainHost) (files : List (List ℕ × List ℕ)) (b : ℕ) → h ≡ new_host files → LetOn must h.taken b → LetOn must 0 b
let_on_new must h files b new first = let_on_from must h.taken b (ap (λ (x : PlainHost). x.taken) new) first
