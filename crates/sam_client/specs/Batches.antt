-- Many edits of the user by one call.
use Rattle.std.specs.Prelude.{◌≡◌, ℕ, suc, ◌+◌, List, [], ◌∷◌, take, drop, Result, Ok, Err}
use Rattle.sam_overlay.specs.declared.fault.ReplaceFault.{ReplaceFault}
use Rattle.sam_client.specs.Clients.{Does}
use Rattle.sam_client.specs.Clients.Act.{Replace}
use Rattle.sam_client.specs.declared.client.Client.{Client}
use Rattle.sam_client.specs.declared.replacement.Replaced.{Replaced}
use Rattle.sam_client.specs.declared.replacement.Replacement.{Replacement}

-- behind one that was made come the others; one that is refused is the last
abbrev pub IfMade : Result (Unit {0}) ReplaceFault → Client → ℕ → Result (Unit {0}) ReplaceFault → Client → (ℕ → Type 0) → Type 0
IfMade (Ok done) m made answer n others = (k : ℕ) × (made ≡ suc k) × others k
IfMade (Err why) m made answer n others = (made ≡ 0) × (answer ≡ Err why) × (n ≡ m)

-- so many replacements of a file are made, one after another, each with the runes that are next; then there are no more, or why not
abbrev pub MakesEach : ℕ → List Replacement → List ℕ → Client → ℕ → Result (Unit {0}) ReplaceFault → Client → Type 0
MakesEach f [] s c made answer n = (made ≡ 0) × (answer ≡ Ok tt) × (n ≡ c)
MakesEach f (x ∷ xs) s c made answer n =
    (first : Result (Unit {0}) ReplaceFault) × (m : Client) × Does c (Replace f x.p x.q (take x.count s) first) m
    × IfMade first m made answer n (λ k. MakesEach f xs (drop x.count s) m k answer n)

abbrev pub ReplacesEach : Client → ℕ → List Replacement → List ℕ → Replaced → Client → Type 0
ReplacesEach c f xs s x n = MakesEach f xs s c x.made x.result n

-- how many runes they take together
abbrev pub count_in : List Replacement → ℕ
count_in [] = 0
count_in (x ∷ xs) = x.count + count_in xs
