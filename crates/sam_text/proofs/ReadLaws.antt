-- What is read of a line is within the limits: each pattern has 1 to most_in_pattern runes, and a name at most most_in_name.
use Rattle.sam_text.proofs.Common.{ℕ, zero, suc, ◌+◌, ◌≤◌, List, [], ◌∷◌, length, Bool, true, false, cond, ◌||◌, ◌==◌, Option, Some, None, Result, Ok, Err, nat_lt, arith, IfOk, IfSome, ltb-false, ⊤, most_in_name, most_in_pattern, Word, Side, Address, Step, Last, Command, Read, IsPattern, side_pattern, address_pattern, steps_pattern, later, ◌>>=◌, skip, quoted, pattern_at, behind_slash, side_of, side_at, second_side, address_at, kind_of, last_of, at_head, at_option, chain_at, name_of, ended, behind_address, command_of}
use Rattle.sam_text.specs.declared.word.Word.TheVariants as word
use Rattle.sam_text.specs.declared.command.Command.TheVariants as command

-- ## Ways to read

ok_then : {A B : Type 0} (P : A → Type 0) (Q : B → Type 0) (r : Result A Word) (f : A → Result B Word) → IfOk r P → ((x : A) → P x → IfOk (f x) Q) → IfOk (r >>= f) Q
ok_then P Q r f e u = grind arith

ok_any : {A B : Type 0} (Q : B → Type 0) (r : Result A Word) (f : A → Result B Word) → ((x : A) → IfOk (f x) Q) → IfOk (r >>= f) Q
ok_any Q r f e = grind arith

ok_if : {A : Type 0} (P : A → Type 0) (b : Bool) (x y : Result A Word) → IfOk x P → IfOk y P → IfOk (cond b x y) P
ok_if P b x y e u = grind arith

-- ## Patterns

pattern_end : (r : Read (List ℕ)) → IfOk (r >>= (λ p. cond ((length p.0 == 0) || nat_lt most_in_pattern (length p.0)) (Err word.Pattern) (Ok p))) (λ (p : List ℕ × List ℕ). IsPattern p.0)
pattern_end (Ok p) = grind (arith, ltb-false)
pattern_end (Err w) = tt

-- a pattern that is read is within its limits
pub pattern-read : (line : List ℕ) → IfOk (pattern_at line) (λ (p : List ℕ × List ℕ). IsPattern p.0)
unfolding pattern_at
pattern-read line = pattern_end (quoted true false line)

slash-pattern : (line : List ℕ) → IfOk (behind_slash pattern_at line) (λ (p : List ℕ × List ℕ). IsPattern p.0)
slash-pattern [] = tt
slash-pattern (c ∷ cs) = grind (arith, (pattern-read cs))

-- ## Addresses

abbrev pub SideOk : Option Side × List ℕ → Type 0
SideOk s = IfSome (side_pattern s.0) IsPattern

abbrev pub AddressOk : Option Address → Type 0
AddressOk a = IfSome (address_pattern a) IsPattern

side-read : (line : List ℕ) → IfOk (side_of line) SideOk
side-read [] = tt
side-read (c ∷ cs) = grind (arith, (pattern-read cs))

second-side : (a : Option Side) (line : List ℕ) → IfSome (side_pattern a) IsPattern → IfOk (second_side a line) (λ (x : Option Address × List ℕ). AddressOk x.0)
unfolding side_at
second-side a (c ∷ cs) h = grind (arith, (side-read (skip cs)))
second-side a line h = grind arith

address-read : (line : List ℕ) → IfOk (address_at line) (λ (x : Option Address × List ℕ). AddressOk x.0)
unfolding address_at side_at
address-read line = grind (arith, (side-read (skip line)), second-side)

-- ## Chains

abbrev pub ChainOk : List Step × Last → Type 0
ChainOk x = IfSome (steps_pattern x.0) IsPattern

later-ok : (a b : Option (List ℕ)) → IfSome a IsPattern → IfSome b IsPattern → IfSome (later a b) IsPattern
later-ok a b e u = grind arith

head-ok : {A : Type 0} (P : A → Type 0) (line : List ℕ) (none : Result A Word) (some : ℕ → List ℕ → Result A Word) → IfOk none P
    → ((c : ℕ) (cs : List ℕ) → IfOk (some c cs) P) → IfOk (at_head line none some) P
head-ok P line none some e u = grind arith

option-ok : {A B : Type 0} (P : B → Type 0) (o : Option A) (none : Result B Word) (some : A → Result B Word) → IfOk none P → ((x : A) → IfOk (some x) P) → IfOk (at_option o none some) P
option-ok P o none some e u = grind arith

chain-read : (n : ℕ) (line : List ℕ) → IfOk (chain_at n line) ChainOk
unfolding chain_at
chain-read zero line = tt
chain-read (suc n) line =
    head-ok ChainOk (skip line) _ _ tt (λ c cs.
    option-ok ChainOk (kind_of c) _ _
    (ok_any ChainOk (last_of c cs) _ (λ l. tt))
    (λ k. ok_then (λ (p : List ℕ × List ℕ). IsPattern p.0) ChainOk (behind_slash pattern_at (skip cs)) _ (slash-pattern (skip cs)) (λ p h.
    ok_then ChainOk ChainOk (chain_at n p.1) _ (chain-read n p.1) (λ more m. later-ok (Some p.0) (steps_pattern more.0) h m))))

-- ## Lines

-- the patterns of a command, and its name
abbrev pub CommandOk : Command → Type 0
CommandOk (command.Go a) = AddressOk (Some a)
CommandOk (command.Run a ss l) = (AddressOk a) × (IfSome (steps_pattern ss) IsPattern)
CommandOk (command.Name n) = length n ≤ most_in_name
CommandOk command.Quit = ⊤

name-read : (line : List ℕ) → IfOk (name_of line) CommandOk
name-read line = grind (arith, ltb-false)

behind-read : (a : Option Address) (rest : List ℕ) → AddressOk a → IfOk (behind_address a rest) CommandOk
behind-read None rest h = ok_then ChainOk CommandOk (chain_at (length rest + 1) rest) _ (chain-read (length rest + 1) rest) (λ c k. (h, k))
behind-read (Some a) [] h = h
behind-read (Some a) (c ∷ cs) h = ok_then ChainOk CommandOk (chain_at (length (c ∷ cs) + 1) (c ∷ cs)) _ (chain-read (length (c ∷ cs) + 1) (c ∷ cs)) (λ x k. (h, k))

ended-quit : (line : List ℕ) → IfOk (ended command.Quit line) CommandOk
ended-quit line = ok_if CommandOk (length (skip line) == 0) (Ok command.Quit) (Err word.Command) tt tt

-- each pattern of a command that is read, and its name, are within their limits
pub command-read : (line : List ℕ) → IfOk (command_of line) CommandOk
unfolding command_of
command-read line =
    head-ok CommandOk (skip line) _ _ tt (λ c cs.
    ok_if CommandOk (c == 102) _ _ (name-read cs)
    (ok_if CommandOk (c == 113) _ _ (ended-quit cs)
    (ok_then (λ (x : Option Address × List ℕ). AddressOk x.0) CommandOk (address_at (c ∷ cs)) _ (address-read (c ∷ cs)) (λ a h. behind-read a.0 (skip a.1) h))))
