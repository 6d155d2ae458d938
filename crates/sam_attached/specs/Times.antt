-- When a client says what is to be done with connections. Times are in milliseconds.
use Rattle.std.specs.Prelude.{◌≡◌, ℕ, ◌+◌, ◌≤◌, List, [], ◌∷◌, Any, Bool, true}
use Rattle.sam_link.specs.declared.hello.Id.{Id}
use Rattle.sam_line.specs.Calls.LineCall.{TickAt}
use Rattle.sam_line.specs.Laws.{IsLost, IsTimely}
use Rattle.sam_line.specs.Line.{is_due}
use Rattle.sam_line.specs.declared.clock.Tick.{Tick}
use Rattle.sam_line.specs.declared.clock.Tick.TheVariants.{Connect, Drop}
use Rattle.sam_client.specs.Clients.{Act, DoesAll, new_client}
use Rattle.sam_client.specs.Clients.Act.{OfLine}
use Rattle.sam_client.specs.declared.client.Client.{Client}

-- what the client says, asked at that time
abbrev pub tick : ℕ → Tick → Act
tick now answer = OfLine (TickAt now answer)

-- whatever a client does, also where its end stops, it waits only for what has begun, and for 30 seconds at most
abbrev pub ClientsAreTimely : Type 0
ClientsAreTimely =
    (id : Id) (take_over : Bool) (now : ℕ) (acts : List Act) (n : Client)
    → DoesAll (new_client id take_over now) acts n → IsTimely n.line.clock

-- three times that are 30 seconds apart, the first of them 30 seconds after the last that the client was told
pub record AreApart (c : Client) (first second third : ℕ) : Type 0 where
  pub begins : c.line.clock.time + 30000 ≤ first
  pub goes_on : first + 30000 ≤ second
  pub ends : second + 30000 ≤ third

-- Where an answer is due, and the host has not refused for good, the program that asks at such times, and tells of no connection, is told
-- to close a connection and to make one
abbrev pub ClientsAreNeverStuck : Type 0
ClientsAreNeverStuck =
    (id : Id) (take_over : Bool) (now : ℕ) (acts : List Act) (c n : Client) (first second third : ℕ) (a b d : Tick)
    → DoesAll (new_client id take_over now) acts c → is_due c.line ≡ true → (IsLost c.line.clock.state → ⊥) → AreApart c first second third
    → DoesAll c (tick first a ∷ tick second b ∷ tick third d ∷ []) n
    → Any (λ said. said ≡ Drop) (a ∷ b ∷ d ∷ []) × Any (λ said. said ≡ Connect) (a ∷ b ∷ d ∷ [])
