-- What is left of the user's where nothing moves any more at a client.
use Rattle.std.specs.Prelude.{◌≡◌, ℕ, ◌^◌, ◌<◌, Bool, false, List, []}
use Rattle.sam_link.specs.declared.hello.Id.{Id}
use Rattle.sam_rest.specs.Rest.{HasRoom}
use Rattle.sam_term.specs.declared.event.UserEvent.{UserEvent}
use Rattle.sam_endpoint.specs.HostEndpoints.{PlainHostEndpoint}
use Rattle.sam_overlay.specs.declared.ordered.OrderedOverlay.{OrderedOverlay}
use Rattle.sam_apart.specs.Apart.{Asides}
use Rattle.sam_joined.specs.Joined.{AreCarried, IsAllCarried, both}
use Rattle.sam_client.specs.Clients.{Act, DoesAll, new_client}
use Rattle.sam_client.specs.Going.{IsAllPut, IsFull, Rests}
use Rattle.sam_client.specs.declared.client.Client.{Client}

-- the session is not over, and each text has room for what waits over it
pub record CanTake (o : OrderedOverlay) : Type 0 where
  pub going : o.overlay.end.term.has_exited ≡ false
  pub room : (f : ℕ) → IsFull o f → ⊥

-- no request waits, and no edit over any file
pub record IsDone (o : OrderedOverlay) : Type 0 where
  pub asked : o.queue ≡ []
  pub put : (f : ℕ) → f < 2 ^ 16 → IsAllPut o.overlay f

-- Where nothing moves any more at a client, nothing is under way to its host's end or from there (so no lock is held), and no count is
-- full, neither a request nor an edit waits
abbrev pub RestingClientsAreDone : Type 0
RestingClientsAreDone =
    (id : Id) (take_over : Bool) (now : ℕ) (acts : List Act) (c : Client)
    (given : List (List ℕ × List ℕ)) (asides : Asides) (said : List UserEvent) (up down : List ℕ) (e : PlainHostEndpoint)
    → DoesAll (new_client id take_over now) acts c → Rests c → CanTake c.ordered
    → AreCarried given asides said up down e c.ordered.overlay.end → IsAllCarried up down e c.ordered.overlay.end
    → HasRoom (both e c.ordered.overlay.end) → IsDone c.ordered
