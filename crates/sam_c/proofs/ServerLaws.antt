-- What is left where there is no room for what was made, and where a recovery is finished.
use Rattle.std.proofs.Common.{◌≡◌, refl, subst, inl, ℕ, List, false, is_some, Option, Some, None, Ok, Err}
use Rattle.sam_link.specs.declared.hello.Id.{Id}
use Rattle.sam_server.specs.DurableServers.{PlainDurableServer}
use Rattle.sam_server.specs.Heirs.{Inherits}
use Rattle.sam_server.specs.Recovering.{Retakes, recovered}
use Rattle.sam_server.specs.Servers.{Server}
use Rattle.sam_server.specs.declared.fault.HeirFault.TheVariants as heir
use Rattle.sam_server.specs.declared.recovery.RecoveryFault.TheVariants as fault
use Rattle.sam_c.specs.Servers.{RecoveryFinished}

-- a record that was taken may as well have found no memory
pub taken_without_room : (s n : Server) (body : List ℕ) → Retakes s body (Ok n) → Retakes s body (Err fault.OutOfMemory)
taken_without_room s n body taken = (taken.0, taken.1)

-- a server that began with the texts of one may as well have found no memory
pub inherited_without_room : (d e : PlainDurableServer) (id : Id) → Inherits d id (Ok e) → Inherits d id (Err heir.OutOfMemory)
inherited_without_room d e id begins = begins.0

-- the server goes on in a handle that was empty
pub recovery_finished : (recovery left : Option Server) (server after : Option PlainDurableServer) (s : Server)
    → Some s ≡ recovery → is_some server ≡ false → left ≡ None → after ≡ Some (recovered s) → RecoveryFinished recovery server 0 left after
recovery_finished recovery left None after s is empty none made =
    subst (λ r. RecoveryFinished r None 0 left after) is (inl (refl, none, made))
recovery_finished recovery left (Some d) after s is empty none made = absurd cc
