use Rattle.std.proofs.Common.{◌≡◌, [], length, Ok, None, Some, ap, take, subst, sym, ◌∙◌}
use Rattle.std.specs.Prelude.{option_map}
use Rattle.sam_endpoint.specs.HostEndpoints.{PlainHostEndpoint}
use Rattle.sam_endpoint.specs.HostStepping.{IsReady}
use Rattle.sam_server.specs.Servers.{Effect}
use Rattle.sam_server.specs.Turns.{Fits, Handed, MayHold, PlainTurn, held_in, plain_effect}
use Rattle.sam_server.specs.contracts.turn.Turn.{the_view}
use Rattle.sam_server.specs.declared.host_link.Next.{Next}
use Rattle.std.proofs.Common.{refl}
use Rattle.sam_server.proofs.Turns.{bring_told, brought_stays, handed_on, hear_told}
use Rattle.sam_server.proofs.turn.Turn.hand.Goals as goal

pub invariant_of-self : goal.invariant_of-self
invariant_of-self c =
    subst (λ (k : PlainHostEndpoint). (length c.self.inside.packet ≡ 4096) × Fits c.self.inside.held × MayHold c.self.inside.held k c.self.inside.effect × (k.writes ≡ []))
    (sym (brought_stays c.self.inside.host c.bring.new.host (take c.in-Data.count c.self.inside.packet) c.in_err-bring-in-Data.field-0.0 c.in_err-bring-in-Data.ensures)) c.self.invariant

pub returns-in_ok-bring-in-Data : goal.returns-in_ok-bring-in-Data
returns-in_ok-bring-in-Data c =
    let t = the_view c.self.inside in
    let effect = option_map plain_effect c.self.inside.effect in
    subst (λ (x : PlainTurn). Handed x (Ok tt) (handed_on t c.bring.new.host effect)) c.self.view_is
    (bring_told t c.bring.new.host effect (take c.in-Data.count c.self.inside.packet)
    (subst (λ (x : PlainTurn). x.server.effect ≡ None) (sym c.self.view_is) c.requires.none) c.self.invariant.3 refl
    (ap (λ (w : Next). held_in w c.self.inside.packet) c.in-Data.is) c.in_ok-bring-in-Data.ensures)

pub returns-in_ok-effect-in-Note : goal.returns-in_ok-effect-in-Note
returns-in_ok-effect-in-Note c =
    let t = the_view c.self.inside in
    let effect = option_map plain_effect c.set.new.slot in
    subst (λ (x : PlainTurn). Handed x (Ok tt) (handed_on t c.self.inside.host effect)) c.self.view_is
    (hear_told t effect (take c.in-Note.count c.self.inside.packet)
    (subst (λ (x : PlainTurn). IsReady x.server.host) (sym c.self.view_is) c.requires.ready)
    (subst (λ (x : PlainTurn). x.server.effect ≡ None) (sym c.self.view_is) c.requires.none) c.self.invariant.3
    (ap (option_map plain_effect) c.set.ensures ∙ ap (λ (e : Effect). Some e) c.in_ok-effect-in-Note.ensures)
    (ap (λ (w : Next). held_in w c.self.inside.packet) c.in-Note.is))
