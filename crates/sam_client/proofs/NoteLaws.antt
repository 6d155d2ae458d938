-- A note goes behind what acted: the step in front of it writes that, and nothing else.
use Rattle.std.proofs.Common.{◌≡◌, inl, inr, ◌↔◌, Bool, true, false, not, ◌<◌, List, [], ◌∷◌, None, Ok, Err, refl, ap, arith}
use Rattle.std.specs.Prelude.{IsTrue, length, slice_get}
use Rattle.sam_mesg.specs.declared.tmesg.Tmesg.{Tmesg}
use Rattle.sam_mesg.specs.declared.hmesg.HFrame.{HFrame}
use Rattle.sam_endpoint.specs.TermEndpoints.{IsIdle, PlainTermEndpoint}
use Rattle.sam_endpoint.specs.TermStepping.{Steps}
use Rattle.sam_endpoint.specs.declared.fault.EndpointFault.{EndpointFault}
use Rattle.sam_endpoint.specs.declared.fault.EndpointFault.TheVariants.{CountFull, OutOfMemory, Stopped, Unfinished}
use Rattle.sam_endpoint.specs.declared.fault.TermStop.{TermStop}
use Rattle.sam_endpoint.specs.declared.step.TermStep.{TermStep}
use Rattle.sam_endpoint.specs.declared.step.TermStep.TheVariants.{Acted, Idle, Locked, Received, Refused, Wrote}
use Rattle.sam_overlay.specs.declared.shown_change.OverlayStep.{OverlayStep}
use Rattle.sam_client.specs.Clients.{Does}
use Rattle.sam_client.specs.Clients.Act.{Step}
use Rattle.sam_client.specs.Notes.{HasActed, WritesActed}
use Rattle.sam_client.specs.declared.client.Client.{Client}

none-left : (e : PlainTermEndpoint) → 0 < length e.unwritten → e.unwritten ≡ [] → ⊥
none-left e some none = omega (arith, some, ap length none)

waits-none : (ws : List HFrame) → slice_get ws 0 ≡ None → ws ≡ []
waits-none [] none = refl
waits-none (w ∷ ws) none = absurd cc

some-left : (us : List Tmesg) → (us ≡ [] → ⊥) → 0 < length us
some-left [] none = absurd (none refl)
some-left (u ∷ us) none = omega arith

-- it goes on, not all is done, and no frame waits: so something is left over to be written
acted-when : (e : PlainTermEndpoint) → e.stop ≡ None → (IsIdle e → ⊥) → slice_get e.waiting 0 ≡ None → HasActed e
acted-when e goes busy first =
    let none = waits-none e.waiting first in
    (goes, none, some-left e.unwritten (λ left. busy (record { waiting = none; unwritten = left })))

pub left_over : (e : PlainTermEndpoint) (idle : Bool) → e.stop ≡ None → slice_get e.waiting 0 ≡ None → (IsTrue idle ↔ IsIdle e)
    → IsTrue (not idle) ↔ HasActed e
left_over e true goes first is = ((λ wrong. absurd cc), λ acted. absurd (none-left e acted.2 (is.0 refl).unwritten))
left_over e false goes first is = ((λ done. acted-when e goes (λ idle. let wrong = is.1 idle in absurd cc) first), λ acted. refl)

wrote : (e g : PlainTermEndpoint) (s : TermStep) → HasActed e → Steps e (Ok s) g → s ≡ Wrote
wrote e g Idle acted steps = absurd (none-left e acted.2 steps.0.1.0.unwritten)
wrote e g Locked acted steps = absurd (none-left e acted.2 steps.0.1.0.unwritten)
wrote e g Wrote acted steps = refl
wrote e g (Received kind tag change) acted steps = absurd (none-left e acted.2 steps.0.1)
wrote e g (Acted number tag change) acted steps = absurd (none-left e acted.2 steps.0.1.0.unwritten)
wrote e g (Refused number why) acted steps = absurd (none-left e acted.2 steps.0.1.0.unwritten)

failed : (e g : PlainTermEndpoint) (why : EndpointFault TermStop) → HasActed e → Steps e (Err why) g → why ≡ Unfinished
failed e g Unfinished acted steps = refl
failed e g (Stopped why) acted (inl steps) = let is = steps.0 in let was = acted.0 in absurd cc
failed e g (Stopped why) acted (inr steps) = absurd (none-left e acted.2 steps.0.1)
failed e g OutOfMemory acted steps = absurd steps
failed e g CountFull acted steps = absurd steps

pub step_writes : (c n : Client) (x : OverlayStep) → HasActed c.ordered.overlay.end → Does c (Step (Ok x)) n → WritesActed c (Ok tt) n
step_writes c n x acted does = inr (acted, x, wrote c.ordered.overlay.end n.ordered.overlay.end x.step acted does.0.0, does)

pub step_fails : (c n : Client) (why : EndpointFault TermStop) → HasActed c.ordered.overlay.end → Does c (Step (Err why)) n → WritesActed c (Err why) n
step_fails c n why acted does = (acted, failed c.ordered.overlay.end n.ordered.overlay.end why acted does.0.0, does)
