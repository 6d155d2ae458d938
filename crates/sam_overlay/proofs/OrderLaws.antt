-- Requests in one order with the edits.
use Rattle.std.proofs.Common.{◌≡◌, refl, ap, ◌∙◌, ℕ, ◌≤◌, List, [], ◌∷◌, ◌++◌, Option, Result, Ok, Err, Some, None, arith}
use Rattle.std.specs.Prelude.{OnOk}
use Rattle.sam_runes.specs.Slots.{Slots, slot}
use Rattle.sam_pending.specs.Layers.{Layer}
use Rattle.sam_pending.specs.Cells.{Cell, replaced, text_at}
use Rattle.sam_pending.proofs.GroupLaws.{text_replaced, text_shown}
use Rattle.sam_term.specs.Term.{rasp_at}
use Rattle.sam_term.specs.declared.event.UserEvent.{UserEvent}
use Rattle.sam_term.specs.declared.event.UserEvent.TheVariants as event
use Rattle.sam_endpoint.specs.TermEndpoints.{PlainTermEndpoint}
use Rattle.sam_endpoint.specs.TermStepping.{BringsEvent}
use Rattle.sam_endpoint.specs.declared.fault.TermStop.{TermStop}
use Rattle.sam_endpoint.specs.declared.step.BringFault.{BringFault}
use Rattle.sam_overlay.specs.Calls.{Asks, Keeps, PlainOverlay, cells_at, shown_at}
use Rattle.sam_overlay.specs.Ordered.{Joins, NoneFinds, Shares, closing_group, shared_with}
use Rattle.sam_overlay.specs.Outcomes.{ReplacesFrom, newest_in, newest_over}
use Rattle.sam_overlay.specs.Requests.{next_group}
use Rattle.sam_overlay.specs.declared.ordered.OrderedOverlay.{OrderedOverlay}
use Rattle.sam_overlay.specs.declared.request.Request.{Request}
use Rattle.sam_overlay.proofs.CallLaws.{any_replaces, newer-all}
use Rattle.sam_overlay.proofs.QueueLaws.{newest_all, shared_finds, shared_request}

none-finds : (rs : List Request) (g p q : ℕ) (s : List ℕ) (cs ds : List Cell) → next_group rs ≤ g → ds ≡ replaced g p q s cs → NoneFinds rs cs ds
none-finds [] g p q s cs ds later is = tt
none-finds (r ∷ rs) g p q s cs ds later is =
    (ap (text_at r.group) is ∙ text_replaced cs r.group g p q s (omega (arith, later)), none-finds rs g p q s cs ds (omega (arith, later)) is)

pub none_finds : {E : Type 0} (result : Result (Unit {0}) E) (rs : List Request) (p q : ℕ) (s : List ℕ) (cs ds : List Cell)
    → OnOk result (ReplacesFrom (next_group rs) cs p q s ds) → OnOk result (NoneFinds rs cs ds)
none_finds (Ok done) rs p q s cs ds h = none-finds rs h.group p q s cs ds h.from h.cells
none_finds (Err why) rs p q s cs ds h = tt

pub ruleset replace_facts = (none_finds, any_replaces)

-- what is shown is what the closing group comes to
pub asked_finds : (o : OrderedOverlay) (f : ℕ) → text_at (closing_group o) (cells_at o.overlay f) ≡ shown_at o.overlay f
asked_finds o f =
    text_shown (closing_group o) (cells_at o.overlay f)
    (newer-all (newest_over o.overlay.layers) (next_group o.queue) (cells_at o.overlay f) (newest_all o.overlay.layers f (rasp_at o.overlay.end.term f)))

-- a write that is shared is the request at its place, which comes to what is shown
pub asked_shares : (o : OrderedOverlay) (e : UserEvent) (k : ℕ) → shared_with o e ≡ Some k → Shares o e k o
asked_shares o (event.Write f) k is =
    let x = shared_request o.queue f (newest_in (slot o.overlay.layers f)) k is in
    record { shared = is; file = f; group = x.0; writes = refl; waits = x.1; finds = shared_finds o.overlay f x.0 x.2; same = refl }
asked_shares o e k is = absurd cc

-- another request stands behind the others
pub asked_joins : (o : OrderedOverlay) (e : UserEvent) (q : List Request) → shared_with o e ≡ None
    → q ≡ o.queue ++ record { event = e; group = closing_group o } ∷ [] → Joins o e (record o { queue = q })
asked_joins o e q alone is = record { alone = alone; taken = ap (λ q. record o { queue = q }) is; finds = asked_finds o }

pub ruleset ask_facts = (asked_joins)

-- ## The next request

pub asks_none : (e : PlainTermEndpoint) (ls : Slots Layer) (p m : Option ℕ) (n : PlainOverlay) (event : UserEvent) (result : Result (Unit {0}) (BringFault TermStop))
    → p ≡ None → Asks (record { end = e; layers = ls; putting = p; limit = m }) event result n
    → BringsEvent e event result n.end × Keeps (record { end = e; layers = ls; putting = p; limit = m }) n
asks_none e ls None m n event result is a = a
asks_none e ls (Some f) m n event result is a = absurd cc
