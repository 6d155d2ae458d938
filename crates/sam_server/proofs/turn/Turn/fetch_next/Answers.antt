use Rattle.std.proofs.Common.{Bool, Result, subst, sym}
use Rattle.sam_server.specs.Turns.{Fetched, GoesOn, IsStill, PlainTurn, held_in}
use Rattle.sam_server.specs.contracts.turn.Turn.{the_view}
use Rattle.sam_server.specs.declared.host_link.Next.{Next}
use Rattle.sam_server.specs.declared.turn.TurnFault.{TurnFault}
use Rattle.sam_server.proofs.Turns.{FetchedAs, fetched_by, fetches, no_effect}
use Rattle.sam_server.proofs.turn.Turn.fetch_next.Goals as goal
use Rattle.sam_server.proofs.turn.Turn.fetch_next.Goals.{in-Data, in-Note, in-Nothing}

pub returns : goal.returns
returns c =
    let t = c.args.self.now in
    let u : PlainTurn = the_view c.self.inside in
    let what = c.next_packet-self-inside.result in
    let v : PlainTurn = fetched_by u c.next_packet-self-inside.new.self (held_in what c.next_packet-self-inside.new.into) in
    let all : FetchedAs what t v =
    fetches t u c.next_packet-self-inside.new.self what c.next_packet-self-inside.new.into
    (subst (λ (x : PlainTurn). GoesOn t x) (sym c.self.view_is) c.in_ok-idle.ensures.0) c.requires
    (subst IsStill (sym c.self.view_is) c.in_ok-idle.ensures.1) (no_effect c.self.inside.effect c.if-is_some.ensures)
    c.next_packet-self-inside.ensures.packet in
    elim c.match-self.branch [
      | in-Nothing w ↦
          subst (λ (x : Result Bool TurnFault). Fetched t x v) (sym w.result-is)
          (subst (λ (n : Next). FetchedAs n t v) w.in-Nothing.is all)
      | in-Data w ↦
          subst (λ (x : Result Bool TurnFault). Fetched t x v) (sym w.result-is)
          (subst (λ (n : Next). FetchedAs n t v) w.in-Data.is all)
      | in-Note w ↦
          subst (λ (x : Result Bool TurnFault). Fetched t x v) (sym w.result-is)
          (subst (λ (n : Next). FetchedAs n t v) w.in-Note.is all)
    ]
