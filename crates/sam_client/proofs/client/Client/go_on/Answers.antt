use Rattle.std.proofs.Common.{◌≡◌, ◌+◌, rules, arith, Ok, Err, Result, sym, subst}
use Rattle.sam_client.specs.Going.{GoesOn, Moves, most_moves}
use Rattle.sam_client.specs.declared.event.Event.{Event}
use Rattle.sam_client.specs.declared.event.Event.TheVariants as tell
use Rattle.sam_client.specs.declared.fault.GoOnFault.{GoOnFault}
use Rattle.sam_client.proofs.Moves.{fails_within, goes_busy, goes_then, goes_within, moves_then, went_busy}
use Rattle.sam_client.proofs.GoingLaws.{goes_at}
use Rattle.sam_client.proofs.client.Client.go_on.Goals as goal

pub returns-in_err-event-clause-goes : goal.returns-in_err-event-clause-goes
returns-in_err-event-clause-goes c =
    let now = c.args.now in
    let c0 = c.args.self.now in
    let n = c.advance.new.self in
    let made = c.moves._made in
    let why = c.in_err-event.field-0.0 in
    let same : c.from_residual.result ≡ Err why = search rules in
    subst (λ (answer : Result Event GoOnFault). GoesOn now most_moves c0 answer n) (sym same)
    (fails_within now (made + 1) most_moves c0 n why (omega (arith, c.moves-test.true))
    (goes_then now made 1 c0 c.moves.self n (Err why) c.moves.invariant c.in_err-event.ensures.goes))

pub returns-in_default : goal.returns-in_default
returns-in_default c =
    let now = c.args.now in
    let c0 = c.args.self.now in
    let n = c.advance.new.self in
    let made = c.moves._made in
    record {
      goes =
          goes_within now (made + 1) most_moves c0 n c.in_ok-event.event (omega (arith, c.moves-test.true)) c.in_default.not-Busy
          (goes_then now made 1 c0 c.moves.self n (Ok c.in_ok-event.event) c.moves.invariant c.in_ok-event.ensures.goes);
      idle = c.in_ok-event.ensures.idle;
    }

pub moves-preserved : goal.moves-preserved
moves-preserved c =
    moves_then c.args.now c.moves._made 1 c.args.self.now c.moves.self c.advance.new.self c.moves.invariant
    (went_busy c.args.now c.moves.self c.advance.new.self
    (goes_at c.args.now c.moves.self c.advance.new.self c.in_ok-event.event tell.Busy c.in-Busy.is c.in_ok-event.ensures.goes))

pub returns-clause-goes : goal.returns-clause-goes
returns-clause-goes c =
    let all : c.moves._made ≡ most_moves = omega (arith, c.moves.auto._made-end, c.moves-test.false) in
    goes_busy c.args.now most_moves c.args.self.now c.moves.self
    (subst (λ k. Moves c.args.now k c.args.self.now c.moves.self) all c.moves.invariant)
