use Rattle.sam_host.proofs.Common.{arith}
use Rattle.sam_text.specs.Outcomes.{effect}
use Rattle.sam_host.proofs.RunLaws.{line_left, line_replied}
use Rattle.sam_host.proofs.host.Host.run.Goals as goal

pub returns-clause-host : goal.returns-clause-host
returns-clause-host c =
    grind (arith, (line_left c.args.self.now c.args.p c.args.runes.now c.args.line.now (effect c.in_ok-outcome.outcome) (effect c.tell_line.new.outcome) c.tell_line.ensures.same c.in_ok-outcome.ensures.value c.in_ok-outcome.ensures.fits))

pub returns-clause-frames : goal.returns-clause-frames
returns-clause-frames c =
    grind (arith, (line_replied c.args.self.now c.args.p c.args.runes.now c.args.line.now (effect c.in_ok-outcome.outcome) c.in_ok-outcome.ensures.value c.in_ok-outcome.ensures.fits))
