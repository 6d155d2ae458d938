use Rattle.sam_settle.proofs.Common.{arith, LinesGive}
use Rattle.sam_settle.proofs.SettlingClauses.{always_replays}
use Rattle.sam_settle.proofs.SettlingLaws.{source_leads}
use Rattle.sam_settle.proofs.settling.finish.Goals as goal

pub unreachable-requires : goal.unreachable-requires
unreachable-requires g c = grind (arith, always_replays)

pub returns : goal.returns
returns g c =
    let give : LinesGive c.args.ends = record { up = c.audit_one.ensures.gives; down = c.audit_one-2.ensures.gives; events = c.audit_three.ensures.gives } in
    grind (arith, (source_leads c.args.ends c.requires.ends give c.in-Some.source c.schedule_and_world-schedule.result.0.items c.schedule_and_world-schedule.result.1))
