use Rattle.std.proofs.Common.{arith, rules}
use Rattle.sam_settle.proofs.SettlingLists.{pushed_one, audited_few, audited_count}
use Rattle.sam_settle.proofs.settling.audit_one.Goals as goal

pub count-requires : goal.count-requires
count-requires g c = search (rules, arith, audited_few)

pub returns-clause-left : goal.returns-clause-left
returns-clause-left g c = search (rules, arith, pushed_one, audited_count)
