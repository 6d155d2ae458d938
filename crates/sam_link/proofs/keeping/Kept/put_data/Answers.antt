use Rattle.std.proofs.Common.{arith}
use Rattle.std.proofs.lemmas.Grind.{common_steps}
use Rattle.sam_link.proofs.Putting.{data_length}
use Rattle.sam_link.proofs.keeping.Kept.put_data.Goals as goal

pub invariant_of-self : goal.invariant_of-self
invariant_of-self c = grind (arith, common_steps, (data_length c.args.bytes.now))

pub returns : goal.returns
returns c = grind (arith, common_steps, (data_length c.args.bytes.now))

pub returns-then-not-has_room : goal.returns-then-not-has_room
returns-then-not-has_room c = grind (arith, common_steps, (data_length c.args.bytes.now))
