use Rattle.sam_queue.proofs.Tells.{marks_end, marks_item}
use Rattle.sam_queue.proofs.take.noted.Goals as goal

pub returns-in_default-clause-marks : goal.returns-in_default-clause-marks
returns-in_default-clause-marks g c = λ taken m. marks_end c.args.left.now taken c.args.entry c.requires c.in_default.is m

pub returns-clause-marks : goal.returns-clause-marks
returns-clause-marks g c = λ taken m. marks_item c.args.left.now taken c.args.entry c.in-Some.item c.in-Some.is m
