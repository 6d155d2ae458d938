use Rattle.sam_served.proofs.Serving.{gates_keep_the_rule, marks_are_right}
use Rattle.sam_served.proofs.laws.gates_keep_the_rule.Goals as goal

pub returns-clause-marks : goal.returns-clause-marks
returns-clause-marks c = marks_are_right

pub returns-clause-gates : goal.returns-clause-gates
returns-clause-gates c = gates_keep_the_rule
