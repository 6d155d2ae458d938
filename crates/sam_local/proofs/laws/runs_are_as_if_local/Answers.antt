use Rattle.sam_local.proofs.Runs as laws
use Rattle.sam_local.proofs.laws.runs_are_as_if_local.Goals as goal

pub returns-clause-order : goal.returns-clause-order
returns-clause-order c = laws.runs_come_in_order

pub returns-clause-run : goal.returns-clause-run
returns-clause-run c = laws.runs_are_as_if_local

pub returns-clause-rest : goal.returns-clause-rest
returns-clause-rest c = laws.rest_is_as_if_local

pub returns-clause-one : goal.returns-clause-one
returns-clause-one c = laws.one_rest_for_all

pub returns-clause-alone : goal.returns-clause-alone
returns-clause-alone c = laws.alone_in_order
