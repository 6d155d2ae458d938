use Rattle.sam_crossing.proofs.OrderLaws as laws
use Rattle.sam_world.proofs.laws.neither_side_refuses.Goals as goal

pub returns-clause-host : goal.returns-clause-host
returns-clause-host c = laws.host_never_refuses

pub returns-clause-terminal : goal.returns-clause-terminal
returns-clause-terminal c = laws.terminal_never_refuses

pub returns-clause-counts : goal.returns-clause-counts
returns-clause-counts c = laws.only_counts_stop
