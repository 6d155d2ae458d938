use Rattle.sam_apart.proofs.ApartLaws as laws
use Rattle.sam_apart.proofs.laws.apart_sides_join.Goals as goal

pub returns-clause-joined : goal.returns-clause-joined
returns-clause-joined c = laws.joins

pub returns-clause-understood : goal.returns-clause-understood
returns-clause-understood c = laws.understood
