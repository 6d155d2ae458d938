use Rattle.sam_joined.proofs.Calling.{calls_are_carried, no_call_stops_term, no_call_stops_host}
use Rattle.sam_joined.proofs.laws.calls_are_carried.Goals as goal

pub returns-clause-carried : goal.returns-clause-carried
returns-clause-carried c = calls_are_carried

pub returns-clause-host : goal.returns-clause-host
returns-clause-host c = no_call_stops_host

pub returns-clause-terminal : goal.returns-clause-terminal
returns-clause-terminal c = no_call_stops_term
