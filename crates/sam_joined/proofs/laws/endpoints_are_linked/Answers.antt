use Rattle.sam_joined.proofs.Linking.{linked_are_one_run, links_are_one_line, moved_is_carried, no_call_stops_linked_host, no_call_stops_linked_term}
use Rattle.sam_joined.proofs.laws.endpoints_are_linked.Goals as goal

pub returns-clause-line : goal.returns-clause-line
returns-clause-line c = links_are_one_line

pub returns-clause-all : goal.returns-clause-all
returns-clause-all c = moved_is_carried

pub returns-clause-one_run : goal.returns-clause-one_run
returns-clause-one_run c = linked_are_one_run

pub returns-clause-host : goal.returns-clause-host
returns-clause-host c = no_call_stops_linked_host

pub returns-clause-terminal : goal.returns-clause-terminal
returns-clause-terminal c = no_call_stops_linked_term
