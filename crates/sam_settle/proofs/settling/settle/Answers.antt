use Rattle.std.proofs.Common.{arith, rules}
use Rattle.sam_settle.proofs.SettlingClauses.{states, headline, is_drained, has_streams, has_users, are_full, misses_host, is_whole}
use Rattle.sam_settle.proofs.settling.settle.Goals as goal

pub returns-in-Ok-clause-headline : goal.returns-in-Ok-clause-headline
returns-in-Ok-clause-headline g c = grind (arith, headline)

pub returns-in-Ok-clause-states : goal.returns-in-Ok-clause-states
returns-in-Ok-clause-states g c = states c.args.ends c.requires c.finish.ensures.give c.finish.result c.finish.ensures

pub returns-in-Ok-clause-streams : goal.returns-in-Ok-clause-streams
returns-in-Ok-clause-streams g c = grind (arith, has_streams)

pub returns-in-Ok-clause-users : goal.returns-in-Ok-clause-users
returns-in-Ok-clause-users g c = grind (arith, has_users)

pub returns-in-Ok-clause-drained : goal.returns-in-Ok-clause-drained
returns-in-Ok-clause-drained g c = search (rules, arith, is_drained)

pub returns-in-Ok-clause-counted : goal.returns-in-Ok-clause-counted
returns-in-Ok-clause-counted g c = search (rules, arith, are_full)

pub returns-in-Ok-clause-misses : goal.returns-in-Ok-clause-misses
returns-in-Ok-clause-misses g c = grind (arith, misses_host)

pub returns-in-Ok-clause-whole : goal.returns-in-Ok-clause-whole
returns-in-Ok-clause-whole g c = search (rules, arith, is_whole)
