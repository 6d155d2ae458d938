use Rattle.std.proofs.Common.{subst, arith}
use Rattle.sam_link.specs.End.{End}
use Rattle.sam_server.specs.HostLinks.{HandsOut}
use Rattle.sam_server.specs.declared.host_link.Next.TheVariants as next
use Rattle.sam_server.proofs.HostLinks.{data_handed, note_after}
use Rattle.sam_server.proofs.host_link.HostLink.next_packet.Goals as goal

pub returns-then-count-gt0-clause-packet : goal.returns-then-count-gt0-clause-packet
returns-then-count-gt0-clause-packet c =
    subst (λ (e : End). HandsOut e (next.Data c.take_in-count.result) c.take_in-count.new.into c.take_in-count.new.self) c.self.view_is
    (data_handed c.self.inside.link c.take_in-count.new.self c.self.inside.hello_left c.take_in-count.result c.args.into.now
    c.take_in-count.new.into c.self.invariant c.requires c.if-count-gt0.true c.take_in-count.ensures.count c.take_in-count.ensures.bytes
    c.take_in-count.ensures.rest).out

pub invariant_of-self : goal.invariant_of-self
invariant_of-self c =
    (data_handed c.self.inside.link c.take_in-count.new.self c.self.inside.hello_left c.take_in-count.result c.args.into.now
    c.take_in-count.new.into c.self.invariant c.requires c.if-count-gt0.true c.take_in-count.ensures.count c.take_in-count.ensures.bytes
    c.take_in-count.ensures.rest).well

pub returns-clause-packet : goal.returns-clause-packet
returns-clause-packet c =
    subst (λ (e : End). HandsOut e (next.Note c.in-Some.count) c.next_note.new.into c.next_note.new.self) c.self.view_is
    (note_after c.self.inside.link c.take_in-count.new.self c.next_note.new.self c.self.inside.hello_left c.in-Some.count
    c.take_in-count.result c.args.into.now c.next_note.new.into c.self.invariant c.requires (λ some. omega (arith, some, c.if-count-gt0.false))
    c.take_in-count.ensures.count c.take_in-count.ensures.rest c.in-Some.ensures.rest.0 c.in-Some.ensures.note c.in-Some.ensures.others).out
