use Rattle.std.proofs.Common.{sym, subst, take_all}
use Rattle.std.proofs.lemmas.List.Elements.{All-more, All-same}
use Rattle.sam_mesg.specs.TerminalKinds.{FitsT, IsTmesg}
use Rattle.sam_endpoint.proofs.known.know_messages.Goals as goal

pub loop-message-preserved : goal.loop-message-preserved
loop-message-preserved c =
    All-more (FitsT 2) c.args.messages.now c.loop-message.message-index c.message-item.result c.loop-message-test.true c.loop-message.invariant
    (record {
      is_message = subst IsTmesg c.message-item.is c.facts.ensures;
      fits = c.requires c.loop-message.message-index c.message-item.result c.loop-message-test.true;
    })

pub returns : goal.returns
returns c =
    All-same (FitsT 2) c.args.messages.now _ (sym (take_all c.loop-message.message-index c.args.messages.now c.loop-message-test.false)) c.loop-message.invariant
