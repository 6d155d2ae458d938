use Rattle.std.proofs.Common.{sym, subst, take_all}
use Rattle.std.proofs.lemmas.List.Elements.{All-more, All-same}
use Rattle.sam_mesg.specs.HostKinds.{FitsH, IsHFrame}
use Rattle.sam_endpoint.proofs.known.know_frames.Goals as goal

pub loop-frame-preserved : goal.loop-frame-preserved
loop-frame-preserved c =
    All-more (FitsH 2) c.args.frames.now c.loop-frame.frame-index c.frame-item.result c.loop-frame-test.true c.loop-frame.invariant
    (record {
      is_message = subst IsHFrame c.frame-item.is c.facts.ensures;
      fits = c.requires c.loop-frame.frame-index c.frame-item.result c.loop-frame-test.true;
    })

pub returns : goal.returns
returns c = All-same (FitsH 2) c.args.frames.now _ (sym (take_all c.loop-frame.frame-index c.args.frames.now c.loop-frame-test.false)) c.loop-frame.invariant
