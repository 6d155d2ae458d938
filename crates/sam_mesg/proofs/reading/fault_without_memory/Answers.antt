use Rattle.std.proofs.Common.{arith, chars}
use Rattle.sam_mesg.proofs.Texts.{text_none, text_within, text_beyond}
use Rattle.sam_mesg.proofs.reading.fault_without_memory.Goals as goal

pub returns-in-Ok : goal.returns-in-Ok
returns-in-Ok c =
    let bytes = c.args.bytes.now in
    (chars bytes, grind (arith, text_within))

pub returns-in_default : goal.returns-in_default
returns-in_default c = grind (arith, text_beyond)

pub returns-in_default-2 : goal.returns-in_default-2
returns-in_default-2 c = grind (arith, text_none)
