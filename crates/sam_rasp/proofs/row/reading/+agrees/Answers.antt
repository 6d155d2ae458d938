use Rattle.sam_rasp.proofs.Common.{arith}
use Rattle.std.proofs.lemmas.List.{take_rest}
use Rattle.sam_rasp.proofs.Rows.{agrees-first}
use Rattle.sam_rasp.proofs.row.reading.+agrees.Goals as goal

pub returns-then-agrees : goal.returns-then-agrees
returns-then-agrees g t c =
    grind (arith, (agrees-first g.P.Part.members c.in-Some.first.now c.in-Some.others.now c.args.text.now c.len-len.result), take_rest)
