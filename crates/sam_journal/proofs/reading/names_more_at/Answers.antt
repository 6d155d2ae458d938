use Rattle.std.proofs.Common.{◌<◌, arith}
use Rattle.sam_journal.specs.Files.{NamesMoreAt}
use Rattle.sam_journal.proofs.Readings.{decided_not, names_by, names_less, no_room_to_name}
use Rattle.sam_journal.proofs.reading.names_more_at.Goals as goal

pub returns-then-bytes-place : goal.returns-then-bytes-place
returns-then-bytes-place c =
    decided_not (NamesMoreAt c.args.random c.args.bytes.now c.args.place c.args.end)
    (no_room_to_name c.args.random c.args.place c.args.end c.args.bytes.now (omega arith))

pub returns-then-eight_at-end : goal.returns-then-eight_at-end
returns-then-eight_at-end c =
    decided_not (NamesMoreAt c.args.random c.args.bytes.now c.args.place c.args.end)
    (names_less c.args.random c.args.place c.args.end c.eight_at.result c.args.bytes.now c.eight_at.ensures c.eight_at.type_inv (omega arith))

pub returns : goal.returns
returns c =
    let more : c.args.end < c.eight_at.result = omega arith in
    rw c.is_some.ensures (names_by c.args.random c.args.place c.args.end c.eight_at.result c.args.bytes.now c.record_at.result c.eight_at.ensures
    c.eight_at.type_inv more c.record_at.ensures)
