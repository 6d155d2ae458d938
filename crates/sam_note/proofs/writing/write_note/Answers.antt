use Rattle.std.proofs.Common.{arith}
use Rattle.sam_note.proofs.Spelling.{has_room, pieces_short, written}
use Rattle.sam_note.proofs.writing.write_note.Goals as goal

pub put_note-requires-clause-path : goal.put_note-requires-clause-path
put_note-requires-clause-path c = grind (arith, pieces_short)

pub put_note-requires-clause-copy : goal.put_note-requires-clause-copy
put_note-requires-clause-copy c = grind (arith, pieces_short)

pub put_note-requires-clause-text : goal.put_note-requires-clause-text
put_note-requires-clause-text c = grind (arith, pieces_short)

pub put_note-requires-clause-within : goal.put_note-requires-clause-within
put_note-requires-clause-within c = grind (arith, has_room)

pub returns-in-None : goal.returns-in-None
returns-in-None c =
    written c.args.head.now c.args.path.now c.args.copy.now c.args.text.now c.args.into.now c.put_note.result c.put_note.new.into c.in-None.ensures c.put_note.ensures
