use Rattle.std.proofs.Common.{arith, take, ◌-◌}
use Rattle.sam_host.proofs.EditLaws.{edits_file, edits_told, edits_within, run_made, tells_fit, tells_front}
use Rattle.sam_host.proofs.host.Host.make_run.Goals as goal

pub before_edit-count-requires-clause-edits : goal.before_edit-count-requires-clause-edits
before_edit-count-requires-clause-edits c =
    let h = c.args.self.now in
    grind (arith, (edits_told h.files c.args.tag h.taken (take c.args.run.count c.args.messages.now.items) c.args.run.changes.items c.args.run.frames.items c.requires.tells))

pub overflow_sub-count : goal.overflow_sub-count
overflow_sub-count c = grind (arith, (edits_within c.args.messages.now.items c.before_edit-count.result))

pub returns-clause-taken : goal.returns-clause-taken
returns-clause-taken c =
    run_made c.args.self.now _ c.args.tag c.args.run.count c.before_edit-count.result c.change_text-made.result c.args.messages.now.items c.args.run.changes.items c.args.run.frames.items _
    c.requires.other c.requires.opened c.requires.goes c.requires.room c.requires.count c.requires.tells c.before_edit-count.ensures.count c.before_edit-count.ensures.edits (grind arith) (grind arith)
    (grind arith)

pub returns-clause-fit : goal.returns-clause-fit
returns-clause-fit c =
    let h = c.args.self.now in
    let n = c.before_edit-count.result in
    let made = c.change_text-made.result in
    let ms = c.args.messages.now.items in
    let run = c.args.run in
    let tells = tells_front h.files c.args.tag h.taken run.count n made ms run.changes.items run.frames.items c.requires.tells c.before_edit-count.ensures.count c.requires.count c.before_edit-count.ensures.edits in
    grind (arith, (tells_fit h.files c.args.tag h.taken h.version (take n ms) (take made run.changes.items) (take (n - made) run.frames.items) tells))

pub returns-clause-one_file : goal.returns-clause-one_file
returns-clause-one_file c =
    let h = c.args.self.now in
    let n = c.before_edit-count.result in
    let made = c.change_text-made.result in
    let ms = c.args.messages.now.items in
    let run = c.args.run in
    edits_file h.files c.args.tag h.taken n ms (take made run.changes.items) (take (n - made) run.frames.items) c.requires.first
    (tells_front h.files c.args.tag h.taken run.count n made ms run.changes.items run.frames.items c.requires.tells c.before_edit-count.ensures.count c.requires.count c.before_edit-count.ensures.edits)
