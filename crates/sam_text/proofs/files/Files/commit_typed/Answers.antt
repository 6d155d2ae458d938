use Rattle.sam_text.proofs.Common.{◌≡◌, ◌∙◌, arith, after_print}
use Rattle.sam_text.specs.Files.{typed_files}
use Rattle.sam_text.specs.Outcomes.{effect}
use Rattle.sam_text.proofs.TypedLines.{line_put, rooms_kept, typed_length}
use Rattle.sam_text.proofs.files.Files.commit_typed.Goals as goal

pub put_printed-requires : goal.put_printed-requires
put_printed-requires c = grind (arith, (typed_length c.args.self.now.plain c.args.p c.args.runes.now c.requires.place))

pub commit-requires : goal.commit-requires
commit-requires c =
    let put : c.put_printed.new.self.plain ≡ after_print (typed_files c.args.self.now.plain c.args.p c.args.runes.now) c.args.outcome.printed = grind arith in
    (line_put c.args.self.now.plain c.put_printed.new.self.plain c.args.p c.args.runes.now (effect c.args.outcome) c.requires.outcome put).0

pub returns-clause-done : goal.returns-clause-done
returns-clause-done c =
    let put : c.put_printed.new.self.plain ≡ after_print (typed_files c.args.self.now.plain c.args.p c.args.runes.now) c.args.outcome.printed = grind arith in
    c.commit.ensures.done ∙ (line_put c.args.self.now.plain c.put_printed.new.self.plain c.args.p c.args.runes.now (effect c.args.outcome) c.requires.outcome put).1

pub returns-clause-rooms : goal.returns-clause-rooms
returns-clause-rooms c =
    let put : c.put_printed.new.self.plain ≡ after_print (typed_files c.args.self.now.plain c.args.p c.args.runes.now) c.args.outcome.printed = grind arith in
    rooms_kept c.args.self.now c.put_typed.new.self c.put_printed.new.self c.commit.new.self c.args.p c.args.runes.now (effect c.args.outcome) _
    c.requires.place c.requires.outcome c.put_typed.ensures.plain put c.commit.ensures.done c.put_typed.ensures.rooms c.put_printed.ensures.rooms c.commit.ensures.rooms
