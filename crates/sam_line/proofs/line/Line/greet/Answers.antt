use Rattle.std.proofs.Common.{◌≡◌, ◌+◌, ◌++◌, Ok, Some, take, subst, arith}
use Rattle.sam_link.specs.Hellos.{ReadsHello}
use Rattle.sam_line.specs.Receiving.{MeetsBy}
use Rattle.sam_line.proofs.Greetings.{meets, too_many}
use Rattle.sam_line.proofs.line.Line.greet.Goals as goal

pub returns-then-words-gt-MOST_WORDS : goal.returns-then-words-gt-MOST_WORDS
returns-then-words-gt-MOST_WORDS c =
    let whole : c.hold.new.self ≡ c.args.self.now.greeting ++ c.args.piece.now = grind arith in
    too_many c.args.self.now c.fail.new.self c.args.attempt c.args.piece.now c.hold.new.self c.words-words.result whole c.words-words.ensures (omega arith)
    (grind arith)

pub returns-in-Ok-Some : goal.returns-in-Ok-Some
returns-in-Ok-Some c =
    let whole : c.hold.new.self ≡ c.args.self.now.greeting ++ c.args.piece.now = grind arith in
    meets c.args.self.now c.meet.new.self c.args.attempt c.args.piece.now c.hold.new.self c.words-words.result c.in-Ok-Some.hello c.meet.result whole c.words-words.ensures (omega arith)
    (subst (λ b. ReadsHello b (Ok (Some c.in-Ok-Some.hello))) c.rest.ensures (rw c.in-Ok-Some.field-0-is at c.in-Ok-Some.ensures))
    (subst (λ len. MeetsBy (record c.args.self.now { greeting = c.hold.new.self }) c.args.attempt c.in-Ok-Some.hello (take len c.hold.new.self) (c.words-words.result + 42) c.meet.result c.meet.new.self) c.len.ensures c.meet.ensures)
