use Rattle.std.proofs.Common.{◌∙◌, ap, subst, Ok}
use Rattle.sam_link.specs.Hellos.{ReadsHello}
use Rattle.sam_server.proofs.Records.{some_called}
use Rattle.sam_server.proofs.reading.called_in.Goals as goal

pub returns-in-Ok-Some : goal.returns-in-Ok-Some
returns-in-Ok-Some c =
    some_called c.args.bytes.now c.in-Ok-Some.hello c.if-bytes-ne-HELLO_BYTES.false
    (subst (λ r. ReadsHello c.args.bytes.now r) (c.in-Ok-Some.is ∙ ap (λ f. Ok f) c.in-Ok-Some.field-0-is) c.read_hello.ensures)
