use Rattle.std.proofs.Common.{◌≡◌, ◌++◌, IfOk, subst, sym}
use Rattle.sam_server.specs.Records.{plain, record_bytes}
use Rattle.sam_server.specs.declared.record.Record.{Record}
use Rattle.sam_server.proofs.Records.{called_written}
use Rattle.sam_server.proofs.writing.write_record.Goals as goal

pub returns-in-Called-clause-written : goal.returns-in-Called-clause-written
returns-in-Called-clause-written c =
    subst (λ (r : Record). IfOk c.append-in-Called.result
    (λ done. c.append-in-Called.new.out.items ≡ c.args.out.now.items ++ record_bytes (plain r)))
    (sym c.in-Called.is)
    (called_written c.append-in-Called.result c.args.out.now.items c.append-in-Called.new.out.items c.spell.result c.in-Called.hello
    c.spell.ensures c.append-in-Called.ensures.written)
