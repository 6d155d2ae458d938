use Rattle.std.proofs.Common.{◌≡◌, take, arith}
use Rattle.std.proofs.lemmas.Option.{get_or_from_slice_get}
use Rattle.sam_link.specs.Hellos.{mark}
use Rattle.sam_link.proofs.Hellos.{hello_read}
use Rattle.sam_link.proofs.hello.read_hello.Goals as goal

pub returns : goal.returns
returns c =
    let marked : take 8 c.args.bytes.now ≡ mark = grind arith in
    let bytes = hello_read c.args.bytes.now
    (record {
      what = c.in-Some-what_of.what;
      id = record { first = c.number_at.result; last = c.number_at-2.result };
      attempt = c.number_at-3.result;
      received = c.number_at-4.result;
    })
    c.in-Some-get.number.now in
    grind (arith, get_or_from_slice_get, marked, bytes)
