use Rattle.std.proofs.Common.{◌≡◌, ◌++◌, take, refl, ap, ◌∙◌, arith}
use Rattle.sam_journal.specs.Checksums.{crc_32c}
use Rattle.sam_journal.specs.Files.{head, magic}
use Rattle.sam_journal.specs.Records.{eight, four}
use Rattle.sam_journal.proofs.Spelling.{all_written, grown}
use Rattle.sam_journal.proofs.heads.head.Goals as goal

pub returns : goal.returns
unfolding head eight four
returns c =
    let marked : take 8 c.write_at.new.out ≡ magic = c.write_at.ensures.front in
    let version : take 12 c.write_at-2.new.out ≡ magic ++ four 2 =
    grown 8 4 c.write_at-2.new.out c.to_be_bytes.result (take 8 c.write_at.new.out) magic (four 2) marked c.to_be_bytes.ensures refl
    c.write_at-2.ensures.front in
    let random : take 20 c.write_at-3.new.out ≡ (magic ++ four 2) ++ eight c.args.random =
    grown 12 8 c.write_at-3.new.out c.to_be_bytes-2.result (take 12 c.write_at-2.new.out) (magic ++ four 2) (eight c.args.random) version
    c.to_be_bytes-2.ensures refl c.write_at-3.ensures.front in
    let sum : c.to_be_bytes-3.result ≡ four (crc_32c ((magic ++ four 2) ++ eight c.args.random)) =
    c.to_be_bytes-3.ensures ∙ ap four (c.crc_32c-sum.ensures ∙ ap crc_32c (c.split_at.ensures.front ∙ random)) in
    all_written 24 c.write_at-4.new.out (head c.args.random)
    (omega (arith, c.write_at.ensures.len, c.write_at-2.ensures.len, c.write_at-3.ensures.len, c.write_at-4.ensures.len))
    (grown 20 4 c.write_at-4.new.out c.to_be_bytes-3.result (take 20 c.write_at-3.new.out) ((magic ++ four 2) ++ eight c.args.random)
    (four (crc_32c ((magic ++ four 2) ++ eight c.args.random))) random sum refl c.write_at-4.ensures.front)
