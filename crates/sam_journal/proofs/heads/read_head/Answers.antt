use Rattle.std.proofs.Common.{◌≡◌, take, drop, sym, ap, ◌∙◌, arith}
use Rattle.sam_journal.specs.Checksums.{crc_32c}
use Rattle.sam_journal.specs.Files.{magic}
use Rattle.sam_journal.specs.Records.{four}
use Rattle.sam_journal.proofs.HeadLaws.{both_marks, head_read, other_version, wrong_sum}
use Rattle.sam_journal.proofs.heads.read_head.Goals as goal

pub returns-then-four_at-ne-VERSION : goal.returns-then-four_at-ne-VERSION
returns-then-four_at-ne-VERSION c =
    let m : take 8 c.args.bytes.now ≡ magic = grind arith in
    (omega arith, m, other_version c.four_at.result c.args.bytes.now c.four_at.ensures c.four_at.type_inv c.if-four_at-ne-VERSION.true)

pub returns-then-crc_32c-four_at : goal.returns-then-crc_32c-four_at
returns-then-crc_32c-four_at c =
    let m : take 8 c.args.bytes.now ≡ magic = grind arith in
    let v : take 4 (drop 8 c.args.bytes.now) ≡ four 2 = sym c.four_at.ensures ∙ ap four c.if-four_at-ne-VERSION.false in (
      omega arith,
      both_marks c.args.bytes.now m v,
      wrong_sum c.crc_32c.result c.four_at-2.result c.args.bytes.now (c.crc_32c.ensures ∙ ap crc_32c c.split_at.ensures.front) c.crc_32c.type_inv c.four_at-2.ensures c.four_at-2.type_inv c.if-crc_32c-four_at.true,
    )

pub returns : goal.returns
returns c =
    let m : take 8 c.args.bytes.now ≡ magic = grind arith in
    let v : take 4 (drop 8 c.args.bytes.now) ≡ four 2 = sym c.four_at.ensures ∙ ap four c.if-four_at-ne-VERSION.false in (
      c.eight_at.type_inv,
      head_read c.eight_at.result c.crc_32c.result c.four_at-2.result c.args.bytes.now m v c.eight_at.ensures
          (c.crc_32c.ensures ∙ ap crc_32c c.split_at.ensures.front)
          c.four_at-2.ensures c.if-crc_32c-four_at.false,
    )
