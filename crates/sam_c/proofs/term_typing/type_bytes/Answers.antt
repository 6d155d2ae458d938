use Rattle.std.proofs.Common.{ap, arith, length, length-take}
use Rattle.sam_c.proofs.TypingLaws.{typed_within}
use Rattle.sam_c.proofs.term_typing.type_bytes.Goals as goal

pub slice_bounds-utf8_len-end : goal.slice_bounds-utf8_len-end
slice_bounds-utf8_len-end c =
    omega (
      arith,
      length-take c.type_pieces-typed.result.runes c.as_slice-in-Ok.result.now,
      typed_within _ _ _ _ _ c.type_pieces-typed.ensures,
      ap length c.as_slice.ensures,
      ap length c.as_slice-in-Ok.ensures,
    )
