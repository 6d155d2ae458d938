-- What the proofs of this crate cite most from its definitions and from the crates below.
pub use Rattle.std.proofs.Common.{Bool, Decides, IfSome, IsUtf8, List, MatchOption, None, Option, Some, SomeIff, [], ap, append-nil, append_assoc, arith, cond, drop, drop-drop, drop_at, encode_utf8, encode_utf8_all, eqb, false, get_or, get_or-drop, get_or-take, le-ltb, length, length-append, length-drop, length-take, length-take-le, lt-ltb, nat_eq, refl, reverse, rules, slice_range, subst, suc, sym, take, take-add, take-append-drop, take-take, true, zero, ℕ, ◌%◌, ◌*◌, ◌++◌, ◌+◌, ◌-◌, ◌/◌, ◌<◌, ◌==◌, ◌∙◌, ◌∷◌, ◌≡◌, ◌≢◌, ◌≤◌}
pub use Rattle.std.proofs.lemmas.Bool.{and_parts, cases_lt, lt-leb}
pub use Rattle.std.proofs.lemmas.Grind.{common_steps, get_or_default_zero}
pub use Rattle.std.proofs.lemmas.List.{at_drop_more, drop_all, drop_more, length-reverse, reverse-append, take-append-le, take_more}
pub use Rattle.std.proofs.lemmas.List.Sums.{count_by-le-length, prefix_len-le-length, sum_by-append}
pub use Rattle.std.proofs.lemmas.Slice.{between_is, between_to_end}
pub use Rattle.std.proofs.lemmas.Str.{IsUtf8-past_char, encode_ascii, encodes-append, length-encode}
pub use Rattle.std.specs.Char.{IsScalar}
pub use Rattle.std.specs.List.{prefix_len, starts_with}
pub use Rattle.std.specs.Str.{StartsWithNoChar, all_scalars}
pub use Rattle.sam_runes.specs.Edits.{AscendFrom, EditsFit, all_edited, edited, inserted, removed, replace, replaced_from}
pub use Rattle.sam_runes.specs.Reading.{AreRunes}
pub use Rattle.sam_runes.specs.Texts.{IsLeftmost, IsNowhere, OccursAt, Range, after_newlines, del, ends_line, ins, is_in_line, is_word, leftmost, line_after, line_length, line_range, line_start, lines_before, max_runes, newline, newlines, prefix_in_bytes, searched, utf8_length, word_at}
pub use Rattle.sam_runes.specs.declared.edit.Edit.{Edit}
pub use mathlib.Core.List.{reverse-cons}
