-- What the proofs of this crate cite most from its definitions and from the crates below.
pub use Rattle.std.proofs.Common.{Bool, Err, IfOk, IfSome, List, MatchOption, None, Ok, OnErr, OnOk, Option, Result, Some, [], ap, append-nil, append_assoc, arith, cond, drop, drop-drop, drop_at, eqb, false, filter, flat_map, get_or, is_some, leb, leb-true, length, length-append, length-drop, length-take-le, ltb-false, min, nat_eq, nat_lt, not, ok_or, option_and_then, option_map, refl, reverse, set, slice_range, subst, suc, sym, take, take_at, true, unwrap_or, zero, ℕ, ◌*◌, ◌++◌, ◌+◌, ◌-◌, ◌<◌, ◌==◌, ◌||◌, ◌∙◌, ◌∷◌, ◌≡◌, ◌≤◌}
pub use Rattle.std.proofs.lemmas.Grind.{common_steps}
pub use Rattle.std.proofs.lemmas.List.{nil_from_length}
pub use Rattle.std.proofs.lemmas.Result.{IfOk-weaker, err_from_is_err_and}
pub use Rattle.std.specs.Prelude.{⊤}
pub use Rattle.sam_runes.proofs.EditLaws.{length-del, length-ins}
pub use Rattle.sam_runes.proofs.EditSteps.{AscendFrom-lower, length_replaced}
pub use Rattle.sam_runes.proofs.SlotLaws.{length-free_slot, length-map_slots, length-put_slot, put_slot-push, slot-free_other, slot-free_same, slot-map, slot-put_other, slot-put_same, slot-read, slot_given, slot_past}
pub use Rattle.sam_runes.specs.Edits.{AscendFrom, inserted, removed}
pub use Rattle.sam_runes.specs.Slots.{Slots, free_slot, map_slots, put_slot, slot}
pub use Rattle.sam_runes.specs.Texts.{Range, all_tags, leftmost, max_runes, most_in_name, most_in_pattern, part}
pub use Rattle.sam_runes.specs.declared.edit.Edit.{Edit}
unfoldable pub use Rattle.sam_text.specs.Files.{AreAnnounced}
pub use Rattle.sam_text.specs.Files.{AreFit, AreSoundFiles, HasShortName, IsFit, IsOutcomeFor, IsOutcomeOf, IsPattern, PlainFile, PlainFiles, PlainOutcome, RoomyFiles, after_print, announce_all, announced_file, blank_file, committed, cut_file, file_after, file_at, has_file, pasted_file, put_file, put_outcome, typed_file, with_new, without_file}
pub use Rattle.sam_text.specs.Meaning.{WorkFile, address_or_dot, address_pattern, dot_after, dot_at, edits_of, effect_of, effect_of_line, effect_on, has_split, later, meaning, or_wrong, printed_of, run_on, side_pattern, steps_pattern, text_length, work_file, work_on, wrong}
unfoldable pub use Rattle.sam_text.specs.Meaning.{line_outcome}
pub use Rattle.sam_text.specs.Outcomes.{Fits, IsFileFit}
pub use Rattle.sam_text.specs.Ranges.{RangesFrom, address_range, chain_ranges, found_in, gaps, is_wanted, occurrences, side_or, side_range, step_ranges}
pub use Rattle.sam_text.specs.Reading.{Read, at_head, at_option, behind_address, behind_slash, ended, kind_of, last_of, name_of, number_from, quoted, second_side, side_of, skip, with_rune, ◌>>=◌}
unfoldable pub use Rattle.sam_text.specs.Reading.{address_at, chain_at, command_of, pattern_at, side_at}
pub use Rattle.sam_text.specs.Views.{RoomyFile, changed, plain_slots, rooms, seen, text_of}
pub use Rattle.sam_text.specs.declared.command.Address.{Address}
pub use Rattle.sam_text.specs.declared.command.Command.{Command}
pub use Rattle.sam_text.specs.declared.command.Kind.{Kind}
pub use Rattle.sam_text.specs.declared.command.Last.{Last}
pub use Rattle.sam_text.specs.declared.command.Side.{Side}
pub use Rattle.sam_text.specs.declared.command.Step.{Step}
pub use Rattle.sam_text.specs.declared.word.Word.{Word}
