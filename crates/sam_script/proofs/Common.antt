-- What the proofs of this crate cite most from its definitions and from the crates below.
pub use Rattle.std.proofs.Common.{Bool, Err, IfErr, IfOk, IsCharBoundary, IsUtf8, List, MatchResult, None, Ok, Option, Result, Some, [], ap, append-nil, append_assoc, ap₂, arith, chars, codes, cond, decimal, drop, encode_utf8, encode_utf8_all, eqb-true, false, flat_map, get_or, inl, inr, le-leb, length, length-append, length-take-le, lit<, map, nat_lt, ne_eqb, not, pow_mono, refl, replicate, rules, slice_index_or, string_bytes, subst, suc, sym, take, take_all, tests, true, ℕ, ◌&&◌, ◌++◌, ◌+◌, ◌-◌, ◌<◌, ◌==◌, ◌^◌, ◌∙◌, ◌∷◌, ◌≡◌, ◌≢◌, ◌≤◌, ◌⊎◌}
pub use Rattle.std.proofs.lemmas.Bool.{and_parts}
pub use Rattle.std.proofs.lemmas.Bool.Decides.{eqb_tells, nat_tests}
pub use Rattle.std.proofs.lemmas.Iterator.Consumers.{YieldsList-end, YieldsList-turn}
pub use Rattle.std.proofs.lemmas.List.{at_drop_all, at_drop_more, length_push, take_more}
pub use Rattle.std.proofs.lemmas.Option.{option_and_then_some, same_Some}
pub use Rattle.std.proofs.lemmas.Result.{IfOk-equal}
pub use Rattle.std.proofs.lemmas.Str.{IsCharBoundary-end, IsUtf8-append, IsUtf8-drop, IsUtf8-encode, IsUtf8-nil, IsUtf8-past_char, IsUtf8-take, chars_from_encodes, encode_ascii, encodes-append, encodes-chars, inside_one}
pub use Rattle.std.proofs.lemmas.Str.Parse.{numerals_by_value, parse_plain, tells_all_ascii_digits}
pub use Rattle.std.proofs.lemmas.Str.Pattern.{find_char, strip_prefix_char}
pub use Rattle.std.specs.List.{AllByRecursion, AllZip, onto_first}
pub use Rattle.std.specs.Str.{all_ascii_digits}
pub use Rattle.std.specs.Vec.Iter.{into_iter_items}
pub use Rattle.sam_runes.specs.Texts.{max_runes, most_files, most_in_name}
pub use Rattle.sam_script.specs.Events.{Part, Place, Reader, Tag, by_place, by_range, by_tag, form, readers}
unfoldable pub use Rattle.sam_script.specs.Events.{edit_at}
pub use Rattle.sam_script.specs.Events.Part.{Number, Rest}
pub use Rattle.sam_script.specs.Reading.{Adds, AddsNone, IsUnsaid, bare, fitting_name, fitting_text, is_silent, line_readers, read_by}
unfoldable pub use Rattle.sam_script.specs.Reading.{event_at, file_at, file_text_at, line_at}
pub use Rattle.sam_script.specs.Replay.{IsReplayFault, IsStopOf, after_line, after_output, printed_by, replayed_from, stepped}
unfoldable pub use Rattle.sam_script.specs.Replay.{replayed}
pub use Rattle.sam_script.specs.RunLines.{CanBeNamed, CanBeWritten, IsFitting, event_line, file_line, line_of, numbered_from, run_lines_of, run_script}
pub use Rattle.sam_script.specs.Script.{PlainScript, keys_of, mouse_of}
pub use Rattle.sam_script.specs.Show.{host_slot, name_rune, rasp_shown, show_lines, slot_lines, term_slot, text_rune, text_shown}
pub use Rattle.sam_script.specs.Spelling.{AreFilesFirst, IsNumber, IsReadFault, IsWord, IsWrongLine, Says, SaysNothing, SaysSo, Spells, SpellsEvent, SpellsFile, SpellsLine, SpellsLines, SpellsParts, file_said, files_said, lines_of, lines_said, part_shown, spelling}
pub use Rattle.sam_script.specs.Words.{Gives, behind_word, ended, meant, number_of, text_at, unescaped, word_at, word_of, ◌>>=◌}
unfoldable pub use Rattle.sam_script.specs.Words.{number_at, tag_alone, tag_and_place, tag_and_range, tag_and_text}
pub use Rattle.sam_script.specs.declared.fault.ScriptFault.{ScriptFault}
pub use Rattle.sam_script.specs.declared.line.Said.{Said}
pub use Rattle.sam_term.specs.declared.event.UserEvent.{UserEvent}
pub use Rattle.sam_crossing.specs.World.{PlainWorld, new_world, run_of, step_of}
pub use Rattle.sam_crossing.specs.declared.event.Event.{Event}
