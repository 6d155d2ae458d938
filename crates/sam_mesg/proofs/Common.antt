-- What the proofs of this crate cite most from its definitions and from the crates below.
pub use Rattle.std.proofs.Common.{Bool, Err, IsUtf8, List, None, Ok, Option, Result, Some, [], ap, append_assoc, arith, chars, cond, drop, drop-set-lt, drop_at, encode_utf8_all, false, get_or, get_or-drop, get_or-take, inl, inr, le-ltb, leb-true, length, length-append, length-set, length-take, lt-ltb, ltb, ltb-false, nat_le, option_and_then, option_map, refl, rules, set, slice_get, subst, suc, sym, take, take-append-drop, take_at, true, w16, w32, w64, zero, ℕ, ◌&&◌, ◌*◌, ◌++◌, ◌+◌, ◌-◌, ◌<◌, ◌^◌, ◌↔◌, ◌∙◌, ◌∷◌, ◌≡◌, ◌≢◌, ◌≤◌, ◌⊎◌}
pub use Rattle.std.proofs.lemmas.Bool.{cases_lt}
pub use Rattle.std.proofs.lemmas.List.{get_or_past, nil_from_length, set_split, take_more_set}
pub use Rattle.std.proofs.lemmas.Str.{IsUtf8-from_is_utf8, chars-encodes, encodes-chars, is_utf8-from_IsUtf8, length-encode, scalars-chars}
pub use Rattle.std.specs.Int.{Width, byte_len, from_be_bytes, to_be_bytes}
pub use Rattle.sam_mesg.specs.Bounds.{Decodes, ShowsIn, entry, header, header_behind, may_be, within}
pub use Rattle.sam_mesg.specs.HostKinds.{DecodesH, FitsH, IsHFrame, IsHmesg, ShowsH, SpellsH, body_h, bounds_h, fields_h, fits_h, frame_h, header_h, kind_h, kind_of_h, lengths_h, read_h, readers_h, stamped}
pub use Rattle.sam_mesg.specs.Limits.{allows, allows_counts}
pub use Rattle.sam_mesg.specs.Reading.{Fails, Reads, count_at, end_at, made, named_at, place_at, range_at, request_at, tag_at, then_at, typed_at}
unfoldable pub use Rattle.sam_mesg.specs.Reading.{number_at, text_at}
pub use Rattle.sam_mesg.specs.Spelling.{eight, four, frame, text, two}
pub use Rattle.sam_mesg.specs.TerminalKinds.{DecodesT, FitsT, IsTmesg, ShowsT, SpellsT, body_t, bounds_t, fits_t, frame_t, header_t, kind_t, read_t, readers_t}
pub use Rattle.sam_mesg.specs.declared.fault.Header.TheVariants.{Length}
pub use Rattle.sam_mesg.specs.declared.fault.MesgFault.{MesgFault}
pub use Rattle.sam_mesg.specs.declared.fault.MesgFault.TheVariants.{BadKind, BadLength, BadText, OutOfMemory}
pub use Rattle.sam_mesg.specs.declared.field.End.{End}
pub use Rattle.sam_mesg.specs.declared.field.Then.{Then}
pub use Rattle.sam_mesg.specs.declared.hmesg.HFrame.{HFrame}
pub use Rattle.sam_mesg.specs.declared.hmesg.Hmesg.{Hmesg}
pub use Rattle.sam_mesg.specs.declared.limit.Limit.{Limit}
pub use Rattle.sam_mesg.specs.declared.limit.Limit.TheVariants.{Bytes, Runes}
pub use Rattle.sam_mesg.specs.declared.tmesg.Tmesg.{Tmesg}
pub use Rattle.sam_runes.specs.Reading.{AreRunes}
pub use Rattle.sam_runes.specs.Texts.{last_snarf_limit, most_in_message, most_in_name, most_in_pattern, snarf_limit}
