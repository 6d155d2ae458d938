-- What the proofs of this crate cite most from its definitions and from the crates below.
pub use Rattle.std.proofs.Common.{All, Bool, Err, IfSome, IsTrue, List, None, Ok, Option, Some, [], ap, append-nil, append_assoc, arith, codes, cond, drop, drop_at, drop_of_length-le, encode_utf8_all, false, flat_map, get_or, if◌then◌else◌, le-leb, leb-true, length, length-append, length-take, ltb-false, min, nat_eq, nat_le, nat_lt, not, option_and_then, option_map, refl, replicate, reverse, rules, subst, suc, sym, take, take_at, true, unwrap_or, zero, ℕ, ◌&&◌, ◌++◌, ◌+◌, ◌-◌, ◌<◌, ◌==◌, ◌||◌, ◌∙◌, ◌∷◌, ◌≡◌, ◌≢◌, ◌≤◌}
pub use Rattle.std.proofs.lemmas.Grind.{common_steps}
pub use Rattle.std.proofs.lemmas.List.Elements.{All-cons, All-nil}
pub use Rattle.sam_host.specs.Given.{AreNames, given_of}
pub use Rattle.sam_host.specs.Host.{Answer, IsVersion, PlainHost, Reply, command_name, counted, given_file, given_slots, host_checks, line_to, new_file, new_host, no_range, no_room, no_tag_left, not_opened, past_end, reply_found, reply_line, reply_to, searched_for, stamped, told_at, told_dirty, told_edits, unknown, with_file, with_files, with_given}
unfoldable pub use Rattle.sam_host.specs.Host.{answer, grown, printed, reply_check, reply_close, reply_cut, reply_dclick, reply_exit, reply_look, reply_origin, reply_paste, reply_request, reply_search, reply_send, reply_setsnarf, reply_snarf, reply_startcmdfile, reply_startfile, reply_startnewfile, reply_startsnarf, reply_type, reply_version, reply_workfile, reply_write, told_edit, told_length, told_names, told_outcome, when, when_given}
pub use Rattle.sam_host.specs.Laws.{AnswersAreCounted, AreGiven, AreNamesShort, FitInPlace, FramesFit, IsSilentWhereDone, IsSound, StartsSound, StaysSound}
pub use Rattle.sam_mesg.specs.HostKinds.{after_h, fits_h}
pub use Rattle.sam_mesg.specs.TerminalKinds.{after_t, fits_t}
pub use Rattle.sam_mesg.specs.declared.hmesg.HFrame.{HFrame}
pub use Rattle.sam_mesg.specs.declared.hmesg.Hmesg.{Hmesg}
pub use Rattle.sam_mesg.specs.declared.hmesg.Hmesg.TheVariants.{Hack, Hbindname, Hcheck, Hclean, Hclose, Hcurrent, Hcut, Hdata, Hdelname, Hdirty, Hexit, Hgrow, Hgrowdata, Hmoveto, Hmovname, Hnewname, Horigin, Hsetdot, Hsetpat, Hsetsnarf, Hsnarflen, Hunlock, Hunlockfile, Hversion}
pub use Rattle.sam_mesg.specs.declared.tmesg.Tmesg.{Tmesg}
pub use Rattle.sam_mesg.specs.declared.tmesg.Tmesg.TheVariants.{Tack, Tcheck, Tclose, Tcut, Tdclick, Texit, Tlook, Torigin, Tpaste, Trequest, Tsearch, Tsend, Tsetsnarf, Tsnarf, Tstartcmdfile, Tstartfile, Tstartnewfile, Tstartsnarf, Ttype, Tversion, Tworkfile, Twrite}
pub use Rattle.sam_runes.proofs.CheckLaws.{none_holds}
pub use Rattle.sam_runes.proofs.PlaceLaws.{InRange, prefix_within, searched_within, word_at_within}
pub use Rattle.sam_runes.proofs.SlotLaws.{put_slot-push, slot-put_same}
pub use Rattle.sam_runes.specs.Checks.{first_of_checks}
pub use Rattle.sam_runes.specs.Slots.{Slots, put_slot, slot}
pub use Rattle.sam_runes.specs.Texts.{Range, RoomyText, all_tags, as_lines, either, ends_line, ins, is_empty, last_line, last_snarf_limit, max_runes, most_count, most_in_message, most_in_name, most_in_pattern, newline, part, prefix_in_bytes, searched, snarf_limit, utf8_length}
pub use Rattle.sam_runes.specs.declared.edit.Edit.{Edit}
pub use Rattle.sam_text.proofs.OutcomeLaws.{HasShortParts, line_short, named-within}
unfoldable pub use Rattle.sam_text.specs.Files.{AreAnnounced}
pub use Rattle.sam_text.specs.Files.{AreFit, AreSoundFiles, HasShortName, IsFit, IsOutcomeOf, IsPattern, PlainFile, PlainFiles, PlainOutcome, after_print, announce_all, blank_file, committed, cut_file, file_at, first_files, has_file, has_room, may_look, opened_file, pasted_file, put_file, put_outcome, typed_file, with_work, without_file, written_file}
pub use Rattle.sam_text.specs.Meaning.{line_outcome, meaning, work_file, work_on}
