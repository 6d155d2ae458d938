-- What the proofs of this crate cite most from its definitions and from the crates below.
pub use Rattle.std.proofs.Common.{Bool, IfSome, List, None, Ok, Option, Result, Some, [], ap, append-nil, append_assoc, arith, drop, eq-eqb, eqb-true, false, flat_map, if◌then◌else◌, inl, inr, is_some, le-leb, le-ltb, leb-true, length, length-append, length-drop, length-take, length-take-le, ltb-false, map, min, nat_le, nat_lt, not, option_map, refl, replicate, reverse, rules, subst, suc, sym, take, take-append-drop, take_all, true, true≢false, unwrap_or, zero, ℕ, ◌&&◌, ◌++◌, ◌+◌, ◌-◌, ◌<◌, ◌==◌, ◌||◌, ◌∙◌, ◌∷◌, ◌≡◌, ◌≢◌, ◌≤◌, ◌⊎◌}
pub use Rattle.std.proofs.lemmas.Bool.{and_parts, cases_Bool, not-false, or_cases, or_left, or_parts}
pub use Rattle.std.proofs.lemmas.Grind.{common_steps}
pub use Rattle.std.proofs.lemmas.List.{drop_all, drop_min, length-map, map-append, take_min}
pub use Rattle.std.proofs.lemmas.Option.{same_Some}
pub use Rattle.sam_host.proofs.SoundLaws.{reply_fits, reply_stands, starts_sound}
pub use Rattle.sam_host.specs.Host.{PlainHost, Reply, counted, given_slots, host_checks, is_command, new_host, no_range, no_room, no_tag_left, not_opened, past_end, reply_found, reply_line, reply_to, stamped, unknown, with_file, with_files}
unfoldable pub use Rattle.sam_host.specs.Host.{answer, grown, printed, reply_check, reply_close, reply_cut, reply_dclick, reply_exit, reply_look, reply_origin, reply_paste, reply_request, reply_search, reply_send, reply_setsnarf, reply_snarf, reply_startcmdfile, reply_startfile, reply_startnewfile, reply_startsnarf, reply_type, reply_version, reply_workfile, reply_write, told_edit, told_length, told_names, told_outcome, when, when_given}
pub use Rattle.sam_host.specs.declared.fault.HostFault.{HostFault}
pub use Rattle.sam_host.specs.declared.fault.HostFault.TheVariants.{BadPosition, NoFile, NotOpen, TooLong}
pub use Rattle.sam_mesg.specs.declared.hmesg.Hmesg.{Hmesg}
pub use Rattle.sam_mesg.specs.declared.hmesg.Hmesg.TheVariants.{Hack, Hbindname, Hcheck, Hclean, Hclose, Hcurrent, Hcut, Hdata, Hdelname, Hdirty, Hexit, Hgrow, Hgrowdata, Hmoveto, Hmovname, Hnewname, Horigin, Hsetdot, Hsetpat, Hunlock, Hunlockfile, Hversion}
pub use Rattle.sam_mesg.specs.declared.tmesg.Tmesg.{Tmesg}
pub use Rattle.sam_mesg.specs.declared.tmesg.Tmesg.TheVariants.{Tack, Tcheck, Tclose, Tcut, Tdclick, Texit, Tlook, Torigin, Tpaste, Trequest, Tsearch, Tsend, Tsetsnarf, Tsnarf, Tstartcmdfile, Tstartfile, Tstartnewfile, Tstartsnarf, Ttype, Tversion, Tworkfile, Twrite}
pub use Rattle.sam_crossing.specs.Fold.{AllComeToSync, answers, replied_then, reply_of}
pub use Rattle.sam_crossing.specs.Frames.{VersionsGuarded, action, at_file, is_unlock, is_version, only, unlocks_command}
pub use Rattle.sam_crossing.specs.Lens.{Absent, Action, Anything, Bind, Change, Close, Cut, Exit, Fill, Fits_slot, Free_command, Free_file, Gone, Grow, HFile, Hidden, Insert, IsCommandFile, IsGuarded, IsOpened, IsSynced, Join, Known, Leave, Lens, Named, Needs_known, Needs_open, Open, OpenAt, Opened, Place, ComesToSync, Skip, Slot, Unknown, closes, frees, is_close, is_crossing, is_freeing, lens, move, run}
pub use Rattle.sam_crossing.specs.Order.{AreTidy, InOrder, IsHeldBack, IsTidyWindow, views}
pub use Rattle.sam_crossing.specs.Steady.{AllOpenAnnounced, HasFiles, IsSteady, OpenAnnounced}
pub use Rattle.sam_crossing.specs.View.{Moves, NoneRefuses, effect, file_in, file_of, file_of_slot, slot_of_window, view}
pub use Rattle.sam_rasp.proofs.RaspLaws.{agrees_grown, agrees_loaded, agrees_removed, agrees_typed, length_agrees}
pub use Rattle.sam_rasp.specs.Rasp.{Agrees, PartialText, del_cells, ins_cells, load_cells, place_after_del, place_after_ins}
pub use Rattle.sam_runes.proofs.EditLaws.{del-nothing, edits_fit, last_first_is_at_once, length-del, length-ins}
pub use Rattle.sam_runes.proofs.PlaceLaws.{InRange, ends_line-append, lines_before_within, searched_within, word_at_within}
pub use Rattle.sam_runes.proofs.SlotLaws.{length-free_slot, length-map_slots, length-put_slot, put_slot-push, put_slot-put_slot, slot-free_other, slot-free_same, slot-map, slot-put_other, slot-put_same, slot_given, slot_past}
pub use Rattle.sam_runes.specs.Checks.{Checks, first_of_checks}
pub use Rattle.sam_runes.specs.Slots.{Slots, free_slot, put_slot, slot}
pub use Rattle.sam_runes.specs.Texts.{Range, as_lines, common_version, del, ends_line, ins, is_empty, last_line, line_start, max_runes, most_count, most_in_message, part, searched}
pub use Rattle.sam_term.specs.Events.{is_bad_version, is_command_line, is_for_command_file, lock_of, needs_open, waits_for_all}
pub use Rattle.sam_term.specs.Term.{Made, PlainTerminal, all_composed, composed, cut_message, cut_rasp, cuts_dot, del_rasp, edit_messages, edited, event_checks, event_outcome, frame_checks, frame_outcome, gaps_shown, has_bad_place, has_empty_dot, ins_rasp, is_any_locked, is_closed, is_file_locked, is_known, is_open, is_unknown, joined, joins, known_at, makes_too_long, moved_unsent, new_terminal, put_known, put_window, replaced, requests_for, sends, sends_all, typed_pieces, typed_rasp, types, unchanged, unsent_message, window_after_del, window_after_ins, window_at, window_of}
unfoldable pub use Rattle.sam_term.specs.Term.{all_wanted, flushed, made_by_cut, made_by_edit, made_by_load, made_by_paste, made_by_snarf, made_by_type, made_by_view, pieces, requested, took_bindname, took_close, took_cut, took_data, took_exit, took_grow, took_growdata, took_unlockfile}
pub use Rattle.sam_term.specs.Windows.{blank_known, blank_window, window_in}
pub use Rattle.sam_term.specs.declared.event.UserEvent.{UserEvent}
pub use Rattle.sam_term.specs.declared.fault.TermFault.{TermFault}
pub use Rattle.sam_term.specs.declared.lock.Lock.{Lock}
pub use Rattle.sam_term.specs.declared.lock.Lock.TheVariants.{CommandLock, FileLock, NoLock}
pub use Rattle.sam_term.specs.declared.records.KnownFile.{KnownFile}
pub use Rattle.sam_term.specs.declared.records.Unsent.{Unsent}
pub use Rattle.sam_term.specs.declared.records.Window.{Window}
pub use Rattle.sam_text.specs.Files.{AreFit, PlainFile, PlainFiles, PlainOutcome, after_print, announce_all, announced_file, blank_file, command_name, committed, cut_file, file_after, file_at, has_file, has_room, is_printed, may_look, new_file, pasted_file, printed_file, put_file, put_outcome, searched_for, typed_file}
