-- What the proofs of this crate cite most from its definitions and from the crates below.
pub use Rattle.std.proofs.Common.{Bool, Err, IfErr, IfOk, List, None, Ok, OnErr, OnOk, Option, Result, Some, [], add-one, ap, append-nil, append_assoc, arith, drop, eq-eqb, eqb-true, false, get_or, if◌then◌else◌, inl, inr, is_err, is_some, le-leb, length, length-append, length-drop, length-take, length-take-le, ltb-false, map, min, nat_eq, ne_eqb, not, option_map, refl, replicate, rules, set, slice_get, subst, suc, sym, take, take-append-drop, true, unwrap_or, zero, ℕ, ◌&&◌, ◌++◌, ◌+◌, ◌-◌, ◌<◌, ◌==◌, ◌||◌, ◌∙◌, ◌∷◌, ◌≡◌, ◌≢◌, ◌≤◌, ◌⊎◌}
pub use Rattle.std.proofs.Math.Seq.{drop-append_seam, take-append_seam}
pub use Rattle.std.proofs.lemmas.Grind.{common_steps}
pub use Rattle.std.proofs.lemmas.List.{length-map, length-replicate}
pub use Rattle.sam_mesg.specs.declared.hmesg.HFrame.{HFrame}
pub use Rattle.sam_mesg.specs.declared.hmesg.Hmesg.{Hmesg}
pub use Rattle.sam_mesg.specs.declared.hmesg.Hmesg.TheVariants.{Hack, Hbindname, Hcheck, Hclean, Hclose, Hcut, Hdata, Hdelname, Hdirty, Hexit, Hgrow, Hgrowdata, Hmoveto, Hmovname, Hnewname, Horigin, Hsetdot, Hunlockfile}
pub use Rattle.sam_mesg.specs.declared.tmesg.Tmesg.{Tmesg}
pub use Rattle.sam_mesg.specs.declared.tmesg.Tmesg.TheVariants.{Tack, Tcut, Tpaste, Trequest, Tsnarf}
pub use Rattle.sam_rasp.specs.Rasp.{PartialText, del_cells, hole_within, ins_cells, load_cells, place_after_del, place_after_ins}
pub use Rattle.sam_runes.proofs.CheckLaws.{if-same}
pub use Rattle.sam_runes.proofs.SlotLaws.{free_slot-set, put_slot-put_slot, put_slot-set, slot-free_other, slot-free_same, slot-map, slot-put_other, slot-put_same, slot-read, slot_given, slot_past}
pub use Rattle.sam_runes.specs.Checks.{Checks, first_of_checks}
pub use Rattle.sam_runes.specs.Slots.{Slots, free_slot, map_slots, put_slot, slot}
pub use Rattle.sam_runes.specs.Texts.{is_empty, max_runes, most_count, most_in_message}
pub use Rattle.sam_term.specs.Acting.{deed_of, first_event, is_editing, is_snarfing, is_typing}
unfoldable pub use Rattle.sam_term.specs.Acting.{free_first, made_first}
pub use Rattle.sam_term.specs.Editing.{edit_file, edit_range, edit_runes, flushed_if, joined_at, lengthened, one_if, replaced_in, shortened, shown_from, typed_file, typed_over, typed_runes}
pub use Rattle.sam_term.specs.Events.{file_of, is_command_line, lock_of, needs_open}
pub use Rattle.sam_term.specs.Fitting.{AllFit, FitsLast, all_fit, composed_in}
pub use Rattle.sam_term.specs.Locking.{awaiting, is_lockable, is_request, lock_added}
pub use Rattle.sam_term.specs.Sound.{FitsWindow, IsSound, seen}
unfoldable pub use Rattle.sam_term.specs.Sound.{FitsUnsent, IsShort}
pub use Rattle.sam_term.specs.Taking.{IsAnswer, IsFailure, not_done}
unfoldable pub use Rattle.sam_term.specs.Taking.{countable, done}
pub use Rattle.sam_term.specs.Term.{Made, PlainTerminal, act_on, all_composed, made_then, asked, composed, cut_message, cut_rasp, cuts_dot, decided, edit_messages, edited, event_checks, event_outcome, frame_outcome, freed_known, front_of, gaps_shown, has_empty_dot, has_long_text, if_countable, ins_rasp, is_any_locked, is_open, joined, joins, kept_unsent, known_at, lock_taken, moved_unsent, most_requests, put_known, put_window, rasp_at, replaced, request_for, requests_for, sends, sends_all, sends_if, set_dot_of, typed_pieces, typed_rasp, types, unchanged, unsent_message, view_end, wanted, window_after_del, window_after_ins, window_at, window_of}
unfoldable pub use Rattle.sam_term.specs.Term.{act_of, all_wanted, flush_of, flushed, made_by_cut, made_by_edit, made_by_load, made_by_paste, made_by_snarf, made_by_type, made_by_view, pieces, requested, stretches, take_of, took_bindname, took_close, took_cut, took_data, took_exit, took_grow, took_growdata, took_unlockfile}
pub use Rattle.sam_term.specs.Windows.{blank_known, blank_window, known_in, window_in}
pub use Rattle.sam_term.specs.declared.event.Acted.{Acted}
pub use Rattle.sam_term.specs.declared.event.Acted.TheVariants.{Done, Idle, Locked}
pub use Rattle.sam_term.specs.declared.event.UserEvent.{UserEvent}
pub use Rattle.sam_term.specs.declared.event.UserEvent.TheVariants.{Cut, Edit, Flush, Load, Paste, Select, SetSnarf, Snarf, Typed, View}
pub use Rattle.sam_term.specs.declared.event.Verdict.{Verdict}
pub use Rattle.sam_term.specs.declared.fault.TermFault.{TermFault}
pub use Rattle.sam_term.specs.declared.lock.Lock.{Lock}
pub use Rattle.sam_term.specs.declared.records.KnownFile.{KnownFile}
pub use Rattle.sam_term.specs.declared.records.Unsent.{Unsent}
pub use Rattle.sam_term.specs.declared.records.Window.{Window}
