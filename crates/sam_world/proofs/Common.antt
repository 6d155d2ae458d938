-- What the proofs of this crate cite most from its definitions and from the crates below.
pub use Rattle.std.proofs.Common.{All, Bool, Err, IsTrue, List, None, Ok, Option, Result, Some, [], ap, append-nil, append_assoc, arith, codes, drop, eqb-true, false, flat_map, if◌then◌else◌, inl, inr, is_some, length, length-append, map, max, min, nat_lt, not, option_and_then, option_copied, refl, replicate, reverse, slice_index_or, subst, suc, sym, take, take-append-drop, take_all, true, unwrap_or, vec_capacity, zero, ℕ, ◌++◌, ◌+◌, ◌-◌, ◌<◌, ◌==◌, ◌∙◌, ◌∷◌, ◌≡◌, ◌≤◌, ◌⊎◌}
pub use Rattle.std.proofs.lemmas.List.{append_cancel_left, drop_all, nil_from_length}
pub use Rattle.std.proofs.lemmas.List.Elements.{All-append, All-head, All-tail}
pub use Rattle.std.proofs.lemmas.Option.{same_Some}
pub use Rattle.std.specs.Vec.Iter.{into_iter_items}
pub use Rattle.sam_host.proofs.EachFrame.{Command, EachFrame, File, Freed, IsTold, Nothing, end_frames, lock_freed, reply_ends}
unfoldable pub use Rattle.sam_host.proofs.EachFrame.{replies_opened}
pub use Rattle.sam_host.proofs.SoundLaws.{answer_is, frames_fit, of_answer, starts_sound, stays_sound}
pub use Rattle.sam_host.specs.Given.{AreNames, given_of}
pub use Rattle.sam_host.specs.Host.{PlainHost, Reply, announce_all, command_name, host_checks, no_tag_left, reply_found, reply_line, reply_to, with_file}
unfoldable pub use Rattle.sam_host.specs.Host.{answer, grown, printed, reply_check, reply_close, reply_cut, reply_dclick, reply_exit, reply_look, reply_origin, reply_paste, reply_request, reply_search, reply_send, reply_setsnarf, reply_snarf, reply_startcmdfile, reply_startfile, reply_startnewfile, reply_startsnarf, reply_type, reply_version, reply_workfile, reply_write, told_edit, told_length, told_names, told_outcome, when, when_given}
pub use Rattle.sam_host.specs.Laws.{AreGiven, IsSound}
pub use Rattle.sam_host.specs.declared.fault.HostFault.{HostFault}
pub use Rattle.sam_mesg.specs.HostKinds.{fits_h}
pub use Rattle.sam_mesg.specs.declared.hmesg.HFrame.{HFrame}
pub use Rattle.sam_mesg.specs.declared.hmesg.Hmesg.{Hmesg}
pub use Rattle.sam_mesg.specs.declared.hmesg.Hmesg.TheVariants.{Hbindname, Hcheck, Hclose, Hcurrent, Hcut, Hdata, Hdelname, Hexit, Hgrow, Hgrowdata, Hmovname, Hnewname, Hsetdot, Hsetpat, Hsnarflen, Hunlock, Hunlockfile, Hversion}
pub use Rattle.sam_mesg.specs.declared.tmesg.Tmesg.{Tmesg}
pub use Rattle.sam_mesg.specs.declared.tmesg.Tmesg.TheVariants.{Tack, Tcheck, Tclose, Tcut, Tdclick, Tlook, Tpaste, Trequest, Tsearch, Tsend, Tsetsnarf, Tsnarf, Tstartcmdfile, Tstartfile, Tstartnewfile, Tstartsnarf, Ttype, Tversion, Tworkfile, Twrite}
pub use Rattle.sam_rasp.specs.Rasp.{Agrees, PartialText, load_cells}
pub use Rattle.sam_runes.proofs.SlotLaws.{slot-free_other, slot-free_same, slot-map, slot-put_other, slot-put_same, slot_given}
pub use Rattle.sam_runes.specs.Checks.{first_of_checks}
pub use Rattle.sam_runes.specs.Texts.{Range, RoomyText, common_version, del, ins, is_empty, most_in_name}
pub use Rattle.sam_term.specs.Term.{PlainTerminal, new_terminal, put_known, window_at}
unfoldable pub use Rattle.sam_term.specs.Term.{act_of, all_wanted, flush_of, flushed, made_by_cut, made_by_edit, made_by_load, made_by_paste, made_by_snarf, made_by_type, made_by_view, pieces, requested, stretches, take_of, took_bindname, took_close, took_cut, took_data, took_exit, took_grow, took_growdata, took_unlockfile}
pub use Rattle.sam_term.specs.Windows.{blank_known, blank_window}
pub use Rattle.sam_term.specs.declared.event.Acted.{Acted}
pub use Rattle.sam_term.specs.declared.event.Acted.TheVariants.{Done, Locked, Refused}
pub use Rattle.sam_term.specs.declared.event.UserEvent.{UserEvent}
pub use Rattle.sam_term.specs.declared.event.UserEvent.TheVariants.{Check, Close, Cut, Edit, Exit, Load, Look, New, Open, OpenCmd, Paste, Select, SetSnarf, Typed, Version, View}
pub use Rattle.sam_term.specs.declared.fault.TermFault.{TermFault}
pub use Rattle.sam_term.specs.declared.lock.Lock.{Lock}
pub use Rattle.sam_term.specs.declared.lock.Lock.TheVariants.{CommandLock, FileLock, NoLock}
pub use Rattle.sam_text.specs.Files.{AreFit, IsFit, PlainFile, PlainFiles, PlainOutcome, after_print, blank_file, committed, file_at, opened_file, printed_file, put_file, put_outcome, typed_file}
pub use Rattle.sam_text.specs.Meaning.{meaning, work_on}
unfoldable pub use Rattle.sam_text.specs.Meaning.{line_outcome}
pub use Rattle.sam_world.specs.Faults.{Advances, HasMade, IsDrainedUpTo, IsFaultOf, IsNextFault}
pub use Rattle.sam_world.specs.Given.{AreShort, IsFile}
pub use Rattle.sam_crossing.specs.RunOrder.{IsCountable, IsInOrder}
pub use Rattle.sam_crossing.specs.World.{WasReached, IsAhead, PlainWorld, after_act, after_answer, after_compose, composed_by, host_takes, new_world, run_of, step_of, term_takes}
pub use Rattle.sam_world.specs.Reached.{IsSoundWorld}
pub use Rattle.sam_world.specs.Sides.{Counts, Each, HostRuns, Steps, TermRuns, run, world}
pub use Rattle.sam_world.specs.Telling.{AddedFilesKeepWorkOpen, RepliesFree, RepliesFreeLast, AnswersKeepWorkOpen, RepliesTell, IsWorkOpen, has_reply, text_in}
pub use Rattle.sam_world.specs.UnderWay.{AreFilled, head, joined}
pub use Rattle.sam_world.specs.Drain.{acts, drain_limit, drained, next_event}
pub use Rattle.sam_world.specs.Merging.{is_bad_log, merged, merged_from}
pub use Rattle.sam_crossing.specs.declared.event.Event.{Event}
pub use Rattle.sam_crossing.specs.declared.event.Event.TheVariants.{Act, Add, Flush, HostTake, Mark, TermTake, User}
pub use Rattle.sam_world.specs.declared.event.StepFault.TheVariants.{CountFull, Barred, NothingThere, OutOfMemory}
