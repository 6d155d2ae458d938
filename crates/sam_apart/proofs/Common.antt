-- What the proofs of this crate cite most from its definitions and from the crates below.
pub use Rattle.std.proofs.Common.{Bool, Err, List, None, Ok, Option, Result, Some, [], ap, append-nil, append_assoc, arith, drop, false, if◌then◌else◌, le-ltb, length, map, refl, subst, suc, sym, true, ℕ, ◌++◌, ◌+◌, ◌==◌, ◌∙◌, ◌∷◌, ◌≡◌, ◌≤◌}
pub use Rattle.std.proofs.lemmas.Bool.{or_from}
pub use Rattle.std.proofs.lemmas.List.{append_cancel_left}
pub use Rattle.std.proofs.lemmas.Option.{same_Some}
pub use Rattle.sam_frame.proofs.Fronts.{stream_of-append, stream_of-one, version_after-append}
pub use Rattle.sam_frame.specs.Direction.{Direction, frame_of, host, terminal}
pub use Rattle.sam_frame.specs.Stream.{FitInTurn, IsOpen, Shows, stream_of, version_after}
pub use Rattle.sam_host.proofs.SoundLaws.{frames_fit, reply_stands, starts_sound, stays_sound}
pub use Rattle.sam_host.specs.Host.{PlainHost, Reply, host_checks, new_host, reply_to, stamped, told_names, with_given}
unfoldable pub use Rattle.sam_host.specs.Host.{answer, reply_version}
pub use Rattle.sam_host.specs.Laws.{FitInPlace, IsSound}
pub use Rattle.sam_host.specs.declared.fault.HostFault.{HostFault}
pub use Rattle.sam_mesg.specs.HostKinds.{FitsH, after_h}
pub use Rattle.sam_mesg.specs.TerminalKinds.{FitsT, after_t, fits_t}
pub use Rattle.sam_mesg.specs.declared.fault.MesgFault.{MesgFault}
pub use Rattle.sam_mesg.specs.declared.hmesg.HFrame.{HFrame}
pub use Rattle.sam_mesg.specs.declared.tmesg.Tmesg.{Tmesg}
pub use Rattle.sam_mesg.specs.declared.tmesg.Tmesg.TheVariants.{Tsetsnarf}
pub use Rattle.sam_term.specs.Term.{Made, PlainTerminal, act_on, decided, event_checks, event_outcome, gaps_shown, has_long_text, new_terminal, request_for, requests_for, sends, sends_all, sends_if, unchanged, unsent_message}
unfoldable pub use Rattle.sam_term.specs.Term.{act_of, all_wanted, flush_of, flushed, made_by_cut, made_by_edit, made_by_load, made_by_paste, made_by_snarf, made_by_type, made_by_view, requested, take_of}
pub use Rattle.sam_term.specs.declared.event.Acted.{Acted}
pub use Rattle.sam_term.specs.declared.event.UserEvent.{UserEvent}
pub use Rattle.sam_term.specs.declared.fault.TermFault.{TermFault}
pub use Rattle.sam_sides.specs.RealSides.{acted, sides, unless_refused}
pub use Rattle.sam_apart.specs.Apart.{Apart, Asides, HostRunsWith, Joined, Understood, after_aside, aside_frames, asides_in, joined_in, marked_in, may_do, without_asides}
pub use Rattle.sam_host.specs.Asides.{Aside, Joins, Marks}
pub use Rattle.sam_crossing.proofs.OrderLaws.{host_never_refuses, reached_in_order, starts_in_order, steps_in_order, terminal_never_refuses, version_at_its_place}
pub use Rattle.sam_world.proofs.ComesToSync.{FitsUnder, each_append, fits, settles, users_merged_from}
pub use Rattle.sam_crossing.specs.RunOrder.{IsInOrder}
pub use Rattle.sam_crossing.specs.Joining.{may_join}
pub use Rattle.sam_crossing.specs.World.{mesgs, PlainWorld, after_answer, composed_by, host_takes, joined_files, run_of, step_of, user_events}
pub use Rattle.sam_world.specs.Sides.{Counts, Each, HostRuns, Steps, TermRuns, World, if_given, answered, composed, host_take, run, step, term_take, world}
pub use Rattle.sam_world.specs.Prefixes.{Begins}
pub use Rattle.sam_world.specs.Merging.{is_bad_log, merged}
pub use Rattle.sam_crossing.specs.declared.event.Event.{Event}
pub use Rattle.sam_sides.specs.declared.log.TermLog.{TermLog}
