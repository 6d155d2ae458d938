-- What the proofs of this crate cite most from its definitions and from the crates below.
pub use Rattle.std.proofs.Common.{Err, IsTrue, List, None, Option, Some, Vec, [], ap, append-nil, append_assoc, arith, eqb-true, false, inl, inr, length, length-append, map, refl, slice_get, subst, suc, sum_by, sym, take, true, zero, ℕ, ◌++◌, ◌+◌, ◌<◌, ◌==◌, ◌^◌, ◌∙◌, ◌∷◌, ◌≡◌, ◌≢◌, ◌≤◌, ◌⊎◌}
pub use Rattle.std.proofs.lemmas.List.{append_cancel_left, map-append, nil_from_length}
pub use Rattle.std.proofs.lemmas.Option.{same_Some, slice_get_cases}
pub use Rattle.std.specs.Global.{Global}
pub use Rattle.sam_frame.specs.Direction.{frame_of, host, terminal}
pub use Rattle.sam_frame.specs.Stream.{Shows, stream_of, version_after}
unfoldable pub use Rattle.sam_host.specs.Host.{answer}
pub use Rattle.sam_host.specs.Laws.{AreGiven}
pub use Rattle.sam_host.specs.declared.fault.HostFault.{HostFault}
pub use Rattle.sam_mesg.specs.HostKinds.{FitsH, fits_h}
pub use Rattle.sam_mesg.specs.TerminalKinds.{FitsT, fits_t}
pub use Rattle.sam_mesg.specs.declared.fault.MesgFault.{MesgFault}
pub use Rattle.sam_mesg.specs.declared.hmesg.HFrame.{HFrame}
pub use Rattle.sam_mesg.specs.declared.tmesg.Tmesg.{Tmesg}
pub use Rattle.sam_queue.specs.History.{all_of, has_left, items_of, loads}
pub use Rattle.sam_queue.specs.Views.{PostView, TakeView}
pub use Rattle.sam_queue.specs.declared.rule.Entry.{Entry}
pub use Rattle.sam_apart.specs.Apart.{Apart, Joined, Understood}
pub use Rattle.sam_settle.specs.Headline.{Gives, Headline}
pub use Rattle.sam_settle.specs.Settled.{AreFull, HasStreams, HasUsers, IsDrained, IsFull, IsWhole, MissesHost, count_gone, counts_left, left_in, left_of, as_list, stops_of}
pub use Rattle.sam_settle.specs.Settling.{ComesTo, IsReady, IsScheduled, IsSource, LinesGive, schedule_from, world_from}
pub use Rattle.sam_settle.specs.declared.settled.Settled.{Settled}
pub use Rattle.sam_term.specs.Term.{new_terminal}
pub use Rattle.sam_term.specs.declared.event.UserEvent.{UserEvent}
pub use Rattle.sam_apart.proofs.ApartTurns.{each_h}
pub use Rattle.sam_ends.specs.Inputs.{bytes_of, frame_of_load, frames_in}
pub use Rattle.sam_ends.specs.WorkerEnds.{AreEnds, HostStopped, IsForeign, IsFullUp, ReaderStopped, RefusesFrame, TermStopped, Told}
pub use Rattle.sam_ends.specs.declared.ends.Ends.{Ends}
pub use Rattle.sam_ends.specs.declared.input.Input.{Input}
pub use Rattle.sam_ends.specs.declared.input.Input.TheVariants.{Host, User}
pub use Rattle.sam_crossing.proofs.OrderLaws.{quiet_means_agreement, reached_in_order}
pub use Rattle.sam_world.proofs.ComesToSync.{each_append, each_front}
pub use Rattle.sam_crossing.specs.World.{PlainWorld, new_world, run_of, step_of}
pub use Rattle.sam_world.specs.Reached.{IsSoundWorld}
pub use Rattle.sam_world.specs.Sides.{Each}
pub use Rattle.sam_world.specs.Merging.{merged}
pub use Rattle.sam_crossing.specs.declared.event.Event.{Event}
