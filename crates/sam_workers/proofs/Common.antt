-- What the proofs of this crate cite most from its definitions and from the crates below.
pub use Rattle.std.proofs.Common.{All, Bool, Err, IsTrue, List, None, Ok, Option, Result, Some, [], ap, append-nil, append_assoc, arith, false, inl, inr, length, length-append, map, option_map, refl, rules, subst, sym, ℕ, ◌++◌, ◌+◌, ◌∙◌, ◌∷◌, ◌≡◌, ◌≤◌}
pub use Rattle.std.proofs.lemmas.List.{map-append}
pub use Rattle.std.proofs.lemmas.List.Concat.{flat_map-append}
pub use Rattle.std.proofs.lemmas.List.Elements.{All-nil, All-tail}
pub use Rattle.std.specs.Global.{Vec}
pub use Rattle.std.specs.Vec.Iter.{into_iter_items}
pub use Rattle.sam_frame.proofs.Cuttings.{Came, comes_more, splits_more}
pub use Rattle.sam_frame.proofs.Fronts.{stream_of-append, version_after-append}
pub use Rattle.sam_frame.proofs.Pieces.{gave_of}
pub use Rattle.sam_frame.specs.Direction.{Direction, frame_of, host, terminal}
pub use Rattle.sam_frame.specs.Faults.{fault_of}
pub use Rattle.sam_frame.specs.Framing.{Feeds, GaveUpTo, Held, fresh}
pub use Rattle.sam_frame.specs.Stream.{FitInTurn, Splits, stream_of}
pub use Rattle.sam_frame.specs.declared.fault.FeedRefusal.{FeedRefusal}
pub use Rattle.sam_host.specs.Host.{PlainHost, answer, new_host}
pub use Rattle.sam_mesg.specs.Faults.{mesg_fault_number}
pub use Rattle.sam_mesg.specs.HostKinds.{FitsH, fits_h}
pub use Rattle.sam_mesg.specs.TerminalKinds.{FitsT, after_t}
pub use Rattle.sam_mesg.specs.declared.fault.MesgFault.{MesgFault}
pub use Rattle.sam_mesg.specs.declared.hmesg.HFrame.{HFrame}
pub use Rattle.sam_mesg.specs.declared.tmesg.Tmesg.{Tmesg}
pub use Rattle.sam_mesg.specs.declared.tmesg.Tmesg.TheVariants.{Tack}
pub use Rattle.sam_queue.proofs.Sorts.{items_of-append}
pub use Rattle.sam_queue.specs.History.{IsEnded, StartsWith, items_of}
pub use Rattle.sam_queue.specs.Views.{LineView, PostView, TakeView, TakesNext, closed_post, new_post, new_take, with_item}
pub use Rattle.sam_queue.specs.declared.rule.Entry.{Entry}
pub use Rattle.sam_term.specs.Term.{Made, PlainTerminal, frame_outcome, made_unless, sends, sends_if, unchanged}
unfoldable pub use Rattle.sam_term.specs.Term.{flushed, requested, take_of}
pub use Rattle.sam_term.specs.declared.fault.TermFault.{TermFault}
pub use Rattle.sam_ends.specs.Cutting.{PutSome}
pub use Rattle.sam_workers.specs.Feeding.{FeedsTerminal, Gives, TakesAll, TakesOne, TakesUpTo}
pub use Rattle.sam_workers.specs.Handling.{Calls, Causes, Halts, IsGoing, IsQuiet, Serves, StepsDown, TakesPiece, stop_of, to_do}
pub use Rattle.sam_ends.specs.Inputs.{bytes_of}
pub use Rattle.sam_ends.specs.Numbers.{of_fault, of_unfed}
pub use Rattle.sam_workers.specs.Passing.{Passes, PassesPiece, Sends, sent_on}
pub use Rattle.sam_sides.specs.RealSides.{sides}
pub use Rattle.sam_ends.specs.WorkerEnds.{HostStopped, HostTold, ReaderTold}
pub use Rattle.sam_ends.specs.declared.input.Input.{Input}
pub use Rattle.sam_ends.specs.declared.stop.Stop.{Stop}
pub use Rattle.sam_sides.specs.Sides.{Each}
