-- What the proofs of this crate cite most from its definitions and from the crates below.
pub use Rattle.std.proofs.Common.{All, Bool, Err, List, MatchBool, None, Ok, Option, Result, Some, [], ap, append-nil, append_assoc, arith, drop, false, inl, inr, is_some, length, length-append, refl, rules, subst, sym, true, ℕ, ◌++◌, ◌+◌, ◌<◌, ◌∙◌, ◌∷◌, ◌≡◌, ◌≤◌, ◌⊎◌}
pub use Rattle.std.proofs.lemmas.List.Concat.{flat_map-append}
pub use Rattle.std.proofs.lemmas.List.Elements.{All-head, All-tail}
pub use Rattle.std.specs.Global.{Vec}
pub use Rattle.sam_frame.proofs.Fronts.{stream_of-append}
pub use Rattle.sam_frame.specs.Direction.{terminal}
pub use Rattle.sam_frame.specs.Stream.{stream_of}
pub use Rattle.sam_mesg.specs.TerminalKinds.{FitsT}
pub use Rattle.sam_mesg.specs.declared.hmesg.HFrame.{HFrame}
pub use Rattle.sam_mesg.specs.declared.tmesg.Tmesg.{Tmesg}
pub use Rattle.sam_queue.specs.History.{IsEnded, has_left, has_mark, loads}
pub use Rattle.sam_queue.specs.Views.{Answers, CanBeFull, PostView, TakeView, TakesNext, closed_post, new_post, new_take, with_item}
pub use Rattle.sam_queue.specs.declared.rule.Entry.{Entry}
pub use Rattle.sam_term.specs.Term.{PlainTerminal, flush_of, new_terminal}
unfoldable pub use Rattle.sam_term.specs.Term.{act_of, take_of}
pub use Rattle.sam_term.specs.declared.event.UserEvent.{UserEvent}
pub use Rattle.sam_term.specs.declared.event.UserEvent.TheVariants.{Exit}
pub use Rattle.sam_ends.specs.Cutting.{PutSome}
pub use Rattle.sam_ends.specs.Inputs.{frame_of_load, frames_in, user_of_load, users_in}
pub use Rattle.sam_sides.specs.RealSides.{at_work}
pub use Rattle.sam_term_worker.specs.TermMoments.{CanGoOn, Did, Goes, Handled, IsDone, IsFound, IsLocked, IsNextPiece, IsOfUser, IsPutOn, IsQuiet, IsStill, LoggedView, MayExit, Ran, SideView, SoFar, Took, WasNotHandled, WentOn, bytes_left, of_bring_fault, of_end_fault}
pub use Rattle.sam_ends.specs.WorkerEnds.{TermTold}
pub use Rattle.sam_ends.specs.declared.input.Input.{Input}
pub use Rattle.sam_ends.specs.declared.stop.Stop.{Stop}
pub use Rattle.sam_sides.proofs.Growing.{each_append, term_more}
pub use Rattle.sam_sides.specs.Sides.{Each, TermRuns}
pub use Rattle.sam_sides.specs.declared.log.TermLog.{TermLog}
