-- What the proofs of this crate cite most from its definitions and from the crates below.
pub use Rattle.std.proofs.Common.{Bool, Err, IsTrue, IsUtf8, List, None, Ok, Option, Result, Some, [], ap, append-nil, append_assoc, arith, chars, drop, drop-cons, encode_utf8_all, false, flat_map, get_or, get_or-drop, if◌then◌else◌, inl, inr, length, length-append, length-drop, length-set, length-take, map, option_copied, option_map, refl, rules, set, slice_get, subst, suc, sym, take, take-append-drop, true, ℕ, ◌++◌, ◌+◌, ◌-◌, ◌<◌, ◌∙◌, ◌∷◌, ◌≡◌, ◌≤◌, ◌⊎◌}
pub use Rattle.std.proofs.lemmas.Grind.{common_steps, flat_map-append}
pub use Rattle.std.proofs.lemmas.List.Elements.{All-append, All-cons, All-nil, All-same, All-tail}
pub use Rattle.std.proofs.lemmas.Str.{IsUtf8-from_is_utf8, chars_from_encodes, is_utf8-from_IsUtf8}
pub use Rattle.sam_endpoint.specs.Changes.{act_touch, frame_touch, kept_acted, kept_after, kept_received, left_by}
pub use Rattle.sam_endpoint.specs.Drawing.{Copies, Shows, drawn}
pub use Rattle.sam_endpoint.specs.HostEndpoints.{Answers, Feeds, FeedsAfter, GoesOn, IsIdle, PlainHostEndpoint, Serves, TakesIn, add_checks, with_file, writes_of}
pub use Rattle.sam_endpoint.specs.HostSteps.{Answer, AnswersFirst, IsSound, Writes}
pub use Rattle.sam_endpoint.specs.Streams.{FitFrames, FitMessages, Gives, mesg_fault}
pub use Rattle.sam_endpoint.specs.TermEndpoints.{Acts, Calls, FeedsIdle, Flushes, FlushesIdle, IsDecided, Moves, PlainTermEndpoint, PutsIdle, last_stamp, oldest, refusals_from, shown}
pub use Rattle.sam_endpoint.specs.TermSteps.{ActsAll, ActsFirst, Composes, Gains, Receives, ReceivesAll, ReceivesFirst, Resumes, Tries, stopped_by, written}
pub use Rattle.sam_endpoint.specs.declared.fault.EndpointFault.{EndpointFault}
pub use Rattle.sam_endpoint.specs.declared.fault.HostStop.{HostStop}
pub use Rattle.sam_endpoint.specs.declared.fault.StreamFault.{StreamFault}
pub use Rattle.sam_endpoint.specs.declared.fault.TermStop.{TermStop}
pub use Rattle.sam_frame.proofs.Fronts.{Splits-then, stream_of-append, version_after-append}
pub use Rattle.sam_frame.specs.Direction.{host, terminal}
pub use Rattle.sam_frame.specs.Framing.{Held}
pub use Rattle.sam_frame.specs.Stream.{CanEncode, FitInTurn, Splits, stream_of, version_after}
pub use Rattle.sam_host.specs.Host.{PlainHost, answer, with_given}
pub use Rattle.sam_host.specs.Laws.{FitInPlace}
pub use Rattle.sam_mesg.specs.HostKinds.{FitsH, fits_h}
pub use Rattle.sam_mesg.specs.TerminalKinds.{FitsT}
pub use Rattle.sam_mesg.specs.declared.hmesg.HFrame.{HFrame}
pub use Rattle.sam_mesg.specs.declared.tmesg.Tmesg.{Tmesg}
pub use Rattle.sam_rasp.proofs.SectionLaws.{length-cells}
pub use Rattle.sam_rasp.specs.Sections.{cells}
pub use Rattle.sam_term.proofs.ActLaws.{idle_still, locked_still}
unfoldable pub use Rattle.sam_term.proofs.ActLaws.{acted_in, term_in}
pub use Rattle.sam_term.specs.Fitting.{AllFit, FitsLast, composed_in}
pub use Rattle.sam_term.specs.Term.{Made, PlainTerminal, act_on, all_composed, composed, decided, edit_messages, event_outcome, flushed, frame_outcome, if_countable, replaced, sends, sends_all, sends_if, unchanged, wanted}
unfoldable pub use Rattle.sam_term.specs.Term.{act_of, all_wanted, flush_of, made_by_cut, made_by_edit, made_by_load, made_by_paste, made_by_snarf, made_by_type, made_by_view, requested, take_of, took_bindname, took_close, took_cut, took_data, took_exit, took_grow, took_growdata, took_unlockfile}
pub use Rattle.sam_term.specs.declared.event.Acted.{Acted}
pub use Rattle.sam_term.specs.declared.event.Acted.TheVariants.{Done, Idle, Locked, Refused}
pub use Rattle.sam_term.specs.declared.event.UserEvent.{UserEvent}
pub use Rattle.sam_term.specs.declared.event.Verdict.{Verdict}
