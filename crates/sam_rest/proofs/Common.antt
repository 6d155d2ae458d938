-- What the proofs of this crate cite most from the crates below.
pub use Rattle.std.proofs.Common.{Bool, Err, List, None, Ok, Option, Result, Some, [], ap, append-nil, arith, false, inl, inr, is_some, length, not, refl, subst, suc, sym, true, zero, ℕ, ◌++◌, ◌+◌, ◌<◌, ◌∙◌, ◌∷◌, ◌≡◌, ◌≤◌, ◌⊎◌}
pub use Rattle.std.proofs.lemmas.List.{map-append}
pub use Rattle.std.proofs.lemmas.Option.{same_Some}
pub use Rattle.sam_crossing.specs.RunOrder.{IsInOrder}
pub use Rattle.sam_crossing.specs.World.{PlainWorld, WasReached, after_act, after_answer, after_compose, composed_by, host_takes, mesgs, new_world, step_of, term_takes}
pub use Rattle.sam_host.specs.Host.{PlainHost, Reply, stamped}
unfoldable pub use Rattle.sam_host.specs.Host.{answer}
pub use Rattle.sam_host.specs.declared.fault.HostFault.{HostFault}
pub use Rattle.sam_mesg.specs.declared.hmesg.HFrame.{HFrame}
pub use Rattle.sam_mesg.specs.declared.hmesg.Hmesg.{Hmesg}
pub use Rattle.sam_mesg.specs.declared.tmesg.Tmesg.{Tmesg}
pub use Rattle.sam_runes.specs.Checks.{first_of_checks}
pub use Rattle.sam_runes.specs.Texts.{is_empty}
pub use Rattle.sam_term.specs.Term.{Made, PlainTerminal, act_on, decided, event_checks, event_outcome, frame_outcome, if_countable, window_at}
unfoldable pub use Rattle.sam_term.specs.Term.{act_of, flush_of, flushed, made_by_view, requested, take_of}
pub use Rattle.sam_term.specs.declared.event.Acted.{Acted}
pub use Rattle.sam_term.specs.declared.event.Acted.TheVariants.{Done}
pub use Rattle.sam_term.specs.declared.event.UserEvent.{UserEvent}
pub use Rattle.sam_term.specs.declared.event.Verdict.{Verdict}
pub use Rattle.sam_term.specs.declared.fault.TermFault.{TermFault}
pub use Rattle.sam_world.specs.Drain.{next_event}
