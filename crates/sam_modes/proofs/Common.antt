-- What the proofs of this crate cite most from its definitions and from the crates below.
pub use Rattle.std.proofs.Common.{Bool, Err, IfErr, IfSome, List, None, Ok, OnOk, Option, Result, Some, [], ap, append-nil, append_assoc, ap₂, arith, cond, drop, false, flat_map, inl, inr, length, length-append, length-take, map, ne_eqb, refl, rules, slice_index, string_bytes, subst, sym, take, true, ℕ, ◌++◌, ◌+◌, ◌-◌, ◌||◌, ◌∙◌, ◌∷◌, ◌≡◌, ◌≤◌}
pub use Rattle.std.proofs.KnownBytes.{Appends-nil, Appends-trans, Consumes-nil, Consumes-trans, Consumes-whole}
pub use Rattle.std.proofs.lemmas.Result.{IfOk-weaker, err_from_is_err_and}
pub use Rattle.std.specs.Io.KnownBytes.{Appends, Consumes, IsAtEnd}
pub use Rattle.clap.proofs.WalkLemmas.{first_value-rows}
pub use Rattle.clap.specs.Words.{App, Shape, is_simple, subcommand_of, subcommand_rows_of, with_rule, with_subcommand}
pub use Rattle.sam_frame.specs.Direction.{terminal}
pub use Rattle.sam_frame.specs.Stream.{version_after}
pub use Rattle.sam_host.specs.Host.{Answer, PlainHost, answer}
pub use Rattle.sam_host.specs.declared.fault.HostFault.{HostFault}
pub use Rattle.sam_mesg.specs.declared.hmesg.HFrame.{HFrame}
pub use Rattle.sam_mesg.specs.declared.tmesg.Tmesg.{Tmesg}
pub use Rattle.sam_host.specs.Faults.{host_fault_number}
pub use Rattle.sam_modes.specs.Outcome.{OnSide, Plays, Stops, Written, stop_at}
pub use Rattle.sam_modes.specs.Pieces.{Answers, MayEnd, StopsAt, of_host_stop}
pub use Rattle.sam_modes.specs.Serving.{Served, after_output, serve, served_on}
pub use Rattle.sam_modes.specs.Causes.{first_cause}
pub use Rattle.sam_modes.specs.Words.{HoldsMode, attached, attached_from, program}
pub use Rattle.sam_modes.specs.declared.fault.PlayFault.{PlayFault}
pub use Rattle.sam_ends.specs.declared.stop.Stop.{Stop}
pub use Rattle.sam_ends.specs.declared.stop.Stop.TheVariants.{Frame}
