-- What the proofs of this crate cite most from its definitions and from the crates below.
pub use Rattle.std.proofs.Common.{Err, IfErr, IfOk, IfSome, IsOkAnd, List, None, OnOk, Option, Result, Some, [], ap, append-nil, arith, eqb, false, inl, inr, length, map, refl, subst, sym, true, ℕ, ⊎_elim, ◌++◌, ◌<◌, ◌∙◌, ◌∷◌, ◌≡◌, ◌≢◌, ◌≤◌, ◌⊎◌}
pub use Rattle.sam_mesg.specs.declared.hmesg.HFrame.{HFrame}
pub use Rattle.sam_script.specs.Script.{PlainScript, keys_of, mouse_of}
pub use Rattle.sam_script.specs.Spelling.{IsReadFault, Spells}
pub use Rattle.sam_session.specs.Threading.{HasAllUsers, IsSessionFault, IsThreaded, IsThreadsFault, IsWoven, PrintsSession}
pub use Rattle.sam_modes.specs.Causes.{first_cause, of_cause, of_stops}
pub use Rattle.sam_session.specs.Replaying.{IsUnread}
pub use Rattle.sam_modes.specs.declared.fault.PlayFault.{PlayFault}
pub use Rattle.sam_modes.specs.declared.fault.PlayFault.TheVariants.{OutOfMemory, Read, Side, Threads, Write}
pub use Rattle.sam_ends.specs.declared.input.Input.TheVariants.{Host, User}
pub use Rattle.sam_ends.specs.declared.stop.Stop.{Stop}
pub use Rattle.std.specs.Io.KnownBytes.{Appends}
pub use Rattle.sam_modes.specs.Outcome.{Written}
