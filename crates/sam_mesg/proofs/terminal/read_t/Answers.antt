use Rattle.std.proofs.Common.{List, ℕ, Option, arith, length, inl, inr, ap, option_and_then}
use Rattle.std.proofs.lemmas.Bool.{cases_lt}
use Rattle.sam_mesg.specs.TerminalKinds.{readers_t}
use Rattle.sam_mesg.specs.declared.tmesg.Tmesg.{Tmesg}
use Rattle.sam_mesg.proofs.Shapes.{entry_none}
use Rattle.sam_mesg.proofs.terminal.read_t.Goals as goal

pub returns-in_default : goal.returns-in_default
returns-in_default c =
    let readers = readers_t c.args.version in
    ap (option_and_then (λ (read : List ℕ → Option Tmesg). read c.args.body.now)) (entry_none 1 readers c.args.kind (elim (cases_lt c.args.kind 1) [
      | inl before ↦ inl before
      | inr from ↦ elim (cases_lt (length readers) c.args.kind) [ inl past ↦ inr (omega arith) | inr within ↦ absurd (omega arith) ]
    ]))
