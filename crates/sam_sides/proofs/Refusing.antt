-- Only a full count stops an act or a flush of the terminal.
use Rattle.std.proofs.Common.{◌≡◌, List, Option, Err, arith}
use Rattle.sam_term.specs.Term.{Made, PlainTerminal, act_of, decided, flush_of}
use Rattle.sam_term.specs.declared.event.UserEvent.{UserEvent}
use Rattle.sam_term.specs.declared.event.Verdict.{Verdict}
use Rattle.sam_term.specs.declared.fault.TermFault.{TermFault}
use Rattle.sam_term.specs.declared.fault.TermFault.TheVariants as fault

pub refused_act : (t : PlainTerminal) (why : TermFault) → act_of t ≡ Err why → why ≡ fault.CountFull
unfolding act_of
refused_act t why e = grind (arith, verdict)
  where
    verdict : (v : Option Verdict) (es : List UserEvent) (made : Made) → decided v t es made ≡ Err why → why ≡ fault.CountFull
    verdict v es made e = grind arith

pub refused_flush : (t : PlainTerminal) (why : TermFault) → flush_of t ≡ Err why → why ≡ fault.CountFull
unfolding flush_of
refused_flush t why e = grind arith
