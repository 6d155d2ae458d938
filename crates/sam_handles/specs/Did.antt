-- What a step did, in numbers.
use Rattle.std.specs.Prelude.{◌==◌, ℕ, Bool, false, [], Option, Some, None, Result, Ok, Err}
use Rattle.sam_mesg.specs.HostKinds.{kind_h}
use Rattle.sam_mesg.specs.declared.hmesg.Hmesg.TheVariants.{Hdata}
use Rattle.sam_endpoint.specs.declared.step.HostStep.{HostStep}
use Rattle.sam_endpoint.specs.declared.step.HostStep.TheVariants as host
use Rattle.sam_endpoint.specs.declared.step.TermStep.{TermStep}
use Rattle.sam_endpoint.specs.declared.step.TermStep.TheVariants as term
use Rattle.sam_handles.specs.Status.{refusal_status}
use Rattle.sam_handles.specs.declared.did.SamDid.{SamDid}

-- a step of this number that says no more
abbrev pub did_nothing : ℕ → SamDid
did_nothing step =
    record {
      event = 0;
      request = 0;
      count = 0;
      step = step;
      why = 0;
      start = 0;
      gone = 0;
      came = 0;
      task = 0;
      tag = 0;
      kind = 0;
      loads = false;
    }

-- frames of this kind bring runes in the place of gaps, and change no text
abbrev pub is_load : ℕ → Bool
is_load kind = kind == kind_h (Hdata 0 0 [])

abbrev pub tag_or_zero : Option ℕ → ℕ
tag_or_zero None = 0
tag_or_zero (Some tag) = tag

abbrev pub did_of_host : HostStep → SamDid
did_of_host host.Idle = did_nothing 0
did_of_host host.Wrote = did_nothing 2
did_of_host (host.Edited tag count) = record (did_nothing 3) { tag = tag; count = count }
did_of_host (host.Answered kind tag) = record (did_nothing 4) { kind = kind; tag = tag_or_zero tag; count = 1 }

abbrev pub did_of_term : TermStep → SamDid
did_of_term term.Idle = did_nothing 0
did_of_term term.Locked = did_nothing 1
did_of_term term.Wrote = did_nothing 2
did_of_term (term.Received kind tag change) =
    record (did_nothing 5) {
      kind = kind;
      tag = tag_or_zero tag;
      start = change.start;
      gone = change.gone;
      came = change.came;
      loads = is_load kind;
    }
did_of_term (term.Acted number tag change) =
    record (did_nothing 6) { event = number; tag = tag_or_zero tag; start = change.start; gone = change.gone; came = change.came }
did_of_term (term.Refused number why) = record (did_nothing 7) { event = number; why = refusal_status why }

-- what a step did, or what stood there before
abbrev pub did_or : {S F : Type 0} → (S → SamDid) → SamDid → Result S F → SamDid
did_or did_of before (Ok step) = did_of step
did_or did_of before (Err why) = before
