-- What a host answers to messages in turn, up to the first that it refuses.
use Rattle.std.specs.Prelude.{ℕ, List, [], ◌∷◌, ◌++◌, Result, Ok, Err, flat_map}
use Rattle.sam_mesg.specs.declared.tmesg.Tmesg.{Tmesg}
use Rattle.sam_mesg.specs.HostKinds.{frame_h}
use Rattle.sam_host.specs.Host.{PlainHost, Answer, answer}
use Rattle.sam_host.specs.declared.fault.HostFault.{HostFault}

-- the bytes of the frames that were answered, and the host after the last message, or the refusal
pub record Served : Type 0 where
  pub written : List ℕ
  pub end : Result PlainHost HostFault

abbrev pub served_on : Answer → (PlainHost → Served) → Served
served_on (Err why) rest = record { written = []; end = Err why }
served_on (Ok answered) rest =
    record { written = flat_map frame_h answered.1 ++ (rest answered.0).written; end = (rest answered.0).end }

abbrev pub serve : PlainHost → List Tmesg → Served
serve h [] = record { written = []; end = Ok h }
serve h (m ∷ ms) = served_on (answer h m) (λ next. serve next ms)

-- the same after what was written before
abbrev pub after_output : List ℕ → Served → Served
after_output before served = record { written = before ++ served.written; end = served.end }
