-- What is handed out of a replay.
use Rattle.std.proofs.Common.{◌≡◌, refl, ap, ap₂, ℕ, List, length, Ok, Err}
use Rattle.sam_script.specs.Replay.{IsReplay, IsReplayFault}
use Rattle.sam_script.specs.declared.fault.ScriptFault.{ScriptFault}
use Rattle.sam_c.specs.Scripts.{Replays, filled, handed, line_or, script_status}

pub shown : (script printed before after : List ℕ) (count len line : ℕ) → IsReplay script printed → after ≡ filled printed before → len ≡ length printed
    → Replays script 0 (handed before count line) (handed after len line)
shown script printed before after count len line replay buffer size =
    record { result = Ok printed; came = replay; number = refl; out = ap₂ (λ b n. handed b n line) buffer size }

pub faulted : (script before : List ℕ) (count line now status : ℕ) (why : ScriptFault) → IsReplayFault script why → status ≡ script_status why → now ≡ line_or line why
    → Replays script status (handed before count line) (handed before count now)
faulted script before count line now status why fault number is =
    record { result = Err why; came = fault; number = number; out = ap (λ n. handed before count n) is }
