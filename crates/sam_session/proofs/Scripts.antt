-- What comes of an input that is read as a script.
use Rattle.sam_session.proofs.Common.{◌≡◌, ◌⊎◌, ℕ, ◌≤◌, List, length, Option, IfSome, Result, Err, OnOk, IfOk, IfErr, arith, IsOkAnd, Appends, PlainScript, Spells, IsReadFault, Written, IsUnread, PlayFault, Read, Write, OutOfMemory}
use Rattle.std.specs.Global.{Vec}
use Rattle.sam_script.specs.Replay as replay
use Rattle.sam_script.specs.declared.fault.ScriptFault.{ScriptFault}
use Rattle.sam_session.specs.Replaying.{of_script, IsReplay, IsReplayFault}
use Rattle.sam_modes.specs.Limits.{most_input}

-- ---- the input

known : (input : Option (List ℕ)) (bytes : List ℕ) (P : List ℕ → Type 0) → IfSome input (λ i. bytes ≡ i) → P bytes → IfSome input P
known input bytes P e u = grind arith

pub weaker : (input : Option (List ℕ)) (P Q : List ℕ → Type 0) → ((i : List ℕ) → P i → Q i) → IfSome input P → IfSome input Q
weaker input P Q e u = grind arith

pub script_read : (input : Option (List ℕ)) (bytes : List ℕ) (script : PlainScript) → IfSome input (λ i. bytes ≡ i) → length bytes ≤ most_input → Spells bytes script
    → IfSome input (λ i. (length i ≤ most_input) × Spells i script)
script_read input bytes script is short spelled = known input bytes (λ i. (length i ≤ most_input) × Spells i script) is (short, spelled)

unread : (bytes : List ℕ) (why : ScriptFault) → length bytes ≤ most_input → IsReadFault bytes why → IsUnread bytes (of_script why)
unread bytes why e u = grind arith

pub script_wrong : (input : Option (List ℕ)) (bytes : List ℕ) (why : ScriptFault) → IfSome input (λ i. bytes ≡ i) → length bytes ≤ most_input → IsReadFault bytes why
    → IfSome input (λ i. IsUnread i (of_script why))
script_wrong input bytes why is short wrong = known input bytes (λ i. IsUnread i (of_script why)) is (unread bytes why short wrong)

pub input_failed : (input : Option (List ℕ)) (e : PlayFault) → (e ≡ Read) ⊎ (e ≡ OutOfMemory) → IfSome input (λ i. IsUnread i e)
input_failed input e u = grind arith

-- ---- a replay

pub replay_shown : (input : Option (List ℕ)) (bytes out : List ℕ) → IfSome input (λ i. bytes ≡ i) → length bytes ≤ most_input → replay.IsReplay bytes out → IfSome input (λ i. IsReplay i out)
replay_shown input bytes out is short ran = known input bytes (λ i. IsReplay i out) is (short, ran)

faulty : (bytes : List ℕ) (why : ScriptFault) → length bytes ≤ most_input → replay.IsReplayFault bytes why → IsReplayFault bytes (of_script why)
faulty bytes why e u = grind arith

pub replay_stopped : (input : Option (List ℕ)) (bytes : List ℕ) (why : ScriptFault) → IfSome input (λ i. bytes ≡ i) → length bytes ≤ most_input → replay.IsReplayFault bytes why
    → IfSome input (λ i. IsReplayFault i (of_script why))
replay_stopped input bytes why is short stop = known input bytes (λ i. IsReplayFault i (of_script why)) is (faulty bytes why short stop)

pub replay_unread : (input : Option (List ℕ)) (e : PlayFault) → (e ≡ Read) ⊎ (e ≡ OutOfMemory) → IfSome input (λ i. IsReplayFault i e)
replay_unread input e u = grind arith

-- ---- what is written

-- the lines that came of an input were written
pub written : {A : Type 0} (input before after : Option (List ℕ)) (P : List ℕ → List ℕ → Type 0) (lines : Result (Vec ℕ) PlayFault) (result : Result A PlayFault)
    → IfOk lines (λ l. IfSome input (λ i. P i l.items)) → OnOk result (IsOkAnd lines (λ l. Appends before after l.items)) → OnOk result (Written input before after P)
written input before after P lines result e u = grind arith

-- a fault that came of an input is the answer, or a write failed
pub faulted : {A : Type 0} (input : Option (List ℕ)) (Q : List ℕ → PlayFault → Type 0) (lines : Result (Vec ℕ) PlayFault) (result : Result A PlayFault) → ((i : List ℕ) → Q i Write)
    → IfErr lines (λ why. IfSome input (λ i. Q i why)) → IfErr result (λ e. (e ≡ Write) ⊎ (lines ≡ Err e)) → IfErr result (λ e. IfSome input (λ i. Q i e))
faulted input Q lines result u w q = grind arith
