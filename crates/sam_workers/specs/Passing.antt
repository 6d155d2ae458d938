-- What the host reader does with the pieces of the host's stream.
use Rattle.std.specs.Prelude.{◌≡◌, ℕ, ◌+◌, List, ◌++◌, length, map, Option, Some, None}
use Rattle.std.specs.Global.{Vec}
use Rattle.sam_mesg.specs.declared.hmesg.HFrame.{HFrame}
use Rattle.sam_frame.specs.Direction.{host}
use Rattle.sam_frame.specs.Stream.{FitInTurn, Splits, version_after, stream_of, IsOpen}
use Rattle.sam_frame.specs.Framing.{Held, GaveAll}
use Rattle.sam_queue.specs.declared.rule.Entry.{Entry}
use Rattle.sam_queue.specs.History.{items_of, IsEnded}
use Rattle.sam_queue.specs.Views.{PostView, TakeView}
use Rattle.sam_ends.specs.Inputs.{bytes_of}
use Rattle.sam_ends.specs.Numbers.{StopsWith}
use Rattle.sam_ends.specs.declared.input.Input.{Input}
use Rattle.sam_ends.specs.declared.input.Input.TheVariants.{Host}
use Rattle.sam_ends.specs.declared.stop.Stop.{Stop}
use Rattle.sam_ends.specs.declared.stop.Stop.TheVariants as stop

-- the post once these frames were sent on
abbrev pub sent_on : PostView Input → List HFrame → PostView Input
sent_on p frames = record p { put = p.put ++ map Host frames }

-- the frames were sent on, or the gate stopped that after some of them
abbrev pub Sends : List HFrame → PostView Input → PostView Input → Option Stop → Type 0
Sends frames p q None = q ≡ sent_on p frames
Sends frames p q (Some s) = (done : List HFrame) × (more : List HFrame) × (frames ≡ done ++ more) × (q ≡ sent_on p done) × (s ≡ stop.Gate)

-- what stands after the frames that were sent on stops the reader so, once so many bytes of the stream came
abbrev pub StopsBehind : ℕ → ℕ → List ℕ → Stop → Type 0
StopsBehind version came rest (stop.Frame n) = StopsWith host version came rest n
StopsBehind version came rest (stop.Host n) = ⊥
StopsBehind version came rest (stop.Term n) = ⊥
StopsBehind version came rest stop.PeerGone = ⊥
StopsBehind version came rest stop.Gate = Unit {0}
StopsBehind version came rest stop.Memory = Unit {0}

-- the frames that are whole with the piece were sent on, all of them where nothing stopped it
abbrev pub PassesPiece : Held → List ℕ → Held → PostView Input → PostView Input → Option Stop → Type 0
PassesPiece h piece k p q None = (frames : List HFrame) × GaveAll host h piece frames k × (q ≡ sent_on p frames)
PassesPiece h piece k p q (Some s) =
    (frames : List HFrame) × (rest : List ℕ) × Splits host h.version (h.bytes ++ piece) frames rest × (q ≡ sent_on p frames)
    × StopsBehind (version_after host h.version frames) (h.offset + length h.bytes + length piece) rest s

abbrev pub PassStops : List (Entry (Vec ℕ)) → List HFrame → List ℕ → Option Stop → Type 0
PassStops taken frames rest None = IsEnded 1 taken × IsOpen host (version_after host 1 frames) rest
PassStops taken frames rest (Some s) = StopsBehind (version_after host 1 frames) (length (bytes_of (items_of 0 taken))) rest s

-- the pieces that were taken are the frames that were sent on, and a rest
pub record Passes (t u : TakeView (Vec ℕ)) (p q : PostView Input) (s : Option Stop) : Type 0 where
  pub passed : List HFrame
  pub rest : List ℕ
  pub line_is : u.line ≡ t.line
  pub fit : FitInTurn host 1 passed
  pub got : bytes_of (items_of 0 u.taken) ≡ stream_of host passed ++ rest
  pub sent : q ≡ sent_on p passed
  pub stops : PassStops u.taken passed rest s
