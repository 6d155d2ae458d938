-- What a terminal does to its rasps as it takes a frame.
use Rattle.std.specs.Prelude.{◌≡◌, ℕ, List, length, Ok}
use Rattle.sam_mesg.specs.declared.hmesg.HFrame.{HFrame}
use Rattle.sam_mesg.specs.declared.tmesg.Tmesg.{Tmesg}
use Rattle.sam_term.specs.Term.{PlainTerminal, rasp_at, take_of}
use Rattle.sam_overlay.specs.Effects.{FitsIn, effect, members_after}

-- each rasp becomes what `effect` says, and has the places that it names
abbrev pub FramesMoveRasps : Type 0
FramesMoveRasps =
    (t u : PlainTerminal) (frame : HFrame) (ms : List Tmesg) (f : ℕ) → take_of t frame ≡ Ok (u, ms)
    → FitsIn (length (rasp_at t f)) (effect f frame.msg) × (rasp_at u f ≡ members_after (effect f frame.msg) (rasp_at t f))
