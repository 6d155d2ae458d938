-- What a piece of the host's stream does to a terminal.
use Rattle.std.specs.Prelude.{◌≡◌, ℕ, ◌+◌, ◌^◌, ◌≤◌, ◌⊎◌, List, [], ◌∷◌, ◌++◌, length, true, false, Option, Some, None, Ok, Err}
use Rattle.sam_mesg.specs.declared.tmesg.Tmesg.{Tmesg}
use Rattle.sam_mesg.specs.declared.hmesg.HFrame.{HFrame}
use Rattle.sam_mesg.specs.declared.fault.MesgFault.{MesgFault}
use Rattle.sam_frame.specs.Direction.{host}
use Rattle.sam_frame.specs.Framing.{Held, HasRoom, GaveAll, GaveUp}
use Rattle.sam_term.specs.Term.{PlainTerminal, take_of}
use Rattle.sam_term.specs.declared.fault.TermFault.{TermFault}
use Rattle.sam_mesg.specs.Faults.{mesg_fault_number}
use Rattle.sam_term.specs.Faults.{term_fault_number}
use Rattle.sam_ends.specs.declared.stop.Stop.{Stop}
use Rattle.sam_ends.specs.declared.stop.Stop.TheVariants as stop

-- the terminal took the frames in order, and composed these messages
abbrev pub TakesAll : PlainTerminal → List HFrame → List Tmesg → PlainTerminal → Type 0
TakesAll t [] composed u = (composed ≡ []) × (u ≡ t)
TakesAll t (frame ∷ frames) composed u =
    (v : PlainTerminal) × (some : List Tmesg) × (rest : List Tmesg)
    × (take_of t frame ≡ Ok (v, some)) × (composed ≡ some ++ rest) × TakesAll v frames rest u

-- the framer gave these frames for the piece, and after them no fault or this one
abbrev pub Gives : Held → List ℕ → Held → List HFrame → Option MesgFault → Type 0
Gives h piece k frames None = GaveAll host h piece frames k
Gives h piece k frames (Some fault) = (place : ℕ) × GaveUp host h piece frames place fault k

-- of the frames that the framer gave, the terminal took these first ones, and not the ones after them
abbrev pub TakesSome : Held → List ℕ → Held → PlainTerminal → PlainTerminal → List Tmesg → List HFrame → List HFrame → Type 0
TakesSome h piece k t u composed frames later =
    (fault : Option MesgFault) × Gives h piece k (frames ++ later) fault × TakesAll t frames composed u

-- the framer refused the piece, and nothing has changed
abbrev pub NothingTaken : Held → Held → PlainTerminal → PlainTerminal → List Tmesg → Type 0
NothingTaken h k t u composed = (k ≡ h) × (u ≡ t) × (composed ≡ [])

-- the stream shows a fault after the frames, which were all taken; or the framer had failed before, or could not count the piece
abbrev pub FrameStops : Held → List ℕ → Held → PlainTerminal → PlainTerminal → List Tmesg → ℕ → Type 0
FrameStops h piece k t u composed n =
    ((frames : List HFrame) × (fault : MesgFault)
    × Gives h piece k frames (Some fault) × (n ≡ mesg_fault_number fault) × TakesAll t frames composed u)
    ⊎ (((n ≡ 5) × (h.failed ≡ true) × NothingTaken h k t u composed)
    ⊎ ((n ≡ 7) × (h.failed ≡ false) × (2 ^ 64 ≤ h.offset + length h.bytes + length piece) × NothingTaken h k t u composed))

-- the terminal refused the next frame
abbrev pub TermStops : Held → List ℕ → Held → PlainTerminal → PlainTerminal → List Tmesg → ℕ → Type 0
TermStops h piece k t u composed n =
    (frames : List HFrame) × (frame : HFrame) × (later : List HFrame) × (why : TermFault)
    × TakesSome h piece k t u composed frames (frame ∷ later) × (take_of u frame ≡ Err why) × (n ≡ term_fault_number why)

-- memory was wanted for the piece, or for the next frame
abbrev pub MemoryStops : Held → List ℕ → Held → PlainTerminal → PlainTerminal → List Tmesg → Type 0
MemoryStops h piece k t u composed =
    ((h.failed ≡ false) × HasRoom h piece × NothingTaken h k t u composed)
    ⊎ ((frames : List HFrame) × (frame : HFrame) × (later : List HFrame) × TakesSome h piece k t u composed frames (frame ∷ later))

-- A piece came to a framer at h and a terminal t, which are left at k and u. The terminal composed these messages for the frames that it
-- took, all that the framer gave unless something stopped it
abbrev pub FeedsTerminal : Held → List ℕ → Held → PlainTerminal → PlainTerminal → List Tmesg → Option Stop → Type 0
FeedsTerminal h piece k t u composed None = (frames : List HFrame) × Gives h piece k frames None × TakesAll t frames composed u
FeedsTerminal h piece k t u composed (Some (stop.Frame n)) = FrameStops h piece k t u composed n
FeedsTerminal h piece k t u composed (Some (stop.Host n)) = ⊥
FeedsTerminal h piece k t u composed (Some (stop.Term n)) = TermStops h piece k t u composed n
FeedsTerminal h piece k t u composed (Some stop.PeerGone) = ⊥
FeedsTerminal h piece k t u composed (Some stop.Gate) = ⊥
FeedsTerminal h piece k t u composed (Some stop.Memory) = MemoryStops h piece k t u composed

-- ## What the private functions say

-- the terminal refuses the frame, or memory was wanted for it
abbrev pub StopsAt : PlainTerminal → HFrame → Stop → Type 0
StopsAt t frame (stop.Frame n) = ⊥
StopsAt t frame (stop.Host n) = ⊥
StopsAt t frame (stop.Term n) = (why : TermFault) × (take_of t frame ≡ Err why) × (n ≡ term_fault_number why)
StopsAt t frame stop.PeerGone = ⊥
StopsAt t frame stop.Gate = ⊥
StopsAt t frame stop.Memory = Unit {0}

-- a frame was taken, or nothing has changed
abbrev pub TakesOne : HFrame → PlainTerminal → PlainTerminal → List Tmesg → List Tmesg → Option Stop → Type 0
TakesOne frame t u before after None = (some : List Tmesg) × (take_of t frame ≡ Ok (u, some)) × (after ≡ before ++ some)
TakesOne frame t u before after (Some s) = StopsAt t frame s × (u ≡ t) × (after ≡ before)

-- all the frames were taken and what stands after them stopped it, or those before the one that stopped it
abbrev pub TakesUpTo : List HFrame → Option Stop → PlainTerminal → PlainTerminal → List Tmesg → Option Stop → Type 0
TakesUpTo frames last_stop t u composed stopped =
    (TakesAll t frames composed u × (stopped ≡ last_stop))
    ⊎ ((done : List HFrame) × (frame : HFrame) × (rest : List HFrame) × (s : Stop)
    × (frames ≡ done ++ frame ∷ rest) × TakesAll t done composed u × (stopped ≡ Some s) × StopsAt u frame s)
