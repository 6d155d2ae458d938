-- What an Edit does, in the words of a text.
use Rattle.std.specs.Prelude.{◌≡◌, ℕ, ◌+◌, ◌≤◌, ◌<◌, false, ◌&&◌, ◌==◌, List, [], ◌∷◌, ◌++◌, length, map, take, drop, Some, ⊤}
use Rattle.sam_runes.specs.Texts.{is_empty, most_in_message}
use Rattle.sam_mesg.specs.declared.tmesg.Tmesg.{Tmesg}
use Rattle.sam_mesg.specs.declared.tmesg.Tmesg.TheVariants.{Tversion, Tstartcmdfile, Tcheck, Trequest, Torigin, Tstartfile, Tworkfile, Ttype, Tcut, Tpaste, Tsnarf, Tstartnewfile, Twrite, Tclose, Tlook, Tsearch, Tsend, Tdclick, Tstartsnarf, Tsetsnarf, Tack, Texit}
use Rattle.sam_term.specs.LockCounts.{locks_taken, takes_command}
use Rattle.sam_term.specs.Term.{PlainTerminal, cut_message, edit_messages, event_outcome, rasp_at, unsent_message}
use Rattle.sam_term.specs.declared.event.UserEvent.TheVariants.{Edit}

-- the messages type into f from p on: each has a rune at least and no more than a message can have, and begins where the one before it
-- ends
abbrev pub TypeOn : ℕ → ℕ → List Tmesg → Type 0
TypeOn f p [] = ⊤
TypeOn f p (Ttype g a s ∷ ms) = (g ≡ f) × (a ≡ p) × (0 < length s) × (length s ≤ most_in_message) × TypeOn f (p + length s) ms
TypeOn f p (Tversion v ∷ ms) = ⊥
TypeOn f p (Tstartcmdfile ∷ ms) = ⊥
TypeOn f p (Tcheck g ∷ ms) = ⊥
TypeOn f p (Trequest g a n ∷ ms) = ⊥
TypeOn f p (Torigin g a n ∷ ms) = ⊥
TypeOn f p (Tstartfile g ∷ ms) = ⊥
TypeOn f p (Tworkfile g a q ∷ ms) = ⊥
TypeOn f p (Tcut g a q ∷ ms) = ⊥
TypeOn f p (Tpaste g a ∷ ms) = ⊥
TypeOn f p (Tsnarf g a q ∷ ms) = ⊥
TypeOn f p (Tstartnewfile ∷ ms) = ⊥
TypeOn f p (Twrite g ∷ ms) = ⊥
TypeOn f p (Tclose g ∷ ms) = ⊥
TypeOn f p (Tlook g a q ∷ ms) = ⊥
TypeOn f p (Tsearch g a q ∷ ms) = ⊥
TypeOn f p (Tsend g a q ∷ ms) = ⊥
TypeOn f p (Tdclick g a ∷ ms) = ⊥
TypeOn f p (Tstartsnarf ∷ ms) = ⊥
TypeOn f p (Tsetsnarf s ∷ ms) = ⊥
TypeOn f p (Tack ∷ ms) = ⊥
TypeOn f p (Texit ∷ ms) = ⊥

-- the runes that messages type, one message after another
abbrev pub all_typed : List Tmesg → List ℕ
all_typed [] = []
all_typed (Ttype f p s ∷ ms) = s ++ all_typed ms
all_typed (Tversion v ∷ ms) = all_typed ms
all_typed (Tstartcmdfile ∷ ms) = all_typed ms
all_typed (Tcheck f ∷ ms) = all_typed ms
all_typed (Trequest f p n ∷ ms) = all_typed ms
all_typed (Torigin f p n ∷ ms) = all_typed ms
all_typed (Tstartfile f ∷ ms) = all_typed ms
all_typed (Tworkfile f p q ∷ ms) = all_typed ms
all_typed (Tcut f p q ∷ ms) = all_typed ms
all_typed (Tpaste f p ∷ ms) = all_typed ms
all_typed (Tsnarf f p q ∷ ms) = all_typed ms
all_typed (Tstartnewfile ∷ ms) = all_typed ms
all_typed (Twrite f ∷ ms) = all_typed ms
all_typed (Tclose f ∷ ms) = all_typed ms
all_typed (Tlook f p q ∷ ms) = all_typed ms
all_typed (Tsearch f p q ∷ ms) = all_typed ms
all_typed (Tsend f p q ∷ ms) = all_typed ms
all_typed (Tdclick f p ∷ ms) = all_typed ms
all_typed (Tstartsnarf ∷ ms) = all_typed ms
all_typed (Tsetsnarf s ∷ ms) = all_typed ms
all_typed (Tack ∷ ms) = all_typed ms
all_typed (Texit ∷ ms) = all_typed ms

-- an Edit composes the unsent runes, the cut of its range, and messages that type its text there
abbrev pub EditComposes : Type 0
EditComposes =
    (t : PlainTerminal) (f p q : ℕ) (s : List ℕ) → (p == q && is_empty s) ≡ false
    → (types : List Tmesg) × ((event_outcome t (Edit f p q s)).1 ≡ unsent_message t.unsent ++ (cut_message f (p, q) ++ types))
    × TypeOn f p types × (all_typed types ≡ s)

-- where nothing goes and nothing comes it does nothing
abbrev pub EditOfNothing : Type 0
EditOfNothing = (t : PlainTerminal) (f p : ℕ) → event_outcome t (Edit f p p []) ≡ (t, [])

-- its text then stands in the place of its range
abbrev pub EditReplaces : Type 0
EditReplaces =
    (t : PlainTerminal) (f p q : ℕ) (s : List ℕ) → p ≤ q → q ≤ length (rasp_at t f)
    → rasp_at (event_outcome t (Edit f p q s)).0 f ≡ take p (rasp_at t f) ++ map Some s ++ drop q (rasp_at t f)

-- its own messages take no lock
abbrev pub EditLocksNothing : Type 0
EditLocksNothing =
    (f p q : ℕ) (s : List ℕ) → (f == 0) ≡ false
    → (takes_command (edit_messages f p q s) ≡ false) × ((g : ℕ) → locks_taken g (edit_messages f p q s) ≡ 0)
