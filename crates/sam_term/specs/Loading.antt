-- What a Load asks for, in the words of a partial text.
use Rattle.std.specs.Prelude.{◌≡◌, ℕ, ◌+◌, ◌≤◌, ◌<◌, Bool, true, false, List, [], ◌∷◌, length, replicate, Some, None, ⊤}
use Rattle.sam_runes.specs.Texts.{most_in_message, part}
use Rattle.sam_rasp.specs.Rasp.{PartialText}
use Rattle.sam_mesg.specs.declared.hmesg.Hmesg.{Hmesg}
use Rattle.sam_term.specs.Term.{PlainTerminal, window_at, wanted, stretches, event_outcome, frame_outcome}
use Rattle.sam_term.specs.declared.event.UserEvent.{UserEvent}
use Rattle.sam_term.specs.declared.event.UserEvent.TheVariants.{Typed, Select, Cut, Paste, Snarf, Look, Search, Send, Dclick, Scroll, View, Load, Edit, Open, Close, Write, Work, OpenCmd, New, Exit, Check, GetSnarf, SetSnarf, Version, Flush}

-- the stretches lie from p to q, none before the end of the one in front of it; each is of gaps alone, at least one of them and at most
-- as many as one message asks for
abbrev pub AreOfGaps : PartialText → ℕ → ℕ → List (ℕ × ℕ) → Type 0
AreOfGaps rasp p q [] = ⊤
AreOfGaps rasp p q (s ∷ ss) =
    (p ≤ s.0) × (0 < s.1) × (s.1 ≤ most_in_message) × (s.0 + s.1 ≤ q) × (part rasp s.0 (s.0 + s.1) ≡ replicate s.1 None)
    × AreOfGaps rasp (s.0 + s.1) q ss

-- how many gaps
abbrev pub gaps : PartialText → ℕ
gaps [] = 0
gaps (None ∷ rasp) = 1 + gaps rasp
gaps (Some c ∷ rasp) = gaps rasp

-- how many members the stretches have together
abbrev pub members : List (ℕ × ℕ) → ℕ
members [] = 0
members (s ∷ ss) = s.1 + members ss

abbrev pub LoadLaw : Type 0
LoadLaw = (rasp : PartialText) (p q n : ℕ) → p ≤ q → q ≤ length rasp → AreOfGaps rasp p q (stretches rasp p q n)

abbrev pub LoadsFew : Type 0
LoadsFew = (rasp : PartialText) (p q n : ℕ) → length (stretches rasp p q n) ≤ n

-- fewer than n stretches have all gaps
abbrev pub LoadsAll : Type 0
LoadsAll = (rasp : PartialText) (p q n : ℕ) → length (stretches rasp p q n) < n → members (stretches rasp p q n) ≡ gaps (part rasp p q)

abbrev pub is_load : UserEvent → Bool
is_load (Load f p n) = true
is_load (Typed f s) = false
is_load (Select f p q) = false
is_load (Cut f) = false
is_load (Paste f) = false
is_load (Snarf f) = false
is_load (Look f) = false
is_load (Search f) = false
is_load (Send f) = false
is_load (Dclick f p) = false
is_load (Scroll f n) = false
is_load (View f p n) = false
is_load (Edit f p q s) = false
is_load (Open f) = false
is_load (Close f) = false
is_load (Write f) = false
is_load (Work f) = false
is_load OpenCmd = false
is_load New = false
is_load Exit = false
is_load (Check f) = false
is_load GetSnarf = false
is_load (SetSnarf s) = false
is_load (Version v) = false
is_load Flush = false

-- no request is composed by the rule while one is awaited, so without a Load no file ever awaits two
abbrev pub RuleWaits : Type 0
RuleWaits = (t : PlainTerminal) (f : ℕ) → 0 < (window_at t f).awaited → wanted t f ≡ None

abbrev pub EventsAskOnce : Type 0
EventsAskOnce =
    (t : PlainTerminal) (e : UserEvent) (f : ℕ) → is_load e ≡ false → (window_at t f).awaited ≤ 1
    → (window_at (event_outcome t e).0 f).awaited ≤ 1

abbrev pub FramesAskOnce : Type 0
FramesAskOnce =
    (t : PlainTerminal) (m : Hmesg) (f : ℕ) → (window_at t f).awaited ≤ 1 → (window_at (frame_outcome t m).0 f).awaited ≤ 1
