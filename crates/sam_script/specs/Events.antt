-- The word of each event of the user: how it is spelled, with what stands after it, and how that is read.
use Rattle.std.specs.Prelude.{ℕ, List, [], ◌∷◌, Option, Some, codes}
use Rattle.sam_term.specs.declared.event.UserEvent.{UserEvent}
use Rattle.sam_term.specs.declared.event.UserEvent.TheVariants.{Typed, Select, Cut, Paste, Snarf, Look, Search, Send, Dclick, Scroll, View}
use Rattle.sam_term.specs.declared.event.UserEvent.TheVariants.{Load, Edit, Open, Close, Write, Work, OpenCmd, New, Exit, Check, GetSnarf}
use Rattle.sam_term.specs.declared.event.UserEvent.TheVariants.{SetSnarf, Version}
use Rattle.sam_term.specs.declared.event.UserEvent.TheVariants as user
use Rattle.sam_script.specs.Words.{◌>>=◌, number_at, text_at, ended, tag_alone, tag_and_place, tag_and_range, tag_and_text}

-- ## What is spelled

-- what stands after a word: a number of so many bits, or a text that takes the rest of the line
pub data Part : Type 0 where
  Number : ℕ → ℕ → Part
  Rest : List ℕ → Part

-- a tag or a version; a place, a length or a count of lines
abbrev pub Tag : ℕ → Part
Tag f = Number 16 f

abbrev pub Place : ℕ → Part
Place p = Number 32 p

-- the word and the parts of each event
abbrev pub form : UserEvent → List ℕ × List Part
form (Typed f s) = (codes "type", Tag f ∷ Rest s ∷ [])
form (Select f p q) = (codes "select", Tag f ∷ Place p ∷ Place q ∷ [])
form (Cut f) = (codes "cut", Tag f ∷ [])
form (Paste f) = (codes "paste", Tag f ∷ [])
form (Snarf f) = (codes "snarf", Tag f ∷ [])
form (Look f) = (codes "look", Tag f ∷ [])
form (Search f) = (codes "search", Tag f ∷ [])
form (Send f) = (codes "send", Tag f ∷ [])
form (Dclick f p) = (codes "dclick", Tag f ∷ Place p ∷ [])
form (Scroll f n) = (codes "scroll", Tag f ∷ Place n ∷ [])
form (View f p n) = (codes "view", Tag f ∷ Place p ∷ Place n ∷ [])
form (Load f p n) = (codes "load", Tag f ∷ Place p ∷ Place n ∷ [])
form (Edit f p q s) = (codes "edit", Tag f ∷ Place p ∷ Place q ∷ Rest s ∷ [])
form (Open f) = (codes "open", Tag f ∷ [])
form (Close f) = (codes "close", Tag f ∷ [])
form (Write f) = (codes "write", Tag f ∷ [])
form (Work f) = (codes "work", Tag f ∷ [])
form OpenCmd = (codes "opencmd", [])
form New = (codes "new", [])
form Exit = (codes "exit", [])
form (Check f) = (codes "check", Tag f ∷ [])
form GetSnarf = (codes "getsnarf", [])
form (SetSnarf s) = (codes "setsnarf", Rest s ∷ [])
form (Version v) = (codes "version", Tag v ∷ [])
form user.Flush = (codes "flush", [])

-- ## What is read, for the clauses of private functions

-- the reader of each word, over what stands after it
abbrev pub Reader : Type 0 → Type 0
Reader X = List ℕ → Option X

abbrev pub by_tag : (ℕ → UserEvent) → Reader UserEvent
by_tag event bytes = tag_alone bytes >>= λ f. Some (event f)

abbrev pub by_place : (ℕ → ℕ → UserEvent) → Reader UserEvent
by_place event bytes = tag_and_place bytes >>= λ x. Some (event x.0 x.1)

abbrev pub by_range : (ℕ → ℕ → ℕ → UserEvent) → Reader UserEvent
by_range event bytes = tag_and_range bytes >>= λ x. Some (event x.0 x.1 x.2)

unfoldable pub edit_at : Reader UserEvent
edit_at bytes =
    number_at 16 bytes >>= λ f. number_at 32 f.1 >>= λ p. number_at 32 p.1 >>= λ q. text_at q.1 >>= λ s. Some (Edit f.0 p.0 q.0 s)

abbrev pub file_readers : List (List ℕ × Reader UserEvent)
file_readers =
    (codes "cut", by_tag Cut) ∷ (codes "paste", by_tag Paste) ∷ (codes "snarf", by_tag Snarf) ∷ (codes "look", by_tag Look)
    ∷ (codes "search", by_tag Search) ∷ (codes "send", by_tag Send) ∷ (codes "open", by_tag Open) ∷ (codes "write", by_tag Write)
    ∷ (codes "close", by_tag Close) ∷ (codes "work", by_tag Work) ∷ (codes "check", by_tag Check) ∷ []

abbrev pub readers : List (List ℕ × Reader UserEvent)
readers =
    (codes "type", λ bytes. tag_and_text bytes >>= λ x. Some (Typed x.0 x.1))
    ∷ (codes "setsnarf", λ bytes. text_at bytes >>= λ s. Some (SetSnarf s))
    ∷ (codes "select", by_range Select) ∷ (codes "view", by_range View) ∷ (codes "load", by_range Load)
    ∷ (codes "edit", edit_at)
    ∷ (codes "dclick", by_place Dclick) ∷ (codes "scroll", by_place Scroll)
    ∷ (codes "version", by_tag Version) ∷ (codes "opencmd", ended OpenCmd) ∷ (codes "new", ended New) ∷ (codes "getsnarf", ended GetSnarf)
    ∷ (codes "flush", ended user.Flush) ∷ (codes "exit", ended Exit) ∷ file_readers
