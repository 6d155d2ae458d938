-- A walk over a partial text, section by section.
use Rattle.std.specs.Prelude.{◌≡◌, ℕ, take, drop, Option, Some, None}
use Rattle.sam_rasp.specs.Rasp.{PartialText}
use Rattle.sam_rasp.specs.Sections.{cells, size}
use Rattle.sam_rasp.specs.declared.section.Section.{Section}

-- this section stands in the text from place a on
abbrev pub StandsAt : PartialText → Section → ℕ → Type 0
StandsAt text x a = take (size x) (drop a text) ≡ cells x

-- the text that is walked: this one, or that of what stands over it
abbrev pub walked : {X : Type 0} → PartialText → Option X → (X → PartialText) → PartialText
walked text None over = text
walked text (Some x) over = over x
