-- What a partial text measures between two places: its runes up to a gap, and what they take.
use Rattle.std.specs.Prelude.{ℕ}
use Rattle.sam_runes.specs.Texts.{part}
use Rattle.sam_rasp.specs.Rasp.{PartialText}
use Rattle.sam_rasp.specs.Rows.{gaps_of}
use Rattle.sam_rasp.specs.Tallies.{measure, runes_in}
use Rattle.sam_rasp.specs.declared.tally.Measure.{Measure}
pub use Rattle.sam_rasp.specs.Tallies.{front_runes, line_after, line_before, place_after}

-- what the runes from p to q take, and how many gaps stand there
abbrev pub sizes : PartialText → Measure → ℕ → ℕ → ℕ × ℕ
sizes text m p q = (measure m (runes_in (part text p q)), gaps_of (part text p q))
