-- An event that brings a text, and what a slot holds.
use Rattle.std.proofs.Common.{◌≡◌, ℕ, true, List, Option, arith, is_some, encode_utf8_all}
use Rattle.sam_runes.specs.Reading.{AreRunes}
use Rattle.sam_term.specs.declared.event.UserEvent.{UserEvent}
use Rattle.sam_endpoint.specs.TermEndpoints.{PlainTermEndpoint}
use Rattle.sam_c.specs.Terms.{TermPut, TermPutText}

-- the text was read, and its event put
pub text-put : (before after : Option PlainTermEndpoint) (text runes : List ℕ) (event : List ℕ → UserEvent) (status : ℕ) → is_some before ≡ true
    → AreRunes runes → encode_utf8_all runes ≡ text → TermPut before (event runes) status after → TermPutText before text event status after
text-put before after text runes event status e u w q = grind arith
