-- What holds of records and their bytes.
use Rattle.std.specs.Prelude.{◌≡◌, ℕ, List}
use Rattle.sam_server.specs.Records.{PlainRecord, Spells}

-- no bytes are those of two records
abbrev pub OneRecord : Type 0
OneRecord = (a b : PlainRecord) (bytes : List ℕ) → Spells a bytes → Spells b bytes → a ≡ b
