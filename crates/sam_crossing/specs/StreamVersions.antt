-- The version at a place of the stream of messages.
use Rattle.std.specs.Prelude.{ℕ, List, [], ◌∷◌}
use Rattle.sam_mesg.specs.TerminalKinds.{after_t}
use Rattle.sam_mesg.specs.declared.tmesg.Tmesg.{Tmesg}

-- the version after messages of the terminal
abbrev pub version_behind : ℕ → List Tmesg → ℕ
version_behind version [] = version
version_behind version (m ∷ ms) = version_behind (after_t version m) ms
