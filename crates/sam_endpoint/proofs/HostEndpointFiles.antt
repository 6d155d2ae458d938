-- Files that join the files of a host end.
use Rattle.sam_endpoint.proofs.Common.{◌≡◌, ◌≤◌, ℕ, false, List, length, None, arith, chars, IsUtf8, encode_utf8_all, IsUtf8-from_is_utf8, chars_from_encodes, PlainHost, with_given, PlainHostEndpoint, add_checks, with_file}
use Rattle.std.specs.Str.{is_utf8}
use Rattle.sam_runes.specs.Checks.{first_of_checks}
use Rattle.sam_runes.specs.Reading.{AreRunes}
use Rattle.sam_runes.specs.Texts.{most_in_name}

pub not_text : (bytes : List ℕ) → (IsUtf8 bytes → ⊥) → is_utf8 bytes ≡ false
not_text bytes none = grind (arith, IsUtf8-from_is_utf8)

-- the runes that were read are those that the bytes spell
pub read_runes : (runes bytes : List ℕ) → AreRunes runes → encode_utf8_all runes ≡ bytes → runes ≡ chars bytes
read_runes runes bytes are spell = chars_from_encodes runes bytes (runes, (are, spell)) spell

-- a name against which nothing stands has at most most_in_name runes
pub name_fits : (e : PlainHostEndpoint) (name text : List ℕ) → first_of_checks (add_checks e name text) ≡ None → length (chars name) ≤ most_in_name
name_fits e name text none = grind arith

pub file_added : (e before g : PlainHostEndpoint) (h : PlainHost) (name text n t : List ℕ) → before ≡ e → g ≡ record before { host = h }
    → h ≡ with_given before.host (n, t) → n ≡ chars name → t ≡ chars text → g ≡ with_file e name text
file_added e before g h name text n t same after is of_name of_text = grind arith

-- what adding a file rests on
pub ruleset adds_files = (read_runes, name_fits, file_added)
