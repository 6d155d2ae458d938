-- A host with more files: what files that join a session add to it.
use Rattle.std.specs.Prelude.{ℕ, ◌<◌, ◌&&◌, Bool, true, false, not, ◌++◌, List, length, IfSome, nat_le, nat_lt}
use Rattle.sam_runes.specs.Texts.{all_tags, max_runes, most_in_name}
use Rattle.sam_runes.specs.Slots.{Slots}
use Rattle.sam_text.specs.Files.{PlainFile, PlainFiles, AreFit}
use Rattle.sam_host.specs.Host.{PlainHost}
use Rattle.sam_mesg.specs.declared.tmesg.Tmesg.{Tmesg}
use Rattle.sam_mesg.specs.declared.tmesg.Tmesg.TheVariants.{Tversion, Tstartcmdfile, Tcheck, Trequest, Torigin, Tstartfile, Tworkfile, Ttype, Tcut, Tpaste, Tsnarf, Tstartnewfile, Twrite, Tclose, Tlook, Tsearch, Tsend, Tdclick, Tstartsnarf, Tsetsnarf, Tack, Texit}

-- a tag is left, the name fits in a message, and the text is within its limit
abbrev pub may_join : PlainHost → List ℕ → List ℕ → Bool
may_join h name text = nat_lt (length h.files.slots) all_tags && nat_le (length name) most_in_name && nat_le (length text) max_runes

abbrev pub more_files : PlainFiles → Slots PlainFile → PlainFiles
more_files fs more = record fs { slots = fs.slots ++ more }

-- the host with these files under its next tags
abbrev pub with_more : PlainHost → Slots PlainFile → PlainHost
with_more h more = record h { files = more_files h.files more }

-- the command file is there, the work file was given, and dots are ranges of texts within the limit
pub record HasGiven (fs : PlainFiles) : Type 0 where
  pub command : 0 < length fs.slots
  pub work : IfSome fs.work (λ f. f < length fs.slots)
  pub fit : AreFit fs

-- ## What the place of a file that joins can be told by

-- the answer tells which files there are: their names, or the next tag
abbrev pub hears : Tmesg → Bool
hears (Tversion v) = true
hears Tstartcmdfile = false
hears (Tcheck f) = false
hears (Trequest f p n) = false
hears (Torigin f p n) = false
hears (Tstartfile f) = false
hears (Tworkfile f p q) = false
hears (Ttype f p s) = false
hears (Tcut f p q) = false
hears (Tpaste f p) = false
hears (Tsnarf f p q) = false
hears Tstartnewfile = true
hears (Twrite f) = false
hears (Tclose f) = false
hears (Tlook f p q) = false
hears (Tsearch f p q) = false
hears (Tsend f p q) = false
hears (Tdclick f p) = false
hears Tstartsnarf = false
hears (Tsetsnarf s) = false
hears Tack = false
hears Texit = false

-- so it is at a host that answers
abbrev pub is_heard : PlainHost → Tmesg → Bool
is_heard h m = not h.is_done && hears m
