-- Messages that change the text of one file, in a row, with checks among them.
use Rattle.std.specs.Prelude.{◌≡◌, ◌⊎◌, ℕ, ◌+◌, List, [], ◌∷◌, ◌++◌, true, is_some, if◌then◌else◌, Option, Some, None, Ok, All}
use Rattle.sam_text.specs.Files.{PlainFiles, file_at, has_file}
use Rattle.sam_text.specs.declared.text_change.TextChange.{TextChange}
use Rattle.sam_text.specs.declared.text_change.TextChange.TheVariants.{Insert, Delete}
use Rattle.sam_mesg.specs.declared.hmesg.HFrame.{HFrame}
use Rattle.sam_mesg.specs.declared.hmesg.Hmesg.TheVariants.{Hcheck}
use Rattle.sam_mesg.specs.declared.tmesg.Tmesg.{Tmesg}
use Rattle.sam_mesg.specs.declared.tmesg.Tmesg.TheVariants.{Tversion, Tstartcmdfile, Tcheck, Trequest, Torigin, Tstartfile, Tworkfile, Ttype, Tcut, Tpaste, Tsnarf, Tstartnewfile, Twrite, Tclose, Tlook, Tsearch, Tsend, Tdclick, Tstartsnarf, Tsetsnarf, Tack, Texit}
use Rattle.sam_host.specs.Host.{PlainHost, answer}
use Rattle.sam_host.specs.declared.editing.Entry.{Entry}
use Rattle.sam_host.specs.declared.editing.Entry.TheVariants as entry

-- the host takes the messages one after another, and answers them with these frames
abbrev pub TakesAll : PlainHost → List Tmesg → List HFrame → PlainHost → Type 0
TakesAll h [] frames g = (frames ≡ []) × (g ≡ h)
TakesAll h (m ∷ ms) frames g =
    (k : PlainHost) × (first : List HFrame) × (rest : List HFrame)
    × (answer h m ≡ Ok (k, first)) × (frames ≡ first ++ rest) × TakesAll k ms rest g

-- the message that tells a change of the file f
abbrev pub message_of : ℕ → TextChange → Tmesg
message_of f (Insert p s) = Ttype f p s.now
message_of f (Delete p q) = Tcut f p q

-- the file that the message types or cuts in
abbrev pub edited_file : Tmesg → Option ℕ
edited_file (Ttype f p s) = Some f
edited_file (Tcut f p q) = Some f
edited_file (Tversion v) = None
edited_file Tstartcmdfile = None
edited_file (Tcheck f) = None
edited_file (Trequest f p n) = None
edited_file (Torigin f p n) = None
edited_file (Tstartfile f) = None
edited_file (Tworkfile f p q) = None
edited_file (Tpaste f p) = None
edited_file (Tsnarf f p q) = None
edited_file Tstartnewfile = None
edited_file (Twrite f) = None
edited_file (Tclose f) = None
edited_file (Tlook f p q) = None
edited_file (Tsearch f p q) = None
edited_file (Tsend f p q) = None
edited_file (Tdclick f p) = None
edited_file Tstartsnarf = None
edited_file (Tsetsnarf s) = None
edited_file Tack = None
edited_file Texit = None

-- the message types or cuts in the file f, or is a check of some file
abbrev pub EditsOrChecks : ℕ → Tmesg → Type 0
EditsOrChecks f m = (edited_file m ≡ Some f) ⊎ ((g : ℕ) × (m ≡ Tcheck g))

-- each of the messages types or cuts in the file f, as the first one does, or is a check of some file
abbrev pub EditFile : ℕ → List Tmesg → Type 0
EditFile f [] = Unit {0}
EditFile f (m ∷ ms) = (edited_file m ≡ Some f) × All (EditsOrChecks f) ms

-- ## How they are taken

-- there is such a file, and the terminal has a window on it
abbrev pub IsOpened : PlainFiles → ℕ → Type 0
IsOpened fs f = (has_file fs f ≡ true) × ((file_at fs f).opened ≡ true)

-- the message of an entry of a run of edits of the file f
abbrev pub message_in : ℕ → Entry → Tmesg
message_in f (entry.Change c) = message_of f c
message_in f (entry.Check g) = Tcheck g

-- a check may be answered
abbrev pub MayAnswer : PlainFiles → Entry → Type 0
MayAnswer fs (entry.Change c) = Unit {0}
MayAnswer fs (entry.Check g) = IsOpened fs g

-- the answer to a check, by a host that had taken so many messages before it
abbrev pub checked : ℕ → ℕ → HFrame
checked taken f = record { seen = taken + 1; msg = Hcheck f }

-- of the messages those that are no check tell these changes of the file f; the checks are of open files and are answered with these
-- frames, by a host that had taken so many messages before
abbrev pub Tells : PlainFiles → ℕ → ℕ → List Tmesg → List TextChange → List HFrame → Type 0
Tells fs f taken [] cs frames = (cs ≡ []) × (frames ≡ [])
Tells fs f taken (m ∷ ms) cs frames =
    ((c : TextChange) × (rest : List TextChange) × (m ≡ message_of f c) × (cs ≡ c ∷ rest) × Tells fs f (taken + 1) ms rest frames)
    ⊎ ((g : ℕ) × (rest : List HFrame) × (m ≡ Tcheck g) × IsOpened fs g × (frames ≡ checked taken g ∷ rest)
    × Tells fs f (taken + 1) ms cs rest)

-- the entry is put behind the others: a change among the changes, the answer to a check among the frames
abbrev pub Notes : Entry → ℕ → (cs : List TextChange) (frames : List HFrame) (ds : List TextChange) (more : List HFrame) → Type 0
Notes (entry.Change c) taken cs frames ds more = (ds ≡ cs ++ c ∷ []) × (more ≡ frames)
Notes (entry.Check g) taken cs frames ds more = (ds ≡ cs) × (more ≡ frames ++ checked taken g ∷ [])

-- 1 where the message types or cuts, else 0
abbrev pub edits_by : Tmesg → ℕ
edits_by m = if is_some (edited_file m) then 1 else 0

-- how many of the messages type or cut
abbrev pub edits_in : List Tmesg → ℕ
edits_in [] = 0
edits_in (m ∷ ms) = edits_by m + edits_in ms
