-- What holds of every host.
use Rattle.std.specs.Prelude.{◌≡◌, ℕ, suc, true, false, ◌==◌, Some}
use Rattle.sam_text.specs.Files.{PlainFile, PlainFiles, file_at, AreFit}
use Rattle.sam_host.specs.Host.{PlainHost}
use Rattle.sam_crossing.specs.Lens.{IsOpened, IsCommandFile}
use Rattle.sam_crossing.specs.View.{file_in}

-- an open file was announced, but tag 0
abbrev pub OpenAnnounced : PlainFile → Type 0
OpenAnnounced x = x.opened ≡ true → x.announced ≡ true

abbrev pub AllOpenAnnounced : PlainFiles → Type 0
AllOpenAnnounced fs = (f : ℕ) → OpenAnnounced (file_at fs (suc f))

-- tag 0 is there, and the work file is open
pub record HasFiles (fs : PlainFiles) : Type 0 where
  pub works : (f : ℕ) → fs.work ≡ Some f → IsOpened (file_in fs.slots f) × ((f == 0) ≡ false)
  pub commands : IsCommandFile (file_in fs.slots 0)

-- what holds of every host: it has its files, the open ones were announced, texts are short and dots are ranges
pub record IsSteady (h : PlainHost) : Type 0 where
  pub sound : HasFiles h.files
  pub announced : AllOpenAnnounced h.files
  pub fit : AreFit h.files
