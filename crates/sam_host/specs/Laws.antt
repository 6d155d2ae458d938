-- What holds of the host in every state, and of the frames of every answer.
use Rattle.std.specs.Prelude.{◌≡◌, ℕ, ◌+◌, ◌≤◌, ◌==◌, List, [], ◌∷◌, ◌++◌, length, true, false, All, Ok}
use Rattle.sam_runes.specs.Texts.{most_count, max_runes, most_in_name}
use Rattle.sam_text.specs.Files.{PlainFiles, file_at, AreFit}
use Rattle.sam_mesg.specs.HostKinds.{after_h, fits_h}
use Rattle.sam_mesg.specs.declared.hmesg.HFrame.{HFrame}
use Rattle.sam_mesg.specs.declared.tmesg.Tmesg.{Tmesg}
use Rattle.sam_host.specs.Host.{PlainHost, IsVersion, answer, counted, new_host, with_given}

-- every name fits in a message
abbrev pub AreNamesShort : PlainFiles → Type 0
AreNamesShort fs = (f : ℕ) → length (file_at fs f).name ≤ most_in_name

-- names fit in a message, texts are within their limit with dots that are ranges of them, and the version is one of the two
pub record IsSound (h : PlainHost) : Type 0 where
  pub names : AreNamesShort h.files
  pub files : AreFit h.files
  pub version : IsVersion h.version

-- each frame fits in the version at its place, and in the last one
abbrev pub FitInPlace : ℕ → List HFrame → Type 0
FitInPlace version [] = Unit {0}
FitInPlace version (f ∷ fs) = (fits_h version f.msg ≡ true) × (fits_h 2 f.msg ≡ true) × FitInPlace (after_h version f.msg) fs

-- the names and texts that a host is made with are within their limits
abbrev pub AreGiven : List (List ℕ × List ℕ) → Type 0
AreGiven [] = Unit {0}
AreGiven (given ∷ more) = (length given.0 ≤ most_in_name) × (length given.1 ≤ max_runes) × AreGiven more

-- ## The laws

abbrev pub AddsGiven : Type 0
AddsGiven = (given : List (List ℕ × List ℕ)) (more : List ℕ × List ℕ) → with_given (new_host given) more ≡ new_host (given ++ more ∷ [])

abbrev pub StartsSound : Type 0
StartsSound = (given : List (List ℕ × List ℕ)) → AreGiven given → IsSound (new_host given)

abbrev pub StaysSound : Type 0
StaysSound = (h g : PlainHost) (m : Tmesg) (frames : List HFrame) → answer h m ≡ Ok (g, frames) → IsSound h → IsSound g

abbrev pub FramesFit : Type 0
FramesFit = (h g : PlainHost) (m : Tmesg) (frames : List HFrame) → answer h m ≡ Ok (g, frames) → IsSound h → FitInPlace h.version frames

abbrev pub AnswersAreCounted : Type 0
AnswersAreCounted =
    (h g : PlainHost) (m : Tmesg) (frames : List HFrame) → answer h m ≡ Ok (g, frames)
    → (g.taken ≡ h.taken + 1) × All (λ frame. frame.seen ≡ g.taken) frames

-- a host that is done answers no frame and changes nothing but its count
abbrev pub IsSilentWhereDone : Type 0
IsSilentWhereDone =
    (h : PlainHost) (m : Tmesg) → h.is_done ≡ true → (h.taken == most_count) ≡ false → answer h m ≡ Ok (counted h, [])
