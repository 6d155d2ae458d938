-- The frames of every answer fit.
use Rattle.sam_host.proofs.Common.{◌≡◌, ℕ, ◌≤◌, List, [], ◌∷◌, length, true, refl, arith, le-leb, snarf_limit, utf8_length, prefix_in_bytes, most_in_name, prefix_within, after_h, fits_h, Hmesg, Hsetsnarf, Tmesg, Tversion, Tstartsnarf, PlainHost, stamped, reply_version, reply_startsnarf, reply_to, AreNamesShort, FitInPlace, All, IsTrue, All-nil, HFrame}
use Rattle.sam_mesg.proofs.Versions.{grows_h}
use Rattle.sam_host.proofs.EachFrame.{EachFrame, AreFrames, reply_each}

-- a message that fits in every version
abbrev pub Always : Hmesg → Type 0
Always m = (v : ℕ) → fits_h v m ≡ true

pub all-stamped : (v seen : ℕ) (ms : List Hmesg) → EachFrame Always ms → FitInPlace v (stamped seen ms)
all-stamped v seen [] h = tt
all-stamped v seen (m ∷ ms) h = (h.0 v, h.0 2, all-stamped (after_h v m) seen ms h.1)

always : AreFrames Always (λ s. length s ≤ most_in_name)
always = grind arith

snarf-fits : (v : ℕ) (s : List ℕ) → fits_h v (Hsetsnarf (prefix_in_bytes s (snarf_limit v))) ≡ true
snarf-fits v s = le-leb (utf8_length (prefix_in_bytes s (snarf_limit v))) (snarf_limit v) (prefix_within s (snarf_limit v))

snarf-fits_later : (v : ℕ) (s : List ℕ) → fits_h 2 (Hsetsnarf (prefix_in_bytes s (snarf_limit v))) ≡ true
snarf-fits_later v s = grows_h v (Hsetsnarf (prefix_in_bytes s (snarf_limit v))) (snarf-fits v s)

-- the frames of each reply fit where they stand in the stream
pub reply_frames_fit : (h : PlainHost) (m : Tmesg) (seen : ℕ) → AreNamesShort h.files → FitInPlace h.version (stamped seen (reply_to h m).1)
unfolding reply_version reply_startsnarf
reply_frames_fit h (Tversion v) seen names = all-stamped h.version seen (reply_version h v).1 (λ v. refl, reply_each always h (Tversion v) names)
reply_frames_fit h Tstartsnarf seen names = (snarf-fits h.version h.files.snarf, snarf-fits_later h.version h.files.snarf, tt)
reply_frames_fit h m seen names = all-stamped h.version seen (reply_to h m).1 (reply_each always h m names)

-- frames that fit at their places fit in the last version
pub fit_in_last : (version : ℕ) (frames : List HFrame) → FitInPlace version frames → All (λ frame. IsTrue (fits_h 2 frame.msg)) frames
fit_in_last version [] fit = All-nil (λ (x : HFrame). IsTrue (fits_h 2 x.msg))
fit_in_last version (frame ∷ frames) fit = grind (arith, (fit_in_last (after_h version frame.msg) frames fit.2))
