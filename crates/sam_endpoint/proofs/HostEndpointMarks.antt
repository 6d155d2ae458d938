-- Files of a host end that are marked as dirty.
use Rattle.sam_endpoint.proofs.Common.{◌≡◌, ap, subst, sym, ℕ, Bool, true, false, IsTrue, List, [], ◌∷◌, ◌++◌, refl, append-nil, arith, All-append, All-cons, All-nil, CanEncode, FitsH, HFrame, host, stream_of, FitFrames, PlainHost, PlainHostEndpoint, IsSound}
use Rattle.std.proofs.lemmas.List.Elements.{All-head}
use Rattle.sam_mesg.specs.declared.hmesg.Hmesg.TheVariants.{Hdirty}
use Rattle.sam_host.specs.Host.{stamped}
unfoldable use Rattle.sam_host.specs.Host.{when}
use Rattle.sam_host.specs.Marking.{mark_frames, marked}
use Rattle.sam_endpoint.specs.HostEndpoints.{with_mark}
use Rattle.sam_endpoint.specs.HostSteps.{written, written_behind}

abbrev Fits : HFrame → Type 0
Fits frame = IsTrue (host.fits 2 frame)

told_fits : (n f : ℕ) (tells : Bool) → CanEncode host (stamped n (when tells (Hdirty f ∷ [])))
unfolding when
told_fits n f true = All-cons Fits _ [] refl (All-nil Fits)
told_fits n f false = All-nil Fits

-- the frame of a mark fits, if there is one
pub mark_fits : (h : PlainHost) (f : ℕ) (frames : List HFrame) → frames ≡ mark_frames h f → CanEncode host frames
mark_fits h f frames is = subst (λ (l : List HFrame). CanEncode host l) (sym is) (told_fits h.taken f _)

-- and it can be written behind what is left over
pub mark_behind : (e : PlainHostEndpoint) (frame : HFrame) → IsSound e → FitFrames (frame ∷ []) → CanEncode host (e.unwritten ++ frame ∷ [])
mark_behind e frame sound fit =
    All-append Fits e.unwritten (frame ∷ []) sound.unwritten (All-cons Fits frame [] (All-head (FitsH 2) frame [] fit).fits (All-nil Fits))

pub none_behind : (e : PlainHostEndpoint) → written e ≡ written_behind e []
none_behind e = ap (λ (frames : List HFrame). record e { unwritten = []; pending_bytes = e.pending_bytes ++ stream_of host frames }) (sym (append-nil e.unwritten))

pub file_marked : (e k g : PlainHostEndpoint) (f : ℕ) (frames : List HFrame) (h : PlainHost) → frames ≡ mark_frames e.host f → k ≡ written_behind e frames
    → h ≡ marked k.host f → g ≡ record k { host = h } → g ≡ with_mark e f
file_marked e k g f frames h told wrote after is = grind arith

-- what writing the frame of a mark rests on, and marking
pub ruleset writes_marks = (mark_behind, none_behind)

pub ruleset marks_files = (mark_fits, file_marked)
