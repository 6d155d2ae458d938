-- In every state of every run, what is under way is within the limits; and one step more is a run.
use Rattle.sam_world.proofs.Common.{◌≡◌, ℕ, ◌≤◌, length, sym, subst, List, [], ◌∷◌, ◌++◌, Some, Ok, arith, most_in_name, PlainFile, All, IsTrue, PlainHost, answer, IsSound, starts_sound, stays_sound, frames_fit, fits_h, HFrame, Tmesg, PlainWorld, new_world, step_of, run_of, WasReached, Event, Add, Mark}
use Rattle.sam_host.proofs.FrameFits.{fit_in_last}
use Rattle.sam_runes.specs.Texts.{max_runes}
use Rattle.sam_text.proofs.FitLaws.{all-put, fit-put}
use Rattle.sam_host.specs.Host.{with_given, given_file}
use Rattle.sam_crossing.proofs.RunLaws.{run_keeps}
use Rattle.sam_host.proofs.SoundLaws.{marks_keep_sound}
use Rattle.sam_crossing.proofs.OrderLaws.{joins_step, marks_step}
use Rattle.sam_crossing.proofs.Known.{IsShown}
use Rattle.sam_host.specs.Marking.{marked}

-- ## One step more is a run

run-last : (w v u : PlainWorld) (es : List Event) (e : Event) → run_of w es ≡ Some v → step_of v e ≡ Some u → run_of w (es ++ e ∷ []) ≡ Some u
run-last w v u [] e r s = grind arith
run-last w v u (x ∷ es) e r s = grind (arith, (λ (n : PlainWorld) (q : run_of n es ≡ Some v). run-last n v u es e q s))

pub reached_step : (w next : PlainWorld) (e : Event) → WasReached w → step_of w e ≡ Some next → WasReached next
reached_step w next e r s = grind (arith, (run-last (new_world r.given) w next r.reached.0 e r.reached.1 s))

-- ## What each answer keeps of the host, each step keeps

-- and with each file that joins or is marked
pub host_step : (P : PlainHost → Type 0) → ((h g : PlainHost) (m : Tmesg) (frames : List HFrame) → answer h m ≡ Ok (g, frames) → P h → P g)
    → ((h : PlainHost) (name text : List ℕ) → length name ≤ most_in_name → length text ≤ max_runes → P h → P (with_given h (name, text)))
    → ((h : PlainHost) (f : ℕ) → IsShown h.files f → P h → P (marked h f))
    → (w : PlainWorld) (e : Event) (next : PlainWorld) → P w.host → step_of w e ≡ Some next → P next.host
host_step P keeps adds marks w (Add name text) next s q =
    let j = joins_step w next name text q in subst (λ (v : PlainWorld). P v.host) (sym j.is) (adds w.host name text j.short.0 j.short.1 s)
host_step P keeps adds marks w (Mark f) next s q =
    let m = marks_step w next f q in subst (λ (v : PlainWorld). P v.host) (sym m.is) (marks w.host f m.shown s)
host_step P keeps adds marks w e next s q = grind (arith, (λ (h : PlainHost) (m : Tmesg) (r : PlainHost × List HFrame). keeps h r.0 m r.1))

-- ## The host of a world is sound

-- so it is with a file that joins
added_sound : (h : PlainHost) (name text : List ℕ) → length name ≤ most_in_name → length text ≤ max_runes → IsSound h → IsSound (with_given h (name, text))
added_sound h name text short long s =
    let x = given_file (name, text) in record {
      names = all-put (λ (file : PlainFile). length file.name ≤ most_in_name) h.files (length h.files.slots) x s.names short;
      files = fit-put h.files (length h.files.slots) x s.files (omega arith, omega arith, long);
      version = s.version;
    }

pub reached_sound : (w : PlainWorld) → WasReached w → IsSound w.host
reached_sound w r =
    run_keeps (λ v. IsSound v.host) (host_step IsSound stays_sound added_sound (λ h f shown s. marks_keep_sound h f s)) (new_world r.given) r.reached.0 w (starts_sound r.given r.limits) r.reached.1

-- what the host of a world answers is within the limits
pub answered_fits : (w : PlainWorld) (g : PlainHost) (m : Tmesg) (frames : List HFrame) → WasReached w → answer w.host m ≡ Ok (g, frames) → All (λ frame. IsTrue (fits_h 2 frame.msg)) frames
answered_fits w g m frames r a = fit_in_last w.host.version frames (frames_fit w.host g m frames a (reached_sound w r))
