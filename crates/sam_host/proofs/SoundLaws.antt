-- The host stays sound, and its answers are counted.
use Rattle.sam_host.proofs.Common.{◌≡◌, ℕ, suc, ◌+◌, ◌≤◌, List, [], ◌∷◌, length, Option, None, Ok, Err, refl, ap, subst, arith, unwrap_or, All, All-nil, All-cons, most_in_name, slot, first_of_checks, none_holds, opened_file, written_file, PlainFile, PlainFiles, PlainOutcome, blank_file, file_at, put_file, typed_file, cut_file, pasted_file, put_outcome, HasShortName, IsFit, AreFit, AreSoundFiles, HasShortParts, line_short, named-within, after_t, Tmesg, Hmesg, HFrame, PlainHost, IsVersion, Answer, answer, counted, stamped, host_checks, new_file, given_slots, reply_to, AreNamesShort, IsSound, AreGiven, StartsSound, StaysSound, FramesFit, AnswersAreCounted, IsSilentWhereDone, FitInPlace}
use Rattle.sam_text.specs.Files.{dirty_file}
use Rattle.sam_host.specs.Marking.{MarksKeepSound}
use Rattle.sam_text.proofs.FitLaws.{all-put, fit-put, fit-typed, fit-cut, fit-pasted, fit-print, fit-committed}
use Rattle.sam_text.proofs.KeptLaws.{all-free, all-announce}
use Rattle.sam_host.proofs.EachFrame.{replies_opened}
use Rattle.sam_host.proofs.Keeping.{IsKept, reply_keeps}
use Rattle.sam_host.proofs.FrameFits.{reply_frames_fit}

-- ## Names

abbrev IsShort : Option PlainFile → Type 0
IsShort o = length (unwrap_or o blank_file).name ≤ most_in_name

names-put : (fs : PlainFiles) (g : ℕ) (x : PlainFile) → AreNamesShort fs → length x.name ≤ most_in_name → AreNamesShort (put_file fs g x)
names-put fs g x all short = all-put HasShortName fs g x all short

names-outcome : (x : Option ℕ) (fs : PlainFiles) (o : PlainOutcome) → AreNamesShort fs → HasShortParts o → AreNamesShort (put_outcome x fs o)
names-outcome x fs o e u = grind (arith, names-put, named-within)

names_kept : IsKept AreNamesShort
names_kept = grind (arith, (all-announce HasShortName), names-put, (all-free HasShortName), names-outcome, line_short)

reply_names : (h : PlainHost) (m : Tmesg) → first_of_checks (host_checks h m) ≡ None → AreNamesShort h.files → AreNamesShort (reply_to h m).0.files
reply_names h m e all = reply_keeps AreNamesShort names_kept h m e (λ f is. names-put h.files f (opened_file (file_at h.files f)) all (all f)) all

-- ## Dots and lengths

fits_kept : IsKept AreFit
fits_kept = record {
  announced = λ fs all. all-announce IsFit (λ x k. k) fs.slots all;
  shown = λ fs all. fit-put fs 0 (opened_file (file_at fs 0)) all (all 0);
  selected = λ fs f p q shown within all. fit-put fs f (record (file_at fs f) { dot = (p, q) }) all (within.0, within.1, (all f).2);
  typed = λ fs f p s place room all. fit-put fs f (typed_file f (file_at fs f) p s) all (fit-typed f (file_at fs f) p s place room);
  cut = λ fs f p q within all. fit-put fs f (cut_file f (file_at fs f) p q) all (fit-cut f (file_at fs f) p q within.0 within.1 (all f).2);
  pasted = λ fs f p s place room all. fit-put fs f (pasted_file f (file_at fs f) p s) all (fit-pasted f (file_at fs f) p s place room);
  snarfed = λ fs s all. all;
  created = λ fs all. fit-put fs (length fs.slots) new_file all (omega arith, omega arith, omega arith);
  written = λ fs f all. fit-put fs f (written_file (file_at fs f)) all (all f);
  closed = λ fs f all. all-free IsFit fs f (omega arith, omega arith, omega arith) all;
  marked = λ fs f d within all. fit-put fs f (record (file_at fs f) { dot = d }) all (within.0, within.1, (all f).2);
  sought = λ fs lit all. all;
  printed = fit-print;
  run = fit-committed;
}

-- files stay fit under each message that is not refused
pub reply_fits : (h : PlainHost) (m : Tmesg) → first_of_checks (host_checks h m) ≡ None → AreFit h.files → AreFit (reply_to h m).0.files
reply_fits h m e all = reply_keeps AreFit fits_kept h m e (λ f is. fit-put h.files f (opened_file (file_at h.files f)) all (all f)) all

-- ## The count and the version

-- no reply changes the count, and only that to Tversion the version
pub reply_stands : (h : PlainHost) (m : Tmesg) → first_of_checks (host_checks h m) ≡ None
    → ((reply_to h m).0.taken ≡ h.taken) × ((reply_to h m).0.version ≡ after_t h.version m)
unfolding replies_opened
reply_stands h m e = grind (arith, none_holds)

reply_version-is : (h : PlainHost) (m : Tmesg) → first_of_checks (host_checks h m) ≡ None → IsVersion h.version → IsVersion (reply_to h m).0.version
unfolding replies_opened
reply_version-is h m e u = grind (arith, reply_stands)

-- ## What stands of every answer

abbrev pub IfAnswer : (PlainHost → List HFrame → Type 0) → Answer → Type 0
IfAnswer P (Ok x) = P x.0 x.1
IfAnswer P (Err why) = Unit {0}

pub answer_is : (P : PlainHost → List HFrame → Type 0) (h : PlainHost) (m : Tmesg) → P (counted h) []
    → (first_of_checks (host_checks h m) ≡ None → P (counted (reply_to h m).0) (stamped ((reply_to h m).0.taken + 1) (reply_to h m).1))
    → IfAnswer P (answer h m)
unfolding answer
answer_is P h m silent reply = grind arith

pub of_answer : (P : PlainHost → List HFrame → Type 0) (h g : PlainHost) (m : Tmesg) (frames : List HFrame) → answer h m ≡ Ok (g, frames) → IfAnswer P (answer h m) → P g frames
of_answer P h g m frames e holds = subst (IfAnswer P) e holds

all-seen : (seen : ℕ) (ms : List Hmesg) → All (λ (frame : HFrame). frame.seen ≡ seen) (stamped seen ms)
all-seen seen [] = All-nil (λ (frame : HFrame). frame.seen ≡ seen)
all-seen seen (m ∷ ms) = All-cons (λ (frame : HFrame). frame.seen ≡ seen) (record { seen = seen; msg = m }) (stamped seen ms) refl (all-seen seen ms)

-- ## The laws

pub known_sound : (h : PlainHost) → AreSoundFiles h.files → IsVersion h.version → IsSound h
known_sound h (tags, command, work, snarf, pattern, fit, short, clean) version = record { names = short; files = fit; version = version }

pub stays_sound : StaysSound
stays_sound h g m frames e sound =
    let P : PlainHost → List HFrame → Type 0 = λ g frames. IsSound g in
    of_answer P h g m frames e
    (answer_is P h m (record { names = sound.names; files = sound.files; version = sound.version })
    (λ allowed. record {
      names = reply_names h m allowed sound.names;
      files = reply_fits h m allowed sound.files;
      version = reply_version-is h m allowed sound.version;
    }))

pub marks_keep_sound : MarksKeepSound
marks_keep_sound h f sound = record {
  names = names-put h.files f (dirty_file (file_at h.files f)) sound.names (sound.names f);
  files = fit-put h.files f (dirty_file (file_at h.files f)) sound.files (sound.files f);
  version = sound.version;
}

pub frames_fit : FramesFit
frames_fit h g m frames e sound =
    let P : PlainHost → List HFrame → Type 0 = λ g frames. FitInPlace h.version frames in
    of_answer P h g m frames e (answer_is P h m tt (λ allowed. reply_frames_fit h m ((reply_to h m).0.taken + 1) sound.names))

pub answers_are_counted : AnswersAreCounted
answers_are_counted h g m frames e =
    let P : PlainHost → List HFrame → Type 0 = λ g frames. (g.taken ≡ h.taken + 1) × All (λ (frame : HFrame). frame.seen ≡ g.taken) frames in
    of_answer P h g m frames e
    (answer_is P h m (refl, All-nil (λ (frame : HFrame). frame.seen ≡ h.taken + 1))
    (λ allowed. (ap (λ n. n + 1) (reply_stands h m allowed).0, all-seen ((reply_to h m).0.taken + 1) (reply_to h m).1)))

pub is_silent_where_done : IsSilentWhereDone
unfolding answer
is_silent_where_done h m done less = grind arith

start-names : (given : List (List ℕ × List ℕ)) → AreGiven given → (f : ℕ) → IsShort (slot (given_slots given) f)
start-names (x ∷ xs) h (suc f) = start-names xs h.2 f
start-names given e f = grind arith

start-fits : (given : List (List ℕ × List ℕ)) → AreGiven given → (f : ℕ) → IsFit (unwrap_or (slot (given_slots given) f) blank_file)
start-fits (x ∷ xs) h (suc f) = start-fits xs h.2 f
start-fits given e f = grind arith

pub starts_sound : StartsSound
starts_sound given h = grind (arith, start-names, start-fits)
