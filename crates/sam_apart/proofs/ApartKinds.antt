-- What a host answers and what a terminal composes fits at its place of the stream: a case for each message and for each event.
use Rattle.sam_apart.proofs.Common.{◌≡◌, ◌≤◌, sym, subst, with_given, may_join, HostRunsWith, Asides, Aside, Joins, Marks, after_aside, aside_frames, may_do, version_after-append, ℕ, false, List, [], ◌∷◌, ◌++◌, Option, Some, None, Ok, refl, arith, drop, after_h, HFrame, after_t, Tmesg, host, terminal, version_after, PlainHost, Reply, answer, host_checks, told_names, stamped, reply_version, reply_to, IsSound, FitInPlace, frames_fit, reply_stands, stays_sound, PlainTerminal, Made, flushed, sends, sends_all, sends_if, unchanged, requested, request_for, requests_for, gaps_shown, all_wanted, event_outcome, made_by_type, made_by_cut, made_by_paste, made_by_snarf, made_by_view, made_by_load, made_by_edit, event_checks, has_long_text, act_of, act_on, decided, flush_of, take_of, Acted, UserEvent, Each, HostRuns, composed_by, sides}
use Rattle.std.specs.Prelude.{Bool, true, not, ◌==◌, ◌&&◌, if◌then◌else◌, length}
use Rattle.sam_text.specs.Files.{file_at}
use Rattle.sam_host.proofs.SoundLaws.{marks_keep_sound}
unfoldable use Rattle.sam_host.specs.Host.{when}
use Rattle.sam_mesg.specs.declared.hmesg.Hmesg.TheVariants.{Hdirty}
use Rattle.sam_runes.specs.Checks.{first_of_checks}
use Rattle.sam_runes.specs.Texts.{common_version, is_empty}
use Rattle.sam_runes.proofs.CheckLaws.{none_holds}
use Rattle.sam_mesg.specs.declared.hmesg.Hmesg.{Hmesg}
use Rattle.sam_mesg.specs.declared.hmesg.Hmesg.TheVariants.{Hversion, Hunlock, Hack}
use Rattle.sam_mesg.specs.declared.tmesg.Tmesg.TheVariants.{Tversion, Tcut}
use Rattle.sam_crossing.proofs.Versions.{IsPlain, plain_frames, reply_plain}
use Rattle.sam_host.proofs.EachFrame.{reply_each}
use Rattle.sam_term.specs.declared.event.Verdict.{Verdict}
use Rattle.sam_term.proofs.Acts.{none_holds as none_at, test_at}
use Rattle.sam_crossing.proofs.RunLaws.{counted-result}
use Rattle.sam_term.specs.Editing.{shown_from}
use Rattle.sam_term.specs.Term.{edit_messages, pieces, replaced, typed_pieces}
use Rattle.sam_term.specs.declared.event.UserEvent.TheVariants.{Load, Edit}
use Rattle.sam_apart.proofs.RealLaws.{answered_as}
use Rattle.sam_text.specs.Files.{PlainFile}
use Rattle.sam_text.proofs.FitLaws.{all-put, fit-put}
use Rattle.sam_host.specs.Host.{given_file}
use Rattle.sam_runes.specs.Texts.{max_runes, most_in_name}
use Rattle.sam_apart.proofs.ApartTurns.{InTurn, InTurn-append, IsFree, free_turn}

-- ## What the host answers: its version is that after its answers

-- what a reply to a message says of the version: that of a version message, and otherwise nothing
record TellsVersion (h : PlainHost) (m : Tmesg) (r : Reply) : Type 0 where
  behind : (seen : ℕ) → version_after host h.version (stamped seen r.1) ≡ r.0.version
  past : after_t h.version m ≡ r.0.version

plain-stamped : (v seen : ℕ) (ms : List Hmesg) → IsPlain ms → version_after host v (stamped seen ms) ≡ v
plain-stamped v seen [] p = refl
plain-stamped v seen (m ∷ ms) p = grind (arith, (plain-stamped v seen ms p.1))

-- a reply that says nothing of the version, and leaves it
kept : (h : PlainHost) (m : Tmesg) (r : Reply) → after_t h.version m ≡ h.version → IsPlain r.1 → r.0.version ≡ after_t h.version m → TellsVersion h m r
kept h m r same plain version = grind (arith, plain-stamped)

tells_version : (h : PlainHost) (v : ℕ) → first_of_checks (host_checks h (Tversion v)) ≡ None → TellsVersion h (Tversion v) (reply_version h v)
unfolding reply_version
tells_version h v e = grind (
  arith,
  none_holds,
  (reply_each plain_frames h (Tversion v)),
  (λ (seen : ℕ). plain-stamped (after_h h.version (Hversion (common_version v))) seen (told_names 1 (drop 1 h.files.slots) ++ Hack ∷ Hunlock ∷ [])),
)

tells : (h : PlainHost) (m : Tmesg) → first_of_checks (host_checks h m) ≡ None → TellsVersion h m (reply_to h m)
tells h (Tversion v) e = tells_version h v e
tells h m e = kept h m (reply_to h m) refl (reply_plain h m) (reply_stands h m e).1

-- ## Every answer

-- the version after the frames of an answer is the host's, and after the message too unless the host is done
pub record Answered (h : PlainHost) (m : Tmesg) (r : PlainHost × List HFrame) : Type 0 where
  pub behind : version_after host h.version r.1 ≡ r.0.version
  pub past : r.0.is_done ≡ false → (h.is_done ≡ false) × (after_t h.version m ≡ r.0.version)

pub answered : (h : PlainHost) (m : Tmesg) (r : PlainHost × List HFrame) → answer h m ≡ Ok r → Answered h m r
unfolding answer
answered h m r e = grind (arith, (tells h m))

place_turn : (v : ℕ) (fs : List HFrame) → FitInPlace v fs → InTurn host v fs
place_turn v [] p = tt
place_turn v (f ∷ fs) p = ((λ g. record { is_message = g.is_message; fits = p.0 }), place_turn (after_h v f.msg) fs p.2)

-- what a sound host answers to messages one after another
pub answers_turn : (ms : List Tmesg) (h k : PlainHost) (fs : List HFrame) → IsSound h → HostRuns sides h ms fs k → InTurn host h.version fs
answers_turn [] h k fs s r = grind arith
answers_turn (m ∷ ms) h k fs s r = grind (
  arith,
  (answered_as (answer h m) (r.0, r.1) r.3),
  place_turn,
  (frames_fit h r.0 m r.1),
  (stays_sound h r.0 m r.1),
  (answered h m (r.0, r.1)),
  (InTurn-append host h.version r.1 r.2),
  (answers_turn ms r.0 k r.2),
)

-- ## Files that join between answers

version_then : (ms : List Tmesg) (h k : PlainHost) (fs : List HFrame) → HostRuns sides h ms fs k → version_after host h.version fs ≡ k.version
version_then [] h k fs r = grind arith
version_then (m ∷ ms) h k fs r = grind (
  arith,
  (answered_as (answer h m) (r.0, r.1) r.3),
  (answered h m (r.0, r.1)),
  (version_after-append host h.version r.1 r.2),
  (version_then ms r.0 k r.2),
)

sound_then : (ms : List Tmesg) (h k : PlainHost) (fs : List HFrame) → IsSound h → HostRuns sides h ms fs k → IsSound k
sound_then [] h k fs s r = grind arith
sound_then (m ∷ ms) h k fs s r = sound_then ms r.0 k r.2 (stays_sound h r.0 m r.1 (answered_as (answer h m) (r.0, r.1) r.3) s) r.5

-- a host stays sound where a file joins
sound_joined : (h : PlainHost) (file : List ℕ × List ℕ) → may_join h file.0 file.1 ≡ true → IsSound h → IsSound (with_given h file)
sound_joined h file may s =
    let x = given_file file in
    let short : length file.0 ≤ most_in_name = grind (arith, may) in
    let fits : length file.1 ≤ max_runes = grind (arith, may) in record {
      names = all-put (λ (other : PlainFile). length other.name ≤ most_in_name) h.files (length h.files.slots) x s.names short;
      files = fit-put h.files (length h.files.slots) x s.files (omega arith, omega arith, fits);
      version = s.version;
    }

-- and where one is marked
sound_aside : (h : PlainHost) (a : Aside) → may_do h a ≡ true → IsSound h → IsSound (after_aside h a)
sound_aside h (Joins file) may s = sound_joined h file may s
sound_aside h (Marks f) may s = marks_keep_sound h f s

-- a mark tells nothing of the version, and its frame fits in each
record IsLight (h : PlainHost) (a : Aside) : Type 0 where
  turn : InTurn host h.version (aside_frames h a)
  same : version_after host h.version (aside_frames h a) ≡ (after_aside h a).version

light : (h : PlainHost) (a : Aside) → IsLight h a
unfolding when
light h (Joins file) = record { turn = tt; same = refl }
light h (Marks f) = record { turn = turn (not (file_at h.files f).dirty && not (f == 0)); same = same (not (file_at h.files f).dirty && not (f == 0)) }
  where
    turn : (b : Bool) → InTurn host h.version (stamped h.taken (when b (Hdirty f ∷ [])))
    turn true = ((λ g. record { is_message = g.is_message; fits = refl }), tt)
    turn false = tt

    same : (b : Bool) → version_after host h.version (stamped h.taken (when b (Hdirty f ∷ []))) ≡ h.version
    same true = refl
    same false = refl

-- what a sound host answers while files join it or are marked
pub joining_turn : (asides : Asides) (ms : List Tmesg) (h k : PlainHost) (fs : List HFrame) → IsSound h → HostRunsWith h asides ms fs k → InTurn host h.version fs
joining_turn [] ms h k fs s r = answers_turn ms h k fs s r
joining_turn (j ∷ asides) ms h k fs s (before, after, first, rest, g, whole, frames, runs, count, may, more) =
    let sound = sound_aside g j.1 may (sound_then before h g first s runs) in
    let l = light g j.1 in
    let later =
    InTurn-append host g.version (aside_frames g j.1) rest l.turn (subst (λ (v : ℕ). InTurn host v rest) (sym l.same) (joining_turn asides after (after_aside g j.1) k rest sound more)) in
    subst (InTurn host h.version) (sym frames)
    (InTurn-append host h.version first (aside_frames g j.1 ++ rest) (answers_turn before h g first s runs)
    (subst (λ (v : ℕ). InTurn host v (aside_frames g j.1 ++ rest)) (sym (version_then before h g first runs)) later))

-- ## What the terminal composes: only a snarf text has a limit that the version changes, and it is composed where the terminal may act

abbrev AllFree : List Tmesg → Type 0
AllFree ms = Each IsFree ms

free-append : (ms ns : List Tmesg) → AllFree ms → AllFree ns → AllFree (ms ++ ns)
free-append [] ns a b = b
free-append (m ∷ ms) ns a b = (a.0, free-append ms ns a.1 b)

free-flushed : (t : PlainTerminal) → AllFree (flushed t).1
unfolding flushed
free-flushed t = grind arith

free-sends : (t : PlainTerminal) (change : PlainTerminal → PlainTerminal) (ms : List Tmesg) → AllFree ms → AllFree (sends t change ms).1
free-sends t change ms p = grind (arith, free-append, free-flushed)

free-sends_if : (t : PlainTerminal) (o : Option (ℕ × ℕ)) (f : ℕ) → AllFree (sends_if (request_for f o) t).1
free-sends_if t None f = tt
free-sends_if t (Some h) f = free-sends t (λ u. u) _ (tt, tt)

free-requested : (t : PlainTerminal) (f : ℕ) → AllFree (requested t f).1
unfolding requested
free-requested t f = grind (arith, free-sends_if)

free-requests : (f : ℕ) (xs : List (ℕ × ℕ)) → AllFree (requests_for f xs)
free-requests f [] = tt
free-requests f (x ∷ xs) = (tt, free-requests f xs)

free-sends_all : (ms : List Tmesg) (t : PlainTerminal) → AllFree ms → AllFree (sends_all ms t).1
free-sends_all [] t p = tt
free-sends_all (m ∷ ms) t p = free-sends t unchanged (m ∷ ms) p

free-wanted : (t : PlainTerminal) (f : ℕ) → AllFree (all_wanted t f)
unfolding all_wanted
free-wanted t f = free-requests f (gaps_shown t f)

free-pieces : (f : ℕ) (xs : List (ℕ × List ℕ)) → AllFree (typed_pieces f xs)
free-pieces f [] = tt
free-pieces f (x ∷ xs) = (tt, free-pieces f xs)

free-edit : (f p q : ℕ) (s : List ℕ) → AllFree (edit_messages f p q s)
free-edit f p q s = by (p == q)
  where
    by : (none : Bool) → AllFree ((if none then [] else Tcut f p q ∷ []) ++ typed_pieces f (pieces (length s) p s))
    by true = free-pieces f (pieces (length s) p s)
    by false = (tt, free-pieces f (pieces (length s) p s))

free-edited : (t : PlainTerminal) (f p q : ℕ) (s : List ℕ) → AllFree (made_by_edit t f p q s).1
unfolding made_by_edit
free-edited t f p q s = by (p == q && is_empty s)
  where
    by : (none : Bool) → AllFree (if none then (t, []) else sends t (λ u. replaced u f p q s) (edit_messages f p q s)).1
    by true = tt
    by false = free-sends t (λ u. replaced u f p q s) (edit_messages f p q s) (free-edit f p q s)

-- what an event composes at a place with the terminal's version
event_turn : (t : PlainTerminal) (e : UserEvent) (v : ℕ) → has_long_text t e ≡ false → v ≡ t.version → InTurn terminal v (event_outcome t e).1
unfolding made_by_type made_by_cut made_by_paste made_by_snarf made_by_view made_by_load flushed
event_turn t (Load f p n) v u w =
    free_turn v (event_outcome t (Load f p n)).1 (free-sends_all (all_wanted (shown_from t f p n) f) (shown_from t f p n) (free-wanted (shown_from t f p n) f))
event_turn t (Edit f p q s) v u w = free_turn v (made_by_edit t f p q s).1 (free-edited t f p q s)
event_turn t e v u w = grind (arith, free_turn, free-append, free-sends, free-requested, free-flushed)

-- ## Acts, flushes and frames

-- where the terminal may act, it has the version of the place
pub act_turn : (t : PlainTerminal) (r : PlainTerminal × Acted) (v : ℕ) → (t.command_lock ≡ false → t.has_exited ≡ false → v ≡ t.version) → act_of t ≡ Ok r
    → InTurn terminal v (composed_by r.1)
unfolding act_of test_at
act_turn t r v place e = go t.held e
  where
    verdict : (o : Option Verdict) (x : UserEvent) (es : List UserEvent) → first_of_checks (event_checks t x) ≡ o
        → decided o t es (event_outcome (record t { held = es }) x) ≡ Ok r → InTurn terminal v (composed_by r.1)
    verdict o x es n q = grind (
      arith,
      (counted-result {A = PlainTerminal × Acted} (event_outcome (record t { held = es }) x).0.sent),
      (none_at (event_checks t x) 0),
      (none_at (event_checks t x) 1),
      (none_at (event_checks t x) 8),
      (event_turn (record t { held = es }) x v),
    )

    go : (es : List UserEvent) → act_on t es ≡ Ok r → InTurn terminal v (composed_by r.1)
    go es e = grind (arith, verdict)

pub flush_turn : (t : PlainTerminal) (r : Made) (v : ℕ) → flush_of t ≡ Ok r → InTurn terminal v r.1
unfolding flush_of
flush_turn t r v e = grind (arith, free_turn, free-flushed)

pub take_turn : (t : PlainTerminal) (frame : HFrame) (r : Made) (v : ℕ) → take_of t frame ≡ Ok r → InTurn terminal v r.1
unfolding take_of
take_turn t frame r v e = grind (arith, free_turn, free-requested, (λ (u : PlainTerminal). free-sends u unchanged))
