-- The answer to Tversion: from synced to synced.
use Rattle.sam_crossing.proofs.Common.{◌≡◌, ℕ, zero, suc, ◌+◌, ◌<◌, Bool, true, false, not, ◌==◌, if◌then◌else◌, List, [], ◌∷◌, ◌++◌, length, drop, Option, Some, None, refl, arith, eq-eqb, nat_lt, option_map, unwrap_or, common_version, Slots, slot, slot-map, length-map_slots, PlainFile, PlainFiles, blank_file, announced_file, announce_all, Tversion, Hmesg, Hversion, Hnewname, Hmovname, Hack, Hunlock, PlainHost, when, told_names, reply_version, Slot, lens, Skip, Change, Free_command, HFile, Fits_slot, ComesToSync, at_file, file_of, file_of_slot, file_in, OpenAnnounced}
use Rattle.sam_crossing.proofs.Lenses.{AreSkips}
use Rattle.sam_crossing.proofs.Accepting.{Synced, Accepted, Ready}
use Rattle.sam_crossing.proofs.HostFiles.{Lasts, still_has}
use Rattle.sam_crossing.proofs.Tests.{last_test}
use Rattle.sam_crossing.proofs.Guards.{kept_then, at_file-append, skips-append}
use Rattle.sam_crossing.proofs.Commands.{Moves, stays_put, and_moves, sync_by}

-- the two frames about a file that was not announced
names_of : ℕ → PlainFile → List Hmesg
names_of k x = Hnewname k ∷ Hmovname k x.name ∷ []

one_skips : (g k : ℕ) (x : PlainFile) (b : Bool) → (g == k) ≡ false → AreSkips (at_file g (when b (names_of k x)))
unfolding when names_of
one_skips g k x b e = grind arith

-- of a tag before the first nothing is told
names_skip : (g k : ℕ) (ss : Slots PlainFile) → g < k → AreSkips (at_file g (told_names k ss))
unfolding told_names names_of
names_skip g k [] l = tt
names_skip g k (None ∷ ss) l = names_skip g (1 + k) ss (omega (arith, l))
names_skip g k (Some x ∷ ss) l = rw (at_file-append g (when (not x.announced) (names_of k x)) (told_names (1 + k) ss))
    (skips-append _ _ (one_skips g k x _ (grind arith)) (names_skip g (1 + k) ss (omega (arith, l))))

-- a file that was not announced is now
one_moves : (d : Bool) (n g k : ℕ) (x : PlainFile) (s : Slot) → (g == k) ≡ true → OpenAnnounced x → Fits_slot s (file_of x)
    → Moves (at_file g (when (not x.announced) (names_of k x))) d n s (file_of (announced_file x))
unfolding when names_of
one_moves d n g k x s e a y = grind arith

announced_slot : (given : Bool) (s : Option PlainFile) → HFile
announced_slot given s = file_of_slot given (option_map announced_file s)

-- the names from tag k on, at the file k + i
names_move : (d : Bool) (n k i g : ℕ) (ss : Slots PlainFile) (given : Bool) (s : Slot) → g ≡ k + i → ((j : ℕ) → OpenAnnounced (unwrap_or (slot ss j) blank_file))
    → Fits_slot s (file_of_slot given (slot ss i)) → Moves (at_file g (told_names k ss)) d n s (announced_slot given (slot ss i))
unfolding told_names names_of announced_slot
names_move d n k i g [] given s e a y = stays_put [] d n s _ tt y
names_move d n k zero g (None ∷ ss) given s e a y = stays_put _ d n s _ (names_skip g (1 + k) ss (omega (arith, e))) y
names_move d n k (suc i) g (None ∷ ss) given s e a y = names_move d n (1 + k) i g ss given s (omega (arith, e)) (λ j. a (suc j)) y
names_move d n k zero g (Some x ∷ ss) given s e a y = rw (at_file-append g (when (not x.announced) (names_of k x)) (told_names (1 + k) ss))
    (and_moves _ _ d n s _ _ (one_moves d n g k x s (eq-eqb g k (omega (arith, e))) (a 0) y) (λ s2 z. stays_put _ d n s2 _ (names_skip g (1 + k) ss (omega (arith, e))) z))
names_move d n k (suc i) g (Some x ∷ ss) given s e a y = rw (at_file-append g (when (not x.announced) (names_of k x)) (told_names (1 + k) ss))
    (and_moves _ _ d n s _ _ (stays_put _ d n s _ (one_skips g k x _ (grind arith)) y) (λ s2 z. names_move d n (1 + k) i g ss given s2 (omega (arith, e)) (λ j. a (suc j)) z))

shown : (ss : Slots PlainFile) (g : ℕ) → file_in (announce_all ss) g ≡ (if g == 0 then file_in ss g else announced_slot (nat_lt g (length ss)) (slot ss g))
unfolding announced_slot
shown ss g = grind (arith, ss, nat_lt, length-map_slots, slot-map)

pub sync_version : (h : PlainHost) → Ready h → (v : ℕ) → Accepted h (Tversion v) → Synced h (Tversion v)
unfolding reply_version announced_slot
sync_version h r v l = grind (arith, sync_by, last_test, each, still_has, lasts)
  where
    ss : Slots PlainFile
    ss = h.files.slots

    out : PlainFiles
    out = record h.files { slots = announce_all ss }

    names : List Hmesg
    names = told_names 1 (drop 1 ss)

    behind : (ss : Slots PlainFile) (f : ℕ) → slot (drop 1 ss) f ≡ slot ss (suc f)
    behind ss f = grind (arith, ss)

    moves : (g : ℕ) (s : Slot) → Fits_slot s (file_in ss g) → Moves (at_file g names) h.is_done (common_version v) s (file_in out.slots g)
    moves zero s y = rw (shown ss 0) (stays_put _ _ _ s _ (names_skip 0 1 (drop 1 ss) (omega arith)) y)
    moves (suc g) s y =
        let later : file_in out.slots (suc g) ≡ announced_slot (nat_lt (suc g) (length ss)) (slot ss (suc g)) = grind (arith, (shown ss (suc g))) in
        rw (later, ← behind ss g) (names_move h.is_done (common_version v) 1 g (suc g) (drop 1 ss) (nat_lt (suc g) (length ss)) s (omega arith)
        (λ f. rw (behind ss f) (r.steady.announced f)) (rw (behind ss g) y))

    each : (g : ℕ) (s : Slot) → Fits_slot s (file_in ss g) → ComesToSync (at_file g (Hversion (common_version v) ∷ (names ++ Hack ∷ Hunlock ∷ []))) (lens true h.is_done h.version s) h.is_done
        (common_version v) (file_in out.slots g)
    each g s y =
        let m = moves g s y in
        let first : (if common_version v == 0 then Skip else Change (common_version (common_version v))) ≡ Change (common_version v) = grind arith in
        rw (first, at_file-append g names (Hack ∷ Hunlock ∷ [])) (kept_then (Change (common_version v) ∷ at_file g names) (Skip ∷ Free_command ∷ []) _ _
        (lens false h.is_done (common_version v) m.slot) _ _ _ m.runs m.no_close refl (refl, refl, refl, m.fits) refl refl refl)

    lasts : Lasts (file_in ss) (file_in out.slots)
    lasts = grind (arith, (shown ss))
