-- The messages that lock their file: from synced to synced.
use Rattle.sam_crossing.proofs.Common.{map-append, common_steps, ◌≡◌, ℕ, ◌+◌, ◌≤◌, Bool, true, false, not, ◌||◌, ◌&&◌, ◌==◌, if◌then◌else◌, List, [], ◌∷◌, ◌++◌, length, map, Option, Some, None, refl, arith, append_assoc, eq-eqb, nat_lt, rules, IfSome, ltb-false, or_parts, Agrees, Range, ins, is_empty, part, max_runes, searched, first_of_checks, length-ins, InRange, searched_within, word_at_within, lines_before_within, PlainFile, file_at, pasted_file, searched_for, may_look, Tmesg, Trequest, Torigin, Tpaste, Twrite, Tlook, Tsearch, Tdclick, Hmesg, Hunlockfile, Hsetdot, Hmoveto, Hcheck, Hsetpat, Hdirty, PlainHost, Reply, host_checks, reply_to, with_file, with_files, when, grown, past_end, no_range, reply_found, reply_request, reply_origin, reply_paste, reply_write, reply_look, reply_search, reply_dclick, Open, lens, Action, Free_file, Opened, ComesToSync, at_file, only, file_in}
use Rattle.sam_crossing.proofs.Lenses.{AreSkips, request_actions}
use Rattle.sam_crossing.proofs.Changes.{Lock, change_by}
use Rattle.sam_crossing.proofs.Accepting.{Synced, Accepted, Ready}
use Rattle.sam_crossing.proofs.AllComeToSync.{kept_skips, kept_data}
use Rattle.sam_crossing.proofs.HostFiles.{put, put_again, put_opened, Opens}
use Rattle.sam_crossing.proofs.Tests.{open_tests, window_tests, place_test, range_test}
use Rattle.sam_crossing.proofs.Guards.{kept_then}
use Rattle.sam_crossing.proofs.Telling.{Told, Rewrites, rewrites_nothing, rewrites-append, tells_there, tells_elsewhere, told_nothing, told-append, told_if, told_grown, told_origin, told_move, told_dot, told_check, told_clean, told_dirty, told_pattern}

-- ## The shared ending: the frames tell of the file f, and then its lock is freed

-- what the host has after it: the file has this text, and all else is as it was
record HasText (h k : PlainHost) (f : ℕ) (text : List ℕ) : Type 0 where
  files : (g : ℕ) → file_in k.files.slots g ≡ put (file_in h.files.slots) f (Opened text) g
  work : k.files.work ≡ h.files.work
  done : k.is_done ≡ h.is_done
  version : k.version ≡ h.version

-- at the file the frames lead from one lock to none, and to a partial text that agrees; elsewhere they do nothing
record Freed (h : PlainHost) (f : ℕ) (r : Reply) : Type 0 where
  text : List ℕ
  has : HasText h r.0 f text
  here : (rasp : List (Option ℕ)) → Agrees rasp (file_at h.files f).text → ComesToSync (at_file f r.1) (lens false h.is_done h.version (Open rasp 1)) h.is_done h.version (Opened text)
  elsewhere : (g : ℕ) → (g == f) ≡ false → AreSkips (at_file g r.1)

-- a message that locks f, with such an answer
locks : (h : PlainHost) → Ready h → (m : Tmesg) (f : ℕ) → change_by m ≡ Lock f → Opens h.files f → first_of_checks (host_checks h m) ≡ None → Freed h f (reply_to h m) → Synced h m
locks h y m f c o passes k = search (rules, common_steps, kept_skips)

-- the host as it was
has_same : (h : PlainHost) (f : ℕ) → Opens h.files f → HasText h h f (file_at h.files f).text
has_same h f o = grind (arith, put_again)

-- the host with an open file in its place
has_put : (h : PlainHost) (f : ℕ) (x : PlainFile) → Opens h.files f → x.opened ≡ true → HasText h (with_file h f x) f x.text
has_put h f x o e = grind (arith, put_opened)

-- frames that tell of the file, and then Hunlockfile
record Unlocks (f : ℕ) (frames : List Hmesg) (t t2 : List ℕ) : Type 0 where
  acts : List Action
  tells : (g : ℕ) → at_file g frames ≡ map (only (g == f)) (acts ++ Free_file ∷ [])
  rewrites : Rewrites acts t t2

ends : (f : ℕ) (t : List ℕ) → Unlocks f (Hunlockfile f ∷ []) t t
ends f t = record { acts = []; tells = λ g. refl; rewrites = rewrites_nothing t }

after : (f : ℕ) (a b : List Hmesg) (t t2 t3 : List ℕ) → Told f a t t2 → Unlocks f b t2 t3 → Unlocks f (a ++ b) t t3
after f a b t t2 t3 x y =
    record { acts = x.acts ++ y.acts; tells = λ g. simp (map-append, x.tells g, y.tells g, append_assoc); rewrites = rewrites-append x.acts y.acts t t2 t3 x.rewrites y.rewrites }

freed : (h k : PlainHost) (f : ℕ) (frames : List Hmesg) (text : List ℕ) → HasText h k f text → Unlocks f frames (file_at h.files f).text text → Freed h f (k, frames)
freed h k f frames text has u = record { text = text; has = has; here = here; elsewhere = λ g e. tells_elsewhere f g frames (u.acts ++ Free_file ∷ []) (u.tells g) e }
  where
    here : (rasp : List (Option ℕ)) → Agrees rasp (file_at h.files f).text → ComesToSync (at_file f frames) (lens false h.is_done h.version (Open rasp 1)) h.is_done h.version (Opened text)
    here rasp a =
        let x = u.rewrites.runs false h.is_done h.version rasp 1 a in
        rw (tells_there f f frames (u.acts ++ Free_file ∷ []) (u.tells f) (eq-eqb f f refl))
        (kept_then u.acts (Free_file ∷ []) _ _ (lens false h.is_done h.version (Open x.rasp 0)) _ _ (Opened text) x.is u.rewrites.no_close refl (refl, refl, refl, (refl, x.agrees)) refl refl refl)

-- nothing but the lock is freed
freed_only : (h : PlainHost) (f : ℕ) → Opens h.files f → Freed h f (h, Hunlockfile f ∷ [])
freed_only h f o = freed h h f _ _ (has_same h f o) (ends f _)

freed_if : (h : PlainHost) (f : ℕ) (b : Bool) (x y : Reply) → (b ≡ true → Freed h f x) → (b ≡ false → Freed h f y) → Freed h f (if b then x else y)
freed_if h f b x y e u = grind arith

-- ## The shared ending of a search, found or not

freed_found : (h : PlainHost) (f : ℕ) (d : Option Range) (frames : List Hmesg) → Opens h.files f → IfSome d (InRange (length (file_at h.files f).text))
    → Told f frames (file_at h.files f).text (file_at h.files f).text → Freed h f (reply_found h f d frames)
freed_found h f None frames o within told = freed_only h f o
freed_found h f (Some d) frames o within told =
    freed h (with_file h f (record (file_at h.files f) { dot = d })) f _ (file_at h.files f).text (has_put h f (record (file_at h.files f) { dot = d }) o o.opened)
    (after f frames (Hsetdot f d.0 d.1 ∷ Hmoveto f d.0 ∷ Hcheck f ∷ Hunlockfile f ∷ []) _ _ _ told (after _ _ _ _ _ _ (told_dot f d.0 d.1 _ within.0 within.1)
    (after _ _ _ _ _ _ (told_move f d.0 _ (omega (arith, within.0, within.1))) (after _ _ _ _ _ _ (told_check f _) (ends f _)))))

-- ## The messages

pub sync_origin : (h : PlainHost) → Ready h → (f p n : ℕ) → Accepted h (Torigin f p n) → Synced h (Torigin f p n)
unfolding reply_origin
sync_origin h r f p n a =
    locks h r (Torigin f p n) f refl a.0 (open_tests h f a.0 (past_end h f p ∷ []) (place_test h f p [] a.1 refl))
    (freed h h f _ _ (has_same h f a.0) (after _ _ _ _ _ _ (told_origin f _ _ (lines_before_within (file_at h.files f).text p n)) (ends f _)))

pub sync_write : (h : PlainHost) → Ready h → (f : ℕ) → Accepted h (Twrite f) → Synced h (Twrite f)
unfolding reply_write
sync_write h r f a =
    locks h r (Twrite f) f refl a.0 (window_tests h f a.0 a.1 [] refl) (freed h _ f _ _ (has_put h f _ a.0 a.0.opened) (after _ _ _ _ _ _ (told_clean f _) (ends f _)))

pub sync_dclick : (h : PlainHost) → Ready h → (f p : ℕ) → Accepted h (Tdclick f p) → Synced h (Tdclick f p)
unfolding reply_dclick
sync_dclick h r f p a =
    let in_text = word_at_within (file_at h.files f).text p a.1 in
    locks h r (Tdclick f p) f refl a.0 (open_tests h f a.0 (past_end h f p ∷ []) (place_test h f p [] a.1 refl))
    (freed h _ f _ _ (has_put h f _ a.0 a.0.opened) (after _ _ _ _ _ _ (told_dot f _ _ _ in_text.0 in_text.1) (ends f _)))

pub sync_look : (h : PlainHost) → Ready h → (f p q : ℕ) → Accepted h (Tlook f p q) → Synced h (Tlook f p q)
unfolding reply_look
sync_look h r f p q a =
    let t : List ℕ = (file_at h.files f).text in
    let lit : List ℕ = part t p q in
    let k : PlainHost = with_files h (record h.files { pattern = Some lit }) in
    let x = freed_found k f (searched t lit q) (Hsetpat lit ∷ []) (grind arith) (searched_within t lit q a.2) (told_pattern f lit t) in
    locks h r (Tlook f p q) f refl a.0 (open_tests h f a.0 (no_range h f p q ∷ []) (range_test h f p q a.1 a.2))
    (freed_if h f (may_look lit) (reply_found k f (searched t lit q) (Hsetpat lit ∷ [])) (h, Hunlockfile f ∷ [])
    (λ e. record { text = x.text; has = grind (arith, x.has); here = x.here; elsewhere = x.elsewhere }) (λ e. freed_only h f a.0))

pub sync_search : (h : PlainHost) → Ready h → (f p q : ℕ) → Accepted h (Tsearch f p q) → Synced h (Tsearch f p q)
unfolding reply_search
sync_search h r f p q a =
    let t = (file_at h.files f).text in
    locks h r (Tsearch f p q) f refl a.0 (open_tests h f a.0 (no_range h f p q ∷ []) (range_test h f p q a.1 a.2))
    (freed_found h f (searched_for h.files.pattern t q) [] a.0 (grind (arith, searched_within)) (told_nothing f t))

pub sync_paste : (h : PlainHost) → Ready h → (f p : ℕ) → Accepted h (Tpaste f p) → Synced h (Tpaste f p)
unfolding reply_paste
sync_paste h r f p a =
    let t : List ℕ = (file_at h.files f).text in
    let s : List ℕ = h.files.snarf in
    let pasted : PlainFile = pasted_file f (file_at h.files f) p s in
    let dirty : List Hmesg = when (not (file_at h.files f).dirty && not (f == 0)) (Hdirty f ∷ []) in
    let last : List Hmesg = Hsetdot f p (p + length s) ∷ Hcheck f ∷ Hunlockfile f ∷ [] in
    locks h r (Tpaste f p) f refl a.0 (open_tests h f a.0 (past_end h f p ∷ []) (place_test h f p [] a.1 refl))
    (freed_if h f (is_empty s || nat_lt max_runes (length t + length s)) (h, Hunlockfile f ∷ []) (with_file h f pasted, (grown h.files f p s ++ dirty) ++ last) (λ e. freed_only h f a.0) (λ e.
    let room : length t + length s ≤ max_runes = ltb-false _ _ (or_parts (is_empty s) (nat_lt max_runes (length t + length s)) e).1 in
    let end : p + length s ≤ length (ins t p s) = omega (arith, length-ins t s p a.1) in
    freed h (with_file h f pasted) f _ (ins t p s) (has_put h f pasted a.0 a.0.opened) (after f (grown h.files f p s ++ dirty) last _ _ _
    (told-append f (grown h.files f p s) dirty _ _ _ (told_grown h.files f p s t a.0.opened a.1 room) (told_if _ f (Hdirty f ∷ []) _ (told_dirty f _)))
    (after _ _ _ _ _ _ (told_dot f p (p + length s) _ (omega arith) end) (after _ _ _ _ _ _ (told_check f _) (ends f _))))))

-- ## A request

-- how the frames that answer it act at the file and elsewhere
pub request_tells : (h : PlainHost) (f p n : ℕ) → Opens h.files f → (g : ℕ) → at_file g (reply_request h f p n).1 ≡ map (only (g == f)) (request_actions false (Opened (file_at h.files f).text) p n)
unfolding reply_request when
request_tells h f p n o g = search (rules, common_steps)

-- one that an event composes
pub sync_request : (h : PlainHost) → Ready h → (f p n : ℕ) → Accepted h (Trequest f p n) → Synced h (Trequest f p n)
unfolding reply_request
sync_request h r f p n a =
    let tells = request_tells h f p n a in
    locks h r (Trequest f p n) f refl a (grind arith) (record {
      text = (file_at h.files f).text;
      has = has_same h f a;
      here = λ rasp agrees. grind (arith, (tells f), (eq-eqb f f refl), (kept_data h.is_done h.version rasp (file_at h.files f).text p n r.running agrees));
      elsewhere = λ g e. tells_elsewhere f g (reply_request h f p n).1 (request_actions false (Opened (file_at h.files f).text) p n) (tells g) e;
    })

pub ruleset file_locks = (sync_request, sync_origin, sync_paste, sync_write, sync_look, sync_search, sync_dclick)
