-- The fold of what is under way, one message or frame more or less.
use Rattle.sam_crossing.proofs.Common.{◌≡◌, ℕ, Bool, true, false, ◌==◌, List, [], ◌∷◌, ◌++◌, map, Some, None, ◌⊎◌, inl, inr, refl, append-nil, append_assoc, eqb-true, eq-eqb, arith, cases_Bool, first_of_checks, Tmesg, Trequest, Tack, Hmesg, PlainHost, Reply, counted, host_checks, reply_to, reply_request, Lens, move, HFile, Opened, Gone, ComesToSync, at_file, action, only, VersionsGuarded, file_in, IsSteady, reply_of, answers, AllComeToSync, when}
use Rattle.sam_crossing.proofs.Lenses.{locked_more, IsFree, IsOpen, exited_of, CanRequest, request_actions}
use Rattle.sam_crossing.proofs.Changes.{change_by, Change, Lock, changed, IsAllowed}
use Rattle.sam_crossing.proofs.Accepting.{Synced}
use Rattle.sam_crossing.proofs.Versions.{versions-append, guarded_reply}
use Rattle.sam_crossing.proofs.Runs.{stepped}
use Rattle.sam_crossing.proofs.AllComeToSync.{kept_append, kept_act, kept_more, kept_request, kept_skips, alike_same}
use Rattle.sam_crossing.proofs.HostFiles.{opens_at, gone_at}
use Rattle.sam_crossing.proofs.Guards.{at_file-append}
use Rattle.sam_crossing.proofs.Telling.{tells_there, tells_elsewhere}
use Rattle.sam_crossing.proofs.FileLocks.{request_tells}

-- a list of messages, answered in turn
pub record Answered (h : PlainHost) (m : Tmesg) (ms : List Tmesg) (x : Reply) : Type 0 where
  pub first : Reply
  pub rest : Reply
  pub now : reply_of h m ≡ Some first
  pub later : answers first.0 ms ≡ Some rest
  pub whole : x ≡ (rest.0, first.1 ++ rest.1)

pub answered : (h : PlainHost) (m : Tmesg) (ms : List Tmesg) (x : Reply) → answers h (m ∷ ms) ≡ Some x → Answered h m ms x
answered h m ms x e = grind arith

pub answers-append : (h : PlainHost) (ms ns : List Tmesg) (a b : Reply) → answers h ms ≡ Some a → answers a.0 ns ≡ Some b → answers h (ms ++ ns) ≡ Some (b.0, a.1 ++ b.1)
answers-append h [] ns a b e f = grind arith
answers-append h (m ∷ ms) ns a b e f =
    let t = answered h m ms a e in
    grind (arith, answered, append_assoc, (answers-append t.first.0 ms ns t.rest b t.later))

-- ## The terminal takes the first frame

-- no lens refuses it
pub frame_moves : (h : PlainHost) (views : ℕ → Lens) (line : List Tmesg) (m : Hmesg) (down : List Hmesg) → AllComeToSync h views line (m ∷ down) → (g : ℕ)
    → (v : Lens) × (move (action g m) (views g) ≡ Some v)
frame_moves h views line m down k g =
    let t = stepped (action g m) (at_file g (down ++ k.frames)) (views g) (k.each g).final (k.each g).runs in (t.mid, t.moves)

pub term_takes : (h : PlainHost) (views views2 : ℕ → Lens) (line : List Tmesg) (m : Hmesg) (down : List Hmesg) → AllComeToSync h views line (m ∷ down)
    → ((g : ℕ) → move (action g m) (views g) ≡ Some (views2 g)) → AllComeToSync h views2 line down
term_takes h views views2 line m down k moves = grind arith

-- ## A message more

-- another list of messages that folds to the same, counts aside
pub kept_with : (h : PlainHost) (views views2 : ℕ → Lens) (line : List Tmesg) (down : List Hmesg) (m : Tmesg) (r : Reply) (k : AllComeToSync h views line down) → reply_of k.ahead m ≡ Some r
    → ((g : ℕ) → ComesToSync (at_file g (down ++ k.frames) ++ at_file g r.1) (views2 g) r.0.is_done r.0.version (file_in r.0.files.slots g)) → IsSteady r.0 → VersionsGuarded r.1
    → AllComeToSync h views2 (line ++ m ∷ []) down
kept_with h views views2 line down m r k replies each steady versions =
    let one : answers k.ahead (m ∷ []) ≡ Some r = rw replies (rw append-nil refl) in
    record {
      ahead = r.0;
      frames = k.frames ++ r.1;
      folds = answers-append h line (m ∷ []) (k.ahead, k.frames) r k.folds one;
      each = λ g. rw (← append_assoc down k.frames r.1, at_file-append g (down ++ k.frames) r.1) (each g);
      steady = steady;
      versions = rw (← append_assoc down k.frames r.1) (versions-append (down ++ k.frames) r.1 k.versions versions);
    }

-- a file that the act changes is free
free_or_same : (c : Change) (views : ℕ → Lens) (g : ℕ) → IsAllowed c views → IsFree (views g) ⊎ ((v : Lens) → changed c g v ≡ v)
free_or_same c views g e = grind arith

-- the host's reply to a message that nothing stands against
pub plain_reply : (h : PlainHost) (m : Tmesg) → h.is_done ≡ false → first_of_checks (host_checks h m) ≡ None → reply_of h m ≡ Some (counted (reply_to h m).0, (reply_to h m).1)
plain_reply h m d e = grind arith

-- an act whose message and answer lead from synced to synced
pub acts : (h : PlainHost) (views : ℕ → Lens) (line : List Tmesg) (down : List Hmesg) (m : Tmesg) (k : AllComeToSync h views line down) → k.ahead.is_done ≡ false → IsAllowed (change_by m) views
    → Synced k.ahead m → IsSteady (reply_to k.ahead m).0 → AllComeToSync h (λ g. changed (change_by m) g (views g)) (line ++ m ∷ []) down
acts h views line down m k d allowed y steady =
    kept_with h views (λ g. changed (change_by m) g (views g)) line down m (counted r.0, r.1) k (plain_reply k.ahead m d y.passes) (λ g. each g (free_or_same (change_by m) views g allowed))
    (record { sound = steady.sound; announced = steady.announced; fit = steady.fit }) (guarded_reply k.ahead m)
  where
    r : Reply
    r = reply_to k.ahead m

    each : (g : ℕ) → IsFree (views g) ⊎ ((v : Lens) → changed (change_by m) g v ≡ v)
        → ComesToSync (at_file g (down ++ k.frames) ++ at_file g r.1) (changed (change_by m) g (views g)) r.0.is_done r.0.version (file_in r.0.files.slots g)
    each g (inl free) = kept_act _ _ _ _ _ _ _ _ _ _ (k.each g) free (grind (arith, alike_same)) (y.each g (views g)) (y.gone g)
    each g (inr same) = rw (same (views g)) (kept_append _ _ _ _ _ _ _ _ _ (k.each g) (λ x z. rw (same x) at (y.each g x z)) (y.gone g))

-- an acknowledgement is answered by nothing
pub acknowledges : (h : PlainHost) (views : ℕ → Lens) (line : List Tmesg) (down : List Hmesg) → AllComeToSync h views line down → AllComeToSync h views (line ++ Tack ∷ []) down
acknowledges h views line down k =
    kept_with h views views line down Tack (counted k.ahead, []) k (grind arith) (λ g. kept_more _ _ _ _ _ (k.each g))
    (record { sound = k.steady.sound; announced = k.steady.announced; fit = k.steady.fit }) tt

-- ## A request, under any lock

record Requested (h : PlainHost) (f p n : ℕ) : Type 0 where
  frames : List Hmesg
  now : reply_of h (Trequest f p n) ≡ Some (counted h, frames)
  tells : (g : ℕ) → at_file g frames ≡ map (only (g == f)) (request_actions h.is_done (file_in h.files.slots f) p n)
  versions : VersionsGuarded frames

requested : (h : PlainHost) (f p n : ℕ) → CanRequest h.is_done (file_in h.files.slots f) → Requested h f p n
unfolding reply_request when
requested h f p n c = go h.is_done refl (file_in h.files.slots f) refl c
  where
    told : h.is_done ≡ false → (file : HFile) → file_in h.files.slots f ≡ file → first_of_checks (host_checks h (Trequest f p n)) ≡ None
        → ((g : ℕ) → at_file g (reply_to h (Trequest f p n)).1 ≡ map (only (g == f)) (request_actions false file p n)) → Requested h f p n
    told z file e passes tells = record { frames = (reply_to h (Trequest f p n)).1; now = plain_reply h (Trequest f p n) z passes; tells = grind arith; versions = guarded_reply h (Trequest f p n) }

    go : (d : Bool) → h.is_done ≡ d → (file : HFile) → file_in h.files.slots f ≡ file → CanRequest d file → Requested h f p n
    go true z file e c = record { frames = []; now = rw z refl; tells = λ g. rw z refl; versions = tt }
    go false z (Opened t) e c =
        let o = opens_at h.files f t e in
        told z (Opened t) e (grind (arith, o.0.given, o.0.there, o.0.opened)) (λ g. rw (← o.1) (request_tells h f p n o.0 g))
    go false z Gone e c = let x = gone_at h.files.slots f e in told z Gone e (grind (arith, x.0, x.1)) (λ g. rw x.1 refl)
    go d e file u w = grind arith

pub requests : (h : PlainHost) (views : ℕ → Lens) (line : List Tmesg) (down : List Hmesg) (f p n : ℕ) → AllComeToSync h views line down → IsOpen (views f) → exited_of (views f) ≡ false
    → AllComeToSync h (λ g. changed (Lock f) g (views g)) (line ++ Trequest f p n ∷ []) down
requests h views line down f p n k is_open here =
    kept_with h views (λ g. changed (Lock f) g (views g)) line down (Trequest f p n) (counted k.ahead, r.frames) k r.now (λ g. each g (cases_Bool (g == f)))
    (record { sound = k.steady.sound; announced = k.steady.announced; fit = k.steady.fit }) r.versions
  where
    there : CanRequest k.ahead.is_done (file_in k.ahead.files.slots f)
        × ComesToSync (at_file f (down ++ k.frames) ++ request_actions k.ahead.is_done (file_in k.ahead.files.slots f) p n) (locked_more (views f))
        k.ahead.is_done k.ahead.version (file_in k.ahead.files.slots f)
    there = kept_request _ (views f) _ _ _ p n (k.each f) is_open here

    r : Requested k.ahead f p n
    r = requested k.ahead f p n there.0

    each : (g : ℕ) → ((g == f) ≡ true) ⊎ ((g == f) ≡ false)
        → ComesToSync (at_file g (down ++ k.frames) ++ at_file g r.frames) (changed (Lock f) g (views g)) k.ahead.is_done k.ahead.version (file_in k.ahead.files.slots g)
    each g (inl e) = rw (eqb-true g f e, eq-eqb f f refl, tells_there f f r.frames _ (r.tells f) (eq-eqb f f refl)) there.1
    each g (inr e) = rw e (kept_append _ _ _ _ _ _ _ _ _ (k.each g) (λ x y. kept_skips _ x _ _ _ (tells_elsewhere f g r.frames _ (r.tells g) e) y) (λ q. q))
