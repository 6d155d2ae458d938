-- A file that is marked: the same requests are awaited, and the same names are told.
use Rattle.sam_crossing.proofs.Common.{◌≡◌, ℕ, ◌==◌, Bool, true, false, List, [], ◌∷◌, ◌++◌, Option, refl, sym, ap, ◌∙◌, subst, true≢false, map-append, Tmesg, Hmesg, Hdirty, PlainHost, Reply, PlainTerminal, window_at, Action, Needs_known, action, only, at_file, InOrder}
use Rattle.sam_host.specs.Host.{told_dirty}
use Rattle.sam_host.specs.Marking.{mark_frames, marked}
use Rattle.sam_mesg.specs.declared.hmesg.HFrame.{HFrame}
use Rattle.sam_crossing.specs.World.{PlainWorld, mesgs}
use Rattle.sam_crossing.proofs.DirtyFiles.{Fewer, fewer-append, fewer-same}
use Rattle.sam_crossing.proofs.Known.{IsShown}
use Rattle.sam_crossing.proofs.Marking.{marks_answers, mark_less, only_at}
use Rattle.sam_crossing.proofs.Ordered.{mesgs_stamped}
use Rattle.std.proofs.Common.{inl, inr}
use Rattle.sam_rest.proofs.Actions.{AwaitsAll, is_fill, left}
use Rattle.sam_rest.proofs.Kept.{AreAwaited, answers-up, frames_of}

-- the frames that are under way behind a mark
pub mark-frames : (w : PlainWorld) (f : ℕ) → mesgs (w.down ++ mark_frames w.host f) ≡ mesgs w.down ++ told_dirty w.host.files f
mark-frames w f =
    map-append (λ (frame : HFrame). frame.msg) w.down (mark_frames w.host f) ∙ ap (λ (ms : List Hmesg). mesgs w.down ++ ms) (mesgs_stamped w.host.taken (told_dirty w.host.files f))

-- a frame that says that a file is dirty brings no data, and ends no request
record IsIdle (a : Action) : Type 0 where
  none : is_fill a ≡ false
  same : (n : ℕ) → left a n ≡ n

idle : (g f : ℕ) → IsIdle (action g (Hdirty f))
idle g f = by (g == f)
  where
    by : (b : Bool) → IsIdle (only b Needs_known)
    by true = record { none = refl; same = λ n. refl }
    by false = record { none = refl; same = λ n. refl }

idle-is : (g f : ℕ) (x : Hmesg) → x ≡ Hdirty f → IsIdle (action g x)
idle-is g f x e = subst (λ (m : Hmesg). IsIdle (action g m)) (sym e) (idle g f)

awaits-fewer : (d : ℕ → Bool) (g n : ℕ) (xs ys : List Hmesg) → Fewer d xs ys → AwaitsAll n (at_file g xs) → AwaitsAll n (at_file g ys)
awaits-fewer d g n [] ys a k = subst (λ (l : List Hmesg). AwaitsAll n (at_file g l)) (sym a) k
awaits-fewer d g n (x ∷ xs) ys (inl (f, e, on, a)) k =
    awaits-fewer d g n xs ys a (subst (λ (m : ℕ). AwaitsAll m (at_file g xs)) ((idle-is g f x e).same n) k.1)
awaits-fewer d g n (x ∷ xs) ys (inr (zs, e, a)) k =
    subst (λ (l : List Hmesg). AwaitsAll n (at_file g l)) (sym e) (k.0, awaits-fewer d g (left (action g x) n) xs zs a k.1)

awaits-with : (d : ℕ → Bool) (g n : ℕ) (xs ys : List Hmesg) → Fewer d xs ys → AwaitsAll n (at_file g ys) → AwaitsAll n (at_file g xs)
awaits-with d g n [] ys a k = subst (λ (l : List Hmesg). AwaitsAll n (at_file g l)) a k
awaits-with d g n (x ∷ xs) ys (inl (f, e, on, a)) k =
    let i = idle-is g f x e in
    ((λ c. absurd (true≢false (sym c ∙ i.none))), subst (λ (m : ℕ). AwaitsAll m (at_file g xs)) (sym (i.same n)) (awaits-with d g n xs ys a k))
awaits-with d g n (x ∷ xs) ys (inr (zs, e, a)) k =
    let here = subst (λ (l : List Hmesg). AwaitsAll n (at_file g l)) e k in
    (here.0, awaits-with d g (left (action g x) n) xs zs a here.1)

-- as much is awaited as before the mark
pub awaited-mark : (h : PlainHost) (t : PlainTerminal) (up : List Tmesg) (down : List Hmesg) (f : ℕ) → (f == 0) ≡ false → IsShown h.files f → InOrder h t up down → AreAwaited h t up down
    → AreAwaited (marked h f) t up (down ++ told_dirty h.files f)
awaited-mark h t up down f z shown o k g =
    let n = (window_at t g).awaited in
    let p = answers-up h t up down o in
    let a = marks_answers h f up p.first z shown p.now in
    let before : AwaitsAll n (at_file g (down ++ p.first.1)) = subst (λ (x : Option Reply). AwaitsAll n (at_file g (down ++ frames_of x))) p.now (k g) in
    subst (λ (x : Option Reply). AwaitsAll n (at_file g ((down ++ told_dirty h.files f) ++ frames_of x))) (sym a.now)
    (awaits-with (only_at f) g n ((down ++ told_dirty h.files f) ++ a.reply.1) (down ++ a.reply.1) (mark_less h f down a.reply.1)
    (awaits-fewer (only_at f) g n (down ++ p.first.1) (down ++ a.reply.1) (fewer-append (only_at f) down down p.first.1 a.reply.1 (fewer-same (only_at f) down) a.fewer) before))
