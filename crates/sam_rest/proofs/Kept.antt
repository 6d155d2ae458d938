-- What every run keeps: each Hdata that comes was asked for, and in the end no request is awaited.
use Rattle.sam_crossing.proofs.Common.{◌≡◌, ℕ, suc, ◌+◌, Bool, true, false, ◌==◌, List, [], ◌∷◌, ◌++◌, length, Option, Some, None, ◌⊎◌, inl, inr, refl, sym, ap, ◌∙◌, subst, arith, append-nil, append_assoc, eq-eqb, eqb-true, Tmesg, Trequest, Hmesg, Hunlockfile, Hdata, PlainHost, counted, Reply, Unsent, PlainTerminal, window_at, flushed, unsent_message, requests_for, Lens, Action, Fill, Free_file, AllComeToSync, InOrder, file_in, at_file, answers, reply_of, view, views}
use Rattle.sam_term.specs.LockCounts.{requests}
use Rattle.sam_crossing.proofs.Lenses.{IsOpen, exited_of, AreSkips}
use Rattle.sam_crossing.proofs.Changes.{Lock, changed}
use Rattle.sam_crossing.proofs.Folds as folds
use Rattle.sam_crossing.proofs.Guards.{at_file-append}
use Rattle.sam_local.proofs.Folds.{Parted, parted}
use Rattle.sam_rest.proofs.Actions.{AwaitsAll, awaits-more, awaits-ended, awaits-data, NoAnswer, Answer, answered_how}
use Rattle.sam_rest.proofs.Gaps.{data_at, data_of}
use Rattle.sam_rest.proofs.Frames.{none-answers, request-none, request-data}

abbrev pub frames_of : Option Reply → List Hmesg
frames_of None = []
frames_of (Some r) = r.1

-- what comes to f once the host has answered these messages
abbrev pub coming_to : ℕ → PlainHost → List Tmesg → List Hmesg → List Action
coming_to f h up down = at_file f (down ++ frames_of (answers h up))

abbrev pub AreAwaited : PlainHost → PlainTerminal → List Tmesg → List Hmesg → Type 0
AreAwaited h t up down = (f : ℕ) → AwaitsAll (window_at t f).awaited (coming_to f h up down)

-- ## Messages more

pub answers-up : (h : PlainHost) (t : PlainTerminal) (up : List Tmesg) (down : List Hmesg) (o : InOrder h t up down)
    → Parted h up (unsent_message t.unsent) (o.kept.ahead, o.kept.frames)
answers-up h t up down o = parted h up (unsent_message t.unsent) (o.kept.ahead, o.kept.frames) o.kept.folds

pub coming-more : (f : ℕ) (h : PlainHost) (up ms : List Tmesg) (down : List Hmesg) (y : Reply) (p : Parted h up ms y) → answers h (up ++ ms) ≡ Some y
    → coming_to f h (up ++ ms) down ≡ coming_to f h up down ++ at_file f p.last.1
coming-more f h up ms down y p e =
    ap (λ (o : Option Reply). at_file f (down ++ frames_of o)) e ∙ ap (λ (r : Reply). at_file f (down ++ r.1)) p.whole
    ∙ ap (at_file f) (sym (append_assoc down p.first.1 p.last.1)) ∙ at_file-append f (down ++ p.first.1) p.last.1
    ∙ ap (λ (o : Option Reply). at_file f (down ++ frames_of o) ++ at_file f p.last.1) (sym p.now)

-- messages that ask for no data of f
pub awaited-plain : (f n : ℕ) (h : PlainHost) (up ms : List Tmesg) (down : List Hmesg) (y : Reply) → answers h (up ++ ms) ≡ Some y → requests f ms ≡ 0
    → AwaitsAll n (coming_to f h up down) → AwaitsAll n (coming_to f h (up ++ ms) down)
awaited-plain f n h up ms down y e q k =
    let p = parted h up ms y e in
    subst (AwaitsAll n) (sym (coming-more f h up ms down y p e)) (awaits-more (coming_to f h up down) (at_file f p.last.1) n k (none-answers f ms p.first.0 p.last q p.later))

-- ## A request more

pub data-there : (f p : ℕ) (x : List ℕ) → at_file f (Hdata f p x ∷ Hunlockfile f ∷ []) ≡ Fill p x ∷ Free_file ∷ []
data-there f p x = rw (eq-eqb f f refl) refl

pub data-elsewhere : (f g p : ℕ) (x : List ℕ) → (g == f) ≡ false → AreSkips (at_file g (Hdata f p x ∷ Hunlockfile f ∷ []))
data-elsewhere f g p x e = rw e (refl, (refl, tt))

-- what comes where one message more is answered
pub coming-one : (f : ℕ) (h : PlainHost) (vs : ℕ → Lens) (line : List Tmesg) (down : List Hmesg) (k : AllComeToSync h vs line down) (m : Tmesg) (r : Reply)
    → reply_of k.ahead m ≡ Some r → answers h (line ++ m ∷ []) ≡ Some (r.0, k.frames ++ r.1)
coming-one f h vs line down k m r e =
    let one : answers k.ahead (m ∷ []) ≡ Some r = rw e (rw append-nil refl) in
    folds.answers-append h line (m ∷ []) (k.ahead, k.frames) r k.folds one

awaited-one : (f n : ℕ) (h : PlainHost) (vs : ℕ → Lens) (line : List Tmesg) (down : List Hmesg) (k : AllComeToSync h vs line down) (p q : ℕ) → IsOpen (vs f) → exited_of (vs f) ≡ false
    → AwaitsAll n (coming_to f h line down) → AwaitsAll (n + 1) (coming_to f h (line ++ Trequest f p q ∷ []) down)
awaited-one f n h vs line down k p q o x a = by (answered_how s (vs f) _ _ _ (k.each f) o x)
  where
    s : List Action
    s = at_file f (down ++ k.frames)

    now : coming_to f h line down ≡ s
    now = ap (λ (o : Option Reply). at_file f (down ++ frames_of o)) k.folds

    here : AwaitsAll n s
    here = subst (AwaitsAll n) now a

    next : (frames : List Hmesg) → reply_of k.ahead (Trequest f p q) ≡ Some (counted k.ahead, frames) → coming_to f h (line ++ Trequest f p q ∷ []) down ≡ s ++ at_file f frames
    next frames e =
        ap (λ (o : Option Reply). at_file f (down ++ frames_of o)) (coming-one f h vs line down k (Trequest f p q) (counted k.ahead, frames) e)
        ∙ ap (at_file f) (sym (append_assoc down k.frames frames)) ∙ at_file-append f (down ++ k.frames) frames

    by : NoAnswer s (vs f) k.ahead.is_done (file_in k.ahead.files.slots f) ⊎ Answer s (vs f) k.ahead.is_done (file_in k.ahead.files.slots f) → AwaitsAll (n + 1) (coming_to f h (line ++ Trequest f p q ∷ []) down)
    by (inl z) = subst (AwaitsAll (n + 1)) (sym (next [] (request-none k.ahead f p q z.none) ∙ append-nil s)) (awaits-ended s n z.ends here)
    by (inr z) =
        subst (AwaitsAll (n + 1))
        (sym (next _ (request-data k.ahead f p q z.text z.runs z.opened) ∙ ap (λ (u : List Action). s ++ u) (data-there f (data_at z.text p) (data_of z.text p q))))
        (awaits-data s (vs f) _ n (data_at z.text p) (data_of z.text p q) o z.before z.stays here)

-- one request after another
awaited-requests : (f : ℕ) (xs : List (ℕ × ℕ)) (n : ℕ) (h : PlainHost) (vs : ℕ → Lens) (line : List Tmesg) (down : List Hmesg) (k : AllComeToSync h vs line down)
    → IsOpen (vs f) → exited_of (vs f) ≡ false → AwaitsAll n (coming_to f h line down) → AwaitsAll (n + length xs) (coming_to f h (line ++ requests_for f xs) down)
awaited-requests f [] n h vs line down k o x a =
    let none : n + 0 ≡ n = omega arith in
    rw none (subst (λ (l : List Tmesg). AwaitsAll n (coming_to f h l down)) (sym (append-nil line)) a)
awaited-requests f (y ∷ xs) n h vs line down k o x a =
    let m = Trequest f y.0 y.1 in
    let more : n + suc (length xs) ≡ (n + 1) + length xs = omega arith in
    rw more
    (subst (λ (l : List Tmesg). AwaitsAll ((n + 1) + length xs) (coming_to f h l down)) (append_assoc line (m ∷ []) (requests_for f xs))
    (awaited-requests f xs (n + 1) h (λ g. changed (Lock f) g (vs g)) (line ++ m ∷ []) down (folds.requests h vs line down f y.0 y.1 k o x) (open-still (vs f) o) (exited-still (vs f) x)
    (awaited-one f n h vs line down k y.0 y.1 o x a)))
  where
    open-still : (v : Lens) → IsOpen v → IsOpen (changed (Lock f) f v)
    open-still v o = grind (arith, (eq-eqb f f refl))

    exited-still : (v : Lens) → exited_of v ≡ false → exited_of (changed (Lock f) f v) ≡ false
    exited-still v x = grind (arith, (eq-eqb f f refl))

pub requests-append : (f : ℕ) (ms ns : List Tmesg) → requests f (ms ++ ns) ≡ requests f ms + requests f ns
requests-append f [] ns = omega arith
requests-append f (m ∷ ms) ns = omega (arith, requests-append f ms ns)

requests-there : (f : ℕ) (xs : List (ℕ × ℕ)) → requests f (requests_for f xs) ≡ length xs
requests-there f [] = refl
requests-there f (x ∷ xs) = grind (arith, (eq-eqb f f refl), (requests-there f xs))

requests-elsewhere : (f g : ℕ) (xs : List (ℕ × ℕ)) → (g == f) ≡ false → requests f (requests_for g xs) ≡ 0
requests-elsewhere f g [] e = refl
requests-elsewhere f g (x ∷ xs) e = grind (arith, (requests-elsewhere f g xs e))

unsent-asks : (f : ℕ) (u : Option Unsent) → requests f (unsent_message u) ≡ 0
unsent-asks f None = refl
unsent-asks f (Some u) = refl

pub flush-asks : (f : ℕ) (t : PlainTerminal) → requests f (flushed t).1 ≡ 0
unfolding flushed
flush-asks f t = unsent-asks f t.unsent

-- the unsent runes, and then requests
pub awaited-sends : (h : PlainHost) (u : PlainTerminal) (up : List Tmesg) (down : List Hmesg) → AllComeToSync h (views u) (up ++ unsent_message u.unsent) down → (f : ℕ) (xs : List (ℕ × ℕ)) (y : Reply)
    → IsOpen (view f u) → u.has_exited ≡ false → answers h (up ++ ((flushed u).1 ++ requests_for f xs)) ≡ Some y → (g n : ℕ) → AwaitsAll n (coming_to g h up down)
    → AwaitsAll (n + requests g ((flushed u).1 ++ requests_for f xs)) (coming_to g h (up ++ ((flushed u).1 ++ requests_for f xs)) down)
unfolding flushed
awaited-sends h u up down k f xs y o x e g n a = by (f == g) refl
  where
    first : List Tmesg
    first = unsent_message u.unsent

    all : answers h ((up ++ first) ++ requests_for f xs) ≡ Some y
    all = ap (answers h) (append_assoc up first (requests_for f xs)) ∙ e

    p : Parted h (up ++ first) (requests_for f xs) y
    p = parted h (up ++ first) (requests_for f xs) y all

    flushes : AwaitsAll n (coming_to g h (up ++ first) down)
    flushes = awaited-plain g n h up first down p.first p.now (unsent-asks g u.unsent) a

    by : (b : Bool) → (f == g) ≡ b → AwaitsAll (n + requests g (first ++ requests_for f xs)) (coming_to g h (up ++ (first ++ requests_for f xs)) down)
    by true q =
        let same : f ≡ g = eqb-true f g q in
        let there : requests g (requests_for f xs) ≡ length xs = ap (λ (z : ℕ). requests g (requests_for z xs)) same ∙ requests-there g xs in
        let many : requests g (first ++ requests_for f xs) ≡ length xs = omega (arith, requests-append g first (requests_for f xs), unsent-asks g u.unsent, there) in
        rw many
        (subst (λ (l : List Tmesg). AwaitsAll (n + length xs) (coming_to g h l down)) (append_assoc up first (requests_for f xs))
        (subst (λ (z : ℕ). AwaitsAll (n + length xs) (coming_to g h ((up ++ first) ++ requests_for z xs) down)) (sym same)
        (awaited-requests g xs n h (views u) (up ++ first) down k (subst (λ (z : ℕ). IsOpen (view z u)) same o) x flushes)))
    by false q =
        let none : requests g (first ++ requests_for f xs) ≡ 0 =
        omega (arith, requests-append g first (requests_for f xs), unsent-asks g u.unsent, requests-elsewhere g f xs q) in
        let same : n + 0 ≡ n = omega arith in
        rw (none, same) (awaited-plain g n h up (first ++ requests_for f xs) down y e none a)
