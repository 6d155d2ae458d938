-- Runes typed in two messages do what they do in one, to the host and in its frames.
use Rattle.sam_crossing.proofs.Common.{◌≡◌, ℕ, ◌+◌, false, ◌&&◌, ◌==◌, List, [], ◌∷◌, ◌++◌, length, Option, Some, refl, sym, ap, ◌∙◌, append_assoc, append-nil, same_Some, ends_line, Tmesg, Ttype, Hmesg, PlainHost, Reply, reply_of, replied_then, answers}
use Rattle.sam_crossing.specs.Fold.{after_frames}
use Rattle.sam_crossing.proofs.Folds.{answered}
use Rattle.sam_crossing.proofs.Joins.{AreAlike, joined}
use Rattle.sam_local.proofs.Folds.{Parted, parted, answers-more}
use Rattle.sam_local.proofs.Uncounted.{rest, rested}

-- two replies in turn and one reply, after the same frames
rested-alike : (x last one : Reply) (before : List Hmesg) → x ≡ (last.0, before ++ last.1) → AreAlike last.0 one.0 → last.1 ≡ one.1
    → Some (rest one.0, before ++ (one.1 ++ [])) ≡ rested (Some x)
rested-alike x last one before e alike frames =
    (λ i. Some (record { files = sym alike.files i; taken = 0; is_done = sym alike.done i; version = sym alike.version i }, before ++ append-nil one.1 i))
    ∙ (λ i. Some (rest last.0, before ++ sym frames i)) ∙ sym (ap (λ (r : Reply). rested (Some r)) e)

-- the answers to two messages, the first of which is answered by nothing
last-is : (first two rest_of last : Reply) → first.1 ≡ [] → Some (two.0, []) ≡ Some rest_of → last ≡ (rest_of.0, first.1 ++ (two.1 ++ rest_of.1)) → last ≡ two
last-is first two rest_of last silent e whole =
    let end = same_Some _ _ e in
    whole ∙ (λ i. ((sym end i).0, silent i ++ (two.1 ++ (sym end i).1))) ∙ ap (λ (fs : List Hmesg). (two.0, fs)) (append-nil two.1)

-- one message after others
after_frames-others : (h : PlainHost) (line : List Tmesg) (m : Tmesg) (first one : Reply) → answers h line ≡ Some first → reply_of first.0 m ≡ Some one
    → rested (answers h (line ++ m ∷ [])) ≡ Some (rest one.0, first.1 ++ (one.1 ++ []))
after_frames-others h line m first one e q =
    ap rested (answers-more line (m ∷ []) h) ∙ ap (λ (o : Option Reply). rested (replied_then o (λ k. answers k (m ∷ [])))) e
    ∙ ap (λ (o : Option Reply). rested (after_frames first.1 (replied_then o (λ k. Some (k, []))))) q

-- the last of two replies in turn
whole-is : (x last two : Reply) (before : List Hmesg) → x ≡ (last.0, before ++ last.1) → last ≡ two → x ≡ (two.0, before ++ two.1)
whole-is x last two before e q = e ∙ ap (λ (r : Reply). (r.0, before ++ r.1)) q

-- one message after others in the place of two
one-for-two : (h : PlainHost) (line : List Tmesg) (m : Tmesg) (first one x last two : Reply) → answers h line ≡ Some first → reply_of first.0 m ≡ Some one
    → x ≡ (last.0, first.1 ++ last.1) → last ≡ two → AreAlike two.0 one.0 → two.1 ≡ one.1 → rested (answers h (line ++ m ∷ [])) ≡ rested (Some x)
one-for-two h line m first one x last two e q w l alike frames =
    after_frames-others h line m first one e q ∙ rested-alike x two one first.1 (whole-is x last two first.1 w l) alike frames

pub joined-answers : (h : PlainHost) (line : List Tmesg) (f p c : ℕ) (s u : List ℕ) (x : Reply) → ((f == 0) && ends_line s) ≡ false
    → answers h ((line ++ Ttype f p s ∷ []) ++ Ttype f (p + length s) (c ∷ u) ∷ []) ≡ Some x
    → rested (answers h (line ++ Ttype f p (s ++ c ∷ u) ∷ [])) ≡ rested (Some x)
joined-answers h line f p c s u x plain e =
    let a : Parted h line (Ttype f p s ∷ Ttype f (p + length s) (c ∷ u) ∷ []) x =
    parted h line _ x (ap (answers h) (sym (append_assoc line (Ttype f p s ∷ []) (Ttype f (p + length s) (c ∷ u) ∷ []))) ∙ e) in
    let y = answered a.first.0 (Ttype f p s) (Ttype f (p + length s) (c ∷ u) ∷ []) a.last a.later in
    let z = answered y.first.0 (Ttype f (p + length s) (c ∷ u)) [] y.rest y.later in
    let j = joined a.first.0 f p c s u y.first z.first a.first.0.is_done refl plain y.now z.now in
    let last = last-is y.first z.first z.rest a.last j.silent z.later (y.whole ∙ (λ i. ((z.whole i).0, y.first.1 ++ (z.whole i).1))) in
    one-for-two h line (Ttype f p (s ++ c ∷ u)) a.first j.reply x a.last z.first a.now j.now a.whole last j.alike j.frames
