-- Runes typed in two messages do what they do in one.
use Rattle.sam_crossing.proofs.Common.{◌≡◌, ℕ, ◌+◌, ◌-◌, ◌≤◌, Bool, true, false, ◌&&◌, ◌==◌, if◌then◌else◌, List, [], ◌∷◌, ◌++◌, length, Option, Some, None, refl, sym, ap, ◌∙◌, arith, append_assoc, append-nil, length-append, same_Some, max_runes, ins, ends_line, part, line_start, first_of_checks, slot-put_same, put_slot-put_slot, length-ins, ends_line-append, file_at, typed_file, Tmesg, Ttype, Hmesg, PlainHost, Reply, counted, with_file, unknown, not_opened, host_checks, reply_to, reply_line, reply_type, Lens, reply_of, replied_then, answers, AllComeToSync}
use Rattle.sam_text.proofs.EditSteps.{typed_joined}
use Rattle.sam_crossing.proofs.Folds.{plain_reply, answered, answers-append}

-- the two are alike but for their counts
pub record AreAlike (a b : PlainHost) : Type 0 where
  pub files : a.files ≡ b.files
  pub done : a.is_done ≡ b.is_done
  pub version : a.version ≡ b.version

-- ## One typing

abbrev typed_host : PlainHost → ℕ → ℕ → List ℕ → PlainHost
typed_host h f p s = with_file h f (typed_file f (file_at h.files f) p s)

-- the line that a host runs after a typing, where it is one
abbrev after_typing : Bool → PlainHost → ℕ → ℕ → Reply
after_typing ends k f end = let t = (file_at k.files f).text in if ends then reply_line k [] (part t (line_start t end) end) else (k, [])

typed_reply : (h : PlainHost) (f p : ℕ) (s : List ℕ) → reply_to h (Ttype f p s) ≡ after_typing ((f == 0) && ends_line s) (typed_host h f p s) f (p + length s - 1)
unfolding reply_type
typed_reply h f p s = refl

alike_after : (ends : Bool) (k j : PlainHost) (f end : ℕ) → AreAlike k j
    → AreAlike (after_typing ends k f end).0 (after_typing ends j f end).0 × ((after_typing ends k f end).1 ≡ (after_typing ends j f end).1)
alike_after ends k j f end e = grind arith

typed_twice : (h : PlainHost) (f p : ℕ) (s w : List ℕ) → p ≤ length (file_at h.files f).text → AreAlike (typed_host (counted (typed_host h f p s)) f (p + length s) w) (typed_host h f p (s ++ w))
typed_twice h f p s w l = grind (arith, slot-put_same, typed_joined, put_slot-put_slot)

-- ## What stands against a typing

record CanType (h : PlainHost) (f p : ℕ) (s : List ℕ) : Type 0 where
  there : (unknown h f).0 ≡ false
  opened : (not_opened h f).0 ≡ false
  place : p ≤ length (file_at h.files f).text
  room : length (file_at h.files f).text + length s ≤ max_runes

may_type : (h : PlainHost) (f p : ℕ) (s : List ℕ) → CanType h f p s → first_of_checks (host_checks h (Ttype f p s)) ≡ None
may_type h f p s c = grind arith

-- the reply that was given, by a host that is not done
record WasTyped (h : PlainHost) (f p : ℕ) (s : List ℕ) (r : Reply) : Type 0 where
  can : CanType h f p s
  is : r ≡ (counted (reply_to h (Ttype f p s)).0, (reply_to h (Ttype f p s)).1)

was_typed : (h : PlainHost) (f p : ℕ) (s : List ℕ) (r : Reply) → h.is_done ≡ false → reply_of h (Ttype f p s) ≡ Some r → WasTyped h f p s r
was_typed h f p s r d e = grind arith

-- ## Two typings, and the same at once

pub record Joined (h : PlainHost) (f p : ℕ) (s w : List ℕ) (r1 r2 : Reply) : Type 0 where
  pub reply : Reply
  pub now : reply_of h (Ttype f p (s ++ w)) ≡ Some reply
  pub silent : r1.1 ≡ []
  pub alike : AreAlike r2.0 reply.0
  pub frames : r2.1 ≡ reply.1

pub joined : (h : PlainHost) (f p c : ℕ) (s u : List ℕ) (r1 r2 : Reply) (done : Bool) → h.is_done ≡ done → ((f == 0) && ends_line s) ≡ false → reply_of h (Ttype f p s) ≡ Some r1
    → reply_of r1.0 (Ttype f (p + length s) (c ∷ u)) ≡ Some r2 → Joined h f p s (c ∷ u) r1 r2
joined h f p c s u r1 r2 true d plain e1 e2 = record { reply = (counted h, []); now = grind arith; silent = grind arith; alike = grind arith; frames = grind arith }
joined h f p c s u r1 r2 false d plain e1 e2 =
    let w : List ℕ = c ∷ u in
    let k : PlainHost = counted (typed_host h f p s) in
    let one = was_typed h f p s r1 d e1 in
    let first : r1 ≡ (k, []) = grind (arith, typed_reply) in
    let two = was_typed k f (p + length s) w r2 d (grind arith) in
    let there : (file_at k.files f).text ≡ ins (file_at h.files f).text p s = grind (arith, slot-put_same) in
    let sum : length (s ++ w) ≡ length s + length w = length-append s w in
    let can : CanType h f p (s ++ w) = grind (arith, length-ins) in
    let ends : ((f == 0) && ends_line w) ≡ ((f == 0) && ends_line (s ++ w)) = grind (arith, (ends_line-append s u c)) in
    let both = alike_after ((f == 0) && ends_line w) (typed_host k f (p + length s) w) (typed_host h f p (s ++ w)) f (p + length s + length w - 1) (typed_twice h f p s w one.can.place) in
    grind (arith, two.is, typed_reply, both, ends, sum, (plain_reply h (Ttype f p (s ++ w)) d (may_type h f p (s ++ w) can)))

-- ## Behind other messages

record Split (h : PlainHost) (ms ns : List Tmesg) (x : Reply) : Type 0 where
  first : Reply
  last : Reply
  now : answers h ms ≡ Some first
  later : answers first.0 ns ≡ Some last
  whole : x ≡ (last.0, first.1 ++ last.1)

answers_split : (h : PlainHost) (ms ns : List Tmesg) (x : Reply) → answers h (ms ++ ns) ≡ Some x → Split h ms ns x
answers_split h [] ns x e = record { first = (h, []); last = x; now = refl; later = e; whole = refl }
answers_split h (m ∷ ms) ns x e =
    let t = answered h m (ms ++ ns) x e in
    let r = answers_split t.first.0 ms ns t.rest t.later in
    record { first = (r.first.0, t.first.1 ++ r.first.1); last = r.last; now = grind arith; later = r.later; whole = grind (arith, append_assoc) }

-- another list of messages that folds to the like
refolded : (h : PlainHost) (views : ℕ → Lens) (line other : List Tmesg) (down : List Hmesg) (k : AllComeToSync h views line down) (a : PlainHost) (r : Reply) → k.ahead ≡ a → AreAlike a r.0
    → k.frames ≡ r.1
    → answers h other ≡ Some r → AllComeToSync h views other down
refolded h views line other down k a r e alike frames folds = grind arith

-- the fold of one message in place of two
pub joins : (h : PlainHost) (views : ℕ → Lens) (line : List Tmesg) (down : List Hmesg) (f p c : ℕ) (s u : List ℕ) → ((f == 0) && ends_line s) ≡ false
    → AllComeToSync h views ((line ++ Ttype f p s ∷ []) ++ Ttype f (p + length s) (c ∷ u) ∷ []) down → AllComeToSync h views (line ++ Ttype f p (s ++ c ∷ u) ∷ []) down
joins h views line down f p c s u plain k =
    let w : List ℕ = c ∷ u in
    let x : Split h line (Ttype f p s ∷ Ttype f (p + length s) w ∷ []) (k.ahead, k.frames) =
    answers_split h line _ (k.ahead, k.frames) (ap (answers h) (sym (append_assoc line (Ttype f p s ∷ []) (Ttype f (p + length s) w ∷ []))) ∙ k.folds) in
    let y = answered x.first.0 (Ttype f p s) (Ttype f (p + length s) w ∷ []) x.last x.later in
    let z = answered y.first.0 (Ttype f (p + length s) w) [] y.rest y.later in
    let j = joined x.first.0 f p c s u y.first z.first x.first.0.is_done refl plain y.now z.now in
    let last : z.rest ≡ (z.first.0, []) = sym (same_Some _ _ z.later) in
    let after : x.last ≡ z.first = y.whole ∙ (λ i. ((z.whole i).0, j.silent i ++ (z.whole i).1)) ∙ (λ i. ((last i).0, z.first.1 ++ (last i).1))
    ∙ ap (λ (fs : List Hmesg). (z.first.0, fs)) (append-nil z.first.1) in
    let ahead : k.ahead ≡ z.first.0 = ap (λ (r : Reply). r.0) x.whole ∙ ap (λ (r : Reply). r.0) after in
    let frames : k.frames ≡ x.first.1 ++ j.reply.1 = ap (λ (r : Reply). r.1) x.whole ∙ ap (λ (r : Reply). x.first.1 ++ r.1) after ∙ ap (λ (fs : List Hmesg). x.first.1 ++ fs) j.frames in
    let now : answers x.first.0 (Ttype f p (s ++ w) ∷ []) ≡ Some j.reply = ap (λ (o : Option Reply). replied_then o (λ k. answers k [])) j.now
    ∙ ap (λ (fs : List Hmesg). Some (j.reply.0, fs)) (append-nil j.reply.1) in
    refolded h views _ (line ++ Ttype f p (s ++ w) ∷ []) down k z.first.0 (j.reply.0, x.first.1 ++ j.reply.1) ahead j.alike frames
    (answers-append h line (Ttype f p (s ++ w) ∷ []) x.first j.reply x.now now)
