-- The host's answers, one after another.
use Rattle.sam_crossing.proofs.Common.{◌≡◌, List, [], ◌∷◌, ◌++◌, Option, Some, None, refl, sym, ap, ◌∙◌, arith, append_assoc, Tmesg, Hmesg, PlainHost, Reply, answers, reply_of, replied_then}
use Rattle.sam_crossing.specs.Fold.{after_frames}

after_frames-nothing : (o : Option Reply) → after_frames [] o ≡ o
after_frames-nothing None = refl
after_frames-nothing (Some r) = refl

after_frames-after_frames : (xs ys : List Hmesg) (o : Option Reply) → after_frames xs (after_frames ys o) ≡ after_frames (xs ++ ys) o
after_frames-after_frames xs ys None = refl
after_frames-after_frames xs ys (Some r) = λ i. Some (r.0, sym (append_assoc xs ys r.1) i)

then-after_frames : (xs : List Hmesg) (o : Option Reply) (next : PlainHost → Option Reply) → replied_then (after_frames xs o) next ≡ after_frames xs (replied_then o next)
then-after_frames xs None next = refl
then-after_frames xs (Some r) next = sym (after_frames-after_frames xs r.1 (next r.0))

pub answers-more : (ms ns : List Tmesg) (h : PlainHost) → answers h (ms ++ ns) ≡ replied_then (answers h ms) (λ k. answers k ns)
answers-more [] ns h = sym (after_frames-nothing (answers h ns))
answers-more (m ∷ ms) ns h = go (reply_of h m) (answers-more ms ns)
  where
    go : (o : Option Reply) → ((k : PlainHost) → answers k (ms ++ ns) ≡ replied_then (answers k ms) (λ j. answers j ns))
        → replied_then o (λ k. answers k (ms ++ ns)) ≡ replied_then (replied_then o (λ k. answers k ms)) (λ k. answers k ns)
    go None more = refl
    go (Some r) more = ap (after_frames r.1) (more r.0) ∙ sym (then-after_frames r.1 (answers r.0 ms) (λ k. answers k ns))

-- the two parts of answers
pub record Parted (h : PlainHost) (ms ns : List Tmesg) (x : Reply) : Type 0 where
  pub first : Reply
  pub last : Reply
  pub now : answers h ms ≡ Some first
  pub later : answers first.0 ns ≡ Some last
  pub whole : x ≡ (last.0, first.1 ++ last.1)

pub parted : (h : PlainHost) (ms ns : List Tmesg) (x : Reply) → answers h (ms ++ ns) ≡ Some x → Parted h ms ns x
parted h ms ns x e = go (answers h ms) refl (sym (answers-more ms ns h) ∙ e)
  where
    go : (o : Option Reply) → answers h ms ≡ o → replied_then o (λ k. answers k ns) ≡ Some x → Parted h ms ns x
    go None q u = grind arith
    go (Some r) q u = last (answers r.0 ns) refl u
      where
        last : (o : Option Reply) → answers r.0 ns ≡ o → after_frames r.1 o ≡ Some x → Parted h ms ns x
        last None v w = grind arith
        last (Some s) v w = record { first = r; last = s; now = q; later = v; whole = grind arith }
