-- Taking in again and again.
use Rattle.std.proofs.Common.{◌≡◌, ℕ, suc, ◌+◌, ◌<◌, ◌≤◌, List, [], ◌∷◌, ◌++◌, length, take, drop, set, refl, sym, ap, subst, ◌∙◌, arith, length-drop, drop-drop, take-append-drop}
use Rattle.std.proofs.lemmas.List.{drop-set-lt, length-set, take_more_set}
use Rattle.sam_link.specs.Inbox.{Holds, LiesIn, TakesAll, TakesIn, TakesOften, TakesPlaces, Waiting, left_of, lying, made_ready, parted, ready, stretch}
use Rattle.sam_link.specs.declared.inbox.Marks.{Marks}
use Rattle.sam_link.specs.declared.inbox.Place.{Place}

-- from the old marks and buffer on, so many bytes came in
pub record Taken (bytes : List ℕ) (old now : Marks) (into filled : List ℕ) (count : ℕ) : Type 0 where
  pub lies : LiesIn now bytes
  pub inside : count ≤ length filled
  pub held : (lying now bytes).held ≡ (lying old bytes).held
  pub often : ℕ
  pub takes : TakesOften often (lying old bytes).waiting into count filled (lying now bytes).waiting

pub none_taken : (bytes : List ℕ) (old : Marks) (into : List ℕ) → LiesIn old bytes → Taken bytes old old into into 0
none_taken bytes old into lies =
    record { lies = lies; inside = omega arith; held = refl; often = 0; takes = (refl, refl, refl) }

pub more_taken : (bytes : List ℕ) (old now next : Marks) (into filled after : List ℕ) (count more : ℕ) → Taken bytes old now into filled count → LiesIn next bytes
    → (lying next bytes).held ≡ (lying now bytes).held → TakesIn (lying now bytes).waiting (drop count filled) more (drop count after) (lying next bytes).waiting
    → take count after ≡ take count filled → length after ≡ length filled → Taken bytes old next into after (count + more)
more_taken bytes old now next into filled after count more t lies held taken front long =
    record {
      lies = lies;
      inside = omega (arith, (t.inside), (taken.0), long, (length-drop count filled));
      held = held ∙ t.held;
      often = suc t.often;
      takes = ((lying now bytes).waiting, count, more, filled, t.takes, refl, front, taken);
    }

same_rest : (filled after : List ℕ) (count : ℕ) → take count after ≡ take count filled → drop count after ≡ drop count filled → after ≡ filled
same_rest filled after count front rest =
    sym (take-append-drop count after) ∙ ap (λ a. a ++ drop count after) front ∙ ap (λ a. take count filled ++ a) rest ∙ take-append-drop count filled

pub all_taken : (bytes : List ℕ) (old now next : Marks) (into filled after : List ℕ) (count more : ℕ) → Taken bytes old now into filled count → more ≡ 0
    → TakesIn (lying now bytes).waiting (drop count filled) more (drop count after) (lying next bytes).waiting → take count after ≡ take count filled
    → TakesAll (lying old bytes).waiting into count after (lying next bytes).waiting
all_taken bytes old now next into filled after count more t none taken front =
    let w = (lying now bytes).waiting in
    let n = (lying next bytes).waiting in
    let zero_taken : TakesIn w (drop count filled) 0 (drop count after) n = subst (λ m. TakesIn w (drop count filled) m (drop count after) n) none taken in
    let same : after ≡ filled = same_rest filled after count front zero_taken.1 in
    rw same (t.often, w, t.takes, subst (λ a. TakesIn w (drop count filled) 0 a n) (ap (drop count) same) zero_taken)

-- ## Where it lies

place_after : (piece : List ℕ) (w m n : Waiting) (ps : List Place) (p : Place) → TakesPlaces piece w ps m → Holds piece p (ready m).part → n ≡ left_of m p.len
    → TakesPlaces piece w (ps ++ p ∷ []) n
place_after piece w m n [] p taken here is = (subst (λ v. Holds piece p (ready v).part) taken here, is ∙ ap (λ v. left_of v p.len) taken)
place_after piece w m n (q ∷ ps) p taken here is = (taken.0, place_after piece (left_of w q.len) m n ps p taken.1 here is)

-- from the old marks and places on, so many were written
pub record Placed (bytes : List ℕ) (old now : Marks) (places written : List Place) (count : ℕ) : Type 0 where
  pub lies : LiesIn now bytes
  pub inside : count ≤ length places
  pub long : length written ≡ length places
  pub rest : drop count written ≡ drop count places
  pub held : (lying now bytes).held ≡ (lying old bytes).held
  pub takes : TakesPlaces bytes (lying old bytes).waiting (take count written) (lying now bytes).waiting

drop_next : (count : ℕ) (a b : List Place) → drop count a ≡ drop count b → drop (count + 1) a ≡ drop (count + 1) b
drop_next count a b same = sym (drop-drop 1 count a ∙ ap (λ n. drop n a) (omega arith)) ∙ ap (drop 1) same ∙ drop-drop 1 count b ∙ ap (λ n. drop n b) (omega arith)

pub more_placed : (bytes : List ℕ) (old now next : Marks) (places written after : List Place) (count : ℕ) (p : Place) → Placed bytes old now places written count
    → count < length written → after ≡ set written count p → LiesIn next bytes → p.start + p.len ≤ length bytes → stretch bytes p ≡ (ready (lying now bytes).waiting).part
    → lying next bytes ≡ parted (made_ready (lying now bytes)) p.len → 0 < p.len → Placed bytes old next places after (count + 1)
more_placed bytes old now next places written after count p t room is lies inside body rest some =
    record {
      lies = lies;
      inside = omega (arith, (t.long), room);
      long = ap length is ∙ length-set written count p ∙ t.long;
      rest = ap (drop (count + 1)) is ∙ drop-set-lt (count + 1) written count p (omega arith) ∙ drop_next count written places t.rest;
      held = ap (λ a. a.held) rest ∙ t.held;
      takes = subst (λ l. TakesPlaces bytes (lying old bytes).waiting l (lying next bytes).waiting) (sym (ap (take (count + 1)) is ∙ take_more_set written count p room))
          (place_after bytes (lying old bytes).waiting (lying now bytes).waiting (lying next bytes).waiting (take count written) p t.takes (inside, body, some) (ap (λ a. a.waiting) rest));
    }
