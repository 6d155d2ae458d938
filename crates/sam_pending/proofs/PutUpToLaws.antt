-- Whether an edit of a group, or of one before it, is left to put: what the runs say of it, and what the cells do.
use Rattle.std.proofs.Common.{◌≡◌, refl, sym, ap, ◌∙◌, ℕ, zero, suc, ◌≤◌, Bool, true, false, nat_le, nat_lt, ◌&&◌, ◌||◌, List, [], ◌∷◌, ◌++◌, map, length, take, drop, Option, Some, None, arith, subst, length-drop, length-take-le}
use Rattle.std.specs.Prelude.{◌↔◌}
use Rattle.std.proofs.lemmas.Bool.Decides.{nat_tests}
use Rattle.std.proofs.lemmas.List.Elements.{All-append, All-map}
use Rattle.sam_pending.specs.Cells.{Cell, PartialText}
use Rattle.sam_pending.specs.Groups.{IsPutUpTo, is_due_by}
use Rattle.sam_pending.specs.Layers.{Layer, IsLayer, SaysLeft, runs_of}
use Rattle.sam_pending.specs.Runs.{held, typed_by, runes_of, room, rooms, cells, cells_of, reach, Within, is_due, has_due, has_next}
use Rattle.sam_pending.specs.declared.run.Run.{Run}
use Rattle.sam_pending.specs.declared.run.Run.TheVariants.{Held, Typed}
use Rattle.sam_pending.specs.declared.run.Deed.TheVariants.{Removes, Inserts}
use Rattle.sam_pending.proofs.RunLaws.{runes-size}

put-none : (g : ℕ) → IsPutUpTo g []
put-none g k c l = absurd (omega (arith, l))

put-cons : (g : ℕ) (c : Cell) (cs : List Cell) → is_due_by g c ≡ false → IsPutUpTo g cs → IsPutUpTo g (c ∷ cs)
put-cons g c cs first rest zero d l = first
put-cons g c cs first rest (suc k) d l = rest k d (omega (arith, l))

put-both : (g : ℕ) (a b : List Cell) → IsPutUpTo g a → IsPutUpTo g b → IsPutUpTo g (a ++ b)
put-both g a b p q = All-append (λ c. is_due_by g c ≡ false) a b p q

put-front : (g : ℕ) (a b : List Cell) → IsPutUpTo g (a ++ b) → IsPutUpTo g a
put-front g [] b p = put-none g
put-front g (c ∷ a) b p = put-cons g c a (p 0 c (omega arith)) (put-front g a b (λ k d l. p (suc k) d (omega (arith, l))))

put-back : (g : ℕ) (a b : List Cell) → IsPutUpTo g (a ++ b) → IsPutUpTo g b
put-back g [] b p = p
put-back g (c ∷ a) b p = put-back g a b (λ k d l. p (suc k) d (omega (arith, l)))

-- ## One run

-- nothing of the run is due: it is empty, or its group is a later one
or-none : (a b : Bool) → a || b ≡ false → (a ≡ false) × (b ≡ false)
or-none false b e = (refl, e)
or-none true b e = absurd cc

-- a list with a member is not empty
some-there : (n : ℕ) (b : Bool) → nat_lt 0 (suc n) && b ≡ b
some-there n b =
    let some : nat_lt 0 (suc n) ≡ true = grind (arith, nat_tests) in
    ap (λ t. t && b) some

none-held : (g h : ℕ) (s : PartialText) → nat_lt 0 (length s) && nat_le h g ≡ false → IsPutUpTo g (map (held (Some h)) s)
none-held g h [] e = put-none g
none-held g h (m ∷ s) e = All-map (λ c. is_due_by g c ≡ false) (held (Some h)) (m ∷ s) (λ j y i. sym (some-there (length s) (nat_le h g)) ∙ e)

none-typed : (g b : ℕ) (d : Option ℕ) (s : List ℕ) → nat_lt 0 (length s) && nat_le b g ≡ false → IsPutUpTo g (map (typed_by b d) s)
none-typed g b d [] e = put-none g
none-typed g b d (c ∷ s) e = All-map (λ c. is_due_by g c ≡ false) (typed_by b d) (c ∷ s) (λ j y i. sym (some-there (length s) (nat_le b g)) ∙ e)

held-none : (g h : ℕ) (s : PartialText) → IsPutUpTo g (map (held (Some h)) s) → nat_lt 0 (length s) && nat_le h g ≡ false
held-none g h [] p = refl
held-none g h (m ∷ s) p = some-there (length s) (nat_le h g) ∙ p 0 (held (Some h) m) (omega arith)

typed-none : (g b : ℕ) (d : Option ℕ) (s : List ℕ) → IsPutUpTo g (map (typed_by b d) s) → nat_lt 0 (length s) && nat_le b g ≡ false
typed-none g b d [] p = refl
typed-none g b d (c ∷ s) p = some-there (length s) (nat_le b g) ∙ p 0 (typed_by b d c) (omega arith)

stays-held : (g : ℕ) (s : PartialText) → IsPutUpTo g (map (held None) s)
stays-held g s = All-map (λ c. is_due_by g c ≡ false) (held None) s (λ j y i. refl)

-- whether an edit is due at the run
abbrev pub run_next : ℕ → Run → Bool
run_next g x = is_due (Removes (Some g)) x || is_due (Inserts (Some g)) x

run-put : (g : ℕ) (x : Run) (text : List ℕ) (r : PartialText) → reach x ≤ length text → room x ≤ length r → (run_next g x ≡ false) ↔ IsPutUpTo g (cells text r x)
run-put g (Held k None) text r w l = (λ e. stays-held g (take k r), λ p. refl)
run-put g (Held k (Some h)) text r w l =
    let size : length (take k r) ≡ k = length-take-le k r l in (
      λ e. none-held g h (take k r) (ap (λ n. nat_lt 0 n && nat_le h g) size ∙ (or-none (nat_lt 0 k && nat_le h g) false e).0),
      λ p. ap (λ b. b || false) (sym (ap (λ n. nat_lt 0 n && nat_le h g) size) ∙ held-none g h (take k r) p),
    )
run-put g (Typed s b d) text r w l =
    let size : length (runes_of text s) ≡ s.count = runes-size text s w in (
      λ e. none-typed g b d (runes_of text s) (ap (λ n. nat_lt 0 n && nat_le b g) size ∙ e),
      λ p. sym (ap (λ n. nat_lt 0 n && nat_le b g) size) ∙ typed-none g b d (runes_of text s) p,
    )

-- ## Runs

order : (a b c d : Bool) → (a || c) || (b || d) ≡ (a || b) || (c || d)
order true b c d = refl
order false true true d = refl
order false true false d = refl
order false false c d = refl

next-cons : (g : ℕ) (x : Run) (xs : List Run) → has_next (Some g) (x ∷ xs) ≡ run_next g x || has_next (Some g) xs
next-cons g x xs = order (is_due (Removes (Some g)) x) (is_due (Inserts (Some g)) x) (has_due (Removes (Some g)) xs) (has_due (Inserts (Some g)) xs)

runs_put : (g : ℕ) (xs : List Run) (text : List ℕ) (r : PartialText) → Within (length text) xs → rooms xs ≤ length r
    → (has_next (Some g) xs ≡ false) ↔ IsPutUpTo g (cells_of text r xs)
runs_put g [] text r w l = (λ e. put-none g, λ p. refl)
runs_put g (x ∷ xs) text r w l =
    let here = run-put g x text r w.0 (omega (arith, l)) in
    let rest = runs_put g xs text (drop (room x) r) w.1 (omega (arith, l, length-drop (room x) r)) in (
      λ e. let none = or-none (run_next g x) (has_next (Some g) xs) (sym (next-cons g x xs) ∙ e) in
          put-both g (cells text r x) (cells_of text (drop (room x) r) xs) (here.0 none.0) (rest.0 none.1),
      λ p. next-cons g x xs
          ∙ (ap (λ b. b || has_next (Some g) xs) (here.1 (put-front g (cells text r x) (cells_of text (drop (room x) r) xs) p))
          ∙ rest.1 (put-back g (cells text r x) (cells_of text (drop (room x) r) xs) p)),
    )

pub left_said : (l : Layer) (g : ℕ) → IsLayer l → SaysLeft g l (has_next (Some g) (runs_of l))
left_said l g h r o = runs_put g (runs_of l) l.text r h.within (omega (arith, o))

pub left-said : (l : Layer) (m : Option ℕ) → IsLayer l → (g : ℕ) → m ≡ Some g → SaysLeft g l (has_next m (runs_of l))
left-said l m h g is = subst (λ k. SaysLeft g l (has_next k (runs_of l))) (sym is) (left_said l g h)

pub ruleset left_facts = (left-said)
