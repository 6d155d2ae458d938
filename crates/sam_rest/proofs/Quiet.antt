-- Which events ask for data: a View and a Load alone.
use Rattle.sam_crossing.proofs.Common.{◌≡◌, ℕ, Bool, true, false, ◌&&◌, List, [], ◌∷◌, ◌++◌, is_empty, if◌then◌else◌, refl, arith, Tmesg, UserEvent, PlainTerminal, Made, flushed, sends, unchanged, types, event_outcome, made_by_type, made_by_cut, made_by_paste, made_by_snarf, made_by_edit, replaced, edit_messages, typed_pieces, pieces, length, ◌==◌, Tcut}
use Rattle.sam_term.specs.Term.{made_then}
use Rattle.sam_term.specs.LockCounts.{requests}
use Rattle.sam_term.specs.declared.event.UserEvent.TheVariants.{Typed, Select, Cut, Paste, Snarf, View, Load, Edit, Flush}
use Rattle.sam_rest.proofs.Kept.{requests-append, flush-asks}

-- what was made asks for no data of f
pub record Quiet (f : ℕ) (made : Made) : Type 0 where
  pub none : requests f made.1 ≡ 0

quiet-flushed : (f : ℕ) (t : PlainTerminal) → Quiet f (flushed t)
quiet-flushed f t = record { none = flush-asks f t }

quiet-then : (f : ℕ) (made : Made) (next : PlainTerminal → Made) → Quiet f made → Quiet f (next made.0) → Quiet f (made_then made next)
quiet-then f made next a b = grind (arith, requests-append)

quiet-if : (f : ℕ) (b : Bool) (x y : Made) → Quiet f x → Quiet f y → Quiet f (if b then x else y)
quiet-if f b x y e u = grind arith

quiet-none : (f : ℕ) (t : PlainTerminal) → Quiet f (t, [])
quiet-none f t = record { none = refl }

quiet-sends : (f : ℕ) (t : PlainTerminal) (change : PlainTerminal → PlainTerminal) (ms : List Tmesg) → requests f ms ≡ 0 → Quiet f (sends t change ms)
quiet-sends f t change ms e = grind (arith, requests-append, (quiet-flushed f t))

quiet-types : (f : ℕ) (t : PlainTerminal) (g p : ℕ) (s : List ℕ) → Quiet f (types t g p s)
quiet-types f t g p s = search (arith, quiet-then, quiet-if, quiet-none, quiet-flushed)

-- an edit only cuts and types
quiet-pieces : (f g : ℕ) (xs : List (ℕ × List ℕ)) → requests f (typed_pieces g xs) ≡ 0
quiet-pieces f g [] = refl
quiet-pieces f g (x ∷ xs) = omega (arith, quiet-pieces f g xs)

quiet-edit : (f g p q : ℕ) (s : List ℕ) → requests f (edit_messages g p q s) ≡ 0
quiet-edit f g p q s = by (p == q)
  where
    by : (none : Bool) → requests f ((if none then [] else Tcut g p q ∷ []) ++ typed_pieces g (pieces (length s) p s)) ≡ 0
    by true = quiet-pieces f g (pieces (length s) p s)
    by false = omega (arith, quiet-pieces f g (pieces (length s) p s))

abbrev pub is_looking : UserEvent → Bool
is_looking (View f p n) = true
is_looking (Load f p n) = true
is_looking _ = false

pub quiet-event : (f : ℕ) (t : PlainTerminal) (e : UserEvent) → is_looking e ≡ false → Quiet f (event_outcome t e)
unfolding made_by_type made_by_cut made_by_paste made_by_snarf made_by_edit
quiet-event f t (Typed g s) l = search (arith, quiet-then, quiet-if, quiet-none, quiet-types, quiet-sends)
quiet-event f t (Select g p q) l = quiet-none f _
quiet-event f t (Cut g) l = search (arith, quiet-if, quiet-none, quiet-sends)
quiet-event f t (Paste g) l = search (arith, quiet-then, quiet-if, quiet-none, quiet-sends)
quiet-event f t (Snarf g) l = search (arith, quiet-if, quiet-none, quiet-sends)
quiet-event f t (View g p n) l = grind arith
quiet-event f t (Load g p n) l = grind arith
quiet-event f t (Edit g p q s) l =
    quiet-if f (p == q && is_empty s) (t, []) (sends t (λ u. replaced u g p q s) (edit_messages g p q s)) (quiet-none f t)
    (quiet-sends f t (λ u. replaced u g p q s) (edit_messages g p q s) (quiet-edit f g p q s))
quiet-event f t Flush l = quiet-flushed f t
quiet-event f t _ l = quiet-sends f t unchanged _ refl
