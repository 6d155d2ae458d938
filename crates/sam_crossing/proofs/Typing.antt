-- Typing keeps both sides in order, whether its runes are held back, joined to those held back, or sent at once.
use Rattle.sam_crossing.proofs.Common.{slot-put_other, slot-put_same, ◌≡◌, ℕ, ◌+◌, ◌≤◌, Bool, true, false, ◌&&◌, ◌==◌, if◌then◌else◌, nat_le, List, [], ◌∷◌, ◌++◌, length, Option, Some, None, refl, sym, subst, true≢false, eqb-true, eq-eqb, append-nil, arith, length-map, and_parts, ends_line, max_runes, most_in_message, ends_line-append, Tmesg, Ttype, Hmesg, PlainHost, CommandLock, NoLock, Unsent, is_command_line, PlainTerminal, Made, window_at, typed_rasp, joins, joined, types, flushed, unsent_message, Lens, OpenAt, view, AllComeToSync, AreTidy, IsHeldBack, views, InOrder}
use Rattle.sam_term.specs.Term.{made_then}
use Rattle.sam_crossing.proofs.Lenses.{IsOpen}
use Rattle.sam_crossing.proofs.Changes.{change_by, type_change, typed_in, changed}
use Rattle.sam_crossing.proofs.Joins as fold
use Rattle.sam_crossing.proofs.Composing.{composes}
use Rattle.sam_crossing.proofs.Views.{unsent-composed, tidy-composed, view-flushed, tidy-flushed}
use Rattle.sam_crossing.proofs.Dots.{length-ins_cells, tidy-ins}
use Rattle.sam_crossing.proofs.Sending.{Goes, then_goes, MaySend, open_is, has_open}

-- the place and the length of what is typed
Room : ℕ → List ℕ → List (Option ℕ) → Type 0
Room p s r = (p ≤ length r) × (length r + length s ≤ max_runes)

-- ## What typing shows

pub typed_view : (x : PlainTerminal) (f p : ℕ) (s : List ℕ) → IsOpen (view f x) → (g : ℕ) → view g (typed_rasp x f p s) ≡ (if g == f then typed_in p s (view g x) else view g x)
typed_view x f p s o g = grind (arith, slot-put_same, slot-put_other)

pub typed_tidy : (x : PlainTerminal) (f p : ℕ) (s : List ℕ) → AreTidy x → p ≤ length (window_at x f).rasp → AreTidy (typed_rasp x f p s)
typed_tidy x f p s all l = grind (arith, tidy-ins, length-ins_cells, length-map, slot-put_same, slot-put_other)

-- ## Runes that wait, and the text that has them

module _ (h : PlainHost) (down : List Hmesg) (u : PlainTerminal) (f p : ℕ) (s : List ℕ) (line : Bool) where
  -- what is shown once s is typed
  abbrev shown : ℕ → Lens
  shown g = changed (type_change (if line then CommandLock else NoLock) f p s) g (view g u)

  -- the runes of z wait in x, and the fold has them
  record Waiting (x : PlainTerminal) (z : Unsent) (up : List Tmesg) : Type 0 where
    file : z.file ≡ f
    place : z.place ≤ p
    ends : is_command_line z.file z.runes ≡ line
    waits : x.unsent ≡ Some z
    same : (g : ℕ) → view g x ≡ view g u
    tidy : AreTidy x
    fold : AllComeToSync h shown (up ++ Ttype z.file z.place z.runes ∷ []) down

  unsent_typed : (x : PlainTerminal) (z : Unsent) (up : List Tmesg) → Waiting x z up → (typed_rasp x f p s).unsent ≡ Some z
  unsent_typed x z up a = grind arith

  -- the command line is sent at once, other runes wait
  typed_goes : (x : PlainTerminal) (z : Unsent) (up : List Tmesg) → ((f == 0) && ends_line s) ≡ line → Waiting x z up → OpenAt (Room p s) (view f u)
      → Goes h up down (if line then flushed (typed_rasp x f p s) else (typed_rasp x f p s, []))
  unfolding flushed Room
  typed_goes x z up is a o =
      let open_x : IsOpen (view f x) = subst IsOpen (sym (a.same f)) (open_is (Room p s) (view f u) o) in
      let place_x = (has_open (Room p s) x f (subst (OpenAt (Room p s)) (sym (a.same f)) o)).0 in
      let tidy = typed_tidy x f p s a.tidy place_x in
      let waits = unsent_typed x z up a in
      grind (arith, eq-eqb, append-nil, eqb-true, and_parts, unsent-composed, tidy-composed, typed_view)

-- ## The whole

pub types_goes : (h : PlainHost) (u : PlainTerminal) (up : List Tmesg) (down : List Hmesg) (f p c : ℕ) (s : List ℕ) → InOrder h u up down → MaySend (views u) (Ttype f p (c ∷ s))
    → Goes h up down (types u f p (c ∷ s))
unfolding flushed Room
types_goes h u up down f p c s o may = go u.unsent refl (joins u.unsent f p (c ∷ s)) refl
  where
    next : PlainTerminal → Made
    next x = let typed = typed_rasp x f p (c ∷ s) in if is_command_line f (c ∷ s) then flushed typed else (typed, [])

    after : List Tmesg → Type 0
    after l = AllComeToSync h (λ g. changed (change_by (Ttype f p (c ∷ s))) g (view g u)) l down

    k : after ((up ++ unsent_message u.unsent) ++ Ttype f p (c ∷ s) ∷ [])
    k = composes h (views u) (up ++ unsent_message u.unsent) down (Ttype f p (c ∷ s)) o.kept may.here may.free may.allowed may.can

    go : (y : Option Unsent) → u.unsent ≡ y → (b : Bool) → joins y f p (c ∷ s) ≡ b
        → Goes h up down (made_then (if b then (record u { unsent = Some (joined y f p (c ∷ s)) }, []) else made_then (flushed u) (λ x. (record x { unsent = Some (joined None f p (c ∷ s)) }, []))) next)
    go y e false j =
        let x : PlainTerminal = record (flushed u).0 { unsent = Some (joined None f p (c ∷ s)) } in
        let path : (up ++ unsent_message u.unsent) ++ Ttype f p (c ∷ s) ∷ [] ≡ (up ++ (unsent_message u.unsent ++ [])) ++ Ttype f p (c ∷ s) ∷ [] = simp append-nil in
        then_goes h up down (made_then (flushed u) (λ x. (record x { unsent = Some (joined None f p (c ∷ s)) }, []))) next
        (typed_goes h down u f p (c ∷ s) (is_command_line f (c ∷ s)) x (joined None f p (c ∷ s)) (up ++ (unsent_message u.unsent ++ [])) refl
        (record { file = refl; place = omega arith; ends = refl; waits = refl; same = λ g. view-flushed u o.unsent g; tidy = tidy-flushed u o.tidy; fold = subst after path k }) may.can)
    go None e true j = absurd (true≢false (sym j))
    go (Some y) e true j =
        let parts = and_parts ((y.file == f) && (y.place + length y.runes == p)) (nat_le (length y.runes + length (c ∷ s)) most_in_message) j in
        let tests = and_parts (y.file == f) (y.place + length y.runes == p) parts.0 in
        let file : y.file ≡ f = eqb-true y.file f tests.0 in
        let place : y.place + length y.runes ≡ p = eqb-true (y.place + length y.runes) p tests.1 in
        let held : IsHeldBack (views u) (Some y) = subst (IsHeldBack (views u)) e o.unsent in
        let list : (up ++ unsent_message u.unsent) ++ Ttype f p (c ∷ s) ∷ [] ≡ (up ++ Ttype y.file y.place y.runes ∷ []) ++ Ttype y.file (y.place + length y.runes) (c ∷ s) ∷ [] =
        λ i. (up ++ unsent_message (e i)) ++ Ttype (sym file i) (sym place i) (c ∷ s) ∷ [] in
        let one = fold.joins h (λ g. changed (change_by (Ttype f p (c ∷ s))) g (view g u)) up down y.file y.place c y.runes s held.0 (subst after list k) in
        let ends : is_command_line y.file (y.runes ++ c ∷ s) ≡ is_command_line f (c ∷ s) = λ i. (file i == 0) && ends_line-append y.runes s c i in
        let x : PlainTerminal = record u { unsent = Some (joined (Some y) f p (c ∷ s)) } in
        let all = subst (λ (l : List Tmesg). after (l ++ Ttype y.file y.place (y.runes ++ c ∷ s) ∷ [])) (sym (append-nil up)) one in
        then_goes h up down (x, []) next
        (typed_goes h down u f p (c ∷ s) (is_command_line f (c ∷ s)) x (joined (Some y) f p (c ∷ s)) (up ++ []) refl
        (record { file = file; place = omega (arith, place); ends = ends; waits = refl; same = λ g. refl; tidy = o.tidy; fold = all }) may.can)
