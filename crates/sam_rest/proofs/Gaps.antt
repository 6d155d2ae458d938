-- The gaps of a file that are left once all that is under way has come, and what a request for one of them does to them.
use Rattle.sam_crossing.proofs.Common.{◌≡◌, ℕ, zero, suc, ◌+◌, ◌-◌, ◌<◌, ◌≤◌, min, Bool, true, false, ◌||◌, if◌then◌else◌, le-leb, List, [], ◌∷◌, ◌++◌, length, map, take, drop, replicate, Option, Some, None, refl, sym, ap, ◌∙◌, take-append-drop, length-take, length-drop, arith, most_in_message, part, length_agrees, Agrees, PartialText, load_cells, Lens, lens, Unknown, Known, Open, Action, Join, Bind, Close, Leave, Grow, Fill, Insert, Cut, Free_file, move, run, HFile}
use Rattle.std.proofs.lemmas.List.{drop-drop}
use Rattle.sam_crossing.specs.Lens.{moved_then}
use Rattle.sam_term.specs.Loading.{gaps}
use Rattle.sam_crossing.proofs.Lenses.{locked_more, AreSkips}
use Rattle.sam_crossing.proofs.Runs.{stepped, run-append_some}
use Rattle.sam_rest.proofs.Actions.{is_fill, fills, Answer}

-- ## Gaps of a partial text

pub gaps-append : (xs ys : PartialText) → gaps (xs ++ ys) ≡ gaps xs + gaps ys
gaps-append [] ys = omega arith
gaps-append (None ∷ xs) ys = omega (arith, gaps-append xs ys)
gaps-append (Some c ∷ xs) ys = gaps-append xs ys

pub gaps-loaded : (s : List ℕ) → gaps (map Some s) ≡ 0
gaps-loaded [] = refl
gaps-loaded (c ∷ s) = gaps-loaded s

pub gaps-all : (n : ℕ) → gaps (replicate n None) ≡ n
gaps-all zero = refl
gaps-all (suc n) = omega (arith, gaps-all n)

pub gaps-parts : (n : ℕ) (r : PartialText) → gaps r ≡ gaps (take n r) + gaps (drop n r)
gaps-parts n r = ap gaps (sym (take-append-drop n r)) ∙ gaps-append (take n r) (drop n r)

-- what is loaded fills just the gaps that stood there
pub gaps-load : (r : PartialText) (p : ℕ) (s : List ℕ) → gaps r ≡ gaps (load_cells r p s) + gaps (take (length s) (drop p r))
gaps-load r p s =
    let front = gaps-parts p r in
    let back = gaps-parts (length s) (drop p r) in
    let far : drop (length s) (drop p r) ≡ drop (p + length s) r = drop-drop (length s) p r in
    let all : gaps (load_cells r p s) ≡ gaps (take p r) + gaps (map Some s) + gaps (drop (p + length s) r) =
    gaps-append (take p r ++ map Some s) (drop (p + length s) r) ∙ ap (λ k. k + gaps (drop (p + length s) r)) (gaps-append (take p r) (map Some s)) in
    omega (arith, front, back, ap gaps far, all, gaps-loaded s)

-- ## Gaps at one file

abbrev pub rasp_of : Lens → PartialText
rasp_of (lens c e n Unknown) = []
rasp_of (lens c e n Known) = []
rasp_of (lens c e n (Open r k)) = r

abbrev pub gaps_in : Option Lens → ℕ
gaps_in None = 0
gaps_in (Some v) = gaps (rasp_of v)

-- an action that makes another partial text, but for filling gaps
abbrev pub is_reshaping : Action → Bool
is_reshaping Join = true
is_reshaping Bind = true
is_reshaping Close = true
is_reshaping Leave = true
is_reshaping (Grow p n) = true
is_reshaping (Insert p s) = true
is_reshaping (Cut p n) = true
is_reshaping _ = false

-- 1 where the action makes another partial text and no Hdata comes after it
abbrev pub late_one : Bool → Bool → ℕ
late_one true filled = if filled then 0 else 1
late_one false filled = 0

-- how many actions make another partial text after the last Hdata
abbrev pub late : List Action → ℕ
late [] = 0
late (a ∷ rest) = late_one (is_reshaping a) (fills rest) + late rest

-- how much there is to ask for at the file: the gaps that are left, and one more for each action that may move them
abbrev pub wants : List Action → Lens → ℕ
wants s v = gaps_in (run s v) + late s

-- ## Lists of actions

fills-last : (s : List Action) (p : ℕ) (x : List ℕ) → fills (s ++ Fill p x ∷ Free_file ∷ []) ≡ true
fills-last [] p x = refl
fills-last (a ∷ s) p x = grind (arith, (fills-last s p x))

late-filled : (s : List Action) (p : ℕ) (x : List ℕ) → late (s ++ Fill p x ∷ Free_file ∷ []) ≡ 0
late-filled [] p x = refl
late-filled (a ∷ s) p x = grind (arith, (late-filled s p x), (fills-last s p x))

fills-skips : (s u : List Action) → AreSkips u → fills (s ++ u) ≡ fills s
fills-skips [] [] k = refl
fills-skips [] (a ∷ u) k = grind (arith, (fills-skips [] u k.1))
fills-skips (a ∷ s) u k = ap (λ b. is_fill a || b) (fills-skips s u k)

late-skips : (s u : List Action) → AreSkips u → late (s ++ u) ≡ late s
late-skips [] [] k = refl
late-skips [] (a ∷ u) k = grind (arith, (late-skips [] u k.1))
late-skips (a ∷ s) u k = grind (arith, (late-skips s u k), (fills-skips s u k))

run-skips : (s u : List Action) (v : Lens) → AreSkips u → run (s ++ u) v ≡ run s v
run-skips [] [] v k = refl
run-skips [] (a ∷ u) v k = grind (arith, (run-skips [] u v k.1))
run-skips (a ∷ s) u v k = go (move a v) (λ w. run-skips s u w k)
  where
    go : (o : Option Lens) → ((w : Lens) → run (s ++ u) w ≡ run s w) → moved_then o (run (s ++ u)) ≡ moved_then o (run s)
    go None same = refl
    go (Some w) same = same w

pub wants-skips : (s u : List Action) (v : Lens) → AreSkips u → wants (s ++ u) v ≡ wants s v
wants-skips s u v k = grind (arith, (late-skips s u k), (run-skips s u v k))

-- one action less
pub wants-first : (a : Action) (s : List Action) (v w : Lens) → move a v ≡ Some w → wants s w ≤ wants (a ∷ s) v
wants-first a s v w e = grind arith

-- what fills nothing and makes no other partial text leaves it
same-rasp : (s : List Action) (v w : Lens) → run s v ≡ Some w → fills s ≡ false → late s ≡ 0 → rasp_of w ≡ rasp_of v
same-rasp [] v w r e l = grind arith
same-rasp (a ∷ s) v w r e l = let t = stepped a s v w r in grind (arith, (same-rasp s t.mid w))

-- ## A request for a gap

-- a stretch of gaps, of which one message can ask
pub record IsGap (r : PartialText) (p n : ℕ) : Type 0 where
  pub some : 0 < n
  pub few : n ≤ most_in_message
  pub within : p + n ≤ length r
  pub gaps : part r p (p + n) ≡ replicate n None

-- the place from which the host answers, and the runes
abbrev pub data_at : List ℕ → ℕ → ℕ
data_at t p = min p (length t)

abbrev pub data_of : List ℕ → ℕ → ℕ → List ℕ
data_of t p n = part t (min p (length t)) (min (p + min n most_in_message) (length t))

abbrev pub data_actions : List ℕ → ℕ → ℕ → List Action
data_actions t p n = Fill (data_at t p) (data_of t p n) ∷ Free_file ∷ []

data-fits : (t : List ℕ) (p n : ℕ) → data_at t p + length (data_of t p n) ≤ length t
data-fits t p n = let b = min (p + min n most_in_message) (length t) in omega (arith, length-take (b - data_at t p) (drop (data_at t p) t))

-- where the stretch lies within the text, all of it comes
data-whole : (t : List ℕ) (p n : ℕ) → n ≤ most_in_message → p + n ≤ length t → (data_at t p ≡ p) × (length (data_of t p n) ≡ n)
data-whole t p n l w =
    let b = min (p + min n most_in_message) (length t) in
    (omega (arith, w), omega (arith, l, w, length-take (b - data_at t p) (drop (data_at t p) t), length-drop (data_at t p) t))

runs-data : (c e : Bool) (n : ℕ) (r : PartialText) (t : List ℕ) (p m : ℕ) → Agrees r t
    → run (data_actions t p m) (lens c e n (Open r 1)) ≡ Some (lens c e n (Open (load_cells r (data_at t p) (data_of t p m)) 0))
runs-data c e n r t p m a =
    let l : data_at t p + length (data_of t p m) ≤ length r = omega (arith, data-fits t p m, length_agrees r t a) in
    grind (arith, (le-leb (data_at t p + length (data_of t p m)) (length r) l))

-- the answer leaves less to ask for
pub wants-less : (s : List Action) (v : Lens) (d : Bool) (file : HFile) (a : Answer s v d file) (p n : ℕ) → IsGap (rasp_of v) p n → fills s ≡ false
    → wants (s ++ data_actions a.text p n) (locked_more v) < wants s v
wants-less s v d file a p n g none = by (late s) refl
  where
    r : PartialText
    r = a.rasp

    after : run (s ++ data_actions a.text p n) (locked_more v) ≡ Some (lens false d a.version (Open (load_cells r (data_at a.text p) (data_of a.text p n)) 0))
    after = run-append_some s (data_actions a.text p n) (locked_more v) (lens false d a.version (Open r 1)) a.after ∙ runs-data false d a.version r a.text p n a.agrees

    loaded : gaps r ≡ gaps (load_cells r (data_at a.text p) (data_of a.text p n)) + gaps (take (length (data_of a.text p n)) (drop (data_at a.text p) r))
    loaded = gaps-load r (data_at a.text p) (data_of a.text p n)

    now : wants (s ++ data_actions a.text p n) (locked_more v) ≡ gaps (load_cells r (data_at a.text p) (data_of a.text p n))
    now = grind (arith, after, (late-filled s (data_at a.text p) (data_of a.text p n)))

    was : wants s v ≡ gaps r + late s
    was = ap (λ o. gaps_in o + late s) a.before

    by : (k : ℕ) → late s ≡ k → wants (s ++ data_actions a.text p n) (locked_more v) < wants s v
    by (suc k) e = omega (arith, now, was, loaded, e)
    by zero e =
        let same : r ≡ rasp_of v = same-rasp s v (lens false d a.version (Open r 0)) a.before none e in
        let size : length r ≡ length (rasp_of v) = ap length same in
        let whole = data-whole a.text p n g.few (omega (arith, g.within, size, length_agrees r a.text a.agrees)) in
        let here : take (length (data_of a.text p n)) (drop (data_at a.text p) r) ≡ replicate n None =
        ap (λ (m : ℕ). take m (drop (data_at a.text p) r)) whole.1 ∙ ap (λ (q : ℕ). take n (drop q r)) whole.0 ∙ ap (λ (x : PartialText). take n (drop p x)) same
        ∙ ap (λ (m : ℕ). take m (drop p (rasp_of v))) (omega arith) ∙ g.gaps in
        omega (arith, now, was, loaded, ap gaps here, gaps-all n, g.some)
