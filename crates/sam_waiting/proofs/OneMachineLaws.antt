-- A file ends as on one machine: `agrees` walks over the acts. A way leads to the end: `ends-within` walks over what is left to come and go.
use Rattle.std.proofs.Common.{◌≡◌, ◌⊎◌, inl, inr, refl, sym, ap, ◌∙◌, subst, ℕ, zero, suc, ◌+◌, ◌<◌, Bool, true, false, not, cond, List, [], ◌∷◌, ◌++◌, map, length, Option, Some, None, arith, append_assoc, append-nil, IsTrue}
use Rattle.std.specs.List.{All}
use Rattle.std.proofs.lemmas.List.{map-append}
use Rattle.std.proofs.lemmas.List.Elements.{All-cons, All-head, All-nil, All-push, All-tail, All-weaker}
use Rattle.std.proofs.lemmas.Bool.Decides.{nat_tests}
use Rattle.sam_pending.specs.Cells.{Cell, Change, IsBrought, IsMade, IsTaken, PartialText, by, come, goes, in_rasp, is_shown, put, rasp_of, replaced, resting, shown_of, text_at}
use Rattle.sam_pending.specs.Groups.{IsMadeBy, is_due_by}
use Rattle.sam_waiting.specs.OneMachine.{Act, Ends, File, IsBehind, IsNextMade, IsOwn, Leads, found, local_found, local_text, to_find, unasked}
use Rattle.sam_waiting.specs.OneMachine.Act.{Edits, Asks, Comes, Finds}
use Rattle.sam_pending.proofs.CellLaws.{shown_replaced, shown_resting}
use Rattle.sam_pending.proofs.DueLaws.{made_texts}
use Rattle.sam_pending.proofs.GroupLaws.{text_replaced, text_shown}
use Rattle.sam_pending.proofs.UpToLaws.{edits_keep_text, put_is_text}

-- the groups of requests that wait ascend
abbrev AreInOrder : List ℕ → Type 0
AreInOrder [] = Unit {0}
AreInOrder (g ∷ gs) = All (λ k. g < k) gs × AreInOrder gs

order-push : (gs : List ℕ) (g : ℕ) → AreInOrder gs → IsBehind g gs → AreInOrder (gs ++ g ∷ [])
order-push [] g o l = (All-nil (λ k. g < k), tt)
order-push (h ∷ gs) g o l =
    (All-push (λ k. h < k) gs g o.0 (All-head (λ k. k < g) h gs l), order-push gs g o.1 (All-tail (λ k. k < g) h gs l))

-- ## What requests come to as the cells cs become ds

texts-kept : (cs ds : List Cell) (gs : List ℕ) → All (λ g. text_at g ds ≡ text_at g cs) gs → map (λ g. text_at g ds) gs ≡ map (λ g. text_at g cs) gs
texts-kept cs ds [] a = refl
texts-kept cs ds (g ∷ gs) a =
    let same = All-head (λ k. text_at k ds ≡ text_at k cs) g gs a in
    ap (λ z. z ∷ map (λ k. text_at k ds) gs) same
    ∙ ap (λ z. text_at g cs ∷ z) (texts-kept cs ds gs (All-tail (λ k. text_at k ds ≡ text_at k cs) g gs a))

edit-keeps : (cs : List Cell) (h p q : ℕ) (s : List ℕ) (gs : List ℕ) → IsBehind h gs
    → map (λ g. text_at g (replaced h p q s cs)) gs ≡ map (λ g. text_at g cs) gs
edit-keeps cs h p q s gs l =
    texts-kept cs (replaced h p q s cs) gs
    (All-weaker (λ g. g < h) (λ g. text_at g (replaced h p q s cs) ≡ text_at g cs) (λ g. text_replaced cs g h p q s) gs l)

-- what stands before a request stands before a later one, too
due-later : (g h : ℕ) → g < h → (c : Cell) → IsTrue (is_due_by g c) → IsTrue (is_due_by h c)
due-later g h l c t = step c.born c.died t
  where
    later : (d : Option ℕ) → IsTrue (by g d) → IsTrue (by h d)
    later None t = absurd cc
    later (Some d) t = grind (arith, t, l, nat_tests)

    step : (b d : Option ℕ) → IsTrue (is_due_by g (record { member = c.member; born = b; died = d }))
        → IsTrue (is_due_by h (record { member = c.member; born = b; died = d }))
    step None d t = later d t
    step (Some b) d t = later (Some b) t

made-later : (g h : ℕ) (cs ds : List Cell) (e : Change) → IsMadeBy g cs e ds → g < h → IsMadeBy h cs e ds
made-later g h cs ds e m l = record {
  before = m.before;
  stretch = m.stretch;
  behind = m.behind;
  old = m.old;
  some = m.some;
  due = All-weaker (λ c. IsTrue (is_due_by g c)) (λ c. IsTrue (is_due_by h c)) (due-later g h l) m.stretch m.due;
  made = m.made;
}

next-keeps : (gs : List ℕ) (cs ds : List Cell) (e : Change) → AreInOrder gs → IsNextMade gs cs e ds
    → (shown_of ds ≡ shown_of cs) × (map (λ g. text_at g ds) gs ≡ map (λ g. text_at g cs) gs)
next-keeps [] cs ds e o m = ((made_texts cs e ds m).0, refl)
next-keeps (g ∷ gs) cs ds e o m =
    let some : IsMade cs e ds = record { before = m.before; stretch = m.stretch; behind = m.behind; old = m.old; some = m.some; made = m.made } in
    let P : ℕ → Type 0 = λ k. text_at k ds ≡ text_at k cs in
    let later : (h : ℕ) → g < h → P h = λ h l. edits_keep_text h cs ds e (made-later g h cs ds e m l) in (
      (made_texts cs e ds some).0,
      texts-kept cs ds (g ∷ gs) (All-cons P g gs (edits_keep_text g cs ds e m) (All-weaker (λ k. g < k) P later gs o.0)),
    )

-- ## The law

agrees : (a : File) (t : PartialText) (acts : List Act) (n : File) → AreInOrder a.waiting → shown_of a.cells ≡ t → Leads a acts n
    → (shown_of n.cells ≡ local_text t acts) × (to_find a ++ local_found t acts ≡ found acts ++ to_find n)
agrees a t [] n o s l = (ap (λ f. shown_of f.cells) l ∙ s, append-nil (to_find a) ∙ ap to_find (sym l))
agrees a t (Edits g p q new ∷ acts) n o s l =
    let m = l.0 in
    let goes = l.1 in
    let u = put t (record { p = p; q = q; new = map Some new }) in
    let shown : shown_of m.cells ≡ u =
    ap (λ f. shown_of f.cells) goes.2 ∙ (shown_replaced a.cells g p q new goes.1 ∙ ap (λ z. put z (record { p = p; q = q; new = map Some new })) s) in
    let same : to_find m ≡ to_find a = ap to_find goes.2 ∙ edit-keeps a.cells g p q new a.waiting goes.0 in
    let rest = agrees m u acts n (subst (λ f. AreInOrder f.waiting) (sym goes.2) o) shown l.2 in
    (rest.0, ap (λ z. z ++ local_found u acts) (sym same) ∙ rest.1)
agrees a t (Asks g ∷ acts) n o s l =
    let m = l.0 in
    let goes = l.1 in
    let order = order-push a.waiting g o goes.0 in
    let more : to_find m ≡ to_find a ++ t ∷ [] =
    ap to_find goes.2
    ∙ (map-append (λ k. text_at k a.cells) a.waiting (g ∷ []) ∙ ap (λ z. to_find a ++ z ∷ []) (text_shown g a.cells goes.1 ∙ s)) in
    let rest = agrees m t acts n (subst (λ f. AreInOrder f.waiting) (sym goes.2) order) (ap (λ f. shown_of f.cells) goes.2 ∙ s) l.2 in
    (rest.0, sym (append_assoc (to_find a) (t ∷ []) (local_found t acts)) ∙ (ap (λ z. z ++ local_found t acts) (sym more) ∙ rest.1))
agrees a t (Comes e ∷ acts) n o s l =
    let m = l.0 in
    let goes = l.1 in
    let kept = next-keeps a.waiting a.cells m.cells e o goes.0 in
    let same : to_find m ≡ to_find a = ap (map (λ k. text_at k m.cells)) goes.1 ∙ kept.1 in
    let rest = agrees m t acts n (subst AreInOrder (sym goes.1) o) (kept.0 ∙ s) l.2 in
    (rest.0, ap (λ z. z ++ local_found t acts) (sym same) ∙ rest.1)
agrees a t (Finds u ∷ acts) n o s l =
    let m = l.0 in
    let goes = l.1 in
    let text : u ≡ text_at goes.0 a.cells = goes.3 ∙ put_is_text goes.0 a.cells goes.2 in
    let first : to_find a ≡ u ∷ to_find m =
    ap (map (λ k. text_at k a.cells)) goes.1
    ∙ (ap (λ z. z ∷ map (λ k. text_at k a.cells) m.waiting) (sym text) ∙ ap (λ z. u ∷ map (λ k. text_at k z) m.waiting) (sym goes.4)) in
    let rest = agrees m t acts n (subst AreInOrder goes.1 o).1 (ap shown_of goes.4 ∙ s) l.2 in
    (rest.0, ap (λ z. z ++ local_found t acts) first ∙ ap (λ z. u ∷ z) rest.1)

pub as-shown : (cs : List Cell) (acts : List Act) (n : File) → Leads (unasked cs) acts n → shown_of n.cells ≡ local_text (shown_of cs) acts
as-shown cs acts n l = (agrees (unasked cs) (shown_of cs) acts n tt refl l).0

pub as-found : (cs : List Cell) (acts : List Act) (n : File) → Leads (unasked cs) acts n → local_found (shown_of cs) acts ≡ found acts ++ to_find n
as-found cs acts n l = (agrees (unasked cs) (shown_of cs) acts n tt refl l).1

pub as-rests : (cs : List Cell) (acts : List Act) (r : PartialText) → Leads (unasked cs) acts (unasked (resting r))
    → (r ≡ local_text (shown_of cs) acts) × (found acts ≡ local_found (shown_of cs) acts)
as-rests cs acts r l =
    (sym (shown_resting r) ∙ as-shown cs acts (unasked (resting r)) l, sym (as-found cs acts (unasked (resting r)) l ∙ append-nil (found acts)))

-- ## One cell comes or goes

-- whether some group puts the cell in or takes it out
abbrev waits : Cell → Bool
waits c = cond (in_rasp c) (not (is_shown c)) true

due-waits : (g : ℕ) (c : Cell) → is_due_by g c ≡ true → waits c ≡ true
due-waits g c e = step c.born c.died e
  where
    step : (b d : Option ℕ) → is_due_by g (record { member = c.member; born = b; died = d }) ≡ true
        → waits (record { member = c.member; born = b; died = d }) ≡ true
    step None None e = absurd cc
    step None (Some d) e = refl
    step (Some b) d e = refl

-- how often it still comes or goes
abbrev left : Cell → ℕ
left c = cond (in_rasp c) 0 1 + cond (is_shown c) 0 1

abbrev all_left : List Cell → ℕ
all_left [] = 0
all_left (c ∷ cs) = left c + all_left cs

left-append : (a b : List Cell) → all_left (a ++ b) ≡ all_left a + all_left b
left-append [] b = omega arith
left-append (c ∷ a) b = omega (arith, left-append a b)

-- the first cell that passes a test
record First (t : Cell → Bool) (cs : List Cell) : Type 0 where
  before : List Cell
  cell : Cell
  behind : List Cell
  old : cs ≡ before ++ (cell ∷ []) ++ behind
  passes : t cell ≡ true

none_or_first : (t : Cell → Bool) (cs : List Cell) → All (λ c. t c ≡ false) cs ⊎ First t cs
none_or_first t [] = inl (All-nil (λ c. t c ≡ false))
none_or_first t (c ∷ cs) = step (t c) refl (none_or_first t cs)
  where
    step : (b : Bool) → t c ≡ b → All (λ c. t c ≡ false) cs ⊎ First t cs → All (λ c. t c ≡ false) (c ∷ cs) ⊎ First t (c ∷ cs)
    step true e f = inr (record { before = []; cell = c; behind = cs; old = refl; passes = e })
    step false e (inl none) = inl (All-cons (λ c. t c ≡ false) c cs e none)
    step false e (inr f) = inr (record { before = c ∷ f.before; cell = f.cell; behind = f.behind; old = ap (λ z. c ∷ z) f.old; passes = f.passes })

-- it comes or goes alone
record Moves (t : Cell → Bool) (cs : List Cell) : Type 0 where
  first : First t cs
  change : Change
  cells : List Cell
  made : IsTaken first.before (first.cell ∷ []) first.behind change cells ⊎ IsBrought first.before (first.cell ∷ []) first.behind change cells
  fewer : suc (all_left cells) ≡ all_left cs

moves : (t : Cell → Bool) (cs : List Cell) → ((c : Cell) → t c ≡ true → waits c ≡ true) → First t cs → Moves t cs
moves t cs w f = go f.before f.cell.member f.cell.born f.cell.died f.behind f.old f.passes (w f.cell f.passes)
  where
    fewer : (x : List Cell) (c : Cell) (y z : List Cell) → cs ≡ x ++ (c ∷ []) ++ z → suc (all_left y) ≡ left c → suc (all_left (x ++ y ++ z)) ≡ all_left cs
    fewer x c y z old e =
        omega (arith, e, ap all_left old, left-append (x ++ y) z, left-append x y, left-append (x ++ c ∷ []) z, left-append x (c ∷ []))

    go : (x : List Cell) (m b d : Option ℕ) (z : List Cell) → cs ≡ x ++ (record { member = m; born = b; died = d } ∷ []) ++ z
        → t (record { member = m; born = b; died = d }) ≡ true → waits (record { member = m; born = b; died = d }) ≡ true → Moves t cs
    go x m None None z old here w = absurd cc
    go x m None (Some d) z old here w =
        let c : Cell = record { member = m; born = None; died = Some d } in
        let gone : x ++ [] ++ z ≡ x ++ z = ap (λ y. y ++ z) (append-nil x) in record {
          first = record { before = x; cell = c; behind = z; old = old; passes = here };
          change = record { p = length (rasp_of x); q = length (rasp_of x) + 1; new = [] };
          cells = x ++ z;
          made = inl (record { all = All-cons (λ c. IsTrue (goes c)) c [] refl (All-nil (λ c. IsTrue (goes c))); cells = refl; change = refl });
          fewer = sym (ap (λ y. suc (all_left y)) gone) ∙ fewer x c [] z old refl;
        }
    go x m (Some b) d z old here w =
        let c : Cell = record { member = m; born = Some b; died = d } in record {
          first = record { before = x; cell = c; behind = z; old = old; passes = here };
          change = record { p = length (rasp_of x); q = length (rasp_of x); new = m ∷ [] };
          cells = x ++ (come c ∷ []) ++ z;
          made = inr (record { all = All-cons (λ c. IsTrue (not (in_rasp c))) c [] refl (All-nil (λ c. IsTrue (not (in_rasp c)))); cells = refl; change = refl });
          fewer = fewer x c (come c ∷ []) z old (omega arith);
        }

-- ## The way to the end

rests : (cs : List Cell) → All (λ c. waits c ≡ false) cs → cs ≡ resting (rasp_of cs)
rests [] none = refl
rests (c ∷ cs) none =
    step c.member c.born c.died (All-head (λ c. waits c ≡ false) c cs none) (rests cs (All-tail (λ c. waits c ≡ false) c cs none))
  where
    step : (m b d : Option ℕ) → waits (record { member = m; born = b; died = d }) ≡ false → cs ≡ resting (rasp_of cs)
        → record { member = m; born = b; died = d } ∷ cs ≡ resting (rasp_of (record { member = m; born = b; died = d } ∷ cs))
    step m None None w same = ap (λ z. record { member = m; born = None; died = None } ∷ z) same
    step m None (Some d) w same = absurd cc
    step m (Some b) d w same = absurd cc

goes-on : (cs : List Cell) (gs : List ℕ) (e : Change) (ds : List Cell) → IsNextMade gs cs e ds
    → Ends (record { cells = ds; waiting = gs }) → Ends (record { cells = cs; waiting = gs })
goes-on cs gs e ds made rest = record {
  acts = Comes e ∷ rest.acts;
  own = All-cons IsOwn (Comes e) rest.acts tt rest.own;
  rasp = rest.rasp;
  leads = (record { cells = ds; waiting = gs }, (made, refl), rest.leads);
}

-- fewer than n acts lead there
ends-within : (n : ℕ) (cs : List Cell) (gs : List ℕ) → all_left cs + length gs < n → Ends (record { cells = cs; waiting = gs })
ends-within zero cs gs l = absurd (omega (arith, l))
ends-within (suc n) cs [] l = step (none_or_first waits cs) (λ ds m. ends-within n ds [] m)
  where
    step : All (λ c. waits c ≡ false) cs ⊎ First waits cs → ((ds : List Cell) → all_left ds + length {A = ℕ} [] < n → Ends (unasked ds)) → Ends (unasked cs)
    step (inl none) more = record { acts = []; own = All-nil IsOwn; rasp = rasp_of cs; leads = ap unasked (sym (rests cs none)) }
    step (inr f) more =
        let v = moves waits cs (λ c e. e) f in
        goes-on cs [] v.change v.cells
        (record { before = v.first.before; stretch = v.first.cell ∷ []; behind = v.first.behind; old = v.first.old; some = omega arith; made = v.made })
        (more v.cells (omega (arith, l, v.fewer)))
ends-within (suc n) cs (g ∷ gs) l = step (none_or_first (is_due_by g) cs) (λ ds m. ends-within n ds (g ∷ gs) m) (λ m. ends-within n cs gs m)
  where
    step : All (λ c. is_due_by g c ≡ false) cs ⊎ First (is_due_by g) cs
        → ((ds : List Cell) → all_left ds + length (g ∷ gs) < n → Ends (record { cells = ds; waiting = g ∷ gs }))
        → (all_left cs + length gs < n → Ends (record { cells = cs; waiting = gs })) → Ends (record { cells = cs; waiting = g ∷ gs })
    step (inl none) more next =
        let rest = next (omega (arith, l)) in record {
          acts = Finds (rasp_of cs) ∷ rest.acts;
          own = All-cons IsOwn (Finds (rasp_of cs)) rest.acts tt rest.own;
          rasp = rest.rasp;
          leads = (record { cells = cs; waiting = gs }, (g, refl, none, refl, refl), rest.leads);
        }
    step (inr f) more next =
        let v = moves (is_due_by g) cs (due-waits g) f in
        let due = All-cons (λ c. IsTrue (is_due_by g c)) v.first.cell [] v.first.passes (All-nil (λ c. IsTrue (is_due_by g c))) in
        goes-on cs (g ∷ gs) v.change v.cells
        (record { before = v.first.before; stretch = v.first.cell ∷ []; behind = v.first.behind; old = v.first.old; some = omega arith; due = due; made = v.made })
        (more v.cells (omega (arith, l, v.fewer)))

pub ends : (a : File) → Ends a
ends a = ends-within (suc (all_left a.cells + length a.waiting)) a.cells a.waiting (omega arith)

pub ruleset one_machine_facts = (as-shown, as-found, as-rests, ends)
