-- What a change of the host's does over one rasp.
use Rattle.std.proofs.Common.{Option, ◌≡◌, refl, sym, ap, ◌∙◌, subst, ℕ, zero, suc, ◌+◌, ◌-◌, ◌<◌, ◌≤◌, ◌⊎◌, inl, inr, List, [], ◌∷◌, ◌++◌, map, length, take, drop, reverse, Some, None, arith, append-nil, append_assoc, length-drop, length-take-le, length-append, unwrap_or}
use Rattle.std.proofs.lemmas.List.{length-map}
use Rattle.std.specs.Global.{Vec}
use Rattle.sam_runes.specs.Texts.{max_runes}
use Rattle.sam_pending.specs.Blocks.{BlockChange}
use Rattle.sam_pending.specs.Cells.{PartialText, Cell, all_put, arrived, drop_by, filled, in_rasp, inserted, loaded, removed, resting, shown_of, shown_place, take_by, waiting_of}
use Rattle.sam_pending.specs.Layers.{Layer, IsOver, IsPrepared, cells_over, rasp_length, with_change}
use Rattle.sam_pending.specs.Runs.{filling_changes, removal_changes}
use Rattle.sam_pending.proofs.RunLaws.{drop-more, take-whole}
use Rattle.sam_pending.proofs.CellLaws.{shown_resting, rasp_inserted, rasp_removed, rasp_filled, shown_inserted, waiting_inserted, waiting_filled, waiting_removed}
use Rattle.sam_pending.specs.declared.told.Filling.{Filling}
use Rattle.sam_pending.specs.declared.told.Removal.{Removal}
use Rattle.sam_overlay.specs.Effects.{CellsFollow, WaitingStays, Effect, FitsIn, Stays, Inserts, Fills, Removes, Empties, cells_after, members_after, plan_of}
use Rattle.sam_overlay.specs.Outcomes.{Follows, Leads, Meets, TellsRasp}
use Rattle.sam_overlay.specs.declared.frame_plan.Plan.{Plan}
use Rattle.sam_overlay.specs.declared.frame_plan.Plan.TheVariants as plan
use Rattle.sam_overlay.specs.declared.outcome.LayerChange.{LayerChange}
use Rattle.sam_overlay.specs.declared.outcome.LayerChange.TheVariants as change
use Rattle.sam_overlay.specs.declared.shown_change.Told.{Told}
use Rattle.sam_overlay.specs.declared.shown_change.Told.TheVariants as told

pub cells_follow : CellsFollow
cells_follow Stays cs fit = refl
cells_follow (Inserts p new) cs fit = rasp_inserted cs p new
cells_follow (Fills p s) cs fit = rasp_filled cs p s fit
cells_follow (Removes p n) cs fit = rasp_removed cs p (p + n) (omega arith)
cells_follow Empties cs fit = refl

pub waiting_stays : WaitingStays
waiting_stays Stays cs n = refl
waiting_stays (Inserts p new) cs n = waiting_inserted cs p new
waiting_stays (Fills p s) cs n = waiting_filled cs p s
waiting_stays (Removes p k) cs n = waiting_removed cs p (p + k)
waiting_stays Empties cs n = absurd (n refl)

-- ## Where nothing waits

take-resting : (n : ℕ) (r : PartialText) → take_by in_rasp n (resting r) ≡ resting (take n r)
take-resting zero r = refl
take-resting (suc n) [] = refl
take-resting (suc n) (m ∷ r) = ap (λ cs. arrived m ∷ cs) (take-resting n r)

drop-resting : (n : ℕ) (r : PartialText) → drop_by in_rasp n (resting r) ≡ resting (drop n r)
drop-resting zero r = refl
drop-resting (suc n) [] = refl
drop-resting (suc n) (m ∷ r) = drop-resting n r

waiting-resting : (r : PartialText) → waiting_of (resting r) ≡ []
waiting-resting [] = refl
waiting-resting (m ∷ r) = waiting-resting r

resting-append : (r s : PartialText) → resting (r ++ s) ≡ resting r ++ resting s
resting-append [] s = refl
resting-append (m ∷ r) s = ap (λ cs. arrived m ∷ cs) (resting-append r s)

loaded-resting : (s : List ℕ) (r : PartialText) → length s ≤ length r → loaded s (resting r) ≡ resting (map Some s ++ drop (length s) r)
loaded-resting [] r l = refl
loaded-resting (c ∷ s) [] l = absurd (omega (arith, l))
loaded-resting (c ∷ s) (m ∷ r) l = ap (λ cs. arrived (Some c) ∷ cs) (loaded-resting s r (omega (arith, l)))

put-resting : (p q : ℕ) (new : List Cell) (cells r : PartialText) → new ≡ resting cells
    → take_by in_rasp p (resting r) ++ new ++ drop_by in_rasp (q - p) (drop_by in_rasp p (resting r)) ≡ resting (take p r ++ cells ++ drop (q - p) (drop p r))
put-resting p q new cells r e =
    ap (λ a. a ++ new ++ drop_by in_rasp (q - p) (drop_by in_rasp p (resting r))) (take-resting p r)
    ∙ (ap (λ a. resting (take p r) ++ a ++ drop_by in_rasp (q - p) (drop_by in_rasp p (resting r))) e
    ∙ (ap (λ a. resting (take p r) ++ resting cells ++ a) (ap (drop_by in_rasp (q - p)) (drop-resting p r) ∙ drop-resting (q - p) (drop p r))
    ∙ sym (resting-append (take p r ++ cells) (drop (q - p) (drop p r)) ∙ ap (λ a. a ++ resting (drop (q - p) (drop p r))) (resting-append (take p r) cells))))

part-resting : (p n : ℕ) (r : PartialText) → waiting_of (take_by in_rasp n (drop_by in_rasp p (resting r))) ≡ []
part-resting p n r =
    ap (λ a. waiting_of (take_by in_rasp n a)) (drop-resting p r) ∙ (ap waiting_of (take-resting n (drop p r)) ∙ waiting-resting (take n (drop p r)))

pub rests_after : (e : Effect) (r : PartialText) → FitsIn (length r) e → cells_after e (resting r) ≡ resting (members_after e r)
rests_after Stays r fit = refl
rests_after (Inserts p new) r fit =
    put-resting p p (resting new) new r refl
    ∙ ap (λ a. resting (take p r ++ new ++ a)) (sym (drop-more p (p - p) r) ∙ ap (λ k. drop k r) (omega arith))
rests_after (Removes p n) r fit =
    put-resting p (p + n) (waiting_of (take_by in_rasp (p + n - p) (drop_by in_rasp p (resting r)))) [] r (part-resting p (p + n - p) r)
    ∙ (ap (λ a. resting (a ++ drop (p + n - p) (drop p r))) (append-nil (take p r))
    ∙ ap (λ a. resting (take p r ++ a)) (sym (drop-more p (p + n - p) r) ∙ ap (λ k. drop k r) (omega arith)))
rests_after (Fills p s) r fit =
    let room : length s ≤ length (drop p r) = omega (arith, fit, length-drop p r) in
    ap (λ a. a ++ loaded s (drop_by in_rasp p (resting r))) (take-resting p r)
    ∙ (ap (λ a. resting (take p r) ++ loaded s a) (drop-resting p r)
    ∙ (ap (λ a. resting (take p r) ++ a) (loaded-resting s (drop p r) room)
    ∙ (sym (resting-append (take p r) (map Some s ++ drop (length s) (drop p r)))
    ∙ ap resting (sym (append_assoc (take p r) (map Some s) (drop (length s) (drop p r))) ∙ ap (λ a. take p r ++ map Some s ++ a) (sym (drop-more p (length s) r))))))
rests_after Empties r fit = refl

-- ## What is told

leads-same : (x : Told) (a b c d : PartialText) → a ≡ b → c ≡ d → Leads x b d → Leads x a c
leads-same x a b c d e f l = subst (λ y. Leads x y c) (sym e) (subst (λ y. Leads x b y) (sym f) l)

-- a change over a rasp over which nothing waits
pub rasp_follows : (p : Plan) (x : Told) → TellsRasp p x → Follows None p (record { told = x; change = change.Stays })
rasp_follows p x tells =
    record {
      kept = λ l made is. absurd cc;
      over = λ r e m. tt;
      cells = λ r e m. sym (rests_after e r m.fit);
      told = λ r e m.
          leads-same x (shown_of (resting r)) r (shown_of (cells_after e (resting r))) (members_after e r) (shown_resting r)
          (ap shown_of (rests_after e r m.fit) ∙ shown_resting (members_after e r)) (tells r e m);
    }

pub stays-at : (e : Effect) → plan_of e ≡ plan.Stays → e ≡ Stays
stays-at Stays is = refl
stays-at (Inserts q new) is = absurd cc
stays-at (Fills q s) is = absurd cc
stays-at (Removes q k) is = absurd cc
stays-at Empties is = absurd cc

empties-at : (e : Effect) → plan_of e ≡ plan.Empties → e ≡ Empties
empties-at Empties is = refl
empties-at Stays is = absurd cc
empties-at (Inserts q new) is = absurd cc
empties-at (Fills q s) is = absurd cc
empties-at (Removes q k) is = absurd cc

pub tells_nothing : TellsRasp plan.Stays told.Nothing
tells_nothing r e m = subst (λ x. Leads told.Nothing r (members_after x r)) (sym (stays-at e m.plan_is)) refl

pub tells_emptied : TellsRasp plan.Empties told.Emptied
tells_emptied r e m = subst (λ x. Leads told.Emptied r (members_after x r)) (sym (empties-at e m.plan_is)) refl

-- the place and the count of a plan
inserts-at : (e : Effect) (p n : ℕ) → plan_of e ≡ plan.Inserts p n → (new : PartialText) × (e ≡ Inserts p new) × (length new ≡ n)
inserts-at (Inserts q new) p n is = (new, ap (λ k. Inserts k new) (grind arith), grind arith)
inserts-at Stays p n is = absurd cc
inserts-at (Fills q s) p n is = absurd cc
inserts-at (Removes q k) p n is = absurd cc
inserts-at Empties p n is = absurd cc

fills-at : (e : Effect) (p n : ℕ) → plan_of e ≡ plan.Fills p n → (s : List ℕ) × (e ≡ Fills p s) × (length s ≡ n)
fills-at (Fills q s) p n is = (s, ap (λ k. Fills k s) (grind arith), grind arith)
fills-at Stays p n is = absurd cc
fills-at (Inserts q new) p n is = absurd cc
fills-at (Removes q k) p n is = absurd cc
fills-at Empties p n is = absurd cc

removes-at : (e : Effect) (p n : ℕ) → plan_of e ≡ plan.Removes p n → e ≡ Removes p n
removes-at (Removes q k) p n is = grind arith
removes-at Stays p n is = absurd cc
removes-at (Inserts q new) p n is = absurd cc
removes-at (Fills q s) p n is = absurd cc
removes-at Empties p n is = absurd cc

pub tells_inserted : (p n : ℕ) → TellsRasp (plan.Inserts p n) (told.Came p n)
tells_inserted p n r e m =
    let at = inserts-at e p n m.plan_is in
    subst (λ x. Leads (told.Came p n) r (members_after x r)) (sym at.1) (at.0, at.2, refl)

-- ## Where something waits

pub layer-is : (l k : Layer) → Some l ≡ Some k → l ≡ k
layer-is l k e = ap (λ o. unwrap_or o l) e

abbrev made-or : BlockChange → LayerChange → BlockChange
made-or xs change.Stays = xs
made-or xs (change.Runs made) = made
made-or xs change.Ends = xs

made-are : (xs ys : BlockChange) → change.Runs xs ≡ change.Runs ys → xs ≡ ys
made-are xs ys e = ap (made-or xs) e

keeps-layer : (l k : Layer) (xs ys : BlockChange) → IsPrepared l xs → Some l ≡ Some k → change.Runs xs ≡ change.Runs ys → IsPrepared k ys
keeps-layer l k xs ys h e f = subst (λ z. IsPrepared z ys) (layer-is l k e) (subst (λ zs. IsPrepared l zs) (made-are xs ys f) h)

-- a change that fits no rasp
pub unfit_follows : (o : Option Layer) (p : Plan) → ((r : PartialText) (e : Effect) → Meets o p r e → ⊥)
    → Follows o p (record { told = told.Nothing; change = change.Stays })
unfit_follows o p unfit =
    record {
      kept = λ l made is same. absurd cc;
      over = λ r e m. absurd (unfit r e m);
      cells = λ r e m. absurd (unfit r e m);
      told = λ r e m. absurd (unfit r e m);
    }

pub stays_follows : (l : Layer) → Follows (Some l) plan.Stays (record { told = told.Nothing; change = change.Stays })
stays_follows l =
    record {
      kept = λ k made is same. absurd cc;
      over = λ r e m. subst (λ x. IsOver (members_after x r) l) (sym (stays-at e m.plan_is)) m.over;
      cells = λ r e m. subst (λ x. cells_over (members_after x r) l ≡ cells_after x (cells_over r l)) (sym (stays-at e m.plan_is)) refl;
      told = λ r e m. subst (λ x. Leads told.Nothing (shown_of (cells_over r l)) (shown_of (cells_after x (cells_over r l)))) (sym (stays-at e m.plan_is)) refl;
    }

pub empties_follows : (l : Layer) → Follows (Some l) plan.Empties (record { told = told.Emptied; change = change.Ends })
empties_follows l =
    record {
      kept = λ k made is same. absurd cc;
      over = λ r e m. tt;
      cells = λ r e m. subst (λ x. resting (members_after x r) ≡ cells_after x (cells_over r l)) (sym (empties-at e m.plan_is)) refl;
      told = λ r e m. subst (λ x. Leads told.Emptied (shown_of (cells_over r l)) (shown_of (cells_after x (cells_over r l)))) (sym (empties-at e m.plan_is)) refl;
    }

length-put : (r new : PartialText) (p : ℕ) → p ≤ length r → length (take p r ++ new ++ drop p r) ≡ length r + length new
length-put r new p l =
    omega (arith, length-append (take p r ++ new) (drop p r), length-append (take p r) new, length-take-le p r l, length-drop p r, l)

pub inserts_follow : (l : Layer) (p n at : ℕ) (made : BlockChange) → IsPrepared l made
    → ((r new : PartialText) → IsOver r l → length new ≡ n → cells_over (take p r ++ new ++ drop p r) (with_change l made) ≡ inserted p new (cells_over r l))
    → ((r : PartialText) → IsOver r l → at ≡ shown_place p (cells_over r l))
    → rasp_length (with_change l made) ≡ rasp_length l + n
    → Follows (Some l) (plan.Inserts p n) (record { told = told.Came at n; change = change.Runs made })
inserts_follow l p n at made layer cells place size =
    record {
      kept = λ k xs is same. keeps-layer l k made xs layer is same;
      over = λ r e m.
          let x = inserts-at e p n m.plan_is in
          let fits : FitsIn (length r) (Inserts p x.0) = subst (FitsIn (length r)) x.1 m.fit in
          subst (λ y. IsOver (members_after y r) (with_change l made)) (sym x.1)
          (omega (arith, size, m.over, x.2, length-put r x.0 p fits.0));
      cells = λ r e m.
          let x = inserts-at e p n m.plan_is in
          subst (λ y. cells_over (members_after y r) (with_change l made) ≡ cells_after y (cells_over r l)) (sym x.1) (cells r x.0 m.over x.2);
      told = λ r e m.
          let x = inserts-at e p n m.plan_is in
          let cs = cells_over r l in
          subst (λ y. Leads (told.Came at n) (shown_of cs) (shown_of (cells_after y cs))) (sym x.1)
          (x.0, x.2, shown_inserted cs p x.0 ∙ ap (λ k. take k (shown_of cs) ++ x.0 ++ drop k (shown_of cs)) (sym (place r m.over)));
    }

pub fills_follow : (l : Layer) (p n : ℕ) (fillings : Vec Filling)
    → ((r : PartialText) (s : List ℕ) → IsOver r l → length s ≡ n → cells_over (take p r ++ map Some s ++ drop (p + n) r) l ≡ filled p s (cells_over r l))
    → ((r : PartialText) (s : List ℕ) → IsOver r l → length s ≡ n
    → all_put (shown_of (cells_over r l)) (reverse (filling_changes s fillings.items)) ≡ shown_of (filled p s (cells_over r l)))
    → Follows (Some l) (plan.Fills p n) (record { told = told.Filled fillings; change = change.Stays })
fills_follow l p n fillings cells tells =
    record {
      kept = λ k xs is same. absurd cc;
      over = λ r e m.
          let x = fills-at e p n m.plan_is in
          let fits : FitsIn (length r) (Fills p x.0) = subst (FitsIn (length r)) x.1 m.fit in
          subst (λ y. IsOver (members_after y r) l) (sym x.1) (m.over ∙ sym (length-filled r x.0 p fits));
      cells = λ r e m.
          let x = fills-at e p n m.plan_is in
          subst (λ y. cells_over (members_after y r) l ≡ cells_after y (cells_over r l)) (sym x.1)
          (ap (λ k. cells_over (take p r ++ map Some x.0 ++ drop (p + k) r) l) x.2 ∙ cells r x.0 m.over x.2);
      told = λ r e m.
          let x = fills-at e p n m.plan_is in
          let cs = cells_over r l in
          subst (λ y. Leads (told.Filled fillings) (shown_of cs) (shown_of (cells_after y cs))) (sym x.1) (x.0, sym (tells r x.0 m.over x.2));
    }
  where
    length-filled : (r : PartialText) (s : List ℕ) (q : ℕ) → q + length s ≤ length r → length (take q r ++ map Some s ++ drop (q + length s) r) ≡ length r
    length-filled r s q h =
        omega (arith, length-append (take q r ++ map Some s) (drop (q + length s) r), length-append (take q r) (map Some s), length-map s Some, length-take-le q r (omega (arith, h)), length-drop (q + length s) r, h)

pub removes_follow : (l : Layer) (p n : ℕ) (removals : Vec Removal) (made : BlockChange) → IsPrepared l made
    → ((r : PartialText) → IsOver r l → cells_over (take p r ++ drop (p + n) r) (with_change l made) ≡ removed p (p + n) (cells_over r l))
    → ((r : PartialText) → IsOver r l
    → all_put (shown_of (cells_over r l)) (reverse (removal_changes removals.items)) ≡ shown_of (removed p (p + n) (cells_over r l)))
    → rasp_length (with_change l made) + (p + n - p) ≡ rasp_length l
    → Follows (Some l) (plan.Removes p n) (record { told = told.Went removals; change = change.Runs made })
removes_follow l p n removals made layer cells tells size =
    record {
      kept = λ k xs is same. keeps-layer l k made xs layer is same;
      over = λ r e m.
          let x = removes-at e p n m.plan_is in
          let fits : FitsIn (length r) (Removes p n) = subst (FitsIn (length r)) x m.fit in
          subst (λ y. IsOver (members_after y r) (with_change l made)) (sym x)
          (omega (arith, size, m.over, fits, length-append (take p r) (drop (p + n) r), length-take-le p r (omega (arith, fits)), length-drop (p + n) r));
      cells = λ r e m.
          subst (λ y. cells_over (members_after y r) (with_change l made) ≡ cells_after y (cells_over r l)) (sym (removes-at e p n m.plan_is)) (cells r m.over);
      told = λ r e m.
          let cs = cells_over r l in
          subst (λ y. Leads (told.Went removals) (shown_of cs) (shown_of (cells_after y cs))) (sym (removes-at e p n m.plan_is)) (sym (tells r m.over));
    }

pub unfit_fills : (l : Layer) (p n : ℕ) → rasp_length l < p + n → Follows (Some l) (plan.Fills p n) (record { told = told.Nothing; change = change.Stays })
unfit_fills l p n beyond =
    unfit_follows (Some l) (plan.Fills p n)
    (λ r e m.
    let x = fills-at e p n m.plan_is in
    let fits : FitsIn (length r) (Fills p x.0) = subst (FitsIn (length r)) x.1 m.fit in
    absurd (omega (arith, beyond, m.over, fits, x.2)))

pub unfit_removes : (l : Layer) (p n : ℕ) → rasp_length l < p + n → Follows (Some l) (plan.Removes p n) (record { told = told.Nothing; change = change.Stays })
unfit_removes l p n beyond =
    unfit_follows (Some l) (plan.Removes p n)
    (λ r e m.
    let fits : FitsIn (length r) (Removes p n) = subst (FitsIn (length r)) (removes-at e p n m.plan_is) m.fit in
    absurd (omega (arith, beyond, m.over, fits)))

-- ## Where nothing waits, as code tells it

pub tells_filled : (p n : ℕ) (fillings : Vec Filling) → fillings.items ≡ record { place = p; from = 0; count = n } ∷ [] → TellsRasp (plan.Fills p n) (told.Filled fillings)
tells_filled p n fillings is r e m =
    let x = fills-at e p n m.plan_is in
    subst (λ y. Leads (told.Filled fillings) r (members_after y r)) (sym x.1)
    (x.0, rw (is) (one r x.0 x.2))
  where
    one : (r : PartialText) (s : List ℕ) → length s ≡ n → take p r ++ map Some s ++ drop (p + length s) r ≡ take p r ++ map Some (take n s) ++ drop (p + n) r
    one r s size =
        ap (λ k. take p r ++ map Some s ++ drop (p + k) r) size ∙ ap (λ z. take p r ++ map Some z ++ drop (p + n) r) (sym (ap (λ k. take k s) (sym size) ∙ take-whole s))

pub tells_removed : (p n : ℕ) (removals : Vec Removal) → removals.items ≡ record { p = p; q = p + n } ∷ [] → TellsRasp (plan.Removes p n) (told.Went removals)
tells_removed p n removals is r e m =
    subst (λ y. Leads (told.Went removals) r (members_after y r)) (sym (removes-at e p n m.plan_is))
    (rw (is) (ap (λ a. a ++ drop (p + n) r) (sym (append-nil (take p r)))))

pub untold_inserts : (p n : ℕ) → max_runes < n → TellsRasp (plan.Inserts p n) told.Nothing
untold_inserts p n many r e m =
    let x = inserts-at e p n m.plan_is in
    let fits : FitsIn (length r) (Inserts p x.0) = subst (FitsIn (length r)) x.1 m.fit in
    absurd (omega (arith, many, fits.1, x.2))

pub untold_fills : (p n : ℕ) → (max_runes < p) ⊎ (max_runes < n) → TellsRasp (plan.Fills p n) told.Nothing
untold_fills p n many r e m =
    let x = fills-at e p n m.plan_is in
    let fits : FitsIn (length r) (Fills p x.0) = subst (FitsIn (length r)) x.1 m.fit in
    absurd (elim many [ inl a ↦ omega (arith, a, fits, x.2, m.size) | inr a ↦ omega (arith, a, fits, x.2, m.size) ])

pub untold_removes : (p n : ℕ) → (max_runes < p) ⊎ (max_runes < n) → TellsRasp (plan.Removes p n) told.Nothing
untold_removes p n many r e m =
    let fits : FitsIn (length r) (Removes p n) = subst (FitsIn (length r)) (removes-at e p n m.plan_is) m.fit in
    absurd (elim many [ inl a ↦ omega (arith, a, fits, m.size) | inr a ↦ omega (arith, a, fits, m.size) ])

pub ruleset over_rasp_facts = (rasp_follows, tells_nothing, tells_emptied)
