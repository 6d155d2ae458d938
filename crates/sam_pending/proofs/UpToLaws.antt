-- Edits of a group and of those before it come to the rasp one by one.
use Rattle.std.proofs.Common.{◌≡◌, ◌⊎◌, inl, inr, refl, sym, ap, ◌∙◌, ℕ, suc, ◌-◌, Bool, true, false, cond, List, [], ◌∷◌, ◌++◌, map, length, take, drop, Option, Some, None, arith, append-nil, IsTrue}
use Rattle.std.specs.Prelude.{not}
use Rattle.std.specs.List.{filter, All}
use Rattle.sam_pending.specs.Cells.{Cell, IsBrought, IsTaken, by, come, goes, in_rasp, part_by, place_at, rasp_of, stands_at, take_by, text_at, waiting_of}
use Rattle.sam_pending.specs.Groups.{EditsKeepText, PutIsText, RemovalsGoOutOfText, is_due_by}
use Rattle.sam_pending.proofs.CellLaws.{members-append, members-three, other-put, take_by-add}

-- a cell stands in the rasp exactly if it stands in the text, where it is not due
put-cell : (g : ℕ) (m : Option ℕ) (b d : Option ℕ) (cs : List Cell) → is_due_by g (record { member = m; born = b; died = d }) ≡ false → rasp_of cs ≡ text_at g cs
    → rasp_of (record { member = m; born = b; died = d } ∷ cs) ≡ text_at g (record { member = m; born = b; died = d } ∷ cs)
put-cell g m None d cs due same = rw due (ap (λ z. m ∷ z) same)
put-cell g m (Some b) d cs due same = rw due (go (by g d) same)
  where
    go : (t : Bool) → rasp_of cs ≡ text_at g cs
        → rasp_of cs ≡ map (λ (x : Cell). x.member) (cond (cond t false false) (record { member = m; born = Some b; died = d } ∷ filter (stands_at g) cs) (filter (stands_at g) cs))
    go true e = e
    go false e = e

pub put_is_text : PutIsText
put_is_text g [] all = refl
put_is_text g (c ∷ cs) all =
    put-cell g c.member c.born c.died cs (all 0 c (omega arith)) (put_is_text g cs (λ k d i. all (suc k) d (omega (arith, i))))

-- cells that are taken out of the rasp stand in the text no more
taken-none : (g : ℕ) (h : List Cell) → All (λ c. IsTrue (goes c)) h → All (λ c. IsTrue (is_due_by g c)) h → text_at g h ≡ []
taken-none g [] all due = refl
taken-none g (c ∷ h) all due =
    step c.member c.born c.died (all 0 c (omega arith)) (due 0 c (omega arith))
    (taken-none g h (λ k d i. all (suc k) d (omega (arith, i))) (λ k d i. due (suc k) d (omega (arith, i))))
  where
    step : (m b d : Option ℕ) → IsTrue (goes (record { member = m; born = b; died = d })) → IsTrue (is_due_by g (record { member = m; born = b; died = d })) → text_at g h ≡ []
        → text_at g (record { member = m; born = b; died = d } ∷ h) ≡ []
    step m None d is at e = rw at e
    step m (Some b) d is at e = absurd cc

-- cells that come into the rasp stand there as before
brought-same : (g : ℕ) (h : List Cell) → All (λ c. IsTrue (not (in_rasp c))) h → All (λ c. IsTrue (is_due_by g c)) h → text_at g (map come h) ≡ text_at g h
brought-same g [] all due = refl
brought-same g (c ∷ h) all due =
    step c.member c.born c.died (all 0 c (omega arith)) (due 0 c (omega arith))
    (brought-same g h (λ k d i. all (suc k) d (omega (arith, i))) (λ k d i. due (suc k) d (omega (arith, i))))
  where
    step : (m b d : Option ℕ) → IsTrue (not (in_rasp (record { member = m; born = b; died = d }))) → IsTrue (is_due_by g (record { member = m; born = b; died = d }))
        → text_at g (map come h) ≡ text_at g h
        → text_at g (come (record { member = m; born = b; died = d }) ∷ map come h) ≡ text_at g (record { member = m; born = b; died = d } ∷ h)
    step m None d is at e = absurd cc
    step m (Some b) d is at e = rw at (go (by g d) e)
      where
        go : (t : Bool) → text_at g (map come h) ≡ text_at g h
            → map (λ (x : Cell). x.member) (cond (cond t false true) (record { member = m; born = None; died = d } ∷ filter (stands_at g) (map come h)) (filter (stands_at g) (map come h)))
            ≡ map (λ (x : Cell). x.member) (cond (cond t false true) (record { member = m; born = Some b; died = d } ∷ filter (stands_at g) h) (filter (stands_at g) h))
        go true e = e
        go false e = ap (λ z. m ∷ z) e

pub edits_keep_text : EditsKeepText
edits_keep_text g cs ds e h = go h.made
  where
    whole : text_at g cs ≡ text_at g h.before ++ text_at g h.stretch ++ text_at g h.behind
    whole = ap (text_at g) h.old ∙ members-three (stands_at g) h.before h.stretch h.behind

    go : IsTaken h.before h.stretch h.behind e ds ⊎ IsBrought h.before h.stretch h.behind e ds → text_at g ds ≡ text_at g cs
    go (inl t) =
        ap (text_at g) t.cells
        ∙ (members-append (stands_at g) h.before h.behind
        ∙ (ap (λ z. z ++ text_at g h.behind) (sym (append-nil (text_at g h.before)))
        ∙ (ap (λ z. text_at g h.before ++ z ++ text_at g h.behind) (sym (taken-none g h.stretch t.all h.due)) ∙ sym whole)))
    go (inr t) =
        ap (text_at g) t.cells
        ∙ (members-three (stands_at g) h.before (map come h.stretch) h.behind
        ∙ (ap (λ z. text_at g h.before ++ z ++ text_at g h.behind) (brought-same g h.stretch t.all h.due) ∙ sym whole))

pub removals_go_out_of_text : RemovalsGoOutOfText
removals_go_out_of_text g p q cs up =
    let new = waiting_of (part_by in_rasp p q cs) in
    other-put in_rasp (stands_at g) p q new cs
    ∙ ap (λ z. take (place_at g p cs) (text_at g cs) ++ text_at g new ++ drop (length (text_at g z)) (text_at g cs))
    (take_by-add in_rasp p (q - p) cs ∙ ap (λ n. take_by in_rasp n cs) (omega (arith, up)))
