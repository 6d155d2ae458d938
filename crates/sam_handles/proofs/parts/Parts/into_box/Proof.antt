-- `into_box` makes a box of parts that hold a value.
use Rattle.sam_handles.proofs.Walks.{◌≡◌, List, [], ◌∷◌, ◌++◌, Some, is_some, true, refl, sym, ap, ◌∙◌, subst, Fn, inst_fn, Val, vptr, flft, fsep, ftrue, id⊢, WpFn, ◌⊑◌, fact, tables, Item, ‵, raw, some, later, prop, at_ret, ◌⊛◌, ◌$◌, ◌∵◌, !, qed, done, suffices, await, regoal, rewrite, move, drop, use1, join, split, split3, pick, fsplit, fjoin, feq_i, sub, whole, and_then, blocks, enter, exec, first, fld, no_more, of_opd, returns, stop, alloc_all, env, free_all, get, get_in, lands_last, look_at, pass_all, sets, no, block_ptr, plain, heard, nothing, only, calls_at_last, Ended, triple_of, framed, Stays, ends_at, says, stay_dropped, walk_of, Goes-blank, after, proved_at, B, Bx, D, args, box_ty, box_typed, box_in, box_out}
use Rattle.sam_handles.proofs.Pieces.{Good, Pieces, as_box}
use Rattle.std_alloc.specs.contracts.boxed.Box.from_raw as whole_again
use Rattle.std_alloc.proofs.boxed.Box.from_raw.Met.{met}
use Rattle.sam_handles.specs.contracts.parts.Parts.into_box as f
use Rattle.sam_handles.proofs.parts.Parts.into_box.Statement.{statement}
use Rattle.sam_handles.proofs.parts.Parts.into_box.Code as code

module _ (E : Bx) where
  abbrev ended : Ended
  ended = f.ended E.row E.al.row E.al.g E.al.d E.al.drops

  abbrev stayed : Stays ended.signature.params ended.kept
  stayed = (stay_dropped (plain (λ _. Pieces E)) no, tt)

pub into_box_spec : {M : Type 1} → statement M
into_box_spec 𝓤 𝓛 𝓜 𝓡 wired X A X-laws A-laws g d drops A-met drops-met =
    let E : Bx = record { row = X; laws = X-laws; al = record { row = A; laws = A-laws; g = g; d = d; drops = drops } } in
    let c = f.clauses X A g d drops 𝓛 𝓜.mem 𝓡.returns in let W = walk_of 𝓛 (ended E) (stayed E) c in
    let 𝓣 = tables 𝓤 𝓛.H 𝓜 𝓡 𝓡.env in let fn : Fn = inst_fn (args E) code.function in
    let Whole = triple_of 𝓛 (whole_again.signature X A g d drops) (whole_again.spec X A g d drops 𝓛 𝓜.mem 𝓡.returns) in
    proved_at 𝓛 (ended E) (stayed E) c 𝓜 𝓡 (Goes-blank 𝓛 2 (plain (λ _. Pieces E)) no (λ κs x w. tt), tt)
    (f.Key.name (args E)) fn (code.unfolded 𝓤 𝓛.H 𝓜 𝓡 wired (X, (A, tt)) d drops) (λ y are.
    let κs = y.0.0 in let qs = y.0.1 in let d' = y.0.3.0 in let a = d'.alloc in
    let tokens : Item 𝓤 = ‵ (flft κs.0 qs.0) ⊛ ‵ (flft κs.1.0 qs.1.0) ⊛ ‵ ftrue in
    let X-alive : Item 𝓤 = raw (fact 𝓤 (κs.0 ⊑ X.lives)) in let A-alive : Item 𝓤 = raw (fact 𝓤 (κs.1.0 ⊑ A.lives)) in
    qed 𝓛 ((tokens ⊛ ‵ (fsep ((Pieces E).own_val d' y.0.4.0) ftrue)) ∷ (X-alive ⊛ A-alive ⊛ raw (fact 𝓤 (is_some d'.value ≡ true))) ∷ []) ∵
    split ! $ move ! (2 ∷ []) $ split3 ! $ move ! (2 ∷ []) $ heard ! (is_some d'.value ≡ true) (λ there. move ! (3 ∷ []) $ fsplit ! $
    as_box E ! d'.at a d'.value y.0.4.0 there (λ x held. box_out E ! (record { ptr = d'.at; alloc = a; value = x }) y.0.4.0 (λ b o hv is_at is_word fits. fjoin ! $
    regoal ! (λ (us : List Val). prop (WpFn 𝓤 𝓛.H 𝓣.C 𝓣.Λ fn (us ++ []) (W.post y))) is_word refl $
    -- [the block; the allocator; nothing; X's lifetime; A's; the tokens]
    enter ! _ _ _ _ _ $ alloc_all ! (λ l. pass_all ! refl (box_typed E hv b o fits, tt) $
    sets ! (of_opd ! (get_in ! (fld ! refl (stop !)) (sub ! 0 refl (whole !)))) refl (tt, tt) $
    sets ! (of_opd ! (get_in ! (fld ! refl (stop !)) (sub ! 1 refl (whole !)))) refl fits $
    first ! $ blocks ! $ sets ! (of_opd ! (get ! refl)) refl fits $
    let z : Whole.Ghost = ((κs, qs, tt, (a, (block_ptr b o, tt)), (hv ∷ [], (vptr b o ∷ [], tt))), x) in
    move ! (4 ∷ 0 ∷ []) $ join ! $ move ! (3 ∷ 0 ∷ []) $ join ! $
    -- [what the call requires; the allocator; nothing; the tokens]
    move ! (2 ∷ []) $ feq_i ! (List Val) (vptr b o ∷ []) (vptr b o ∷ []) refl $ fjoin ! $ move ! (2 ∷ 0 ∷ []) $ fjoin ! $ move ! (2 ∷ 0 ∷ []) $ join ! $ join ! $
    use1 𝓛 (raw (Whole.pre z)) (id⊢ 𝓤 _) $
    calls_at_last ! (framed 𝓤 𝓛.H 𝓜 𝓣) Whole
    (met 𝓤 𝓛 𝓜 𝓡 (code.calls-std_alloc::boxed::Box::from_raw 𝓡.env wired) X A X-laws A-laws g d drops A-met drops-met) z
    (and_then ! (get ! refl) (and_then ! (get ! refl) (no_more !))) (λ u.
    use1 𝓛 (later (some (λ (r : D E). (tokens ⊛ ‵ ((B E).own_val r (u ∷ []))) ⊛
    some (λ (_ : Unit {0} × (Unit {0} × Unit {0})). ‵ (fsep ftrue (fsep ftrue ftrue)) ⊛ (raw (fact 𝓤 (r.value ≡ x)) ⊛ raw (fact 𝓤 (r.alloc ≡ a))))))) (id⊢ 𝓤 _) $
    await ! tt $ pick ! (λ r. split ! $ move ! (1 ∷ []) $ pick ! (λ _. split3 ! $ drop ! $ heard ! (r.value ≡ x) (λ is_x. drop ! $ split ! $ move ! (1 ∷ []) $
    -- [the box; the tokens]
    box_out E ! r (u ∷ []) (λ b' o' hw is_at' is_u fits'. box_in E ! r b' o' r.value is_at' refl $ rewrite ! 0 (λ (us : List Val). ‵ ((B E).own_val r us)) (sym is_u) refl $
    let typed : Good (box_ty E) u = subst (Good (box_ty E)) (sym (ap only is_u)) (box_typed E hw b' o' fits') in
    lands_last ! refl typed $ exec ! 𝓣.C 𝓣.Λ (env fn.locals l) (after 3 fn.body) (at_ret _ (W.post y)) $
    sets ! (of_opd ! (get ! refl)) refl typed $ returns ! (look_at ! 0 refl) $ free_all ! refl $
    suffices ! _ (ends_at 𝓛 (ended E) (stayed E) c y u r ((tt, (tt, tt)), tt) (tt, tt)) $ says ! (ap Some is_x ∙ sym held) $
    nothing ! $ nothing ! $ fjoin ! $ join ! $ move ! (1 ∷ 0 ∷ []) $ join ! $ done !))))))))))
