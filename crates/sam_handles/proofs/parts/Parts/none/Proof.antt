-- `none` makes parts that own nothing.
use Rattle.sam_handles.proofs.Walks.{List, [], ◌∷◌, ◌++◌, None, refl, Fn, inst_fn, Val, flft, fsep, ftrue, WpFn, ◌⊑◌, fact, tables, ‵, raw, prop, ◌⊛◌, ◌$◌, ◌∵◌, !, qed, done, suffices, regoal, move, drop, join, split, fsplit, fjoin, agg, and_then, enter, lit, no_more, of_opd, returns, alloc_all, free_all, get, look_at, pass_all, sets, no, null_ptr, plain, nothing, Ended, Stays, ends_at, says, stay_dropped, walk_of, Goes-blank, handle_tells, proved_at, Bx, P, args}
use Rattle.sam_handles.proofs.Pieces.{Pieces, pair, pair_typed, pieces_in}
use Rattle.sam_handles.specs.contracts.parts.Parts.none as f
use Rattle.sam_handles.proofs.parts.Parts.none.Statement.{statement}
use Rattle.sam_handles.proofs.parts.Parts.none.Code as code

module _ (E : Bx) where
  abbrev ended : Ended
  ended = f.ended E.row E.al.row E.al.g E.al.d E.al.drops

  abbrev stayed : Stays ended.signature.params ended.kept
  stayed = (stay_dropped (plain (λ _. P E)) no, tt)

pub none_spec : {M : Type 1} → statement M
none_spec 𝓤 𝓛 𝓜 𝓡 wired X A X-laws A-laws g d drops A-met drops-met =
    let E : Bx = record { row = X; laws = X-laws; al = record { row = A; laws = A-laws; g = g; d = d; drops = drops } } in
    let c = f.clauses X A g d drops 𝓛 𝓜.mem 𝓡.returns in let W = walk_of 𝓛 (ended E) (stayed E) c in
    let 𝓣 = tables 𝓤 𝓛.H 𝓜 𝓡 𝓡.env in let fn : Fn = inst_fn (args E) code.function in
    proved_at 𝓛 (ended E) (stayed E) c 𝓜 𝓡 (Goes-blank 𝓛 2 (plain (λ _. P E)) no (λ κs x w. tt), tt)
    (f.Key.name (args E)) fn (code.unfolded 𝓤 𝓛.H 𝓜 𝓡 wired (X, (A, tt)) d drops) (λ y are.
    let κs = y.0.0 in let qs = y.0.1 in let a = y.0.3.0 in let made : (Pieces E).Denot = record { at = null_ptr; alloc = a; value = None } in
    qed 𝓛 (((‵ (flft κs.0 qs.0) ⊛ ‵ (flft κs.1.0 qs.1.0) ⊛ ‵ ftrue) ⊛ ‵ (fsep ((P E).own_val a y.0.4.0) ftrue))
    ∷ (raw (fact 𝓤 (κs.0 ⊑ X.lives)) ⊛ raw (fact 𝓤 (κs.1.0 ⊑ A.lives)) ⊛ ‵ ftrue) ∷ []) ∵
    split ! $ move ! (2 ∷ []) $ drop ! $ move ! (1 ∷ []) $ fsplit ! $ handle_tells E.al ! a y.0.4.0 (λ hv is_hv fits. move ! (1 ∷ []) $ drop ! $
    regoal ! (λ (us : List Val). prop (WpFn 𝓤 𝓛.H 𝓣.C 𝓣.Λ fn (us ++ []) (W.post y))) is_hv refl $
    -- [the allocator; the tokens]
    enter ! _ _ _ _ _ $ alloc_all ! (λ l. pass_all ! refl (fits, tt) $
    sets ! (of_opd ! (get ! refl)) refl fits $
    sets ! (agg ! (and_then ! (lit ! tt) (and_then ! (get ! refl) (no_more !)))) refl (pair_typed E null_ptr hv fits) $
    returns ! (look_at ! 0 refl) $ free_all ! refl $ nothing ! $ pieces_in E ! made $
    suffices ! _ (ends_at 𝓛 (ended E) (stayed E) c y (pair E null_ptr hv) made (tt, tt) (tt, tt)) $ says ! refl $
    nothing ! $ nothing ! $ fjoin ! $ join ! $ move ! (1 ∷ 0 ∷ []) $ join ! $ done !)))
