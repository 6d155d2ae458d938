-- `of` takes a box apart.
use Rattle.sam_handles.proofs.Walks.{◌≡◌, List, [], ◌∷◌, ◌++◌, Some, refl, ap, Args, Dict, Fn, a_type, dcons, dnil, inst_fn, Val, flft, fsep, ftrue, id⊢, WpFn, ◌⊑◌, fact, tables, Item, ‵, raw, some, later, prop, ◌⊛◌, ◌$◌, ◌∵◌, !, qed, done, suffices, await, regoal, rewrite, move, drop, use1, join, split, split3, pick, fsplit, fjoin, fpick, feq_l, agg, sub, whole, and_then, enter, fld, no_more, of_opd, returns, stop, alloc_all, free_all, get, get_in, lands_as, look_at, pass_all, sets, no, bounded, Ptr, RawPtr, plain, heard, nothing, only, Tuple, calls_at, Ended, triple_of, framed, Stays, ends_at, says, stay_dropped, walk_of, Goes-blank, handle_tells, token, proved_at, box_owns, B, Bx, P, R, box_typed, word, box_in, box_out}
use Rattle.sam_handles.proofs.Pieces.{Pieces, pair, pair_is, pair_typed, pieces_in, pointer_typed}
use Rattle.std_alloc.specs.contracts.boxed.Box.into_raw_with_allocator as apart
use Rattle.std_alloc.proofs.boxed.Box.into_raw_with_allocator.Met.{met}
use Rattle.sam_handles.specs.contracts.parts.Parts.of as f
use Rattle.sam_handles.proofs.parts.Parts.of.Statement.{statement}
use Rattle.sam_handles.proofs.parts.Parts.of.Code as code

module _ (E : Bx) (glue : Dict) where
  abbrev args : Args
  args = bounded (a_type ∷ a_type ∷ []) (E.row, (E.al.row, tt)) (dcons E.al.d (dcons E.al.drops (dcons glue dnil)))

  abbrev ended : Ended
  ended = f.ended E.row E.al.row E.al.g E.al.d E.al.drops glue

  abbrev stayed : Stays ended.signature.params ended.kept
  stayed = (stay_dropped (plain (λ _. B E)) no, tt)

pub of_spec : {M : Type 1} → statement M
of_spec 𝓤 𝓛 𝓜 𝓡 wired X A X-laws A-laws g d drops glue A-met drops-met glue-met =
    let E : Bx = record { row = X; laws = X-laws; al = record { row = A; laws = A-laws; g = g; d = d; drops = drops } } in
    let c = f.clauses X A g d drops glue 𝓛 𝓜.mem 𝓡.returns in let W = walk_of 𝓛 (ended E glue) (stayed E glue) c in
    let 𝓣 = tables 𝓤 𝓛.H 𝓜 𝓡 𝓡.env in let fn : Fn = inst_fn (args E glue) code.function in
    let Apart = triple_of 𝓛 (apart.signature X A g d drops glue) (apart.spec X A g d drops glue 𝓛 𝓜.mem 𝓡.returns) in
    proved_at 𝓛 (ended E glue) (stayed E glue) c 𝓜 𝓡 (Goes-blank 𝓛 2 (plain (λ _. B E)) no (λ κs x w. tt), tt)
    (f.Key.name (args E glue)) fn (code.unfolded 𝓤 𝓛.H 𝓜 𝓡 wired (X, (A, tt)) d drops glue) (λ y are.
    let κs = y.0.0 in let qs = y.0.1 in let x = y.0.3.0 in
    let tokens : Item 𝓤 = ‵ (flft κs.0 qs.0) ⊛ ‵ (flft κs.1.0 qs.1.0) ⊛ ‵ ftrue in
    let alive : Item 𝓤 = raw (fact 𝓤 (κs.0 ⊑ X.lives)) ⊛ raw (fact 𝓤 (κs.1.0 ⊑ A.lives)) ⊛ ‵ ftrue in
    qed 𝓛 ((tokens ⊛ ‵ (fsep ((B E).own_val x y.0.4.0) ftrue)) ∷ alive ∷ []) ∵ split ! $ move ! (1 ∷ []) $ fsplit ! $
    box_out E ! x y.0.4.0 (λ b o hv is_at is_word fits. box_in E ! x b o x.value is_at refl $
    regoal ! (λ (us : List Val). prop (WpFn 𝓤 𝓛.H 𝓣.C 𝓣.Λ fn (us ++ []) (W.post y))) is_word refl $
    -- [the box; nothing; the tokens; the two lifetimes]
    enter ! _ _ _ _ _ $ alloc_all ! (λ l. pass_all ! refl (box_typed E hv b o fits, tt) $
    sets ! (of_opd ! (get ! refl)) refl (box_typed E hv b o fits) $
    let z : Apart.Ghost = ((κs, qs, tt, (x, tt), (word E hv b o ∷ [], tt)), tt) in
    fjoin ! $ move ! (1 ∷ 0 ∷ []) $ join ! $ join ! $ use1 𝓛 (raw (Apart.pre z)) (id⊢ 𝓤 _) $
    calls_at ! (framed 𝓤 𝓛.H 𝓜 𝓣) Apart
    (met 𝓤 𝓛 𝓜 𝓡 (code.calls-std_alloc::boxed::Box::into_raw_with_allocator 𝓡.env wired) X A X-laws A-laws g d drops glue A-met drops-met glue-met) z
    (and_then ! (get ! refl) (no_more !)) (λ u.
    use1 𝓛 (later (some (λ (r : Ptr × A.Denot). (tokens ⊛ ‵ ((Tuple (RawPtr ∷ P E ∷ [])).own_val r (u ∷ []))) ⊛
    some (λ (_ : (Unit {0} × (Unit {0} × Unit {0})) × Unit {0}). ‵ (fsep (fsep ftrue (fsep ftrue ftrue)) ftrue) ⊛
    (raw (fact 𝓤 (r.1 ≡ x.alloc)) ⊛ ‵ (box_owns (token E.al x.alloc) (R E) r.0 x.value)))))) (id⊢ 𝓤 _) $
    await ! tt $ pick ! (λ r. split ! $ move ! (1 ∷ []) $ pick ! (λ _. split3 ! $ drop ! $ heard ! (r.1 ≡ x.alloc) (λ is_alloc.
    -- [the block; the tokens with the pair that was returned]
    move ! (1 ∷ []) $ split ! $ move ! (1 ∷ []) $ fpick ! (λ vss. fsplit ! $ feq_l ! (λ is_pair. fsplit ! $ feq_l ! (λ is_ptr. fsplit ! $
    rewrite ! 0 (λ (a : A.Denot). ‵ (A.own_val a vss.1.0)) is_alloc refl $ handle_tells E.al ! x.alloc vss.1.0 (λ hw is_hw fits'.
    -- [the allocator; nothing; the tokens; the block]
    lands_as ! (ap only (pair_is E r.0 is_pair is_ptr is_hw)) refl (pair_typed E r.0 hw fits') $
    sets ! (of_opd ! (get_in ! (fld ! refl (stop !)) (sub ! 0 refl (whole !)))) refl (pointer_typed r.0) $
    sets ! (of_opd ! (get_in ! (fld ! refl (stop !)) (sub ! 1 refl (whole !)))) refl fits' $
    sets ! (of_opd ! (get ! refl)) refl fits' $
    sets ! (agg ! (and_then ! (get ! refl) (and_then ! (get ! refl) (no_more !)))) refl (pair_typed E r.0 hw fits') $
    returns ! (look_at ! 0 refl) $ free_all ! refl $
    let made : (Pieces E).Denot = record { at = r.0; alloc = x.alloc; value = Some x.value } in
    move ! (3 ∷ 0 ∷ []) $ pieces_in E ! made $ move ! (1 ∷ []) $ drop ! $
    suffices ! _ (ends_at 𝓛 (ended E glue) (stayed E glue) c y (pair E r.0 hw) made ((tt, (tt, tt)), tt) (tt, tt)) $ says ! refl $
    nothing ! $ nothing ! $ fjoin ! $ join ! $ move ! (1 ∷ 0 ∷ []) $ join ! $ done !)))))))))))
