-- `of_parts` moves two fields, and what they own goes with them.
use Rattle.sam_handles.proofs.Walks.{List, [], ◌∷◌, ◌++◌, refl, Val, fsep, ftrue, id⊢, WpFn, tables, ‵, prop, ◌⊛◌, ◌$◌, ◌∵◌, !, qed, done, suffices, regoal, move, drop, use1, join, split, fsplit, fjoin, agg, sub, whole, and_then, enter, fld, no_more, of_opd, returns, stop, alloc_all, free_all, get, get_in, look_at, pass_all, sets, yes, nothing, Goes-dropped, Stays, ends_at, says, stay_dropped, walk_of, proved_at}
use Rattle.sam_handles.proofs.Pieces.{Pieces, pair, pair_typed, pieces_in, pieces_out, pointer_typed}
use Rattle.sam_c_client.proofs.ClientEnds.{ClientBox as E, ClientParts as From}
use Rattle.sam_c_client.specs.contracts.handle.HeldClient.{the_row as Held}
use Rattle.sam_c_client.specs.contracts.handle.HeldClient.of_parts as f
use Rattle.sam_c_client.proofs.handle.HeldClient.of_parts.Statement.{statement}
use Rattle.sam_c_client.proofs.handle.HeldClient.of_parts.Code as code

abbrev stayed : Stays f.ended.signature.params f.ended.kept
stayed = (stay_dropped From yes, tt)

pub of_parts_spec : {M : Type 1} → statement M
of_parts_spec 𝓤 𝓛 𝓜 𝓡 wired =
    let c = f.clauses 𝓛 𝓜.mem 𝓡.returns in let W = walk_of 𝓛 f.ended stayed c in let 𝓣 = tables 𝓤 𝓛.H 𝓜 𝓡 𝓡.env in
    proved_at 𝓛 f.ended stayed c 𝓜 𝓡 (Goes-dropped 𝓛 0 From yes (λ κs x w. refl), tt) f.Key.name code.function (code.unfolded 𝓤 𝓛.H 𝓜 𝓡 wired) (λ y are.
    let d = y.0.3.0 in let made : Held.Denot = record { at = d.at; alloc = d.alloc; end = d.value } in
    qed 𝓛 ((‵ ftrue ⊛ ‵ (fsep ((Pieces E).own_val d y.0.4.0) ftrue)) ∷ ‵ ftrue ∷ []) ∵ split ! $ drop ! $ fsplit ! $ pieces_out E ! d y.0.4.0 (λ hv is_pair fits.
    pieces_in E ! d $ use1 𝓛 (‵ (Held.own_val made (pair E d.at hv ∷ []))) (id⊢ 𝓤 _) $ move ! (1 ∷ 2 ∷ []) $ drop ! $ drop ! $
    regoal ! (λ (us : List Val). prop (WpFn 𝓤 𝓛.H 𝓣.C 𝓣.Λ code.function (us ++ []) (W.post y))) is_pair refl $
    -- [the handle]
    enter ! _ _ _ _ _ $ alloc_all ! (λ l. pass_all ! refl (pair_typed E d.at hv fits, tt) $
    sets ! (of_opd ! (get_in ! (fld ! refl (stop !)) (sub ! 0 refl (whole !)))) refl (pointer_typed d.at) $
    sets ! (of_opd ! (get_in ! (fld ! refl (stop !)) (sub ! 1 refl (whole !)))) refl fits $
    sets ! (of_opd ! (get ! refl)) refl (pointer_typed d.at) $
    sets ! (agg ! (and_then ! (get ! refl) (and_then ! (get ! refl) (no_more !)))) refl (pair_typed E d.at hv fits) $
    returns ! (look_at ! 0 refl) $ free_all ! refl $
    suffices ! _ (ends_at 𝓛 f.ended stayed c y (pair E d.at hv) made (tt, tt) (tt, tt)) $ says ! refl $
    nothing ! $ nothing ! $ fjoin ! $ join ! $ nothing ! $ join ! $ done !)))
