-- The parts of a box in a proof by hand: what they own is taken out of their words, and put back.
use Rattle.std.proofs.Common.{arith}
use seplogic.Ra.Ura.{Ura}
use types.Logic.{Logic}
use Rattle.sam_handles.specs.Handles.{holds}
use Rattle.sam_handles.proofs.Walks.{◌≡◌, List, [], ◌∷◌, ◌++◌, Option, Some, is_some, true, true≢false, refl, ap, ◌∙◌, T, lit<, Ty, tcons, tnil, ty_ptr, ty_struct, Val, WT, has_ty, of_list, vcons, vnil, vstruct, Fml, id⊢, Goal, Item, Seq, Step, ‵, ◌$◌, step, move, drop, use1, fsplit, fjoin, fpick, fpack, feq_l, feq_i, RattleType, Valss, Ptr, RawPtr, ptr_val, nothing, shape, within, Fits, handle_tells, token, α, B, Bx, P, R, X, handle, and_tt}
use Rattle.sam_handles.specs.contracts.parts.Parts as parts

-- a machine value of its type
abbrev pub Good : Ty → Val → Type 0
Good τ v = T (has_ty τ v) × WT v

pub pointer_typed : (at : Ptr) → Good ty_ptr (ptr_val at)
pointer_typed at = grind (arith, lit<)

module _ (E : Bx) where
  abbrev pub Pieces : RattleType
  Pieces = parts.the_row (R E) (P E) E.al.g

  -- what they own beside the allocator
  abbrev pub kept : Pieces.Denot → Fml
  kept d = holds (token E.al d.alloc) (R E) d.at d.value

  -- their machine value: the pointer and the allocator
  abbrev pub pair : Ptr → Val → Val
  pair at hv = vstruct (vcons (ptr_val at) (vcons hv vnil))

  pub pair_is : {ws ps hs : List Val} (at : Ptr) {hv : Val} → ws ≡ vstruct (of_list (ps ++ (hs ++ []))) ∷ [] → ps ≡ ptr_val at ∷ [] → hs ≡ hv ∷ [] → ws ≡ pair at hv ∷ []
  pair_is {hs = hs} at whole one two =
      whole ∙ ap (λ (ps : List Val). vstruct (of_list (ps ++ (hs ++ []))) ∷ []) one
      ∙ ap (λ (qs : List Val). vstruct (of_list (ptr_val at ∷ (qs ++ []))) ∷ []) two

  pub pair_typed : (at : Ptr) (hv : Val) → Fits E.al hv → Good (ty_struct (parts.the_type (R E) (P E) E.al.g).name (tcons ty_ptr (tcons (α E.al) tnil))) (pair at hv)
  pair_typed at hv e = grind (arith, and_tt, has_ty, lit<)

module _ (E : Bx) {M : Type 1} {𝓤 : Ura M} {𝓛 : Logic 𝓤} {K : Type 0} {Γ : List (Item 𝓤)} {G : Goal 𝓤 𝓛.H} where
  pub pieces_out : K → (d : (Pieces E).Denot) (vs : List Val)
      → ((hv : Val) → vs ≡ pair E d.at hv ∷ [] → Fits E.al hv → Seq K 𝓛 (‵ (kept E d) ∷ ‵ (handle E d.alloc hv) ∷ Γ) G)
      → Seq K 𝓛 (‵ ((Pieces E).own_val d vs) ∷ Γ) G
  pieces_out t d vs next =
      fsplit t $ fpick t (λ vss. fsplit t $ feq_l t (λ is_pair. fsplit t $ feq_l t (λ is_at. fsplit t $
      handle_tells E.al t d.alloc vss.1.0 (λ hv is_hv fits. move t (1 ∷ []) $ drop t $ move t (1 ∷ []) $ next hv (pair_is E d.at is_pair is_at is_hv) fits))))

  pub pieces_in : K → {hv : Val} (d : (Pieces E).Denot)
      → Step K 𝓛 (‵ ((Pieces E).own_val d (pair E d.at hv ∷ [])) ∷ Γ) G (‵ (kept E d) ∷ ‵ (handle E d.alloc hv) ∷ Γ) G
  pieces_in t {hv} d = step (λ next.
      nothing t $ move t (2 ∷ 0 ∷ []) $ fjoin t $ feq_i t (List Val) (ptr_val d.at ∷ []) (ptr_val d.at ∷ []) refl $ fjoin t $
      feq_i t (List Val) (pair E d.at hv ∷ []) (pair E d.at hv ∷ []) refl $ fjoin t $
      fpack t (Valss (RawPtr ∷ P E ∷ [])) (within (shape (parts.the_type (R E) (P E) E.al.g)) (d.at, (d.alloc, tt)) (pair E d.at hv ∷ []))
      (ptr_val d.at ∷ [], (hv ∷ [], tt)) $ fjoin t $ next)

  -- parts that hold a value own what a box does
  pub as_box : K → (at : Ptr) (a : E.al.row.Denot) (held : Option (X E)) (vs : List Val) → is_some held ≡ true
      → ((x : X E) → held ≡ Some x → Seq K 𝓛 (‵ ((B E).own_val (record { ptr = at; alloc = a; value = x }) vs) ∷ Γ) G)
      → Seq K 𝓛 (‵ ((Pieces E).own_val (record { at = at; alloc = a; value = held }) vs) ∷ Γ) G
  as_box e at a held vs u w = grind (arith, use1, id⊢, true≢false)
