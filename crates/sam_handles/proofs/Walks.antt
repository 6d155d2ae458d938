-- The names that the proofs by hand share.
pub use Rattle.std.proofs.Common.{◌≡◌, List, [], ◌∷◌, ◌++◌, None, Option, Some, is_some, true, true≢false, refl, sym, ap, ◌∙◌, subst}
pub use lib.Dec.{T, lit<}
pub use mir.Syntax.{Args, Dict, Fn, Ty, a_type, dcons, dnil, tcons, tnil, ty_ptr, ty_struct}
pub use mir.MapTy.{inst_fn}
pub use mir.Val.{Val, WT, has_ty, of_list, vcons, vnil, vptr, vstruct}
pub use base.Fml.{Fml, flft, fsep, ftrue}
pub use base.Logic.{id⊢}
pub use prog.Wp.{WpFn}
pub use contract.BorrowLft.{◌⊑◌}
pub use contract.Monad.{fact}
pub use contract.Running.{tables}
pub use types.Kit.{Goal, Item, Seq, Step, ‵, raw, some, later, prop, at_ret, ◌⊛◌, ◌$◌, ◌∵◌, !, qed, step, done, suffices, await, regoal, rewrite, move, drop, use1, join, split, split3, pick, fsplit, fjoin, fpick, fpack, feq_l, feq_i}
pub use types.Part.{agg, sub, whole}
pub use types.Run.{and_then, blocks, enter, exec, first, fld, lit, no_more, of_opd, returns, stop}
pub use types.ByLocal.{alloc_all, env, free_all, get, get_in, lands_as, lands_last, look_at, pass_all, sets}
pub use denote.Exit.{no, yes}
pub use denote.Param.{bounded}
pub use denote.RattleType.{RattleType, Valss}
pub use denote.RawPtr.{Ptr, RawPtr, block_ptr, null_ptr, ptr_val}
pub use denote.Signature.{Slot, plain}
pub use denote.Steps.{heard, nothing, only}
pub use denote.Struct.Owning.{shape}
pub use denote.Struct.Struct.{within}
pub use denote.Struct.Tuple.{Tuple}
pub use denote.Triple.Call.{calls_at, calls_at_last}
pub use denote.Triple.Clauses.{Ended}
pub use denote.Triple.Spec.{triple_of}
pub use denote.Triple.Table.{framed}
pub use denote.Triple.Walked.{Goes-dropped, Stays, ends_at, says, stay_dropped, walk_of}
pub use Rattle.core.proofs.alloc.Calls.{Fits, Goes-blank, handle_tells, token, α}
pub use Rattle.std.proofs.VecSteps.Shapes.{after}
pub use Rattle.std.proofs.raw_atomic.Walks.{proved_at}
pub use Rattle.std_alloc.specs.Box.Ownership.{box_owns}
pub use Rattle.std_alloc.proofs.BoxSteps.Form.{B, Bx, D, P, R, X, args, box_ty, box_typed, handle, word}
pub use Rattle.std_alloc.proofs.BoxSteps.Steps.{box_in, box_out}
pub use Rattle.std_alloc.proofs.ResultValues.{and_tt}
