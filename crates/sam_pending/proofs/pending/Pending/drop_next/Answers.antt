use Rattle.std.proofs.Common.{arith, ◌≡◌, ◌<◌, ◌∙◌, refl, ap, sym, length, List, Some}
use Rattle.sam_pending.specs.Blocks.{flat, made_in}
use Rattle.sam_pending.specs.Layers.{Layer, next_made, rasp_length, runs_of}
use Rattle.sam_pending.specs.Runs.{first_typed, next_deed, rooms}
use Rattle.sam_pending.specs.declared.run.Run.{Run}
use Rattle.sam_pending.proofs.DropLaws.{dropped_layer, drops_next, typed_reach}
use Rattle.sam_pending.proofs.pending.Pending.drop_next.Goals as goal

pub first_typed-requires : goal.first_typed-requires
first_typed-requires c =
    omega (arith, c.self.invariant.rasp, c.self.invariant.waiting)

pub edit_at-requires-clause-within : goal.edit_at-requires-clause-within
edit_at-requires-clause-within c =
    rw c.as_slice.ensures.value
    (typed_reach c.args.up_to (flat c.self.inside.runs) (length c.self.inside.text.items) 0 c.in-Some.run' c.in-Some.place c.self.invariant.within
    (sym c.first_typed.ensures ∙ c.in-Some.is))

pub invariant_of-self : goal.invariant_of-self
invariant_of-self c =
    let l : Layer = record { text = c.self.inside.text.items; blocks = c.self.inside.runs } in
    rw (c.take_first.ensures) (dropped_layer c.args.up_to l c.self.invariant)

pub returns-clause-dropped : goal.returns-clause-dropped
returns-clause-dropped c =
    let l : Layer = record { text = c.self.inside.text.items; blocks = c.self.inside.runs } in
    let xs : List Run = runs_of l in
    let found : first_typed c.args.up_to 0 xs ≡ Some (c.in-Some.run', c.in-Some.place) =
    sym c.first_typed.ensures ∙ c.in-Some.is in
    let made : c.made_len.result ≡ rasp_length (next_made c.args.up_to l) =
    c.made_len.ensures ∙ sym (ap (λ (x : Layer). rasp_length (next_made c.args.up_to x)) c.self.view_is) in
    let more : rooms xs < rooms (flat (made_in (next_deed c.args.up_to xs) l.blocks)) = omega (arith, made, c.if-made_len-le-MAX_RUNES.false, c.self.invariant.rasp) in
    rw (← c.self.view_is, c.take_first.ensures) (
      refl,
      drops_next c.args.up_to l c.in-Some.run' c.in-Some.place (record { place = c.in-Some.place; count = c.shown.result; text = c.in_ok-edit.edit.text }) c.self.invariant more found refl
          c.shown.ensures (grind (arith, c.in_ok-edit.ensures, c.as_slice.ensures.value)),
    )
