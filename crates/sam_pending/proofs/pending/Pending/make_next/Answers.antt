use Rattle.std.proofs.Common.{arith, List, length, ap, subst, sym, ◌∙◌, ◌≡◌, ◌≤◌}
use Rattle.sam_runes.specs.Texts.{max_runes}
use Rattle.sam_pending.specs.Blocks.{flat, made_in}
use Rattle.sam_pending.specs.Cells.{IsMade, put}
use Rattle.sam_pending.specs.Groups.{IsMadeBy}
use Rattle.sam_pending.specs.Layers.{Layer, cells_over, next_made, rasp_length, runs_of}
use Rattle.sam_pending.specs.Runs.{cells_of, edit_change, next_deed, rooms}
use Rattle.sam_pending.specs.declared.run.Run.{Run}
use Rattle.sam_pending.proofs.DueLaws.{next_is, next_layer}
use Rattle.sam_pending.proofs.pending.Pending.make_next.Goals as goal

pub make_first-requires : goal.make_first-requires
make_first-requires c = omega (arith, c.self.invariant.rasp, c.self.invariant.waiting)

pub invariant_of-self : goal.invariant_of-self
invariant_of-self c =
    let l : Layer = record { text = c.self.inside.text.items; blocks = c.self.inside.runs } in
    let same : c.make_first.new.self ≡ made_in (next_deed c.args.up_to (runs_of l)) l.blocks =
    c.make_first.ensures ∙ ap (λ w. made_in w l.blocks) c.next_deed-deed.ensures in
    rw same (next_layer c.args.up_to l c.self.invariant (subst (λ (x : Layer). rasp_length (next_made c.args.up_to x) ≤ max_runes) (sym c.self.view_is) c.requires))

pub returns-clause-cells : goal.returns-clause-cells
returns-clause-cells c =
    let m = c.args.up_to in
    let l : Layer = record { text = c.self.inside.text.items; blocks = c.self.inside.runs } in
    let same : c.make_first.new.self ≡ made_in (next_deed m (runs_of l)) l.blocks =
    c.make_first.ensures ∙ ap (λ w. made_in w l.blocks) c.next_deed-deed.ensures in
    rw (← c.self.view_is) (λ r e o f. subst (λ (ds : List (List Run)). IsMade (cells_over r l) (edit_change e) (cells_of l.text (put r (edit_change e)) (flat ds)) × (rooms (flat ds) ≡ length (put r (edit_change e)))) (sym same)
    (let t = next_is m l r e c.self.invariant o f in (t.is, t.over)))

pub returns-clause-groups : goal.returns-clause-groups
returns-clause-groups c =
    let m = c.args.up_to in
    let l : Layer = record { text = c.self.inside.text.items; blocks = c.self.inside.runs } in
    let same : c.make_first.new.self ≡ made_in (next_deed m (runs_of l)) l.blocks =
    c.make_first.ensures ∙ ap (λ w. made_in w l.blocks) c.next_deed-deed.ensures in
    rw (← c.self.view_is) (λ g r e is o f. subst (λ (ds : List (List Run)). IsMadeBy g (cells_over r l) (edit_change e) (cells_of l.text (put r (edit_change e)) (flat ds))) (sym same) ((next_is m l r e c.self.invariant o f).by g is))
