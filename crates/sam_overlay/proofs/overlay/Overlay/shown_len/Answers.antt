use Rattle.std.proofs.Common.{◌≡◌, ◌∙◌, ap, sym, arith, length, None, Some, true, if◌then◌else◌}
use Rattle.sam_runes.specs.Slots.{slot}
use Rattle.sam_pending.specs.Cells.{shown_of}
use Rattle.sam_term.specs.Term.{PlainTerminal, is_open, rasp_at}
use Rattle.sam_overlay.specs.Calls.{shown_at}
use Rattle.sam_overlay.specs.Outcomes.{cells_in}
use Rattle.sam_overlay.proofs.CallLaws.{open-rasp, shown-resting}
use Rattle.sam_overlay.proofs.overlay.Overlay.shown_len.Goals as goal

pub returns-in-None : goal.returns-in-None
returns-in-None c =
    let t : PlainTerminal = c.args.self.now.end.term in
    let o : (is_open t c.args.tag ≡ true) × (rasp_at t c.args.tag ≡ c.in_ok-rasp.rasp.now) = open-rasp t c.args.tag c.in_ok-rasp.rasp.now (grind arith) in
    let none : slot c.args.self.now.layers c.args.tag ≡ None = grind arith in
    let n : c.len.result ≡ length (shown_at c.args.self.now c.args.tag) =
    c.len.ensures.len ∙ (sym (ap length o.1) ∙ (sym (shown-resting (rasp_at t c.args.tag)) ∙ ap (λ x. length (shown_of (cells_in (rasp_at t c.args.tag) x))) (sym none))) in
    ap Some n ∙ sym (ap (λ b. if b then Some (length (shown_at c.args.self.now c.args.tag)) else None) o.0)
