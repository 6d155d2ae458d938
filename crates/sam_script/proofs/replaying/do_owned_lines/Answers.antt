use Rattle.sam_script.proofs.Common.{◌≡◌, ◌∷◌, rules, into_iter_items}
use Rattle.sam_script.proofs.Replays.{line_more}
use Rattle.sam_script.proofs.replaying.do_owned_lines.Goals as goal

pub loop-numbered-preserved : goal.loop-numbered-preserved
loop-numbered-preserved c =
    let left : into_iter_items c.loop-numbered.numbered-iterator ≡ c.in-Some.numbered ∷ into_iter_items c.next.new.self = search rules in
    line_more _ _ _ _ _ c.in-Some.numbered _ _ left c.loop-numbered.invariant c.in_ok-do_line.ensures.done c.in_ok-do_line.ensures.printed
