use Rattle.sam_script.proofs.Common.{◌∙◌, sym, lit<, Some, None, find_char}
use Rattle.sam_script.proofs.WordLaws.{cut_to, cut_none}
use Rattle.sam_script.proofs.words.split_word.Goals as goal

pub returns-in-Some : goal.returns-in-Some
returns-in-Some c =
    let at = find_char 32 c.args.text.now (Some c.in-Some.end) c.in-Some.ensures.cases (lit< tt) in
    let cut = cut_to c.args.text.now c.in-Some.end at.0 at.1 at.2 in
    record { word = c.split_at.ensures.front ∙ sym cut.0; rest = c.split_at.ensures.back ∙ sym cut.1 }

pub returns-in-None : goal.returns-in-None
returns-in-None c =
    let cut = cut_none c.args.text.now (find_char 32 c.args.text.now None c.in-None.ensures.cases (lit< tt)) in record { word = sym cut.0; rest = sym cut.1 }
