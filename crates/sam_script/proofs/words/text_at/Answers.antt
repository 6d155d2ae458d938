use Rattle.sam_script.proofs.Common.{lit<, None, arith, strip_prefix_char}
use Rattle.sam_script.proofs.WordLaws.{no_text}
use Rattle.sam_script.proofs.words.text_at.Goals as goal

pub returns-in-None : goal.returns-in-None
returns-in-None c = grind (arith, no_text c.args.text.now (strip_prefix_char 32 c.args.text.now None c.in-None.ensures.cases (lit< tt)))
