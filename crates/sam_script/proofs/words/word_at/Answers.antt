use Rattle.sam_script.proofs.Common.{lit<, None, strip_prefix_char}
use Rattle.sam_script.proofs.WordLaws.{no_word}
use Rattle.sam_script.proofs.words.word_at.Goals as goal

pub returns-in-None : goal.returns-in-None
returns-in-None c = no_word c.args.text.now (strip_prefix_char 32 c.args.text.now None c.in-None.ensures.cases (lit< tt))
