use Rattle.sam_local.proofs.Looking as lemmas
use Rattle.sam_local.proofs.laws.looking_changes_no_text.Goals as goal

pub returns-clause-view : goal.returns-clause-view
returns-clause-view c = lemmas.view_shows

pub returns-clause-load : goal.returns-clause-load
returns-clause-load c = lemmas.load_shows

pub returns-clause-scroll : goal.returns-clause-scroll
returns-clause-scroll c = lemmas.scroll_shows

pub returns-clause-keep : goal.returns-clause-keep
returns-clause-keep c = lemmas.check_and_flush_keep
