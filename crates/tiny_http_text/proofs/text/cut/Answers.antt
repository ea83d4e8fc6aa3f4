use Rattle.tiny_http_text.proofs.QualityReadingLemmas.{cut-some, cut-none}
use Rattle.tiny_http_text.proofs.text.cut.Goals as goal

pub returns-clause-some : goal.returns-clause-some
returns-clause-some c = cut-some c.args.c c.args.text.now c.split_once.result c.requires c.split_once.ensures.cases

pub returns-clause-none : goal.returns-clause-none
returns-clause-none c = cut-none c.args.c c.args.text.now c.split_once.result c.requires c.split_once.ensures.cases
