use Rattle.tiny_http_files.proofs.GrammarLemmas.{reads, spells}
use Rattle.tiny_http_files.proofs.laws.ranges_by_the_grammar.Goals as goal

pub returns : goal.returns
returns c = λ text spec. (spells text spec, reads text spec)
