use Rattle.tiny_http_head.proofs.TargetLemmas.{one-parts}
use Rattle.tiny_http_head.proofs.laws.one_path_and_query.Goals as goal

pub returns : goal.returns
returns c = one-parts
