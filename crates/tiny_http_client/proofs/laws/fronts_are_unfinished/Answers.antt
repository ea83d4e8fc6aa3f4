use Rattle.tiny_http_client.proofs.FrontLemmas.{answer-more, front-unfinished}
use Rattle.tiny_http_client.proofs.BrokenLemmas.{broken-off}
use Rattle.tiny_http_client.proofs.laws.fronts_are_unfinished.Goals as goal

pub returns : goal.returns
returns c = record { stays = λ m bytes more a rest h. answer-more more m bytes a rest h; front = front-unfinished; broken = broken-off }
