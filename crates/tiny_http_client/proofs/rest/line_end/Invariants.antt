use Rattle.tiny_http_client.proofs.RestLemmas.{SearchedTo}
use Rattle.tiny_http_client.proofs.rest.line_end.Given as goal

abbrev pub invariant-loop-at : goal.invariant-loop-at
invariant-loop-at l = SearchedTo l.bytes l.at
