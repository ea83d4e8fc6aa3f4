use Rattle.tiny_http_head.proofs.HeaderTextsLemmas.{token_ascii}
use Rattle.tiny_http_standard_head.proofs.LinesLemmas.{visible-ascii}
use Rattle.tiny_http_standard_head.proofs.lines.parse_request_line.Goals as goal

pub method_of-requires : goal.method_of-requires
method_of-requires c = token_ascii c.in-Some.method.now c.in-Some.ensures.some.method_is

pub owned-requires : goal.owned-requires
owned-requires c = visible-ascii c.in-Some.target.now c.in-Some.ensures.some.target_is.0
