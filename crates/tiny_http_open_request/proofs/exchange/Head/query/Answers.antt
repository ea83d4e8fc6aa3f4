use Rattle.std.proofs.Common.{subst}
use Rattle.std.specs.Option.{option_copied}
use Rattle.tiny_http_head.specs.Target.{IsQuery}
use Rattle.tiny_http_open_request.proofs.exchange.Head.query.Goals as goal

pub returns : goal.returns
returns c = subst (λ target. IsQuery target (option_copied c.query_of.result)) c.as_str.ensures.value c.query_of.ensures
