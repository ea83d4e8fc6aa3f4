use Rattle.std.proofs.Common.{subst}
use Rattle.tiny_http_head.specs.Target.{IsPath}
use Rattle.tiny_http_open_request.proofs.exchange.Head.target_path.Goals as goal

pub returns : goal.returns
returns c = subst (λ target. IsPath target c.path_of.result.now) c.as_str.ensures.value c.path_of.ensures
