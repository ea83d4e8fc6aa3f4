use Rattle.std.proofs.Common.{arith, ◌++◌, drop}
use Rattle.std.proofs.lemmas.Grind.{common_steps}
use Rattle.tiny_http_response.proofs.AddHeaderLemmas.{behind-written}
use Rattle.tiny_http_response.proofs.add_header.replace_type.Goals as goal

pub returns-clause-behind : goal.returns-clause-behind
returns-clause-behind c =
    let front = c.split_at_mut-front.result.0.now in
    behind-written c.args.at (c.replace_value.new.headers ++ drop c.args.kept front) c.split_at_mut-front.result.1.now c.args.headers.now _ (grind (arith, common_steps)) c.split_at_mut-front.ensures.back
