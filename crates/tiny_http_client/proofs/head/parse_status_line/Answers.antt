use Rattle.std.proofs.Common.{rules}
use Rattle.tiny_http_client.proofs.HeadLemmas.{status-line-no_slash, status-line-other}
use Rattle.tiny_http_client.proofs.head.parse_status_line.Goals as goal

pub returns-in_default : goal.returns-in_default
returns-in_default c = status-line-no_slash c.args.text.now c.in_default.ensures.none

pub returns-then-not-is : goal.returns-then-not-is
returns-then-not-is c =
    let cut = c.in-Some.ensures.some in
    status-line-other c.args.text.now c.in-Some.protocol.now c.in-Some.numbers.now cut.0 cut.1 (search rules)
