use Rattle.std.proofs.Common.{rules, arith}
use Rattle.std.proofs.lemmas.Grind.{common_steps}
use Rattle.tiny_http_events.proofs.LineFeeds.{cut-joins}
use Rattle.tiny_http_events.proofs.event.cut_line.Goals as goal

pub returns-clause-joins : goal.returns-clause-joins
returns-clause-joins c =
    cut-joins c.args.text.now c.split_at.result.0.now c.split_at.result.1.now c.in_ok-rest.rest.now (grind (arith, common_steps)) (search rules) c.in_ok-rest.ensures.some
