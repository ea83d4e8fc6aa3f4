use Rattle.std.proofs.Common.{sym, ap, ◌∙◌}
use Rattle.std.specs.Option.{option_map}
use Rattle.tiny_http_body.specs.Body.{counted_remaining}
use Rattle.tiny_http_body.proofs.BodyReads.{counted-none}
use Rattle.tiny_http_body.proofs.body.counted.Goals as goal

pub returns-then-left-eq0-clause-remaining : goal.returns-then-left-eq0-clause-remaining
returns-then-left-eq0-clause-remaining c feed = sym (ap (λ n. option_map (counted_remaining c.args.by_standard n) feed) c.if-left-eq0.true ∙ counted-none c.args.by_standard feed)
