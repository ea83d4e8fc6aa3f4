use Rattle.std.proofs.Common.{rules, ◌≡◌, ℕ, ◌<◌}
use Rattle.tiny_http_request.specs.Body.{body_left}
use Rattle.tiny_http_request.proofs.WholeBodyLemmas.{stop-whole}
use Rattle.tiny_http_request.proofs.whole_body.read_to_end.Goals as goal

pub returns-then-n-eq0-clause-whole : goal.returns-then-n-eq0-clause-whole
returns-then-n-eq0-clause-whole g c =
    let inv = c.loop-bytes.invariant in
    stop-whole (body_left c.args.body.now) (body_left c.loop-bytes.body) c.loop-bytes.bytes.items inv.read (c.in_ok-n.ensures.reads.end c.if-n-eq0.true (search rules))
