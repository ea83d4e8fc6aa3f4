use Rattle.tiny_http_head.proofs.HeadReadingLemmas.{one-part, two-parts, has-parts}
use Rattle.tiny_http_head.proofs.grammar.split_request_line.Goals as goal

pub returns-in_default-clause-none : goal.returns-in_default-clause-none
returns-in_default-clause-none c = one-part c.args.text.now c.trim-core.result.now c.trim-core.ensures c.in_default.ensures.none

pub returns-in_default-cut-clause-none : goal.returns-in_default-cut-clause-none
returns-in_default-cut-clause-none c =
    two-parts c.args.text.now c.trim-core.result.now c.in-Some.method.now c.in-Some.rest.now c.trim-core.ensures c.in-Some.ensures.some.0 c.in-Some.ensures.some.1 c.in_default-cut.ensures.none

pub returns-clause-some : goal.returns-clause-some
returns-clause-some c =
    has-parts c.args.text.now c.trim-core.result.now c.in-Some.method.now c.in-Some.rest.now c.in-Some-cut.path.now c.in-Some-cut.tail.now c.first_part.result.now c.trim-core.ensures c.in-Some.ensures.some.0 c.in-Some.ensures.some.1
    c.in-Some-cut.ensures.some.0 c.in-Some-cut.ensures.some.1 c.first_part.ensures
