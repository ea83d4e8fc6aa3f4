use Rattle.std.proofs.Common.{◌∙◌}
use Rattle.tiny_http_standard_head.proofs.LinesLemmas.{one-space, line-parts}
use Rattle.tiny_http_standard_head.proofs.lines.split_request_line.Goals.{then-not-is_token-via-then-not-is_token, then-not-is_token-via-else-not-is_token+then-not-is_target}
use Rattle.tiny_http_standard_head.proofs.lines.split_request_line.Goals as goal
use Rattle.tiny_http_head.proofs.FirstByte.{contrary}

pub returns-in_default-cut-clause-none : goal.returns-in_default-cut-clause-none
returns-in_default-cut-clause-none c =
    one-space c.args.text.now c.in-Some.method.now c.in-Some.rest.now c.in-Some.ensures.some.0 c.in-Some.ensures.some.1 c.in_default-cut.ensures.none

pub returns-in_default-version_in-clause-none : goal.returns-in_default-version_in-clause-none
returns-in_default-version_in-clause-none c method target v r =
    let a = c.in-Some.ensures.some in
    let b = c.in-Some-cut.ensures.some in
    c.in_default-version_in.ensures.none v (line-parts c.args.text.now c.in-Some.method.now c.in-Some.rest.now c.in-Some-cut.target.now c.in-Some-cut.version.now a.0 a.1 b.0 b.1 method target v r).2

pub returns-then-not-is_token-clause-none : goal.returns-then-not-is_token-clause-none
returns-then-not-is_token-clause-none c method target v r =
    let a = c.in-Some.ensures.some in
    let b = c.in-Some-cut.ensures.some in
    let parts = line-parts c.args.text.now c.in-Some.method.now c.in-Some.rest.now c.in-Some-cut.target.now c.in-Some-cut.version.now a.0 a.1 b.0 b.1 method target v r in
    elim c.then-not-is_token.branch [
      | then-not-is_token-via-then-not-is_token w ↦ contrary c.is_token.result (c.is_token.ensures ∙ parts.0) w.if-not-is_token.true
      | then-not-is_token-via-else-not-is_token+then-not-is_target w ↦ contrary w.is_target.result (w.is_target.ensures.1 parts.1) w.if-not-is_target.true
    ]
