use Rattle.std.proofs.Common.{rules, ◌≢◌}
use Rattle.std.proofs.lemmas.Result.{on_ok_weaker}
use Rattle.tiny_http_io.proofs.LineEndsLemmas.{return_flagged, two_returns_flagged, plain_flagged, lone_return_flagged}
use Rattle.tiny_http_io.proofs.lines.go_on.Goals as goal

pub returns-in-true-eq13-clause-passed : goal.returns-in-true-eq13-clause-passed
returns-in-true-eq13-clause-passed c =
    on_ok_weaker c.keep.result (λ e. two_returns_flagged _ _ _ c.in-true-eq13.is-0 e c.requires.passed) c.keep.ensures.ok

pub returns-in-false-eq13-clause-passed : goal.returns-in-false-eq13-clause-passed
returns-in-false-eq13-clause-passed c = return_flagged _ _ c.in-false-eq13.is-0 c.requires.passed

pub returns-in-false-default-clause-passed : goal.returns-in-false-default-clause-passed
returns-in-false-default-clause-passed c =
    on_ok_weaker c.keep-in-false-default.result (λ e. plain_flagged _ _ c.args.b _ c.in-false-default.is-0 c.in-false-default.is-1.1 e c.requires.passed)
    c.keep-in-false-default.ensures.ok

pub returns-in_ok-keep-in-true-default-clause-passed : goal.returns-in_ok-keep-in-true-default-clause-passed
returns-in_ok-keep-in-true-default-clause-passed c =
    let arm = c.in-true-default in
    let not_feed : c.args.b ≢ 10 = c.requires.not_end arm.is-0 in
    let not_return : c.args.b ≢ 13 = search rules in
    on_ok_weaker c.keep-in-true-default-2.result
    (λ e. lone_return_flagged _ _ _ c.args.b _ arm.is-0 not_feed not_return c.in_ok-keep-in-true-default.ensures.ok e c.requires.passed)
    c.keep-in-true-default-2.ensures.ok
