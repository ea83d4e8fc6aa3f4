use Rattle.std.proofs.Common.{rules, ◌≡◌, false}
use Rattle.tiny_http_head.specs.Target.{is_scheme}
use Rattle.tiny_http_head.proofs.TargetLemmas.{no_scheme, no_slashes_if}
use Rattle.tiny_http_head.proofs.target.behind_scheme.Goals as goal

pub returns-then-not-is_scheme-clause-none : goal.returns-then-not-is_scheme-clause-none
returns-then-not-is_scheme-clause-none c =
    let other : is_scheme c.in_ok-scheme.scheme.now ≡ false = search rules in
    no_scheme c.args.target.now c.in_ok-scheme.scheme.now c.in_ok-scheme.rest.now (search rules) (search rules) other

pub returns-clause-none : goal.returns-clause-none
returns-clause-none c =
    no_slashes_if c.args.target.now c.in_ok-scheme.scheme.now c.in_ok-scheme.rest.now c.strip_prefix.result _ (search rules) (search rules) c.strip_prefix.ensures.cases
