use Rattle.std.proofs.Common.{sym, ◌∙◌}
use Rattle.tiny_http_standard_head.proofs.ValidateLemmas.{validate-served, validate-fails}
use Rattle.tiny_http_standard_head.proofs.validation.validate.Goals as goal

pub returns-in-Err : goal.returns-in-Err
returns-in-Err c = validate-fails c.args.version c.args.method.now c.args.headers.now c.in-Err.refusal c.if-version-ne1.false (c.has_valid_host.ensures.0 c.if-not-has_valid_host.false) (sym c.body_of.ensures ∙ c.in-Err.is)

pub returns-then-has : goal.returns-then-has
returns-then-has c = (
  c.in-Ok.body.0,
  c.in-Ok.body.1,
  validate-served c.args.version c.args.headers.now c.in-Ok.body.0 c.in-Ok.body.1 c.if-version-ne1.false (c.has_valid_host.ensures.0 c.if-not-has_valid_host.false) (sym c.body_of.ensures ∙ c.in-Ok.is),
  sym c.has.ensures ∙ c.if-has.true,
)

pub returns : goal.returns
returns c = (
  validate-served c.args.version c.args.headers.now c.in-Ok.body.0 c.in-Ok.body.1 c.if-version-ne1.false (c.has_valid_host.ensures.0 c.if-not-has_valid_host.false) (sym c.body_of.ensures ∙ c.in-Ok.is),
  sym c.has.ensures ∙ c.if-has.false,
  c.owes_continue.ensures,
  c.asks_upgrade.ensures,
  c.is_last.ensures,
)
