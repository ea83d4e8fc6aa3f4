use Rattle.std.proofs.Common.{ℕ, List, inr, subst, ap, ◌∙◌, Ok}
use Rattle.tiny_http_standard_head.specs.Lines.{IsNoRequestLine}
use Rattle.tiny_http_standard_head.specs.Heads.{BeginsWithBadLine}
use Rattle.tiny_http_standard_head.proofs.heads.read_request.Goals as goal

pub returns-in-Ok-None-clause-none : goal.returns-in-Ok-None-clause-none
returns-in-Ok-None-clause-none c =
    subst (λ (b : List ℕ). BeginsWithBadLine IsNoRequestLine b) c.behind_empty_line.ensures
    (inr (c.in-Ok.line.0.now, c.in-Ok.line.1.now, c.in-Ok.ensures.some, c.parse_request_line.ensures.none (c.in-Ok-None.is ∙ ap Ok c.in-Ok-None.field-0-is)))
