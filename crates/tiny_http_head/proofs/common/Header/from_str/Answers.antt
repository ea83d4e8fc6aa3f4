use Rattle.std.proofs.Common.{rules, refl}
use Rattle.tiny_http_head.proofs.HeadsLemmas.{header-read, header-refused, header-not-refused, memory-refused, ok-refused}
use Rattle.tiny_http_head.proofs.common.Header.from_str.Goals as goal

pub returns-in_err-header-clause-refused : goal.returns-in_err-header-clause-refused
returns-in_err-header-clause-refused c =
    (λ e. absurd (memory-refused c.from_residual.result c.from_residual.ensures.1 e), λ none. absurd (header-not-refused c.args.text.now (search rules) (search rules) none))

pub returns-in-Some-clause-ok : goal.returns-in-Some-clause-ok
returns-in-Some-clause-ok c = header-read c.args.text.now c.in_ok-header.field-0 c.in-Some.header (search rules) (search rules) c.in-Some.is

pub returns-in-Some-clause-refused : goal.returns-in-Some-clause-refused
returns-in-Some-clause-refused c =
    (λ e. absurd (ok-refused c.in-Some.header e), λ none. absurd (none c.in-Some.header (header-read c.args.text.now c.in_ok-header.field-0 c.in-Some.header (search rules) (search rules) c.in-Some.is)))

pub returns-in-None-clause-refused : goal.returns-in-None-clause-refused
returns-in-None-clause-refused c = (λ e. header-refused c.args.text.now c.in_ok-header.field-0 (search rules) (search rules), λ none. refl)
