use Rattle.std.proofs.Common.{rules}
use Rattle.std.proofs.lemmas.Result.{err_from_is_err_and}
use Rattle.tiny_http_client.proofs.PartsLemmas.{field-line-read, no-field-line, some-field-line}
use Rattle.tiny_http_client.proofs.head.read_field_line.Goals as goal

pub returns-in-Some-2 : goal.returns-in-Some-2
returns-in-Some-2 c = (c.in-Some.text.now, c.in-Some.ensures.some, (search rules), field-line-read c.in-Some.text.now c.in-Some-2.header (search rules))

pub returns-in-None : goal.returns-in-None
returns-in-None c = (c.in-Some.text.now, c.take_line.new.self, c.in-Some.ensures.some, λ a. no-field-line c.in-Some.text.now (search rules) (search rules))

pub returns-in_err-header : goal.returns-in_err-header
returns-in_err-header c =
    let p = err_from_is_err_and c.from_residual.result c.from_residual.ensures.1 in
    rw (p.1, p.2) (c.in-Some.text.now, c.take_line.new.self, c.in-Some.ensures.some, (search rules), some-field-line c.in-Some.text.now c.in_err-header.ensures.judged)
