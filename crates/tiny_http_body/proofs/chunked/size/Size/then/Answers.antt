use Rattle.std.proofs.Common.{arith}
use Rattle.tiny_http_body.proofs.ChunkSizeLemmas.{digit_fits}
use Rattle.tiny_http_body.proofs.chunked.size.Size.then.Goals as goal

pub overflow_mul-result : goal.overflow_mul-result
overflow_mul-result c =
    let r = rw c.in-Digits.is at c.requires in
    let k = digit_fits _ _ 0 r.0 c.if-count-lt16.true (omega arith) in omega (arith, k.1)

pub overflow_add-result : goal.overflow_add-result
overflow_add-result c =
    let r = rw c.in-Digits.is at c.requires in
    let k = digit_fits _ _ _ r.0 c.if-count-lt16.true c.in-Some-hex.ensures.digit in omega (arith, k.1)

pub returns-in-Some-clause-fits : goal.returns-in-Some-clause-fits
returns-in-Some-clause-fits c = (c.in-Some.ensures.digit, omega arith)

pub returns-then-count-lt16-clause-fits : goal.returns-then-count-lt16-clause-fits
returns-then-count-lt16-clause-fits c =
    let r = rw c.in-Digits.is at c.requires in
    ((digit_fits _ _ _ r.0 c.if-count-lt16.true c.in-Some-hex.ensures.digit).0, omega (arith, c.if-count-lt16.true))
