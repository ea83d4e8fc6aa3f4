use Rattle.std.proofs.Common.{rules}
use Rattle.tiny_http_text.specs.Bytes.{colon}
use Rattle.tiny_http_text.proofs.BytesTrimming.{ascii-cut, ascii-trimmed}
use Rattle.tiny_http_head.proofs.HeadReadingLemmas.{no-colon, header-there, blank-field, header-made}
use Rattle.tiny_http_head.proofs.common.parse_header_line.Goals as goal

pub returns-in_default-clause-value : goal.returns-in_default-clause-value
returns-in_default-clause-value c = no-colon c.args.text.now c.in_default.ensures.none

pub returns-then-not-has_no_blank-clause-value : goal.returns-then-not-has_no_blank-clause-value
returns-then-not-has_no_blank-clause-value c =
    blank-field c.args.text.now c.in-Some.field.now c.in-Some.padded.now c.in-Some.ensures.some.0 c.in-Some.ensures.some.1 (search rules)

pub owned-requires-2 : goal.owned-requires-2
owned-requires-2 c = ascii-trimmed c.in-Some.padded.now c.trim.result.now c.trim.ensures (ascii-cut colon c.args.text.now c.in-Some.field.now c.in-Some.padded.now c.in-Some.ensures.some.0 c.requires).1

pub returns-clause-value : goal.returns-clause-value
returns-clause-value c =
    header-made c.args.text.now c.in-Some.field.now c.in-Some.padded.now c.from_text-field.result c.in_ok-value.value c.in-Some.ensures.some.0 c.in-Some.ensures.some.1 (search rules) (search rules) (search rules)

pub returns-in_err-owned-clause-judged : goal.returns-in_err-owned-clause-judged
returns-in_err-owned-clause-judged c =
    let cut = c.in-Some.ensures.some in
    header-there c.from_residual.result c.args.text.now c.in-Some.field.now c.in-Some.padded.now cut.0 cut.1 (search rules)

pub returns-in_err-value-clause-judged : goal.returns-in_err-value-clause-judged
returns-in_err-value-clause-judged c =
    let cut = c.in-Some.ensures.some in
    header-there c.from_residual-in_err-value.result c.args.text.now c.in-Some.field.now c.in-Some.padded.now cut.0 cut.1 (search rules)
