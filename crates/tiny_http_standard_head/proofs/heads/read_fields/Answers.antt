use Rattle.std.proofs.Common.{rules, ◌≡◌, true, inr, ap, ◌∙◌, Ok, [], ◌∷◌, ◌++◌, arith}
use Rattle.std.specs.Result.{is_ok}
use Rattle.tiny_http_standard_head.specs.Lines.{ReadsFieldLine}
use Rattle.tiny_http_standard_head.proofs.HeadsLemmas.{more-fields, one-more, is-field-line, first-field}
use Rattle.tiny_http_standard_head.proofs.heads.read_fields.Goals as goal

pub returns-in-Ok-None-clause-none : goal.returns-in-Ok-None-clause-none
returns-in-Ok-None-clause-none c =
    (c.loop-line.headers.items, c.loop-line.rest.now, c.loop-line.invariant.lines, c.loop-line.invariant.few, inr (c.in-Ok.line.0.now, c.in-Ok.line.1.now, c.in-Ok.ensures.some, ((search rules), c.parse_field_line.ensures.none (c.in-Ok-None.is ∙ ap Ok c.in-Ok-None.field-0-is))))

pub loop-line-preserved : goal.loop-line-preserved
loop-line-preserved c =
    let ok : is_ok c.push.result ≡ true = search rules in
    let hs = c.loop-line.headers.items in
    let header = c.in-Ok-Some.header in
    rw (c.push.ensures.items, ok)
    (record {
      lines = more-fields c.args.bytes.now hs header c.loop-line.rest.now c.in-Ok.line.0.now c.in-Ok.line.1.now c.loop-line.invariant.lines c.in-Ok.ensures.some (search rules);
      few = omega (arith, one-more hs header, c.if-len-ge-MOST_HEADERS.false, c.len.ensures);
    })

pub returns-then-len-ge-MOST_HEADERS-clause-none : goal.returns-then-len-ge-MOST_HEADERS-clause-none
returns-then-len-ge-MOST_HEADERS-clause-none c =
    let hs = c.loop-line.headers.items in
    let header = c.in-Ok-Some.header in
    let line = c.in-Ok.line in (
      hs ++ header ∷ [],
      line.1.now,
      more-fields c.args.bytes.now hs header c.loop-line.rest.now line.0.now line.1.now c.loop-line.invariant.lines c.in-Ok.ensures.some (search rules),
      omega (arith, one-more hs header, c.if-len-ge-MOST_HEADERS.true, c.len.ensures, c.loop-line.invariant.few),
    )

pub returns-in-Err-clause-none : goal.returns-in-Err-clause-none
returns-in-Err-clause-none c =
    let line = c.in-Ok.line in
    first-field c.args.bytes.now c.loop-line.rest.now c.loop-line.headers.items c.loop-line.invariant.lines (line.0.now, line.1.now, c.in-Ok.ensures.some, c.in-Err.ensures.validated)

pub returns-then-is_err-clause-none : goal.returns-then-is_err-clause-none
returns-then-is_err-clause-none c =
    let line = c.in-Ok.line in
    let reads : ReadsFieldLine line.0.now c.in-Ok-Some.header = search rules in
    first-field c.args.bytes.now c.loop-line.rest.now c.loop-line.headers.items c.loop-line.invariant.lines (line.0.now, line.1.now, c.in-Ok.ensures.some, is-field-line line.0.now c.in-Ok-Some.header reads)
