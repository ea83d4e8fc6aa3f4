use Rattle.std.proofs.Common.{rules}
use Rattle.std.proofs.lemmas.Result.{err_from_is_err_and}
use Rattle.tiny_http_client.proofs.HeadLemmas.{field-line-no_colon, field-line-blank, field-line-valueless, field-line-made, field-line-good}
use Rattle.tiny_http_client.proofs.head.parse_field_line.Goals as goal

pub returns-in_default-clause-value : goal.returns-in_default-clause-value
returns-in_default-clause-value c = field-line-no_colon c.args.text.now c.in_default.ensures.none

pub returns-then-not-has_no_blank-clause-value : goal.returns-then-not-has_no_blank-clause-value
returns-then-not-has_no_blank-clause-value c =
    let cut = c.in-Some.ensures.some in
    field-line-blank c.args.text.now c.in-Some.field.now c.in-Some.after.now cut.0 cut.1 (search rules)

pub returns-in_default-after_one_space-clause-value : goal.returns-in_default-after_one_space-clause-value
returns-in_default-after_one_space-clause-value c =
    let cut = c.in-Some.ensures.some in
    field-line-valueless c.args.text.now c.in-Some.field.now c.in-Some.after.now cut.0 cut.1 (search rules) c.in_default-after_one_space.ensures.none

pub returns-clause-value : goal.returns-clause-value
returns-clause-value c =
    let cut = c.in-Some.ensures.some in
    field-line-made c.args.text.now c.in-Some.field.now c.in-Some.after.now c.in-Some-after_one_space.value.now c.from_text-field.result c.in_ok-value.value cut.0 cut.1 (search rules) c.in-Some-after_one_space.ensures.some (search rules) (search rules)

pub returns-in_err-owned-clause-judged : goal.returns-in_err-owned-clause-judged
returns-in_err-owned-clause-judged c =
    let cut = c.in-Some.ensures.some in
    let p = err_from_is_err_and c.from_residual.result c.from_residual.ensures.1 in
    rw p.1 (field-line-good c.args.text.now c.in-Some.field.now c.in-Some.after.now c.in-Some-after_one_space.value.now cut.0 cut.1 (search rules) c.in-Some-after_one_space.ensures.some)

pub returns-in_err-value-clause-judged : goal.returns-in_err-value-clause-judged
returns-in_err-value-clause-judged c =
    let cut = c.in-Some.ensures.some in
    let p = err_from_is_err_and c.from_residual-in_err-value.result c.from_residual-in_err-value.ensures.1 in
    rw p.1 (field-line-good c.args.text.now c.in-Some.field.now c.in-Some.after.now c.in-Some-after_one_space.value.now cut.0 cut.1 (search rules) c.in-Some-after_one_space.ensures.some)
