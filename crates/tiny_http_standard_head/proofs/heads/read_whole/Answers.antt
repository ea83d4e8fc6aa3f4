use Rattle.std.proofs.Common.{◌≤◌, List, length, subst, Result, arith}
use Rattle.tiny_http_head.specs.declared.common.Header.{Header}
use Rattle.tiny_http_standard_head.specs.declared.validation.HeadSummary.{HeadSummary}
use Rattle.tiny_http_standard_head.specs.declared.validation.HeadError.{HeadError}
use Rattle.tiny_http_standard_head.specs.Validation.{Validates}
use Rattle.tiny_http_standard_head.proofs.HeadsLemmas.{head-shorter, whole-head, fields-stop}
use Rattle.tiny_http_standard_head.proofs.heads.read_whole.Goals as goal

pub returns-in-Err-read_fields-clause-none : goal.returns-in-Err-read_fields-clause-none
returns-in-Err-read_fields-clause-none c =
    let r = c.in-Ok.request in
    fields-stop c.args.bytes.now r.0 r.1 r.2 r.3.now c.in-Err-read_fields.stop c.in-Ok.ensures.some c.in-Err-read_fields.ensures.none

pub overflow_sub-result : goal.overflow_sub-result
overflow_sub-result c =
    let r = c.in-Ok.request in
    let f = c.in-Ok-read_fields.fields in
    head-shorter c.args.bytes.now r.0 r.1 r.2 r.3.now f.0.items f.1.now c.in-Ok.ensures.some c.in-Ok-read_fields.ensures.some

pub returns-in-Ok-validate-clause-some : goal.returns-in-Ok-validate-clause-some
returns-in-Ok-validate-clause-some c =
    let r = c.in-Ok.request in
    let f = c.in-Ok-read_fields.fields in
    let short : length f.1.now ≤ length c.args.bytes.now = head-shorter c.args.bytes.now r.0 r.1 r.2 r.3.now f.0.items f.1.now c.in-Ok.ensures.some c.in-Ok-read_fields.ensures.some in
    let validated = subst (λ (hs : List Header). Validates r.2 r.0 hs c.validate.result) c.as_slice.ensures.value c.validate.ensures in (
      f.1.now,
      whole-head c.args.bytes.now r.0 r.1 r.2 r.3.now f.0.items f.1.now c.in-Ok.ensures.some c.in-Ok-read_fields.ensures.some,
      omega (arith, short),
      subst (λ (j : Result HeadSummary HeadError). Validates r.2 r.0 f.0.items j) c.in-Ok-validate.is validated,
    )

pub returns-in-Err-validate-clause-some : goal.returns-in-Err-validate-clause-some
returns-in-Err-validate-clause-some c =
    let r = c.in-Ok.request in
    let f = c.in-Ok-read_fields.fields in
    let validated = subst (λ (hs : List Header). Validates r.2 r.0 hs c.validate.result) c.as_slice.ensures.value c.validate.ensures in (
      record { method = r.0; path = r.1; version = r.2; headers = f.0.items },
      f.1.now,
      whole-head c.args.bytes.now r.0 r.1 r.2 r.3.now f.0.items f.1.now c.in-Ok.ensures.some c.in-Ok-read_fields.ensures.some,
      subst (λ (j : Result HeadSummary HeadError). Validates r.2 r.0 f.0.items j) c.in-Err-validate.is validated,
    )
