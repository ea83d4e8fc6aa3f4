use Rattle.std.proofs.Common.{rules, refl, subst, List, Result}
use Rattle.tiny_http_head.specs.declared.common.Header.{Header}
use Rattle.tiny_http_io.proofs.SourceGoesOn.{goes-on_more}
use Rattle.tiny_http_standard_head.specs.declared.validation.HeadSummary.{HeadSummary}
use Rattle.tiny_http_standard_head.specs.declared.validation.HeadError.{HeadError}
use Rattle.tiny_http_standard_head.specs.Validation.{Validates}
use Rattle.tiny_http_standard_head.proofs.SourceJoining.{fields-err-read, start-lacks, reads-whole_head, reads-refused_head}
use Rattle.tiny_http_standard_head.proofs.source_heads.read_head_from.Goals as goal

pub returns-in-Err-read_fields-clause-goes_on : goal.returns-in-Err-read_fields-clause-goes_on
returns-in-Err-read_fields-clause-goes_on g c = goes-on_more _ _ _ c.read_start.ensures.goes_on c.read_fields.ensures.goes_on

pub returns-in-Ok-validate-clause-goes_on : goal.returns-in-Ok-validate-clause-goes_on
returns-in-Ok-validate-clause-goes_on g c = goes-on_more _ _ _ c.read_start.ensures.goes_on c.read_fields.ensures.goes_on

pub returns-in-Err-validate-clause-goes_on : goal.returns-in-Err-validate-clause-goes_on
returns-in-Err-validate-clause-goes_on g c = goes-on_more _ _ _ c.read_start.ensures.goes_on c.read_fields.ensures.goes_on

pub returns-in-Ok-validate-clause-reads : goal.returns-in-Ok-validate-clause-reads
returns-in-Ok-validate-clause-reads g c =
    let start = c.in-Ok.start in
    let headers = c.in-Ok-read_fields.headers in
    let validated = subst (λ (j : Result HeadSummary HeadError). Validates start.2 start.0 headers.items j) c.in-Ok-validate.is (subst (λ (hs : List Header). Validates start.2 start.0 hs c.validate.result) c.as_slice.ensures.value c.validate.ensures) in
    reads-whole_head c.args.limit c.read_start.new.left c.read_fields.new.left c.args.source.now.feed c.read_start.new.source.feed c.read_fields.new.source.feed start headers _ (search rules)
    (goes-on_more _ _ _ c.read_start.ensures.goes_on c.read_fields.ensures.goes_on) c.in-Ok.ensures.reads c.in-Ok-read_fields.ensures.reads refl refl validated

pub returns-in-Err-validate-clause-reads : goal.returns-in-Err-validate-clause-reads
returns-in-Err-validate-clause-reads g c =
    let start = c.in-Ok.start in
    let headers = c.in-Ok-read_fields.headers in
    let validated = subst (λ (j : Result HeadSummary HeadError). Validates start.2 start.0 headers.items j) c.in-Err-validate.is (subst (λ (hs : List Header). Validates start.2 start.0 hs c.validate.result) c.as_slice.ensures.value c.validate.ensures) in
    reads-refused_head c.args.limit c.read_start.new.left c.read_fields.new.left c.args.source.now.feed c.read_start.new.source.feed c.read_fields.new.source.feed start headers c.in-Err-validate.refusal c.in-Ok.ensures.reads
    c.in-Ok-read_fields.ensures.reads validated

pub returns-in-Err-read_fields-clause-reads : goal.returns-in-Err-read_fields-clause-reads
returns-in-Err-read_fields-clause-reads g c =
    fields-err-read c.args.limit c.read_start.new.left c.read_fields.new.left c.args.source.now.feed c.read_start.new.source.feed c.read_fields.new.source.feed c.in-Ok.start c.in-Err-read_fields.why c.without_head-in-Err-read_fields.result
    c.in-Ok.ensures.reads c.in-Err-read_fields.ensures.reads c.without_head-in-Err-read_fields.ensures

pub returns-in-Err-read_fields-clause-memory : goal.returns-in-Err-read_fields-clause-memory
returns-in-Err-read_fields-clause-memory g c =
    start-lacks c.args.limit c.read_start.new.left c.args.source.now.feed c.read_start.new.source.feed c.read_fields.new.source.feed c.read_fields.new.source.held c.in-Ok.start c.without_head-in-Err-read_fields.result c.in-Ok.ensures.reads
