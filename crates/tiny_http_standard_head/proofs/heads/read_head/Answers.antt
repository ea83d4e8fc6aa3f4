use Rattle.std.proofs.Common.{take, subst}
use Rattle.tiny_http_standard_head.specs.declared.heads.NoHead.{NoHead}
use Rattle.tiny_http_standard_head.specs.Heads.{HasOpenField}
use Rattle.tiny_http_standard_head.specs.HeadParts.{StopsHead}
use Rattle.tiny_http_standard_head.proofs.HeadsLemmas.{open-field, seen-is}
use Rattle.tiny_http_standard_head.proofs.heads.read_head.Goals as goal

pub returns-in-Err-OpenField-clause-reads : goal.returns-in-Err-OpenField-clause-reads
returns-in-Err-OpenField-clause-reads c =
    let bytes = c.args.bytes.now in
    let stops = subst (λ (why : NoHead). StopsHead (take c.min.result bytes) why) c.in-Err-OpenField.field-0-is c.in-Err-OpenField.ensures.none in
    open-field c.args.limit bytes c.not_ended-in-Err-OpenField.result (subst HasOpenField (seen-is c.args.limit bytes c.min.result c.min.ensures) stops) c.not_ended-in-Err-OpenField.ensures.full c.not_ended-in-Err-OpenField.ensures.open
