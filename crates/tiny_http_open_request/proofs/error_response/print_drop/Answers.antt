use Rattle.std.proofs.Common.{ap, refl, sym, ◌∙◌, arith, Some}
use Rattle.tiny_http_open_request.proofs.ErrorResponseLemmas.{own-whole, own-length, no-fault}
use Rattle.tiny_http_open_request.proofs.error_response.print_drop.Goals as goal

pub unreachable-requires : goal.unreachable-requires
unreachable-requires c =
    let context = c.args.context in
    let page = c.print.new.writer in
    no-fault _ _ c.in-Err.field-0 _ _ page.bytes.items c.empty-answer.ensures (ap Some c.requires.empty.0) refl refl page.full (own-whole 500 context.asked_coding context.version context.no_body context.persistence c.args.now)
    (own-length context.asked_coding context.version context.no_body context.persistence c.args.now c.requires.version.0 c.requires.version.1 (sym c.date_length-length.ensures.length ∙ c.date_length-length.ensures.value)) (c.in-Err.ensures.text (omega arith))
