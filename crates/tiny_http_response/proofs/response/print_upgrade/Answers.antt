use Rattle.std.proofs.Common.{◌≡◌, Some, true, sym, ap, ◌∙◌}
use Rattle.std.specs.List.{list_all}
use Rattle.tiny_http_text.specs.Bytes.{is_ascii}
use Rattle.tiny_http_response.specs.ResponseHead.{response_head_text}
use Rattle.tiny_http_response.specs.declared.coding.FramingHeader.TheVariants.{Neither}
use Rattle.tiny_http_body.proofs.DeviceCopies.{Prints-from_puts}
use Rattle.tiny_http_response.proofs.AnswerLemmas.{response_head-alone}
use Rattle.tiny_http_response.proofs.response.print_upgrade.Goals as goal

pub returns : goal.returns
returns g c =
    let head = c.args.head.now in
    let ascii : list_all is_ascii c.args.protocol.now ≡ true = ap (λ text. list_all is_ascii text) (sym c.as_bytes.ensures.value) ∙ sym c.are_ascii.ensures ∙ c.if-not-are_ascii.false in
    rw ascii (Prints-from_puts _ _ _ (response_head_text head (Some c.args.protocol.now) Neither) c.put_head.ensures, λ none. absurd (response_head-alone head (Some c.args.protocol.now) Neither none))
