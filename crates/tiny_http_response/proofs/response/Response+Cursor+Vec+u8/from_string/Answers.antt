use Rattle.std.proofs.Common.{ap, ◌∙◌}
use Rattle.std.specs.Result.{is_ok}
use Rattle.tiny_http_response.specs.Answer.{Answer}
use Rattle.tiny_http_response.proofs.ResponseHeadersLemmas.{IsResponseHeaders-text_plain}
use Rattle.tiny_http_response.proofs.response.Response+Cursor+Vec+u8.from_string.Goals as goal

pub invariant_of-response : goal.invariant_of-response
invariant_of-response c =
    let empty = ap (λ r. r.answer.headers) c.response.view_is ∙ ap (λ (a : Answer). a.headers) c.from_data-response.ensures.answer in
    IsResponseHeaders-text_plain (is_ok c.push.result) c.push.new.self.items c.response.inside.headers.items c.in_ok-text_plain.field-0 c.push.ensures.items empty c.in_ok-text_plain.ensures
