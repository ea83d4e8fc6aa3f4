use Rattle.std.proofs.Common.{rules, ◌≡◌, ap, ◌∙◌, ℕ, [], ◌∷◌, Some}
use Rattle.std.specs.Global.{Vec}
use Rattle.std.specs.declared.io.Cursor.{Cursor}
use Rattle.tiny_http_io.specs.Cursor.{cursor_bytes}
use Rattle.tiny_http_io.specs.Device.{whole_feed}
use Rattle.tiny_http_response.specs.Answer.{Answer, ResponseState, answer_with, text_plain}
use Rattle.tiny_http_open_request.specs.ErrorResponse.{too_new_text}
use Rattle.tiny_http_open_request.proofs.ErrorResponseLemmas.{too-new-printed}
use Rattle.tiny_http_open_request.proofs.error_response.too_new_answer.Goals as goal

pub returns : goal.returns
returns c =
    let made = c.in_ok-from_string in
    let coded = c.with_status_code-answer in
    let status : Answer → Answer = λ a. record a { status = 505 } in
    let first : made.field-0.answer ≡ answer_with 200 (text_plain ∷ []) 51 = search (rules, made.ensures.answer, c.in_ok-text.ensures) in
    let answer : coded.result.answer ≡ answer_with 505 (text_plain ∷ []) 51 = ap (λ (x : ResponseState (Cursor (Vec ℕ))). x.answer) coded.ensures ∙ ap status first in
    let read : cursor_bytes made.field-0.data_reader ≡ too_new_text = search (rules, made.ensures.bytes, c.in_ok-text.ensures) in
    let bytes : cursor_bytes coded.result.data_reader ≡ too_new_text = ap (λ (x : ResponseState (Cursor (Vec ℕ))). cursor_bytes x.data_reader) coded.ensures ∙ read in
    too-new-printed c.refused_text.result (λ (v : Vec ℕ). v.items) coded.result.answer _ c.args.no_body c.args.now answer (ap (λ y. Some (whole_feed y)) bytes) c.refused_text.ensures
