use Rattle.std.proofs.Common.{ap, ◌∙◌}
use Rattle.std.specs.Prelude.{option_and_then}
use Rattle.tiny_http_head.specs.Heads.{length_of}
use Rattle.tiny_http_client.specs.ClientAnswer.{content_length}
use Rattle.tiny_http_client.proofs.body.content_length.Goals as goal

pub returns-in_err-first_value : goal.returns-in_err-first_value
unfolding content_length
returns-in_err-first_value c = c.from_residual.ensures ∙ ap (option_and_then length_of) c.in_err-first_value.ensures

pub returns : goal.returns
unfolding content_length
returns c = c.number_in.ensures ∙ ap length_of c.as_bytes.ensures.value ∙ ap length_of c.as_str.ensures.value ∙ ap (option_and_then length_of) c.in_ok-first_value.ensures
