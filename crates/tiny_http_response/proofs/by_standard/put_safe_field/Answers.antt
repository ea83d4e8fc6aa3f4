use Rattle.std.proofs.Common.{sym, ◌∙◌}
use Rattle.tiny_http_response.proofs.ByStandardLemmas.{safe_same}
use Rattle.tiny_http_response.proofs.by_standard.put_safe_field.Goals as goal

pub returns-then-is_header_value : goal.returns-then-is_header_value
returns-then-is_header_value g c = rw (safe_same c.args.value.now (sym c.is_header_value.ensures ∙ c.if-is_header_value.true)) c.put_field.ensures
