use Rattle.tiny_http_response.proofs.ResponseHeadersLemmas.{IsResponseHeaders-none, IsResponseHeaders-add, IsResponseHeaders-added}
use Rattle.tiny_http_response.proofs.laws.response_headers.Goals as goal

pub returns : goal.returns
returns c = record { none = IsResponseHeaders-none; one_more = IsResponseHeaders-add; more = IsResponseHeaders-added }
