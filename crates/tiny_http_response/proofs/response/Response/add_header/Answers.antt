use Rattle.tiny_http_response.proofs.ResponseHeadersLemmas.{IsResponseHeaders-tried}
use Rattle.tiny_http_response.proofs.response.Response.add_header.Goals as goal

pub invariant_of-self : goal.invariant_of-self
invariant_of-self g c = IsResponseHeaders-tried _ _ _ _ _ _ c.add.ensures.added c.add.ensures.refused c.self.invariant
