-- Whether a head asks for an upgrade of its connection.
use Rattle.std.specs.Prelude.{Bool, true, false, not, ◌&&◌, if◌then◌else◌}
use Rattle.tiny_http_open_request.specs.declared.exchange.Head.{Head}
use Rattle.tiny_http_body.specs.declared.framing.Form.{Form}
use Rattle.tiny_http_body.specs.declared.framing.Form.TheVariants.{Rest, Nothing, WithHead, Counted, Chunked}

-- whether a body of this form is the whole rest of the stream
abbrev pub is_rest : Form → Bool
is_rest Rest = true
is_rest Nothing = false
is_rest WithHead = false
is_rest Counted = false
is_rest Chunked = false

-- Whether a head asks for an upgrade that its profile accepts: under `Standard` if it asks as RFC 9110, section 7.8,
-- requires, and the connection doesn't end after the request; under another profile if the first `Connection` value
-- contains `upgrade`, so that the body is the whole rest of the stream.
abbrev pub is_upgrade : Head → Bool
is_upgrade h =
    if h.framing.by_standard then h.framing.asks_upgrade && not h.framing.is_last else is_rest h.framing.form
