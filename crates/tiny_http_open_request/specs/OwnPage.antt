-- The parts of an `OwnPage`, a writer into its own memory, that contracts refer to.
use Rattle.std.specs.Prelude.{Some, None, false}
use Rattle.tiny_http_io.specs.Device.{Sink}
use Rattle.tiny_http_open_request.specs.declared.error_response.OwnPage.{OwnPage}

-- the sink of an `OwnPage`: all bytes that the page took count as sent on, and the page never ends
abbrev pub page_sink : OwnPage → Sink
page_sink p =
    record
    { taken = Some p.bytes.items; sent = p.bytes.items; failures = p.failures; last_kind = None; has_ended = false }
