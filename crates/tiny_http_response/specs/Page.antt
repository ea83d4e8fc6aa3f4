-- The sink of a `Page`.
use Rattle.std.specs.Prelude.{Some, None, false, take}
use Rattle.tiny_http_io.specs.Device.{Sink}
use Rattle.tiny_http_response.specs.declared.page.Page.{Page}

-- the sink of a page: its bytes are taken and sent on at once, and the page never ends
abbrev pub page_sink : Page → Sink
page_sink p =
    record {
      taken = Some (take p.len p.bytes);
      sent = take p.len p.bytes;
      failures = p.failures;
      last_kind = None;
      has_ended = false;
    }
