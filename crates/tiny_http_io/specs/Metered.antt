-- The parts of a `Metered` that contracts refer to.
use Rattle.std.specs.Prelude.{[], None, false}
use Rattle.tiny_http_io.specs.Device.{Sink}
use Rattle.tiny_http_io.specs.declared.device.Metered.{Metered}

-- the inner stream of a `Metered`
abbrev pub metered_inner : {S : Type 0} → Metered S → S
metered_inner m = m.inner

-- the sink that a `Metered` states: its failures, but no bytes
abbrev pub metered_sink : {S : Type 0} → Metered S → Sink
metered_sink m = record { taken = None; sent = []; failures = m.failures; last_kind = m.last; has_ended = false }
