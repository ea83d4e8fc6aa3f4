-- The parts of a `SequentialWriter` that contracts refer to.
use Rattle.std.specs.Prelude.{[], None, false}
use Rattle.tiny_http_io.specs.Device.{Sink}
use Rattle.tiny_http_threads.specs.declared.sequential.SequentialWriter.{SequentialWriter}

-- the sink of a `SequentialWriter`: its failures, and no bytes
abbrev pub writer_sink : {W : Type 0} → {R : Type 0} → SequentialWriter W R → Sink
writer_sink w = record { taken = None; sent = []; failures = w.failures; last_kind = None; has_ended = false }
