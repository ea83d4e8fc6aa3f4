-- The parts of a reader and a writer with timeouts that contracts refer to.
use Rattle.std.specs.Prelude.{◌≡◌, ℕ, [], Some, None, false, Result, Ok, Err}
use Rattle.std.specs.IoError.{error_kind}
use Rattle.std.specs.declared.io.Error.{Error}
use Rattle.std.specs.declared.io.ErrorKind.{ErrorKind}
use Rattle.std.specs.declared.io.ErrorKind.TheVariants.{WouldBlock, TimedOut}
use Rattle.tiny_http_io.specs.Device.{Sink, next_count}
use Rattle.tiny_http_socket.specs.declared.timed_writer.TimedWriter.{TimedWriter}

-- the kind of a fault as it is reported under limits: `WouldBlock`, the socket's own timeout, becomes `TimedOut`; any
-- other kind is unchanged
abbrev pub kind_in_time : ErrorKind → ErrorKind
kind_in_time WouldBlock = TimedOut
kind_in_time kind = kind

-- whether a call reports the result of an inner call: its number of bytes, or its fault, with the kind that is reported
-- under limits
abbrev pub IsReportOf : Result ℕ Error → Result ℕ Error → Type 0
IsReportOf (Ok n) (Ok m) = m ≡ n
IsReportOf (Ok n) (Err e) = ⊥
IsReportOf (Err f) (Ok m) = ⊥
IsReportOf (Err f) (Err e) = error_kind e ≡ kind_in_time (error_kind f)

-- whether the result is an error of kind `TimedOut`
abbrev pub IsLate : Result ℕ Error → Type 0
IsLate (Ok n) = ⊥
IsLate (Err e) = error_kind e ≡ TimedOut

-- the sink of a `TimedWriter`: its failures and the kind of the last one, and no bytes
abbrev pub timed_sink : {Rt : Type 0} → TimedWriter Rt → Sink
timed_sink w = record { taken = None; sent = []; failures = w.failures; last_kind = w.last; has_ended = false }

-- the sink of a `TimedWriter` after one more failure, of this kind
abbrev pub failed_sink : {Rt : Type 0} → TimedWriter Rt → ErrorKind → Sink
failed_sink w kind =
    record { taken = None; sent = []; failures = next_count w.failures; last_kind = Some kind; has_ended = false }
