-- The parts of the halves of a corked connection that contracts refer to.
use Rattle.std.specs.Prelude.{◌≡◌, ℕ, [], Option, Some, None, false, Result, Ok, Err}
use Rattle.std.specs.IoError.{error_kind}
use Rattle.std.specs.declared.io.Error.{Error}
use Rattle.tiny_http_io.specs.Device.{Feed, Sink, next_count}
use Rattle.tiny_http_socket.specs.ReadAhead.{ahead_feed}
use Rattle.tiny_http_socket.specs.declared.cork.FlushingReader.{FlushingReader}
use Rattle.tiny_http_socket.specs.declared.cork.CorkedWriter.{CorkedWriter}

-- the feed of the read half: the bytes read ahead, followed by the feed of the inner reader
abbrev pub reader_feed : {R W : Type 0} → FlushingReader R W → Option Feed
reader_feed r = ahead_feed r.ahead

-- the number of ends and faults that the inner reader of the read half has reported
abbrev pub reader_stop_count : {R W : Type 0} → (R → ℕ) → FlushingReader R W → ℕ
reader_stop_count stop_count r = stop_count r.ahead.reader

-- the sink of the write half: its failures, and no bytes
abbrev pub writer_sink : {W Rt : Type 0} → CorkedWriter W Rt → Sink
writer_sink w = record { taken = None; sent = []; failures = w.failures; last_kind = w.last; has_ended = false }

-- the sink of a writer that states no bytes, such as a `CorkedWriter`, before its first failure
abbrev pub fresh_sink : Sink
fresh_sink = record { taken = None; sent = []; failures = 0; last_kind = None; has_ended = false }

-- whether the write half counted the fault of a call, or is unchanged if the call succeeded
abbrev pub CountsOutcome : {W Rt T : Type 0} → CorkedWriter W Rt → CorkedWriter W Rt → Result T Error → Type 0
CountsOutcome old new (Ok x) = new ≡ old
CountsOutcome old new (Err e) = new ≡ record old { failures = next_count old.failures; last = Some (error_kind e) }
