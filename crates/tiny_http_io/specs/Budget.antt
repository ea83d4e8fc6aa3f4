-- The parts of a `Budget` that contracts refer to.
use Rattle.std.specs.Prelude.{ℕ, List, Some, false}
use Rattle.std.specs.declared.io.ErrorKind.{ErrorKind}
use Rattle.tiny_http_io.specs.Device.{Sink}
use Rattle.tiny_http_io.specs.declared.device.Budget.{Budget}

-- the bytes that a `Budget` took
abbrev pub budget_bytes : Budget → List ℕ
budget_bytes b = b.bytes.items

-- the number of bytes that a `Budget` still takes
abbrev pub budget_room : Budget → ℕ
budget_room b = b.room

-- the kind of the fault that a `Budget` reports once it has no room
abbrev pub budget_kind : Budget → ErrorKind
budget_kind b = b.kind

-- the sink that a `Budget` states
abbrev pub budget_sink : Budget → Sink
budget_sink b =
    record
    { taken = Some b.bytes.items; sent = b.bytes.items; failures = b.failures; last_kind = b.last; has_ended = false }
