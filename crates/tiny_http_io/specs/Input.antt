-- The parts of an `Input` that contracts refer to.
use Rattle.std.specs.Prelude.{◌≡◌, ◌&&◌, ◌==◌, ◌+◌, ℕ, Bool, is_some, List, length, drop, [], Option, IsSome}
use Rattle.tiny_http_io.specs.Device.{Feed}
use Rattle.tiny_http_io.specs.declared.device.Stop.{Stop}
use Rattle.tiny_http_io.specs.ToCome.{behind_held, to_come, stops_to_come}
use Rattle.tiny_http_io.specs.declared.input.Input.{Input}

-- the feed still to come, if the reader states its own
abbrev pub input_feed : {R : Type 0} → (R → Option Feed) → Input R → Option Feed
input_feed feed s = to_come s.skip s.held (behind_held s.stop (feed s.inner))

-- how the input stopped, if it has
abbrev pub input_stop : {R : Type 0} → Input R → Option Stop
input_stop s = s.stop

-- the inner reader of an `Input`
abbrev pub input_reader : {R : Type 0} → Input R → R
input_reader s = s.inner

-- the number of ends and faults that the reader has reported, plus 1 for the one that it may still report if the input
-- hasn't stopped
abbrev pub input_stop_count : {R : Type 0} → (R → ℕ) → Input R → ℕ
input_stop_count stop_count s = stop_count s.inner + stops_to_come s.stop

-- the buffered bytes
abbrev pub input_held : {R : Type 0} → Input R → List ℕ
input_held s = s.held

-- the number of bytes to be skipped
abbrev pub input_skip : {R : Type 0} → Input R → ℕ
input_skip s = s.skip

-- whether the bytes to be skipped were discarded, and nothing else has changed
abbrev pub SkipsHeld : {R : Type 0} → Input R → Input R → Type 0
SkipsHeld old new = new ≡ record old { held = drop old.skip old.held; skip = 0 }

-- whether the input has stopped, and no byte of it is left
abbrev pub IsInputOver : {R : Type 0} → Input R → Type 0
IsInputOver s = IsSome s.stop × (s.held ≡ []) × (s.skip ≡ 0)

abbrev pub is_input_over : {R : Type 0} → Input R → Bool
is_input_over s = is_some s.stop && ((length s.held == 0) && (s.skip == 0))
