-- The bytes that a Read returns.
use Rattle.std.specs.Prelude.{◌≡◌, ◌⊎◌, ⊤, ℕ, [], take, drop, Option, Some, None}
use Rattle.tiny_http_io.specs.declared.device.Stop.TheVariants.{Fault as Faults}
use Rattle.tiny_http_io.specs.Device.{Feed, whole_feed}
use Rattle.tiny_http_body.specs.Body.{Remaining}
use Rattle.tiny_http_connection.specs.Steps.{ReplyValue, Given, Fault}

-- Whether a Read of n bytes may have this reply, where `left` and `next` are what is left of the body before and after
-- the Read. `Given`: the next n bytes, or all if fewer are left, and none only if n is 0 or only the end is left.
-- `Fault`: only the fault is left. Any other reply takes nothing.
abbrev pub ReadsNext : ℕ → Feed → ReplyValue → Feed → Type 0
ReadsNext n left (Given bytes) next =
    (bytes ≡ take n left.bytes)
    × (next ≡ record { bytes = drop n left.bytes; stop = left.stop })
    × (bytes ≡ [] → (n ≡ 0) ⊎ (left ≡ whole_feed []))
ReadsNext n left (Fault kind) next = (left ≡ record { bytes = []; stop = Faults kind }) × (next ≡ left)
ReadsNext n left _ next = next ≡ left

-- Whether a Read of n bytes takes the next bytes of the body, as `ReadsNext` defines, and leaves what follows the body
-- unchanged. It always holds if the reader doesn't state its bytes.
abbrev pub TakesNext : ℕ → Option Remaining → ReplyValue → Option Remaining → Type 0
TakesNext n None reply left = ⊤
TakesNext n (Some was) reply left =
    (next : Feed) × ReadsNext n was.body reply next × (left ≡ Some (record was { body = next }))
