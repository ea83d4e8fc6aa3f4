-- The feeds of the data of a script's responses.
use Rattle.std.specs.Prelude.{ℕ, replicate}
use Rattle.tiny_http_wire.specs.Device.{Feed}
use Rattle.tiny_http_wire.specs.declared.device.Stop.{Stop}
use Rattle.replay_script.specs.declared.script_data.ScriptData.{ScriptData}
use Rattle.replay_script.specs.declared.script_data.ScriptData.TheVariants.{Given, Xs}

-- the feed of `count` bytes `x` (the code 120), with this stop
abbrev pub xs : ℕ → Stop → Feed
xs count stop = record { bytes = replicate count 120; stop = stop }

-- the bytes that data still give, and how they stop
abbrev pub data_feed : ScriptData → Feed
data_feed (Given given) = given.canned
data_feed (Xs letters) = xs letters.left letters.stop
