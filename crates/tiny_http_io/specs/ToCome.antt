-- The bytes still to come from an input, of which some may be buffered and some may have to be skipped.
use Rattle.std.specs.Prelude.{◌≡◌, ℕ, nat_le, if◌then◌else◌, List, [], length, drop, Option, None, Some, ⊤}
use Rattle.std.specs.Option.{option_map}
use Rattle.tiny_http_io.specs.Device.{Feed, prepended}
use Rattle.tiny_http_io.specs.declared.device.Stop.{Stop}
use Rattle.tiny_http_io.specs.declared.device.Stop.TheVariants.{End}

-- a feed with no byte left, which stops in this way
abbrev pub stopped : Stop → Feed
stopped stop = record { bytes = []; stop = stop }

-- the feed after the buffered bytes: the reader's, or, once the input has stopped, an empty one with that stop
abbrev pub behind_held : Option Stop → Option Feed → Option Feed
behind_held None feed = feed
behind_held (Some stop) feed = option_map (λ _. stopped stop) feed

-- the number of ends and faults that the reader may still report: one until the input has stopped, then none
abbrev pub stops_to_come : Option Stop → ℕ
stops_to_come None = 1
stops_to_come (Some stop) = 0

-- the feed without its first n bytes; if it has fewer than n, an empty feed that ends
abbrev pub skipped : ℕ → Feed → Feed
skipped n feed =
    if nat_le n (length feed.bytes) then record { bytes = drop n feed.bytes; stop = feed.stop } else stopped End

-- the feed still to come: the buffered bytes `held` followed by the feed `feed`, without the first n of these bytes; if
-- there are fewer than n, an empty feed that ends
abbrev pub to_come : ℕ → List ℕ → Option Feed → Option Feed
to_come n held feed = option_map (skipped n) (prepended held feed)

-- whether a byte is still to come, if the feed is stated
abbrev pub HasByte : Option Feed → Type 0
HasByte None = ⊤
HasByte (Some feed) = feed.bytes ≡ [] → ⊥

-- whether no byte is still to come, if the feed is stated
abbrev pub HasNoByte : Option Feed → Type 0
HasNoByte None = ⊤
HasNoByte (Some feed) = feed.bytes ≡ []
