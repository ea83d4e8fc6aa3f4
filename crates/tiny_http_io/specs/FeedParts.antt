-- The first bytes of a feed, and the rest of the feed.
use Rattle.std.specs.Prelude.{ℕ, Bool, true, false, nat_lt, length, take, drop}
use Rattle.tiny_http_io.specs.declared.device.Stop.{Stop}
use Rattle.tiny_http_io.specs.declared.device.Stop.TheVariants.{End}
use Rattle.tiny_http_io.specs.Device.{Feed}

-- the stop of a feed's first `size` bytes, given whether the feed has fewer: its own stop if so, otherwise `End`
abbrev pub stop_where : Bool → Stop → Stop
stop_where true stop = stop
stop_where false stop = End

-- the first `size` bytes of the feed, followed by an end; if the feed has fewer, the whole feed with its own stop
unfoldable pub feed_front : ℕ → Feed → Feed
feed_front size feed =
    record { bytes = take size feed.bytes; stop = stop_where (nat_lt (length feed.bytes) size) feed.stop }

-- the rest of the feed, after its first `size` bytes
unfoldable pub feed_behind : ℕ → Feed → Feed
feed_behind size feed = record { bytes = drop size feed.bytes; stop = feed.stop }
