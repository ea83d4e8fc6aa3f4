-- The parts of a `ReadAhead`, a reader that reads ahead, that contracts refer to.
use Rattle.std.specs.Prelude.{ℕ, List, Option}
use Rattle.tiny_http_io.specs.Device.{Feed, prepended}

-- The parts of a `ReadAhead` that contracts refer to: the bytes that have been read ahead and not yet returned, the
-- inner reader, and the feed of the inner reader.
pub record AheadState (R : Type 0) : Type 0 where
  pub held : List ℕ
  pub reader : R
  pub feed : Option Feed

-- the feed of a `ReadAhead`: the held bytes, followed by the feed of the inner reader
abbrev pub ahead_feed : {R : Type 0} → AheadState R → Option Feed
ahead_feed a = prepended a.held a.feed
