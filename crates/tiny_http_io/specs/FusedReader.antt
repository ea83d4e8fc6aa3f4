-- The parts of a `FusedReader` that contracts refer to.
use Rattle.std.specs.Prelude.{◌≡◌, ℕ, ◌<◌, List, length, Bool, true, false, [], Option, Some, None, Result, Ok, IfOk}
use Rattle.std.specs.Prelude.{OnErr, IsSome}
use Rattle.std.specs.declared.io.Error.{Error}
use Rattle.std.specs.Option.{option_map}
use Rattle.tiny_http_io.specs.Device.{Feed, whole_feed, Reads}
use Rattle.tiny_http_io.specs.declared.fused_reader.FusedReader.{FusedReader}

abbrev pub inner_unless_over : {R : Type 0} → Bool → R → Option R
inner_unless_over true inner = None
inner_unless_over false inner = Some inner

-- the inner reader of a `FusedReader`, or `None` if its end has been reported
abbrev pub fused_inner : {R : Type 0} → FusedReader R → Option R
fused_inner r = inner_unless_over r.over r.inner

abbrev pub feed_unless : Bool → Option Feed → Option Feed
feed_unless true feed = option_map (λ f. whole_feed []) feed
feed_unless false feed = feed

-- the feed of a `FusedReader`: the inner reader's, or, once the inner reader's end has been reported, an empty feed
-- that stops with an end
abbrev pub fused_feed : {R : Type 0} → (R → Option Feed) → FusedReader R → Option Feed
fused_feed feed r = feed_unless r.over (feed r.inner)

-- the number of ends and faults that the inner reader has reported
abbrev pub fused_stop_count : {R : Type 0} → (R → ℕ) → FusedReader R → ℕ
fused_stop_count stop_count r = stop_count r.inner

-- ONE READ of a `FusedReader`. It is a read of the feed still to come. Whatever the inner reader states, a read into an
-- empty buffer changes nothing, neither a read that returns bytes nor a fault counts as the end, and the inner reader
-- isn't called again after its end.
pub record ReadsFused {R : Type 0} (feed : R → Option Feed) (old new : FusedReader R) (r : Result ℕ Error)
    (buf : List ℕ) : Type 0 where
  pub reads : Reads (fused_feed feed old) (fused_feed feed new) r buf
  pub empty : length buf ≡ 0 → (r ≡ Ok 0) × (new ≡ old)
  pub over : IfOk r (λ n. n ≡ 0 → 0 < length buf → fused_inner new ≡ None)
  pub keeps_reader : IfOk r (λ n. 0 < n → IsSome (fused_inner new))
  pub failed : OnErr r (IsSome (fused_inner new))
  pub stays : fused_inner old ≡ None → (r ≡ Ok 0) × (new ≡ old)
