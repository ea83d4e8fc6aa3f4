-- The parts of an `EqualReader` that contracts refer to.
use Rattle.std.specs.Prelude.{◌≡◌, ℕ, ◌+◌, List, length, Option, Result, Ok, IfOk, OnErr}
use Rattle.std.specs.declared.io.Error.{Error}
use Rattle.std.specs.Option.{option_map}
use Rattle.tiny_http_io.specs.Device.{Feed, Reads}
use Rattle.tiny_http_io.specs.declared.equal_reader.EqualReader.{EqualReader}
use Rattle.tiny_http_io.specs.FeedParts.{feed_front, feed_behind}

-- the inner reader of an `EqualReader`
abbrev pub equal_inner : {R : Type 0} → EqualReader R → R
equal_inner r = r.inner

-- the number of bytes that an `EqualReader` may still read
abbrev pub equal_left : {R : Type 0} → EqualReader R → ℕ
equal_left r = r.left

-- the bytes still to come from an `EqualReader`, and how the input stops after them: the next bytes of the inner
-- reader, at most as many as may still be read
abbrev pub equal_feed : {R : Type 0} → (R → Option Feed) → EqualReader R → Option Feed
equal_feed feed r = option_map (feed_front r.left) (feed r.inner)

-- ONE READ of an `EqualReader`. It is a read of the feed still to come; the inner reader's bytes after that feed don't
-- change. Whatever the inner reader states, a read into an empty buffer, or with no byte left, returns 0 and changes
-- nothing. The number of bytes that came is subtracted from the number left; a fault subtracts nothing.
pub record ReadsPart {R : Type 0} (feed : R → Option Feed) (old new : EqualReader R) (r : Result ℕ Error)
    (buf : List ℕ) : Type 0 where
  pub reads : Reads (equal_feed feed old) (equal_feed feed new) r buf
  pub empty : length buf ≡ 0 → (r ≡ Ok 0) × (new ≡ old)
  pub past : equal_left old ≡ 0 → (r ≡ Ok 0) × (new ≡ old)
  pub count : IfOk r (λ n. equal_left old ≡ n + equal_left new)
  pub fault_takes_none : OnErr r (equal_left new ≡ equal_left old)
  pub behind : option_map (feed_behind (equal_left new)) (feed (equal_inner new))
      ≡ option_map (feed_behind (equal_left old)) (feed (equal_inner old))
