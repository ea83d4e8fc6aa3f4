-- Data of a chunked response with a stated length (RFC 9112, section 8).
use Rattle.std.specs.Prelude.{ℕ, length, nat_le, Option, Some, if◌then◌else◌}
use Rattle.std.specs.Option.{option_map}
use Rattle.tiny_http_io.specs.Device.{Feed, fault_of}
use Rattle.tiny_http_io.specs.declared.device.Stop.TheVariants.{Fault}
use Rattle.tiny_http_response.specs.declared.response_context.Persistence.{Persistence}
use Rattle.tiny_http_response.specs.declared.owing.OwingReader.{OwingReader}

-- the minimum length of the data of a chunked response, in bytes: under `Standard` the stated length, if there is one,
-- otherwise 0
abbrev pub owed : Option Persistence → Option ℕ → ℕ
owed (Some says) (Some n) = n
owed says length = 0

-- the feed of data that must have at least n bytes: an end before the last of these becomes the fault `UnexpectedEof`
abbrev pub owing : ℕ → Feed → Feed
owing n feed =
    record {
      bytes = feed.bytes;
      stop = if nat_le n (length feed.bytes) then feed.stop else Fault (fault_of feed.stop);
    }

-- the feed of an `OwingReader`: that of its inner reader, in which an end before the last required byte becomes the
-- fault `UnexpectedEof`
abbrev pub owing_feed : {R : Type 0} → (R → Option Feed) → OwingReader R → Option Feed
owing_feed feed r = option_map (owing r.left) (feed r.inner)

-- the inner reader of an `OwingReader`
abbrev pub owing_inner : {R : Type 0} → OwingReader R → R
owing_inner r = r.inner
