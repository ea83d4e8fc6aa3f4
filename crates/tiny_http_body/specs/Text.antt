-- Texts to send, their endings, and the bodies that data become (RFC 9112, sections 6 and 7).
use Rattle.std.specs.Prelude.{◌≡◌, ℕ, ◌≤◌, List, [], ◌++◌, length, take, drop, Option, Some, Result, Ok, Err, OnOk}
use Rattle.std.specs.Prelude.{nat_le, if◌then◌else◌, ◌⊎◌}
use Rattle.std.specs.IoError.{error_kind}
use Rattle.std.specs.declared.io.Error.{Error}
use Rattle.std.specs.declared.io.ErrorKind.{ErrorKind}
use Rattle.tiny_http_io.specs.Device.{Feed, fault_of, Sink, Took, Failed}
use Rattle.tiny_http_io.specs.declared.device.Stop.{Stop}
use Rattle.tiny_http_io.specs.declared.device.Stop.TheVariants.{End, Fault}
use Rattle.tiny_http_body.specs.ChunkedPrinting.{full_chunks, chunked}

-- the ending of a text: whole, or broken off by a fault
pub data Ending : Type 0 where
  Whole : Ending
  Broken : ErrorKind → Ending

-- bytes to send, and their ending
pub record Text : Type 0 where
  pub bytes : List ℕ
  pub ending : Ending

-- these bytes, then the text
abbrev pub prepend_text : List ℕ → Text → Text
prepend_text front text = record { bytes = front ++ text.bytes; ending = text.ending }

-- the text of these bytes, which ends whole
abbrev pub whole : List ℕ → Text
whole bytes = record { bytes = bytes; ending = Whole }

-- the text without bytes, broken off by this fault
abbrev pub nothing_sent : ErrorKind → Text
nothing_sent kind = record { bytes = []; ending = Broken kind }

-- a body without a transfer coding, cut at n bytes (RFC 9112, section 6.2): whole if the data have at least n bytes,
-- otherwise broken off by the data's fault (`UnexpectedEof` if they end)
abbrev pub identity_body : ℕ → Feed → Text
identity_body n feed =
    record {
      bytes = take n feed.bytes;
      ending = if nat_le n (length feed.bytes) then Whole else Broken (fault_of feed.stop);
    }

-- the data after their first n bytes
abbrev pub data_behind : ℕ → Feed → Feed
data_behind n feed = record { bytes = drop n feed.bytes; stop = feed.stop }

-- whether a call took at most the first n bytes of the data, and exactly these if it returns Ok
abbrev pub TakesUpTo : {T : Type 0} → ℕ → Feed → Option Feed → Result T Error → Type 0
TakesUpTo n old new r = (k : ℕ) × (k ≤ n) × (new ≡ Some (data_behind k old)) × OnOk r (k ≡ n)

-- the text of a body in chunks: the whole body, or, if the data fail, its full chunks and the fault
abbrev pub chunked_until : Stop → List ℕ → Text
chunked_until End bytes = whole (chunked bytes)
chunked_until (Fault kind) bytes = record { bytes = full_chunks bytes; ending = Broken kind }

abbrev pub chunked_body : Feed → Text
chunked_body feed = chunked_until feed.stop feed.bytes

-- The result of a call that prints a text: a whole text was written; or all bytes of a text that breaks off were
-- written, and its fault is the error; or the writer failed within the text.
abbrev pub Prints : {T : Type 0} → Sink → Sink → Result T Error → Text → Type 0
Prints old new (Ok x) text = (text.ending ≡ Whole) × Took old new text.bytes
Prints old new (Err e) text =
    ((text.ending ≡ Broken (error_kind e)) × Took old new text.bytes) ⊎ Failed old new text.bytes (error_kind e)
