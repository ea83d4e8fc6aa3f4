-- The data still to come from a decoder of a chunked body, and the end of that body (RFC 9112, section 7.1).
use Rattle.std.specs.Prelude.{◌≡◌, ℕ, ◌+◌, ◌<◌, ◌≤◌, nat_lt, List, [], ◌++◌, length, take, Option, Some, None, Result}
use Rattle.std.specs.Prelude.{Ok, Err, IfOk, IfErr, OnErr, IsSome, IfSome, ⊤}
use Rattle.std.specs.Option.{option_map}
use Rattle.std.specs.IoError.{error_kind}
use Rattle.std.specs.declared.io.Error.{Error}
use Rattle.std.specs.declared.io.ErrorKind.{ErrorKind}
use Rattle.tiny_http_io.specs.declared.device.Stop.{Stop}
use Rattle.tiny_http_io.specs.declared.device.Stop.TheVariants.{End, Fault}
use Rattle.tiny_http_body.specs.declared.chunked.Next.{Next}
use Rattle.tiny_http_body.specs.declared.chunked.Next.TheVariants.{Line, Data, Over, Broken}
use Rattle.tiny_http_body.specs.declared.chunked.Decoding.{Decoding}
use Rattle.tiny_http_body.specs.declared.chunked.Decoder.{Decoder}
use Rattle.tiny_http_io.specs.Device.{AnswersStop, Feed, prepended, TakesFront, fault_of}
use Rattle.tiny_http_body.specs.ChunkReading.{Decoded, decoded_by, data_at, trailer_section, broken}
use Rattle.tiny_http_body.specs.declared.chunked.ChunkRules.{ChunkRules}

-- the data still to come, and the reader's feed after the body, or the fault
pub record Coming : Type 0 where
  pub bytes : List ℕ
  pub behind : Result Feed ErrorKind

-- the result of decoding a chunked body from its beginning
abbrev pub body_by : ChunkRules → Stop → List ℕ → Decoded
body_by rules stop bytes = decoded_by rules (length bytes + 1) stop bytes

-- the result of decoding the rest of a chunked body from this state on
unfoldable pub decoded_from_by : ChunkRules → Next → Feed → Decoded
decoded_from_by rules Line feed = body_by rules feed.stop feed.bytes
decoded_from_by rules (Data left) feed =
    data_at (body_by rules feed.stop) feed.stop left feed.bytes (nat_lt (length feed.bytes) left)
decoded_from_by rules Over feed = record { body = []; ends = Ok feed.bytes }
decoded_from_by rules (Broken kind) feed = broken [] kind

-- the result of decoding what comes after the last chunk's line, with at most this many trailer lines
unfoldable pub trailers_from : ChunkRules → ℕ → Feed → Decoded
trailers_from rules most feed = trailer_section rules most feed.stop feed.bytes

-- the feed of the rest of the bytes with their stop, or the fault
abbrev pub rest_at : Stop → Result (List ℕ) ErrorKind → Result Feed ErrorKind
rest_at stop (Ok rest) = Ok (record { bytes = rest; stop = stop })
rest_at stop (Err kind) = Err kind

-- the data still to come and the feed after the body, or the fault, according to the result of decoding
abbrev pub coming_of : Stop → Decoded → Coming
coming_of stop d = record { bytes = d.body; behind = rest_at stop d.ends }

-- the data still to come from this state on, and the feed after the body, or the fault, if the reader's feed is stated
abbrev pub comes : ChunkRules → Next → Option Feed → Option Coming
comes rules next feed = option_map (λ f. coming_of f.stop (decoded_from_by rules next f)) feed

-- the feed after the body, or the fault, once the last chunk's line has been read, with at most this many trailer
-- lines, if the reader's feed is stated; no data are still to come
abbrev pub trails : ChunkRules → ℕ → Option Feed → Option Coming
trails rules most feed = option_map (λ f. coming_of f.stop (trailers_from rules most f)) feed

-- the data still to come from a decoding with a reader of this feed, and the feed after the body, or the fault
abbrev pub decoding_coming : Decoding → Option Feed → Option Coming
decoding_coming d feed = comes d.rules d.next feed

-- the rules that a decoding follows
abbrev pub decoding_rules : Decoding → ChunkRules
decoding_rules d = d.rules

-- the result of decoding the rest of the body, given the bytes that follow and their stop
abbrev pub decoding_reads : Decoding → Feed → Decoded
decoding_reads d feed = decoded_from_by d.rules d.next feed

-- THE BYTES THAT WERE TAKEN WERE NEEDED: if the reader had stopped before the last of them, its stop would be the
-- body's fault.
pub record TakesNeeded (reads : Feed → Decoded) (old new : Option Feed) : Type 0 where
  pub taken : List ℕ
  pub gives : old ≡ prepended taken new
  pub needed : (front more : List ℕ) (stop : Stop) → taken ≡ front ++ more → 0 < length more
      → (reads (record { bytes = front; stop = stop })).ends ≡ Err (fault_of stop)

-- whether no line is to be read before the next byte of data, the end or the fault
abbrev pub IsReady : Next → Type 0
IsReady Line = ⊥
IsReady (Data left) = 0 < left
IsReady Over = ⊤
IsReady (Broken kind) = ⊤

-- 1 if a fault comes next, and otherwise 0
abbrev pub broken_count : Next → ℕ
broken_count Line = 0
broken_count (Data left) = 0
broken_count Over = 0
broken_count (Broken kind) = 1

-- the end or the fault that is reported from this state on, if it is known
abbrev pub next_stop : Next → Option Stop
next_stop Line = None
next_stop (Data left) = None
next_stop Over = Some End
next_stop (Broken kind) = Some (Fault kind)

-- the end or the fault that a decoding reports from now on, if it is known
abbrev pub decoding_stop : Decoding → Option Stop
decoding_stop d = next_stop d.next

-- these data, then the data still to come, and the end of the body
abbrev pub prepend_data : List ℕ → Coming → Coming
prepend_data bs c = record { bytes = bs ++ c.bytes; behind = c.behind }

-- these data, then the data still to come, and the end of the body, if these are stated
abbrev pub prepended_data : List ℕ → Option Coming → Option Coming
prepended_data bs c = option_map (prepend_data bs) c

-- no data, and this feed after the body
abbrev pub over_at : Feed → Coming
over_at feed = record { bytes = []; behind = Ok feed }

-- whether nothing but this fault is still to come, if that is stated
abbrev pub BreaksBy : ErrorKind → Option Coming → Type 0
BreaksBy kind None = ⊤
BreaksBy kind (Some c) = c ≡ record { bytes = []; behind = Err kind }

-- the inner reader of a decoder
abbrev pub decoder_inner : {R : Type 0} → Decoder R → R
decoder_inner d = d.inner

-- the data still to come from a decoder, and the feed after the body, or the fault
abbrev pub decoder_coming : {R : Type 0} → (R → Option Feed) → Decoder R → Option Coming
decoder_coming feed d = decoding_coming d.decoding (feed d.inner)

-- the result of decoding the rest of a decoder's body
abbrev pub decoder_reads : {R : Type 0} → Decoder R → Feed → Decoded
decoder_reads d feed = decoding_reads d.decoding feed

-- the end or the fault that a decoder reports from now on, if it is known
abbrev pub decoder_stop : {R : Type 0} → Decoder R → Option Stop
decoder_stop d = decoding_stop d.decoding

-- the stop of a body's data: an end if the body is whole, and otherwise the fault
abbrev pub stop_behind : Result Feed ErrorKind → Stop
stop_behind (Ok rest) = End
stop_behind (Err kind) = Fault kind

-- the data still to come, as a reader's feed
abbrev pub feed_of : Coming → Feed
feed_of c = record { bytes = c.bytes; stop = stop_behind c.behind }

-- the feed of a decoder as a reader, if the inner reader's feed is stated
abbrev pub decoder_feed : {R : Type 0} → (R → Option Feed) → Decoder R → Option Feed
decoder_feed feed d = option_map feed_of (decoder_coming feed d)

-- ONE READ of a decoder. The bytes returned are the next ones of the body's data. A read into a nonempty buffer that
-- returns 0 is at the body's end, and the inner reader is just after the body. A fault is reported only where the data
-- break off, and takes no data. Whatever the reader states, a read into an empty buffer changes nothing, a reported end
-- or fault is reported from then on, only bytes at the front of the reader's feed are taken, and none after the byte
-- that shows a fault.
pub record ReadsData {R : Type 0} (feed : R → Option Feed) (old new : Decoder R) (r : Result ℕ Error)
    (buf : List ℕ) : Type 0 where
  pub bound : IfOk r (λ n. n ≤ length buf)
  pub bytes : IfOk r (λ n. decoder_coming feed old ≡ prepended_data (take n buf) (decoder_coming feed new))
  pub end : IfOk r (λ n. n ≡ 0 → 0 < length buf
      → decoder_coming feed old ≡ option_map over_at (feed (decoder_inner new)))
  pub fault : IfErr r (λ e. BreaksBy (error_kind e) (decoder_coming feed old))
  pub again : OnErr r (decoder_coming feed new ≡ decoder_coming feed old)
  pub empty : length buf ≡ 0 → (r ≡ Ok 0) × (new ≡ old)
  pub zero_is_end : IfOk r (λ n. n ≡ 0 → 0 < length buf → decoder_stop new ≡ Some End)
  pub broken : IfErr r (λ e. decoder_stop new ≡ Some (Fault (error_kind e)))
  pub stays : IsSome (decoder_stop old) → new ≡ old
  pub reports_stop : IfSome (decoder_stop old) (λ stop. 0 < length buf → AnswersStop stop r)
  pub takes : TakesFront (feed (decoder_inner old)) (feed (decoder_inner new))
  pub needed : OnErr r (TakesNeeded (decoder_reads old) (feed (decoder_inner old)) (feed (decoder_inner new)))
