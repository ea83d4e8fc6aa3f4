-- The rest of a request's body, which is still to come, and the input state after it.
use Rattle.std.specs.Prelude.{◌≡◌, ℕ, ◌+◌, ◌-◌, ◌<◌, ◌≤◌, Bool, true, false, not, ◌||◌, ◌==◌, nat_lt, List, []}
use Rattle.std.specs.Prelude.{length, take, Option, Some, None, Result, Ok, Err, IfOk, IfErr, OnErr, IfSome}
use Rattle.std.specs.Prelude.{MatchBool, ⊤, if◌then◌else◌}
use Rattle.std.specs.Option.{option_map}
use Rattle.std.specs.IoError.{error_kind}
use Rattle.std.specs.declared.io.Error.{Error}
use Rattle.std.specs.declared.io.ErrorKind.{ErrorKind}
use Rattle.tiny_http_io.specs.declared.device.Stop.{Stop}
use Rattle.tiny_http_io.specs.declared.device.Stop.TheVariants.{End, Fault}
use Rattle.tiny_http_io.specs.Cursor.{cursor_bytes}
use Rattle.tiny_http_io.specs.Device.{AnswersStop, Feed, whole_feed, prepend, fault_of}
use Rattle.tiny_http_body.specs.Decoding.{Coming, decoding_coming, decoding_rules}
use Rattle.tiny_http_body.specs.Chunks.{WholeChunksBy, CutChunksBy}
use Rattle.tiny_http_body.specs.declared.chunked.Decoding.{Decoding}
use Rattle.tiny_http_body.specs.declared.chunked.ChunkRules.{ChunkRules}
use Rattle.tiny_http_body.specs.declared.chunked.ChunkRules.TheVariants as chunks
use Rattle.tiny_http_body.specs.declared.body.TheConstants.{MOST_SKIPPED}
use Rattle.tiny_http_body.specs.declared.body.Remainder.{Remainder}
use Rattle.tiny_http_body.specs.declared.body.Remainder.TheVariants as left
use Rattle.tiny_http_body.specs.declared.body.UnreadBody.{UnreadBody}
use Rattle.tiny_http_body.specs.declared.body.UnreadBody.TheVariants.{Over, WithHead, Counted, Chunked, Rest}
use Rattle.tiny_http_body.specs.declared.framing.Form.{Form}
use Rattle.tiny_http_body.specs.declared.framing.Form.TheVariants as form
use Rattle.tiny_http_io.specs.ToCome.{skipped, stopped}
use Rattle.tiny_http_io.specs.FeedParts.{feed_front}
use Rattle.tiny_http_io.specs.Source.{SourceState, GoesOn, IsAtEnd, SkipsBytes, EndsHere}
use Rattle.tiny_http_io.specs.declared.source.InputState.{InputState}
use Rattle.tiny_http_io.specs.InputState.{after_body, after_fault, after_abandoned}

-- The rest of a body, which is still to come, and the feed after the body, which is empty if no head follows.
pub record Remaining : Type 0 where
  pub body : Feed
  pub behind : Feed

-- the rest of a chunked body with these data: a whole body ends, and the input continues after it; a body that is cut
-- or broken stops with its fault, and no head follows
abbrev pub chunks_remaining : List ℕ → Result Feed ErrorKind → Remaining
chunks_remaining bytes (Ok feed) = record { body = whole_feed bytes; behind = feed }
chunks_remaining bytes (Err kind) = record { body = record { bytes = bytes; stop = Fault kind }; behind = stopped End }

abbrev pub coming_remaining : Coming → Remaining
coming_remaining c = chunks_remaining c.bytes c.behind

-- the rules for the lines of a chunked body, given whether they are those of `Standard`
abbrev pub chunk_rules : Bool → ChunkRules
chunk_rules true = chunks.Standard
chunk_rules false = chunks.Lenient

-- the stop of a body that the input's stop cuts, given whether the body is read under `Standard`: the input's own stop,
-- but under `Standard` the fault `UnexpectedEof` for an end (RFC 9112, section 8)
abbrev pub cut_stop : Bool → Stop → Stop
cut_stop false stop = stop
cut_stop true stop = Fault (fault_of stop)

-- the input's feed, with its stop as a body reports it
abbrev pub cut_feed : Bool → Feed → Feed
cut_feed by_standard feed = record { bytes = feed.bytes; stop = cut_stop by_standard feed.stop }

-- the rest of a body of which n bytes are left in the input; if the input has fewer, no head follows
abbrev pub counted_remaining : Bool → ℕ → Feed → Remaining
counted_remaining by_standard n feed =
    record { body = feed_front n (cut_feed by_standard feed); behind = skipped n feed }

-- the rest of a body that has already been taken from the input
abbrev pub taken_remaining : Feed → Feed → Remaining
taken_remaining body feed = record { body = body; behind = feed }

-- the rest of a body that is the whole rest of the input; no head follows
abbrev pub rest_remaining : Feed → Remaining
rest_remaining feed = record { body = feed; behind = stopped End }

-- the rest of a body if the input still has this feed
abbrev pub remaining : UnreadBody → Option Feed → Option Remaining
remaining (Over stop) feed = option_map (taken_remaining (stopped stop)) feed
remaining (WithHead bytes) feed = option_map (taken_remaining (whole_feed (cursor_bytes bytes))) feed
remaining (Counted n by_standard) feed = option_map (counted_remaining by_standard n) feed
remaining (Chunked decoding) feed = option_map coming_remaining (decoding_coming decoding feed)
remaining Rest feed = option_map rest_remaining feed

-- whether d decodes a chunked body of which nothing has been read: a whole body decodes to its data and leaves the
-- rest; any other body decodes to its data before the fault, then reports the fault
pub record IsNewDecoding (by_standard : Bool) (d : Decoding) : Type 0 where
  pub rules : decoding_rules d ≡ chunk_rules by_standard
  pub whole : (bytes body rest : List ℕ) (stop : Stop) → WholeChunksBy (chunk_rules by_standard) bytes body rest
      → decoding_coming d (Some (record { bytes = bytes; stop = stop }))
      ≡ Some (record { bytes = body; behind = Ok (record { bytes = rest; stop = stop }) })
  pub front : (bytes body : List ℕ) (stop : Stop) (kind : ErrorKind)
      → CutChunksBy (chunk_rules by_standard) bytes stop body kind
      → decoding_coming d (Some (record { bytes = bytes; stop = stop }))
      ≡ Some (record { bytes = body; behind = Err kind })

-- whether b is a chunked body of which nothing has been read
abbrev pub IsNewChunked : Bool → UnreadBody → Type 0
IsNewChunked by_standard b = (d : Decoding) × (b ≡ Chunked d) × IsNewDecoding by_standard d

-- these bytes of a body, then the rest of the body
abbrev pub prepend_body : List ℕ → Remaining → Remaining
prepend_body bs r = record { body = prepend bs r.body; behind = r.behind }

abbrev pub prepended_body : List ℕ → Option Remaining → Option Remaining
prepended_body bs r = option_map (prepend_body bs) r

-- whether no byte of the body is left and the body stops in this way, if the rest of the body is stated
abbrev pub BodyStops : Stop → Option Remaining → Type 0
BodyStops stop None = ⊤
BodyStops stop (Some r) = r.body ≡ stopped stop

-- whether no byte of the body is left, if the rest of the body is stated
abbrev pub NoneRemains : Option Remaining → Type 0
NoneRemains None = ⊤
NoneRemains (Some r) = r.body.bytes ≡ []

-- whether the body is still read from the input
abbrev pub is_streaming : UnreadBody → Bool
is_streaming (Over stop) = false
is_streaming (WithHead bytes) = false
is_streaming (Counted n by_standard) = true
is_streaming (Chunked decoding) = true
is_streaming Rest = true

-- whether nothing more of the body is read from the input, and no fault ended the body
abbrev pub is_whole : UnreadBody → Bool
is_whole (Over End) = true
is_whole (Over (Fault kind)) = false
is_whole (WithHead bytes) = true
is_whole (Counted n by_standard) = false
is_whole (Chunked decoding) = false
is_whole Rest = false

-- the number of bytes of a body that are left, if that is known
abbrev pub bytes_left : UnreadBody → Option ℕ
bytes_left (Over End) = Some 0
bytes_left (Over (Fault kind)) = None
bytes_left (WithHead bytes) = Some (length (cursor_bytes bytes))
bytes_left (Counted n by_standard) = Some n
bytes_left (Chunked decoding) = None
bytes_left Rest = None

-- the remainder of a body when its request is finished
abbrev pub remainder : UnreadBody → Remainder
remainder (Over End) = left.Skipped
remainder (Over (Fault kind)) = left.Endless
remainder (WithHead bytes) = left.Skipped
remainder (Counted n by_standard) = if nat_lt MOST_SKIPPED n then left.Long else left.Skipped
remainder (Chunked decoding) = left.Endless
remainder Rest = left.Skipped

abbrev pub is_long : Remainder → Bool
is_long left.Long = true
is_long _ = false

abbrev pub is_skipped : Remainder → Bool
is_skipped left.Skipped = true
is_skipped _ = false

-- the body that an upgraded connection reads, given whether it is under `Standard`: all further input if so, and
-- otherwise the body of its request
abbrev pub stream_body : Bool → UnreadBody → UnreadBody
stream_body true b = Rest
stream_body false b = b

-- the end or fault that each further read of the body reports, if the body is over
abbrev pub body_stop : UnreadBody → Option Stop
body_stop (Over stop) = Some stop
body_stop (WithHead bytes) = None
body_stop (Counted n by_standard) = None
body_stop (Chunked decoding) = None
body_stop Rest = None

abbrev pub IsBodyOver : UnreadBody → Type 0
IsBodyOver (Over stop) = ⊤
IsBodyOver _ = ⊥

abbrev pub IsWithHead : UnreadBody → Type 0
IsWithHead (WithHead bytes) = ⊤
IsWithHead _ = ⊥

abbrev pub IsChunkedBy : ChunkRules → UnreadBody → Type 0
IsChunkedBy rules (Chunked decoding) = decoding_rules decoding ≡ rules
IsChunkedBy rules _ = ⊥

-- whether a body with a `Content-Length` is over, given whether it was read under `Standard`, and whether all its bytes
-- had arrived: with a fault only if they hadn't, and without a fault only if they had or it wasn't read under
-- `Standard`
abbrev pub IsCountedOver : Bool → Bool → UnreadBody → Type 0
IsCountedOver by_standard has_come (Over End) = (has_come || not by_standard) ≡ true
IsCountedOver by_standard has_come (Over (Fault kind)) = has_come ≡ false
IsCountedOver by_standard has_come _ = ⊥

-- whether a body in memory stays in memory: after n of `count` bytes the others are left, and none if the end was
-- reported
abbrev pub StaysHeld : ℕ → ℕ → Bool → UnreadBody → Type 0
StaysHeld count n end_reported (WithHead bytes) =
    (n + length (cursor_bytes bytes) ≡ count) × (end_reported ≡ true → length (cursor_bytes bytes) ≡ 0)
StaysHeld count n end_reported _ = ⊥

-- whether `new` is the body after a read that returned n bytes, and reported an end or fault if `end_reported`. A body
-- with a `Content-Length` is over with its last byte; any other body that is read from the input is over once its end
-- or fault has been reported.
abbrev pub ReadsOn : UnreadBody → ℕ → Bool → UnreadBody → Type 0
ReadsOn (Over stop) n end_reported new = (new ≡ Over stop) × (n ≡ 0)
ReadsOn (WithHead bytes) n end_reported new = StaysHeld (length (cursor_bytes bytes)) n end_reported new
ReadsOn (Counted left by_standard) n end_reported new =
    MatchBool (end_reported || n == left) (IsCountedOver by_standard (n == left) new)
    ((new ≡ Counted (left - n) by_standard) × (n < left))
ReadsOn (Chunked decoding) n end_reported new =
    MatchBool end_reported (IsBodyOver new) (IsChunkedBy (decoding_rules decoding) new)
ReadsOn Rest n end_reported new = MatchBool end_reported (IsBodyOver new) (new ≡ Rest)

-- the number of bytes that a call returned, or 0 if it failed
abbrev pub bytes_given : {E : Type 0} → Result ℕ E → ℕ
bytes_given (Ok n) = n
bytes_given (Err e) = 0

-- 1 if the body is over, and otherwise 0
abbrev pub over_count : UnreadBody → ℕ
over_count (Over stop) = 1
over_count _ = 0

-- 1 if a fault ended the body, and otherwise 0
abbrev pub fault_stops : UnreadBody → ℕ
fault_stops (Over (Fault kind)) = 1
fault_stops _ = 0

-- THE ENDS AND FAULTS OF THE INPUT THAT A CALL MEETS: how many at most, if the call returned n bytes of a body and left
-- the body `new`. A body with a `Content-Length` meets one only if it is cut, a chunked body only if a fault ends it,
-- since the end of such a body is a line, and a body that is the whole rest of the input only when it is over.
abbrev pub ends_met : UnreadBody → ℕ → UnreadBody → ℕ
ends_met (Over stop) n new = 0
ends_met (WithHead bytes) n new = 0
ends_met (Counted left by_standard) n new = if n == left then 0 else over_count new
ends_met (Chunked decoding) n new = fault_stops new
ends_met Rest n new = over_count new

-- whether a body of this form and n bytes, of which `given` were returned, is finished: it is empty or in memory, or
-- its form is `Counted` and all its bytes were returned, or its end or fault was reported
abbrev pub body_finished : Form → ℕ → ℕ → Bool → Bool
body_finished form.Nothing n given end_reported = true
body_finished form.WithHead n given end_reported = true
body_finished form.Counted n given end_reported = given == n || end_reported
body_finished form.Chunked n given end_reported = end_reported
body_finished form.Rest n given end_reported = end_reported

-- whether a finished body of this form may have this stop: a body that came with its head (`WithHead`) is never over,
-- and an absent body (`Nothing`) is over without a fault
abbrev pub MayBeOver : Form → Stop → Type 0
MayBeOver form.WithHead stop = ⊥
MayBeOver form.Nothing stop = stop ≡ End
MayBeOver _ stop = ⊤

-- whether this can be what is left of a body of the form `shape` and of n bytes, read under `Standard` if `standard`,
-- after `given` bytes of it were returned, and its end or fault was reported if `end_reported`
abbrev pub Fits : Bool → UnreadBody → Form → ℕ → ℕ → Bool → Type 0
Fits standard (Over stop) shape n given end_reported =
    (body_finished shape n given end_reported ≡ true) × MayBeOver shape stop
Fits standard (WithHead bytes) shape n given end_reported =
    (shape ≡ form.WithHead) × (given + length (cursor_bytes bytes) ≡ n)
Fits standard (Counted left by_standard) shape n given end_reported =
    (shape ≡ form.Counted) × (given + left ≡ n) × (0 < left) × (end_reported ≡ false) × (by_standard ≡ standard)
Fits standard (Chunked decoding) shape n given end_reported =
    (shape ≡ form.Chunked) × (end_reported ≡ false) × (decoding_rules decoding ≡ chunk_rules standard)
Fits standard Rest shape n given end_reported = (shape ≡ form.Rest) × (end_reported ≡ false)

-- whether a buffer was filled from the body: it is full; or it has fewer bytes, and no byte of the body is left; or a
-- fault came before any byte, and each later read reports it again. If a nonempty buffer got no byte and no fault was
-- reported, the body was at its end.
abbrev pub FillsFromBody : UnreadBody → Option Feed → UnreadBody → Option Feed → Result ℕ ErrorKind → List ℕ → Type 0
FillsFromBody old from new to (Ok n) buf =
    (remaining old from ≡ prepended_body (take n buf) (remaining new to))
    × (0 < length buf → ReadsOn old n (nat_lt n (length buf)) new)
    × (n < length buf → NoneRemains (remaining new to)) × (n ≡ 0 → 0 < length buf → BodyStops End (remaining old from))
    × (n ≡ 0 → 0 < length buf → is_whole new ≡ true)
FillsFromBody old from new to (Err kind) buf =
    (remaining new to ≡ remaining old from) × ReadsOn old 0 true new × BodyStops (Fault kind) (remaining old from)
    × (new ≡ Over (Fault kind))

-- the input state after a read that left this body
abbrev pub body_input_state : UnreadBody → InputState → InputState
body_input_state (Over End) input_state = after_body input_state
body_input_state (Over (Fault kind)) input_state = after_fault kind input_state
body_input_state (WithHead bytes) input_state = after_body input_state
body_input_state (Counted n by_standard) input_state = input_state
body_input_state (Chunked decoding) input_state = input_state
body_input_state Rest input_state = input_state

-- THE RESULT OF A READ of a body, and the rest of the body after it. The bytes returned are the next ones of the body,
-- at most as many as fit. A read into a nonempty buffer that returns 0 is at the end of the body; a fault is the body's
-- own. A body with a `Content-Length` is over with its last byte; any other body that is read from the input is over
-- once its end or fault has been reported. After the first fault the source is at its end. The input advances or stays.
pub record ReadsRemaining {R : Type 0} (old new : UnreadBody) (from to : SourceState R) (r : Result ℕ Error)
    (buf : List ℕ) : Type 0 where
  pub bound : IfOk r (λ n. n ≤ length buf)
  pub bytes : IfOk r (λ n. remaining old from.feed ≡ prepended_body (take n buf) (remaining new to.feed))
  pub end : IfOk r (λ n. n ≡ 0 → 0 < length buf → BodyStops End (remaining old from.feed))
  pub fault : IfErr r (λ e. BodyStops (Fault (error_kind e)) (remaining old from.feed))
  pub again : OnErr r (remaining new to.feed ≡ remaining old from.feed)
  pub moves : IfOk r (λ n. 0 < length buf → ReadsOn old n (n == 0) new)
  pub ended : IfOk r (λ n. n ≡ 0 → 0 < length buf → is_whole new ≡ true)
  pub over : IfErr r (λ e. new ≡ Over (Fault (error_kind e)))
  pub at_end : OnErr r (body_stop old ≡ None → IsAtEnd to)
  pub goes_on : GoesOn from.feed to.feed

-- ONE READ of a body. A read into an empty buffer changes nothing. A body that isn't read from the source leaves the
-- source unchanged, and a body that is over reports its end or fault again. Otherwise what is left of the body
-- determines the input state: a head may be next once the body is over without a fault.
pub record ReadsBody {R : Type 0} (old new : UnreadBody) (from to : SourceState R) (r : Result ℕ Error)
    (buf : List ℕ) : Type 0 where
  pub reads : ReadsRemaining old new from to r buf
  pub empty : length buf ≡ 0 → (r ≡ Ok 0) × (new ≡ old) × (to ≡ from)
  pub broken : OnErr r (ReadsOn old 0 true new)
  pub settled : is_streaming old ≡ false → to ≡ from
  pub reports_stop : IfSome (body_stop old) (λ stop. 0 < length buf → AnswersStop stop r × (new ≡ old))
  pub input_state : is_streaming old ≡ true → to.input_state ≡ body_input_state new from.input_state

-- The effect of one read, into a nonempty buffer, of a body that is read from the input neither before nor after this
-- read.
pub record ReadsHeld (old new : UnreadBody) (r : Result ℕ Error) (buf : List ℕ) : Type 0 where
  pub bound : IfOk r (λ n. n ≤ length buf)
  pub bytes : (feed : Option Feed) → IfOk r (λ n. remaining old feed ≡ prepended_body (take n buf) (remaining new feed))
  pub end : (feed : Option Feed) → IfOk r (λ n. n ≡ 0 → 0 < length buf → BodyStops End (remaining old feed))
  pub fault : (feed : Option Feed) → IfErr r (λ e. BodyStops (Fault (error_kind e)) (remaining old feed))
  pub moves : IfOk r (λ n. ReadsOn old n (n == 0) new)
  pub ended : IfOk r (λ n. n ≡ 0 → is_whole new ≡ true)
  pub broken : IfErr r (λ e. (new ≡ old) × (new ≡ Over (Fault (error_kind e))))
  pub reports_stop : IfSome (body_stop old) (λ stop. AnswersStop stop r × (new ≡ old))
  pub stays_held : is_streaming new ≡ false

-- The effect of skipping an unread body: the bytes of a body with a `Content-Length` are skipped before the next head.
-- For any other body nothing changes.
abbrev pub PassesOver : {R : Type 0} → UnreadBody → SourceState R → SourceState R → Type 0
PassesOver (Counted left by_standard) old new = SkipsBytes left old new
PassesOver (Over stop) old new = new ≡ old
PassesOver (WithHead bytes) old new = new ≡ old
PassesOver (Chunked decoding) old new = new ≡ old
PassesOver Rest old new = new ≡ old

-- The effect of giving up a body: the rest of a body with a `Content-Length` is skipped (`SkipsBytes`) before the next
-- head; after a chunked body whose end or fault hasn't been reported, no head follows; for any other body nothing
-- changes.
abbrev pub GivesUp : {R : Type 0} → UnreadBody → SourceState R → SourceState R → Type 0
GivesUp (Over stop) old new = new ≡ old
GivesUp (WithHead bytes) old new = new ≡ old
GivesUp Rest old new = new ≡ old
GivesUp (Counted left by_standard) old new =
    SkipsBytes left (record old { input_state = after_body old.input_state }) new
GivesUp (Chunked decoding) old new = EndsHere (record old { input_state = after_abandoned old.input_state }) new
