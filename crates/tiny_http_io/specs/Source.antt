-- The parts of a `Source`, and what its calls change, that contracts refer to.
use Rattle.std.specs.Prelude.{ℕ, ◌+◌, ◌^◌, ◌≡◌, ◌≢◌, ◌<◌, ◌≤◌, ◌⊎◌, ◌++◌, length, take, drop, Bool, true, false}
use Rattle.std.specs.Prelude.{IsTrue, List, ⊤, Option, None, Some, Result, Ok, Err, IsSome, IfOk, IfErr, OnOk, OnErr}
use Rattle.std.specs.Prelude.{IfSome}
use Rattle.std.specs.Global.{Vec}
use Rattle.std.specs.Option.{option_map}
use Rattle.std.specs.declared.alloc.AllocError.{AllocError}
use Rattle.std.specs.IoError.{error_kind}
use Rattle.std.specs.declared.io.Error.{Error}
use Rattle.std.specs.Str.{IsAscii, IsNotAscii}
use Rattle.std.specs.declared.io.ErrorKind.TheVariants.{TimedOut}
use Rattle.tiny_http_io.specs.Device.{Feed, prepended, Reads, AnswersStop}
use Rattle.tiny_http_io.specs.declared.device.Stop.{Stop}
use Rattle.tiny_http_io.specs.declared.device.Stop.TheVariants.{End, Fault}
use Rattle.tiny_http_text.specs.Lines.{Line, IsUnfinished, has_crlf}
use Rattle.tiny_http_io.specs.ToCome.{skipped, stopped, stops_to_come, HasByte, HasNoByte}
use Rattle.tiny_http_io.specs.LineEnds.{EndsLine}
use Rattle.tiny_http_io.specs.declared.source.FirstLine.{FirstLine}
use Rattle.tiny_http_io.specs.declared.source.FirstLine.TheVariants.{Held, Taken}
use Rattle.tiny_http_io.specs.declared.source.InputState.{InputState}
use Rattle.tiny_http_io.specs.declared.source.LineFault.{LineFault}
use Rattle.tiny_http_io.specs.declared.source.LineFault.TheVariants.{NotAscii, TooLong, Broken, Memory}
use Rattle.tiny_http_io.specs.declared.source.LineFault.TheVariants.{End as EndOfLines, TimedOut as LineTimedOut}

-- The parts of a `Source` that contracts refer to: the feed still to come, if the reader states its own; how the input
-- stopped, if it has; whether it has stopped and no byte is left; the inner reader; the buffered bytes, and the number
-- of bytes to be skipped first; and the input state.
pub record SourceState (R : Type 0) : Type 0 where
  pub feed : Option Feed
  pub stop : Option Stop
  pub is_over : Bool
  pub reader : R
  pub held : List ℕ
  pub skip : ℕ
  pub input_state : InputState

-- THE ENDS AND FAULTS THAT A SOURCE MEETS, according to the count of those that its reader has reported. No call raises
-- the sum of that count and the number still to come, so all calls to a source together meet at most one.
abbrev pub CallsReader : {R : Type 0} → (R → ℕ) → SourceState R → SourceState R → Type 0
CallsReader stop_count old new = stop_count new.reader + stops_to_come new.stop
    ≤ stop_count old.reader + stops_to_come old.stop

-- whether a call takes nothing from a source: only the reader may have changed, and not its feed
abbrev pub IsUnread : {R : Type 0} → SourceState R → SourceState R → Type 0
IsUnread old new = new ≡ record old { reader = new.reader }

-- whether a whole line is buffered after the bytes to be skipped
abbrev pub HoldsLine : {R : Type 0} → SourceState R → Type 0
HoldsLine s = has_crlf (drop s.skip s.held) ≡ true

-- whether the input has ended, or was made to end, and no byte is left: each further read of a line fails with `End`,
-- or with `TooLong` if its limit is 0
abbrev pub IsAtEnd : {R : Type 0} → SourceState R → Type 0
IsAtEnd s = (s.is_over ≡ true) × (s.stop ≡ Some End)

-- the fault to report for a line if the input stopped in this way before the line was complete
abbrev pub line_fault_of : Stop → LineFault
line_fault_of End = EndOfLines
line_fault_of (Fault TimedOut) = LineTimedOut
line_fault_of (Fault kind) = Broken kind

-- The effect on the feed of reading a line: the first line is consumed, whether it is ASCII or not; or memory was
-- refused, and the feed ends; or the feed stopped before a CR LF.
abbrev pub ReadsLine : Option Feed → Option Feed → Result (List ℕ) LineFault → Type 0
ReadsLine None new result = ⊤
ReadsLine (Some old) new (Ok text) =
    (rest : List ℕ) × Line old.bytes text rest × IsAscii text × (new ≡ Some (record { bytes = rest; stop = old.stop }))
ReadsLine (Some old) new (Err NotAscii) =
    (text : List ℕ)
    × (rest : List ℕ)
    × Line old.bytes text rest
    × IsNotAscii text
    × (new ≡ Some (record { bytes = rest; stop = old.stop }))
ReadsLine (Some old) new (Err Memory) = new ≡ Some (stopped End)
ReadsLine (Some old) new (Err fault) =
    IsUnfinished old.bytes × (fault ≡ line_fault_of old.stop) × (new ≡ Some (stopped old.stop))

-- whether a line of n bytes and its CR LF are within the limit, if there is one
abbrev pub IsWithin : Option ℕ → ℕ → Type 0
IsWithin None n = ⊤
IsWithin (Some left) n = n + 2 ≤ left

-- the bytes within the limit, or all bytes if there is no limit
abbrev pub seen_within : Option ℕ → List ℕ → List ℕ
seen_within None bytes = bytes
seen_within (Some left) bytes = take left bytes

-- whether the bytes are fewer than the limit, if there is one
abbrev pub IsShort : Option ℕ → List ℕ → Type 0
IsShort None bytes = ⊤
IsShort (Some left) bytes = length bytes < left

-- whether there is a limit, the bytes reach it, and no line is complete within it
abbrev pub IsTooLong : Option ℕ → List ℕ → Type 0
IsTooLong None bytes = ⊥
IsTooLong (Some left) bytes = (left ≤ length bytes) × IsUnfinished (take left bytes)

-- The effect on the feed of reading a line within a limit: the first line is consumed, if the line and its CR LF are
-- within the limit; or the limit was reached, or memory was refused, and the feed ends; or the feed stopped before a CR
-- LF and before the limit.
abbrev pub ReadsWithin : Option ℕ → Option Feed → Option Feed → Result (List ℕ) LineFault → Type 0
ReadsWithin left None new result = ⊤
ReadsWithin left (Some old) new (Ok text) = ReadsLine (Some old) new (Ok text) × IsWithin left (length text)
ReadsWithin left (Some old) new (Err NotAscii) =
    (text : List ℕ)
    × (rest : List ℕ)
    × Line old.bytes text rest
    × IsNotAscii text
    × IsWithin left (length text)
    × (new ≡ Some (record { bytes = rest; stop = old.stop }))
ReadsWithin left (Some old) new (Err TooLong) = IsTooLong left old.bytes × (new ≡ Some (stopped End))
ReadsWithin left (Some old) new (Err Memory) = new ≡ Some (stopped End)
ReadsWithin left (Some old) new (Err fault) = ReadsLine (Some old) new (Err fault) × IsShort left old.bytes

-- The effect on the feed of consuming a line, whatever its bytes are: the line and its CR LF were at the front of the
-- feed.
abbrev pub TakesLine : Option Feed → Option Feed → List ℕ → Type 0
TakesLine None new text = ⊤
TakesLine (Some old) new text =
    (rest : List ℕ) × Line old.bytes text rest × (new ≡ Some (record { bytes = rest; stop = old.stop }))

-- The effect on the feed of finding a line within a limit: the line was consumed; or the line is buffered, and nothing
-- was consumed; or no line was found, with the same effect as reading one (`ReadsWithin`).
abbrev pub FindsLine : Option ℕ → Option Feed → Option Feed → List ℕ → ℕ → Result FirstLine LineFault → Type 0
FindsLine left old new held skip (Ok (Taken text)) = TakesLine old new text.items × IsWithin left (length text.items)
FindsLine left old new held skip (Ok (Held n)) = (new ≡ old) × (skip ≡ 0) × EndsLine held n × IsWithin left n
FindsLine left old new held skip (Err fault) = ReadsWithin left old new (Err fault) × (fault ≢ NotAscii)

-- ONE READ of a source. It is a read of the source's feed. Whatever the reader states, a read into an empty buffer
-- changes nothing, and the reader isn't called again after an end or a fault. A source that has reported its stop is
-- over: it stays so, and each later read into a nonempty buffer reports the same stop. Nothing is read ahead: a read
-- that returned bytes met no end or fault, and the reader isn't called if a byte is buffered after those to be skipped.
pub record ReadsSource {R : Type 0} (old new : SourceState R) (r : Result ℕ Error) (buf : List ℕ) : Type 0 where
  pub reads : Reads old.feed new.feed r buf
  pub empty : length buf ≡ 0 → (r ≡ Ok 0) × (new ≡ old)
  pub once : IsSome old.stop → IsSome new.stop × (new.reader ≡ old.reader)
  pub over : IfErr r (λ e. (new.is_over ≡ true) × (new.stop ≡ Some (Fault (error_kind e))))
  pub none : IfOk r (λ n. n ≡ 0 → 0 < length buf → (new.is_over ≡ true) × (new.stop ≡ Some End))
  pub stays : old.is_over ≡ true → (new ≡ old) × IfSome old.stop (λ stop. 0 < length buf → AnswersStop stop r)
  pub lazy : IfOk r (λ n. 0 < n → new.stop ≡ old.stop)
  pub held : old.skip < length old.held → new.reader ≡ old.reader
  pub input_state : new.input_state ≡ old.input_state

-- the feed of the bytes `rest`, with the stop of the feed f
abbrev pub feed_from : Feed → List ℕ → Option Feed
feed_from f rest = Some (record { bytes = rest; stop = f.stop })

-- whether exactly n bytes were taken, or fewer were left and all were taken
abbrev pub TakesExactly : {T : Type 0} → (T → List ℕ) → ℕ → Option Feed → Option Feed → Option T → Type 0
TakesExactly items n None new r = ⊤
TakesExactly items n (Some f) new (Some body) =
    (rest : List ℕ) × (f.bytes ≡ items body ++ rest) × (length (items body) ≡ n) × (new ≡ feed_from f rest)
TakesExactly items n (Some f) new None = (length f.bytes < n) × (new ≡ Some (stopped f.stop))

-- whether only bytes at the front were taken: the bytes still to come are a suffix of the old feed
pub record IsRestOf (old new : Feed) : Type 0 where
  pub gone : List ℕ
  pub joins : old.bytes ≡ gone ++ new.bytes

-- whether the new feed's bytes are a suffix of the old feed's, if the old feed is stated
abbrev pub GoesOn : Option Feed → Option Feed → Type 0
GoesOn None new = ⊤
GoesOn (Some old) None = ⊥
GoesOn (Some old) (Some new) = IsRestOf old new

-- whether the input has stopped as its feed does, and no byte is left
pub record IsCutOff {R : Type 0} (old new : SourceState R) : Type 0 where
  pub over : new.is_over ≡ true
  pub remains : (f : Feed) → old.feed ≡ Some f → new.feed ≡ Some (stopped f.stop)

-- THE CALLS OF A SOURCE. None of those below changes the input state. The reader isn't called again after an end or a
-- fault (`once`). Nothing is read ahead: a call that returned what was asked for met no end or fault (`lazy`), and the
-- reader isn't called if what was asked for was buffered (`held`).

-- The effect of looking for another byte: `found` says whether one is to come. A source that is over stays so.
pub record LooksForByte {R : Type 0} (old new : SourceState R) (found : Bool) : Type 0 where
  pub some : IsTrue found → HasByte old.feed × (new.stop ≡ old.stop)
  pub none : found ≡ false → HasNoByte old.feed × (new.is_over ≡ true)
  pub feed : new.feed ≡ old.feed
  pub once : IsSome old.stop → IsSome new.stop × (new.reader ≡ old.reader)
  pub held : old.skip < length old.held → new.reader ≡ old.reader
  pub holds : IsTrue found → new.skip < length new.held
  pub skipped : IsTrue found → new.skip ≡ 0
  pub stays : old.is_over ≡ true → (found ≡ false) × (new ≡ old)
  pub input_state : new.input_state ≡ old.input_state

-- The effect of skipping n more bytes. The reader isn't called unless the bytes to skip add up to 2^64 or more.
pub record SkipsBytes {R : Type 0} (n : ℕ) (old new : SourceState R) : Type 0 where
  pub feed : new.feed ≡ option_map (skipped n) old.feed
  pub alone : old.skip + n < 2 ^ 64 → (new.reader ≡ old.reader) × (new.stop ≡ old.stop)
  pub adds : old.skip + n < 2 ^ 64 → (new.skip ≡ old.skip + n) × (new.held ≡ old.held)
  pub once : IsSome old.stop → IsSome new.stop × (new.reader ≡ old.reader)
  pub input_state : new.input_state ≡ old.input_state

-- The effect of ending a source: the rest of its input is discarded, and the reader isn't called.
pub record EndsHere {R : Type 0} (old new : SourceState R) : Type 0 where
  pub feed : new.feed ≡ option_map (λ _. stopped End) old.feed
  pub at_end : IsAtEnd new
  pub reader : new.reader ≡ old.reader
  pub input_state : new.input_state ≡ old.input_state

-- The effect of reading a line, within the limit if there is one. After any fault except a line that isn't ASCII the
-- source is over; after refused memory or a line that is too long it is at its end. If the buffer holds at least as
-- many bytes as the limit after those to be skipped, the reader isn't called (`full`). A source that is over stays so,
-- and each further call fails with the fault of its stop, or with `TooLong` if the limit is 0.
pub record ReadsOneLine {R : Type 0} (left : Option ℕ) (old new : SourceState R)
    (r : Result (List ℕ) LineFault) : Type 0 where
  pub line : ReadsWithin left old.feed new.feed r
  pub goes_on : GoesOn old.feed new.feed
  pub limited : r ≡ Err TooLong → IsSome left
  pub once : IsSome old.stop → IsSome new.stop × (new.reader ≡ old.reader)
  pub over : IfErr r (λ fault. fault ≢ NotAscii → (new.is_over ≡ true) × IsSome new.stop)
  pub ended : IfErr r (λ fault. (fault ≡ Memory) ⊎ (fault ≡ TooLong) → new.stop ≡ Some End)
  pub stop : IfErr r (λ fault. fault ≢ NotAscii → fault ≢ Memory → fault ≢ TooLong
      → IfSome new.stop (λ stop. fault ≡ line_fault_of stop))
  pub stays : old.is_over ≡ true → left ≢ Some 0 → (new ≡ old) × IfSome old.stop (λ stop. r ≡ Err (line_fault_of stop))
  pub lazy : OnOk r (new.stop ≡ old.stop)
  pub passed : r ≡ Err NotAscii → new.stop ≡ old.stop
  pub held : HoldsLine old → new.reader ≡ old.reader
  pub full : IfSome left (λ n. old.skip + n ≤ length old.held → new.reader ≡ old.reader)
  pub input_state : new.input_state ≡ old.input_state

-- The effect of finding a line, whatever its bytes are, within the limit if there is one: the line is buffered or was
-- consumed. After any fault the source is over. The rest is as for reading a line (`ReadsOneLine`).
pub record FindsOneLine {R : Type 0} (left : Option ℕ) (old new : SourceState R)
    (r : Result FirstLine LineFault) : Type 0 where
  pub line : FindsLine left old.feed new.feed new.held new.skip r
  pub goes_on : GoesOn old.feed new.feed
  pub limited : r ≡ Err TooLong → IsSome left
  pub over : OnErr r ((new.is_over ≡ true) × IsSome new.stop)
  pub ended : IfErr r (λ fault. (fault ≡ Memory) ⊎ (fault ≡ TooLong) → new.stop ≡ Some End)
  pub stop : IfErr r (λ fault. fault ≢ Memory → fault ≢ TooLong → IfSome new.stop (λ stop. fault ≡ line_fault_of stop))
  pub once : IsSome old.stop → IsSome new.stop × (new.reader ≡ old.reader)
  pub held : HoldsLine old → new.reader ≡ old.reader
  pub full : IfSome left (λ n. old.skip + n ≤ length old.held → new.reader ≡ old.reader)
  pub stays : old.is_over ≡ true → left ≢ Some 0 → (new ≡ old) × IfSome old.stop (λ stop. r ≡ Err (line_fault_of stop))
  pub memory : r ≡ Err Memory → has_crlf (drop old.skip old.held) ≡ false
  pub lazy : OnOk r (new.stop ≡ old.stop)
  pub input_state : new.input_state ≡ old.input_state

-- The effect of consuming a buffered line of n bytes and its CR LF. The reader isn't called.
pub record PassesLine {R : Type 0} (n : ℕ) (old new : SourceState R) : Type 0 where
  pub line : TakesLine old.feed new.feed (take n old.held)
  pub goes_on : GoesOn old.feed new.feed
  pub rest : (new.held ≡ drop (n + 2) old.held) × (new.skip ≡ 0)
  pub reader : new.reader ≡ old.reader
  pub stop : new.stop ≡ old.stop
  pub input_state : new.input_state ≡ old.input_state

-- The effect of consuming n buffered bytes. The reader isn't called.
pub record TakesHeld {R : Type 0} (n : ℕ) (old new : SourceState R) : Type 0 where
  pub feed : old.feed ≡ prepended (take n old.held) new.feed
  pub goes_on : GoesOn old.feed new.feed
  pub rest : (new.held ≡ drop n old.held) × (new.skip ≡ 0)
  pub reader : new.reader ≡ old.reader
  pub stop : new.stop ≡ old.stop
  pub input_state : new.input_state ≡ old.input_state

-- The effect of taking exactly n bytes: they are taken; or fewer are left, all of these are taken, and the source is
-- over; or memory was refused, and nothing has changed.
pub record TakesBytes {R : Type 0} (n : ℕ) (old new : SourceState R)
    (r : Result (Option (Vec ℕ)) AllocError) : Type 0 where
  pub takes : IfOk r (λ body. TakesExactly (λ v. v.items) n old.feed new.feed body)
  pub exact : IfOk r (λ body. IfSome body (λ bytes. length bytes.items ≡ n))
  pub over : IfOk r (λ body. body ≡ None → new.is_over ≡ true)
  pub err : OnErr r (new ≡ old)
  pub once : IsSome old.stop → IsSome new.stop × (new.reader ≡ old.reader)
  pub lazy : IfOk r (λ body. IsSome body → new.stop ≡ old.stop)
  pub held : old.skip + n ≤ length old.held → new.reader ≡ old.reader
  pub goes_on : GoesOn old.feed new.feed
  pub input_state : new.input_state ≡ old.input_state
