-- Feeds and sinks: the bytes that readers and writers state, and the effects of reads and writes on them.
use Rattle.std.specs.Prelude.{◌≡◌, ℕ, ◌+◌, ◌-◌, ◌*◌, ◌^◌, ◌<◌, ◌≤◌, min, Bool, true, false, List, [], ◌++◌, length}
use Rattle.std.specs.Prelude.{take, drop, Option, Some, None, Result, Ok, Err, IfOk, IfErr, OnErr, ⊤, ◌⊎◌}
use Rattle.std.specs.Option.{option_map}
use Rattle.std.specs.IoError.{error_kind}
use Rattle.std.specs.declared.io.Error.{Error}
use Rattle.std.specs.declared.io.ErrorKind.{ErrorKind}
use Rattle.std.specs.declared.io.ErrorKind.TheVariants.{UnexpectedEof, OutOfMemory}
use Rattle.std.specs.Io.KnownBytes.{append_known}
use Rattle.tiny_http_io.specs.declared.device.Stop.{Stop}
use Rattle.tiny_http_io.specs.declared.device.Stop.TheVariants.{End, Fault}

-- the bytes still to come from a reader, and how the input stops after them
pub record Feed : Type 0 where
  pub bytes : List ℕ
  pub stop : Stop

-- the bytes of a feed, if the feed is stated
abbrev pub bytes_of : Option Feed → Option (List ℕ)
bytes_of None = None
bytes_of (Some f) = Some f.bytes

-- a feed that ends after these bytes
abbrev pub whole_feed : List ℕ → Feed
whole_feed bs = record { bytes = bs; stop = End }

-- the feed of these bytes followed by the feed `feed`
abbrev pub prepend : List ℕ → Feed → Feed
prepend bs feed = record { bytes = bs ++ feed.bytes; stop = feed.stop }

-- the feed of these bytes followed by the feed `feed`, if that is stated
abbrev pub prepended : List ℕ → Option Feed → Option Feed
prepended bs feed = option_map (prepend bs) feed

-- whether the feed `new` is the rest of the feed `old` once some bytes at its front have been taken, or neither feed is
-- stated
abbrev pub TakesFront : Option Feed → Option Feed → Type 0
TakesFront old new = (gone : List ℕ) × (old ≡ prepended gone new)

-- whether no byte is left of the feed and it stops in this way, if the feed is stated
abbrev pub StopsBy : Stop → Option Feed → Type 0
StopsBy stop None = ⊤
StopsBy stop (Some feed) = (feed.bytes ≡ []) × (feed.stop ≡ stop)

-- whether the result of a read is this end or fault
abbrev pub AnswersStop : Stop → Result ℕ Error → Type 0
AnswersStop End (Ok n) = n ≡ 0
AnswersStop End (Err e) = ⊥
AnswersStop (Fault kind) (Ok n) = ⊥
AnswersStop (Fault kind) (Err e) = error_kind e ≡ kind

-- how a reader stops: with a fault of this kind if one is given, and otherwise with an end
abbrev pub stop_of : Option ErrorKind → Stop
stop_of None = End
stop_of (Some kind) = Fault kind

-- the kind of the error that reports a stop before all wanted bytes have come: the fault's, or `UnexpectedEof` for an
-- end
abbrev pub fault_of : Stop → ErrorKind
fault_of End = UnexpectedEof
fault_of (Fault kind) = kind

-- ONE READ into a buffer. The bytes that came are the next of the feed and are at the front of the buffer. A read into
-- a nonempty buffer that returns 0 is at the feed's end, after the last byte. An error comes only after the last byte,
-- is the feed's fault, and takes nothing. If the feed isn't stated, nothing is claimed about the bytes.
pub record Reads (old new : Option Feed) (r : Result ℕ Error) (buf : List ℕ) : Type 0 where
  pub bound : IfOk r (λ n. n ≤ length buf)
  pub bytes : IfOk r (λ n. old ≡ prepended (take n buf) new)
  pub end : IfOk r (λ n. n ≡ 0 → 0 < length buf → StopsBy End old)
  pub fault : IfErr r (λ e. StopsBy (Fault (error_kind e)) old)
  pub again : OnErr r (new ≡ old)

-- the number of faults that a call reports
abbrev pub fault_count : {T E : Type 0} → Result T E → ℕ
fault_count (Ok x) = 0
fault_count (Err e) = 1

-- THE ENDS AND FAULTS THAT A READ MEETS, according to the reader's own count of those that it has reported: at most
-- one, and none if bytes came.
pub record Tells (old new : ℕ) (r : Result ℕ Error) : Type 0 where
  pub once : new ≤ old + 1
  pub lazy : IfOk r (λ n. 0 < n → new ≤ old)

-- The effect of one read, by cases. The bytes that it returned came from the front of the feed. It returned 0 for a
-- nonempty buffer only at the end, after the last byte. A fault comes only after the last byte and changes nothing. If
-- the feed isn't stated, nothing is claimed.
abbrev pub ReadsFrom : Option Feed → Option Feed → Result ℕ Error → List ℕ → Type 0
ReadsFrom None new r buf = ⊤
ReadsFrom (Some f) None r buf = ⊥
ReadsFrom (Some f) (Some g) (Ok n) buf =
    (f.bytes ≡ take n buf ++ g.bytes) × (g.stop ≡ f.stop) × (n ≡ 0 → 0 < length buf → (f.bytes ≡ []) × (f.stop ≡ End))
ReadsFrom (Some f) (Some g) (Err e) buf = (f.bytes ≡ []) × (f.stop ≡ Fault (error_kind e)) × (g ≡ f)

-- whether the bytes `front` are a prefix of the bytes `whole`
abbrev pub IsFront : List ℕ → List ℕ → Type 0
IsFront front whole = (rest : List ℕ) × (whole ≡ front ++ rest)

-- The sink of a writer: the bytes that the writer took, if it states them; the prefix of those bytes that it has sent
-- on, which no failure takes back; how often it failed, and the kind of the last failure, if it states that; and
-- whether it has ended. A writer that has ended returns `Ok` and takes no more bytes.
pub record Sink : Type 0 where
  pub taken : Option (List ℕ)
  pub sent : List ℕ
  pub failures : ℕ
  pub last_kind : Option ErrorKind
  pub has_ended : Bool

-- whether the bytes that were sent on are a prefix of those that were taken, if these are stated
abbrev pub BeginsKnown : List ℕ → Option (List ℕ) → Type 0
BeginsKnown sent None = ⊤
BeginsKnown sent (Some taken) = IsFront sent taken

-- whether the bytes that were sent on are all those that were taken, if these are stated
abbrev pub IsAllKnown : List ℕ → Option (List ℕ) → Type 0
IsAllKnown sent None = ⊤
IsAllKnown sent (Some taken) = sent ≡ taken

-- whether a writer holds back none of the bytes that it took, if it states them
abbrev pub HoldsNothing : Sink → Type 0
HoldsNothing s = IsAllKnown s.sent s.taken

-- whether the bytes `known` are a prefix of the bytes `whole`, or neither are stated
abbrev pub IsKnownFront : Option (List ℕ) → Option (List ℕ) → Type 0
IsKnownFront known whole = (rest : List ℕ) × (whole ≡ append_known known rest)

-- the bytes that a writer has taken once it has been given the bytes `bs`: the bytes `known`, which it took before, and
-- `bs`, or only `known` if it had ended (`true`)
abbrev pub grown : Bool → Option (List ℕ) → List ℕ → Option (List ℕ)
grown true known bs = known
grown false known bs = append_known known bs

-- whether the stated kind is this kind, if one is stated
abbrev pub StatesKind : Option ErrorKind → ErrorKind → Type 0
StatesKind None kind = ⊤
StatesKind (Some stated) kind = stated ≡ kind

-- the count of failures after one more, at most 2^64 - 1
abbrev pub next_count : ℕ → ℕ
next_count n = min (n + 1) (2 ^ 64 - 1)

-- whether the writer took the text, or nothing if it has ended, and didn't fail
pub record Took (old new : Sink) (text : List ℕ) : Type 0 where
  pub bytes : new.taken ≡ grown old.has_ended old.taken text
  pub sent : IsFront old.sent new.sent
  pub failures : new.failures ≡ old.failures
  pub last_kind : new.last_kind ≡ old.last_kind
  pub stays : new.has_ended ≡ old.has_ended

-- whether a writer that had not ended failed with an error of this kind; if it states its bytes, they are a prefix of
-- its earlier bytes followed by the text, and begin with all that it has sent on
pub record Failed (old new : Sink) (text : List ℕ) (kind : ErrorKind) : Type 0 where
  pub bytes : IsKnownFront new.taken (append_known old.taken text)
  pub sent : IsFront old.sent new.sent
  pub keeps : BeginsKnown new.sent new.taken
  pub failures : new.failures ≡ next_count old.failures
  pub last_kind : StatesKind new.last_kind kind
  pub was_open : old.has_ended ≡ false

-- The effect of writing all of the text on what the writer states. `Ok`: the writer took all of the text, or nothing if
-- it had ended. An error: the writer failed with the error's kind.
abbrev pub Puts : {T : Type 0} → Sink → Sink → Result T Error → List ℕ → Type 0
Puts old new (Ok x) text = Took old new text
Puts old new (Err e) text = Failed old new text (error_kind e)

-- The effect of writing some of the text on what the writer states. `Ok(n)`: the writer took the first n bytes of the
-- text, or nothing if it had ended; n is at least 1 unless the text is empty. An error: the writer failed with the
-- error's kind.
abbrev pub PutsFront : Sink → Sink → Result ℕ Error → List ℕ → Type 0
PutsFront old new (Ok n) text = (n ≤ length text) × (0 < length text → 0 < n) × Took old new (take n text)
PutsFront old new (Err e) text = Failed old new text (error_kind e)

-- whether a writer's count of failures, the kind of the last one, and whether the writer has ended didn't change
pub record SameFaults (old new : Sink) : Type 0 where
  pub failures : new.failures ≡ old.failures
  pub last_kind : new.last_kind ≡ old.last_kind
  pub stays : new.has_ended ≡ old.has_ended

-- whether a writer that had not ended failed with an error of this kind
pub record Faulted (old new : Sink) (kind : ErrorKind) : Type 0 where
  pub failures : new.failures ≡ next_count old.failures
  pub last_kind : StatesKind new.last_kind kind
  pub was_open : old.has_ended ≡ false

-- The effect of a writing call on the faults that a writer states, whatever the call writes. `Ok` changes nothing. An
-- error either wasn't the writer's and changed nothing, or was the writer's and was counted.
abbrev pub CountsFaults : {T : Type 0} → Sink → Sink → Result T Error → Type 0
CountsFaults old new (Ok x) = SameFaults old new
CountsFaults old new (Err e) = SameFaults old new ⊎ Faulted old new (error_kind e)

-- whether a reader returned the first n bytes of its feed, and a writer took them
pub record Copied (old new : Feed) (from to : Sink) (n : ℕ) : Type 0 where
  pub within : n ≤ length old.bytes
  pub rest : new.bytes ≡ drop n old.bytes
  pub stop : new.stop ≡ old.stop
  pub taken : Took from to (take n old.bytes)

-- whether a reader returned the first n bytes of its feed, and a writer took them, if the feed is stated
abbrev pub CopiedKnown : Option Feed → Option Feed → Sink → Sink → ℕ → Type 0
CopiedKnown None new from to n = ⊤
CopiedKnown (Some f) None from to n = ⊥
CopiedKnown (Some f) (Some g) from to n = Copied f g from to n

-- whether a copy broke off with an error of this kind, if the feed is stated: the reader stopped before it returned
-- another byte, or the writer failed within the next `left` bytes
abbrev pub CopyBreaks : Option Feed → Sink → Sink → ℕ → ErrorKind → Type 0
CopyBreaks None from to left kind = ⊤
CopyBreaks (Some f) from to left kind =
    ((f.bytes ≡ []) × (fault_of f.stop ≡ kind) × Took from to []) ⊎ Failed from to (take left f.bytes) kind

-- whether a call copied at least one of the next `left` bytes from a reader to a writer, or broke off
abbrev pub CopiesPiece : Option Feed → Option Feed → Sink → Sink → ℕ → Result ℕ Error → Type 0
CopiesPiece f g from to left (Ok n) = (0 < n) × (n ≤ left) × CopiedKnown f g from to n
CopiesPiece f g from to left (Err e) = CopyBreaks f from to left (error_kind e)

-- whether a call filled a buffer from the feed, wholly or with all bytes before an end, or failed with the feed's
-- fault, which came before the buffer was full; if the feed isn't stated, nothing is claimed
abbrev pub Fills : Option Feed → Option Feed → Result ℕ Error → List ℕ → Type 0
Fills None new r buf = ⊤
Fills (Some f) None r buf = ⊥
Fills (Some f) (Some g) (Ok n) buf =
    (n ≤ length f.bytes)
    × (take n buf ≡ take n f.bytes)
    × (g.bytes ≡ drop n f.bytes)
    × (g.stop ≡ f.stop)
    × (n < length buf → (g.bytes ≡ []) × (f.stop ≡ End))
Fills (Some f) (Some g) (Err e) buf = (length f.bytes < length buf) × (f.stop ≡ Fault (error_kind e))

-- whether the first n bytes of a buffer came from the feed, if the feed is stated
abbrev pub FilledTo : Option Feed → Option Feed → ℕ → List ℕ → Type 0
FilledTo None new n buf = ⊤
FilledTo (Some f) None n buf = ⊥
FilledTo (Some f) (Some g) n buf =
    (n ≤ length f.bytes) × (take n buf ≡ take n f.bytes) × (g.bytes ≡ drop n f.bytes) × (g.stop ≡ f.stop)

-- whether a call returned all bytes of a feed that ends, or failed with the feed's fault or with `OutOfMemory`
abbrev pub Gathers : {T : Type 0} → (T → List ℕ) → Feed → Result T Error → Type 0
Gathers items f (Ok all) = (items all ≡ f.bytes) × (f.stop ≡ End)
Gathers items f (Err e) = (f.stop ≡ Fault (error_kind e)) ⊎ (error_kind e ≡ OutOfMemory)

-- whether the list `all` holds the first `count` pieces of 8192 bytes of a feed, and these were taken, if the feed is
-- stated
abbrev pub GatheredTo : Option Feed → Option Feed → List ℕ → ℕ → Type 0
GatheredTo None new all count = ⊤
GatheredTo (Some f) None all count = ⊥
GatheredTo (Some f) (Some g) all count =
    (count * 8192 ≤ length f.bytes)
    × (all ≡ take (count * 8192) f.bytes)
    × (g.bytes ≡ drop (count * 8192) f.bytes)
    × (g.stop ≡ f.stop)
