-- Whole conversations: which replies and which output a list of steps may have. The laws of `InShort`
-- (`tiny_http_connection_laws`) use the fields `items`, `pipeline` and `end` of `IsConversation`, which `run`
-- guarantees; they can be understood without the rest of this file.
use Rattle.std.specs.Prelude.{◌≡◌, ℕ, ◌+◌, ◌-◌, ◌^◌, ◌<◌, ◌⊎◌, Bool, true, false, not, ◌&&◌, ◌||◌, List, [], ◌∷◌}
use Rattle.std.specs.Prelude.{◌++◌, map, length, Option, Some, None, is_some, unwrap_or, option_map, MatchBool}
use Rattle.std.specs.Prelude.{slice_get, if◌then◌else◌}
use Rattle.std.specs.List.{AllByRecursion}
use Rattle.std.specs.declared.io.ErrorKind.{ErrorKind}
use Rattle.httpdate.specs.declared.date.HttpDate.{HttpDate}
use Rattle.tiny_http_io.specs.Device.{Feed, Sink, IsFront, StatesKind}
use Rattle.tiny_http_body.specs.declared.framing.Profile.{Profile}
use Rattle.tiny_http_open_request.specs.Pipeline.{Item, Asks, Refuses, Place, body_length_or_0, Pipeline, place_after}
use Rattle.tiny_http_open_request.specs.Pipeline.{OneHead}
use Rattle.tiny_http_open_request.specs.HeadReads.{HasByteOrTimedOut}
use Rattle.tiny_http_io.specs.declared.device.Stop.{Stop}
use Rattle.tiny_http_open_request.specs.BodyRemains.{RemainsAt}
use Rattle.tiny_http_io.specs.declared.device.Stop.TheVariants.{End}
use Rattle.tiny_http_io.specs.ToCome.{stopped}
use Rattle.tiny_http_response.specs.ResponseValue.{ResponseValue}
use Rattle.tiny_http_response.specs.Answer.{IsGathered}
use Rattle.tiny_http_connection.specs.Segments.{Slot, is_finished}
use Rattle.tiny_http_connection.specs.Slots.{is_output_broken, joined, new_slot, rest_of, last_was_abandoned}
use Rattle.tiny_http_connection.specs.Slots.{last_slot, last_is_open, is_last_slot, last_holds_reader, turn_has_come}
use Rattle.tiny_http_connection.specs.Segments.{to_request}
use Rattle.tiny_http_connection.specs.Steps.{StepValue, Ask, Read, Respond, ReplyValue, NoSuch, Memory, TimedValue}
use Rattle.tiny_http_connection.specs.Outcomes.{WriterUse}
use Rattle.tiny_http_connection.specs.Outcomes.{Unused, Unreported, Reported, use_in_turn, Outcome, Reached, outcome}

-- The writer's first fault: its kind, and all that the writer took.
pub record Failure : Type 0 where
  pub kind : ErrorKind
  pub output : List ℕ

-- The state of a conversation: what has been reached; the output as of the last step that flushed it, while the writer
-- has not failed; and how the writer failed, if it did.
pub record State : Type 0 where
  pub reached : Reached
  pub flushed : List ℕ
  pub failure : Option Failure

-- whether the output has ended: the writer failed, or a segment broke off
abbrev pub has_output_ended : State → Bool
has_output_ended old = is_some old.failure || is_output_broken old.reached.slots

-- the number of slots before the first that isn't finished
abbrev pub finished_front : List Slot → ℕ
finished_front [] = 0
finished_front (s ∷ slots) = if is_finished s then finished_front slots + 1 else 0

-- HOW THE WRITER FARES in a step. `Well`: it doesn't fail. `FailsWithin`: it fails in what was held or in the step's
-- own text, and the reply is made from its fault. `FailsAfter`: it fails, and the reply isn't made from its fault: in a
-- text that was left for a later number, in any text of a step that reports no fault, or, if the step's data broke off,
-- in what was held or the step's own text.
pub data Fares : Type 0 where
  Well : Fares
  FailsWithin : (failure : Failure) → Fares
  FailsAfter : (failure : Failure) → Fares

-- whether what the writer took until it failed begins with `from` and is a prefix of `to`
abbrev pub FallsBetween : List ℕ → List ℕ → Failure → Type 0
FallsBetween from to f = IsFront from f.output × IsFront f.output to

-- whether a step can report the writer's fault: it can unless its data broke off before the first byte of its text
abbrev pub CanMeet : List ℕ → Option ErrorKind → Type 0
CanMeet [] (Some kind) = ⊥
CanMeet own broken = Unit {0}

-- whether the writer may fare like this in a step: a fault falls after what was flushed, and within what the step
-- leaves to send
abbrev pub MayFare : WriterUse → State → List Slot → Fares → Type 0
MayFare writer old slots Well = Unit {0}
MayFare Unused old slots (FailsWithin f) = ⊥
MayFare Unused old slots (FailsAfter f) = ⊥
MayFare Unreported old slots (FailsWithin f) = ⊥
MayFare Unreported old slots (FailsAfter f) = FallsBetween old.flushed (joined slots) f
MayFare (Reported own broken flushes report) old slots (FailsWithin f) =
    CanMeet own broken × FallsBetween old.flushed (joined old.reached.slots ++ own) f
MayFare (Reported own None flushes report) old slots (FailsAfter f) =
    (finished_front old.reached.slots + 1 < finished_front slots)
    × FallsBetween (joined old.reached.slots ++ own) (joined slots) f
MayFare (Reported own (Some kind) flushes report) old slots (FailsAfter f) =
    FallsBetween old.flushed (joined old.reached.slots ++ own) f

-- the reply to a step in which the writer fares like this: made from the writer's fault if it fares `FailsWithin`,
-- otherwise from the fault of the step's data, if any, and otherwise the planned reply
abbrev pub reply_in : WriterUse → ReplyValue → Fares → ReplyValue
reply_in (Reported own broken flushes report) planned (FailsWithin f) = report f.kind
reply_in (Reported own broken flushes report) planned _ = unwrap_or (option_map report broken) planned
reply_in _ planned _ = planned

abbrev pub failure_in : Fares → Option Failure
failure_in Well = None
failure_in (FailsWithin f) = Some f
failure_in (FailsAfter f) = Some f

-- whether a step writes nothing: it doesn't use the writer, or the output has ended
abbrev pub writes_nothing : WriterUse → State → Bool
writes_nothing Unused old = true
writes_nothing writer old = has_output_ended old

-- THE WRITER'S PART in a step: whether the step may have this reply, and the writer this failure after it, if any
abbrev pub WriterPart : WriterUse → State → ReplyValue → List Slot → ReplyValue → Option Failure → Type 0
WriterPart writer old planned slots reply failure =
    MatchBool (writes_nothing writer old)
    ((reply ≡ planned) × (failure ≡ old.failure))
    ((fares : Fares)
    × MayFare writer old slots fares
    × (reply ≡ reply_in writer planned fares)
    × (failure ≡ failure_in fares))

abbrev pub flushes : WriterUse → Bool
flushes Unused = false
flushes Unreported = true
flushes (Reported own broken flushed report) = flushed

-- the output as of the last step that flushed it, after a step that uses the writer like this
abbrev pub flushed_after : WriterUse → State → List Slot → List ℕ
flushed_after writer old slots =
    if (flushes writer && not (writes_nothing writer old)) then joined slots else old.flushed

abbrev pub reached_by : Outcome → Reached
reached_by o = record { slots = o.slots; rest = o.rest; asking_ended = o.asking_ended }

-- whether a step with this outcome may have this reply and lead to the state `new`
abbrev pub HasOutcome : Outcome → State → ReplyValue → State → Type 0
HasOutcome o old reply new =
    (new.reached ≡ reached_by o)
    × (new.flushed ≡ flushed_after o.writer old o.slots)
    × WriterPart o.writer old o.reply o.slots reply new.failure

-- whether the response's data are read whole before its head is sent, if it is the response to this item; false for a
-- refused head
abbrev pub GathersFor : HttpDate → ResponseValue → Slot → Item → Type 0
GathersFor date response s (Asks r) = IsGathered response.answer (to_request r.framing.is_last r date)
GathersFor date response s (Refuses refusal manner no_body last) = ⊥

abbrev pub GathersAt : HttpDate → ResponseValue → Option Slot → Type 0
GathersAt date response None = ⊥
GathersAt date response (Some s) = GathersFor date response s s.item

-- whether `found` may have this value in a step: memory for response data may be missing only in a Respond that has to
-- read its data whole
abbrev pub MayLack : Bool → HttpDate → Reached → StepValue → Type 0
MayLack true date old step = Unit {0}
MayLack false date old (Respond k response) = GathersAt date response (slice_get old.slots k)
MayLack false date old _ = ⊥

-- whether the item is a refused head after which further heads are read
abbrev pub IsPassedOver : Item → Type 0
IsPassedOver (Asks r) = ⊥
IsPassedOver (Refuses refusal manner no_body last) = last ≡ false

-- how an Ask uses the writer for the heads that it refuses: it sends their error responses if the turn of the first has
-- come
abbrev pub answers_to : List Slot → List Item → WriterUse
answers_to slots [] = Unused
answers_to slots (item ∷ refused) = use_in_turn (turn_has_come (length slots) slots)

-- the outcome of an Ask that refuses these heads, and is then refused memory for a head: `Memory`, and the requests
-- have ended
abbrev pub lacks_head : HttpDate → Reached → List Item → List Item → Outcome
lacks_head date old refused rest =
    record {
      reply = Memory;
      slots = old.slots ++ map (new_slot date) refused;
      rest = rest;
      asking_ended = true;
      writer = answers_to old.slots refused;
    }

-- whether a step may be out of memory and lead to the state `new`: a Read of at least one byte, which changes nothing,
-- or an Ask, at a head after those that it refuses
abbrev pub FindsNoMemory : HttpDate → State → StepValue → ReplyValue → State → Type 0
FindsNoMemory date old (Read k n) reply new =
    0 < n × ((outcome true date old.reached (Read k n)).reply ≡ NoSuch → ⊥) × (reply ≡ Memory) × (new ≡ old)
FindsNoMemory date old Ask reply new =
    (old.reached.asking_ended ≡ false)
    × (is_last_slot (last_slot old.reached.slots) ≡ false)
    × (last_holds_reader (last_slot old.reached.slots) ≡ false)
    × (last_was_abandoned (last_slot old.reached.slots) ≡ false)
    × (refused : List Item)
    × (rest : List Item)
    × (old.reached.rest ≡ refused ++ rest)
    × AllByRecursion IsPassedOver refused
    × HasOutcome (lacks_head date old.reached refused rest) old reply new
FindsNoMemory date old _ reply new = ⊥

-- Whether a step on this date may have this reply and lead to the state `new`.
abbrev pub StepsTo : State → HttpDate → StepValue → ReplyValue → State → Type 0
StepsTo old date step reply new =
    ((found : Bool)
    × MayLack found date old.reached step
    × HasOutcome (outcome found date old.reached step) old reply new)
    ⊎ FindsNoMemory date old step reply new

-- whether these steps may have these replies, one after another, and lead to the state `new`
abbrev pub Run : State → List TimedValue → List ReplyValue → State → Type 0
Run old [] [] new = new ≡ old
Run old (s ∷ steps) (r ∷ replies) new = (mid : State) × StepsTo old s.0 s.1 r mid × Run mid steps replies new
Run old [] (r ∷ replies) new = ⊥
Run old (s ∷ steps) [] new = ⊥

-- the state in which nothing of this pipeline has been reached
abbrev pub start_state : List Item → State
start_state items =
    record { reached = record { slots = []; rest = items; asking_ended = false }; flushed = []; failure = None }

-- Whether this is the output of these slots. If the writer didn't fail, what it took and what is held are the joined
-- segments, it took all that was flushed, and the output has ended exactly if a segment broke off. If it failed, it
-- failed once: it states the kind and the output of this failure, nothing is held, and the output has ended.
abbrev pub IsOutput : List Slot → List ℕ → Option Failure → Sink → Sink → List ℕ → Bool → Type 0
IsOutput slots flushed None before after held ended =
    (after.failures ≡ before.failures)
    × (taken : List ℕ)
    × (after.taken ≡ Some taken)
    × (taken ++ held ≡ joined slots)
    × IsFront flushed taken
    × (ended ≡ is_output_broken slots)
IsOutput slots flushed (Some f) before after held ended =
    (after.failures ≡ before.failures + 1)
    × StatesKind after.last_kind f.kind
    × (after.taken ≡ Some f.output)
    × (held ≡ [])
    × (ended ≡ true)

-- whether these are the items still to be read: none after the last head, else the pipeline from the input's position
abbrev pub PlaceAt : Profile → Bool → Option Feed → List Item → Type 0
PlaceAt p true feed rest = rest ≡ []
PlaceAt p false None rest = ⊥
PlaceAt p false (Some f) rest = Pipeline p (Some f.bytes) f.stop rest

-- Whether the input's position is within this number's body: what is left of the body comes next, and after it, unless
-- the requests have ended, the rest of the pipeline.
abbrev pub WithinBody : Profile → Bool → Slot → Item → Feed → List Item → Type 0
WithinBody p ended s (Asks r) feed rest =
    (next : Place)
    × RemainsAt r.framing.by_standard r.framing.form (body_length_or_0 r.framing - s.given) feed.bytes feed.stop
    (rest_of r s.given) next
    × (ended ≡ false → Pipeline p (place_after r.framing.is_last next) feed.stop rest)
WithinBody p ended s (Refuses refusal manner no_body last) feed rest = ⊥

abbrev pub WithinLast : Profile → Bool → Option Slot → Option Feed → List Item → Type 0
WithinLast p ended (Some s) (Some feed) rest = WithinBody p ended s s.item feed rest
WithinLast p ended _ _ rest = ⊥

-- WHERE THE INPUT IS. While the last body is open, the position is within it, even once the requests have ended.
-- Otherwise nothing is required once the requests have ended. Before that, the input has ended if a chunked body was
-- given up before its end was reported; if not, the bytes to come hold the rest of the pipeline, which is empty after
-- the last head.
abbrev pub InputAt : Profile → Reached → Option Feed → Type 0
InputAt p old feed =
    MatchBool (last_is_open (last_slot old.slots))
    (WithinLast p old.asking_ended (last_slot old.slots) feed old.rest)
    (MatchBool old.asking_ended (Unit {0})
    (MatchBool (last_was_abandoned (last_slot old.slots)) (feed ≡ Some (stopped End))
    (PlaceAt p (is_last_slot (last_slot old.slots)) feed old.rest)))

-- whether, after all these heads, a byte of a further one comes, or, except under Standard, the reader times out there
abbrev pub BeginsBehind : Profile → Place → Stop → List Item → Type 0
BeginsBehind p None stop items = ⊥
BeginsBehind p (Some bytes) stop [] = HasByteOrTimedOut p (Some (record { bytes = bytes; stop = stop }))
BeginsBehind p (Some bytes) stop (item ∷ items) =
    (next : Place) × OneHead p bytes stop (Some item) next × BeginsBehind p next stop items

-- whether a step is an Ask for which memory was refused
abbrev pub IsAskOutOfMemory : StepValue → ReplyValue → Type 0
IsAskOutOfMemory Ask Memory = Unit {0}
IsAskOutOfMemory _ _ = ⊥

-- whether one of these steps is an Ask for which memory was refused
abbrev pub HasAskOutOfMemory : List TimedValue → List ReplyValue → Type 0
HasAskOutOfMemory (s ∷ steps) (r ∷ replies) = IsAskOutOfMemory s.1 r ⊎ HasAskOutOfMemory steps replies
HasAskOutOfMemory _ _ = ⊥

-- THE CONNECTION THEOREM: the replies and the output are those of a run over the pipeline of the feed under this
-- profile, and `unread` is what is left of the feed, as `InputAt` defines. No memory is requested for a head if none
-- comes: if an Ask was out of memory, an item of the pipeline is left, or a byte of a further head comes after the
-- whole pipeline, or, except under Standard, the reader times out there.
pub record IsConversation (p : Profile) (feed : Feed) (before : Sink) (steps : List TimedValue)
    (replies : List ReplyValue) (after : Sink) (held : List ℕ) (ended : Bool) (unread : Option Feed) : Type 0 where
  pub items : List Item
  pub end : State
  pub pipeline : Pipeline p (Some feed.bytes) feed.stop items
  pub run : Run (start_state items) steps replies end
  pub output : IsOutput end.reached.slots end.flushed end.failure before after held ended
  pub input : InputAt p end.reached unread
  pub memory : HasAskOutOfMemory steps replies → end.reached.rest ≡ []
      → BeginsBehind p (Some feed.bytes) feed.stop items

-- The writer at the start of a run: it states that it took no bytes, has not ended and can count a failure.
pub record IsFresh (sink : Sink) : Type 0 where
  pub no_bytes : sink.taken ≡ Some []
  pub unended : sink.has_ended ≡ false
  pub can_count : sink.failures < 2 ^ 64 - 1
