-- The effects of the calls on a `Connection`. The laws of `InShort` (`tiny_http_connection_laws`) can be understood
-- without this file.
use Rattle.std.specs.Prelude.{◌≡◌, ◌⊎◌, ◌||◌, ℕ, ◌+◌, Bool, true, false, List, [], ◌∷◌, ◌++◌, length, replicate}
use Rattle.std.specs.Prelude.{Option, Some, None, IsSome, MatchBool, drop, slice_get, slice_set, if◌then◌else◌}
use Rattle.std.specs.Prelude.{string_bytes, ◌<◌, ◌≤◌, ◌^◌, ⊤, nat_lt}
use Rattle.std.specs.declared.io.ErrorKind.{ErrorKind}
use Rattle.httpdate.specs.declared.date.HttpDate.{HttpDate}
use Rattle.tiny_http_io.specs.Device.{Feed, Sink, IsFront}
use Rattle.tiny_http_response.specs.Answer.{Answer, ResponseState, text_of}
use Rattle.tiny_http_connection.specs.declared.driver.Step.{Step}
use Rattle.tiny_http_connection.specs.declared.driver.Step.TheVariants as step
use Rattle.tiny_http_io.specs.Source.{SourceState, GoesOn, IsAtEnd}
use Rattle.tiny_http_turns.specs.Turns.{Mark, Open}
use Rattle.tiny_http_io.specs.declared.source.InputState.{InputState}
use Rattle.tiny_http_io.specs.declared.source.InputState.TheVariants as at
use Rattle.tiny_http_head.specs.declared.common.StatusCode.{StatusCode}
use Rattle.tiny_http_head.specs.Heads.{Message}
use Rattle.tiny_http_open_request.specs.declared.exchange.EndOfRequests.{EndOfRequests}
use Rattle.tiny_http_open_request.specs.declared.exchange.EndOfRequests.TheVariants as because
use Rattle.tiny_http_open_request.specs.HeadReads.{EndsAt, IsBeforeHead, HasByteOrTimedOut, ComesWith, IsFramedAs}
use Rattle.tiny_http_open_request.specs.HeadReads.{head_message, head_framing, FitsFraming}
use Rattle.tiny_http_open_request.specs.OpenRequest.{KeepsHead, HasSentAll}
use Rattle.tiny_http_open_request.specs.ErrorResponse.{own_text_by}
use Rattle.tiny_http_open_request.specs.declared.exchange.Head.{Head}
use Rattle.tiny_http_body.specs.declared.framing.Profile.{Profile}
use Rattle.tiny_http_body.specs.declared.framing.Framing.{Framing}
use Rattle.tiny_http_io.specs.Outlet.{output_of, SentOn}
use Rattle.tiny_http_open_request.specs.Pipeline.{Item, Manner, Asks, Refuses, Refusal, refusal_status, OneHead}
use Rattle.tiny_http_open_request.specs.Pipeline.{Pipeline, Place, place_feed, place_after}
use Rattle.tiny_http_connection.specs.Steps.{StepValue, ReplyValue, Given, Handed, Ended, NotYet, Done, Refused, NoSuch}
use Rattle.tiny_http_connection.specs.Steps.{Memory, Fault, TimedValue}
use Rattle.tiny_http_connection.specs.Conversation.{State, Run, start_state, IsFresh, IsPassedOver, HasAskOutOfMemory}
use Rattle.tiny_http_connection.specs.Conversation.{BeginsBehind}
use Rattle.tiny_http_response.specs.declared.response_context.ResponseContext.{ResponseContext}
use Rattle.tiny_http_response.specs.ResponseValue.{printing_in}
use Rattle.tiny_http_response.specs.Sending.{CanSend, IsHonest, FailsOnce, SendsQuietlyOn}
use Rattle.tiny_http_connection.specs.Pending.{waiting_response_context, owes_continue, is_last_once_finished_at}
use Rattle.tiny_http_connection.specs.Pending.{refuses_at, refuses_upgrade_at, is_last_with_stream_at, closing_if_asked}
use Rattle.tiny_http_connection.specs.Pending.{last_holds_next_head, kept_body, GivesUpIfKept, number_with_body}
use Rattle.tiny_http_connection.specs.Pending.{begins_left, is_readable, FinishesFront}
use Rattle.tiny_http_body.specs.declared.body.UnreadBody.{UnreadBody}
use Rattle.tiny_http_body.specs.declared.body.UnreadBody.TheVariants.{Over}
use Rattle.tiny_http_io.specs.declared.device.Stop.TheVariants.{Fault as Faults}
use Rattle.tiny_http_open_request.specs.declared.open_request.OpenRequest.{OpenRequest}
use Rattle.tiny_http_connection.specs.declared.pending.Unfinished.{Unfinished}
use Rattle.tiny_http_connection.specs.declared.pending.Unfinished.TheVariants as still
use Rattle.tiny_http_body.specs.Body.{Remaining, remaining, is_streaming, stream_body, body_input_state, ends_met}
use Rattle.tiny_http_body.specs.Body.{ReadsOn, is_whole}
use Rattle.tiny_http_connection.specs.Seen.{IsStep, IsAnswered, IsOfWriter, ReportsOfWriter, all_sent_after}
use Rattle.tiny_http_connection.specs.Outcomes.{fault_reply}
use Rattle.tiny_http_connection.specs.Giving.{TakesNext}
use Rattle.tiny_http_connection.specs.Replies.{StepReplies, can_take, is_in_turn}
use Rattle.tiny_http_connection.specs.Connection.{ConnectionState, kept, Represents}

-- Whether a connection of this profile, over this client's feed and a fresh writer, took these steps with these
-- replies: they are a run over the pipeline of the feed, and the connection represents the state that the run reaches.
pub record HasDone {R W : Type 0} (p : Profile) (client : Feed) (before : Sink) (c : ConnectionState R W)
    (steps : List TimedValue) (replies : List ReplyValue) : Type 0 where
  pub profile : c.profile ≡ p
  pub fresh : IsFresh before
  pub items : List Item
  pub pipeline : Pipeline p (Some client.bytes) client.stop items
  pub at : State
  pub run : Run (start_state items) steps replies at
  pub represents : Represents client before (kept c) at
  pub memory : HasAskOutOfMemory steps replies
      → (at.reached.asking_ended ≡ true)
      × (at.reached.rest ≡ [] → BeginsBehind p (Some client.bytes) client.stop items)

-- a response with the bytes that its data state, if any, in place of the data
abbrev pub stated_response : {D : Type 0} → (D → Option Feed) → ResponseState D → ResponseState (Option Feed)
stated_response feed r = record { answer = r.answer; data_reader = feed r.data_reader }

abbrev pub stated_step : {D : Type 0} → (D → Option Feed) → Step D → Step (Option Feed)
stated_step feed step.Ask = step.Ask
stated_step feed (step.AsReader k) = step.AsReader k
stated_step feed (step.Read k n) = step.Read k n
stated_step feed (step.Respond k r) = step.Respond k (stated_response feed r)
stated_step feed (step.IntoWriter k) = step.IntoWriter k
stated_step feed (step.Write k bytes) = step.Write k bytes
stated_step feed (step.Flush k) = step.Flush k
stated_step feed (step.Upgrade k p r) = step.Upgrade k p (stated_response feed r)
stated_step feed (step.Finish k) = step.Finish k
stated_step feed (step.Drop k) = step.Drop k

-- whether the head at this position is refused and ends the requests, and `why` states its status
abbrev pub IsRefusal : Profile → Feed → EndOfRequests → Type 0
IsRefusal p f why =
    (status : StatusCode)
    × (refusal : Refusal)
    × (manner : Manner)
    × (no_body : Bool)
    × OneHead p f.bytes f.stop (Some (Refuses refusal manner no_body true)) None
    × (status.0 ≡ refusal_status refusal) × (why ≡ because.Refused status)

-- whether no request follows in these bytes for this reason: a head is refused and ends the requests, or no head
-- follows
abbrev pub EndsThere : Profile → InputState → Feed → EndOfRequests → Type 0
EndsThere p input_state f why =
    IsRefusal p f why ⊎ (OneHead p f.bytes f.stop None None × EndsAt p input_state f.bytes f.stop why)

-- Whether the first heads of this feed are refused, as these items, further heads are read after each of them, and the
-- feed `behind` follows the last.
abbrev pub ArePassedOver : Profile → Feed → List Item → Feed → Type 0
ArePassedOver p f [] behind = behind ≡ f
ArePassedOver p f (item ∷ items) behind =
    IsPassedOver item
    × (next : Place)
    × OneHead p f.bytes f.stop (Some item) next
    × ArePassedOver p (place_feed f.stop next) items behind

-- whether, after some refused heads that don't end the requests, a byte of a further head comes, or, except under
-- Standard, the reader times out there; always true if the reader doesn't state its bytes
abbrev pub HasByteBehind : Profile → Option Feed → Type 0
HasByteBehind p None = ⊤
HasByteBehind p (Some f) =
    (passed : List Item) × (behind : Feed) × ArePassedOver p f passed behind × HasByteOrTimedOut p (Some behind)

-- the source's input state after these refused heads
abbrev pub input_state_past : InputState → List Item → InputState
input_state_past input_state [] = input_state
input_state_past input_state (item ∷ items) = at.Head

-- WHETHER THE REQUESTS END at the source's position for this reason: the last request was read, or no request follows
-- in the bytes to come, after refused heads that are passed over.
abbrev pub EndsRequestsAt : Profile → InputState → Option Feed → EndOfRequests → Type 0
EndsRequestsAt p at.Last feed why = why ≡ because.LastRequest
EndsRequestsAt p input_state feed why =
    (f : Feed)
    → feed ≡ Some f
    → (passed : List Item)
    × (behind : Feed)
    × ArePassedOver p f passed behind
    × EndsThere p (input_state_past input_state passed) behind why

-- whether the next head can be read: it needn't wait for the response to the last request, and no body holds the reader
abbrev pub IsFree : {R W : Type 0} → ConnectionState R W → Type 0
IsFree c = (c.source.input_state ≡ at.Body → ⊥) × (last_holds_next_head c.requests ≡ false)

-- How an Ask ends the requests, depending on its reply: for a reason in the client's bytes, or because memory for a
-- head was refused. After the end an Ask changes nothing, and after the last request it leaves the source unchanged. It
-- reads no head if the source has ended, nor while the last request holds the reader; only in the second case does it
-- wait.
abbrev pub AskEnds : {R W : Type 0} → ConnectionState R W → ConnectionState R W → ReplyValue → Type 0
AskEnds old new (Handed k message framing) =
    (old.end ≡ None)
    × (new.end ≡ None)
    × IsBeforeHead old.source.input_state
    × IsFree old
    × (IsAtEnd old.source → ⊥)
AskEnds old new NotYet = (old.end ≡ None)
    × (old.source.input_state ≡ at.Body ⊎ last_holds_next_head old.requests ≡ true)
AskEnds old new Ended =
    (IsSome old.end → new ≡ old) × (old.source.input_state ≡ at.Last → new.source ≡ old.source)
    × (old.end ≡ None
    → (why : EndOfRequests)
    × (new.end ≡ Some why)
    × EndsRequestsAt old.profile old.source.input_state old.source.feed why
    × IsFree old)
AskEnds old new Memory =
    (old.end ≡ None)
    × (new.end ≡ Some because.Memory)
    × IsBeforeHead old.source.input_state
    × HasByteBehind old.profile old.source.feed
    × IsFree old
    × (IsAtEnd old.source → ⊥)
AskEnds old new _ = ⊥

-- why the requests end, if they do, once a request is finished or takes over the connection's stream; `true`: no head
-- is read after that request
abbrev pub ends_behind : Bool → Option EndOfRequests → Option EndOfRequests
ends_behind false end = end
ends_behind true None = Some because.LastRequest
ends_behind true (Some why) = Some why

-- How a step ends the requests: if it was done or refused and `ends` holds, they end after the step's number; otherwise
-- they go on, or have ended, as before.
abbrev pub EndsBehind : {R W : Type 0} → Bool → ConnectionState R W → ConnectionState R W → ReplyValue → Type 0
EndsBehind ends old new NotYet = new.end ≡ old.end
EndsBehind ends old new NoSuch = new.end ≡ old.end
EndsBehind ends old new _ = new.end ≡ ends_behind ends old.end

-- how an Upgrade ends the requests: its number takes over the connection's stream, or its request is dropped
abbrev pub UpgradeEnds : {R W : Type 0} → ℕ → ConnectionState R W → ConnectionState R W → ReplyValue → Type 0
UpgradeEnds k old new Refused = new.end ≡ ends_behind (is_last_once_finished_at (slice_get old.requests k)) old.end
UpgradeEnds k old new reply = EndsBehind (is_last_with_stream_at (slice_get old.requests k)) old new reply

-- how a Respond ends the requests, because of its request or because its response asks to close the connection; a
-- refused response asks for nothing
abbrev pub RespondEnds : {R W : Type 0} → ℕ → Bool → ConnectionState R W → ConnectionState R W → ReplyValue → Type 0
RespondEnds k closes old new Refused =
    new.end ≡ ends_behind (is_last_once_finished_at (slice_get old.requests k)) old.end
RespondEnds k closes old new reply =
    EndsBehind (closes || is_last_once_finished_at (slice_get old.requests k)) old new reply

-- how a step ends the requests
abbrev pub StepEnds : {R W : Type 0} → Step (Option Feed) → ConnectionState R W → ConnectionState R W → ReplyValue
    → Type 0
StepEnds step.Ask old new reply = AskEnds old new reply
StepEnds (step.AsReader k) old new reply = new.end ≡ old.end
StepEnds (step.Read k n) old new reply = new.end ≡ old.end
StepEnds (step.Respond k r) old new reply = RespondEnds k r.answer.closes old new reply
StepEnds (step.IntoWriter k) old new reply =
    EndsBehind (is_last_with_stream_at (slice_get old.requests k)) old new reply
StepEnds (step.Write k bytes) old new reply = new.end ≡ old.end
StepEnds (step.Flush k) old new reply = new.end ≡ old.end
StepEnds (step.Upgrade k p r) old new reply = UpgradeEnds k old new reply
StepEnds (step.Finish k) old new reply = new.end ≡ old.end
StepEnds (step.Drop k) old new reply = EndsBehind (is_last_once_finished_at (slice_get old.requests k)) old new reply

-- whether the body that is kept for this number was given up
abbrev pub GivesUpKept : {R W : Type 0} → ℕ → ConnectionState R W → ConnectionState R W → Type 0
GivesUpKept k old new =
    (u : Unfinished)
    → slice_get old.requests k ≡ Some (Some u)
    → GivesUpIfKept (kept_body (Some u)) old.source new.source

-- Whether the final text of this number was sent if its turn had come: then nothing is held, and all was sent on.
-- Before its turn the output is unchanged.
abbrev pub SendsInTurn : {R W : Type 0} → ℕ → ConnectionState R W → ConnectionState R W → Type 0
SendsInTurn k old new =
    (can_take old k ≡ true → (new.outlet.held ≡ []) × SentOn new.outlet)
    × (is_in_turn old k ≡ false → new.outlet ≡ old.outlet)

-- whether nothing is kept of this number any more, its body was given up, and its final text was sent if its turn had
-- come
abbrev pub LetsGo : {R W : Type 0} → ℕ → ConnectionState R W → ConnectionState R W → Type 0
LetsGo k old new =
    (new.requests ≡ slice_set old.requests k None) × GivesUpKept k old new × SendsInTurn k old new

-- whether this number, if it was open, is finished, and so are those directly after it that were marked `Left`
abbrev pub FinishesNumber : ℕ → List Mark → List Mark → Type 0
FinishesNumber k old new =
    (front rest : List Mark) → old ≡ front ++ (Open ∷ rest) → length front ≡ k → FinishesFront front rest new

-- Whether nothing is kept of this number any more after a Respond: the number is finished if it was open, and its body
-- was given up. If `closes` holds, the last number's response says that the connection closes, unless it was already
-- made.
abbrev pub LetsGoAnswered : {R W : Type 0} → ℕ → Bool → ConnectionState R W → ConnectionState R W → Type 0
LetsGoAnswered k closes old new =
    (new.requests ≡ slice_set (closing_if_asked closes old.requests) k None)
    × GivesUpKept k old new
    × FinishesNumber k old.marks new.marks

-- the input state after the head of a request with this framing and this unread body
abbrev pub after_head : Framing → UnreadBody → InputState
after_head f body = if f.is_last then at.Last else if is_streaming body then at.Body else at.Head

-- Whether n heads were refused and took their numbers. If n is 0 the output is unchanged.
abbrev pub RefusesHeads : {R W : Type 0} → ℕ → ConnectionState R W → ConnectionState R W → Type 0
RefusesHeads n old new =
    (new.requests ≡ old.requests ++ replicate n None) × (n ≡ 0 → (new.marks ≡ old.marks) × (new.outlet ≡ old.outlet))

-- Whether n heads are refused, and the head of this request follows them; `left` is what remains of its body and of
-- what comes after it. Always true if the reader doesn't state its bytes.
abbrev pub HandsOutHead : ℕ → Profile → Option Feed → Message → Framing → Option Remaining → Type 0
HandsOutHead n p None message framing left = ⊤
HandsOutHead n p (Some f) message framing left =
    (passed : List Item)
    × (behind : Feed)
    × (length passed ≡ n)
    × ArePassedOver p f passed behind
    × (body : Feed)
    × (next : Place)
    × (let after = place_feed behind.stop next in
    OneHead p behind.bytes behind.stop
    (Some (Asks (record { message = message; framing = framing; body = body; behind = after })))
    (place_after framing.is_last next)
    × ComesWith left behind.stop body next)

-- whether `w` is what is kept of a request with this head that was handed out on this date
abbrev pub KeepsRequestOf : OpenRequest UnreadBody → Message → Framing → HttpDate → Type 0
KeepsRequestOf w message framing date =
    (h : Head) × (head_message h ≡ message) × (head_framing h ≡ framing) × KeepsHead w h date

-- The effect of an Ask on the requests, the source and the output, depending on its reply. `Handed`: a request was
-- added after the refused heads, as its head in the client's bytes frames it, and the source is after that head. If no
-- head was refused, nothing is sent, and the source's stop is unchanged. `Memory` and `Ended`: only refused heads took
-- numbers; if the last request or the end of the source had been reached, `Ended` refuses none.
abbrev pub AskLeaves : {R W : Type 0} → HttpDate → ConnectionState R W → ConnectionState R W → ReplyValue → Type 0
AskLeaves now old new (Handed k message framing) =
    (n : ℕ)
    × (w : OpenRequest UnreadBody)
    × (new.requests ≡ old.requests ++ replicate n None ++ Some (still.Waiting w) ∷ [])
    × (new.source.input_state ≡ after_head framing w.body)
    × (k ≡ length old.marks + n)
    × (n ≡ 0
    → (new.outlet ≡ old.outlet) × (new.source.stop ≡ old.source.stop) × (new.marks ≡ old.marks ++ Open ∷ []))
    × HandsOutHead n old.profile old.source.feed message framing (remaining w.body new.source.feed)
    × IsFramedAs old.profile message framing
    × FitsFraming framing w.body
    × KeepsRequestOf w message framing now
AskLeaves now old new Memory = (n : ℕ) × RefusesHeads n old new
AskLeaves now old new Ended =
    (n : ℕ) × RefusesHeads n old new × (old.source.input_state ≡ at.Last ⊎ IsAtEnd old.source → n ≡ 0)
AskLeaves now old new NotYet = Unit {0}
AskLeaves now old new _ = ⊥

-- The effect of a read on the source, if the request's body was `was` before the read and is `body` after it. If the
-- body is read from the source, what is left of the body determines the input state; else the source is unchanged.
abbrev pub InputStateAfter : {R : Type 0} → UnreadBody → UnreadBody → SourceState R → SourceState R → Type 0
InputStateAfter was body old new =
    MatchBool (is_streaming was) (new.input_state ≡ body_input_state body old.input_state) (new ≡ old)

-- whether the 100 of this number's request was sent and flushed, and none is owed any more
abbrev pub ContinueIsSent : {R W : Type 0} → ℕ → HttpDate → OpenRequest UnreadBody → ConnectionState R W
    → ConnectionState R W → Type 0
ContinueIsSent k now w old new =
    (new.requests ≡ slice_set old.requests k (Some (still.Waiting (record w { owes_continue = false }))))
    × SendsQuietlyOn old.outlet new.outlet (own_text_by 100 (printing_in w.response_context now))
    × HasSentAll new.outlet

-- The effect of an AsReader on the 100 of this number, depending on the reply. `Done`: it was sent, or none was owed
-- and nothing changed. `NotYet`: it is owed and waits for its turn. `NoSuch`: no request of this number awaits its
-- response.
abbrev pub SendsContinue : {R W : Type 0} → ℕ → HttpDate → ConnectionState R W → ConnectionState R W → ReplyValue
    → Type 0
SendsContinue k now old new Done =
    (w : OpenRequest UnreadBody) × (slice_get old.requests k ≡ Some (Some (still.Waiting w)))
    × MatchBool w.owes_continue (ContinueIsSent k now w old new) (new ≡ old)
SendsContinue k now old new NotYet = owes_continue (slice_get old.requests k) ≡ true
SendsContinue k now old new NoSuch = waiting_response_context (slice_get old.requests k) ≡ None
SendsContinue k now old new _ = ⊥

-- whether the requests, the turns and the source are unchanged
abbrev pub LeavesAllButOutlet : {R W : Type 0} → ConnectionState R W → ConnectionState R W → Type 0
LeavesAllButOutlet old new = (new.requests ≡ old.requests) × (new.marks ≡ old.marks) × (new.source ≡ old.source)

-- The effect of a Respond, depending on the reply. `Refused`: the response was refused, and the request dropped. `Done`
-- or `Fault`: the request was answered. Any other reply is unrestricted here.
abbrev pub AnswerLeaves : {R W : Type 0} → ℕ → Answer → ConnectionState R W → ConnectionState R W → ReplyValue → Type 0
AnswerLeaves k a old new Refused = LetsGo k old new × (refuses_at a.status (slice_get old.requests k) ≡ true)
AnswerLeaves k a old new reply =
    IsAnswered reply → LetsGoAnswered k a.closes old new × (refuses_at a.status (slice_get old.requests k) ≡ false)

-- The effect of an Upgrade to this protocol with this status code, depending on the reply. `Done`: the request was
-- upgraded, and its stream reads its body or, under Standard, all that follows. `Refused`: the upgrade was refused, and
-- the request dropped. `NotYet` and `NoSuch` are unrestricted here, and no other reply is possible.
abbrev pub UpgradeLeaves : {R W : Type 0} → ℕ → List ℕ → ℕ → ConnectionState R W → ConnectionState R W → ReplyValue
    → Type 0
UpgradeLeaves k protocol code old new Done =
    (refuses_upgrade_at protocol code (slice_get old.requests k) ≡ false) ×
    (w : OpenRequest UnreadBody)
    × (slice_get old.requests k ≡ Some (Some (still.Waiting w)))
    × (new.requests ≡ slice_set old.requests k (Some (still.Upgraded (stream_body w.by_standard w.body))))
    × (new.marks ≡ old.marks) × (new.source ≡ old.source)
UpgradeLeaves k protocol code old new Refused =
    LetsGo k old new × (refuses_upgrade_at protocol code (slice_get old.requests k) ≡ true)
UpgradeLeaves k protocol code old new NotYet = Unit {0}
UpgradeLeaves k protocol code old new NoSuch = Unit {0}
UpgradeLeaves k protocol code old new _ = ⊥

-- the number of body bytes in a reply
abbrev pub given_count : ReplyValue → ℕ
given_count (Given bytes) = length bytes
given_count _ = 0

-- Whether the body that a Read of n bytes leaves fits the reply: if n is at least 1 and no byte was given, the body is
-- at its end; a fault is final.
abbrev pub ClosesBody : ℕ → ReplyValue → UnreadBody → Type 0
ClosesBody n (Given []) body = 0 < n → is_whole body ≡ true
ClosesBody n (Fault kind) body = body ≡ Over (Faults kind)
ClosesBody n _ body = ⊤

-- Whether a Read of n bytes gave the next bytes of the body that is kept for this number, as far as the reader states
-- them. What is left of the body determines the source's input state.
abbrev pub ReadsKept : {R W : Type 0} → ℕ → ℕ → ConnectionState R W → ConnectionState R W → ReplyValue → Type 0
ReadsKept k n old new reply =
    (u : Unfinished)
    × (was : UnreadBody)
    × (body : UnreadBody)
    × (slice_get old.requests k ≡ Some (Some u))
    × (kept_body (Some u) ≡ Some was)
    × (new.requests ≡ slice_set old.requests k (Some (number_with_body body u)))
    × InputStateAfter was body old.source new.source
    × TakesNext n (remaining was old.source.feed) reply (remaining body new.source.feed)
    × (0 < n → ReadsOn was (given_count reply) (nat_lt (given_count reply) n) body)
    × ClosesBody n reply body

-- The effect of a Read of n bytes on the requests and the source, depending on its reply. `Fault` and `Memory` come
-- only if n is at least 1.
abbrev pub ReadLeaves : {R W : Type 0} → ℕ → ℕ → ConnectionState R W → ConnectionState R W → ReplyValue → Type 0
ReadLeaves k n old new (Given bytes) =
    (is_readable (slice_get old.requests k) ≡ true) × (length bytes ≤ n) × ReadsKept k n old new (Given bytes)
ReadLeaves k n old new (Fault kind) =
    (is_readable (slice_get old.requests k) ≡ true) × (0 < n) × ReadsKept k n old new (Fault kind)
ReadLeaves k n old new NoSuch = is_readable (slice_get old.requests k) ≡ false
ReadLeaves k n old new Memory = (is_readable (slice_get old.requests k) ≡ true) × (0 < n)
ReadLeaves k n old new _ = ⊥

-- The effect of a step on the requests, the source and the output. An AsReader sends the 100 that its request is owed.
-- A Read changes at most the body of its request, and the source if the body is read from the source. A Respond, a Drop
-- and a Finish that are done remove their request, and an IntoWriter gives up the body. An Upgrade keeps the body for
-- its stream. A Write and a Flush change only the output.
abbrev pub StepLeaves : {R W : Type 0} → Step (Option Feed) → HttpDate → ConnectionState R W → ConnectionState R W
    → ReplyValue → Type 0
StepLeaves step.Ask now old new reply = AskLeaves now old new reply
StepLeaves (step.AsReader k) now old new reply =
    (new.source ≡ old.source) × (new.marks ≡ old.marks) × SendsContinue k now old new reply
StepLeaves (step.Read k n) now old new reply =
    (new.outlet ≡ old.outlet) × (new.marks ≡ old.marks) × ReadLeaves k n old new reply
StepLeaves (step.Respond k r) now old new reply = AnswerLeaves k r.answer old new reply
StepLeaves (step.IntoWriter k) now old new reply =
    (new.outlet ≡ old.outlet)
    × (new.marks ≡ old.marks)
    × (IsAnswered reply → (new.requests ≡ slice_set old.requests k (Some still.Raw)) × GivesUpKept k old new)
StepLeaves (step.Write k bytes) now old new reply = LeavesAllButOutlet old new
StepLeaves (step.Flush k) now old new reply = LeavesAllButOutlet old new
StepLeaves (step.Upgrade k p r) now old new reply = UpgradeLeaves k (string_bytes p) r.answer.status old new reply
StepLeaves (step.Finish k) now old new reply = IsAnswered reply → LetsGo k old new
StepLeaves (step.Drop k) now old new reply = IsAnswered reply → LetsGo k old new

-- whether the reply says that the step was not done: it came too early, no request accepts it, or memory for a Read was
-- refused
abbrev pub IsDeclined : Step (Option Feed) → ReplyValue → Type 0
IsDeclined _ NotYet = Unit {0}
IsDeclined _ NoSuch = Unit {0}
IsDeclined (step.Read k n) Memory = Unit {0}
IsDeclined _ _ = ⊥

-- Whether a fault that a step reports occurred, whatever the reader, the writer and the data state. The fault of a
-- Write or a Flush is the writer's, whose failure count rose. The fault of a Respond is the writer's or that of the
-- response's data, printed for its request. In these cases the output has ended. The fault of a Read is the body's, as
-- `ReadLeaves` defines. The other steps report none.
abbrev pub ReportsFault : {R W : Type 0} → ConnectionState R W → ConnectionState R W → HttpDate → Step (Option Feed)
    → ErrorKind → Type 0
ReportsFault old new now step.Ask kind = ⊥
ReportsFault old new now (step.AsReader k) kind = ⊥
ReportsFault old new now (step.Read k n) kind = Unit {0}
ReportsFault old new now (step.Drop k) kind = ⊥
ReportsFault old new now (step.IntoWriter k) kind = ⊥
ReportsFault old new now (step.Write k bytes) kind =
    (new.outlet.ended ≡ true) × IsOfWriter (output_of old.outlet) (output_of new.outlet) kind
ReportsFault old new now (step.Flush k) kind =
    (new.outlet.ended ≡ true) × IsOfWriter (output_of old.outlet) (output_of new.outlet) kind
ReportsFault old new now (step.Upgrade k p r) kind = ⊥
ReportsFault old new now (step.Finish k) kind = ⊥
ReportsFault old new now (step.Respond k r) kind =
    (context : ResponseContext)
    × (waiting_response_context (slice_get (closing_if_asked r.answer.closes old.requests) k) ≡ Some context)
    × (new.outlet.ended ≡ true)
    × IsHonest (output_of old.outlet) (output_of new.outlet) r.answer r.data_reader (printing_in context now) kind

-- Whether the response's own text was sent on whole, after all that the writer had taken. This is required only if the
-- data state fewer than 2^63 bytes, the writer could still send, and it states what it took.
abbrev pub AnswerIsSentOn : {R W : Type 0} → ConnectionState R W → ConnectionState R W → HttpDate → ℕ
    → ResponseState (Option Feed) → Type 0
AnswerIsSentOn old new now k r =
    (context : ResponseContext)
    × (waiting_response_context (slice_get (closing_if_asked r.answer.closes old.requests) k) ≡ Some context)
    × ((content : Feed) (taken : List ℕ)
    → r.data_reader ≡ Some content
    → length content.bytes < 2 ^ 63
    → CanSend (output_of old.outlet)
    → (output_of old.outlet).taken ≡ Some taken
    → IsFront (taken ++ (text_of r.answer content (printing_in context now)).bytes) (output_of new.outlet).sent)

-- Whether a Respond reports a failure of the writer by its kind; a kind that means that the client has disconnected is
-- reported as `Done`. It needn't report a failure after the response, in the texts that were left for the numbers
-- directly after it, if the response's own text had been sent on. Nor need a refused response report one: its request
-- is dropped.
abbrev pub RespondReports : {R W : Type 0} → ConnectionState R W → ConnectionState R W → HttpDate → ℕ
    → ResponseState (Option Feed) → ReplyValue → Type 0
RespondReports old new now k r Refused = Unit {0}
RespondReports old new now k r reply =
    ((output_of new.outlet).failures ≡ (output_of old.outlet).failures)
    ⊎ ((kind : ErrorKind) × (reply ≡ fault_reply kind) × ReportsFault old new now (step.Respond k r) kind)
    ⊎ ((begins_left (drop (k + 1) old.marks) ≡ true) × AnswerIsSentOn old new now k r)

-- THE ENDS AND FAULTS OF THE CLIENT that a Read on this number meets: none, or at most as many as `ends_met` allows for
-- the bytes that it gave and the body that it left.
abbrev pub ReadMeets : {R W : Type 0} → (R → ℕ) → ConnectionState R W → ConnectionState R W → ℕ → ReplyValue → Type 0
ReadMeets stop_count old new k reply =
    (stop_count new.source.reader ≤ stop_count old.source.reader)
    ⊎ ((u : Unfinished)
    × (was : UnreadBody)
    × (body : UnreadBody)
    × (slice_get old.requests k ≡ Some (Some u))
    × (kept_body (Some u) ≡ Some was)
    × (new.requests ≡ slice_set old.requests k (Some (number_with_body body u)))
    × (stop_count new.source.reader ≤ stop_count old.source.reader + ends_met was (given_count reply) body))

-- the ends and faults of the client that a step meets: for a Read as `ReadMeets` says; the other steps are unrestricted
abbrev pub StepMeets : {R W : Type 0} → (R → ℕ) → Step (Option Feed) → ConnectionState R W → ConnectionState R W
    → ReplyValue → Type 0
StepMeets stop_count (step.Read k n) old new reply = ReadMeets stop_count old new k reply
StepMeets stop_count _ old new reply = ⊤

-- WHETHER A STEP REPORTS A FAILURE OF THE WRITER, a rise of the writer's failure count. A Write and a Flush report it,
-- and so does a Respond, as `RespondReports` defines. The other steps don't.
abbrev pub StepReports : {R W : Type 0} → ConnectionState R W → ConnectionState R W → HttpDate → Step (Option Feed)
    → ReplyValue → Type 0
StepReports old new now (step.Write k bytes) reply = ReportsOfWriter (output_of old.outlet) (output_of new.outlet) reply
StepReports old new now (step.Flush k) reply = ReportsOfWriter (output_of old.outlet) (output_of new.outlet) reply
StepReports old new now (step.Respond k r) reply = RespondReports old new now k r reply
StepReports old new now _ reply = Unit {0}

-- THE EFFECTS OF ONE STEP on a date, with its reply, whatever the reader, the writer and the data state.
pub record MakesStep {R W : Type 0} (old new : ConnectionState R W) (now : HttpDate) (step : Step (Option Feed))
    (reply : ReplyValue) : Type 0 where
  -- the profile is unchanged, and a step that was not done changes nothing
  pub profile : new.profile ≡ old.profile
  pub declined : IsDeclined step reply → new ≡ old
  -- the reply fits what is kept of the step's number
  pub replies : StepReplies old step reply
  -- why the requests end, and what becomes of the requests, the source and the output
  pub ends : StepEnds step old new reply
  pub leaves : StepLeaves step now old new reply
  pub goes_on : GoesOn old.source.feed new.source.feed
  -- the writer fails at most once; and what is held and what was sent on, given the step and its reply
  pub fails_once : FailsOnce old.outlet new.outlet
  pub flushed : (sent : Bool) → (sent ≡ true → old.outlet.held ≡ []) → all_sent_after step reply sent ≡ true
      → new.outlet.held ≡ []
  pub sent_on : (sent : Bool) → (sent ≡ true → SentOn old.outlet) → all_sent_after step reply sent ≡ true
      → SentOn new.outlet
  -- a reported fault occurred, and a failure of the writer is reported
  pub honest : (kind : ErrorKind) → reply ≡ Fault kind → ReportsFault old new now step kind
  pub reports : StepReports old new now step reply

-- ONE STEP: whether it has the effects of `MakesStep`, and extends each run that the connection represents by this step
-- and its reply.
pub record TakesStep {R W : Type 0} (old new : ConnectionState R W) (now : HttpDate) (step : Step (Option Feed))
    (reply : ReplyValue) : Type 0 where
  pub makes : MakesStep old new now step reply
  pub does : (p : Profile) (client : Feed) (before : Sink) (steps : List TimedValue) (replies : List ReplyValue)
      (asked : StepValue) → IsStep (λ f. f) step asked
      → HasDone p client before old steps replies
      → HasDone p client before new (steps ++ (now, asked) ∷ []) (replies ++ reply ∷ [])

-- whether a step with this reply drops the request of this number: a Drop, or a Respond or an Upgrade that is refused
abbrev pub IsDropping : List (Option Unfinished) → ℕ → Step (Option Feed) → ReplyValue → Type 0
IsDropping requests n (step.Drop k) Done = k ≡ n
IsDropping requests n (step.Respond k r) Refused = (k ≡ n) × (refuses_at r.answer.status (slice_get requests n) ≡ true)
IsDropping requests n (step.Upgrade k p r) Refused =
    (k ≡ n) × (refuses_upgrade_at (string_bytes p) r.answer.status (slice_get requests n) ≡ true)
IsDropping _ _ _ _ = ⊥

-- whether the request of this number was dropped: each step that drops it may have led from `old` to `new`
abbrev pub Drops : {R W : Type 0} → ℕ → ConnectionState R W → ConnectionState R W → Type 0
Drops n old new =
    (now : HttpDate) (x : Step (Option Feed)) (reply : ReplyValue)
    → IsDropping old.requests n x reply
    → TakesStep old new now x reply
