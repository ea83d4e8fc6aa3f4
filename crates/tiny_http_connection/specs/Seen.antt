-- How the program's steps and replies correspond to the values that the definitions use. The laws of `InShort`
-- (`tiny_http_connection_laws`) can be understood without this file.
use Rattle.std.specs.Prelude.{◌≡◌, ◌⊎◌, ◌<◌, ◌^◌, List, [], ◌∷◌, length, Option, Some, Bool, true, false, not, ◌&&◌}
use Rattle.std.specs.Prelude.{◌||◌, Result, Ok, Err, string_bytes}
use Rattle.std.specs.IoError.{error_kind}
use Rattle.std.specs.declared.io.Error.{Error}
use Rattle.std.specs.declared.io.ErrorKind.{ErrorKind}
use Rattle.tiny_http_io.specs.Device.{Feed, Sink, StatesKind, next_count}
use Rattle.tiny_http_response.specs.Answer.{Answer, Printing, ResponseState}
use Rattle.tiny_http_connection.specs.declared.driver.Step.{Step}
use Rattle.tiny_http_connection.specs.declared.driver.Step.TheVariants as step
use Rattle.tiny_http_connection.specs.declared.driver.Timed.{Timed}
use Rattle.tiny_http_connection.specs.declared.driver.Reply.{Reply}
use Rattle.tiny_http_connection.specs.declared.driver.Reply.TheVariants as reply
use Rattle.tiny_http_open_request.specs.HeadReads.{head_message, head_framing}
use Rattle.tiny_http_response.specs.ResponseValue.{ResponseValue}
use Rattle.tiny_http_connection.specs.Steps.{StepValue, Ask, AsReader, Read, Respond, IntoWriter, Write, Flush}
use Rattle.tiny_http_connection.specs.Steps.{Upgrade, Finish, Drop, ReplyValue, Handed, Ended, Given, Fault, NotYet}
use Rattle.tiny_http_connection.specs.Steps.{Done, Refused, NoSuch, Memory, TimedValue, is_done}
use Rattle.tiny_http_connection.specs.Outcomes.{fault_reply}
use Rattle.tiny_http_response.specs.Sending.{Sends, IsFlushed}

-- whether this is the value of a response: its data state their bytes, which are fewer than 2^63
abbrev pub IsResponse : {D : Type 0} → (D → Option Feed) → ResponseState D → ResponseValue → Type 0
IsResponse feed r value =
    (value.answer ≡ r.answer) × (feed r.data_reader ≡ Some value.content) × (length value.content.bytes < 2 ^ 63)

-- whether this is the value of a step
abbrev pub IsStep : {D : Type 0} → (D → Option Feed) → Step D → StepValue → Type 0
IsStep feed step.Ask Ask = Unit {0}
IsStep feed (step.AsReader k) (AsReader n) = n ≡ k
IsStep feed (step.Read k n) (Read j m) = (j ≡ k) × (m ≡ n)
IsStep feed (step.Respond k r) (Respond n value) = (n ≡ k) × IsResponse feed r value
IsStep feed (step.IntoWriter k) (IntoWriter n) = n ≡ k
IsStep feed (step.Write k v) (Write n bytes) = (n ≡ k) × (bytes ≡ v.items)
IsStep feed (step.Flush k) (Flush n) = n ≡ k
IsStep feed (step.Upgrade k p r) (Upgrade n protocol value) =
    (n ≡ k) × (protocol ≡ string_bytes p) × (value.answer ≡ r.answer)
IsStep feed (step.Finish k) (Finish n) = n ≡ k
IsStep feed (step.Drop k) (Drop n) = n ≡ k
IsStep feed _ _ = ⊥

-- whether this is the value of a step with its date
abbrev pub IsTimedStep : {D : Type 0} → (D → Option Feed) → Timed D → TimedValue → Type 0
IsTimedStep feed t d = (d.0 ≡ t.now) × IsStep feed t.step d.1

-- the value of a reply
abbrev pub seen : Reply → ReplyValue
seen (reply.Handed k h) = Handed k (head_message h) (head_framing h)
seen reply.Ended = Ended
seen (reply.Given bytes) = Given bytes.items
seen (reply.Fault kind) = Fault kind
seen reply.NotYet = NotYet
seen reply.Done = Done
seen reply.Refused = Refused
seen reply.NoSuch = NoSuch
seen reply.Memory = Memory

-- whether a fault of this kind is the writer's: its failure count rose, and it states this kind
abbrev pub IsOfWriter : Sink → Sink → ErrorKind → Type 0
IsOfWriter old new kind = (new.failures ≡ next_count old.failures) × StatesKind new.last_kind kind

-- whether a reply reports the writer's fault, if there was one: the writer's failure count is unchanged, or the reply
-- is a `Fault` of the writer
abbrev pub ReportsOfWriter : Sink → Sink → ReplyValue → Type 0
ReportsOfWriter old new reply =
    (new.failures ≡ old.failures) ⊎ ((kind : ErrorKind) × (reply ≡ Fault kind) × IsOfWriter old new kind)

-- WHETHER ALL BYTES WERE SENT ON after a step, given whether they were before it. A Write that is done may hold its
-- bytes back; a Flush, a response or an upgrade that is done holds none back. An Ask, an AsReader, a Read, an
-- IntoWriter, a Finish, a Drop, and any step that isn't done leave the value as it was.
abbrev pub all_sent_after : {D : Type 0} → Step D → ReplyValue → Bool → Bool
all_sent_after step.Ask reply sent = sent
all_sent_after (step.AsReader k) reply sent = sent
all_sent_after (step.Read k n) reply sent = sent
all_sent_after (step.Respond k r) reply sent = sent || is_done reply
all_sent_after (step.IntoWriter k) reply sent = sent
all_sent_after (step.Write k bytes) reply sent = sent && not (is_done reply)
all_sent_after (step.Flush k) reply sent = sent || is_done reply
all_sent_after (step.Upgrade k p r) reply sent = sent || is_done reply
all_sent_after (step.Finish k) reply sent = sent
all_sent_after (step.Drop k) reply sent = sent

-- whether all bytes were sent on after all these steps, each with its reply, given whether they were before the first;
-- false if the steps and the replies differ in number
abbrev pub all_sent : {D : Type 0} → List (Timed D) → List Reply → Bool → Bool
all_sent [] [] sent = sent
all_sent (t ∷ steps) (r ∷ replies) sent = all_sent steps replies (all_sent_after t.step (seen r) sent)
all_sent _ _ sent = false

-- the reply to a call that sent a response and returned this result
abbrev pub reply_to : {T : Type 0} → Result T Error → ReplyValue
reply_to (Ok x) = Done
reply_to (Err e) = fault_reply (error_kind e)

-- the reply to a write or flush that returned this result, made through a raw writer or an upgraded stream
abbrev pub write_reply : {T : Type 0} → Result T Error → ReplyValue
write_reply (Ok x) = Done
write_reply (Err e) = Fault (error_kind e)

-- whether the reply says that the step was carried out, either completely (Done) or until the fault that the reply
-- reports
abbrev pub IsAnswered : ReplyValue → Type 0
IsAnswered Done = Unit {0}
IsAnswered (Fault kind) = Unit {0}
IsAnswered _ = ⊥

-- whether a response with these data was sent and flushed, and the reply reports the result
abbrev pub Answers : Sink → Sink → Bool → ReplyValue → Answer → Feed → Printing → Type 0
Answers old new ended reply answer content p =
    (r : Result (Unit {0}) Error) × (reply ≡ reply_to r) × Sends old new ended r answer content p × IsFlushed new
