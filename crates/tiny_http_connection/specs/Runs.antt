-- The result of a run of a list of steps. The laws of `InShort` (`tiny_http_connection_laws`) can be understood without
-- this file.
use Rattle.std.specs.Prelude.{◌≡◌, ℕ, List, map, true, false, [], ◌∷◌, length, Option, Some, None}
use Rattle.std.specs.List.{AllZip}
use Rattle.tiny_http_io.specs.Device.{Feed, Sink, HoldsNothing}
use Rattle.tiny_http_io.specs.Source.{GoesOn}
use Rattle.tiny_http_io.specs.Outlet.{SentOn}
use Rattle.tiny_http_io.specs.declared.source.InputState.TheVariants as at
use Rattle.tiny_http_response.specs.Sending.{FailsAtMostOnce}
use Rattle.tiny_http_body.specs.declared.framing.Profile.{Profile}
use Rattle.tiny_http_connection.specs.declared.driver.Timed.{Timed}
use Rattle.tiny_http_connection.specs.declared.run.Record.{Record}
use Rattle.tiny_http_connection.specs.declared.driver.Reply.{Reply}
use Rattle.tiny_http_connection.specs.Seen.{IsTimedStep, seen, all_sent}
use Rattle.tiny_http_connection.specs.Connection.{ConnectionState}
use Rattle.tiny_http_connection.specs.Driving.{MakesStep, StepMeets, stated_step}
use Rattle.tiny_http_connection.specs.Conversation.{IsConversation, IsFresh}
use Rattle.tiny_http_connection.specs.Steps.{TimedValue}

-- THE CONNECTION THEOREM of a run. Let the reader state its feed, let the writer state that it took nothing, has not
-- ended and can count a failure, and let the data of the responses state feeds of fewer than 2^63 bytes. Then the steps
-- and their replies are a conversation over that feed, and its output is what the writer took, then what is held.
abbrev pub IsConversationOf : {R W D : Type 0} → (R → Option Feed) → (W → Sink) → (D → Option Feed)
    → Profile → R → W → List (Timed D) → Record R W → Type 0
IsConversationOf client sink stated p reader writer steps done =
    (feed : Feed) (dated : List TimedValue)
    → client reader ≡ Some feed
    → IsFresh (sink writer)
    → AllZip (IsTimedStep stated) steps dated
    → IsConversation p feed (sink writer) dated (map seen done.replies.items)
    (sink done.outlet.writer) done.outlet.held done.outlet.ended done.source.feed

-- Whether a connection is new: before its first step, under this profile, over a reader that states the feed `client`
-- and a writer that states `before`.
pub record IsNew {R W : Type 0} (p : Profile) (reader : R) (client : Option Feed) (writer : W) (before : Sink)
    (c : ConnectionState R W) : Type 0 where
  pub profile : c.profile ≡ p
  pub unasked : (c.marks ≡ []) × (c.requests ≡ []) × (c.end ≡ None)
  pub source : (c.source.reader ≡ reader) × (c.source.feed ≡ client) × (c.source.input_state ≡ at.Head)
  pub unread : (c.source.stop ≡ None) × (c.source.held ≡ []) × (c.source.skip ≡ 0)
  pub outlet : c.outlet ≡ record { held = []; ended = false; writer = writer; sink = before }

-- Whether these steps were taken one after another, each with its reply, from the state `old` of a connection to the
-- state `new`. `stop_count`: how many ends and faults the reader states that it has reported.
abbrev pub TakesSteps : {R W D : Type 0} → (R → ℕ) → (D → Option Feed) → ConnectionState R W → List (Timed D)
    → List Reply → ConnectionState R W → Type 0
TakesSteps stop_count stated old [] [] new = new ≡ old
TakesSteps {R = R} {W = W} stop_count stated old (t ∷ steps) (r ∷ replies) new =
    (mid : ConnectionState R W)
    × MakesStep old mid t.now (stated_step stated t.step) (seen r)
    × StepMeets stop_count (stated_step stated t.step) old mid (seen r)
    × TakesSteps stop_count stated mid steps replies new
TakesSteps stop_count stated old [] (r ∷ replies) new = ⊥
TakesSteps stop_count stated old (t ∷ steps) [] new = ⊥

-- WHAT A RUN LEAVES, whatever the reader, the writer and the data state.
pub record RunsSteps {R W D : Type 0} (client : R → Option Feed) (stop_count : R → ℕ) (sink : W → Sink)
    (stated : D → Option Feed) (p : Profile) (reader : R) (writer : W) (steps : List (Timed D))
    (done : Record R W) : Type 0 where
  -- one reply per step, as `takes` also says
  pub replies : length done.replies.items ≡ length steps
  -- the source still gives the client's bytes from some position on, if the reader states them
  pub source : GoesOn (client reader) done.source.feed
  -- A new connection took the steps one after another, so `MakesStep` and `StepMeets` hold for each step and its reply.
  -- The source and the outlet are as the last step left them, and the outlet states what its writer states.
  pub first : ConnectionState R W
  pub last : ConnectionState R W
  pub begins : IsNew p reader (client reader) writer (sink writer) first
  pub takes : TakesSteps stop_count stated first steps done.replies.items last
  pub leaves : (done.source ≡ last.source) × (done.outlet ≡ last.outlet)
  pub states : done.outlet.sink ≡ sink done.outlet.writer
  -- the writer failed at most once
  pub fails_once : FailsAtMostOnce (sink writer) (sink done.outlet.writer)
  -- Nothing is held, unless a Write that was done follows the last Flush, Respond or Upgrade that was done. If no such
  -- Write follows, and the writer held nothing back before the run, the writer has sent on all that it took.
  pub flushed : all_sent steps done.replies.items true ≡ true → done.outlet.held ≡ []
  pub sent_on : HoldsNothing (sink writer) → all_sent steps done.replies.items true ≡ true → SentOn done.outlet
