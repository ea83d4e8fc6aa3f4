-- One head after another, in an Ask.
use Rattle.std.specs.Prelude.{◌≡◌, ◌-◌, ◌<◌, ◌^◌, false, [], None}
use Rattle.httpdate.specs.declared.date.HttpDate.{HttpDate}
use Rattle.tiny_http_io.specs.Device.{Feed, Sink}
use Rattle.tiny_http_io.specs.Source.{GoesOn}
use Rattle.tiny_http_io.specs.Outlet.{SentOn}
use Rattle.tiny_http_io.specs.declared.source.InputState.TheVariants as at
use Rattle.tiny_http_response.specs.Sending.{FailsOnce}
use Rattle.tiny_http_connection.specs.declared.driver.Step.TheVariants as step
use Rattle.tiny_http_connection.specs.Pending.{last_holds_next_head}
use Rattle.tiny_http_connection.specs.Steps.{ReplyValue}
use Rattle.tiny_http_connection.specs.Conversation.{State}
use Rattle.tiny_http_connection.proofs.ConnectionAsk.{AskIsAnswered}
use Rattle.tiny_http_connection.specs.Connection.{ConnectionState, kept, Represents}
use Rattle.tiny_http_connection.specs.Driving.{AskEnds, AskLeaves, IsDeclined}

-- the asking hasn't ended, no body holds the reader, and the next head waits for no answer
abbrev pub CanAsk : {R W : Type 0} → ConnectionState R W → Type 0
CanAsk c = (c.end ≡ None) × (c.source.input_state ≡ at.Body → ⊥) × (last_holds_next_head c.requests ≡ false)

-- An Ask leads from one connection to another with this reply: what `TakesStep` says of it, from wherever a run stands.
pub record AskStep {R W : Type 0} (old new : ConnectionState R W) (now : HttpDate) (reply : ReplyValue) : Type 0 where
  pub does : (client : Feed) (before : Sink) (s : State) → before.failures < 2 ^ 64 - 1 → Represents client before (kept old) s
      → AskIsAnswered client before (kept new) s now reply
  pub profile : new.profile ≡ old.profile
  pub declined : IsDeclined step.Ask reply → new ≡ old
  pub ends : AskEnds old new reply
  pub leaves : AskLeaves now old new reply
  pub goes_on : GoesOn old.source.feed new.source.feed
  pub fails_once : FailsOnce old.outlet new.outlet
  pub flushed : old.outlet.held ≡ [] → new.outlet.held ≡ []
  pub sent_on : SentOn old.outlet → SentOn new.outlet

-- an Ask from there is one from here
abbrev pub IsAskBehind : {R W : Type 0} → ConnectionState R W → ConnectionState R W → HttpDate → Type 0
IsAskBehind {R = R} {W = W} here there now = (new : ConnectionState R W) (reply : ReplyValue) → AskStep there new now reply → AskStep here new now reply
