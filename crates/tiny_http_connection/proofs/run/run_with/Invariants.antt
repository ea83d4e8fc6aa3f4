use Rattle.std.proofs.Common.{[], true, ◌≡◌, ◌++◌, List, map, vec_len, vec_capacity, ℕ, ◌≤◌, length, Some, Option}
use Rattle.std.specs.List.{AllZip}
use Rattle.std.specs.Vec.Iter.{into_iter_items}
use Rattle.tiny_http_io.specs.Device.{Feed, Sink, HoldsNothing}
use Rattle.tiny_http_connection.specs.Conversation.{IsFresh}
use Rattle.tiny_http_connection.specs.Steps.{TimedValue}
use Rattle.tiny_http_io.specs.Source.{GoesOn}
use Rattle.tiny_http_connection.specs.Seen.{IsTimedStep, seen, all_sent}
use Rattle.tiny_http_connection.specs.Runs.{IsNew, TakesSteps}
use Rattle.tiny_http_response.specs.Sending.{SinkFailsOnce}
use Rattle.tiny_http_io.specs.Outlet.{output_of, SentOn}
use Rattle.tiny_http_connection.specs.declared.driver.Timed.{Timed}
use Rattle.tiny_http_connection.specs.declared.driver.Reply.{Reply}
use Rattle.tiny_http_connection.specs.Connection.{ConnectionState}
use Rattle.tiny_http_body.specs.declared.framing.Profile.{Profile}
use Rattle.tiny_http_connection.specs.Driving.{HasDone}
use Rattle.tiny_http_connection.proofs.run.run_with.Given as goal

-- what holds before each step
pub record Goes {R W D : Type 0} (stop_count : R → ℕ) (feed : D → Option Feed) (from : R) (reader : Option Feed) (to : W) (writer : Sink) (all done rest : List (Timed D)) (replies : List Reply) (profile : Profile) (c : ConnectionState R W) (count room : ℕ) : Type 0 where
  pub joins : all ≡ done ++ rest
  pub counted : count ≡ length done
  pub as_many : length done ≡ length replies
  pub fits : length all ≤ room
  pub follows : (client : Feed) (dated : List TimedValue) → reader ≡ Some client → IsFresh writer → AllZip (IsTimedStep feed) done dated → HasDone profile client writer c dated (map seen replies)
  pub source : GoesOn reader c.source.feed
  pub fails_once : SinkFailsOnce writer (output_of c.outlet) c.outlet.ended
  pub flushed : all_sent done replies true ≡ true → c.outlet.held ≡ []
  pub sent_on : HoldsNothing writer → all_sent done replies true ≡ true → SentOn c.outlet
  pub first : ConnectionState R W
  pub begins : IsNew profile from reader to writer first
  pub takes : TakesSteps stop_count feed first done replies c

abbrev pub invariant-loop-timed : goal.invariant-loop-timed
invariant-loop-timed g l =
    Goes g.R.ReadDevice.stop_count g.D.ReadDevice.feed l.fn.reader (g.R.ReadDevice.feed l.fn.reader) l.fn.writer (g.W.WriteDevice.sink l.fn.writer) l.fn.steps.items l.yielded (into_iter_items l.timed-iterator) l.replies.items l.fn.profile l.connection (vec_len l.replies) (vec_capacity l.replies)
