-- A run over a feed under `Lenient` or `Strict` (`HeadRules`), computed for a writer that takes all bytes and for data
-- for which memory is found. It tests the definitions. The laws of `InShort` (`tiny_http_connection_laws`) can be
-- understood without this file.
use Rattle.std.specs.Prelude.{ℕ, Bool, true, List, [], ◌∷◌, if◌then◌else◌}
use Rattle.std.specs.Prelude.{false}
use Rattle.tiny_http_io.specs.Device.{Feed}
use Rattle.tiny_http_body.specs.declared.framing.HeadRules.{HeadRules}
use Rattle.tiny_http_open_request.specs.PipelineReading.{heading_of, items_of}
use Rattle.tiny_http_connection.specs.Slots.{is_output_broken, joined}
use Rattle.tiny_http_connection.specs.Steps.{ReplyValue, TimedValue}
use Rattle.tiny_http_connection.specs.Outcomes.{WriterUse, Reached, outcome}
use Rattle.tiny_http_connection.specs.Conversation.{Well, reply_in, reached_by}

-- the reply to a step if the writer takes all bytes; if `over` holds, the output had ended before the step
abbrev pub reply_of : WriterUse → Bool → ReplyValue → ReplyValue
reply_of writer over planned = if over then planned else reply_in writer planned Well

-- The replies to the steps of a run, and what the run reached.
pub record Reading : Type 0 where
  pub replies : List ReplyValue
  pub end : Reached

abbrev pub run_from : Reached → List TimedValue → Reading
run_from old [] = record { replies = []; end = old }
run_from old (s ∷ steps) =
    let o = outcome true s.0 old s.1 in
    let more = run_from (reached_by o) steps in
    record { replies = reply_of o.writer (is_output_broken old.slots) o.reply ∷ more.replies; end = more.end }

-- The replies to steps over a feed, and the output.
pub record Conversed : Type 0 where
  pub replies : List ReplyValue
  pub output : List ℕ

abbrev pub conversed : HeadRules → Feed → List TimedValue → Conversed
conversed p feed steps =
    let r = run_from (record { slots = []; rest = items_of (heading_of p) feed; asking_ended = false }) steps in
    record { replies = r.replies; output = joined r.end.slots }
