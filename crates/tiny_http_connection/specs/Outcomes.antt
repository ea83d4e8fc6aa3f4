-- The reply and the effects of each step. The short laws (`InShort`, in `tiny_http_connection_laws`) don't use these
-- definitions: they state directly what is handed out, read and sent.
use Rattle.std.specs.Prelude.{ℕ, ◌+◌, Bool, true, false, not, ◌&&◌, ◌||◌, ◌==◌, nat_lt, List, [], ◌∷◌, ◌++◌, length}
use Rattle.std.specs.Prelude.{take, Option, Some, None, if◌then◌else◌, slice_get, slice_set}
use Rattle.std.specs.declared.io.ErrorKind.{ErrorKind}
use Rattle.httpdate.specs.declared.date.HttpDate.{HttpDate}
use Rattle.tiny_http_io.specs.declared.device.Stop.{Stop}
use Rattle.tiny_http_io.specs.declared.device.Stop.TheVariants.{End, Fault as Faults}
use Rattle.tiny_http_body.specs.Text.{Ending, Whole, Broken}
use Rattle.tiny_http_open_request.specs.Pipeline.{Item, Asks, Refuses, Request}
use Rattle.tiny_http_response.specs.ResponseValue.{ResponseValue}
use Rattle.tiny_http_response.specs.Sending.{is_closed_client}
use Rattle.tiny_http_connection.specs.Segments.{Answered, ByServer, Raw, Slot, Stage, Unanswered, Upgraded, text_if}
use Rattle.tiny_http_connection.specs.Segments.{to_request}
use Rattle.tiny_http_connection.specs.Slots.{turn_has_come, refuses_response, refuses_upgrade, rest_of, upgraded_slot}
use Rattle.tiny_http_connection.specs.Slots.{closes_now, holds_next_head, ends_when_finished, with_last}
use Rattle.tiny_http_connection.specs.Slots.{closing_slot}
use Rattle.tiny_http_connection.specs.Slots.{last_holds_reader, last_slot, last_was_abandoned, new_slot}
use Rattle.tiny_http_connection.specs.Steps.{AsReader, Ask, Done, Drop, Ended, Fault, Finish, Flush, Given, Handed}
use Rattle.tiny_http_connection.specs.Steps.{IntoWriter, NoSuch, NotYet, Read, Refused, ReplyValue, Respond}
use Rattle.tiny_http_connection.specs.Steps.{StepValue, Upgrade, Write, number_of}

-- the reply to a step whose response meets a fault: `Done` if the kind means that the client has disconnected, else
-- `Fault`
abbrev pub fault_reply : ErrorKind → ReplyValue
fault_reply kind = if is_closed_client kind then Done else Fault kind

-- The use of the writer by a step. `Unused`: not at all. `Unreported`: it writes and flushes its texts, and no reply
-- reports a fault. `Reported`: it writes `own`, and flushes if `flushes` holds; `report` makes the reply for a fault of
-- the writer, or for `broken`, the fault of the response's data, if any. If both the writer and the data fail, either
-- fault may be reported.
pub data WriterUse : Type 0 where
  Unused : WriterUse
  Unreported : WriterUse
  Reported : (own : List ℕ) (broken : Option ErrorKind) (flushes : Bool) (report : ErrorKind → ReplyValue) → WriterUse

-- The reply and the effects of a step, apart from the writer's faults.
pub record Outcome : Type 0 where
  pub reply : ReplyValue
  pub slots : List Slot
  pub rest : List Item
  pub asking_ended : Bool
  pub writer : WriterUse

-- The progress of a connection in its pipeline: the slots of the numbers so far, the items after them, and whether
-- asking has ended.
pub record Reached : Type 0 where
  pub slots : List Slot
  pub rest : List Item
  pub asking_ended : Bool

abbrev pub unchanged : Reached → ReplyValue → Outcome
unchanged old reply =
    record { reply = reply; slots = old.slots; rest = old.rest; asking_ended = old.asking_ended; writer = Unused }

-- the outcome of a step that changes only the slot of number k, to `s`
abbrev pub changes : Reached → ℕ → Slot → ReplyValue → WriterUse → Outcome
changes old k s reply writer =
    record {
      reply = reply;
      slots = slice_set old.slots k s;
      rest = old.rest;
      asking_ended = old.asking_ended;
      writer = writer;
    }

-- the outcome of an Ask when these items come next: the heads before the next request are refused, and then that
-- request is handed out, or the reply is `Ended` if there is none
abbrev pub asks_from : HttpDate → WriterUse → List Slot → List Item → Outcome
asks_from date writer slots [] =
    record { reply = Ended; slots = slots; rest = []; asking_ended = true; writer = writer }
asks_from date writer slots (Asks r ∷ items) =
    record {
      reply = Handed (length slots) r.message r.framing;
      slots = slots ++ new_slot date (Asks r) ∷ [];
      rest = items;
      asking_ended = false;
      writer = writer;
    }
asks_from date writer slots (Refuses refusal manner no_body last ∷ items) =
    asks_from date (if turn_has_come (length slots) slots then Unreported else writer)
    (slots ++ new_slot date (Refuses refusal manner no_body last) ∷ []) items

-- The outcome of an Ask: `Ended` once asking has ended; `NotYet` while the last request that was handed out holds the
-- reader; `Ended` after a chunked body that was given up before its end was reported; otherwise the heads before the
-- next request of the pipeline are refused, and that request is handed out, or the reply is `Ended` if there is none.
abbrev pub ask : HttpDate → Reached → Outcome
ask date old =
    if old.asking_ended then unchanged old Ended else
    if last_holds_reader (last_slot old.slots) then unchanged old NotYet else
    if last_was_abandoned (last_slot old.slots)
    then record { reply = Ended; slots = old.slots; rest = old.rest; asking_ended = true; writer = Unused } else
    asks_from date Unused old.slots old.rest

-- the reply to a read of a body of which no byte is left: an empty `Given` at its end, or its fault
abbrev pub close_reply : Stop → ReplyValue
close_reply End = Given []
close_reply (Faults kind) = Fault kind

abbrev pub read_reply : ℕ → List ℕ → Stop → ReplyValue
read_reply n [] close = close_reply close
read_reply n (b ∷ left) close = Given (take n (b ∷ left))

-- the slot once its number is finished in this stage: its body is given up, and no 100 is owed; `closes`: whether,
-- under Standard, its response says that the connection closes
abbrev pub finished_as : Bool → Slot → Stage → Slot
finished_as closes s stage = record s { stage = stage; given_up = true; owed = false; closes = closes }

-- the stage of a raw writer or an upgrade after these further bytes were written; any other stage is unchanged
abbrev pub written_to : List ℕ → Stage → Stage
written_to bytes (Raw written ends) = Raw (written ++ bytes) ends
written_to bytes (Upgraded protocol response date written ends) =
    Upgraded protocol response date (written ++ bytes) ends
written_to bytes stage = stage

abbrev pub stage_closed : Stage → Stage
stage_closed (Raw written _) = Raw written true
stage_closed (Upgraded protocol response date written _) = Upgraded protocol response date written true
stage_closed stage = stage

abbrev pub fault_in : Ending → Option ErrorKind
fault_in Whole = None
fault_in (Broken kind) = Some kind

-- whether a number in this stage, with a 100 owed or not, accepts a step
abbrev pub accepts_step : Stage → Bool → StepValue → Bool
accepts_step Unanswered owed (AsReader k) = true
accepts_step Unanswered owed (Read k n) = not owed
accepts_step Unanswered owed (Respond k response) = true
accepts_step Unanswered owed (IntoWriter k) = true
accepts_step Unanswered owed (Upgrade k protocol response) = true
accepts_step Unanswered owed (Drop k) = true
accepts_step Unanswered owed _ = false
accepts_step (Raw written ends) owed (Write k bytes) = not ends
accepts_step (Raw written ends) owed (Flush k) = not ends
accepts_step (Raw written ends) owed (Finish k) = not ends
accepts_step (Raw written ends) owed _ = false
accepts_step (Upgraded protocol response date written ends) owed (Write k bytes) = not ends
accepts_step (Upgraded protocol response date written ends) owed (Flush k) = not ends
accepts_step (Upgraded protocol response date written ends) owed (Finish k) = not ends
accepts_step (Upgraded protocol response date written ends) owed (Read k n) = not ends
accepts_step (Upgraded protocol response date written ends) owed _ = false
accepts_step (Answered response date found) owed _ = false
accepts_step ByServer owed _ = false

-- whether a step on this request can be done only in its number's turn
abbrev pub needs_turn : Request → Slot → StepValue → Bool
needs_turn r s (AsReader k) = s.owed
needs_turn r s (Respond k response) = not (refuses_response r response)
needs_turn r s (Write k bytes) = true
needs_turn r s (Flush k) = true
needs_turn r s (Upgrade k protocol response) = not (refuses_upgrade r s protocol response)
needs_turn r s _ = false

-- how a step uses the writer if its text can wait for its number's turn: `Unreported` if that turn has come, else
-- `Unused`
abbrev pub use_in_turn : Bool → WriterUse
use_in_turn true = Unreported
use_in_turn false = Unused

-- the outcome, with asking ended too if `ends` holds: no further head is read
abbrev pub ends_asking : Bool → Outcome → Outcome
ends_asking ends o = record o { asking_ended = o.asking_ended || ends }

-- Whether no head is read after a request that takes over the connection's stream now: the next head had to wait for
-- the response to this request (`holds_next_head`), or no head would be read after the request even if it were answered
-- now.
abbrev pub ends_with_stream : Request → Bool → ℕ → Bool → Bool
ends_with_stream r owed given end_reported = holds_next_head r || ends_when_finished r owed given end_reported

-- The progress of a connection, given a response that is about to be made. If that response asks to close the
-- connection (`closes`), no further head is read, and the response to the last number reached says that the connection
-- closes, unless that response has already been made. Otherwise nothing changes.
abbrev pub asked_to_close : Bool → Reached → Reached
asked_to_close closes old =
    if closes then record old { slots = with_last closing_slot old.slots; asking_ended = true } else old

-- The outcome of a Respond to the request of this slot, or `NoSuch` without a slot. `found`: whether memory was found
-- for response data that have to be read whole before the head is sent. Without that memory the response sends no byte,
-- and its fault is `OutOfMemory`.
abbrev pub answers_slot : Bool → HttpDate → Reached → Request → ℕ → ResponseValue → Option Slot → Outcome
answers_slot found date old r k response None = unchanged old NoSuch
answers_slot found date old r k response (Some s) =
    let closes = closes_now r s.closes s.owed s.given s.end_reported in
    let text = text_if found response (to_request closes r date) in
    ends_asking (ends_when_finished r s.owed s.given s.end_reported)
    (changes old k (finished_as closes s (Answered response date found)) Done
    (Reported text.bytes (fault_in text.ending) true fault_reply))

-- the outcome of a Respond to the request of this number, or `NoSuch` if the number wasn't reached
abbrev pub answers : Bool → HttpDate → Reached → Request → ℕ → ResponseValue → Outcome
answers found date old r k response = answers_slot found date old r k response (slice_get old.slots k)

-- the outcome of a step that drops this request, with this reply: the server answers it, at once if `turn` holds, else
-- in its number's turn
abbrev pub drops : Reached → Request → Slot → Bool → ℕ → ReplyValue → Outcome
drops old r s turn k reply =
    ends_asking (ends_when_finished r s.owed s.given s.end_reported)
    (changes old k (finished_as (closes_now r s.closes s.owed s.given s.end_reported) s ByServer) reply
    (use_in_turn turn))

-- the outcome of a Read of n bytes of this request's body
abbrev pub reads : Reached → Request → Slot → ℕ → ℕ → Outcome
reads old r s k n =
    if n == 0 then unchanged old (Given [])
    else changes old k
    (record s {
      given = s.given + length (take n (rest_of r s.given).bytes);
      end_reported = s.end_reported || nat_lt (length (rest_of r s.given).bytes) n;
    })
    (read_reply n (rest_of r s.given).bytes r.body.stop) Unused

-- the outcome of a step by which this request takes over the connection's stream, as a raw writer or by an upgrade, and
-- its slot becomes `new`
abbrev pub streams : Reached → Request → Slot → ℕ → Slot → WriterUse → Outcome
streams old r s k new writer =
    ends_asking (ends_with_stream r s.owed s.given s.end_reported) (changes old k new Done writer)

-- the outcome of a step on this request that its number accepts and that needn't wait; `turn`: whether the number's
-- turn has come; `found`: whether memory was found for response data that have to be read whole
abbrev pub effect : Bool → HttpDate → Reached → Request → Slot → Bool → StepValue → Outcome
effect found date old r s turn (AsReader k) =
    if s.owed then changes old k (record s { owed = false; continued = Some date }) Done Unreported
    else unchanged old Done
effect found date old r s turn (Read k n) = reads old r s k n
effect found date old r s turn (Respond k response) =
    if refuses_response r response then drops old r s turn k Refused
    else answers found date (asked_to_close response.answer.closes old) r k response
effect found date old r s turn (IntoWriter k) =
    streams old r s k (record s { stage = Raw [] false; given_up = true; owed = false }) Unused
effect found date old r s turn (Write k bytes) =
    changes old k (record s { stage = written_to bytes s.stage }) Done (Reported bytes None false Fault)
effect found date old r s turn (Flush k) = changes old k s Done (Reported [] None true Fault)
effect found date old r s turn (Upgrade k protocol response) =
    if refuses_upgrade r s protocol response then drops old r s turn k Refused
    else streams old r s k (upgraded_slot r s (Upgraded protocol response date [] false)) Unreported
effect found date old r s turn (Finish k) =
    changes old k (finished_as s.closes s (stage_closed s.stage)) Done (use_in_turn turn)
effect found date old r s turn (Drop k) = drops old r s turn k Done
effect found date old r s turn Ask = unchanged old NoSuch

abbrev pub at_item : Bool → HttpDate → Reached → ℕ → StepValue → Slot → Item → Outcome
at_item found date old k step s (Refuses refusal manner no_body last) = unchanged old NoSuch
at_item found date old k step s (Asks r) =
    if not (accepts_step s.stage s.owed step) then unchanged old NoSuch else
    if (needs_turn r s step && not (turn_has_come k old.slots)) then unchanged old NotYet else
    effect found date old r s (turn_has_come k old.slots) step

abbrev pub at_slot : Bool → HttpDate → Reached → ℕ → StepValue → Option Slot → Outcome
at_slot found date old k step None = unchanged old NoSuch
at_slot found date old k step (Some s) = at_item found date old k step s s.item

-- the outcome of a step on this number: `NoSuch` if the number has no request that accepts the step, `NotYet` if the
-- step has to wait for the number's turn, else its effect
abbrev pub at_number : Bool → HttpDate → Reached → ℕ → StepValue → Outcome
at_number found date old k step = at_slot found date old k step (slice_get old.slots k)

-- the outcome of a step on this date; `found`: whether memory was found for response data that have to be read whole
abbrev pub outcome : Bool → HttpDate → Reached → StepValue → Outcome
outcome found date old Ask = ask date old
outcome found date old step = at_number found date old (number_of step) step
