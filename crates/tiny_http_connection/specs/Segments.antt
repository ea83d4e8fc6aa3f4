-- The numbers of a connection, and what each sends: its segment of the output.
use Rattle.std.specs.Prelude.{ℕ, Bool, true, false, List, [], ◌++◌}
use Rattle.std.specs.Prelude.{Option, Some, None}
use Rattle.std.specs.declared.io.ErrorKind.TheVariants.{OutOfMemory}
use Rattle.httpdate.specs.declared.date.HttpDate.{HttpDate}
use Rattle.tiny_http_response.specs.Answer.{Printing}
use Rattle.tiny_http_body.specs.Text.{Text, Ending, Whole, Broken, prepend_text, whole, nothing_sent}
use Rattle.tiny_http_open_request.specs.Pipeline.{Item, Asks, Refuses, Request, is_head_method}
use Rattle.tiny_http_open_request.specs.OpenRequest.{coding_for}
use Rattle.tiny_http_response.specs.ResponseValue.{ResponseValue, response_of, response_text, upgrade_text}
use Rattle.tiny_http_response.specs.ResponseValue.{printing_to}
use Rattle.tiny_http_open_request.specs.ErrorResponse.{own_printing, persistence_of, refusal_response}

-- the stage of a number
pub data Stage : Type 0 where
  -- it awaits its response
  Unanswered : Stage
  -- it was answered with this response on this date; `found`: whether memory was found for data that have to be read
  -- whole first
  Answered : (response : ResponseValue) (date : HttpDate) (found : Bool) → Stage
  -- the server answers it: it is a refused head, or a request that was dropped, such as one whose response or upgrade
  -- was refused
  ByServer : Stage
  -- its raw writer was taken: the bytes that were written, and whether the writer has ended
  Raw : (written : List ℕ) (closed : Bool) → Stage
  -- it was upgraded to this protocol, with this response, on this date: the bytes that were written afterwards, and
  -- whether the stream has ended
  Upgraded : (protocol : List ℕ) (response : ResponseValue) (date : HttpDate) (written : List ℕ) (closed : Bool) → Stage

-- A number that was reached: its item, the date of its Ask, and that of its 100, if one was sent; whether a 100 is
-- still owed; how many bytes of its body were given out, whether the body's end or fault was reported, and whether the
-- body was given up; whether under Standard its response says that the connection closes (while it waits: whether a
-- response asked for that; once it is finished: as was decided then); and its stage.
pub record Slot : Type 0 where
  pub item : Item
  pub date : HttpDate
  pub continued : Option HttpDate
  pub owed : Bool
  pub given : ℕ
  pub end_reported : Bool
  pub given_up : Bool
  pub closes : Bool
  pub stage : Stage

-- the response to a dropped request
abbrev pub drop_response : ResponseValue
drop_response = response_of 500 [] []

-- the 100 of a request that expects it
abbrev pub continue_response : ResponseValue
continue_response = response_of 100 [] []

-- The printing of a response to a request: for the request's version, in the coding that its headers ask for, and
-- without a body for HEAD. Under Standard, if `closes` holds, the response says that the connection closes.
abbrev pub to_request : Bool → Request → HttpDate → Printing
to_request closes r date =
    printing_to (coding_for r.framing.by_standard r.message.headers) r.message.version
    (is_head_method r.message.method) (persistence_of r.framing.by_standard closes) date

-- the printing of a response to an item on this date
abbrev pub printing_for : Bool → Item → HttpDate → Printing
printing_for closes (Asks r) date = to_request closes r date
printing_for closes (Refuses refusal manner no_body last) date = own_printing manner no_body date

abbrev pub server_response : Item → ResponseValue
server_response (Asks r) = drop_response
server_response (Refuses refusal manner no_body last) = refusal_response refusal

-- the text of a response; if memory for data that have to be read whole first wasn't found, no byte, and the fault
-- `OutOfMemory`
abbrev pub text_if : Bool → ResponseValue → Printing → Text
text_if true r p = response_text r p
text_if false r p = nothing_sent OutOfMemory

-- whether the head of this item is the last
abbrev pub is_last_item : Item → Bool
is_last_item (Asks r) = r.framing.is_last
is_last_item (Refuses refusal manner no_body last) = last

-- what a number in this stage sends, apart from a 100
abbrev pub stage_text : Bool → Item → HttpDate → Stage → Text
stage_text closes item date Unanswered = whole []
stage_text closes item date (Answered response at found) = text_if found response (printing_for closes item at)
stage_text closes item date ByServer = response_text (server_response item) (printing_for closes item date)
stage_text closes item date (Raw written closed) = whole written
stage_text closes item date (Upgraded protocol response at written closed) =
    whole (upgrade_text response protocol (printing_for (is_last_item item) item at) ++ written)

-- the 100 that a number sent on this date, or no byte if it sent none
abbrev pub opening : Item → Option HttpDate → List ℕ
opening item None = []
opening item (Some date) = (response_text continue_response (printing_for (is_last_item item) item date)).bytes

-- THE SEGMENT of a number: the part of the output that belongs to it, and how it ends
abbrev pub slot_text : Slot → Text
slot_text s = prepend_text (opening s.item s.continued) (stage_text s.closes s.item s.date s.stage)

abbrev pub segment : Slot → List ℕ
segment s = (slot_text s).bytes

abbrev pub is_broken : Ending → Bool
is_broken Whole = false
is_broken (Broken kind) = true

abbrev pub is_slot_broken : Slot → Bool
is_slot_broken s = is_broken (slot_text s).ending

-- whether a number in this stage is finished
abbrev pub is_stage_finished : Stage → Bool
is_stage_finished Unanswered = false
is_stage_finished (Answered response date found) = true
is_stage_finished ByServer = true
is_stage_finished (Raw written closed) = closed
is_stage_finished (Upgraded protocol response date written closed) = closed

abbrev pub is_finished : Slot → Bool
is_finished s = is_stage_finished s.stage
