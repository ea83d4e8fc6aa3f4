-- The facts on which the outcome of a step depends: which number is the last, what is left of its body, and how a
-- request ends the connection. The laws of `InShort` (`tiny_http_connection_laws`) can be understood without this file:
-- it defines when a step is refused, has to wait, or ends the requests.
use Rattle.std.specs.Prelude.{ℕ, ◌-◌, nat_lt, Bool, true, false, not, ◌&&◌, ◌||◌, List, [], ◌∷◌, ◌++◌, take, drop}
use Rattle.std.specs.Prelude.{Option, Some, None, is_err, if◌then◌else◌}
use Rattle.std.specs.List.{last_or, list_all}
use Rattle.httpdate.specs.declared.date.HttpDate.{HttpDate}
use Rattle.tiny_http_io.specs.Device.{Feed, whole_feed}
use Rattle.tiny_http_io.specs.declared.device.Stop.{Stop}
use Rattle.tiny_http_io.specs.declared.device.Stop.TheVariants.{End, Fault}
use Rattle.tiny_http_body.specs.declared.framing.Form.{Form}
use Rattle.tiny_http_body.specs.declared.framing.Form.TheVariants.{Rest, Nothing, WithHead, Counted, Chunked}
use Rattle.tiny_http_open_request.specs.Pipeline.{Item, Asks, Refuses, Request, is_connect_method}
use Rattle.tiny_http_open_request.specs.Pipeline.{body_length_or_0}
use Rattle.tiny_http_open_request.specs.OpenRequest.{refuses_code, upgrade_check, ends_once_finished}
use Rattle.tiny_http_open_request.specs.OpenRequest.{closes_once_answered}
use Rattle.tiny_http_standard_head.specs.Validation.{names_protocol}
use Rattle.tiny_http_response.specs.ResponseValue.{ResponseValue}
use Rattle.tiny_http_body.specs.declared.body.TheConstants.{MOST_SKIPPED}
use Rattle.tiny_http_body.specs.declared.body.Remainder.{Remainder}
use Rattle.tiny_http_body.specs.declared.body.Remainder.TheVariants as left
use Rattle.tiny_http_body.specs.Body.{body_finished}
use Rattle.tiny_http_connection.specs.Segments.{ByServer, Slot, Stage, Unanswered, is_last_item, is_finished}
use Rattle.tiny_http_connection.specs.Segments.{is_slot_broken, segment}

-- whether the turn of number k has come: all numbers before it are finished
abbrev pub turn_has_come : ℕ → List Slot → Bool
turn_has_come k slots = list_all is_finished (take k slots)

-- THE JOINED OUTPUT: the segments in the order of their numbers, up to and including the first whose number isn't
-- finished or which is broken
abbrev pub joined : List Slot → List ℕ
joined [] = []
joined (s ∷ slots) = segment s ++ (if (is_finished s && not (is_slot_broken s)) then joined slots else [])

-- whether a broken segment has ended the output
abbrev pub is_output_broken : List Slot → Bool
is_output_broken [] = false
is_output_broken (s ∷ slots) = is_slot_broken s || (is_finished s && is_output_broken slots)

-- the slot of an item that awaits its response and of whose body nothing was given out; `owed`: whether a 100 is owed
abbrev pub waiting_slot : HttpDate → Item → Bool → Slot
waiting_slot date item owed =
    record {
      item = item;
      date = date;
      continued = None;
      owed = owed;
      given = 0;
      end_reported = false;
      given_up = false;
      closes = false;
      stage = Unanswered;
    }

-- the slot of an item when it is reached: a request awaits its response, and the server answers a refused head
abbrev pub new_slot : HttpDate → Item → Slot
new_slot date (Asks r) = waiting_slot date (Asks r) r.framing.owes_continue
new_slot date (Refuses refusal manner no_body last) =
    record (waiting_slot date (Refuses refusal manner no_body last) false) { given_up = true; stage = ByServer }

-- what is left of a request's body after its first `given` bytes
abbrev pub rest_of : Request → ℕ → Feed
rest_of r given = record { bytes = drop given r.body.bytes; stop = r.body.stop }

-- whether a body stops at its end, not with a fault
abbrev pub is_end : Stop → Bool
is_end End = true
is_end (Fault kind) = false

abbrev pub is_body_finished : Request → Slot → Bool
is_body_finished r s = body_finished r.framing.form (body_length_or_0 r.framing) s.given s.end_reported

-- whether a body of this form is read from the stream, up to the next head or to the end of input
abbrev pub is_form_streamed : Form → Bool
is_form_streamed Counted = true
is_form_streamed Chunked = true
is_form_streamed Rest = true
is_form_streamed Nothing = false
is_form_streamed WithHead = false

-- whether the body of this item is read from the stream, isn't finished and wasn't given up
abbrev pub body_is_open : Slot → Item → Bool
body_is_open s (Asks r) = is_form_streamed r.framing.form && not (is_body_finished r s || s.given_up)
body_is_open s (Refuses refusal manner no_body last) = false

abbrev pub is_chunked_form : Form → Bool
is_chunked_form Chunked = true
is_chunked_form _ = false

abbrev pub is_counted : Form → Bool
is_counted Counted = true
is_counted _ = false

abbrev pub is_unanswered : Stage → Bool
is_unanswered Unanswered = true
is_unanswered _ = false

-- whether the next head isn't read before the response to this request: it asks for an upgrade and isn't the last, so
-- what follows may be bytes of the other protocol
abbrev pub holds_next_head : Request → Bool
holds_next_head r = r.framing.asks_upgrade && not r.framing.is_last

-- The rest of the body of a request that is finished now. `Endless`: its end isn't known, since chunks were not read to
-- their end, or a read met a cut or broken body. `Long`: more of its content length is left than is skipped. `Skipped`:
-- in any other case.
abbrev pub remainder_of : Request → ℕ → Bool → Remainder
remainder_of r given end_reported =
    if (is_chunked_form r.framing.form && not end_reported)
    || (body_finished r.framing.form (body_length_or_0 r.framing) given end_reported
    && not (is_end r.body.stop)) then left.Endless else
    if is_counted r.framing.form
    && (not end_reported && nat_lt MOST_SKIPPED (body_length_or_0 r.framing - given)) then left.Long
    else left.Skipped

-- Whether no head is read after a request that is finished now: under Standard, if its 100 is owed, so that the client
-- may or may not send the body, or if more of its content length is left than is skipped.
abbrev pub ends_when_finished : Request → Bool → ℕ → Bool → Bool
ends_when_finished r owed given end_reported =
    ends_once_finished r.framing.by_standard owed (remainder_of r given end_reported)

-- Whether, under Standard, the response to a request that is finished now says that the connection closes: the request
-- is the last according to its head, a response asked for that, its 100 is owed, or the rest of its body isn't skipped,
-- since it is long or its end isn't known.
abbrev pub closes_now : Request → Bool → Bool → ℕ → Bool → Bool
closes_now r closes owed given end_reported =
    r.framing.is_last || closes_once_answered closes owed (remainder_of r given end_reported)

-- the slot once its number's response has to say that the connection closes; unchanged if the response was already made
abbrev pub closing_slot : Slot → Slot
closing_slot s = if is_unanswered s.stage then record s { closes = true } else s

-- the list with its last element changed
abbrev pub with_last : {A : Type 0} → (A → A) → List A → List A
with_last change [] = []
with_last change (x ∷ []) = change x ∷ []
with_last change (x ∷ y ∷ xs) = x ∷ with_last change (y ∷ xs)

-- whether the request refuses this response because of its status code
abbrev pub refuses_response : Request → ResponseValue → Bool
refuses_response r response =
    refuses_code r.framing.by_standard (is_connect_method r.message.method) response.answer.status

-- whether the request asks for this protocol, and isn't the last
abbrev pub asks_protocol : Request → List ℕ → Bool
asks_protocol r protocol = holds_next_head r && names_protocol r.message.headers protocol

-- whether the request's body has come whole, and either was read to its end, came with its head, or is empty
abbrev pub is_body_whole : Request → Slot → Bool
is_body_whole r s = is_body_finished r s && is_end r.body.stop

-- whether the request can't be upgraded to this protocol by this response
abbrev pub refuses_upgrade : Request → Slot → List ℕ → ResponseValue → Bool
refuses_upgrade r s protocol response =
    is_err
    (upgrade_check r.framing.by_standard (asks_protocol r protocol) protocol response.answer.status
    (is_body_whole r s))

-- the request with all that follows it as its body, which the stream of its upgrade reads
abbrev pub as_stream : Request → Request
as_stream r =
    record r { framing = record r.framing { form = Rest; is_last = true }; body = r.behind; behind = whole_feed [] }

-- The slot of a number that is upgraded, in this stage. Under Standard its stream reads all that follows the request;
-- otherwise it reads what is left of the request's body.
abbrev pub upgraded_slot : Request → Slot → Stage → Slot
upgraded_slot r s stage =
    if r.framing.by_standard then record s
    { item = Asks (as_stream r); given = 0; end_reported = false; stage = stage; owed = false }
    else record s { stage = stage; owed = false }

-- whether the next head isn't read before the number of this slot is answered
abbrev pub is_holding : Slot → Item → Bool
is_holding s (Asks r) = holds_next_head r && is_unanswered s.stage
is_holding s (Refuses refusal manner no_body last) = false

-- whether a chunked body was given up before its end was reported, so that the position of the next head isn't known
abbrev pub body_was_abandoned : Slot → Item → Bool
body_was_abandoned s (Asks r) = is_chunked_form r.framing.form && (s.given_up && not s.end_reported)
body_was_abandoned s (Refuses refusal manner no_body last) = false

abbrev pub last_slot : List Slot → Option Slot
last_slot slots = last_or None slots

abbrev pub is_last_slot : Option Slot → Bool
is_last_slot None = false
is_last_slot (Some s) = is_last_item s.item

abbrev pub last_is_open : Option Slot → Bool
last_is_open None = false
last_is_open (Some s) = body_is_open s s.item

abbrev pub last_is_holding : Option Slot → Bool
last_is_holding None = false
last_is_holding (Some s) = is_holding s s.item

-- whether the last number holds the reader, so that the next head can't be read yet
abbrev pub last_holds_reader : Option Slot → Bool
last_holds_reader last = (not (is_last_slot last) && last_is_open last) || last_is_holding last

abbrev pub last_was_abandoned : Option Slot → Bool
last_was_abandoned None = false
last_was_abandoned (Some s) = body_was_abandoned s s.item
