-- The parts of an `OpenRequest` that contracts refer to.
use Rattle.std.specs.Prelude.{◌≡◌, ◌&&◌, ◌||◌, ◌==◌, ℕ, Bool, true, false, not, nat_lt, List, [], Option, Some, None}
use Rattle.std.specs.Prelude.{Result, Ok, Err, ⊤, if◌then◌else◌}
use Rattle.std.specs.List.{list_all}
use Rattle.httpdate.specs.declared.date.HttpDate.{HttpDate}
use Rattle.tiny_http_io.specs.declared.device.Stop.TheVariants.{End}
use Rattle.tiny_http_text.specs.Bytes.{is_ascii}
use Rattle.tiny_http_response.specs.Coding.{coding_asked}
use Rattle.tiny_http_response.specs.declared.coding.Coding.{Coding}
use Rattle.tiny_http_response.specs.declared.coding.Coding.TheVariants.{Chunked}
use Rattle.tiny_http_head.specs.declared.common.Header.{Header}
use Rattle.tiny_http_standard_head.specs.Te.{asks_chunked}
use Rattle.tiny_http_standard_head.specs.Validation.{names_protocol}
use Rattle.tiny_http_io.specs.Outlet.{OutletState, output_of, outlet_held, SentOn}
use Rattle.tiny_http_response.specs.Sending.{IsFlushed}
use Rattle.tiny_http_open_request.specs.declared.exchange.Head.{Head}
use Rattle.tiny_http_response.specs.declared.response_context.ResponseContext.{ResponseContext}
use Rattle.tiny_http_body.specs.declared.streamed.StreamedForm.{StreamedForm}
use Rattle.tiny_http_body.specs.declared.streamed.StreamedForm.TheVariants.{Plain}
use Rattle.tiny_http_response.specs.Streaming.{streamed_form}
use Rattle.tiny_http_response.specs.declared.response_context.Persistence.TheVariants.{Close}
use Rattle.tiny_http_body.specs.declared.body.Remainder.{Remainder}
use Rattle.tiny_http_body.specs.declared.body.UnreadBody.{UnreadBody}
use Rattle.tiny_http_body.specs.declared.body.UnreadBody.TheVariants.{Over}
use Rattle.tiny_http_body.specs.Body.{stream_body, is_long, is_skipped}
use Rattle.tiny_http_open_request.specs.declared.open_request.OpenRequest.{OpenRequest}
use Rattle.tiny_http_open_request.specs.declared.upgrading.UpgradeError.{UpgradeError}
use Rattle.tiny_http_open_request.specs.declared.upgrading.UpgradeError.TheVariants.{Protocol, NotAsked, Status}
use Rattle.tiny_http_open_request.specs.declared.upgrading.UpgradeError.TheVariants.{UnfinishedBody}
use Rattle.tiny_http_open_request.specs.ErrorResponse.{persistence_of}
use Rattle.tiny_http_open_request.specs.Pipeline.{is_head_method, is_connect_method}

-- the coding that the headers of a request ask for: under `Standard`, chunked or none; under another profile as in
-- `coding_asked` (`tiny_http_response`)
abbrev pub coding_for : Bool → List Header → Option Coding
coding_for by_standard headers =
    if by_standard then (if asks_chunked headers then Some Chunked else None) else coding_asked headers

-- whether a code is that of a final response: of three digits and not 1xx (RFC 9110, section 15)
abbrev pub is_final : ℕ → Bool
is_final code = not (nat_lt code 200) && nat_lt code 1000

-- whether a response with this code is refused: under `Standard` if it isn't final, or if it is a 2xx in response to
-- `CONNECT`, which would open a tunnel
abbrev pub refuses_code : Bool → Bool → ℕ → Bool
refuses_code by_standard is_connect code = by_standard && (not (is_final code) || (is_connect && nat_lt code 300))

-- Whether no head is read after a request that is finished now: under `Standard`, if its 100 is owed, so that the
-- client may omit the body or send it, or if more of its body is left than is skipped.
abbrev pub ends_once_finished : Bool → Bool → Remainder → Bool
ends_once_finished by_standard owed left = by_standard && (owed || is_long left)

abbrev pub is_last_once_finished : {B : Type 0} → OpenRequest B → Remainder → Bool
is_last_once_finished w left = ends_once_finished w.by_standard w.owes_continue left

-- whether no head is read after a request whose raw writer or upgrade takes over the connection's stream now
abbrev pub is_last_with_stream : {B : Type 0} → OpenRequest B → Remainder → Bool
is_last_with_stream w left = w.holds_next_head || is_last_once_finished w left

-- Whether, under `Standard`, the response to a request says that the connection closes though the request's head
-- doesn't require it: if a response asked for that, the request's 100 is owed, or the rest of the body isn't skipped
-- (it is long, or its end isn't known).
abbrev pub closes_once_answered : Bool → Bool → Remainder → Bool
closes_once_answered closes owed left = closes || (owed || not (is_skipped left))

-- the context in which the response to an open request is printed; if the request is the last according to its head,
-- the context that is kept says so already
abbrev pub final_context : {B : Type 0} → OpenRequest B → Remainder → ResponseContext
final_context w left =
    if w.by_standard && closes_once_answered w.closes w.owes_continue left then record w.response_context
    { persistence = Some Close } else w.response_context

-- whether the end of the connection ends a body of this form
abbrev pub is_plain : StreamedForm → Bool
is_plain Plain = true
is_plain _ = false

-- The context in which the head of a response with a streamed body is printed: under `Standard` the head says that the
-- connection closes if `final_context` does, or if the end of the connection ends the body.
abbrev pub streaming_context : {B : Type 0} → OpenRequest B → ℕ → Remainder → ResponseContext
streaming_context w status left =
    if w.by_standard && is_plain (streamed_form w.response_context status) then record (final_context w left)
    { persistence = Some Close } else final_context w left

-- Whether a response with this code can upgrade a connection to this protocol, or why not. The protocol must be ASCII.
-- Under `Standard` the request must ask for the protocol, the code must be 101, and the body must be whole (RFC 9110,
-- section 7.8).
abbrev pub upgrade_check : Bool → Bool → List ℕ → ℕ → Bool → Result ⊤ UpgradeError
upgrade_check by_standard is_asked protocol code is_whole =
    if not (list_all is_ascii protocol) then Err Protocol else
    if not by_standard then Ok tt else
    if not is_asked then Err NotAsked else
    if not (code == 101) then Err Status else
    if not is_whole then Err UnfinishedBody else Ok tt

-- whether a response with this code can upgrade the connection of an open request to this protocol, or why not
abbrev pub request_check : {B : Type 0} → OpenRequest B → List ℕ → ℕ → Bool → Result ⊤ UpgradeError
request_check w protocol code is_whole =
    upgrade_check w.by_standard (w.holds_next_head && names_protocol w.upgrades.items protocol) protocol code is_whole

-- the open request with this body in place of its own
abbrev pub with_body : {A B : Type 0} → OpenRequest A → B → OpenRequest B
with_body w body = record {
  response_context = w.response_context;
  owes_continue = w.owes_continue;
  holds_next_head = w.holds_next_head;
  by_standard = w.by_standard;
  is_connect = w.is_connect;
  closes = w.closes;
  upgrades = w.upgrades;
  dropped = w.dropped;
  body = body;
}

-- the open request, marked so that the connection closes after it
abbrev pub closing : {B : Type 0} → OpenRequest B → OpenRequest B
closing w = record w { closes = true }

-- whether an open request is unchanged except that no 100 is owed
abbrev pub OwesNoContinue : {B : Type 0} → OpenRequest B → OpenRequest B → Type 0
OwesNoContinue old new = new ≡ record old { owes_continue = false }

-- whether an open request is unchanged except that no 100 is owed, and that its body is what an upgraded connection
-- reads
abbrev pub HasBecomeStream : OpenRequest UnreadBody → OpenRequest UnreadBody → Type 0
HasBecomeStream old new = new ≡ record old { owes_continue = false; body = stream_body old.by_standard old.body }

-- whether an open request is unchanged except that the text of its drop was taken, and that no 100 is owed
abbrev pub HasNoDropText : {B : Type 0} → OpenRequest B → OpenRequest B → Type 0
HasNoDropText old new = new ≡ record old { owes_continue = false; dropped = record old.dropped { is_taken = true } }

-- whether an open request is unchanged except that its body is at its end, that no 100 is owed, and that no upgrade is
-- accepted
abbrev pub HasNoBodyLeft : OpenRequest UnreadBody → OpenRequest UnreadBody → Type 0
HasNoBodyLeft old new = new ≡ record old { body = Over End; owes_continue = false; holds_next_head = false }

-- whether an outlet holds no bytes, and, unless the outlet or its writer has ended, all that it took was sent on
abbrev pub HasSentAll : {W : Type 0} → OutletState W → Type 0
HasSentAll o = (outlet_held o ≡ []) × SentOn o × IsFlushed (output_of o)

-- Whether this is the state of a request with this head as it is handed out on this date.
pub record KeepsHead {B : Type 0} (w : OpenRequest B) (h : Head) (date : HttpDate) : Type 0 where
  pub version : w.response_context.version ≡ h.version
  pub asked_coding : w.response_context.asked_coding ≡ coding_for h.framing.by_standard h.headers.items
  pub no_body : w.response_context.no_body ≡ is_head_method h.method
  pub persistence : w.response_context.persistence ≡ persistence_of h.framing.by_standard h.framing.is_last
  pub owes_continue : w.owes_continue ≡ h.framing.owes_continue
  pub holds_next_head : w.holds_next_head ≡ (h.framing.asks_upgrade && not h.framing.is_last)
  pub by_standard : w.by_standard ≡ h.framing.by_standard
  pub is_connect : w.is_connect ≡ is_connect_method h.method
  pub closes : w.closes ≡ false
  -- The protocols that the request asks for are kept, unless the request is its connection's last.
  pub upgrades : (protocol : List ℕ)
      → (w.holds_next_head && names_protocol w.upgrades.items protocol)
      ≡ (w.holds_next_head && names_protocol h.headers.items protocol)
  pub no_upgrades : w.holds_next_head ≡ false → w.upgrades.items ≡ []
  pub dropped : w.dropped ≡ record { is_taken = false; date = date }
