-- The parts of a `ClientConnection` that contracts refer to.
use Rattle.std.specs.Prelude.{◌≡◌, ◌||◌, ℕ, zero, suc, Bool, true, false, [], Option, Some, None, Ok, MatchBool}
use Rattle.std.specs.Global.{Vec}
use Rattle.std.specs.Option.{option_and_then}
use Rattle.std.specs.declared.net.socket_addr.SocketAddr.{SocketAddr}
use Rattle.tiny_http_body.specs.declared.framing.Profile.{Profile}
use Rattle.tiny_http_body.specs.Body.{is_streaming}
use Rattle.httpdate.specs.declared.date.HttpDate.{HttpDate}
use Rattle.tiny_http_io.specs.Device.{Feed}
use Rattle.tiny_http_io.specs.Source.{SourceState}
use Rattle.tiny_http_io.specs.declared.source.InputState.TheVariants.{Head as AtHead}
use Rattle.tiny_http_head.specs.declared.common.StatusCode.{StatusCode}
use Rattle.tiny_http_open_request.specs.declared.exchange.Exchange.{Exchange}
use Rattle.tiny_http_open_request.specs.declared.exchange.HeadRead.TheVariants as read
use Rattle.tiny_http_open_request.specs.Exchange.{exchange_of}
use Rattle.tiny_http_open_request.specs.HeadReads.{TakesHead, FitsFraming, head_framing}
use Rattle.tiny_http_threads.specs.HeldReader.{held_item}
use Rattle.tiny_http_request.specs.declared.client.ClientConnection.{ClientConnection}
use Rattle.tiny_http_request.specs.declared.client.NextHead.{NextHead}
use Rattle.tiny_http_request.specs.declared.client.NextHead.TheVariants.{Here, Behind}
use Rattle.tiny_http_request.specs.declared.request.Request.{Request}
use Rattle.tiny_http_request.specs.Body.{BodyState}
use Rattle.tiny_http_request.specs.Request.{request_head, request_secure, request_address, request_open, request_body}
use Rattle.tiny_http_request.specs.Request.{IsFramed}

-- whether the connection hands out no further request
abbrev pub IsOver : {R : Type 0} → {W : Type 0} → {Rt : Type 0} → ClientConnection R W Rt → Type 0
IsOver c = c.next_head ≡ None

-- whether the connection is encrypted
abbrev pub client_secure : {R : Type 0} → {W : Type 0} → {Rt : Type 0} → ClientConnection R W Rt → Bool
client_secure c = c.client.secure

-- the address of a connection's client
abbrev pub client_address : {R : Type 0} → {W : Type 0} → {Rt : Type 0} → ClientConnection R W Rt → Option SocketAddr
client_address c = c.client.remote_addr

-- the profile under which a connection's heads are read
abbrev pub client_profile : {R : Type 0} → {W : Type 0} → {Rt : Type 0} → ClientConnection R W Rt → Profile
client_profile c = c.profile

-- Whether a request was handed out on this date with a body that fits its head. If that request is the last according
-- to its head, no request follows; otherwise one may. The request holds the input while its body is read from there, or
-- if the next head waits for its response.
pub record HandsOut {R W Rt : Type 0} (old new : ClientConnection R W Rt) (date : HttpDate)
    (r : Request R W Rt) : Type 0 where
  pub framed : IsFramed r (client_profile old) date
  pub fits : FitsFraming (head_framing (request_head r)) (request_open r).body
  pub client : (request_secure r ≡ client_secure old) × (request_address r ≡ client_address old)
  pub holds : (request_body r).holds_input ≡ is_streaming (request_open r).body || (request_open r).holds_next_head
  pub last : (request_head r).framing.is_last ≡ true → IsOver new
  pub goes_on : (request_head r).framing.is_last ≡ false → IsOver new → ⊥

-- the input, if the next head can be read from it at once, without waiting for an earlier request
abbrev pub source_here : {R : Type 0} → {Rt : Type 0} → NextHead R Rt → Option (SourceState R)
source_here (Here reader) = Some (held_item reader)
source_here (Behind reader) = None

-- THE INPUT OF A CONNECTION, if the connection holds it, that is, if the last request didn't take it and a further head
-- is to be read
abbrev pub client_source : {R W Rt : Type 0} → ClientConnection R W Rt → Option (SourceState R)
client_source c = option_and_then source_here c.next_head

-- Whether a connection holds a new input over this reader: nothing has been read from the reader.
pub record IsFreshSource {R : Type 0} (stated : R → Option Feed) (reader : R) (held : Option (SourceState R)) : Type 0
  where
    pub source : SourceState R
    pub holds : held ≡ Some source
    pub feed : source.feed ≡ stated reader
    pub within : source.reader ≡ reader
    pub stop : source.stop ≡ None
    pub nothing_held : source.held ≡ []
    pub input_state : source.input_state ≡ AtHead

-- whether n heads are refused one after another, and another head follows each
abbrev pub PassesRefused : {R : Type 0} → Profile → HttpDate → ℕ → SourceState R → SourceState R → Type 0
PassesRefused p date zero here there = there ≡ here
PassesRefused {R = R} p date (suc n) here there =
    (mid : SourceState R)
    × (status : StatusCode)
    × (text : Vec ℕ)
    × PassesRefused p date n here mid
    × TakesHead p date mid there (Ok (read.Refused status text false))

-- THE NEXT REQUEST of an input, after the heads that are refused before it, and the input after its head.
pub record FindsRequest {R : Type 0} (p : Profile) (date : HttpDate) (here : SourceState R) (x : Exchange)
    (there : SourceState R) : Type 0 where
  pub passed : ℕ
  pub at : SourceState R
  pub passes : PassesRefused p date passed here at
  pub reads : TakesHead p date at there (Ok (read.Request x))

-- whether, after a request has been handed out, its body holds the input, or, if it doesn't and a further head is to be
-- read, the connection holds the input
abbrev pub GivesInput : {R W Rt : Type 0} → SourceState R → ClientConnection R W Rt → Request R W Rt → Type 0
GivesInput source new r =
    MatchBool (request_body r).holds_input ((request_body r).input ≡ source.feed)
    ((request_head r).framing.is_last ≡ false → client_source new ≡ Some source)

-- Whether a request that is handed out on this date is the next one in the input, if the connection holds the input.
abbrev pub HandsOutNext : {R W Rt : Type 0} → ClientConnection R W Rt → ClientConnection R W Rt → HttpDate
    → Request R W Rt → Type 0
HandsOutNext {R = R} old new date r = (source : SourceState R)
    → client_source old ≡ Some source
    → (behind : SourceState R)
    × FindsRequest (client_profile old) date source (exchange_of (request_head r) (request_open r)) behind
    × GivesInput behind new r
