-- The parts of a request, and of the errors in making one, that contracts refer to.
use Rattle.std.specs.Prelude.{◌≡◌, ⊤, ℕ, Bool, true, false, ◌&&◌, List, Option, None, Some, Result, Ok, Err, codes}
use Rattle.std.specs.IoError.{error_kind}
use Rattle.std.specs.declared.io.Error.{Error}
use Rattle.std.specs.declared.io.ErrorKind.{ErrorKind}
use Rattle.std.specs.declared.io.ErrorKind.TheVariants.{ConnectionAborted, InvalidInput}
use Rattle.std.specs.declared.net.socket_addr.SocketAddr.{SocketAddr}
use Rattle.tiny_http_io.specs.Device.{Feed}
use Rattle.tiny_http_io.specs.declared.device.Stop.{Stop}
use Rattle.tiny_http_io.specs.declared.device.Stop.TheVariants.{End, Fault}
use Rattle.tiny_http_head.specs.declared.common.Header.{Header}
use Rattle.tiny_http_head.specs.declared.common.HTTPVersion.{HTTPVersion}
use Rattle.tiny_http_head.specs.declared.common.Method.{Method}
use Rattle.httpdate.specs.declared.date.HttpDate.{HttpDate}
use Rattle.tiny_http_body.specs.declared.body.UnreadBody.{UnreadBody}
use Rattle.tiny_http_open_request.specs.declared.exchange.Head.{Head}
use Rattle.tiny_http_body.specs.declared.framing.Framing.{Framing}
use Rattle.tiny_http_body.specs.declared.framing.FramingFault.TheVariants.{Expectation}
use Rattle.tiny_http_body.specs.declared.framing.Profile.{Profile}
use Rattle.tiny_http_body.specs.declared.framing.HeadRules.TheVariants.{Lenient}
use Rattle.tiny_http_standard_head.specs.Lists.{has_element}
use Rattle.tiny_http_open_request.specs.HeadValues.{is_upgrade}
use Rattle.tiny_http_body.specs.FramingReading.{framing}
use Rattle.tiny_http_open_request.specs.HeadReads.{Begins, FitsFraming, IsFramedBy}
use Rattle.tiny_http_open_request.specs.Pipeline.{IsCutWithHead, body_length_or_0}
use Rattle.tiny_http_open_request.specs.declared.open_request.OpenRequest.{OpenRequest}
use Rattle.tiny_http_open_request.specs.OpenRequest.{with_body}
use Rattle.tiny_http_open_request.specs.declared.upgrading.UpgradeError.{UpgradeError}
use Rattle.tiny_http_open_request.specs.declared.upgrading.UpgradeError.TheVariants.{TooMany}
use Rattle.tiny_http_request.specs.Body.{BodyState, KeepsLeft, upgraded_body}
use Rattle.tiny_http_request.specs.declared.request.Request.{Request}
use Rattle.tiny_http_request.specs.declared.request.RequestCreationError.{RequestCreationError}
use Rattle.tiny_http_request.specs.declared.request.RequestCreationError.TheVariants.{ExpectationFailed}
use Rattle.tiny_http_request.specs.declared.request.RequestCreationError.TheVariants.{CreationIoError, Memory}

-- the head of a request
abbrev pub request_head : {R : Type 0} → {W : Type 0} → {Rt : Type 0} → Request R W Rt → Head
request_head r = r.head

-- whether the connection of a request is encrypted
abbrev pub request_secure : {R : Type 0} → {W : Type 0} → {Rt : Type 0} → Request R W Rt → Bool
request_secure r = r.client.secure

-- the address of a request's client
abbrev pub request_address : {R : Type 0} → {W : Type 0} → {Rt : Type 0} → Request R W Rt → Option SocketAddr
request_address r = r.client.remote_addr

-- what is kept of a request until it is answered, with the unread part of its body
abbrev pub request_open : {R : Type 0} → {W : Type 0} → {Rt : Type 0} → Request R W Rt → OpenRequest UnreadBody
request_open r = with_body r.open_request r.open_request.body.unread

-- the body of a request
abbrev pub request_body : {R : Type 0} → {W : Type 0} → {Rt : Type 0} → Request R W Rt → BodyState
request_body r = r.open_request.body

-- whether a call failed with `InvalidInput`, as it does if the status code is refused
abbrev pub IsInvalidInput : {T : Type 0} → Result T Error → Type 0
IsInvalidInput (Ok x) = ⊥
IsInvalidInput (Err e) = error_kind e ≡ InvalidInput

-- whether the error is that the request's expectation can't be met
abbrev pub is_expectation_failed : RequestCreationError → Bool
is_expectation_failed ExpectationFailed = true
is_expectation_failed (CreationIoError e) = false
is_expectation_failed Memory = false

-- whether P holds for the fault by which a body couldn't be read, if the error is such a fault
abbrev pub IfCreationIo : RequestCreationError → (Error → Type 0) → Type 0
IfCreationIo ExpectationFailed P = ⊤
IfCreationIo (CreationIoError e) P = P e
IfCreationIo Memory P = ⊤

-- the kind of the error for a body that this stop of its reader cuts short
abbrev pub cut_kind : Stop → ErrorKind
cut_kind End = ConnectionAborted
cut_kind (Fault kind) = kind

-- whether a body with this framing is read at once and cut short, and an error of this kind reports that, if the feed
-- is stated
abbrev pub IsCutShort : Framing → Option Feed → ErrorKind → Type 0
IsCutShort f None kind = ⊤
IsCutShort f (Some x) kind = IsCutWithHead f.form (body_length_or_0 f) x.bytes × (kind ≡ cut_kind x.stop)

-- whether the body after a head with this version and these headers is read at once and cut short, and an error of this
-- kind reports that, if the feed is stated
abbrev pub CutsShort : HTTPVersion → List Header → Option Feed → ErrorKind → Type 0
CutsShort v headers feed kind = (f : Framing) × (framing Lenient v headers ≡ Ok f) × IsCutShort f feed kind

-- whether the body fits this framing, and begins at this feed of the reader
abbrev pub BeginsWith : Framing → Option Feed → UnreadBody → Type 0
BeginsWith f feed body = (left : Option Feed) × Begins f feed left (Some body) × FitsFraming f body

-- whether a request has this client and this request line
abbrev pub Says : {R : Type 0} → {W : Type 0} → {Rt : Type 0} → Request R W Rt → Bool → Option SocketAddr → Method
    → List ℕ → HTTPVersion → Type 0
Says r secure address method path version =
    (request_secure r ≡ secure) × (request_address r ≡ address)
    × ((request_head r).method ≡ method) × ((request_head r).path ≡ path) × ((request_head r).version ≡ version)

-- whether a request is framed as its head requires under this profile, and what is kept for its response fits that head
-- and this date
abbrev pub IsFramed : {R : Type 0} → {W : Type 0} → {Rt : Type 0} → Request R W Rt → Profile → HttpDate → Type 0
IsFramed r profile date = IsFramedBy profile date (request_head r) (request_open r)

-- Whether making a request from these headers may fail with this error: with `ExpectationFailed` only if what they
-- expect can't be met, and with a reader's fault only if a body that is read at once is cut short. `Memory` is
-- unrestricted.
abbrev pub FailsBy : RequestCreationError → HTTPVersion → List Header → Option Feed → Type 0
FailsBy e version headers feed =
    (is_expectation_failed e ≡ true → framing Lenient version headers ≡ Err Expectation)
    × IfCreationIo e (λ fault. CutsShort version headers feed (error_kind fault))

-- whether the head asks for an upgrade to this protocol
abbrev pub asks_for : Head → List ℕ → Bool
asks_for h protocol = is_upgrade h && has_element (codes "Upgrade") protocol h.headers.items

-- whether the reader of an upgrade's stream returns what is left of the request's body or, under `Standard` and if the
-- body holds the input, all further input
abbrev pub ReadsStream : {R : Type 0} → {W : Type 0} → {Rt : Type 0} → Request R W Rt → BodyState → Type 0
ReadsStream r body = KeepsLeft (upgraded_body (request_open r).by_standard (request_body r)) body

-- whether an upgrade was refused for this reason: that of the failed check, or, if no check failed, that the limit of
-- upgraded connections is reached
abbrev pub RefusesUpgrade : Result ⊤ UpgradeError → UpgradeError → Type 0
RefusesUpgrade (Ok u) error = error ≡ TooMany
RefusesUpgrade (Err found) error = found ≡ error
