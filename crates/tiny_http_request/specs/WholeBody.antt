-- Definitions for a body that is read whole.
use Rattle.std.specs.Prelude.{◌≡◌, ◌⊎◌, ◌<◌, ⊤, ℕ, true, List, Option, Some, None}
use Rattle.std.specs.IoError.{error_kind}
use Rattle.std.specs.declared.io.Error.{Error}
use Rattle.std.specs.declared.io.ErrorKind.{ErrorKind}
use Rattle.std.specs.declared.io.ErrorKind.TheVariants.{InvalidData, InvalidInput, OutOfMemory, UnexpectedEof}
use Rattle.tiny_http_io.specs.Device.{Feed, whole_feed}
use Rattle.tiny_http_io.specs.declared.device.Stop.TheVariants.{Fault}
use Rattle.tiny_http_body.specs.declared.body.UnreadBody.{UnreadBody}
use Rattle.tiny_http_body.specs.declared.framing.Form.{Form}
use Rattle.tiny_http_body.specs.declared.framing.Form.TheVariants.{Counted, Chunked}
use Rattle.tiny_http_body.specs.Body.{is_streaming, bytes_left, body_stop, IsBodyOver}
use Rattle.tiny_http_request.specs.declared.whole_body.BodyError.{BodyError}
use Rattle.tiny_http_request.specs.declared.whole_body.BodyError.TheVariants.{TooLong, Cut, Broken, Io, Memory}

-- whether what is left of a body, if that is stated, is these bytes, and then the body's end
abbrev pub IsWholeOf : List ℕ → Option Feed → Type 0
IsWholeOf bytes None = ⊤
IsWholeOf bytes (Some left) = left ≡ whole_feed bytes

-- the error for a fault of this kind in a body of this form
abbrev pub error_by : Form → ErrorKind → Error → BodyError
error_by Chunked InvalidData e = Broken
error_by Chunked UnexpectedEof e = Cut
error_by Counted UnexpectedEof e = Cut
error_by _ _ e = Io e

abbrev pub fault_error : Form → Error → BodyError
fault_error form e = error_by form (error_kind e) e

-- Whether reading the rest of a body may fail with this error, whatever the body's form. `TooLong`: a body of unknown
-- length, with no fault reported before, has more bytes than the limit. `Cut`: the bytes of a body that is read from
-- the input ended early. `Broken`: never. `Io`: this fault was reported, and each later read reports it. `Memory` is
-- unrestricted.
abbrev pub FailsReading : UnreadBody → UnreadBody → BodyError → Type 0
FailsReading old new TooLong = (bytes_left old ≡ None) × ((kind : ErrorKind) → body_stop old ≡ Some (Fault kind) → ⊥)
FailsReading old new Cut = (is_streaming old ≡ true) × IsBodyOver new
FailsReading old new Broken = ⊥
FailsReading old new (Io e) = body_stop new ≡ Some (Fault (error_kind e))
FailsReading old new Memory = ⊤

-- whether a body of this form is read from the input, and its framing says where it ends
abbrev pub HasAnEnd : Form → Type 0
HasAnEnd form = (form ≡ Counted) ⊎ (form ≡ Chunked)

-- WHETHER READING A BODY OF THIS FORM WHOLE MAY FAIL with this error, under this limit. `TooLong`: its length is above
-- the limit or unknown, and it reported no fault before. `Cut`: its bytes ended early. `Broken` or `Io`: it reported
-- this fault, which each later read reports. `Memory`: memory was refused, which is unrestricted.
abbrev pub FailsWhole : Form → ℕ → UnreadBody → UnreadBody → BodyError → Type 0
FailsWhole form most old new TooLong =
    ((n : ℕ) → bytes_left old ≡ Some n → most < n) × ((kind : ErrorKind) → body_stop old ≡ Some (Fault kind) → ⊥)
FailsWhole form most old new Cut =
    (HasAnEnd form × (body_stop new ≡ Some (Fault UnexpectedEof))) ⊎ ((is_streaming old ≡ true) × IsBodyOver new)
FailsWhole form most old new Broken = (form ≡ Chunked) × (body_stop new ≡ Some (Fault InvalidData))
FailsWhole form most old new (Io e) = (fault_error form e ≡ Io e) × (body_stop new ≡ Some (Fault (error_kind e)))
FailsWhole form most old new Memory = ⊤

-- whether a fault is the one for an error of a body
abbrev pub IsFaultOfBody : BodyError → Error → Type 0
IsFaultOfBody TooLong fault = error_kind fault ≡ InvalidInput
IsFaultOfBody Cut fault = error_kind fault ≡ UnexpectedEof
IsFaultOfBody Broken fault = error_kind fault ≡ InvalidData
IsFaultOfBody (Io same) fault = fault ≡ same
IsFaultOfBody Memory fault = error_kind fault ≡ OutOfMemory
