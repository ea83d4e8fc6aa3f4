-- What is left of a body from a position within it. The laws of `InShort` (`tiny_http_connection_laws`) can be
-- understood without this file.
use Rattle.std.specs.Prelude.{◌≡◌, ℕ, Bool, ◌<◌, ◌⊎◌, List, [], ◌++◌, length, Some, None}
use Rattle.std.specs.declared.io.ErrorKind.{ErrorKind}
use Rattle.tiny_http_io.specs.declared.device.Stop.{Stop}
use Rattle.tiny_http_io.specs.declared.device.Stop.TheVariants.{Fault as Faults}
use Rattle.tiny_http_io.specs.Device.{Feed, whole_feed, prepend, fault_of}
use Rattle.tiny_http_text.specs.Bytes.{crlf}
use Rattle.tiny_http_body.specs.Chunks.{CloseFault}
use Rattle.tiny_http_body.specs.declared.framing.Form.{Form}
use Rattle.tiny_http_body.specs.declared.framing.Form.TheVariants.{Rest, Nothing, WithHead, Counted, Chunked}
use Rattle.tiny_http_open_request.specs.Pipeline.{Place, BodyAt}

-- the feed of a body that breaks off after these bytes with a fault of this kind
abbrev pub breaking : List ℕ → ErrorKind → Feed
breaking bytes kind = record { bytes = bytes; stop = Faults kind }

-- Whether `body` is what is left of a chunked body within a chunk of which `left` bytes of data are to come, and `next`
-- is where the next head begins. The `left` bytes are followed by CR LF and a chunked body; or no CR LF follows them,
-- and the body breaks off; or fewer than `left` bytes arrive, and the body breaks off.
abbrev pub WithinChunk : Bool → ℕ → List ℕ → Stop → Feed → Place → Type 0
WithinChunk standard left bytes stop body next =
    ((part : List ℕ)
    × (after : List ℕ)
    × (more : Feed)
    × (bytes ≡ part ++ (crlf ++ after))
    × (length part ≡ left)
    × BodyAt standard Chunked left after stop more next
    × (body ≡ prepend part more))
    ⊎ (((part : List ℕ)
    × (close : List ℕ)
    × (kind : ErrorKind)
    × (bytes ≡ part ++ close)
    × (length part ≡ left)
    × CloseFault close stop kind
    × (body ≡ breaking part kind)
    × (next ≡ None))
    ⊎ ((length bytes < left) × (body ≡ breaking bytes (fault_of stop)) × (next ≡ None)))

-- whether the end of a body, or its fault, has been met and not yet reported; `next` is where the next head begins
abbrev pub IsMet : List ℕ → Feed → Place → Type 0
IsMet bytes body next =
    ((body ≡ whole_feed []) × (next ≡ Some bytes)) ⊎ ((kind : ErrorKind) × (body ≡ breaking [] kind) × (next ≡ None))

-- WHAT IS LEFT OF A BODY: whether `body` is what is left of a body of this form, with n bytes left if the form has a
-- length, and `next` is where the next head begins. `Chunked`: a chunked body, the rest of a chunk and a chunked body,
-- or an end or fault that was met and not yet reported. Any other form: a body of that form.
abbrev pub RemainsAt : Bool → Form → ℕ → List ℕ → Stop → Feed → Place → Type 0
RemainsAt standard Chunked n bytes stop body next =
    BodyAt standard Chunked n bytes stop body next
    ⊎ (((left : ℕ) × WithinChunk standard left bytes stop body next) ⊎ IsMet bytes body next)
RemainsAt standard Nothing n bytes stop body next = BodyAt standard Nothing n bytes stop body next
RemainsAt standard WithHead n bytes stop body next = BodyAt standard WithHead n bytes stop body next
RemainsAt standard Counted n bytes stop body next = BodyAt standard Counted n bytes stop body next
RemainsAt standard Rest n bytes stop body next = BodyAt standard Rest n bytes stop body next
