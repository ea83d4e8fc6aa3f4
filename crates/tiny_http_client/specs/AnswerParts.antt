-- The results of the calls that read the parts of a response.
use Rattle.std.specs.Prelude.{◌≡◌, ℕ, ◌<◌, ◌≤◌, ◌⊎◌, List, [], length, Option, Some, None, Result, Ok, Err, false, ⊤}
use Rattle.std.specs.declared.io.ErrorKind.{ErrorKind}
use Rattle.std.specs.declared.io.ErrorKind.TheVariants.{InvalidData}
use Rattle.tiny_http_head.specs.declared.common.HTTPVersion.{HTTPVersion}
use Rattle.tiny_http_head.specs.declared.common.Method.{Method}
use Rattle.tiny_http_head.specs.declared.common.StatusCode.{StatusCode}
use Rattle.tiny_http_head.specs.declared.common.Header.{Header}
use Rattle.tiny_http_io.specs.declared.device.Stop.TheVariants.{End}
use Rattle.tiny_http_body.specs.Chunks.{WholeChunks, CutChunks}
use Rattle.tiny_http_text.specs.Bytes.{AreAscii}
use Rattle.tiny_http_text.specs.Lines.{Line}
use Rattle.tiny_http_client.specs.declared.head.Fault.{Fault}
use Rattle.tiny_http_client.specs.declared.head.Fault.TheVariants.{Unfinished as IsCut, Malformed as IsBad}
use Rattle.tiny_http_client.specs.declared.head.Fault.TheVariants.{Memory as IsMemory}
use Rattle.tiny_http_client.specs.declared.head.HeadParts.{HeadParts}
use Rattle.tiny_http_client.specs.declared.answer.Answer.{Answer}
use Rattle.tiny_http_client.specs.ClientAnswer.{AnswerHead, ClientAnswer, FieldLine, BeginsWithFieldLines}
use Rattle.tiny_http_client.specs.ClientAnswer.{BeginsWithAnswerHead, PassesOver, is_interim, Lack, Unfinished}
use Rattle.tiny_http_client.specs.ClientAnswer.{Invalid, LacksLine, IsFieldLineOrEmpty, LacksHead}
use Rattle.tiny_http_client.specs.ClientAnswer.{Extent, NoBody, OfChunks, OfLength, OfUnknownLength, extent}
use Rattle.tiny_http_client.specs.ClientAnswer.{BeginsWithStatusLine}

-- the head in `HeadParts`, as the grammar sees it
abbrev pub head_of : HeadParts → AnswerHead
head_of h = record { version = h.version; status = h.status.0; headers = h.headers.items }

-- a response that a call returns, as the grammar sees it
abbrev pub answer_of : Answer → ClientAnswer
answer_of a =
    record
    { head = record { version = a.version; status = a.status.0; headers = a.headers.items }; body = a.body.items }

-- the version and the status of a status line
abbrev pub status_line_of : HTTPVersion × StatusCode → HTTPVersion × ℕ
status_line_of r = (r.0, r.1.0)

-- whether a part is lacking for the reason that this fault reports; always true if memory is refused
abbrev pub LacksBy : (Lack → Type 0) → Fault → Type 0
LacksBy lacks IsCut = lacks Unfinished
LacksBy lacks IsBad = lacks Invalid
LacksBy lacks IsMemory = ⊤

-- whether the chunked body at the front of the bytes has data, whether it is complete or breaks off
abbrev pub HasChunkData : List ℕ → Type 0
HasChunkData bytes =
    (body : List ℕ) × (0 < length body)
    × (((rest : List ℕ) × WholeChunks bytes body rest) ⊎ ((kind : ErrorKind) × CutChunks bytes End body kind))

-- whether memory for a body of this extent may be requested: for the data of chunks, if there are any; or for as many
-- bytes as the length states, once these bytes have arrived
abbrev pub WantsMemory : Extent → List ℕ → Type 0
WantsMemory NoBody bytes = ⊥
WantsMemory OfChunks bytes = HasChunkData bytes
WantsMemory (OfLength n) bytes = n ≤ length bytes
WantsMemory OfUnknownLength bytes = ⊥

-- the fault that is reported if decoding a chunked body from bytes in memory fails with this kind: `Malformed` for
-- `InvalidData`, otherwise `Unfinished`, since the bytes end
abbrev pub chunk_fault : ErrorKind → Fault
chunk_fault InvalidData = IsBad
chunk_fault _ = IsCut

-- whether the bytes begin with a field line, for which memory is requested
abbrev pub HasFieldLine : List ℕ → Type 0
HasFieldLine bytes =
    (text : List ℕ) × (rest : List ℕ) × Line bytes text rest × AreAscii text
    × ((header : Header) × FieldLine text header)

-- whether a call reads the next field line, or the empty line, with this result
abbrev pub ReadsFieldLine : List ℕ → List ℕ → Result (Option Header) Fault → Type 0
ReadsFieldLine old new (Ok None) = Line old [] new
ReadsFieldLine old new (Ok (Some h)) = (text : List ℕ) × Line old text new × AreAscii text × FieldLine text h
ReadsFieldLine old new (Err IsMemory) = HasFieldLine old
ReadsFieldLine old new (Err fault) = LacksBy (LacksLine IsFieldLineOrEmpty old) fault

-- whether the bytes begin with the field lines of these headers and an empty line, and `rest` follows
abbrev pub BeginsWithAllFieldLines : List ℕ → List Header → List ℕ → Type 0
BeginsWithAllFieldLines bytes headers rest =
    (empty : List ℕ) × BeginsWithFieldLines bytes headers empty × Line empty [] rest

-- whether, after some field lines, the next line is unfinished or invalid, as `lack` says
abbrev pub LacksFieldLines : List ℕ → Lack → Type 0
LacksFieldLines bytes lack =
    (headers : List Header)
    × (rest : List ℕ)
    × BeginsWithFieldLines bytes headers rest
    × LacksLine IsFieldLineOrEmpty rest lack

-- whether the bytes begin with any number of interim heads and then this head, which isn't interim, and `rest` follows
abbrev pub BeginsWithFinalHead : List ℕ → AnswerHead → List ℕ → Type 0
BeginsWithFinalHead bytes head rest =
    (interim : List AnswerHead)
    × (start : List ℕ)
    × PassesOver bytes interim start
    × BeginsWithAnswerHead start head rest
    × (is_interim head.status ≡ false)

-- whether, after any number of interim heads, the next head is unfinished or invalid, as `lack` says
abbrev pub LacksFinalHead : List ℕ → Lack → Type 0
LacksFinalHead bytes lack =
    (interim : List AnswerHead) × (start : List ℕ) × PassesOver bytes interim start × LacksHead start lack

-- whether the bytes begin with a status line and a field line
abbrev pub HasStartAndField : List ℕ → Type 0
HasStartAndField bytes =
    (version : HTTPVersion) × (status : ℕ) × (fields : List ℕ)
    × BeginsWithStatusLine bytes version status fields
    × HasFieldLine fields

-- whether the bytes begin with any number of interim heads, and then a status line and a field line
abbrev pub HasSomeField : List ℕ → Type 0
HasSomeField bytes =
    (interim : List AnswerHead) × (start : List ℕ) × PassesOver bytes interim start × HasStartAndField start

-- MEMORY IS REQUESTED FOR A RESPONSE: whether the bytes have a field line, if only of an interim head, or a body, for
-- which a client requests memory
abbrev pub HasSomeToKeep : Method → List ℕ → Type 0
HasSomeToKeep method bytes =
    HasSomeField bytes
    ⊎ ((head : AnswerHead) × (after : List ℕ)
    × BeginsWithFinalHead bytes head after
    × WantsMemory (extent method head) after)
