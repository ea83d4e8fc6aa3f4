-- A chunked body (RFC 9112, section 7.1), and the data of one that is cut or broken, under each of the two sets of
-- rules (`ChunkRules`).
use Rattle.std.specs.Prelude.{◌≡◌, ℕ, ◌+◌, ◌<◌, ◌≤◌, ◌⊎◌, Bool, false, ◌||◌, ◌==◌, nat_lt, List, [], ◌∷◌, ◌++◌}
use Rattle.std.specs.Prelude.{length, take, flat_map, IsTrue}
use Rattle.std.specs.List.{AllByRecursion, list_all}
use Rattle.std.specs.Char.{digit_value}
use Rattle.std.specs.Str.Parse.{digits_value}
use Rattle.std.specs.declared.io.ErrorKind.{ErrorKind}
use Rattle.std.specs.declared.io.ErrorKind.TheVariants.{InvalidData}
use Rattle.tiny_http_io.specs.declared.device.Stop.{Stop}
use Rattle.tiny_http_io.specs.Device.{fault_of}
use Rattle.httparse.specs.Grammar.{is_token, is_value_byte}
use Rattle.tiny_http_text.specs.Bytes.{crlf, HasNo, Trims, IsEmptyOrBegins, has_bare_front, colon, semicolon}
use Rattle.tiny_http_text.specs.Lines.{has_crlf}
use Rattle.tiny_http_head.specs.Heads.{line_feed}
use Rattle.tiny_http_body.specs.declared.chunked.TheConstants.{LONGEST_LINE, MOST_TRAILERS}
use Rattle.tiny_http_body.specs.declared.chunked.ChunkRules.{ChunkRules}
use Rattle.tiny_http_body.specs.declared.chunked.ChunkRules.TheVariants.{Lenient, Standard}

-- maximum length in bytes of a chunk-size line or a trailer line, without its CR LF: 8192
abbrev pub longest_line : ℕ
longest_line = LONGEST_LINE

-- maximum number of lines in a trailer section, without its empty line: 128
abbrev pub most_trailers : ℕ
most_trailers = MOST_TRAILERS

-- whether the byte is a space or a tab
abbrev pub is_bws : ℕ → Bool
is_bws b = b == 9 || b == 32

-- whether the byte is a hexadecimal digit of either case
abbrev pub is_hex : ℕ → Bool
is_hex b = nat_lt (digit_value b) 16

-- whether the text is a chunk-size [ chunk-ext ] of this size: the text before the first `;`, without the spaces and
-- tabs around it, is 1 to 16 hexadecimal digits
pub record SizeText (text : List ℕ) (size : ℕ) : Type 0 where
  pub part : List ℕ
  pub extension : List ℕ
  pub digits : List ℕ
  pub joins : text ≡ part ++ extension
  pub no_semicolon : HasNo semicolon part
  pub extends : IsEmptyOrBegins semicolon extension
  pub trims : Trims is_bws part digits
  pub some_digit : 0 < length digits
  pub few_digits : length digits ≤ 16
  pub hexadecimal : IsTrue (list_all is_hex digits)
  pub value : size ≡ digits_value 16 digits

-- whether the text is a chunk-size [ chunk-ext ] of this size, under these rules. Under `Standard` the text begins with
-- its digits, and has no control byte except tab.
abbrev pub SizeTextBy : ChunkRules → List ℕ → ℕ → Type 0
SizeTextBy Lenient text size = SizeText text size
SizeTextBy Standard text size =
    SizeText text size × IsTrue (has_bare_front is_bws text) × IsTrue (list_all is_value_byte text)

-- whether the text is a line that isn't too long
abbrev pub IsShortLine : List ℕ → Type 0
IsShortLine text = (length text ≤ longest_line) × (has_crlf text ≡ false)

-- whether the text is a line that isn't too long, under these rules; under `Standard` it also has no LF
abbrev pub IsShortLineBy : ChunkRules → List ℕ → Type 0
IsShortLineBy Lenient text = IsShortLine text
IsShortLineBy Standard text = IsShortLine text × HasNo line_feed text

-- chunk = chunk-size [ chunk-ext ] CRLF chunk-data CRLF
pub record Chunk : Type 0 where
  pub size_line : List ℕ
  pub bytes : List ℕ

abbrev pub chunk_text : Chunk → List ℕ
chunk_text c = c.size_line ++ crlf ++ c.bytes ++ crlf

pub record IsChunkBy (rules : ChunkRules) (c : Chunk) : Type 0 where
  pub short : IsShortLineBy rules c.size_line
  pub sized : SizeTextBy rules c.size_line (length c.bytes)
  pub not_last : 0 < length c.bytes

-- whether the text is a last-chunk = 1*("0") [ chunk-ext ] CRLF, without the CRLF; at most 16 zeros
abbrev pub IsLastLineBy : ChunkRules → List ℕ → Type 0
IsLastLineBy rules text = IsShortLineBy rules text × SizeTextBy rules text 0

-- whether the text is a field-line = field-name ":" OWS field-value OWS, with no control byte except tab in the value
pub record FieldText (text : List ℕ) : Type 0 where
  pub name : List ℕ
  pub value : List ℕ
  pub joins : text ≡ name ++ colon ∷ value
  pub name_is : IsTrue (is_token name)
  pub value_is : IsTrue (list_all is_value_byte value)

-- whether the text may be a trailer line: any nonempty text, but under `Standard` only a field line
abbrev pub TrailerTextBy : ChunkRules → List ℕ → Type 0
TrailerTextBy Lenient text = 0 < length text
TrailerTextBy Standard text = FieldText text

-- whether the text is a line of a trailer section under these rules; the section is skipped
abbrev pub IsTrailerLineBy : ChunkRules → List ℕ → Type 0
IsTrailerLineBy rules text = IsShortLineBy rules text × TrailerTextBy rules text

abbrev pub lines_text : List (List ℕ) → List ℕ
lines_text lines = flat_map (λ text. text ++ crlf) lines

abbrev pub data_of : List Chunk → List ℕ
data_of chunks = flat_map (λ c. c.bytes) chunks

-- whether the bytes are chunks, a last chunk, a trailer section and the rest, and the body is the data of the chunks
pub record WholeChunksBy (rules : ChunkRules) (bytes body rest : List ℕ) : Type 0 where
  pub chunks : List Chunk
  pub last : List ℕ
  pub trailers : List (List ℕ)
  pub joins : bytes ≡ flat_map chunk_text chunks ++ (lines_text (last ∷ trailers) ++ (crlf ++ rest))
  pub body_is : body ≡ data_of chunks
  pub are_chunks : AllByRecursion (IsChunkBy rules) chunks
  pub is_last_chunk : IsLastLineBy rules last
  pub are_trailers : AllByRecursion (IsTrailerLineBy rules) trailers
  pub few_trailers : length trailers ≤ most_trailers

-- whether the first `longest_line + 2` bytes contain no CR LF
abbrev pub HasNoShortLine : List ℕ → Type 0
HasNoShortLine bytes = has_crlf (take (longest_line + 2) bytes) ≡ false

-- whether there is no line where one must be, with a fault of this kind: the longest line with its CR LF would fit in
-- the bytes, and the fault is `InvalidData`; or it wouldn't, and the fault is that of the bytes' stop
abbrev pub ChunkLineFault : List ℕ → Stop → ErrorKind → Type 0
ChunkLineFault bytes stop kind =
    HasNoShortLine bytes
    × (((longest_line + 2 ≤ length bytes) × (kind ≡ InvalidData))
    ⊎ ((length bytes < longest_line + 2) × (kind ≡ fault_of stop)))

-- whether there is an LF before the first CR LF, among the first `longest_line + 2` bytes
pub record LoneFeed (bytes : List ℕ) : Type 0 where
  pub text : List ℕ
  pub rest : List ℕ
  pub joins : bytes ≡ text ++ line_feed ∷ rest
  pub lone : has_crlf (text ++ line_feed ∷ []) ≡ false
  pub near : length text < longest_line + 2

-- whether there is no line where one must be, under these rules, with a fault of this kind; under `Standard` a lone LF
-- is a fault, whatever follows it
abbrev pub ChunkLineFaultBy : ChunkRules → List ℕ → Stop → ErrorKind → Type 0
ChunkLineFaultBy Lenient bytes stop kind = ChunkLineFault bytes stop kind
ChunkLineFaultBy Standard bytes stop kind =
    (LoneFeed bytes × (kind ≡ InvalidData))
    ⊎ (HasNo line_feed (take (longest_line + 2) bytes) × ChunkLineFault bytes stop kind)

-- whether the bytes begin with a nonempty line that isn't a field line
pub record NoField (bytes : List ℕ) : Type 0 where
  pub text : List ℕ
  pub rest : List ℕ
  pub joins : bytes ≡ text ++ crlf ++ rest
  pub short : IsShortLineBy Standard text
  pub not_empty : 0 < length text
  pub no_field : FieldText text → ⊥

-- whether there is neither a trailer line nor the empty line where one must be, with a fault of this kind
abbrev pub TrailerFaultBy : ChunkRules → List ℕ → Stop → ErrorKind → Type 0
TrailerFaultBy Lenient bytes stop kind = ChunkLineFault bytes stop kind
TrailerFaultBy Standard bytes stop kind =
    ChunkLineFaultBy Standard bytes stop kind ⊎ (NoField bytes × (kind ≡ InvalidData))

-- whether a fault of this kind comes instead of the CR LF after a chunk's data
abbrev pub CloseFault : List ℕ → Stop → ErrorKind → Type 0
CloseFault [] stop kind = kind ≡ fault_of stop
CloseFault (a ∷ []) stop kind = ((a ≡ 13) × (kind ≡ fault_of stop)) ⊎ ((a ≡ 13 → ⊥) × (kind ≡ InvalidData))
CloseFault (a ∷ b ∷ bs) stop kind = ((a ∷ b ∷ [] ≡ crlf) → ⊥) × (kind ≡ InvalidData)

-- The ways in which a body can break off after its whole chunks.
pub data Remainder : Type 0 where
  NoSizeLine : Remainder
  BadSize : (text rest : List ℕ) → Remainder
  CutData : (text : List ℕ) (size : ℕ) → Remainder
  NoClose : (text close : List ℕ) → Remainder
  CutTrailer : (last : List ℕ) (trailers : List (List ℕ)) (next : List ℕ) → Remainder
  LongTrailer : (last : List ℕ) (trailers : List (List ℕ)) (next : List ℕ) → Remainder

-- whether a body breaks off in this way after its whole chunks: `part` is the part of the next chunk's data that has
-- come, and `kind` is the kind of the fault
abbrev pub RemainderBreaksBy : ChunkRules → Remainder → List ℕ → Stop → List ℕ → ErrorKind → Type 0
-- no chunk-size line
RemainderBreaksBy rules NoSizeLine bytes stop part kind = (part ≡ []) × ChunkLineFaultBy rules bytes stop kind
-- a chunk-size line without a valid size
RemainderBreaksBy rules (BadSize text rest) bytes stop part kind =
    (bytes ≡ text ++ crlf ++ rest)
    × IsShortLineBy rules text
    × ((size : ℕ) → SizeTextBy rules text size → ⊥)
    × (part ≡ [])
    × (kind ≡ InvalidData)
-- the bytes end within the data
RemainderBreaksBy rules (CutData text size) bytes stop part kind =
    (bytes ≡ text ++ crlf ++ part)
    × IsShortLineBy rules text
    × SizeTextBy rules text size
    × (length part < size)
    × (kind ≡ fault_of stop)
-- all the data are there, but no CR LF after them
RemainderBreaksBy rules (NoClose text close) bytes stop part kind =
    (bytes ≡ text ++ crlf ++ part ++ close)
    × IsShortLineBy rules text
    × SizeTextBy rules text (length part)
    × (0 < length part)
    × CloseFault close stop kind
-- a last chunk, and the trailer section breaks off
RemainderBreaksBy rules (CutTrailer last trailers next) bytes stop part kind =
    (bytes ≡ lines_text (last ∷ trailers) ++ next)
    × IsLastLineBy rules last
    × AllByRecursion (IsTrailerLineBy rules) trailers
    × (length trailers ≤ most_trailers)
    × TrailerFaultBy rules next stop kind × (part ≡ [])
-- a last chunk, and one trailer line too many
RemainderBreaksBy rules (LongTrailer last trailers next) bytes stop part kind =
    (bytes ≡ lines_text (last ∷ trailers) ++ next)
    × IsLastLineBy rules last
    × AllByRecursion (IsTrailerLineBy rules) trailers
    × (length trailers ≡ most_trailers + 1)
    × (part ≡ []) × (kind ≡ InvalidData)

-- whether the bytes are whole chunks and a remainder; the body is the data of these chunks and of the unfinished one
pub record CutChunksBy (rules : ChunkRules) (bytes : List ℕ) (stop : Stop) (body : List ℕ)
    (kind : ErrorKind) : Type 0 where
  pub chunks : List Chunk
  pub rest : List ℕ
  pub part : List ℕ
  pub way : Remainder
  pub joins : bytes ≡ flat_map chunk_text chunks ++ rest
  pub body_is : body ≡ data_of chunks ++ part
  pub are_chunks : AllByRecursion (IsChunkBy rules) chunks
  pub breaks : RemainderBreaksBy rules way rest stop part kind

-- whether c is a chunk under `Lenient`
abbrev pub IsChunk : Chunk → Type 0
IsChunk c = IsChunkBy Lenient c

abbrev pub WholeChunks : List ℕ → List ℕ → List ℕ → Type 0
WholeChunks bytes body rest = WholeChunksBy Lenient bytes body rest

abbrev pub RemainderBreaks : Remainder → List ℕ → Stop → List ℕ → ErrorKind → Type 0
RemainderBreaks way bytes stop part kind = RemainderBreaksBy Lenient way bytes stop part kind

abbrev pub CutChunks : List ℕ → Stop → List ℕ → ErrorKind → Type 0
CutChunks bytes stop body kind = CutChunksBy Lenient bytes stop body kind
