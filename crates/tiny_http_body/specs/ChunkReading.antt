-- Functions that compute what a chunked body decodes to.
use Rattle.std.specs.Prelude.{ℕ, zero, suc, ◌+◌, Bool, true, false, not, ◌&&◌, ◌||◌, ◌==◌, nat_lt, nat_le, List, []}
use Rattle.std.specs.Prelude.{◌∷◌, ◌++◌, length, take, drop, Option, Some, None, Result, Ok, Err, if◌then◌else◌}
use Rattle.std.specs.List.{list_all}
use Rattle.std.specs.Str.Parse.{digits_value}
use Rattle.std.specs.declared.io.ErrorKind.{ErrorKind}
use Rattle.std.specs.declared.io.ErrorKind.TheVariants.{InvalidData}
use Rattle.tiny_http_io.specs.declared.device.Stop.{Stop}
use Rattle.httparse.specs.Grammar.{is_token_byte, is_value_byte}
use Rattle.tiny_http_text.specs.Bytes.{colon, semicolon, has_bare_front, trimmed}
use Rattle.tiny_http_io.specs.Device.{fault_of}
use Rattle.tiny_http_head.specs.Heads.{line_feed}
use Rattle.tiny_http_body.specs.Chunks.{is_bws, is_hex, longest_line, most_trailers}
use Rattle.tiny_http_body.specs.declared.chunked.ChunkRules.{ChunkRules}
use Rattle.tiny_http_body.specs.declared.chunked.ChunkRules.TheVariants.{Lenient, Standard}
use Rattle.tiny_http_head.specs.HeadReading.{line, front_while}

-- the text of the size in a chunk-size line, without the spaces and tabs around it
abbrev pub digits_of : List ℕ → List ℕ
digits_of text = trimmed is_bws (front_while (λ b. not (b == semicolon)) text)

abbrev pub size_said : List ℕ → Option ℕ
size_said digits =
    if (nat_lt 0 (length digits) && (nat_le (length digits) 16 && list_all is_hex digits)) then Some
    (digits_value 16 digits) else None

abbrev pub size_of : List ℕ → Option ℕ
size_of text = size_said (digits_of text)

abbrev pub size_by : ChunkRules → List ℕ → Option ℕ
size_by Lenient text = size_of text
size_by Standard text = if (has_bare_front is_bws text && list_all is_value_byte text) then size_of text else None

-- whether the text is a field line, or, with `some`, the rest of a field line after bytes of its name
abbrev pub is_field_behind : Bool → List ℕ → Bool
is_field_behind some [] = false
is_field_behind some (b ∷ bs) =
    if is_token_byte b then is_field_behind true bs else (some && (b == colon && list_all is_value_byte bs))

-- whether a nonempty line may be a trailer line under these rules
abbrev pub is_trailer_by : ChunkRules → List ℕ → Bool
is_trailer_by Lenient text = true
is_trailer_by Standard text = is_field_behind false text

-- whether there is an LF before the first CR LF, or anywhere if there is no CR LF
abbrev pub has_lone_feed : List ℕ → Bool
has_lone_feed [] = false
has_lone_feed (a ∷ []) = a == line_feed
has_lone_feed (a ∷ b ∷ bs) = if (a == 13 && b == 10) then false else (a == line_feed || has_lone_feed (b ∷ bs))

-- the result of decoding a chunked body: its data, and either the bytes after the body or the fault
pub record Decoded : Type 0 where
  pub body : List ℕ
  pub ends : Result (List ℕ) ErrorKind

abbrev pub broken : List ℕ → ErrorKind → Decoded
broken body kind = record { body = body; ends = Err kind }

abbrev pub LineRead : Type 0
LineRead = Result (List ℕ × List ℕ) ErrorKind

abbrev pub short_in : Stop → List ℕ → Option (List ℕ × List ℕ) → LineRead
short_in stop bytes None = Err (if (nat_le (longest_line + 2) (length bytes)) then InvalidData else fault_of stop)
short_in stop bytes (Some l) = Ok (l.0, drop (length l.0 + 2) bytes)

-- the line that begins here and the bytes after its CR LF, or the fault if there is no line or it is too long
abbrev pub short_line : Stop → List ℕ → LineRead
short_line stop bytes = short_in stop bytes (line (take (longest_line + 2) bytes))

-- the line that begins here and the bytes after its CR LF, or the fault, under these rules; under `Standard` a lone LF
-- is a fault
abbrev pub line_by : ChunkRules → Stop → List ℕ → LineRead
line_by Lenient stop bytes = short_line stop bytes
line_by Standard stop bytes =
    if (has_lone_feed (take (longest_line + 2) bytes)) then Err InvalidData else short_line stop bytes

abbrev pub trailer_at : ChunkRules → (List ℕ → Decoded) → List ℕ → List ℕ → Decoded
trailer_at rules go [] rest = record { body = []; ends = Ok rest }
trailer_at rules go (b ∷ bs) rest = if (is_trailer_by rules (b ∷ bs)) then go rest else broken [] InvalidData

abbrev pub trailer_in : ChunkRules → (List ℕ → Decoded) → LineRead → Decoded
trailer_in rules go (Err e) = broken [] e
trailer_in rules go (Ok l) = trailer_at rules go l.0 l.1

abbrev pub trailer_section : ChunkRules → ℕ → Stop → List ℕ → Decoded
trailer_section rules zero stop bytes = trailer_in rules (λ rest. broken [] InvalidData) (line_by rules stop bytes)
trailer_section rules (suc more) stop bytes =
    trailer_in rules (trailer_section rules more stop) (line_by rules stop bytes)

abbrev pub after_data : Stop → List ℕ → Result (List ℕ) ErrorKind
after_data stop [] = Err (fault_of stop)
after_data stop (a ∷ []) = Err (if a == 13 then fault_of stop else InvalidData)
after_data stop (a ∷ b ∷ bs) = if (a == 13 && b == 10) then Ok bs else Err InvalidData

abbrev pub prepend_decoded : List ℕ → Decoded → Decoded
prepend_decoded front d = record { body = front ++ d.body; ends = d.ends }

abbrev pub chunk_closed : (List ℕ → Decoded) → List ℕ → Result (List ℕ) ErrorKind → Decoded
chunk_closed go front (Err e) = broken front e
chunk_closed go front (Ok rest) = prepend_decoded front (go rest)

abbrev pub data_at : (List ℕ → Decoded) → Stop → ℕ → List ℕ → Bool → Decoded
data_at go stop size bytes true = broken bytes (fault_of stop)
data_at go stop size bytes false = chunk_closed go (take size bytes) (after_data stop (drop size bytes))

abbrev pub sized : ChunkRules → (List ℕ → Decoded) → Stop → List ℕ → Option ℕ → Decoded
sized rules go stop rest None = broken [] InvalidData
sized rules go stop rest (Some zero) = trailer_section rules most_trailers stop rest
sized rules go stop rest (Some (suc m)) = data_at go stop (suc m) rest (nat_lt (length rest) (suc m))

abbrev pub chunk_in : ChunkRules → (List ℕ → Decoded) → Stop → LineRead → Decoded
chunk_in rules go stop (Err e) = broken [] e
chunk_in rules go stop (Ok l) = sized rules go stop l.1 (size_by rules l.0)

abbrev pub decoded_by : ChunkRules → ℕ → Stop → List ℕ → Decoded
decoded_by rules zero stop bytes = broken [] InvalidData
decoded_by rules (suc fuel) stop bytes = chunk_in rules (decoded_by rules fuel stop) stop (line_by rules stop bytes)

-- the result of decoding a chunked body under `Lenient`, in which at most `fuel` chunk-size lines are read
abbrev pub decoded : ℕ → Stop → List ℕ → Decoded
decoded fuel stop bytes = decoded_by Lenient fuel stop bytes
