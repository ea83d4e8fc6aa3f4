-- Parsing of a chunk size, byte by byte (RFC 9112, section 7.1).
use Rattle.std.specs.Prelude.{ℕ, ◌+◌, ◌*◌, ◌^◌, ◌<◌, ◌≤◌, Bool, not, ◌&&◌, ◌==◌, nat_lt, List, [], ◌∷◌, Option, Some}
use Rattle.std.specs.Prelude.{None, if◌then◌else◌, ⊤}
use Rattle.std.specs.Char.{digit_value}
use Rattle.httparse.specs.Grammar.{is_value_byte}
use Rattle.tiny_http_text.specs.Bytes.{semicolon}
use Rattle.tiny_http_body.specs.Chunks.{is_bws, is_hex}
use Rattle.tiny_http_body.specs.declared.chunked.size.Size.{Size}
use Rattle.tiny_http_body.specs.declared.chunked.size.Size.TheVariants.{Blank, Digits, Behind, Extension, Wrong}

-- the value of a hexadecimal digit, if the byte is one
unfoldable pub hex_of : ℕ → Option ℕ
hex_of b = if is_hex b then Some (digit_value b) else None

-- the state of a chunk size after digits and a byte that isn't a digit
abbrev pub digits_ended : ℕ → ℕ → Size
digits_ended value b = if is_bws b then Behind value else (if b == semicolon then Extension value else Wrong)

-- the state of a chunk size after its first byte that isn't blank
abbrev pub digits_begun : Option ℕ → Size
digits_begun None = Wrong
digits_begun (Some digit) = Digits digit 1

-- the state of a chunk size after a digit and the next byte
abbrev pub more_digits : ℕ → ℕ → ℕ → Option ℕ → Size
more_digits value count b None = digits_ended value b
more_digits value count b (Some digit) = if nat_lt count 16 then Digits (value * 16 + digit) (count + 1) else Wrong

-- the state of a chunk size after one more byte
abbrev pub size_step : Size → ℕ → Size
size_step Blank b = if is_bws b then Blank else digits_begun (hex_of b)
size_step (Digits value count) b = more_digits value count b (hex_of b)
size_step (Behind value) b = digits_ended value b
size_step (Extension value) b = Extension value
size_step Wrong b = Wrong

-- whether `Standard` allows the byte in this state: no white space before the digits, and no control byte except tab
-- anywhere
abbrev pub may_follow : Size → ℕ → Bool
may_follow Blank b = is_value_byte b && not (is_bws b)
may_follow (Digits value count) b = is_value_byte b
may_follow (Behind value) b = is_value_byte b
may_follow (Extension value) b = is_value_byte b
may_follow Wrong b = is_value_byte b

-- the state of a chunk size after one more byte, under `Standard`
abbrev pub standard_step : Size → ℕ → Size
standard_step size b = if (may_follow size b) then size_step size b else Wrong

-- the state of a chunk size after these bytes
abbrev pub size_after : Size → List ℕ → Size
size_after size [] = size
size_after size (b ∷ bs) = size_after (size_step size b) bs

-- the chunk size that a line gives if it ends in this state
abbrev pub size_value : Size → Option ℕ
size_value Blank = None
size_value (Digits value count) = Some value
size_value (Behind value) = Some value
size_value (Extension value) = Some value
size_value Wrong = None

-- whether the value of the digits read so far fits in their count, which is at most 16
abbrev pub SizeFits : Size → Type 0
SizeFits Blank = ⊤
SizeFits (Digits value count) = (value < 16 ^ count) × (count ≤ 16)
SizeFits (Behind value) = ⊤
SizeFits (Extension value) = ⊤
SizeFits Wrong = ⊤
