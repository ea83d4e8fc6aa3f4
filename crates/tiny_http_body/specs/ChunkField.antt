-- Recognition of field lines in a trailer section, byte by byte (RFC 9112, section 5).
use Rattle.std.specs.Prelude.{ℕ, Bool, true, false, ◌==◌, if◌then◌else◌}
use Rattle.httparse.specs.Grammar.{is_token_byte, is_value_byte}
use Rattle.tiny_http_text.specs.Bytes.{colon}
use Rattle.tiny_http_body.specs.declared.chunked.field.Field.{Field}
use Rattle.tiny_http_body.specs.declared.chunked.field.Field.TheVariants.{Empty, Name, Value, Wrong}

-- the state of a field line after one more byte
abbrev pub field_step : Field → ℕ → Field
field_step Empty b = if is_token_byte b then Name else Wrong
field_step Name b = if is_token_byte b then Name else (if b == colon then Value else Wrong)
field_step Value b = if is_value_byte b then Value else Wrong
field_step Wrong b = Wrong

-- whether the bytes that lead to this state are a field line
abbrev pub is_whole_field : Field → Bool
is_whole_field Empty = false
is_whole_field Name = false
is_whole_field Value = true
is_whole_field Wrong = false
