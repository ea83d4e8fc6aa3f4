-- The name and the value of a header field (RFC 9110, sections 5.1, 5.5 and 5.6.2). Tokens and the bytes of a value are
-- those of the crate `httparse`.
use Rattle.std.specs.Prelude.{ℕ, List, IsTrue}
use Rattle.std.specs.List.{list_all}
use Rattle.std.specs.declared.io.ErrorKind.{ErrorKind}
use Rattle.std.specs.declared.io.ErrorKind.TheVariants.{InvalidInput, OutOfMemory}
use Rattle.httparse.specs.Grammar.{is_token, is_value_byte}
use Rattle.tiny_http_text.specs.Bytes.{AreAscii, IsTrimmed}
use Rattle.tiny_http_head.specs.declared.common.Header.{Header}
use Rattle.tiny_http_head.specs.declared.common.ParseError.{ParseError}
use Rattle.tiny_http_head.specs.declared.common.ParseError.TheVariants.{Refused, Memory}

-- whether the text is a field-value in ASCII: visible bytes, spaces and tabs, with neither a space nor a tab at an end
abbrev pub IsFieldValue : List ℕ → Type 0
IsFieldValue text = AreAscii text × IsTrue (list_all is_value_byte text) × IsTrimmed text

-- whether the name is a token and the value is a field value
abbrev pub AreHeaderTexts : List ℕ → List ℕ → Type 0
AreHeaderTexts name value = IsTrue (is_token name) × IsFieldValue value

-- the header with this name and value
abbrev pub header_of : List ℕ → List ℕ → Header
header_of name value = record { field = name; value = value }

-- the kind of the `io::Error` that a `ParseError` becomes
abbrev pub kind_of : ParseError → ErrorKind
kind_of Refused = InvalidInput
kind_of Memory = OutOfMemory
