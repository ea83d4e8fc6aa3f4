-- Headers that a client reads as intended.
use Rattle.std.specs.Prelude.{◌≡◌, false, IsTrue}
use Rattle.tiny_http_text.specs.Bytes.{is_blank, AreAscii, HasNo, HasNoBlank, has_bare_front, has_bare_end, colon}
use Rattle.tiny_http_text.specs.Lines.{has_crlf}
use Rattle.tiny_http_head.specs.declared.common.Header.{Header}

-- Whether a client for which only CR LF ends a line (`ClientAnswer`) reads a header back as it is printed: its name has
-- no white space and no colon, its value is trimmed and has no CR LF, and both are ASCII.
pub record IsReadable (header : Header) : Type 0 where
  pub ascii_field : AreAscii header.field
  pub ascii_value : AreAscii header.value
  pub no_blank : HasNoBlank header.field
  pub no_colon : HasNo colon header.field
  pub bare_front : IsTrue (has_bare_front is_blank header.value)
  pub bare_end : IsTrue (has_bare_end is_blank header.value)
  pub one_line : has_crlf header.value ≡ false
