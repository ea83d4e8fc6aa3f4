-- The head of a response, in the grammar of `httparse`.
use Rattle.std.specs.Prelude.{◌≡◌, ℕ, ◌<◌, ◌≤◌, List, ◌++◌, length, map, IsAscii}
use Rattle.std.specs.List.{All}
use Rattle.httparse.specs.Grammar.{Field, field_value, ResponseHead, status_code, ReadsResponse}
use Rattle.tiny_http_head.specs.declared.common.Header.{Header}
use Rattle.tiny_http_client.specs.declared.answer_head.AnswerHead.{AnswerHead}

-- the name and the value of a header
abbrev pub header_pair : Header → List ℕ × List ℕ
header_pair h = (h.field, h.value)

abbrev pub field_pair : Field → List ℕ × List ℕ
field_pair f = (f.name, field_value f)

-- Whether an `AnswerHead` is this head: it has the head's version, status and headers, each value with the white space
-- around it removed.
pub record IsHeadOf (h : ResponseHead) (a : AnswerHead) : Type 0 where
  pub version : a.version ≡ record { 0 = 1; 1 = h.minor }
  pub status : a.status.0 ≡ status_code h
  pub headers : map header_pair a.headers.items ≡ map field_pair h.fields

-- whether both texts are ASCII
abbrev pub IsAsciiPair : List ℕ × List ℕ → Type 0
IsAsciiPair p = IsAscii p.0 × IsAscii p.1

-- NO FURTHER BYTES HELP: whether these bytes, with any others after them, never begin with a head of at most `most`
-- headers that are all ASCII
abbrev pub NeverHasHead : ℕ → List ℕ → Type 0
NeverHasHead most bytes =
    (more : List ℕ) (h : ResponseHead) (rest : List ℕ) → ReadsResponse (bytes ++ more) h rest → length h.fields ≤ most
    → All IsAsciiPair (map field_pair h.fields) → ⊥

-- whether the bytes begin with a head that has headers
abbrev pub HasHeaders : List ℕ → Type 0
HasHeaders bytes = (h : ResponseHead) × (rest : List ℕ) × ReadsResponse bytes h rest × (0 < length h.fields)
