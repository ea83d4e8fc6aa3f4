-- The header list of a response: what it never holds, and what it holds at most once (RFC 9110, sections 7.6.1, 7.8 and
-- 8.3; RFC 9112, section 6).
use Rattle.std.specs.Prelude.{◌≡◌, ◌≤◌, ℕ, false, List, count_by, codes}
use Rattle.tiny_http_head.specs.declared.common.Header.{Header}
use Rattle.tiny_http_head.specs.Common.{same_name}
use Rattle.tiny_http_response.specs.Answer.{has_header}

-- how many headers of the list have this name
abbrev pub count_named : List Header → List ℕ → ℕ
count_named headers name = count_by (λ h. same_name h.field name) headers

-- whether no header of the list has this name
abbrev pub HasNone : List Header → List ℕ → Type 0
HasNone headers name = has_header headers name ≡ false

-- THE LAW OF A HEADER LIST: whether a list may be that of a response. It has none of the headers by which the server
-- states how the response is sent, nor Content-Length, and Content-Type at most once. Letter case is ignored.
pub record IsResponseHeaders (headers : List Header) : Type 0 where
  pub connection : HasNone headers (codes "Connection")
  pub trailer : HasNone headers (codes "Trailer")
  pub transfer_encoding : HasNone headers (codes "Transfer-Encoding")
  pub upgrade : HasNone headers (codes "Upgrade")
  pub content_length : HasNone headers (codes "Content-Length")
  pub content_type : count_named headers (codes "Content-Type") ≤ 1
