-- The effect of adding a header to a response (RFC 9110, sections 7.6.1, 7.8 and 8.3; RFC 9112, section 6).
use Rattle.std.specs.Prelude.{ℕ, Bool, true, false, ◌&&◌, ◌||◌, List, [], ◌∷◌, ◌++◌, Option, Some, None, codes}
use Rattle.std.specs.Prelude.{if◌then◌else◌}
use Rattle.tiny_http_head.specs.declared.common.Header.{Header}
use Rattle.tiny_http_head.specs.Common.{same_name}
use Rattle.tiny_http_head.specs.Heads.{length_in}
use Rattle.tiny_http_response.specs.declared.response.TheConstants.{THRESHOLD}
use Rattle.tiny_http_response.specs.Answer.{Answer, has_header}

-- whether headers with this name are ignored when they are added: the server itself states how the response is sent
abbrev pub is_reserved : List ℕ → Bool
is_reserved name =
    same_name name (codes "Connection")
    || (same_name name (codes "Trailer")
    || (same_name name (codes "Transfer-Encoding") || same_name name (codes "Upgrade")))

-- the list after this value has replaced that of its first header with this name, if there is one
abbrev pub with_value : List ℕ → List ℕ → List Header → List Header
with_value name value [] = []
with_value name value (h ∷ hs) =
    if same_name h.field name then record h { value = value } ∷ hs else h ∷ with_value name value hs

-- whether a header is a Content-Type and the list has one already
abbrev pub is_second_type : Header → List Header → Bool
is_second_type h headers = same_name h.field (codes "Content-Type") && has_header headers (codes "Content-Type")

-- the list with a header added: a second Content-Type replaces the value of the first, and any other header is appended
abbrev pub headers_with : Header → List Header → List Header
headers_with h headers =
    if is_second_type h headers
    then with_value (codes "Content-Type") h.value headers
    else headers ++ h ∷ []

-- the response with the length of its data set to this one, or unchanged if there is none
abbrev pub with_length : Option ℕ → Answer → Answer
with_length None a = a
with_length (Some n) a = record a { data_length = Some n }

-- THE RESPONSE WITH A HEADER ADDED: a reserved header is ignored; a Content-Length sets the length of the data if its
-- value is a length, and is otherwise ignored; any other is added to the list, as in `headers_with`
abbrev pub add_header : Header → Answer → Answer
add_header h a =
    if is_reserved h.field then a else
    if same_name h.field (codes "Content-Length") then with_length (length_in h.value) a else
    record a { headers = headers_with h a.headers }

-- whether a header is appended, which alone needs memory: whether it is neither reserved, nor a Content-Length, nor a
-- second Content-Type
abbrev pub is_put_last : Header → List Header → Bool
is_put_last h headers =
    if is_reserved h.field then false else
    if same_name h.field (codes "Content-Length") then false else
    if is_second_type h headers then false else true

-- the response with these headers added, one after another
abbrev pub with_headers : List Header → Answer → Answer
with_headers [] a = a
with_headers (h ∷ hs) a = with_headers hs (add_header h a)

-- the response as it is created, with these headers added to an empty list and the default threshold
abbrev pub first_answer : ℕ → List Header → Option ℕ → Answer
first_answer status headers length =
    with_headers headers
    (record {
      status = status;
      headers = [];
      data_length = length;
      threshold = THRESHOLD;
      closes = false;
      offered = None;
      contentless = false;
    })

-- whether at least one of these headers is appended when they are added one after another
abbrev pub is_some_put_last : List Header → Answer → Bool
is_some_put_last [] a = false
is_some_put_last (h ∷ hs) a = is_put_last h a.headers || is_some_put_last hs (add_header h a)
