-- Status codes, versions, names, methods and header fields, and their texts.
use Rattle.std.specs.Prelude.{◌≡◌, ◌⊎◌, ⊤, ℕ, ◌+◌, ◌<◌, ◌≤◌, Bool, false, ◌&&◌, List, [], ◌∷◌, ◌++◌, map, codes}
use Rattle.std.specs.Prelude.{decimal, ◌==◌, bytes_eq, if◌then◌else◌}
use Rattle.std.specs.List.{list_any}
use Rattle.std.specs.Char.{to_ascii_lowercase}
use Rattle.std.specs.Ordering.{nat_cmp, ordering_then}
use Rattle.std.specs.declared.cmp.Ordering.{Ordering}
use Rattle.tiny_http_head.specs.declared.common.StatusCode.{StatusCode}
use Rattle.tiny_http_head.specs.declared.common.HTTPVersion.{HTTPVersion}
use Rattle.tiny_http_head.specs.declared.common.Header.{Header}
use Rattle.tiny_http_head.specs.declared.common.Method.{Method}
use Rattle.tiny_http_head.specs.declared.common.Method.TheVariants.{Get, Head, Post, Put, Delete, Connect, Options}
use Rattle.tiny_http_head.specs.declared.common.Method.TheVariants.{Trace, Patch, NonStandard}

-- the text with its ASCII letters in lower case
abbrev pub lowercase : List ℕ → List ℕ
lowercase text = map to_ascii_lowercase text

-- whether the texts differ at most in the case of ASCII letters
abbrev pub same_name : List ℕ → List ℕ → Bool
same_name a b = bytes_eq (lowercase a) (lowercase b)

-- whether the bytes are equal, or are the same ASCII letter in different cases
abbrev pub IsSameLetter : ℕ → ℕ → Type 0
IsSameLetter a b = (a ≡ b) ⊎ ((65 ≤ a) × (a ≤ 90) × (b ≡ a + 32)) ⊎ ((65 ≤ b) × (b ≤ 90) × (a ≡ b + 32))

-- whether the texts are equally long, and bytes at the same position differ at most in case
abbrev pub IsSameButForCase : List ℕ → List ℕ → Type 0
IsSameButForCase [] [] = ⊤
IsSameButForCase [] (b ∷ more) = ⊥
IsSameButForCase (a ∷ rest) [] = ⊥
IsSameButForCase (a ∷ rest) (b ∷ more) = IsSameLetter a b × IsSameButForCase rest more

-- whether a code is this number
abbrev pub is_code : StatusCode → ℕ → Bool
is_code code number = code.0 == number

-- the ordering of a code relative to this number
abbrev pub code_order : StatusCode → ℕ → Ordering
code_order code number = nat_cmp code.0 number

-- whether a version has these numbers
abbrev pub is_version : HTTPVersion → ℕ × ℕ → Bool
is_version v numbers = (v.0 == numbers.0) && (v.1 == numbers.1)

-- the ordering of a version relative to the one with these numbers
abbrev pub version_order : HTTPVersion → ℕ × ℕ → Ordering
version_order v numbers = ordering_then (nat_cmp v.0 numbers.0) (nat_cmp v.1 numbers.1)

-- whether version a is before version b: its major number is less, or the major numbers are equal and its minor number
-- is less
abbrev pub IsBefore : HTTPVersion → HTTPVersion → Type 0
IsBefore a b = (a.0 < b.0) ⊎ ((a.0 ≡ b.0) × (a.1 < b.1))

-- the text of a version, `major.minor`
abbrev pub version_text : HTTPVersion → List ℕ
version_text v = decimal v.0 ++ codes "." ++ decimal v.1

-- the text of a header, `field: value`
abbrev pub header_text : Header → List ℕ
header_text h = h.field ++ codes ": " ++ h.value

-- the name of a method
abbrev pub method_text : Method → List ℕ
method_text Get = codes "GET"
method_text Head = codes "HEAD"
method_text Post = codes "POST"
method_text Put = codes "PUT"
method_text Delete = codes "DELETE"
method_text Connect = codes "CONNECT"
method_text Options = codes "OPTIONS"
method_text Trace = codes "TRACE"
method_text Patch = codes "PATCH"
method_text (NonStandard name) = name

-- the names of the nine methods that have a variant
abbrev pub nine_names : List (List ℕ)
nine_names =
    codes "GET" ∷ codes "HEAD" ∷ codes "POST" ∷ codes "PUT" ∷ codes "DELETE" ∷ codes "CONNECT" ∷ codes "OPTIONS" ∷
    codes "TRACE" ∷ codes "PATCH" ∷ []

-- whether the method isn't a `NonStandard` with one of the nine names that have a variant
abbrev pub HasItsOwnName : Method → Type 0
HasItsOwnName Get = ⊤
HasItsOwnName Head = ⊤
HasItsOwnName Post = ⊤
HasItsOwnName Put = ⊤
HasItsOwnName Delete = ⊤
HasItsOwnName Connect = ⊤
HasItsOwnName Options = ⊤
HasItsOwnName Trace = ⊤
HasItsOwnName Patch = ⊤
HasItsOwnName (NonStandard name) = list_any (bytes_eq name) nine_names ≡ false

-- the reason phrases by code, as in the Rust crate (most from RFC 9110, section 15)
abbrev pub reason_phrases : List (ℕ × List ℕ)
reason_phrases =
    (100, codes "Continue") ∷ (101, codes "Switching Protocols") ∷ (102, codes "Processing") ∷
    (103, codes "Early Hints") ∷
    (200, codes "OK") ∷ (201, codes "Created") ∷ (202, codes "Accepted") ∷
    (203, codes "Non-Authoritative Information") ∷ (204, codes "No Content") ∷ (205, codes "Reset Content") ∷
    (206, codes "Partial Content") ∷ (207, codes "Multi-Status") ∷ (208, codes "Already Reported") ∷
    (226, codes "IM Used") ∷
    (300, codes "Multiple Choices") ∷ (301, codes "Moved Permanently") ∷ (302, codes "Found") ∷
    (303, codes "See Other") ∷ (304, codes "Not Modified") ∷ (305, codes "Use Proxy") ∷
    (307, codes "Temporary Redirect") ∷ (308, codes "Permanent Redirect") ∷
    (400, codes "Bad Request") ∷ (401, codes "Unauthorized") ∷ (402, codes "Payment Required") ∷
    (403, codes "Forbidden") ∷ (404, codes "Not Found") ∷ (405, codes "Method Not Allowed") ∷
    (406, codes "Not Acceptable") ∷ (407, codes "Proxy Authentication Required") ∷ (408, codes "Request Timeout")
    ∷ (409, codes "Conflict") ∷ (410, codes "Gone") ∷ (411, codes "Length Required") ∷
    (412, codes "Precondition Failed") ∷ (413, codes "Payload Too Large") ∷ (414, codes "URI Too Long") ∷
    (415, codes "Unsupported Media Type") ∷ (416, codes "Range Not Satisfiable") ∷
    (417, codes "Expectation Failed") ∷ (421, codes "Misdirected Request") ∷ (422, codes "Unprocessable Entity")
    ∷ (423, codes "Locked") ∷ (424, codes "Failed Dependency") ∷ (426, codes "Upgrade Required") ∷
    (428, codes "Precondition Required") ∷ (429, codes "Too Many Requests") ∷
    (431, codes "Request Header Fields Too Large") ∷ (451, codes "Unavailable For Legal Reasons") ∷
    (500, codes "Internal Server Error") ∷ (501, codes "Not Implemented") ∷ (502, codes "Bad Gateway") ∷
    (503, codes "Service Unavailable") ∷ (504, codes "Gateway Timeout") ∷
    (505, codes "HTTP Version Not Supported") ∷ (506, codes "Variant Also Negotiates") ∷
    (507, codes "Insufficient Storage") ∷ (508, codes "Loop Detected") ∷ (510, codes "Not Extended") ∷
    (511, codes "Network Authentication Required") ∷ []

-- the phrase of a code in a table, or `Unknown` if the table doesn't list the code
abbrev pub phrase_in : List (ℕ × List ℕ) → ℕ → List ℕ
phrase_in [] code = codes "Unknown"
phrase_in (row ∷ rows) code = if code == row.0 then row.1 else phrase_in rows code

unfoldable pub reason_phrase : ℕ → List ℕ
reason_phrase code = phrase_in reason_phrases code
