-- The head of a request (RFC 9112, sections 2.1, 3 and 5). Each text is given as a concatenation of named parts.
use Rattle.std.specs.Prelude.{◌≡◌, ℕ, Bool, ◌&&◌, ◌||◌, ◌==◌, ◌⊎◌, List, [], ◌∷◌, ◌++◌, length, ◌^◌, Option, Some}
use Rattle.std.specs.Prelude.{None, if◌then◌else◌, codes, nat_lt}
use Rattle.std.specs.Str.{bytes_eq, all_ascii_digits}
use Rattle.std.specs.Str.Parse.{without_leading_plus, digits_value}
use Rattle.tiny_http_head.specs.declared.common.Method.{Method}
use Rattle.tiny_http_head.specs.declared.common.Method.TheVariants.{Get, Head, Post, Put, Delete, Connect, Options}
use Rattle.tiny_http_head.specs.declared.common.Method.TheVariants.{Trace, Patch, NonStandard}
use Rattle.tiny_http_head.specs.declared.common.HTTPVersion.{HTTPVersion}
use Rattle.tiny_http_head.specs.declared.common.Header.{Header}
use Rattle.tiny_http_text.specs.Bytes.{is_blank, AreAscii, HasNo, HasNoBlank, Trims, IsEmptyOrBegins, space, colon}
use Rattle.tiny_http_text.specs.Lines.{Line, IsUnfinished}

-- LF, the last byte of a line (RFC 9112, section 2.2)
abbrev pub line_feed : ℕ
line_feed = 10

-- the method that a text names: one of the nine names in this exact case, or any other text as `NonStandard`
abbrev pub method_of : List ℕ → Method
method_of text =
    if bytes_eq text (codes "GET") then Get else
    if bytes_eq text (codes "HEAD") then Head else
    if bytes_eq text (codes "POST") then Post else
    if bytes_eq text (codes "PUT") then Put else
    if bytes_eq text (codes "DELETE") then Delete else
    if bytes_eq text (codes "CONNECT") then Connect else
    if bytes_eq text (codes "OPTIONS") then Options else
    if bytes_eq text (codes "TRACE") then Trace else
    if bytes_eq text (codes "PATCH") then Patch else
    NonStandard text

abbrev pub version : ℕ → ℕ → HTTPVersion
version major minor = record { 0 = major; 1 = minor }

-- the HTTP-version that a text names, if it is one of the five that are accepted
abbrev pub version_of : List ℕ → Option HTTPVersion
version_of text =
    if bytes_eq text (codes "HTTP/0.9") then Some (version 0 9) else
    if bytes_eq text (codes "HTTP/1.0") then Some (version 1 0) else
    if bytes_eq text (codes "HTTP/1.1") then Some (version 1 1) else
    if bytes_eq text (codes "HTTP/2.0") then Some (version 2 0) else
    if bytes_eq text (codes "HTTP/3.0") then Some (version 3 0) else
    None

-- whether the version is above 1.1
abbrev pub is_too_new : HTTPVersion → Bool
is_too_new v = nat_lt 1 v.0 || (v.0 == 1 && nat_lt 1 v.1)

-- whether the text is a request line as the Rust crate accepts it: without white space at its ends, it is method SP
-- path SP version, optionally followed by another SP and further parts
pub record RequestLine (text : List ℕ) (method : Method) (path : List ℕ) (version : HTTPVersion) : Type 0 where
  pub core : List ℕ
  pub method_text : List ℕ
  pub version_text : List ℕ
  pub more : List ℕ
  pub trims : Trims is_blank text core
  pub joins : core ≡ method_text ++ space ∷ path ++ space ∷ version_text ++ more
  pub one_word : HasNo space method_text
  pub one_path : HasNo space path
  pub one_version : HasNo space version_text
  pub more_parts : IsEmptyOrBegins space more
  pub names_method : method ≡ method_of method_text
  pub names_version : version_of version_text ≡ Some version

-- whether the text is a field line: a name without white space or colon, a colon, and the value with optional white
-- space around it
pub record HeaderLine (text field value : List ℕ) : Type 0 where
  pub padded : List ℕ
  pub joins : text ≡ field ++ colon ∷ padded
  pub no_blank : HasNoBlank field
  pub no_colon : HasNo colon field
  pub trims : Trims is_blank padded value

-- whether the text is ASCII and is the field line of this header
abbrev pub IsHeader : List ℕ → Header → Type 0
IsHeader text h = AreAscii text × HeaderLine text h.field h.value

-- whether the bytes begin with these field lines, and `rest` follows
abbrev pub BeginsWithHeaderLines : List ℕ → List Header → List ℕ → Type 0
BeginsWithHeaderLines bytes [] rest = rest ≡ bytes
BeginsWithHeaderLines bytes (h ∷ hs) rest =
    (text : List ℕ)
    × (next : List ℕ)
    × Line bytes text next
    × AreAscii text
    × HeaderLine text h.field h.value
    × BeginsWithHeaderLines next hs rest

-- the content of a request head
pub record Message : Type 0 where
  pub method : Method
  pub path : List ℕ
  pub version : HTTPVersion
  pub headers : List Header

-- whether the bytes begin with this request line, and `rest` follows
abbrev pub BeginsWithRequestLine : List ℕ → Method → List ℕ → HTTPVersion → List ℕ → Type 0
BeginsWithRequestLine bytes method path version rest =
    (text : List ℕ) × Line bytes text rest × AreAscii text × RequestLine text method path version

-- whether the bytes begin with a head: a request line, field lines and an empty line; `after` follows the head
abbrev pub BeginsWithRequestHead : List ℕ → Message → List ℕ → Type 0
BeginsWithRequestHead bytes m after =
    (fields : List ℕ)
    × (empty : List ℕ)
    × BeginsWithRequestLine bytes m.method m.path m.version fields
    × BeginsWithHeaderLines fields m.headers empty
    × Line empty [] after

-- the reason why the next line is refused. `Cut`: it isn't complete. `NotAscii`: it has a byte above 127. `Malformed`:
-- it doesn't match the grammar for its place.
pub data GrammarFault : Type 0 where
  Cut : GrammarFault
  NotAscii : GrammarFault
  Malformed : GrammarFault

-- whether the next line has this fault, if `IsGood` says which lines match the grammar for its place
abbrev pub FaultyLine : (List ℕ → Type 0) → List ℕ → GrammarFault → Type 0
FaultyLine IsGood bytes Cut = IsUnfinished bytes
FaultyLine IsGood bytes NotAscii = (text : List ℕ) × (rest : List ℕ) × Line bytes text rest × (AreAscii text → ⊥)
FaultyLine IsGood bytes Malformed =
    (text : List ℕ) × (rest : List ℕ) × Line bytes text rest × AreAscii text × (IsGood text → ⊥)

abbrev pub IsRequestLine : List ℕ → Type 0
IsRequestLine text =
    (method : Method) × (path : List ℕ) × (version : HTTPVersion) × RequestLine text method path version

abbrev pub IsFieldOrEnd : List ℕ → Type 0
IsFieldOrEnd text = (text ≡ []) ⊎ ((field : List ℕ) × (value : List ℕ) × HeaderLine text field value)

-- whether the first faulty line of a head has this fault: the request line if no version is given, and otherwise a
-- later line, after a request line with this version
abbrev pub FaultyHead : List ℕ → Option HTTPVersion → GrammarFault → Type 0
FaultyHead bytes None fault = FaultyLine IsRequestLine bytes fault
FaultyHead bytes (Some v) fault =
    (method : Method) × (path : List ℕ) × (fields : List ℕ) × BeginsWithRequestLine bytes method path v fields
    × (headers : List Header)
    × (rest : List ℕ)
    × BeginsWithHeaderLines fields headers rest
    × FaultyLine IsFieldOrEnd rest fault

-- the content length that a text gives (RFC 9110, section 8.6): one or more digits, below 2^64
abbrev pub length_of : List ℕ → Option ℕ
length_of ds =
    if nat_lt 0 (length ds) && (all_ascii_digits ds && nat_lt (digits_value 10 ds) (2 ^ 64)) then Some
    (digits_value 10 ds) else None

-- the content length that a text gives, with an optional plus sign before the digits
unfoldable pub length_in : List ℕ → Option ℕ
length_in value = length_of (without_leading_plus value)
