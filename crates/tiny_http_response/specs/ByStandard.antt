-- The head of a response under `Standard`: its connection option, its headers, and the framing that its code determines
-- (RFC 9112, sections 9.3, 9.6 and 11.1; RFC 9110, sections 5.5, 6.2, 7.8, 8.6 and 15).
use Rattle.std.specs.Prelude.{ℕ, Bool, ◌||◌, ◌&&◌, ◌==◌, nat_lt, nat_le, List, [], ◌∷◌, ◌++◌, map, filter_map, Option}
use Rattle.std.specs.Prelude.{Some, None, option_map, codes, if◌then◌else◌}
use Rattle.httparse.specs.Grammar.{is_token, is_value_byte}
use Rattle.tiny_http_head.specs.declared.common.HTTPVersion.{HTTPVersion}
use Rattle.tiny_http_head.specs.declared.common.Header.{Header}
use Rattle.tiny_http_response.specs.Coding.{is_up_to_1_0}
use Rattle.tiny_http_response.specs.declared.coding.FramingHeader.{FramingHeader}
use Rattle.tiny_http_response.specs.declared.coding.FramingHeader.TheVariants.{Neither, ContentLength}
use Rattle.tiny_http_response.specs.declared.response_context.Persistence.{Persistence}
use Rattle.tiny_http_response.specs.declared.response_context.Persistence.TheVariants.{Persistent, Close}

-- the version of the status line: 1.1 under `Standard`, otherwise that of the request
abbrev pub status_version : Option Persistence → HTTPVersion → HTTPVersion
status_version None version = version
status_version (Some _) version = record { 0 = 1; 1 = 1 }

-- the connection option: `close` if the connection closes; if it persists, `keep-alive` to a version up to 1.0 and none
-- to a later one
abbrev pub persistence_option : HTTPVersion → Persistence → Option (List ℕ)
persistence_option version Close = Some (codes "close")
persistence_option version Persistent = if is_up_to_1_0 version then Some (codes "keep-alive") else None

abbrev pub connection_header : List ℕ → Header
connection_header options = record { field = codes "Connection"; value = options }

abbrev pub upgrade_header : List ℕ → Header
upgrade_header protocols = record { field = codes "Upgrade"; value = protocols }

-- the value of `Connection` in a response that offers protocols, with this connection option, if any
abbrev pub options_with_upgrade : Option (List ℕ) → List ℕ
options_with_upgrade None = codes "upgrade"
options_with_upgrade (Some option) = option ++ codes ", upgrade"

-- the header `Connection` with this option, if any, and `Upgrade` with these protocols, if any
abbrev pub connection_headers : Option (List ℕ) → Option (List ℕ) → List Header
connection_headers None None = []
connection_headers None (Some option) = connection_header option ∷ []
connection_headers (Some protocols) option =
    connection_header (options_with_upgrade option) ∷ upgrade_header protocols ∷ []

-- the byte, or a space if it isn't allowed in a field value
abbrev pub safe_byte : ℕ → ℕ
safe_byte b = if is_value_byte b then b else 32

abbrev pub safe_value : List ℕ → List ℕ
safe_value value = map safe_byte value

-- the header with a safe value, or none if its name isn't a token
abbrev pub safe_header : Header → Option Header
safe_header h = if is_token h.field then Some (record h { value = safe_value h.value }) else None

abbrev pub safe_headers : List Header → List Header
safe_headers headers = filter_map safe_header headers

-- the headers that were added to a response; under `Standard` only those whose name is a token, each with a safe value
abbrev pub own_headers : Option Persistence → List Header → List Header
own_headers None headers = headers
own_headers (Some _) headers = safe_headers headers

-- The headers listed after the date of a response that isn't an upgrade: those that were added to it. Under `Standard`
-- only those whose name is a token are listed, each with a safe value; and unless the code is below 200, the headers of
-- `connection_headers` come before them.
abbrev pub listed_headers : Option Persistence → HTTPVersion → ℕ → Option (List ℕ) → List Header → List Header
listed_headers None version status offered headers = headers
listed_headers (Some says) version status offered headers =
    (if nat_lt status 200 then [] else connection_headers (option_map safe_value offered)
    (persistence_option version says)) ++ safe_headers headers

-- the framing of a 304: the length of its data, if known and not 0
abbrev pub framing_of_304 : Option ℕ → FramingHeader
framing_of_304 None = Neither
framing_of_304 (Some n) = if n == 0 then Neither else ContentLength n

-- The framing of a response that is only a head because of its code: neither header for a code below 200 and a 204,
-- length 0 for a 205, and `framing_of_304` for a 304. `None` for any other code.
abbrev pub framing_without_content : ℕ → Option ℕ → Option FramingHeader
framing_without_content status length =
    if nat_lt status 200 || status == 204 then Some Neither else
    if status == 205 then Some (ContentLength 0) else
    if status == 304 then Some (framing_of_304 length) else None

-- the framing of a response that is only a head because of its code, under `Standard`; none under another profile
abbrev pub framing_by_standard : Option Persistence → ℕ → Option ℕ → Option FramingHeader
framing_by_standard None status length = None
framing_by_standard (Some _) status length = framing_without_content status length

-- whether a response with this code never has content, whatever the request: a code from 100 to 199, a 204 or a 304
abbrev pub has_no_content : ℕ → Bool
has_no_content status = (nat_le 100 status && nat_lt status 200) || (status == 204 || status == 304)

-- The framing of a response that is only a head because of its code, or none if it isn't. With `contentless`, a
-- response whose code has no content has neither header, under any profile. For any other response it is that of
-- `framing_by_standard`.
abbrev pub contentless_framing : Option Persistence → Bool → ℕ → Option ℕ → Option FramingHeader
contentless_framing says contentless status length =
    if contentless && has_no_content status then Some Neither else framing_by_standard says status length
