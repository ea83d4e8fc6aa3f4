-- The transfer coding of a response's body (RFC 9112, sections 6.1 and 7.4; RFC 9110, sections 10.1.4 and 12.4.2).
use Rattle.std.specs.Prelude.{ℕ, max, Bool, ◌&&◌, ◌||◌, ◌==◌, nat_lt, nat_le, List, [], ◌∷◌, find, filter_map, Option}
use Rattle.std.specs.Prelude.{Some, None, option_map, option_and_then, codes, if◌then◌else◌}
use Rattle.tiny_http_head.specs.declared.common.HTTPVersion.{HTTPVersion}
use Rattle.tiny_http_head.specs.declared.common.Header.{Header}
use Rattle.tiny_http_head.specs.Common.{same_name}
use Rattle.tiny_http_text.specs.QualityReading.{qualities}
use Rattle.tiny_http_response.specs.declared.coding.Coding.{Coding}
use Rattle.tiny_http_response.specs.declared.coding.Coding.TheVariants.{Identity, Chunked}

-- A coding with the quality that a request gives it, in thousandths.
abbrev pub Weighed : Type 0
Weighed = Coding × ℕ

-- the supported coding with this name, if any
abbrev pub coding_named : List ℕ → Option Coding
coding_named name =
    if same_name name (codes "identity") then Some Identity
    else if same_name name (codes "chunked") then Some Chunked else None

-- the supported codings with their qualities, from elements of a name and a quality
abbrev pub supported_codings : List (List ℕ × ℕ) → List Weighed
supported_codings elements = filter_map (λ e. option_map (λ coding. (coding, e.1)) (coding_named e.0)) elements

abbrev pub greatest_quality : List Weighed → ℕ
greatest_quality [] = 0
greatest_quality (w ∷ ws) = max w.1 (greatest_quality ws)

-- the first coding with the greatest quality, if that is above 0
abbrev pub most_wanted : List Weighed → Option Coding
most_wanted ws =
    if nat_lt 0 (greatest_quality ws) then option_map (λ w. w.0) (find (λ w. w.1 == greatest_quality ws) ws) else None

-- the coding that the first TE header of these request headers asks for, if any
unfoldable pub coding_asked : List Header → Option Coding
coding_asked request_headers =
    option_and_then (λ h. most_wanted (supported_codings (qualities h.value)))
    (find (λ h. same_name h.field (codes "TE")) request_headers)

-- the coding if the request asks for none: chunked, unless the length is known and below the threshold
abbrev pub coding_by_length : ℕ → Option ℕ → Coding
coding_by_length threshold None = Chunked
coding_by_length threshold (Some n) = if nat_le threshold n then Chunked else Identity

abbrev pub coding_by : Option Coding → ℕ → Option ℕ → Coding
coding_by (Some coding) threshold length = coding
coding_by None threshold length = coding_by_length threshold length

-- whether a version is at most 1.0
abbrev pub is_up_to_1_0 : HTTPVersion → Bool
is_up_to_1_0 v = nat_lt v.0 1 || (v.0 == 1 && v.1 == 0)

-- whether a response is sent without a transfer coding whatever the request asks for: if the request's version is at
-- most 1.0, or the status is below 200 or is 204
abbrev pub takes_identity_alone : HTTPVersion → ℕ → Bool
takes_identity_alone version status = is_up_to_1_0 version || (nat_lt status 200 || status == 204)

-- THE CODING of a response, given the version of the request and the coding that it asks for, if any, and the status,
-- the threshold and the data length of the response
abbrev pub chosen_coding : HTTPVersion → Option Coding → ℕ → ℕ → Option ℕ → Coding
chosen_coding version asked status threshold length =
    if takes_identity_alone version status then Identity else coding_by asked threshold length
