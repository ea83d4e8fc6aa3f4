-- Functions that compute the framing of a request. The proof of the law `one_framing` uses them.
use Rattle.std.specs.Prelude.{ℕ, Bool, true, false, not, ◌&&◌, ◌==◌, nat_le, List, [], ◌∷◌, Option, Some, None}
use Rattle.std.specs.Prelude.{Result, Ok, Err, codes, if◌then◌else◌}
use Rattle.tiny_http_head.specs.declared.common.Header.{Header}
use Rattle.tiny_http_head.specs.declared.common.HTTPVersion.{HTTPVersion}
use Rattle.tiny_http_head.specs.Common.{same_name}
use Rattle.tiny_http_head.specs.declared.content_length.InvalidLength.{InvalidLength}
use Rattle.tiny_http_head.specs.ContentLength.{one_length}
use Rattle.tiny_http_body.specs.declared.framing.TheConstants.{LONGEST_WITH_HEAD}
use Rattle.tiny_http_body.specs.declared.framing.HeadRules.{HeadRules}
use Rattle.tiny_http_body.specs.declared.framing.HeadRules.TheVariants.{Lenient, Strict}
use Rattle.tiny_http_body.specs.declared.framing.FramingFault.{FramingFault}
use Rattle.tiny_http_body.specs.declared.framing.FramingFault.TheVariants.{Invalid, Expectation}
use Rattle.tiny_http_body.specs.declared.framing.Form.{Form}
use Rattle.tiny_http_body.specs.declared.framing.Form.TheVariants.{Rest, Nothing, WithHead, Counted, Chunked}
use Rattle.tiny_http_body.specs.declared.framing.Framing.{Framing}
use Rattle.tiny_http_body.specs.Framing.{value_of, elements_of, lenient_length, expectation, names_upgrade}
use Rattle.tiny_http_body.specs.Framing.{names_coding, is_last}

-- the value found before or, if there is none, the value of the first field with this name
abbrev pub first_value : Option (List ℕ) → List ℕ → List Header → Option (List ℕ)
first_value None name headers = value_of name headers
first_value (Some value) name headers = Some value

abbrev pub sized_form : Bool → Option ℕ → Form
sized_form owed None = Nothing
sized_form owed (Some n) =
    if n == 0 then Nothing else if (nat_le n LONGEST_WITH_HEAD && not owed) then WithHead else Counted

abbrev pub form_by : Bool → Bool → Bool → Option ℕ → Form
form_by true coded owed n = Rest
form_by false true owed n = Chunked
form_by false false owed n = sized_form owed n

-- the one length, or `Invalid` if the elements don't give one
abbrev pub uncoded_length : Result (Option ℕ) InvalidLength → Result (Option ℕ) FramingFault
uncoded_length (Ok n) = Ok n
uncoded_length (Err fault) = Err Invalid

abbrev pub ends_with_chunked : List ℕ → List (List ℕ) → Bool
ends_with_chunked last [] = same_name last (codes "chunked")
ends_with_chunked coding (last ∷ codings) = ends_with_chunked last codings

abbrev pub strict_length : List (List ℕ) → List (List ℕ) → Result (Option ℕ) FramingFault
strict_length lengths [] = uncoded_length (one_length lengths)
strict_length [] (coding ∷ codings) = if ends_with_chunked coding codings then Ok None else Err Invalid
strict_length (length ∷ lengths) (coding ∷ codings) = Err Invalid

-- whether the last coding is chunked, computed coding by coding; `was` if there are no codings
abbrev pub chunked_on : Bool → List (List ℕ) → Bool
chunked_on was [] = was
chunked_on was (coding ∷ codings) = chunked_on (same_name coding (codes "chunked")) codings

-- the content length that the fields give, or the fault
abbrev pub body_length : HeadRules → List Header → Result (Option ℕ) FramingFault
body_length Lenient headers = Ok (lenient_length headers)
body_length Strict headers =
    strict_length (elements_of (codes "Content-Length") headers) (elements_of (codes "Transfer-Encoding") headers)

abbrev pub framed_by : HTTPVersion → List Header → Option ℕ → Option Bool → Result Framing FramingFault
framed_by v headers n None = Err Expectation
framed_by v headers n (Some owed) =
    Ok
    (record {
      form = form_by (names_upgrade headers) (names_coding headers) owed n;
      owes_continue = owed;
      body_length = n;
      asks_upgrade = false;
      by_standard = false;
      is_last = is_last v (value_of (codes "Connection") headers);
    })

abbrev pub framed_if : HTTPVersion → List Header → Result (Option ℕ) FramingFault → Result Framing FramingFault
framed_if v headers (Err fault) = Err fault
framed_if v headers (Ok n) = framed_by v headers n (expectation (value_of (codes "Expect") headers))

-- the framing that the version and the fields give, or the reason why the head is refused
unfoldable pub framing : HeadRules → HTTPVersion → List Header → Result Framing FramingFault
framing p v headers = framed_if v headers (body_length p headers)
