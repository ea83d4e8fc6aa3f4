-- The way in which a header is added to a response: where the header goes.
use Rattle.std.specs.Prelude.{◌≡◌, ℕ, List, ◌∷◌, ◌++◌, [], Option, Some, None, codes, if◌then◌else◌, Bool}
use Rattle.tiny_http_head.specs.declared.common.Header.{Header}
use Rattle.tiny_http_head.specs.Common.{same_name}
use Rattle.tiny_http_head.specs.Heads.{length_in}
use Rattle.tiny_http_response.specs.Answer.{Answer}
use Rattle.tiny_http_response.specs.AddHeader.{is_reserved, is_second_type, with_value, add_header, with_headers}
use Rattle.tiny_http_response.specs.declared.add_header.Place.{Place}
use Rattle.tiny_http_response.specs.declared.add_header.Place.TheVariants.{Nowhere, Length, ContentType, Last}

abbrev pub place_of_length : Option ℕ → Place
place_of_length None = Nowhere
place_of_length (Some n) = Length n

-- how a header is added to this list
abbrev pub place_of : Header → List Header → Place
place_of h headers =
    if is_reserved h.field then Nowhere else
    if same_name h.field (codes "Content-Length") then place_of_length (length_in h.value) else
    if is_second_type h headers then ContentType else Last

-- the response after a header is added in this way
abbrev pub placed : Place → Header → Answer → Answer
placed Nowhere h a = a
placed (Length n) h a = record a { data_length = Some n }
placed ContentType h a = record a { headers = with_value (codes "Content-Type") h.value a.headers }
placed Last h a = record a { headers = a.headers ++ h ∷ [] }

-- the response with these parts
abbrev pub answer_of : ℕ → ℕ → Bool → Option (List ℕ) → Bool → List Header → Option ℕ → Answer
answer_of status threshold closes offered contentless headers length =
    record {
      status = status;
      headers = headers;
      data_length = length;
      threshold = threshold;
      closes = closes;
      offered = offered;
      contentless = contentless;
    }

-- whether `more` and `known` are the list and the length after a header is added to a response that had `headers` and
-- `length`, whatever its other parts
abbrev pub Adds : Header → List Header → Option ℕ → List Header → Option ℕ → Type 0
Adds h headers length more known =
    (status threshold : ℕ) (closes : Bool) (offered : Option (List ℕ)) (contentless : Bool)
    → answer_of status threshold closes offered contentless more known
    ≡ add_header h (answer_of status threshold closes offered contentless headers length)

-- whether `more` and `known` are the list and the length after the headers `hs` are added, one after another, to a
-- response that had `headers` and `length`, whatever its other parts
abbrev pub AddsAll : List Header → List Header → Option ℕ → List Header → Option ℕ → Type 0
AddsAll hs headers length more known =
    (status threshold : ℕ) (closes : Bool) (offered : Option (List ℕ)) (contentless : Bool)
    → answer_of status threshold closes offered contentless more known
    ≡ with_headers hs (answer_of status threshold closes offered contentless headers length)
