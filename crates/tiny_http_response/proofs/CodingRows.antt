-- The definition tried out: the coding of an answer.
use Rattle.std.proofs.Common.{◌≡◌, refl, ℕ, List, [], ◌∷◌, Option, Some, None}
use Rattle.std.specs.Prelude.{codes}
use Rattle.tiny_http_head.specs.declared.common.Header.{Header}
use Rattle.tiny_http_head.specs.Heads.{version}
use Rattle.tiny_http_text.specs.QualityReading.{short_number, thousandths, quality, parameter_quality, first_quality, element, qualities}
use Rattle.tiny_http_response.specs.declared.coding.Coding.{Coding}
use Rattle.tiny_http_response.specs.declared.coding.Coding.TheVariants.{Identity, Chunked}
use Rattle.tiny_http_head.specs.declared.common.HTTPVersion.{HTTPVersion}
use Rattle.tiny_http_response.specs.Coding.{coding_asked, chosen_coding}

-- the coding of an answer, by the version and the headers of the request
abbrev coding_of : HTTPVersion → List Header → ℕ → ℕ → Option ℕ → Coding
coding_of version request_headers status threshold length = chosen_coding version (coding_asked request_headers) status threshold length

abbrev te : List ℕ → Header
te value = record { field = codes "TE"; value = value }

-- 11 bytes under 200 for a request of 1.1
abbrev for_headers : List Header → Coding
for_headers request_headers = coding_of (version 1 1) request_headers 200 32768 (Some 11)

abbrev with_te : List ℕ → Coding
with_te value = for_headers (te value ∷ [])

-- data of this length under 200, for a request without TE
abbrev of_length : Option ℕ → Coding
of_length length = coding_of (version 1 1) [] 200 32768 length

no_te : for_headers [] ≡ Identity
unfolding coding_asked
no_te = refl

asks_chunked : with_te (codes "chunked") ≡ Chunked
unfolding coding_asked qualities element first_quality parameter_quality quality short_number thousandths
asks_chunked = refl

any_case : for_headers (record { field = codes "te"; value = codes " CHUNKED " } ∷ []) ≡ Chunked
unfolding coding_asked qualities element first_quality parameter_quality quality short_number thousandths
any_case = refl

chunked_refused : with_te (codes "chunked;q=0, identity;q=0.5") ≡ Identity
unfolding coding_asked qualities element first_quality parameter_quality quality short_number thousandths
chunked_refused = refl

greater_quality : with_te (codes "identity;q=0.5, chunked;q=0.501") ≡ Chunked
unfolding coding_asked qualities element first_quality parameter_quality quality short_number thousandths
greater_quality = refl

equal_identity_first : with_te (codes "identity;q=0.5, chunked;q=0.5") ≡ Identity
unfolding coding_asked qualities element first_quality parameter_quality quality short_number thousandths
equal_identity_first = refl

equal_chunked_first : with_te (codes "chunked, identity;q=1.0") ≡ Chunked
unfolding coding_asked qualities element first_quality parameter_quality quality short_number thousandths
equal_chunked_first = refl

-- a coding that isn't supported is passed over, whatever its quality
beside_unknown : with_te (codes "gzip, trailers, chunked;q=0.1") ≡ Chunked
unfolding coding_asked qualities element first_quality parameter_quality quality short_number thousandths
beside_unknown = refl

unknown_alone : with_te (codes "gzip, deflate;q=0.5") ≡ Identity
unfolding coding_asked qualities element first_quality parameter_quality quality short_number thousandths
unknown_alone = refl

-- where none is wanted the length decides
none_wanted : coding_of (version 1 1) (te (codes "chunked;q=0, identity;q=0.0") ∷ []) 200 32768 None ≡ Chunked
unfolding coding_asked qualities element first_quality parameter_quality quality short_number thousandths
none_wanted = refl

unknown_alone_and_length_unknown : coding_of (version 1 1) (te (codes "gzip") ∷ []) 200 32768 None ≡ Chunked
unfolding coding_asked qualities element first_quality parameter_quality quality short_number thousandths
unknown_alone_and_length_unknown = refl

identity_and_length_unknown : coding_of (version 1 1) (te (codes "identity") ∷ []) 200 32768 None ≡ Identity
unfolding coding_asked qualities element first_quality parameter_quality quality short_number thousandths
identity_and_length_unknown = refl

-- the first TE header alone counts
first_te : for_headers (te (codes "gzip") ∷ te (codes "chunked") ∷ []) ≡ Identity
unfolding coding_asked qualities element first_quality parameter_quality quality short_number thousandths
first_te = refl

length_unknown : of_length None ≡ Chunked
unfolding coding_asked
length_unknown = refl

below_threshold : of_length (Some 32767) ≡ Identity
unfolding coding_asked
below_threshold = refl

at_threshold : of_length (Some 32768) ≡ Chunked
unfolding coding_asked
at_threshold = refl

threshold_zero : coding_of (version 1 1) [] 200 0 (Some 0) ≡ Chunked
unfolding coding_asked
threshold_zero = refl

-- a version up to 1.0, a status under 200 and a 204 leave no choice
version_1_0 : (request_headers : List Header) (status threshold : ℕ) (length : Option ℕ) → coding_of (version 1 0) request_headers status threshold length ≡ Identity
version_1_0 request_headers status threshold length = refl

version_0_9 : (request_headers : List Header) (status threshold : ℕ) (length : Option ℕ) → coding_of (version 0 9) request_headers status threshold length ≡ Identity
version_0_9 request_headers status threshold length = refl

continue : (request_headers : List Header) (threshold : ℕ) (length : Option ℕ) → coding_of (version 1 1) request_headers 100 threshold length ≡ Identity
continue request_headers threshold length = refl

of_204 : (request_headers : List Header) (threshold : ℕ) (length : Option ℕ) → coding_of (version 1 1) request_headers 204 threshold length ≡ Identity
of_204 request_headers threshold length = refl

-- a 304 has a coding, though no body
of_304 : coding_of (version 1 1) (te (codes "chunked") ∷ []) 304 32768 (Some 0) ≡ Chunked
unfolding coding_asked qualities element first_quality parameter_quality quality short_number thousandths
of_304 = refl
