-- The definition tried out: whether a request asks for chunks by TE.
use Rattle.std.proofs.Common.{◌≡◌, refl, ℕ, Bool, true, false, List, [], ◌∷◌}
use Rattle.std.specs.Prelude.{codes}
use Rattle.tiny_http_head.specs.declared.common.Header.{Header}
use Rattle.tiny_http_standard_head.specs.Te.{asks_chunked}

abbrev te : List ℕ → Header
te value = record { field = codes "TE"; value = value }

abbrev asks : List ℕ → Bool
asks value = asks_chunked (te value ∷ [])

no_te : asks_chunked (record { field = codes "Accept"; value = codes "chunked" } ∷ []) ≡ false
no_te = refl

trailers : asks (codes "trailers") ≡ false
trailers = refl

identity : asks (codes "identity") ≡ false
identity = refl

unlike_names : asks (codes "gzip, xchunked, chunkedx, x;chunked, chunked q=1") ≡ false
unlike_names = refl

weight_zero : asks (codes "chunked;q=0") ≡ false
weight_zero = refl

zero_behind_another_parameter : asks (codes "chunked; x=1; q=0.000") ≡ false
zero_behind_another_parameter = refl

zero_by_other_forms : asks (codes "chunked;Q=0., chunked ; q=0.0, chunked;q= 0.00 ;q=1") ≡ false
zero_by_other_forms = refl

-- 0.0000 isn't a qvalue
no_qvalue : asks (codes "chunked;q=0.0000") ≡ true
no_qvalue = refl

no_number : asks (codes "chunked;q=") ≡ true
no_number = refl

first_weight_counts : asks (codes "chunked;q=0.001;q=0") ≡ true
first_weight_counts = refl

-- a space in front of the equals sign makes another parameter
no_weight : asks (codes "chunked;q =0;p=0;xq=0;q0") ≡ true
no_weight = refl

another_element : asks (codes "chunked;q=0, chunked") ≡ true
another_element = refl

second_header : asks_chunked (te (codes "gzip") ∷ record { field = codes "te"; value = codes ", Chunked ; Q=0.5" } ∷ []) ≡ true
second_header = refl
