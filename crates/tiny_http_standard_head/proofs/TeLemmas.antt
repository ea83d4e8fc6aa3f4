-- The weights of TE, from parameter to parameter.
use Rattle.std.proofs.Common.{◌≡◌, refl, sym, ap, ◌∙◌, ℕ, ◌+◌, Bool, true, false, ◌&&◌, not, List, ◌∷◌, ◌++◌, map}
use Rattle.std.specs.Prelude.{if◌then◌else◌}
use Rattle.httparse.specs.Grammar.{is_ows}
use Rattle.tiny_http_text.specs.Bytes.{HasNo, trimmed, parts, semicolon}
use Rattle.tiny_http_text.proofs.BytesLemmas.{parts-word, parts-last}
use Rattle.tiny_http_standard_head.specs.Validation.{is_chunked}
use Rattle.tiny_http_standard_head.specs.Te.{between_semicolons, is_weight, weight_value, is_zero, has_zero_weight, coding_asks_chunked, element_asks_chunked}
use Rattle.tiny_http_head.proofs.ListsLemmas.{IsAt}
use Rattle.tiny_http_standard_head.proofs.ListsLemmas.{from_here, element-here}

-- one parameter more
weight-here : (texts : List (List ℕ)) (i : ℕ) (text : List ℕ) (t : Bool) → IsAt texts i text → is_weight (trimmed is_ows text) ≡ t
    → has_zero_weight (from_here texts i) ≡ (if t then is_zero (weight_value (trimmed is_ows text)) else has_zero_weight (from_here texts (i + 1)))
weight-here texts i text t at is =
    element-here has_zero_weight texts i text at
    ∙ ap (λ (b : Bool). if b then is_zero (weight_value (trimmed is_ows text)) else has_zero_weight (from_here texts (i + 1))) is

pub weight-passed : (texts : List (List ℕ)) (i : ℕ) (text : List ℕ) → IsAt texts i text → is_weight (trimmed is_ows text) ≡ false → has_zero_weight (from_here texts (i + 1)) ≡ has_zero_weight (from_here texts i)
weight-passed texts i text at is = sym (weight-here texts i text false at is)

pub weight-found : (texts : List (List ℕ)) (i : ℕ) (text : List ℕ) → IsAt texts i text → is_weight (trimmed is_ows text) ≡ true → is_zero (weight_value (trimmed is_ows text)) ≡ has_zero_weight (from_here texts i)
weight-found texts i text at is = sym (weight-here texts i text true at is)

-- a coding with parameters, and one without
pub with-parameters : (element coding parameters : List ℕ) (chunked zero : Bool) → element ≡ coding ++ semicolon ∷ parameters → HasNo semicolon coding
    → chunked ≡ is_chunked (trimmed is_ows coding) → zero ≡ has_zero_weight (between_semicolons parameters) → (chunked && not zero) ≡ element_asks_chunked element
with-parameters element coding parameters chunked zero joins without is weighs =
    let F : List (List ℕ) → Bool = λ ps. coding_asks_chunked (map (trimmed is_ows) ps) in
    ap (λ (b : Bool). b && not zero) is
    ∙ ap (λ (b : Bool). is_chunked (trimmed is_ows coding) && not b) weighs
    ∙ sym (ap (λ (x : List ℕ). F (parts semicolon x)) joins ∙ ap F (parts-word semicolon coding parameters without))

and-true : (b : Bool) → (b && true) ≡ b
and-true true = refl
and-true false = refl

pub without-parameters : (element : List ℕ) → HasNo semicolon element → is_chunked (trimmed is_ows element) ≡ element_asks_chunked element
without-parameters element without =
    let F : List (List ℕ) → Bool = λ ps. coding_asks_chunked (map (trimmed is_ows) ps) in
    sym (ap F (parts-last semicolon element without) ∙ and-true (is_chunked (trimmed is_ows element)))
