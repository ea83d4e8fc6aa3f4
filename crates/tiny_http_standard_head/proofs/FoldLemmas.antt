-- Codings, from element to element.
use Rattle.std.proofs.Common.{◌≡◌, refl, sym, ap, ◌∙◌, ℕ, ◌+◌, ◌<◌, true, List, [], ◌∷◌, ◌++◌, length, drop, get_or}
use Rattle.httparse.specs.Grammar.{is_ows}
use Rattle.tiny_http_text.specs.Bytes.{trimmed}
use Rattle.tiny_http_head.specs.declared.common.Header.{Header}
use Rattle.tiny_http_head.specs.Common.{same_name}
use Rattle.tiny_http_standard_head.specs.declared.validation.Codings.{Codings}
use Rattle.tiny_http_standard_head.specs.Lists.{between_commas, elements_of}
use Rattle.tiny_http_standard_head.specs.ValidationReading.{coding_after, codings_on}
use Rattle.tiny_http_head.proofs.ListsLemmas.{IsAt}
use Rattle.tiny_http_standard_head.proofs.ListsLemmas.{from_here, element-here, header-added}

-- one coding more
pub codings-step : (was : Codings) (texts : List (List ℕ)) (i : ℕ) (text : List ℕ) → IsAt texts i text → codings_on (coding_after was (trimmed is_ows text)) (from_here texts (i + 1)) ≡ codings_on was (from_here texts i)
codings-step was texts i text t = sym (element-here (codings_on was) texts i text t)

codings-append : (was : Codings) (xs ys : List (List ℕ)) → codings_on was (xs ++ ys) ≡ codings_on (codings_on was xs) ys
codings-append was [] ys = refl
codings-append was (x ∷ xs) ys = codings-append (coding_after was x) xs ys

pub codings-header : (was now : Codings) (name : List ℕ) (headers : List Header) (i : ℕ) (h : Header) → i < length headers → h ≡ get_or headers i h → same_name h.field name ≡ true → now ≡ codings_on was (between_commas h.value)
    → codings_on now (elements_of name (drop (i + 1) headers)) ≡ codings_on was (elements_of name (drop i headers))
codings-header was now name headers i h within is named e =
    let more = elements_of name (drop (i + 1) headers) in
    sym (header-added (codings_on was) name headers i h within is named ∙ codings-append was (between_commas h.value) more ∙ ap (λ b. codings_on b more) (sym e))
