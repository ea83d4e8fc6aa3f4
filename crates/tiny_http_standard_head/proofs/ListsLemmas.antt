-- The elements of headers, one after the other.
use Rattle.std.proofs.Common.{◌≡◌, sym, ap, ◌∙◌, ℕ, ◌+◌, ◌<◌, ◌≤◌, Bool, true, false, ◌||◌, List, [], ◌∷◌, ◌++◌, length, drop, get_or}
use Rattle.std.specs.List.{list_any}
use Rattle.std.proofs.lemmas.List.Folds.{list_any-append}
use Rattle.httparse.specs.Grammar.{is_ows}
use Rattle.tiny_http_text.specs.Bytes.{trimmed}
use Rattle.tiny_http_head.specs.declared.common.Header.{Header}
use Rattle.tiny_http_head.specs.Common.{same_name}
use Rattle.tiny_http_head.proofs.ListsLemmas as elements
use Rattle.tiny_http_head.proofs.ListsLemmas.{IsAt}
use Rattle.tiny_http_standard_head.specs.Lists.{between_commas, elements_of}

-- one element more, and one header more, where spaces and tabs are left out
abbrev pub from_here : List (List ℕ) → ℕ → List (List ℕ)
from_here texts i = elements.from_here is_ows texts i

pub element-here : {Y : Type 0} (F : List (List ℕ) → Y) (texts : List (List ℕ)) (i : ℕ) (text : List ℕ) → IsAt texts i text → F (from_here texts i) ≡ F (trimmed is_ows text ∷ from_here texts (i + 1))
element-here = elements.element-here is_ows

pub elements-end : {Y : Type 0} (F : List (List ℕ) → Y) (texts : List (List ℕ)) (i : ℕ) → length texts ≤ i → F (from_here texts i) ≡ F []
elements-end = elements.elements-end is_ows

pub header-added : {Y : Type 0} (F : List (List ℕ) → Y) (name : List ℕ) (headers : List Header) (i : ℕ) (h : Header) → i < length headers → h ≡ get_or headers i h → same_name h.field name ≡ true
    → F (elements_of name (drop i headers)) ≡ F (between_commas h.value ++ elements_of name (drop (i + 1) headers))
header-added = elements.header-added is_ows

pub header-passed : {Y : Type 0} (F : List (List ℕ) → Y) (name : List ℕ) (headers : List Header) (i : ℕ) (h : Header) → i < length headers → h ≡ get_or headers i h → same_name h.field name ≡ false
    → F (elements_of name (drop (i + 1) headers)) ≡ F (elements_of name (drop i headers))
header-passed = elements.header-passed is_ows

-- an element that passes a test
pub any-passed : (p : List ℕ → Bool) (texts : List (List ℕ)) (i : ℕ) (text : List ℕ) → IsAt texts i text → p (trimmed is_ows text) ≡ false → list_any p (from_here texts (i + 1)) ≡ list_any p (from_here texts i)
any-passed p texts i text t h = sym (element-here (list_any p) texts i text t ∙ ap (λ b. b || list_any p (from_here texts (i + 1))) h)

pub any-found : (p : List ℕ → Bool) (texts : List (List ℕ)) (i : ℕ) (text : List ℕ) → IsAt texts i text → p (trimmed is_ows text) ≡ true → true ≡ list_any p (from_here texts i)
any-found p texts i text t h = sym (element-here (list_any p) texts i text t ∙ ap (λ b. b || list_any p (from_here texts (i + 1))) h)

pub any-header-passed : (p : List ℕ → Bool) (name : List ℕ) (headers : List Header) (i : ℕ) (h : Header) → i < length headers → h ≡ get_or headers i h → same_name h.field name ≡ true → list_any p (between_commas h.value) ≡ false
    → list_any p (elements_of name (drop (i + 1) headers)) ≡ list_any p (elements_of name (drop i headers))
any-header-passed p name headers i h within is named e =
    let more = elements_of name (drop (i + 1) headers) in
    sym (header-added (list_any p) name headers i h within is named ∙ list_any-append p (between_commas h.value) more ∙ ap (λ b. b || list_any p more) e)

pub any-header-found : (p : List ℕ → Bool) (name : List ℕ) (headers : List Header) (i : ℕ) (h : Header) → i < length headers → h ≡ get_or headers i h → same_name h.field name ≡ true → list_any p (between_commas h.value) ≡ true
    → true ≡ list_any p (elements_of name (drop i headers))
any-header-found p name headers i h within is named e =
    let more = elements_of name (drop (i + 1) headers) in
    sym (header-added (list_any p) name headers i h within is named ∙ list_any-append p (between_commas h.value) more ∙ ap (λ b. b || list_any p more) e)
