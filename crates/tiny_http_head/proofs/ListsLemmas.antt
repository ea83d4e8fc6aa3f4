-- The elements of values and of headers, one after the other.
use Rattle.std.proofs.Common.{◌≡◌, sym, ap, ◌∙◌, ℕ, ◌+◌, ◌<◌, ◌≤◌, Bool, true, false, List, [], ◌∷◌, ◌++◌, map, length, drop, get_or}
use Rattle.std.specs.Prelude.{if◌then◌else◌}
use Rattle.std.proofs.lemmas.List.{at_drop_more, at_drop_all}
use Rattle.tiny_http_text.specs.Bytes.{trimmed}
use Rattle.tiny_http_head.specs.declared.common.Header.{Header}
use Rattle.tiny_http_head.specs.Common.{same_name}
use Rattle.tiny_http_head.specs.Lists.{elements_in, elements_by_name}

-- one element more
abbrev pub IsAt : List (List ℕ) → ℕ → List ℕ → Type 0
IsAt texts i text = (i < length texts) × (text ≡ get_or texts i text)

module _ (p : ℕ → Bool) where
  abbrev pub from_here : List (List ℕ) → ℕ → List (List ℕ)
  from_here texts i = map (trimmed p) (drop i texts)

  pub element-here : {Y : Type 0} (F : List (List ℕ) → Y) (texts : List (List ℕ)) (i : ℕ) (text : List ℕ) → IsAt texts i text → F (from_here texts i) ≡ F (trimmed p text ∷ from_here texts (i + 1))
  element-here F texts i text t =
      let G : List (List ℕ) → _ = λ x. F (map (trimmed p) x) in
      at_drop_more G texts i text t.0 ∙ ap (λ x. G (x ∷ drop (i + 1) texts)) (sym t.1)

  pub elements-end : {Y : Type 0} (F : List (List ℕ) → Y) (texts : List (List ℕ)) (i : ℕ) → length texts ≤ i → F (from_here texts i) ≡ F []
  elements-end F texts i le = at_drop_all (λ x. F (map (trimmed p) x)) texts i le

  -- what one header adds
  abbrev pub Added : Bool → List ℕ → List (List ℕ) → List (List ℕ)
  Added t value more = if t then elements_in p value ++ more else more

  header-here : {Y : Type 0} (F : List (List ℕ) → Y) (name : List ℕ) (headers : List Header) (i : ℕ) (h : Header) (t : Bool) → i < length headers → h ≡ get_or headers i h → same_name h.field name ≡ t
      → F (elements_by_name p name (drop i headers)) ≡ F (Added t h.value (elements_by_name p name (drop (i + 1) headers)))
  header-here F name headers i h t within is named =
      let G : List Header → _ = λ x. F (elements_by_name p name x) in
      at_drop_more G headers i h within ∙ ap (λ x. G (x ∷ drop (i + 1) headers)) (sym is) ∙ ap (λ b. F (Added b h.value (elements_by_name p name (drop (i + 1) headers)))) named

  pub header-added : {Y : Type 0} (F : List (List ℕ) → Y) (name : List ℕ) (headers : List Header) (i : ℕ) (h : Header) → i < length headers → h ≡ get_or headers i h → same_name h.field name ≡ true
      → F (elements_by_name p name (drop i headers)) ≡ F (elements_in p h.value ++ elements_by_name p name (drop (i + 1) headers))
  header-added F name headers i h within is named = header-here F name headers i h true within is named

  pub header-passed : {Y : Type 0} (F : List (List ℕ) → Y) (name : List ℕ) (headers : List Header) (i : ℕ) (h : Header) → i < length headers → h ≡ get_or headers i h → same_name h.field name ≡ false
      → F (elements_by_name p name (drop (i + 1) headers)) ≡ F (elements_by_name p name (drop i headers))
  header-passed F name headers i h within is named = sym (header-here F name headers i h false within is named)
