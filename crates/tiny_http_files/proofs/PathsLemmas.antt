-- The parts of a path, one after the other.
use Rattle.std.proofs.Common.{◌≡◌, sym, ap, ◌∙◌, ℕ, ◌+◌, ◌<◌, ◌≤◌, Bool, true, false, ◌||◌, List, ◌∷◌, length, drop, get_or}
use Rattle.std.specs.List.{list_any}
use Rattle.std.proofs.lemmas.List.{at_drop_more, at_drop_all}

abbrev IsAt : List (List ℕ) → ℕ → List ℕ → Type 0
IsAt texts i text = (i < length texts) × (text ≡ get_or texts i text)

part-here : (p : List ℕ → Bool) (texts : List (List ℕ)) (i : ℕ) (text : List ℕ) → IsAt texts i text → list_any p (drop i texts) ≡ (p text || list_any p (drop (i + 1) texts))
part-here p texts i text t = at_drop_more (list_any p) texts i text t.0 ∙ ap (λ x. list_any p (x ∷ drop (i + 1) texts)) (sym t.1)

-- a part that passes
pub part-passed : (p : List ℕ → Bool) (texts : List (List ℕ)) (i : ℕ) (text : List ℕ) → IsAt texts i text → p text ≡ false → list_any p (drop (i + 1) texts) ≡ list_any p (drop i texts)
part-passed p texts i text t h = sym (part-here p texts i text t ∙ ap (λ b. b || list_any p (drop (i + 1) texts)) h)

-- one that is found
pub part-found : (p : List ℕ → Bool) (texts : List (List ℕ)) (i : ℕ) (text : List ℕ) → IsAt texts i text → p text ≡ true → true ≡ list_any p (drop i texts)
part-found p texts i text t h = sym (part-here p texts i text t ∙ ap (λ b. b || list_any p (drop (i + 1) texts)) h)

-- no part is left
pub parts-end : (p : List ℕ → Bool) (texts : List (List ℕ)) (i : ℕ) → length texts ≤ i → list_any p (drop i texts) ≡ false
parts-end p texts i le = at_drop_all (list_any p) texts i le
