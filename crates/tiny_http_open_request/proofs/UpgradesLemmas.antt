-- The Upgrade headers of a request, which are kept of it.
use Rattle.std.proofs.Common.{◌≡◌, refl, sym, ap, ◌∙◌, ℕ, ◌+◌, ◌<◌, ◌≤◌, Bool, true, false, List, [], ◌∷◌, ◌++◌, length, drop, get_or, append_assoc, append-nil}
use Rattle.std.specs.Prelude.{if◌then◌else◌}
use Rattle.std.proofs.lemmas.List.{at_drop_all}
use Rattle.tiny_http_head.specs.declared.common.Header.{Header}
use Rattle.tiny_http_head.specs.Common.{same_name}
use Rattle.tiny_http_standard_head.specs.Lists.{between_commas, elements_of}
use Rattle.tiny_http_standard_head.proofs.ListsLemmas.{header-added, header-passed}

elements-append : (name : List ℕ) (xs ys : List Header) → elements_of name (xs ++ ys) ≡ elements_of name xs ++ elements_of name ys
elements-append name [] ys = refl
elements-append name (x ∷ xs) ys = by (same_name x.field name) (elements-append name xs ys)
  where
    by : (t : Bool) → elements_of name (xs ++ ys) ≡ elements_of name xs ++ elements_of name ys → (if t then between_commas x.value ++ elements_of name (xs ++ ys) else elements_of name (xs ++ ys)) ≡ (if t then between_commas x.value ++ elements_of name xs else elements_of name xs) ++ elements_of name ys
    by true more = ap (λ e. between_commas x.value ++ e) more ∙ sym (append_assoc (between_commas x.value) (elements_of name xs) (elements_of name ys))
    by false more = more

-- those that are kept so far, and those that are still to be seen, have the elements of all
abbrev pub AreKeptOf : List ℕ → List Header → List Header → ℕ → Type 0
AreKeptOf name kept headers i = elements_of name kept ++ elements_of name (drop i headers) ≡ elements_of name headers

pub kept-one : (name : List ℕ) (kept headers : List Header) (i : ℕ) (h : Header) → i < length headers → h ≡ get_or headers i h → same_name h.field name ≡ true → AreKeptOf name kept headers i → AreKeptOf name (kept ++ (h ∷ [])) headers (i + 1)
kept-one name kept headers i h within is named so_far =
    let more = elements_of name (drop (i + 1) headers) in
    let one : elements_of name (h ∷ []) ≡ between_commas h.value = ap (λ (t : Bool). if t then between_commas h.value ++ [] else []) named ∙ append-nil (between_commas h.value) in
    ap (λ e. e ++ more) (elements-append name kept (h ∷ []) ∙ ap (λ e. elements_of name kept ++ e) one) ∙ append_assoc (elements_of name kept) (between_commas h.value) more
    ∙ sym (header-added (λ e. elements_of name kept ++ e) name headers i h within is named) ∙ so_far

pub kept-none : (name : List ℕ) (kept headers : List Header) (i : ℕ) (h : Header) → i < length headers → h ≡ get_or headers i h → same_name h.field name ≡ false → AreKeptOf name kept headers i → AreKeptOf name kept headers (i + 1)
kept-none name kept headers i h within is named so_far = header-passed (λ e. elements_of name kept ++ e) name headers i h within is named ∙ so_far

pub kept-all : (name : List ℕ) (kept headers : List Header) (i : ℕ) → length headers ≤ i → AreKeptOf name kept headers i → elements_of name kept ≡ elements_of name headers
kept-all name kept headers i end so_far =
    sym (append-nil (elements_of name kept)) ∙ sym (at_drop_all (λ x. elements_of name kept ++ elements_of name x) headers i end) ∙ so_far
