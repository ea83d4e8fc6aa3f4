-- The length under Strict, and the codings element by element.
use Rattle.std.proofs.Common.{◌≡◌, refl, sym, ap, ◌∙◌, ℕ, ◌+◌, ◌<◌, ◌≤◌, Bool, true, false, List, [], ◌∷◌, ◌++◌, map, length, drop, get_or, Option, Some, None, Ok, Err}
use Rattle.std.specs.Prelude.{is_some, codes, if◌then◌else◌}
use Rattle.tiny_http_text.specs.Bytes.{is_blank, trimmed, parts, comma}
use Rattle.tiny_http_text.proofs.BytesLemmas.{ArePartsOf, parts-are}
use Rattle.tiny_http_head.specs.declared.common.Header.{Header}
use Rattle.tiny_http_head.specs.Common.{same_name}
use Rattle.tiny_http_head.specs.Lists.{elements_in}
use Rattle.tiny_http_head.specs.ContentLength.{one_length}
use Rattle.tiny_http_head.proofs.ListsLemmas.{IsAt, from_here, element-here, elements-end, header-added}
use Rattle.tiny_http_body.specs.declared.framing.FramingFault.TheVariants.{Invalid}
use Rattle.tiny_http_body.specs.Framing.{value_of, elements_of}
use Rattle.tiny_http_body.specs.FramingReading.{uncoded_length, chunked_on, ends_with_chunked, strict_length}

-- the elements of a value
abbrev pub elements : List ℕ → List (List ℕ)
elements value = elements_in is_blank value

-- one element more
pub chunked-step : (was : Bool) (texts : List (List ℕ)) (i : ℕ) (text : List ℕ) → IsAt texts i text → chunked_on (same_name (trimmed is_blank text) (codes "chunked")) (from_here is_blank texts (i + 1)) ≡ chunked_on was (from_here is_blank texts i)
chunked-step was texts i text t = sym (element-here is_blank (chunked_on was) texts i text t)

pub chunked-last : (was : Bool) (texts : List (List ℕ)) (i : ℕ) → length texts ≤ i → was ≡ chunked_on was (from_here is_blank texts i)
chunked-last was texts i le = sym (elements-end is_blank (chunked_on was) texts i le)

-- the elements of one value, and then the others
pub chunked-append : (was : Bool) (xs ys : List (List ℕ)) → chunked_on was (xs ++ ys) ≡ chunked_on (chunked_on was xs) ys
chunked-append was [] ys = refl
chunked-append was (x ∷ xs) ys = chunked-append (same_name x (codes "chunked")) xs ys

last-coding : (c : List ℕ) (cs : List (List ℕ)) (was : Bool) → chunked_on was (c ∷ cs) ≡ ends_with_chunked c cs
last-coding c [] was = refl
last-coding c (d ∷ cs) was = last-coding d cs (same_name c (codes "chunked"))

-- a header of the name stands there exactly if there are elements
parts-some : (value : List ℕ) (ps : List (List ℕ)) → ArePartsOf comma value ps → map (trimmed is_blank) ps ≡ [] → ⊥
parts-some value [] h e = elim h [ ]
parts-some value (p ∷ ps) h e = cc

-- what one header adds
abbrev Added : Bool → List ℕ → List (List ℕ) → List (List ℕ)
Added t value more = if t then map (trimmed is_blank) (parts comma value) ++ more else more

none-added : (t : Bool) (value : List ℕ) (o : Option (List ℕ)) (more : List (List ℕ)) → is_some (if t then Some value else o) ≡ false → (is_some o ≡ false → more ≡ []) → Added t value more ≡ []
none-added true value o more e h = let no : true ≡ false = e in cc
none-added false value o more e h = h e

pub none-named : (name : List ℕ) (headers : List Header) → is_some (value_of name headers) ≡ false → elements_of name headers ≡ []
none-named name [] e = refl
none-named name (h ∷ hs) e = none-added (same_name h.field name) h.value (value_of name hs) (elements_of name hs) e (λ k. none-named name hs k)

none-of : (xs ys : List (List ℕ)) → xs ++ ys ≡ [] → xs ≡ []
none-of [] ys k = refl
none-of (x ∷ xs) ys k = cc

some-added : (t : Bool) (value : List ℕ) (o : Option (List ℕ)) (more : List (List ℕ)) → is_some (if t then Some value else o) ≡ true → Added t value more ≡ [] → (is_some o ≡ true → more ≡ [] → ⊥) → ⊥
some-added true value o more e n h = parts-some value (parts comma value) (parts-are comma value) (none-of (map (trimmed is_blank) (parts comma value)) more n)
some-added false value o more e n h = h e n

pub some-named : (name : List ℕ) (headers : List Header) → is_some (value_of name headers) ≡ true → elements_of name headers ≡ [] → ⊥
some-named name [] e n = let no : false ≡ true = e in cc
some-named name (h ∷ hs) e n = some-added (same_name h.field name) h.value (value_of name hs) (elements_of name hs) e n (λ k m. some-named name hs k m)

-- the three ways
pub strict-uncoded : (lengths codings : List (List ℕ)) → codings ≡ [] → uncoded_length (one_length lengths) ≡ strict_length lengths codings
strict-uncoded lengths codings e = rw e refl

pub strict-both : (lengths codings : List (List ℕ)) → (lengths ≡ [] → ⊥) → (codings ≡ [] → ⊥) → Err Invalid ≡ strict_length lengths codings
strict-both [] codings h k = absurd (h refl)
strict-both (t ∷ ts) [] h k = absurd (k refl)
strict-both (t ∷ ts) (c ∷ cs) h k = refl

pub strict-coded : (lengths codings : List (List ℕ)) (t : Bool) → lengths ≡ [] → (codings ≡ [] → ⊥) → chunked_on false codings ≡ t → (if t then Ok None else Err Invalid) ≡ strict_length lengths codings
strict-coded lengths [] t e k h = absurd (k refl)
strict-coded lengths (c ∷ cs) t e k h = rw (e, ← h) (ap (λ b. if b then Ok None else Err Invalid) (last-coding c cs false))

-- a value has an element, so what stood before it is of no account
chunked-of : (was : Bool) (value : List ℕ) (ps : List (List ℕ)) → ArePartsOf comma value ps → chunked_on was (map (trimmed is_blank) ps) ≡ chunked_on false (map (trimmed is_blank) ps)
chunked-of was value [] h = elim h [ ]
chunked-of was value (p ∷ ps) h = refl

pub chunked-header : (was now : Bool) (name : List ℕ) (headers : List Header) (i : ℕ) (h : Header) → i < length headers → h ≡ get_or headers i h → same_name h.field name ≡ true → now ≡ chunked_on false (elements h.value)
    → chunked_on now (elements_of name (drop (i + 1) headers)) ≡ chunked_on was (elements_of name (drop i headers))
chunked-header was now name headers i h within is named e =
    let more = elements_of name (drop (i + 1) headers) in
    sym (header-added is_blank (chunked_on was) name headers i h within is named ∙ chunked-append was (elements h.value) more
    ∙ ap (λ b. chunked_on b more) (chunked-of was h.value (parts comma h.value) (parts-are comma h.value) ∙ sym e))
