-- The one length, from element to element and from header to header.
use Rattle.std.proofs.Common.{◌≡◌, refl, sym, ap, ◌∙◌, ℕ, ◌+◌, ◌<◌, Bool, true, false, List, [], ◌∷◌, ◌++◌, length, drop, get_or, Option, Some, None, Result, Ok, Err, eqb-true, arith}
use Rattle.std.specs.Prelude.{◌==◌, if◌then◌else◌}
use Rattle.std.specs.List.{list_all}
use Rattle.std.proofs.lemmas.Bool.{and_parts}
use Rattle.std.proofs.lemmas.List.Folds.{list_all-append}
use Rattle.tiny_http_text.specs.Bytes.{trimmed}
use Rattle.tiny_http_head.specs.declared.common.Header.{Header}
use Rattle.tiny_http_head.specs.declared.content_length.InvalidLength.{InvalidLength}
use Rattle.tiny_http_head.specs.Common.{same_name}
use Rattle.tiny_http_head.specs.Heads.{length_of}
use Rattle.tiny_http_head.specs.Lists.{elements_in, elements_by_name}
use Rattle.tiny_http_head.specs.ContentLength.{is_number, is_length, IsOneLength, all_are, one_length, lengths_after}
use Rattle.tiny_http_head.proofs.ListsLemmas.{IsAt, from_here, element-here, header-added}

abbrev Found : Type 0
Found = Result (Option ℕ) InvalidLength

err-no_ok : {G : Type 0} (e : InvalidLength) (n : Option ℕ) → ◌≡◌ {A = Found} (Err e) (Ok n) → G
err-no_ok e n h = cc

ok-no_err : {G : Type 0} (n : Option ℕ) (e : InvalidLength) → ◌≡◌ {A = Found} (Ok n) (Err e) → G
ok-no_err n e h = cc

same-ok : (m n : Option ℕ) → ◌≡◌ {A = Found} (Ok m) (Ok n) → m ≡ n
same-ok m n h = cc

same-number : (n : ℕ) → (n == n) ≡ true
same-number n = by (n == n) refl
  where
    by : (b : Bool) → (n == n) ≡ b → (n == n) ≡ true
    by true e = e
    by false e = grind (arith, e)

number-is : (m : ℕ) (o : Option ℕ) → is_number m o ≡ true → o ≡ Some m
number-is m None h = cc
number-is m (Some n) h = ap Some (eqb-true n m h)

-- elements that are one number
all-append : (n : ℕ) (xs ys : List (List ℕ)) (o : Option ℕ) → all_are (Some n) xs ≡ Ok o → all_are (Some n) (xs ++ ys) ≡ lengths_after o ys
all-append n xs ys o e = by (list_all (is_length n) xs) refl e
  where
    by : (b : Bool) → list_all (is_length n) xs ≡ b → ◌≡◌ {A = Found} (if b then Ok (Some n) else Err (record {})) (Ok o) → all_are (Some n) (xs ++ ys) ≡ lengths_after o ys
    by true h k = rw (list_all-append (is_length n) xs ys, h) (ap (λ (p : Option ℕ). lengths_after p ys) (same-ok (Some n) o k))
    by false h k = err-no_ok (record {}) o k

all-append_err : (n : ℕ) (xs ys : List (List ℕ)) (fault : InvalidLength) → all_are (Some n) xs ≡ Err fault → all_are (Some n) (xs ++ ys) ≡ Err fault
all-append_err n xs ys fault e = by (list_all (is_length n) xs) refl e
  where
    by : (b : Bool) → list_all (is_length n) xs ≡ b → ◌≡◌ {A = Found} (if b then Ok (Some n) else Err (record {})) (Err fault) → all_are (Some n) (xs ++ ys) ≡ Err fault
    by true h k = ok-no_err (Some n) fault k
    by false h k = rw (list_all-append (is_length n) xs ys, h) k

lengths-append : (found : Option ℕ) (xs ys : List (List ℕ)) (n : Option ℕ) → lengths_after found xs ≡ Ok n → lengths_after found (xs ++ ys) ≡ lengths_after n ys
lengths-append (Some m) xs ys n e = all-append m xs ys n e
lengths-append None [] ys n e = ap (λ (p : Option ℕ). lengths_after p ys) (same-ok None n e)
lengths-append None (x ∷ xs) ys n e = by (length_of x) e
  where
    by : (o : Option ℕ) → all_are o xs ≡ Ok n → all_are o (xs ++ ys) ≡ lengths_after n ys
    by None k = err-no_ok (record {}) n k
    by (Some m) k = all-append m xs ys n k

lengths-append_err : (found : Option ℕ) (xs ys : List (List ℕ)) (fault : InvalidLength) → lengths_after found xs ≡ Err fault → lengths_after found (xs ++ ys) ≡ Err fault
lengths-append_err (Some m) xs ys fault e = all-append_err m xs ys fault e
lengths-append_err None [] ys fault e = ok-no_err None fault e
lengths-append_err None (x ∷ xs) ys fault e = by (length_of x) e
  where
    by : (o : Option ℕ) → all_are o xs ≡ Err fault → all_are o (xs ++ ys) ≡ Err fault
    by None k = k
    by (Some m) k = all-append_err m xs ys fault k

-- and then none
pub nothing-after : (found : Option ℕ) → Ok found ≡ lengths_after found []
nothing-after None = refl
nothing-after (Some n) = refl

module _ (p : ℕ → Bool) where
  -- one element more
  pub lengths-step : (found now : Option ℕ) (texts : List (List ℕ)) (i : ℕ) (text : List ℕ) → IsAt texts i text → lengths_after found (trimmed p text ∷ []) ≡ Ok now
      → lengths_after now (from_here p texts (i + 1)) ≡ lengths_after found (from_here p texts i)
  lengths-step found now texts i text t e =
      sym (element-here p (lengths_after found) texts i text t ∙ lengths-append found (trimmed p text ∷ []) (from_here p texts (i + 1)) now e)

  pub lengths-stop : (found : Option ℕ) (fault : InvalidLength) (texts : List (List ℕ)) (i : ℕ) (text : List ℕ) → IsAt texts i text → lengths_after found (trimmed p text ∷ []) ≡ Err fault
      → Err fault ≡ lengths_after found (from_here p texts i)
  lengths-stop found fault texts i text t e =
      sym (element-here p (lengths_after found) texts i text t ∙ lengths-append_err found (trimmed p text ∷ []) (from_here p texts (i + 1)) fault e)

  -- one header more
  pub lengths-header : (found now : Option ℕ) (name : List ℕ) (headers : List Header) (i : ℕ) (h : Header) → i < length headers → h ≡ get_or headers i h → same_name h.field name ≡ true → lengths_after found (elements_in p h.value) ≡ Ok now
      → lengths_after now (elements_by_name p name (drop (i + 1) headers)) ≡ lengths_after found (elements_by_name p name (drop i headers))
  lengths-header found now name headers i h within is named e =
      let more = elements_by_name p name (drop (i + 1) headers) in
      sym (header-added p (lengths_after found) name headers i h within is named ∙ lengths-append found (elements_in p h.value) more now e)

  pub lengths-header_err : (found : Option ℕ) (fault : InvalidLength) (name : List ℕ) (headers : List Header) (i : ℕ) (h : Header) → i < length headers → h ≡ get_or headers i h → same_name h.field name ≡ true → lengths_after found (elements_in p h.value) ≡ Err fault
      → Err fault ≡ lengths_after found (elements_by_name p name (drop i headers))
  lengths-header_err found fault name headers i h within is named e =
      let more = elements_by_name p name (drop (i + 1) headers) in
      sym (header-added p (lengths_after found) name headers i h within is named ∙ lengths-append_err found (elements_in p h.value) more fault e)

-- the length that is computed is the one length, and the only one
pub one-is : (lengths : List (List ℕ)) (n : Option ℕ) → one_length lengths ≡ Ok n → IsOneLength lengths n
one-is [] n e = sym (same-ok None n e)
one-is (t ∷ ts) n e = by (length_of t) refl e
  where
    all : (m : ℕ) → length_of t ≡ Some m → (b : Bool) → list_all (is_length m) ts ≡ b → ◌≡◌ {A = Found} (if b then Ok (Some m) else Err (record {})) (Ok n) → IsOneLength (t ∷ ts) n
    all m is true h k = (m, sym (same-ok (Some m) n k), rw (is, same-number m, h) refl)
    all m is false h k = err-no_ok (record {}) n k

    by : (o : Option ℕ) → length_of t ≡ o → all_are o ts ≡ Ok n → IsOneLength (t ∷ ts) n
    by None is k = err-no_ok (record {}) n k
    by (Some m) is k = all m is (list_all (is_length m) ts) refl k

pub one-reads : (lengths : List (List ℕ)) (n : Option ℕ) → IsOneLength lengths n → one_length lengths ≡ Ok n
one-reads [] n h = ap Ok (sym h)
one-reads (t ∷ ts) n h =
    let k = and_parts (is_length h.0 t) (list_all (is_length h.0) ts) h.2 in
    rw (number-is h.0 (length_of t) k.0, k.1) (ap Ok (sym h.1))
