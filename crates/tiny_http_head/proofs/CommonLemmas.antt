-- Names in lower case are equal where they are the same but for case; a header's text is that header.
use Rattle.std.proofs.Common.{◌≡◌, refl, sym, ap, ◌∙◌, ℕ, ◌+◌, ◌<◌, ◌≤◌, inl, inr, ◌⊎◌, List, [], ◌∷◌, ◌++◌, map, Some, arith, append_assoc, append-nil, codes}
use Rattle.std.specs.Char.{to_ascii_lowercase}
use Rattle.std.proofs.lemmas.Bool.{cases_lt}
use Rattle.std.proofs.lemmas.Str.Ascii.{lowercase_is}
use Rattle.std.proofs.lemmas.List.Folds.{list_all-append}
use Rattle.tiny_http_head.specs.declared.common.Header.{Header}
use Rattle.tiny_http_text.specs.Bytes.{is_ascii, AreAscii, HasNo, IsTrimmed, IsWord, colon}
use Rattle.tiny_http_head.specs.Common.{lowercase, IsSameLetter, IsSameButForCase, header_text}
use Rattle.tiny_http_head.specs.Heads.{IsHeader}
use Rattle.tiny_http_head.proofs.HeadsLemmas.{header-line-one}

-- a letter in upper case, or another byte
abbrev IsUpper : ℕ → Type 0
IsUpper a = (65 ≤ a) × (a ≤ 90) × (to_ascii_lowercase a ≡ a + 32)

abbrev IsPlain : ℕ → Type 0
IsPlain a = (to_ascii_lowercase a ≡ a) × ((a < 65) ⊎ (90 < a))

upper-or-plain : (a : ℕ) → IsUpper a ⊎ IsPlain a
upper-or-plain a =
    let l = lowercase_is a in
    elim (cases_lt a 65) [
      | inl low ↦ inr (l.1 low, inl low)
      | inr high ↦ elim (cases_lt a 91) [
        | inl low ↦ inl (high, omega (arith, low), l.0 (high, omega (arith, low)))
        | inr past ↦ inr (l.2 (omega (arith, past)), inr (omega (arith, past)))
      ]
    ]

letters-from : (a b : ℕ) → to_ascii_lowercase a ≡ to_ascii_lowercase b → IsUpper a ⊎ IsPlain a → IsUpper b ⊎ IsPlain b → IsSameLetter a b
letters-from a b e (inl u) (inl v) = let same : a + 32 ≡ b + 32 = sym u.2 ∙ e ∙ v.2 in inl (omega (arith, same))
letters-from a b e (inl u) (inr v) = inr (inl (u.0, u.1, sym v.0 ∙ sym e ∙ u.2))
letters-from a b e (inr u) (inl v) = inr (inr (v.0, v.1, sym u.0 ∙ e ∙ v.2))
letters-from a b e (inr u) (inr v) = inl (sym u.0 ∙ e ∙ v.0)

lower-of : (a : ℕ) → 65 ≤ a → a ≤ 90 → to_ascii_lowercase (a + 32) ≡ to_ascii_lowercase a
lower-of a low high = (lowercase_is (a + 32)).2 (omega (arith, low)) ∙ sym ((lowercase_is a).0 (low, high))

letters-to : (a b : ℕ) → IsSameLetter a b → to_ascii_lowercase a ≡ to_ascii_lowercase b
letters-to a b (inl e) = ap to_ascii_lowercase e
letters-to a b (inr (inl u)) = sym (ap to_ascii_lowercase u.2 ∙ lower-of a u.0 u.1)
letters-to a b (inr (inr v)) = ap to_ascii_lowercase v.2 ∙ lower-of b v.0 v.1

pub names-from : (a b : List ℕ) → lowercase a ≡ lowercase b → IsSameButForCase a b
names-from [] [] e = tt
names-from [] (b ∷ more) e = cc
names-from (a ∷ rest) [] e = cc
names-from (a ∷ rest) (b ∷ more) e =
    let first : to_ascii_lowercase a ≡ to_ascii_lowercase b = cc in
    let later : lowercase rest ≡ lowercase more = cc in
    (letters-from a b first (upper-or-plain a) (upper-or-plain b), names-from rest more later)

pub names-to : (a b : List ℕ) → IsSameButForCase a b → lowercase a ≡ lowercase b
names-to [] [] h = refl
names-to [] (b ∷ more) h = absurd h
names-to (a ∷ rest) [] h = absurd h
names-to (a ∷ rest) (b ∷ more) h = ap (λ x. x ∷ map to_ascii_lowercase rest) (letters-to a b h.0) ∙ ap (λ xs. to_ascii_lowercase b ∷ xs) (names-to rest more h.1)

-- a header's text
text-ascii : (a b : List ℕ) → AreAscii a → AreAscii b → AreAscii (a ++ b)
text-ascii a b h k = rw (list_all-append is_ascii a b, h, k) refl

pub text-back : (h : Header) → IsWord h.field → HasNo colon h.field → AreAscii h.value → IsTrimmed h.value → IsHeader (header_text h) h
text-back h word no_colon ascii trimmed =
    let joins : header_text h ≡ h.field ++ colon ∷ 32 ∷ h.value = append_assoc {A = ℕ} h.field (codes ": ") h.value in (
      text-ascii (h.field ++ codes ": ") h.value (text-ascii h.field (codes ": ") word.0 refl) ascii,
      record {
        padded = 32 ∷ h.value;
        joins = joins;
        no_blank = word.1;
        no_colon = no_colon;
        trims = record {
          before = 32 ∷ [];
          after = [];
          joins = sym (append-nil (32 ∷ h.value));
          blank_before = refl;
          blank_after = refl;
          bare_front = trimmed.0;
          bare_end = trimmed.1;
        };
      },
    )

pub one-header : (text : List ℕ) (h k : Header) → IsHeader text h → IsHeader text k → h ≡ k
one-header text h k i j =
    let same : Some h ≡ Some k = sym (header-line-one text h.field h.value i.1) ∙ header-line-one text k.field k.value j.1 in
    cc
