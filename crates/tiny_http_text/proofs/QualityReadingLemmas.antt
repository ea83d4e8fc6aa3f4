-- Texts cut at ASCII bytes, and the steps that make up the reading of a list of qualities.
use Rattle.std.proofs.Common.{◌≡◌, refl, sym, ap, ◌∙◌, subst, ℕ, zero, suc, ◌+◌, ◌-◌, ◌*◌, ◌^◌, ◌<◌, ◌≤◌, true, false, not, ◌&&◌, inl, inr, List, [], ◌∷◌, ◌++◌, length, drop, get_or, Option, Some, None, IfSome, Bor, arith, eq-eqb, eqb-true, ◌⊎◌, length-append, ltb, lt-ltb, ltb-true}
use Rattle.std.specs.Prelude.{◌==◌, ◌≢◌, nat_le, option_map, unwrap_or, codes, IfNone, if◌then◌else◌}
use Rattle.std.specs.List.{list_all}
use Rattle.std.specs.Str.{IsUtf8, IsCharBoundary, all_ascii_digits}
use Rattle.std.specs.Str.Parse.{IsNumeral, digits_value}
use Rattle.std.specs.Option.{SomeIff}
use Rattle.std.proofs.Math.Seq.{drop-append-add, get_or-append_seam}
use Rattle.std.proofs.lemmas.Bool.{and_parts, not-true}
use Rattle.std.proofs.lemmas.Bool.Decides.{nat_tests}
use Rattle.std.proofs.lemmas.Str.{IsUtf8-drop, IsCharBoundary-after_ascii}
use Rattle.std.proofs.lemmas.Str.Pattern.{IsSplitOnceResult, split_parts}
use Rattle.std.proofs.lemmas.Str.Parse.{IsNumeralModel, numerals_by_value, tells_all_ascii_digits, digits_value_short}
use Rattle.std.proofs.lemmas.Int.Digits.{digits_value-lt}
use Rattle.tiny_http_text.specs.Bytes.{is_blank, HasNo, parts, point, semicolon, trimmed}
use Rattle.tiny_http_text.specs.QualityReading.{cut, short_number, thousandths, both, quality, behind_q, parameter_quality, first_quality, element}
use Rattle.tiny_http_text.proofs.BytesLemmas.{parts-word, parts-last}
use Rattle.tiny_http_text.proofs.BytesLemmas.{not_true, none-from}

pub has-no : (c : ℕ) (xs : List ℕ) → ((i : ℕ) → i < length xs → get_or xs i 0 ≢ c) → HasNo c xs
has-no c [] h = refl
has-no c (b ∷ bs) h =
    let first : (b == c) ≡ false = not_true (b == c) (λ e. h 0 (omega arith) (eqb-true b c e)) in
    let later : HasNo c bs = has-no c bs (λ i l. h (suc i) (omega (arith, l))) in
    rw (first, later) refl

abbrev Cut : Type 0
Cut = Option (Bor (List ℕ) × Bor (List ℕ))

-- where `split_once` cuts
pub cut-some : (c : ℕ) (bs : List ℕ) (r : Cut) → c < 128 → IsSplitOnceResult c bs r → IfSome r (λ x. (bs ≡ x.0.now ++ c ∷ x.1.now) × HasNo c x.0.now)
cut-some c bs None l h = tt
cut-some c bs (Some x) l h = let p = split_parts c bs (Some x) h l in (p.0, has-no c x.0.now p.1)

pub cut-none : (c : ℕ) (bs : List ℕ) (r : Cut) → c < 128 → IsSplitOnceResult c bs r → IfNone r (HasNo c bs)
cut-none c bs None l h = has-no c bs (split_parts c bs None h l)
cut-none c bs (Some x) l h = tt

-- a numeral is one digit or more
pub numerals : IsNumeralModel (λ ds. all_ascii_digits ds ≡ true) (digits_value 10)
numerals = numerals_by_value _ tells_all_ascii_digits

-- one to six digits
pub short_number-long : (ds : List ℕ) → 6 < length ds → None ≡ short_number ds
unfolding short_number
short_number-long ds l =
    let long : nat_le (length ds) 6 ≡ false = grind (arith, nat_tests) in
    rw long (elim (ltb 0 (length ds)) as (λ v. None ≡ (if v && false then Some (digits_value 10 ds) else None)) [ true ↦ refl | false ↦ refl ])

pub short_number-short : (ds : List ℕ) (r : Option ℕ) → length ds ≤ 6 → SomeIff r (IsNumeral 10 ds × (digits_value 10 ds < 2 ^ 32)) (digits_value 10 ds) → r ≡ short_number ds
unfolding short_number
short_number-short ds (Some n) l h =
    let some : ltb 0 (length ds) ≡ true = lt-ltb 0 (length ds) h.0.0.0 in
    let short : nat_le (length ds) 6 ≡ true = grind (arith, nat_tests) in
    let digits : all_ascii_digits ds ≡ true = numerals.from ds h.0.0.1 in
    rw (some, short, digits) (ap Some h.1)
short_number-short ds None l h = none-from _ _ (λ t.
    let first = and_parts _ _ t in
    let digits = (and_parts _ _ first.1).1 in
    let small = digits_value_short numerals ds 6 digits l in
    h ((ltb-true 0 (length ds) first.0, numerals.to ds digits), omega (arith, small)))

pub short_number-bound : (ds : List ℕ) (r : Option ℕ) → length ds ≤ 6 → SomeIff r (IsNumeral 10 ds × (digits_value 10 ds < 2 ^ 32)) (digits_value 10 ds) → IfSome r (λ n. (n < 10 ^ length ds) × (n < 1000000))
short_number-bound ds None l h = tt
short_number-bound ds (Some n) l h =
    let first : digits_value 10 ds < 10 ^ length ds = digits_value-lt 10 ds h.0.0.1 in
    let second : digits_value 10 ds < 10 ^ 6 = digits_value_short numerals ds 6 (numerals.from ds h.0.0.1) l in
    (subst (λ k. k < 10 ^ length ds) (sym h.1) first, subst (λ k. k < 1000000) (sym h.1) second)

-- up to three digits after a point
pub no-thousandths : (ds : List ℕ) → length ds ≡ 0 → Some 0 ≡ thousandths ds
unfolding thousandths
no-thousandths [] h = refl
no-thousandths (d ∷ ds) h = absurd (omega (arith, h))

pub thousandths-long : (ds : List ℕ) → 3 < length ds → None ≡ thousandths ds
unfolding thousandths
thousandths-long ds l =
    let long : nat_le (length ds) 3 ≡ false = grind (arith, nat_tests) in
    rw long refl

pub scaled : (ds : List ℕ) (o : Option ℕ) → o ≡ short_number ds → 0 < length ds → length ds ≤ 3 → option_map (λ n. n * 10 ^ (3 - length ds)) o ≡ thousandths ds
unfolding short_number thousandths
scaled ds o e some l =
    let first : ltb 0 (length ds) ≡ true = lt-ltb 0 (length ds) some in
    let six : nat_le (length ds) 6 ≡ true = grind (arith, nat_tests) in
    let three : nat_le (length ds) 3 ≡ true = grind (arith, nat_tests) in
    let f : Option ℕ → Option ℕ = λ x. option_map (λ n. n * 10 ^ (3 - length ds)) x in
    ap f e ∙ rw (first, six, three) (elim (all_ascii_digits ds) as (λ v. f (if v then Some (digits_value 10 ds) else None) ≡ (if v then Some (digits_value 10 ds * 10 ^ (3 - length ds)) else None)) [ true ↦ refl | false ↦ refl ])

one-to-three : (n : ℕ) → 1 ≤ n → n ≤ 3 → (n ≡ 1) ⊎ (n ≡ 2) ⊎ (n ≡ 3)
one-to-three zero s l = absurd (omega arith)
one-to-three (suc zero) s l = inl refl
one-to-three (suc (suc zero)) s l = inr (inl refl)
one-to-three (suc (suc (suc zero))) s l = inr (inr refl)
one-to-three (suc (suc (suc (suc n)))) s l = absurd (omega arith)

pub scaled-bound : (n k : ℕ) → 1 ≤ k → k ≤ 3 → n < 10 ^ k → n * 10 ^ (3 - k) < 1000
scaled-bound n k s l h = elim (one-to-three k s l) [
  | inl e ↦ rw e (let g : n < 10 = rw e at h in omega (arith, g))
  | inr (inl e) ↦ rw e (let g : n < 100 = rw e at h in omega (arith, g))
  | inr (inr e) ↦ rw e (let g : n < 1000 = rw e at h in omega (arith, g))
]

-- a quality's text, cut at its point
cut-without : (c : ℕ) (xs : List ℕ) → HasNo c xs → cut c xs ≡ None
cut-without c [] h = refl
cut-without c (b ∷ bs) h =
    let k = and_parts (not (b == c)) (list_all (λ x. not (x == c)) bs) h in
    rw (not-true (b == c) k.0, cut-without c bs k.1) refl

cut-with : (c : ℕ) (xs w f : List ℕ) → xs ≡ w ++ c ∷ f → HasNo c w → cut c xs ≡ Some (w, f)
cut-with c xs [] f e h = rw (e, eq-eqb c c refl) refl
cut-with c xs (b ∷ bs) f e h =
    let k = and_parts (not (b == c)) (list_all (λ x. not (x == c)) bs) h in
    rw (e, not-true (b == c) k.0, cut-with c (bs ++ c ∷ f) bs f refl k.1) refl

pub quality-whole : (text : List ℕ) → HasNo point text → quality text ≡ both (short_number text) (Some 0)
unfolding quality
quality-whole text h = rw (cut-without point text h) refl

pub quality-parted : (text w f : List ℕ) → text ≡ w ++ point ∷ f → HasNo point w → quality text ≡ both (short_number w) (thousandths f)
unfolding quality
quality-parted text w f e h = rw (cut-with point text w f e h) refl

-- what follows q=
pub not-q : (core : List ℕ) → ((rest : List ℕ) → core ≢ codes "q=" ++ rest) → None ≡ behind_q core
not-q [] h = refl
not-q (a ∷ []) h = refl
not-q (a ∷ b ∷ rest) h =
    let e : (a == 113 && b == 61) ≡ false = not_true (a == 113 && b == 61) (λ t.
    let k = and_parts (a == 113) (b == 61) t in
    h rest (ap (λ (x : ℕ). x ∷ b ∷ rest) (eqb-true a 113 k.0) ∙ ap (λ (x : ℕ). 113 ∷ x ∷ rest) (eqb-true b 61 k.1)))
    in
    rw e refl

pub is-q : (core rest : List ℕ) → core ≡ codes "q=" ++ rest → behind_q core ≡ quality (trimmed is_blank rest)
is-q core rest e = rw e refl

-- the first parameter that gives a quality
pub first-found : (text w rest : List ℕ) (q : ℕ) → text ≡ w ++ semicolon ∷ rest → HasNo semicolon w → Some q ≡ parameter_quality w → q ≡ first_quality (parts semicolon text)
unfolding first_quality
first-found text w rest q e h p = rw (e, parts-word semicolon w rest h, sym p) refl

pub first-later : (text w rest : List ℕ) → text ≡ w ++ semicolon ∷ rest → HasNo semicolon w → None ≡ parameter_quality w → first_quality (parts semicolon rest) ≡ first_quality (parts semicolon text)
unfolding first_quality
first-later text w rest e h p = rw (e, parts-word semicolon w rest h, sym p) refl

pub first-last : (text : List ℕ) → HasNo semicolon text → unwrap_or (parameter_quality text) 1000 ≡ first_quality (parts semicolon text)
unfolding first_quality
first-last text h = rw (parts-last semicolon text h) refl

-- an element without parameters, and with some
pub element-bare : (text : List ℕ) → HasNo semicolon text → ◌≡◌ {A = List ℕ × ℕ} (trimmed is_blank text, 1000) (element text)
unfolding element first_quality
element-bare text h = rw (parts-last semicolon text h) refl

pub element-parted : (text w rest : List ℕ) → text ≡ w ++ semicolon ∷ rest → HasNo semicolon w → ◌≡◌ {A = List ℕ × ℕ} (trimmed is_blank w, first_quality (parts semicolon rest)) (element text)
unfolding element
element-parted text w rest e h = rw (e, parts-word semicolon w rest h) refl

-- after an ASCII byte a text is a text
pub utf8-after : (c : ℕ) (text w rest : List ℕ) → c < 128 → text ≡ w ++ c ∷ rest → IsUtf8 text → IsUtf8 rest
utf8-after c text w rest l e u =
    let long : length text ≡ length w + length (c ∷ rest) = ap length e ∙ length-append w (c ∷ rest) in
    let low : get_or text (length w) 0 < 128 = rw (e, get_or-append_seam w c rest 0) l in
    let cut : IsCharBoundary text (length w + 1) = IsCharBoundary-after_ascii text (length w) u (omega (arith, long)) low in
    let is : drop (length w + 1) text ≡ rest = ap (drop (length w + 1)) e ∙ drop-append-add w (c ∷ rest) 1 in
    subst IsUtf8 is (IsUtf8-drop text (length w + 1) u cut)
