-- Lists of qualities, computed, are those of the definitions, and there is one of each value.
use Rattle.std.proofs.Common.{◌≡◌, refl, sym, ap, ◌∙◌, subst, ℕ, ◌+◌, ◌-◌, ◌*◌, ◌^◌, ◌≤◌, Bool, true, false, ◌&&◌, inl, inr, List, [], ◌∷◌, ◌++◌, length, map, Option, Some, None, arith, append_assoc, eqb-true, ltb, lt-ltb, ltb-true, codes}
use Rattle.std.specs.Prelude.{◌==◌, nat_le, option_map, unwrap_or, if◌then◌else◌}
use Rattle.std.specs.Str.Parse.{AllDigits, digits_value}
use Rattle.std.proofs.lemmas.Bool.{and_parts}
use Rattle.std.proofs.lemmas.Bool.Decides.{nat_tests}
use Rattle.std.proofs.lemmas.Str.Parse.{IsNumeralModel, numerals_by_value, tells_digits, not_in_digits}
use Rattle.tiny_http_text.specs.Bytes.{is_blank, HasNo, parts, comma, point, semicolon, skip_while, trimmed}
use Rattle.tiny_http_text.specs.Qualities.{IsQuality, GivesQuality, FirstQuality, Element, Elements, ListsQualities}
use Rattle.tiny_http_text.specs.QualityReading.{cut, short_number, thousandths, both, quality_cut, quality, behind_q, parameter_quality, first_quality, element_parts, element, qualities}
use Rattle.tiny_http_text.proofs.BytesLemmas.{front, trims-is, trims-one, skip-blanks, ArePartsOf, parts-are}
use Rattle.tiny_http_text.proofs.QualityReadingLemmas.{numerals, has-no, quality-whole, quality-parted}

plain : IsNumeralModel (AllDigits 10) (digits_value 10)
plain = numerals_by_value (AllDigits 10) tells_digits

if-some : (b : Bool) (v n : ℕ) → (if b then Some v else None) ≡ Some n → (b ≡ true) × (n ≡ v)
if-some true v n h = (refl, cc)
if-some false v n h = cc

both-some : (a b : Option ℕ) (q : ℕ) → both a b ≡ Some q → (x : ℕ) × (y : ℕ) × (a ≡ Some x) × (b ≡ Some y) × (q ≡ x * 1000 + y)
both-some None b q h = cc
both-some (Some x) None q h = cc
both-some (Some x) (Some y) q h = (x, y, refl, refl, cc)

-- the digits before the point
short_number-is : (ds : List ℕ) (n : ℕ) → short_number ds ≡ Some n → (1 ≤ length ds) × (length ds ≤ 6) × AllDigits 10 ds × (n ≡ digits_value 10 ds)
unfolding short_number
short_number-is ds n h =
    let k = if-some _ _ n h in
    let a = and_parts _ _ k.0 in
    let b = and_parts _ _ a.1 in
    let some = ltb-true 0 (length ds) a.0 in
    let few : nat_le (length ds) 6 ≡ true = b.0 in
    (omega (arith, some), grind (arith, nat_tests), numerals.to ds b.1, k.1)

short_number-one : (ds : List ℕ) → 1 ≤ length ds → length ds ≤ 6 → AllDigits 10 ds → short_number ds ≡ Some (digits_value 10 ds)
unfolding short_number
short_number-one ds some l d =
    let first : ltb 0 (length ds) ≡ true = lt-ltb 0 (length ds) some in
    let six : nat_le (length ds) 6 ≡ true = grind (arith, nat_tests) in
    rw (first, six, numerals.from ds d) refl

-- and after it
thousandths-is : (ds : List ℕ) (n : ℕ) → thousandths ds ≡ Some n → (length ds ≤ 3) × AllDigits 10 ds × (n ≡ digits_value 10 ds * 10 ^ (3 - length ds))
unfolding thousandths
thousandths-is ds n h =
    let k = if-some _ _ n h in
    let a = and_parts _ _ k.0 in
    let few : nat_le (length ds) 3 ≡ true = a.0 in
    (grind (arith, nat_tests), numerals.to ds a.1, k.1)

thousandths-one : (ds : List ℕ) → length ds ≤ 3 → AllDigits 10 ds → thousandths ds ≡ Some (digits_value 10 ds * 10 ^ (3 - length ds))
unfolding thousandths
thousandths-one ds l d =
    let three : nat_le (length ds) 3 ≡ true = grind (arith, nat_tests) in
    rw (three, numerals.from ds d) refl

cut-step : (c b : ℕ) (bs : List ℕ) (t : Bool) (o : Option (List ℕ × List ℕ)) (r : List ℕ × List ℕ) → (b == c) ≡ t → ((s : List ℕ × List ℕ) → o ≡ Some s → bs ≡ s.0 ++ c ∷ s.1)
    → (if t then Some ([], bs) else option_map (λ s. (b ∷ s.0, s.1)) o) ≡ Some r → b ∷ bs ≡ r.0 ++ c ∷ r.1
cut-step c b bs true o r e go h =
    let P : List ℕ × List ℕ → Type 0 = λ s. b ∷ bs ≡ s.0 ++ c ∷ s.1 in
    let same : ([], bs) ≡ r = cc in
    subst P same (ap (λ x. x ∷ bs) (eqb-true b c e))
cut-step c b bs false None r e go h = cc
cut-step c b bs false (Some s) r e go h =
    let P : List ℕ × List ℕ → Type 0 = λ s. b ∷ bs ≡ s.0 ++ c ∷ s.1 in
    let same : (b ∷ s.0, s.1) ≡ r = cc in
    subst P same (ap (λ x. b ∷ x) (go s refl))

cut-is : (c : ℕ) (xs : List ℕ) (r : List ℕ × List ℕ) → cut c xs ≡ Some r → xs ≡ r.0 ++ c ∷ r.1
cut-is c [] r h = cc
cut-is c (b ∷ bs) r h = cut-step c b bs (b == c) (cut c bs) r refl (cut-is c bs) h

quality-cut-is : (text : List ℕ) (o : Option (List ℕ × List ℕ)) (q : ℕ) → cut point text ≡ o → quality_cut text o ≡ Some q → IsQuality text q
quality-cut-is text None q e h =
    let b = both-some (short_number text) (Some 0) q h in
    let u = short_number-is text b.0 b.2 in
    let zero : 0 ≡ b.1 = cc in
    record {
      whole = text;
      fraction = [];
      joins = inl (refl, refl);
      whole_digits = u.2;
      fraction_digits = tt;
      one_or_more = u.0;
      at_most_six = u.1;
      at_most_three = omega arith;
      value = b.4 ∙ ap (λ n. n * 1000 + b.1) u.3 ∙ ap (λ y. digits_value 10 text * 1000 + y) (sym zero);
    }
quality-cut-is text (Some r) q e h =
    let b = both-some (short_number r.0) (thousandths r.1) q h in
    let u = short_number-is r.0 b.0 b.2 in
    let t = thousandths-is r.1 b.1 b.3 in
    record {
      whole = r.0;
      fraction = r.1;
      joins = inr (cut-is point text r e);
      whole_digits = u.2;
      fraction_digits = t.1;
      one_or_more = u.0;
      at_most_six = u.1;
      at_most_three = t.0;
      value = b.4 ∙ ap (λ n. n * 1000 + b.1) u.3 ∙ ap (λ y. digits_value 10 r.0 * 1000 + y) t.2;
    }

quality-is : (text : List ℕ) (q : ℕ) → quality text ≡ Some q → IsQuality text q
unfolding quality
quality-is text q h = quality-cut-is text (cut point text) q refl h

no-point : (ds : List ℕ) → AllDigits 10 ds → HasNo point ds
no-point ds d = has-no point ds (not_in_digits plain ds point d (λ r. let low : 48 ≤ 46 = r.0 in omega arith))

quality-one : (text : List ℕ) (q : ℕ) → IsQuality text q → quality text ≡ Some q
quality-one text q i =
    let u = short_number-one i.whole i.one_or_more i.at_most_six i.whole_digits in
    let t = thousandths-one i.fraction i.at_most_three i.fraction_digits in
    let n = digits_value 10 i.whole in
    elim i.joins [
      | inl j ↦
          let none : 0 ≡ digits_value 10 i.fraction * 10 ^ (3 - length i.fraction) = rw j.1 refl in
          ap quality j.0 ∙ quality-whole i.whole (no-point i.whole i.whole_digits) ∙ ap (λ (o : Option ℕ). both o (Some 0)) u
          ∙ ap (λ y. Some (n * 1000 + y)) none ∙ ap Some (sym i.value)
      | inr j ↦
          quality-parted text i.whole i.fraction j (no-point i.whole i.whole_digits) ∙ ap (λ (o : Option ℕ). both o (thousandths i.fraction)) u
          ∙ ap (λ (o : Option ℕ). both (Some n) o) t ∙ ap Some (sym i.value)
    ]

-- a parameter
behind-step : (a b : ℕ) (rest : List ℕ) (q : ℕ) (t : Bool) → (a == 113 && b == 61) ≡ t → (if t then quality (trimmed is_blank rest) else None) ≡ Some q
    → (more : List ℕ) × (a ∷ b ∷ rest ≡ codes "q=" ++ more) × (quality (trimmed is_blank more) ≡ Some q)
behind-step a b rest q true e h =
    let k = and_parts (a == 113) (b == 61) e in
    (rest, ap (λ (x : ℕ). x ∷ b ∷ rest) (eqb-true a 113 k.0) ∙ ap (λ (x : ℕ). 113 ∷ x ∷ rest) (eqb-true b 61 k.1), h)
behind-step a b rest q false e h = cc

behind-is : (core : List ℕ) (q : ℕ) → behind_q core ≡ Some q → (rest : List ℕ) × (core ≡ codes "q=" ++ rest) × (quality (trimmed is_blank rest) ≡ Some q)
behind-is [] q h = cc
behind-is (a ∷ []) q h = cc
behind-is (a ∷ b ∷ rest) q h = behind-step a b rest q (a == 113 && b == 61) refl h

gives-is : (parameter : List ℕ) (q : ℕ) → parameter_quality parameter ≡ Some q → GivesQuality parameter q
unfolding parameter_quality
gives-is parameter q h =
    let f = front is_blank parameter in
    let b = behind-is (skip_while is_blank parameter) q h in
    record {
      before = f.before;
      padded = b.0;
      text = trimmed is_blank b.0;
      joins = f.joins ∙ ap (λ x. f.before ++ x) b.1 ∙ sym (append_assoc {A = ℕ} f.before (codes "q=") b.0);
      blank_before = f.blank;
      trims = trims-is is_blank b.0;
      quality = quality-is (trimmed is_blank b.0) q b.2;
    }

gives-one : (parameter : List ℕ) (q : ℕ) → GivesQuality parameter q → parameter_quality parameter ≡ Some q
unfolding parameter_quality
gives-one parameter q g =
    ap (λ x. behind_q (skip_while is_blank x)) (g.joins ∙ append_assoc {A = ℕ} g.before (codes "q=") g.padded)
    ∙ ap behind_q (skip-blanks is_blank g.before (codes "q=" ++ g.padded) g.blank_before)
    ∙ ap quality (trims-one is_blank g.padded g.text g.trims) ∙ quality-one g.text q g.quality

-- the first that gives a quality
first-step : (p : List ℕ) (ps : List (List ℕ)) (o : Option ℕ) → parameter_quality p ≡ o → FirstQuality ps (first_quality ps) → FirstQuality (p ∷ ps) (unwrap_or o (first_quality ps))
first-step p ps (Some q) e h = inl (gives-is p q e)
first-step p ps None e h = inr ((λ n g. let no : None ≡ Some n = sym e ∙ gives-one p n g in cc), h)

pub first-is : (ps : List (List ℕ)) → FirstQuality ps (first_quality ps)
unfolding first_quality
first-is [] = refl
first-is (p ∷ ps) = first-step p ps (parameter_quality p) refl (first-is ps)

first-same : (p : List ℕ) (ps : List (List ℕ)) (q : ℕ) (o : Option ℕ) → parameter_quality p ≡ o → (FirstQuality ps q → q ≡ first_quality ps) → FirstQuality (p ∷ ps) q → q ≡ unwrap_or o (first_quality ps)
first-same p ps q o e go (inl g) = ap (λ (r : Option ℕ). unwrap_or r (first_quality ps)) (sym (gives-one p q g) ∙ e)
first-same p ps q (Some n) e go (inr h) = absurd (h.0 n (gives-is p n e))
first-same p ps q None e go (inr h) = go h.1

pub first-one : (ps : List (List ℕ)) (q : ℕ) → FirstQuality ps q → q ≡ first_quality ps
unfolding first_quality
first-one [] q h = h
first-one (p ∷ ps) q h = first-same p ps q (parameter_quality p) refl (first-one ps q) h

-- an element
element-step : (text : List ℕ) (ps : List (List ℕ)) → parts semicolon text ≡ ps → ArePartsOf semicolon text ps → Element text (element_parts ps).0 (element_parts ps).1
element-step text [] e h = absurd h
element-step text (w ∷ ws) e h = record { padded = w; parameters = ws; splits = e; trims = trims-is is_blank w; quality = first-is ws }

pub element-is : (text : List ℕ) → Element text (element text).0 (element text).1
unfolding element
element-is text = element-step text (parts semicolon text) refl (parts-are semicolon text)

element-one : (text : List ℕ) (e : List ℕ × ℕ) → Element text e.0 e.1 → e ≡ element text
unfolding element
element-one text e h =
    let pair : List ℕ → ℕ → List ℕ × ℕ = λ name q. (name, q) in
    ap (λ name. pair name e.1) (sym (trims-one is_blank h.padded e.0 h.trims)) ∙ ap (pair _) (first-one h.parameters e.1 h.quality) ∙ ap element_parts (sym h.splits)

-- all of them
elements-are : (texts : List (List ℕ)) → Elements texts (map element texts)
elements-are [] = tt
elements-are (t ∷ ts) = (element-is t, elements-are ts)

elements-one : (texts : List (List ℕ)) (es : List (List ℕ × ℕ)) → Elements texts es → es ≡ map element texts
elements-one [] [] h = refl
elements-one [] (e ∷ es) h = absurd h
elements-one (t ∷ ts) [] h = absurd h
elements-one (t ∷ ts) (e ∷ es) h = ap (λ x. x ∷ es) (element-one t e h.0) ∙ ap (λ xs. element t ∷ xs) (elements-one ts es h.1)

pub lists-is : (value : List ℕ) → ListsQualities value (qualities value)
unfolding qualities
lists-is value = elements-are (parts comma value)

pub lists-one : (value : List ℕ) (list : List (List ℕ × ℕ)) → ListsQualities value list → list ≡ qualities value
unfolding qualities
lists-one value list h = elements-one (parts comma value) list h
