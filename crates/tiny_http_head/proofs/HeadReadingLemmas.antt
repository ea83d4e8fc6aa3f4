-- How the parsers' steps make up the readings of the definitions.
use Rattle.std.proofs.Common.{◌≡◌, refl, sym, ap, ◌∙◌, ℕ, true, false, not, List, [], ◌∷◌, ◌++◌, Option, Some, None, Result, Ok, Err}
use Rattle.std.specs.Prelude.{◌==◌, IsSome, OnErr}
use Rattle.std.specs.List.{list_all, list_any}
use Rattle.std.proofs.lemmas.Bool.{and_parts, not-true}
use Rattle.tiny_http_text.specs.Bytes.{HasNo, is_blank, parts, space, colon, trimmed}
use Rattle.tiny_http_head.specs.HeadReading.{three_parts, request_line, header_line, is_colon, HasParts}
use Rattle.tiny_http_text.proofs.BytesLemmas.{trims-is, parts-word, parts-last}
use Rattle.tiny_http_text.proofs.BytesTrimming.{ascii-trimmed, ascii-cut}
use Rattle.tiny_http_head.proofs.HeadsLemmas.{take-front, any-front, header-line-one}
use Rattle.tiny_http_head.specs.declared.common.Header.{Header}

-- a text of one part, or of two, is no request line
pub one-part : (text core : List ℕ) → core ≡ trimmed is_blank text → HasNo space core → request_line text ≡ None
one-part text core e h = ap (λ t. three_parts (parts space t)) (sym e) ∙ ap three_parts (parts-last space core h)

pub two-parts : (text core m rest : List ℕ) → core ≡ trimmed is_blank text → core ≡ m ++ space ∷ rest → HasNo space m → HasNo space rest → request_line text ≡ None
two-parts text core m rest e j h k = ap (λ t. three_parts (parts space t)) (sym e ∙ j) ∙ ap three_parts (parts-word space m rest h ∙ ap (λ ps. m ∷ ps) (parts-last space rest k))

pub has-parts : (text core m rest p tail v : List ℕ) → core ≡ trimmed is_blank text → core ≡ m ++ space ∷ rest → HasNo space m → rest ≡ p ++ space ∷ tail → HasNo space p
    → (more : List (List ℕ)) × (parts space tail ≡ v ∷ more) → HasParts text m p v
has-parts text core m rest p tail v e j h k n more = record {
  more = more.0;
  parts_are =
      ap (parts space) (sym e ∙ j) ∙ parts-word space m rest h
      ∙ ap (λ ps. m ∷ ps) (ap (parts space) k ∙ parts-word space p tail n ∙ ap (λ ps. p ∷ ps) more.1);
  ascii = λ a.
      let first = ascii-cut space core m rest j (ascii-trimmed text core e a) in
      (first.0, (ascii-cut space rest p tail k first.1).0);
}

any-none : (text : List ℕ) → HasNo colon text → list_any is_colon text ≡ false
any-none [] h = refl
any-none (b ∷ bs) h =
    let k = and_parts (not (b == colon)) (list_all (λ x. not (x == colon)) bs) h in
    rw (not-true (b == colon) k.0, any-none bs k.1) refl

-- a text without a colon, or with white space before it, is no header line
pub no-colon : (text : List ℕ) → HasNo colon text → ◌≡◌ {A = Option Header} None (header_line text)
no-colon text h = rw (any-none text h) refl

pub blank-field : (text f padded : List ℕ) → text ≡ f ++ colon ∷ padded → HasNo colon f → list_all (λ b. not (is_blank b)) f ≡ false → ◌≡◌ {A = Option Header} None (header_line text)
blank-field text f padded e h b = rw (e, take-front f padded h, any-front f padded, b) refl

pub header-made : (text f padded field value : List ℕ) → text ≡ f ++ colon ∷ padded → HasNo colon f → list_all (λ b. not (is_blank b)) f ≡ true → field ≡ f → value ≡ trimmed is_blank padded
    → ◌≡◌ {A = Option Header} (Some (record { field = field; value = value })) (header_line text)
header-made text f padded field value e h b same trim =
    let P : List ℕ → List ℕ → Option Header = λ x y. Some (record { field = x; value = y }) in
    ap (λ x. P x value) same ∙ ap (P f) trim
    ∙ sym (header-line-one text f (trimmed is_blank padded) (record { padded = padded; joins = e; no_blank = b; no_colon = h; trims = trims-is is_blank padded }))

-- a text with a colon, and no white space before it, is one
pub header-there : {T E : Type 0} (r : Result T E) (text f padded : List ℕ) → text ≡ f ++ colon ∷ padded → HasNo colon f → list_all (λ b. not (is_blank b)) f ≡ true → OnErr r (IsSome (header_line text))
header-there (Ok x) text f padded e h b = tt
header-there (Err x) text f padded e h b = rw (header-line-one text f (trimmed is_blank padded) (record { padded = padded; joins = e; no_blank = b; no_colon = h; trims = trims-is is_blank padded })) refl
