-- The grammar of a range, and how a range is read.
use Rattle.std.proofs.Common.{◌≡◌, refl, sym, ap, ◌∙◌, ℕ, zero, suc, ◌+◌, ◌-◌, ◌<◌, ◌≤◌, Bool, true, false, not, ◌&&◌, List, [], ◌∷◌, ◌++◌, length, Option, Some, None, arith, subst, eqb-true}
use Rattle.std.specs.Prelude.{◌==◌, ◌↔◌, nat_lt, nat_le, min, ◌^◌, option_map, if◌then◌else◌}
use Rattle.std.specs.Char.{is_ascii_digit}
use Rattle.std.specs.List.{list_all}
use Rattle.std.specs.Str.Parse.{digits_value}
use Rattle.std.proofs.lemmas.Bool.{and_parts, not-true}
use Rattle.std.proofs.lemmas.Bool.Decides.{nat_tests}
use Rattle.tiny_http_text.specs.Bytes.{HasNo}
use Rattle.tiny_http_text.specs.QualityReading.{cut}
use Rattle.tiny_http_files.specs.declared.ranges.RangeSpec.{RangeSpec}
use Rattle.tiny_http_files.specs.declared.ranges.RangeSpec.TheVariants.{Between, From, Suffix}
use Rattle.tiny_http_files.specs.Ranges.{position, spec_from_to, spec_between, spec_cut, spec_of, IsSpec}
use Rattle.tiny_http_files.proofs.RangesLemmas.{cut-with}

-- digits contain no hyphen
digit : (d : ℕ) → is_ascii_digit d ≡ true → not (d == 45) ≡ true
digit d h = grind (arith, nat_tests)

digits : (ds : List ℕ) → list_all is_ascii_digit ds ≡ true → HasNo 45 ds
digits [] h = refl
digits (d ∷ ds) h =
    let k = and_parts (is_ascii_digit d) (list_all is_ascii_digit ds) h in
    rw (digit d k.0) (digits ds k.1)

test : (b : Bool) (m n : ℕ) → (if b then Some m else None) ≡ Some n → b ≡ true
test true m n h = refl
test false m n h = absurd (cc)

-- a position has digits alone
position-digits : (ds : List ℕ) (n : ℕ) → position ds ≡ Some n → list_all is_ascii_digit ds ≡ true
position-digits ds n h = (and_parts (nat_lt 0 (length ds)) (list_all is_ascii_digit ds) (test _ _ n h)).1

no-position : (n : ℕ) → position [] ≡ Some n → ⊥
no-position n h = absurd (cc)

from-to : (first last : ℕ) → first ≤ last → spec_from_to (Some first) (Some last) ≡ Some (Between first last)
from-to first last le = let e : nat_le first last ≡ true = grind (arith, nat_tests) in rw e refl

-- what the grammar spells is read
pub reads : (text : List ℕ) (spec : RangeSpec) → IsSpec text spec → spec_of text ≡ Some spec
reads text (Suffix k) (b, e, p) = ap spec_cut (cut-with 45 text [] b e refl) ∙ ap (option_map Suffix) p
reads text (From first) ([], e, p) = absurd (no-position first p)
reads text (From first) (d ∷ ds, e, p) = ap spec_cut (cut-with 45 text (d ∷ ds) [] e (digits (d ∷ ds) (position-digits (d ∷ ds) first p))) ∙ ap (option_map From) p
reads text (Between first last) ([], b, e, p, q, le) = absurd (no-position first p)
reads text (Between first last) (d ∷ ds, [], e, p, q, le) = absurd (no-position last q)
reads text (Between first last) (d ∷ ds, c ∷ cs, e, p, q, le) =
    ap spec_cut (cut-with 45 text (d ∷ ds) (c ∷ cs) e (digits (d ∷ ds) (position-digits (d ∷ ds) first p)))
    ∙ ap (λ (o : Option ℕ). spec_from_to o (position (c ∷ cs))) p ∙ ap (spec_from_to (Some first)) q ∙ from-to first last le

-- where a text was cut
joins-if : (c x : ℕ) (xs : List ℕ) (b : Bool) (o : Option (List ℕ × List ℕ)) (r : List ℕ × List ℕ) → (b ≡ true → x ≡ c) → ((q : List ℕ × List ℕ) → o ≡ Some q → xs ≡ q.0 ++ c ∷ q.1) → (if b then Some ([], xs) else option_map (λ (q : List ℕ × List ℕ). (x ∷ q.0, q.1)) o) ≡ Some r → x ∷ xs ≡ r.0 ++ c ∷ r.1
joins-if c x xs true o r here later h =
    let e : ([], xs) ≡ r = cc in
    ap (λ (z : ℕ). z ∷ xs) (here refl) ∙ ap (λ (p : List ℕ × List ℕ). p.0 ++ c ∷ p.1) e
joins-if c x xs false None r here later h = absurd (cc)
joins-if c x xs false (Some q) r here later h =
    let e : (x ∷ q.0, q.1) ≡ r = cc in
    ap (λ (t : List ℕ). x ∷ t) (later q refl) ∙ ap (λ (p : List ℕ × List ℕ). p.0 ++ c ∷ p.1) e

cut-joins : (c : ℕ) (xs : List ℕ) (r : List ℕ × List ℕ) → cut c xs ≡ Some r → xs ≡ r.0 ++ c ∷ r.1
cut-joins c [] r h = absurd (cc)
cut-joins c (x ∷ xs) r h = joins-if c x xs (x == c) (cut c xs) r (eqb-true x c) (cut-joins c xs) h

spells-suffix : (text f : List ℕ) (spec : RangeSpec) (o : Option ℕ) → text ≡ 45 ∷ f → position f ≡ o → option_map Suffix o ≡ Some spec → IsSpec text spec
spells-suffix text f spec None e p h = absurd (cc)
spells-suffix text f spec (Some k) e p h = let is : Suffix k ≡ spec = cc in subst (λ s. IsSpec text s) is (f, e, p)

spells-from : (text w : List ℕ) (spec : RangeSpec) (o : Option ℕ) → text ≡ w ++ 45 ∷ [] → position w ≡ o → option_map From o ≡ Some spec → IsSpec text spec
spells-from text w spec None e p h = absurd (cc)
spells-from text w spec (Some first) e p h = let is : From first ≡ spec = cc in subst (λ s. IsSpec text s) is (w, e, p)

spells-if : (text w f : List ℕ) (spec : RangeSpec) (first last : ℕ) (b : Bool) → text ≡ w ++ 45 ∷ f → position w ≡ Some first → position f ≡ Some last → (b ≡ true → first ≤ last) → (if b then Some (Between first last) else None) ≡ Some spec → IsSpec text spec
spells-if text w f spec first last false e p q le h = absurd (cc)
spells-if text w f spec first last true e p q le h = let is : Between first last ≡ spec = cc in subst (λ s. IsSpec text s) is (w, f, e, p, q, le refl)

in-order : (m n : ℕ) → nat_le m n ≡ true → m ≤ n
in-order m n h = grind (arith, nat_tests)

spells-both : (text w f : List ℕ) (spec : RangeSpec) (o q : Option ℕ) → text ≡ w ++ 45 ∷ f → position w ≡ o → position f ≡ q → spec_from_to o q ≡ Some spec → IsSpec text spec
spells-both text w f spec None q e p r h = absurd (cc)
spells-both text w f spec (Some first) None e p r h = absurd (cc)
spells-both text w f spec (Some first) (Some last) e p r h = spells-if text w f spec first last (nat_le first last) e p r (in-order first last) h

spells-parts : (text w f : List ℕ) (spec : RangeSpec) → text ≡ w ++ 45 ∷ f → spec_between w f ≡ Some spec → IsSpec text spec
spells-parts text [] f spec e h = spells-suffix text f spec (position f) e refl h
spells-parts text (d ∷ ds) [] spec e h = spells-from text (d ∷ ds) spec (position (d ∷ ds)) e refl h
spells-parts text (d ∷ ds) (c ∷ cs) spec e h = spells-both text (d ∷ ds) (c ∷ cs) spec (position (d ∷ ds)) (position (c ∷ cs)) e refl refl h

spells-cut : (text : List ℕ) (spec : RangeSpec) (o : Option (List ℕ × List ℕ)) → cut 45 text ≡ o → spec_cut o ≡ Some spec → IsSpec text spec
spells-cut text spec None e h = absurd (cc)
spells-cut text spec (Some r) e h = spells-parts text r.0 r.1 spec (cut-joins 45 text r e) h

-- what is read is what the grammar spells
pub spells : (text : List ℕ) (spec : RangeSpec) → spec_of text ≡ Some spec → IsSpec text spec
spells text spec h = spells-cut text spec (cut 45 text) refl h
