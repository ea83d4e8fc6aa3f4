-- Texts cut at a byte, and ranges one after the other.
use Rattle.std.proofs.Common.{◌≡◌, refl, sym, ap, ◌∙◌, ℕ, zero, suc, ◌+◌, ◌-◌, ◌<◌, ◌≤◌, Bool, true, false, not, ◌&&◌, List, [], ◌∷◌, ◌++◌, length, drop, get_or, Option, Some, None, arith, eq-eqb, append_assoc}
use Rattle.tiny_http_head.specs.Common.{same_name}
use Rattle.std.specs.Prelude.{codes, ◌==◌, nat_lt, option_map, if◌then◌else◌}
use Rattle.std.specs.List.{list_all}
use Rattle.std.proofs.lemmas.Bool.{and_parts, not-true}
use Rattle.std.proofs.lemmas.Bool.Decides.{nat_tests}
use Rattle.std.proofs.lemmas.List.{at_drop_more, at_drop_all}
use Rattle.tiny_http_text.specs.Bytes.{HasNo, parts}
use Rattle.tiny_http_text.specs.QualityReading.{cut}
use Rattle.tiny_http_files.specs.declared.ranges.RangeSpec.{RangeSpec}
use Rattle.tiny_http_files.specs.declared.ranges.ByteRange.{ByteRange}
use Rattle.tiny_http_files.specs.Ranges.{spec_cut, spec_between, spec_of, element_specs, both_lists, all_specs, Appends, set_of, set_if_bytes, add_range, ranges_of, range_of, size_of, sum_of}

pub cut-without : (c : ℕ) (xs : List ℕ) → HasNo c xs → cut c xs ≡ None
cut-without c [] h = refl
cut-without c (b ∷ bs) h =
    let k = and_parts (not (b == c)) (list_all (λ x. not (x == c)) bs) h in
    rw (not-true (b == c) k.0, cut-without c bs k.1) refl

pub cut-with : (c : ℕ) (xs w f : List ℕ) → xs ≡ w ++ c ∷ f → HasNo c w → cut c xs ≡ Some (w, f)
cut-with c xs [] f e h = rw (e, eq-eqb c c refl) refl
cut-with c xs (b ∷ bs) f e h =
    let k = and_parts (not (b == c)) (list_all (λ x. not (x == c)) bs) h in
    rw (e, not-true (b == c) k.0, cut-with c (bs ++ c ∷ f) bs f refl k.1) refl

-- a text that is cut at its hyphen
pub spec-with : (text w f : List ℕ) → text ≡ w ++ 45 ∷ f → HasNo 45 w → spec_between w f ≡ spec_of text
spec-with text w f e h = sym (ap spec_cut (cut-with 45 text w f e h))

pub spec-without : (text : List ℕ) → HasNo 45 text → None ≡ spec_of text
spec-without text h = sym (ap spec_cut (cut-without 45 text h))

-- the ranges of the specs from the i-th on
pub ranges-step : (n : ℕ) (specs : List RangeSpec) (i : ℕ) (spec : RangeSpec) → i < length specs → spec ≡ get_or specs i spec → ranges_of n (drop i specs) ≡ add_range (range_of n spec) (ranges_of n (drop (i + 1) specs))
ranges-step n specs i spec lt is = at_drop_more (ranges_of n) specs i spec lt ∙ ap (λ (t : RangeSpec). ranges_of n (t ∷ drop (i + 1) specs)) (sym is)

-- the sizes of the ranges from the i-th on
pub sizes-step : (ranges : List ByteRange) (i : ℕ) (range : ByteRange) → i < length ranges → range ≡ get_or ranges i range → sum_of (drop i ranges) ≡ size_of range + sum_of (drop (i + 1) ranges)
sizes-step ranges i range lt is = at_drop_more sum_of ranges i range lt ∙ ap (λ (t : ByteRange). sum_of (t ∷ drop (i + 1) ranges)) (sym is)

-- the elements from the i-th on
pub elements-step : (texts : List (List ℕ)) (i : ℕ) (text : List ℕ) → (i < length texts) × (text ≡ get_or texts i text) → all_specs (drop i texts) ≡ both_lists (element_specs text) (all_specs (drop (i + 1) texts))
elements-step texts i text t = at_drop_more all_specs texts i text t.0 ∙ ap (λ (x : List ℕ). all_specs (x ∷ drop (i + 1) texts)) (sym t.1)

pub elements-end : (texts : List (List ℕ)) (i : ℕ) → length texts ≤ i → all_specs (drop i texts) ≡ Some []
elements-end texts i le = at_drop_all all_specs texts i le

-- an element that isn't a range
pub refused : (fine : Bool) (old new : List RangeSpec) (specs : Option (List RangeSpec)) → fine ≡ false → Appends fine old new specs → specs ≡ None
refused true old new specs e h = absurd (cc)
refused false old new None e h = refl
refused false old new (Some s) e h = absurd h

-- an element that is appended
pub appended : (fine : Bool) (old new : List RangeSpec) (specs rest : Option (List RangeSpec)) → fine ≡ true → Appends fine old new specs → both_lists (Some new) rest ≡ both_lists (Some old) (both_lists specs rest)
appended false old new specs rest e h = absurd (cc)
appended true old new None rest e h = absurd h
appended true old new (Some s) None e h = refl
appended true old new (Some s) (Some r) e h = ap Some (ap (λ (x : List RangeSpec). x ++ r) h ∙ append_assoc old s r)

pub nothing-after : (old : List RangeSpec) (specs rest : Option (List RangeSpec)) → specs ≡ None → both_lists (Some old) (both_lists specs rest) ≡ None
nothing-after old None rest e = refl
nothing-after old (Some s) rest e = absurd (cc)

-- a value that is cut at its equals sign
pub set-without : (text : List ℕ) → HasNo 61 text → None ≡ set_of text
set-without text h = sym (ap set_if_bytes (cut-without 61 text h))

pub set-with : (text w f : List ℕ) → text ≡ w ++ 61 ∷ f → HasNo 61 w → same_name w (codes "bytes") ≡ true → Some f ≡ set_of text
set-with text w f e h is = sym (ap set_if_bytes (cut-with 61 text w f e h) ∙ ap (λ (b : Bool). if b then Some f else None) is)

pub set-other : (text w f : List ℕ) → text ≡ w ++ 61 ∷ f → HasNo 61 w → same_name w (codes "bytes") ≡ false → None ≡ set_of text
set-other text w f e h is = sym (ap set_if_bytes (cut-with 61 text w f e h) ∙ ap (λ (b : Bool). if b then Some f else None) is)
