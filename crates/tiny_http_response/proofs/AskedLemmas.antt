-- The choice among the elements of TE, step by step.
use Rattle.std.proofs.Common.{◌≡◌, refl, sym, ap, ◌∙◌, ℕ, ◌<◌, ◌≤◌, Bool, true, false, List, [], ◌∷◌, map, Option, Some, None, arith, drop, length, get_or, ◌+◌, ◌⊎◌, inl, inr}
use Rattle.std.specs.Prelude.{max, ◌==◌, nat_lt, find, option_map, if◌then◌else◌}
use Rattle.std.specs.List.{cons_option}
use Rattle.std.proofs.lemmas.Bool.Decides.{nat_tests}
use Rattle.std.proofs.lemmas.List.{at_drop_more}
use Rattle.tiny_http_text.specs.QualityReading.{element}
use Rattle.tiny_http_response.specs.declared.coding.Coding.{Coding}
use Rattle.tiny_http_response.specs.Coding.{Weighed, coding_named, supported_codings, greatest_quality}

-- the first of the codings that has this quality, where that is above the greatest so far
abbrev pub wanted_at : ℕ → Option Coding → ℕ → List Weighed → Option Coding
wanted_at quality wanted greatest ws = if nat_lt greatest quality then option_map (λ w. w.0) (find (λ w. w.1 == quality) ws) else wanted

-- of the codings still to come the one that is wanted most, where it is wanted more than the one that stands
abbrev pub wanted_after : Option Coding → ℕ → List Weighed → Option Coding
wanted_after wanted greatest ws = wanted_at (greatest_quality ws) wanted greatest ws

asked-take_at : (wanted : Option Coding) (g : ℕ) (w : Weighed) (ws : List Weighed) (t : Bool) → nat_lt w.1 (greatest_quality ws) ≡ t → g < w.1
    → wanted_after wanted g (w ∷ ws) ≡ wanted_after (Some w.0) w.1 ws
asked-take_at wanted g w ws true e l =
    let m = greatest_quality ws in
    let more : w.1 < m = grind (arith, nat_tests) in
    let is : max w.1 m ≡ m = omega arith in
    let above : nat_lt g m ≡ true = grind (arith, nat_tests) in
    let other : (w.1 == m) ≡ false = grind (arith, nat_tests) in
    ap (λ n. wanted_at n wanted g (w ∷ ws)) is ∙ rw (above, other, e) refl
asked-take_at wanted g w ws false e l =
    let m = greatest_quality ws in
    let less : m ≤ w.1 = grind (arith, nat_tests) in
    let is : max w.1 m ≡ w.1 = omega arith in
    let above : nat_lt g w.1 ≡ true = grind (arith, nat_tests) in
    let this : (w.1 == w.1) ≡ true = grind (arith, nat_tests) in
    ap (λ n. wanted_at n wanted g (w ∷ ws)) is ∙ rw (above, this, e) refl

-- one that is wanted more takes the place
take-one : (wanted : Option Coding) (g : ℕ) (w : Weighed) (ws : List Weighed) → g < w.1 → wanted_after wanted g (w ∷ ws) ≡ wanted_after (Some w.0) w.1 ws
take-one wanted g w ws l = asked-take_at wanted g w ws (nat_lt w.1 (greatest_quality ws)) refl l

pass-at : (wanted : Option Coding) (g : ℕ) (w : Weighed) (ws : List Weighed) (t : Bool) → nat_lt g (greatest_quality ws) ≡ t → w.1 ≤ g
    → wanted_after wanted g (w ∷ ws) ≡ wanted_after wanted g ws
pass-at wanted g w ws true e l =
    let m = greatest_quality ws in
    let more : g < m = grind (arith, nat_tests) in
    let is : max w.1 m ≡ m = omega arith in
    let other : (w.1 == m) ≡ false = grind (arith, nat_tests) in
    ap (λ n. wanted_at n wanted g (w ∷ ws)) is ∙ rw (e, other) refl
pass-at wanted g w ws false e l =
    let m = greatest_quality ws in
    let less : m ≤ g = grind (arith, nat_tests) in
    let above : nat_lt g (max w.1 m) ≡ false = grind (arith, nat_tests) in
    rw (above, e) refl

-- one that isn't is passed over
pass-one : (wanted : Option Coding) (g : ℕ) (w : Weighed) (ws : List Weighed) → w.1 ≤ g → wanted_after wanted g (w ∷ ws) ≡ wanted_after wanted g ws
pass-one wanted g w ws l = pass-at wanted g w ws (nat_lt g (greatest_quality ws)) refl l

-- the same over the texts of the elements
abbrev pub wanted_in : Option Coding → ℕ → List (List ℕ) → Option Coding
wanted_in wanted greatest texts = wanted_after wanted greatest (supported_codings (map element texts))

take-text : (wanted : Option Coding) (g : ℕ) (text : List ℕ) (texts : List (List ℕ)) (e : List ℕ × ℕ) (coding : Coding) → e ≡ element text
    → Some coding ≡ coding_named e.0 → g < e.1 → wanted_in wanted g (text ∷ texts) ≡ wanted_in (Some coding) e.1 texts
take-text wanted g text texts e coding is names l =
    rw (sym is, sym names) (take-one wanted g (coding, e.1) (supported_codings (map element texts)) l)

pass-named : (wanted : Option Coding) (g q : ℕ) (ws : List Weighed) (o : Option Coding) → q ≤ g
    → wanted_after wanted g (cons_option (option_map (λ c. (c, q)) o) ws) ≡ wanted_after wanted g ws
pass-named wanted g q ws None l = refl
pass-named wanted g q ws (Some coding) l = pass-one wanted g (coding, q) ws l

pass-either : (wanted : Option Coding) (g : ℕ) (text : List ℕ) (texts : List (List ℕ)) (e : List ℕ × ℕ) → e ≡ element text
    → (e.1 ≤ g) ⊎ (None ≡ coding_named e.0) → wanted_in wanted g (text ∷ texts) ≡ wanted_in wanted g texts
pass-either wanted g text texts e is (inl l) = rw (sym is) (pass-named wanted g e.1 (supported_codings (map element texts)) (coding_named e.0) l)
pass-either wanted g text texts e is (inr names) = rw (sym is, sym names) refl

pub wanted-last : (wanted : Option Coding) (g : ℕ) → wanted_in wanted g [] ≡ wanted
wanted-last wanted g = let none : nat_lt g 0 ≡ false = grind (arith, nat_tests) in rw none refl

-- the element at a place of the list
pub take-here : (wanted : Option Coding) (g : ℕ) (texts : List (List ℕ)) (i : ℕ) (text : List ℕ) (e : List ℕ × ℕ) (coding : Coding) → (i < length texts) × (text ≡ get_or texts i text)
    → e ≡ element text → Some coding ≡ coding_named e.0 → g < e.1 → wanted_in (Some coding) e.1 (drop (i + 1) texts) ≡ wanted_in wanted g (drop i texts)
take-here wanted g texts i text e coding t is names l =
    sym (at_drop_more (wanted_in wanted g) texts i text t.0
    ∙ ap (λ x. wanted_in wanted g (x ∷ drop (i + 1) texts)) (sym t.1) ∙ take-text wanted g text (drop (i + 1) texts) e coding is names l)

pub pass-here : (wanted : Option Coding) (g : ℕ) (texts : List (List ℕ)) (i : ℕ) (text : List ℕ) (e : List ℕ × ℕ) → (i < length texts) × (text ≡ get_or texts i text)
    → e ≡ element text → (e.1 ≤ g) ⊎ (None ≡ coding_named e.0) → wanted_in wanted g (drop (i + 1) texts) ≡ wanted_in wanted g (drop i texts)
pass-here wanted g texts i text e t is why =
    sym (at_drop_more (wanted_in wanted g) texts i text t.0
    ∙ ap (λ x. wanted_in wanted g (x ∷ drop (i + 1) texts)) (sym t.1) ∙ pass-either wanted g text (drop (i + 1) texts) e is why)
