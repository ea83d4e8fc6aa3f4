-- What a head says, computed, is what the definitions say.
use Rattle.std.proofs.Common.{◌≡◌, refl, sym, ap, ◌∙◌, subst, ℕ, ◌+◌, ◌<◌, ◌≤◌, Bool, true, false, ◌&&◌, ◌||◌, List, [], ◌∷◌, ◌++◌, length, drop, get_or, inl, inr}
use Rattle.std.specs.Prelude.{IsTrue, if◌then◌else◌}
use Rattle.httparse.specs.Grammar.{is_token, is_token_byte}
use Rattle.tiny_http_text.specs.Bytes.{HasNo, parts}
use Rattle.tiny_http_text.proofs.BytesLemmas.{ArePartsOf, parts-are, parts-word, parts-last}
use Rattle.tiny_http_head.specs.declared.common.Header.{Header}
use Rattle.tiny_http_head.specs.declared.common.HTTPVersion.{HTTPVersion}
use Rattle.tiny_http_head.specs.Common.{same_name}
use Rattle.std.proofs.lemmas.List.{at_drop_more, at_drop_all}
use Rattle.tiny_http_standard_head.specs.Lists.{values_of}
use Rattle.tiny_http_head.specs.Target.{slash}
use Rattle.tiny_http_standard_head.specs.Hosts.{IsHostValue}
use Rattle.tiny_http_standard_head.specs.Validation.{is_one_or_two_tokens, HasValidHost, is_1_0}
use Rattle.tiny_http_head.proofs.HeaderTextsLemmas.{token-bytes}
use Rattle.tiny_http_head.proofs.FirstByte.{all-without}

slash-no_token : is_token_byte 47 ≡ false
unfolding is_token_byte
slash-no_token = refl

pub token-no_slash : (text : List ℕ) → is_token text ≡ true → HasNo slash text
token-no_slash text h = all-without is_token_byte slash text slash-no_token (token-bytes text h)

and-false : (b : Bool) → (b && false) ≡ false
and-false true = refl
and-false false = refl

no-parts : {G : Type 0} (text : List ℕ) → parts slash text ≡ [] → G
no-parts text e = absurd (subst (ArePartsOf slash text) e (parts-are slash text))

-- behind a slash stands no token
no-second : (n v : List ℕ) (ps : List (List ℕ)) → ArePartsOf slash v ps → is_token v ≡ false → is_one_or_two_tokens (n ∷ ps) ≡ (is_token n && false)
no-second n v [] a h = elim a [ ]
no-second n v (w ∷ []) a h = elim a.1 [
  | inl one ↦ ap (λ (x : List ℕ). is_token n && is_token x) (sym one.1) ∙ ap (λ (b : Bool). is_token n && b) h
  | inr more ↦ no-parts more.0 more.2
]
no-second n v (w ∷ u ∷ ps) a h = sym (and-false (is_token n))

-- a protocol with a version
pub two-tokens : (text n v : List ℕ) → text ≡ n ++ slash ∷ v → HasNo slash n → is_one_or_two_tokens (parts slash text) ≡ (is_token n && is_token v)
two-tokens text n v joins without = ap (λ (x : List ℕ). is_one_or_two_tokens (parts slash x)) joins ∙ ap is_one_or_two_tokens (parts-word slash n v without) ∙ by (is_token v) refl
  where
    by : (t : Bool) → is_token v ≡ t → is_one_or_two_tokens (n ∷ parts slash v) ≡ (is_token n && t)
    by true e = rw (parts-last slash v (token-no_slash v e)) (ap (λ (b : Bool). is_token n && b) e)
    by false e = no-second n v (parts slash v) (parts-are slash v) e

-- and one without
pub one-token : (text : List ℕ) → HasNo slash text → is_one_or_two_tokens (parts slash text) ≡ is_token text
one-token text without = ap is_one_or_two_tokens (parts-last slash text without)

-- the hosts, header by header
abbrev pub HostsSoFar : Bool → List (List ℕ) → List (List ℕ) → Type 0
HostsSoFar false all rest = all ≡ rest
HostsSoFar true all rest = (value : List ℕ) × (all ≡ value ∷ rest) × IsHostValue value

value-here : (all : List (List ℕ)) (has_one : Bool) (name : List ℕ) (headers : List Header) (i : ℕ) (h : Header) (t : Bool) → i < length headers → h ≡ get_or headers i h → same_name h.field name ≡ t
    → HostsSoFar has_one all (values_of name (drop i headers)) → HostsSoFar has_one all (if t then h.value ∷ values_of name (drop (i + 1) headers) else values_of name (drop (i + 1) headers))
value-here all has_one name headers i h t within is named so_far =
    let G : List Header → List (List ℕ) = λ x. values_of name x in
    let here : values_of name (drop i headers) ≡ (if t then h.value ∷ values_of name (drop (i + 1) headers) else values_of name (drop (i + 1) headers)) =
    at_drop_more G headers i h within ∙ ap (λ x. G (x ∷ drop (i + 1) headers)) (sym is) ∙ ap (λ (b : Bool). if b then h.value ∷ values_of name (drop (i + 1) headers) else values_of name (drop (i + 1) headers)) named in
    subst (HostsSoFar has_one all) here so_far

pub host-passed : (all : List (List ℕ)) (has_one : Bool) (name : List ℕ) (headers : List Header) (i : ℕ) (h : Header) → i < length headers → h ≡ get_or headers i h → same_name h.field name ≡ false
    → HostsSoFar has_one all (values_of name (drop i headers)) → HostsSoFar has_one all (values_of name (drop (i + 1) headers))
host-passed all has_one name headers i h within is named so_far = value-here all has_one name headers i h false within is named so_far

pub host-first : (all : List (List ℕ)) (has_one : Bool) (name : List ℕ) (headers : List Header) (i : ℕ) (h : Header) → has_one ≡ false → i < length headers → h ≡ get_or headers i h → same_name h.field name ≡ true → IsHostValue h.value
    → HostsSoFar has_one all (values_of name (drop i headers)) → HostsSoFar true all (values_of name (drop (i + 1) headers))
host-first all has_one name headers i h none within is named value so_far =
    let here = value-here all has_one name headers i h true within is named so_far in
    (h.value, subst (λ (b : Bool). HostsSoFar b all (h.value ∷ values_of name (drop (i + 1) headers))) none here, value)

second-host : (v : HTTPVersion) (all : List (List ℕ)) (value another : List ℕ) (rest : List (List ℕ)) → all ≡ value ∷ another ∷ rest → HasValidHost v all → ⊥
second-host v all value another rest e good = subst (HasValidHost v) e good

first-bad : (v : HTTPVersion) (all : List (List ℕ)) (value : List ℕ) (rest : List (List ℕ)) → all ≡ value ∷ rest → (IsHostValue value → ⊥) → HasValidHost v all → ⊥
first-bad v all value [] e bad good = bad (subst (HasValidHost v) e good)
first-bad v all value (x ∷ xs) e bad good = subst (HasValidHost v) e good

pub host-bad : (v : HTTPVersion) (all : List (List ℕ)) (has_one : Bool) (name : List ℕ) (headers : List Header) (i : ℕ) (h : Header) → i < length headers → h ≡ get_or headers i h → same_name h.field name ≡ true
    → (has_one ≡ false → IsHostValue h.value → ⊥) → HostsSoFar has_one all (values_of name (drop i headers)) → HasValidHost v all → ⊥
host-bad v all has_one name headers i h within is named bad so_far good = by has_one refl (value-here all has_one name headers i h true within is named so_far)
  where
    by : (b : Bool) → has_one ≡ b → HostsSoFar b all (h.value ∷ values_of name (drop (i + 1) headers)) → ⊥
    by true e w = second-host v all w.0 h.value (values_of name (drop (i + 1) headers)) w.1 good
    by false e w = first-bad v all h.value (values_of name (drop (i + 1) headers)) w (bad e) good

pub host-end : (v : HTTPVersion) (all : List (List ℕ)) (has_one : Bool) (name : List ℕ) (headers : List Header) (i : ℕ) (result : Bool) → length headers ≤ i → HostsSoFar has_one all (values_of name (drop i headers)) → result ≡ (has_one || is_1_0 v)
    → (IsTrue result → HasValidHost v all) × (HasValidHost v all → IsTrue result)
host-end v all has_one name headers i result le so_far is = by has_one is (subst (HostsSoFar has_one all) (at_drop_all (λ (x : List Header). values_of name x) headers i le) so_far)
  where
    by : (b : Bool) → result ≡ (b || is_1_0 v) → HostsSoFar b all [] → (IsTrue result → HasValidHost v all) × (HasValidHost v all → IsTrue result)
    by true e w = ((λ good. subst (HasValidHost v) (sym w.1) w.2), (λ good. e))
    by false e w = ((λ good. subst (HasValidHost v) (sym w) (sym e ∙ good)), (λ good. e ∙ subst (HasValidHost v) w good))
