-- The choice among the elements of TE, computed, is that of the definition, and there is no other.
use Rattle.std.proofs.Common.{◌≡◌, refl, sym, ap, ◌∙◌, subst, ℕ, ◌<◌, ◌≤◌, inl, inr, Bool, true, false, List, [], ◌∷◌, ◌++◌, Option, Some, None, arith, eqb-true}
use Rattle.std.specs.Prelude.{max, ◌==◌, ◌≢◌, nat_lt, find, option_map, option_and_then, if◌then◌else◌, codes}
use Rattle.std.specs.List.{All, cons_option}
use Rattle.std.proofs.lemmas.Bool.Decides.{nat_tests}
use Rattle.std.proofs.lemmas.List.Elements.{All-nil, All-cons, All-head, All-tail, All-weaker}
use Rattle.tiny_http_head.specs.declared.common.Header.{Header}
use Rattle.tiny_http_head.specs.Common.{same_name}
use Rattle.tiny_http_text.specs.QualityReading.{qualities}
use Rattle.tiny_http_text.proofs.BytesLemmas.{not_true}
use Rattle.tiny_http_text.proofs.QualitiesLemmas.{lists-is, lists-one}
use Rattle.tiny_http_response.specs.declared.coding.Coding.{Coding}
use Rattle.tiny_http_response.specs.Coding.{Weighed, coding_named, supported_codings, greatest_quality, most_wanted, coding_asked}
use Rattle.tiny_http_response.specs.Asked.{TeElement, IsSupported, IsChosen, Choose, AsksFor}
use Rattle.tiny_http_response.proofs.AskedLemmas.{wanted_at}

-- the supported ones of the elements have at most this quality
abbrev AtMost : ℕ → List TeElement → Type 0
AtMost n es = All (λ e. IsSupported e → e.1 ≤ n) es

abbrev HaveNot : ℕ → List TeElement → Type 0
HaveNot n es = All (λ e. IsSupported e → e.1 ≢ n) es

raised : (m n : ℕ) (es : List TeElement) → m ≤ n → AtMost m es → AtMost n es
raised m n es l h = All-weaker (λ e. IsSupported e → e.1 ≤ m) (λ e. IsSupported e → e.1 ≤ n) (λ e f s. let k : e.1 ≤ m = f s in omega arith) es h

-- what an element adds to the codings, by what its name stands for
abbrev weigh : Option Coding → ℕ → List Weighed → List Weighed
weigh o q ws = cons_option (option_map (λ c. (c, q)) o) ws

-- the greatest quality is a bound, and the least one
at-most-step : (e : TeElement) (es : List TeElement) (o : Option Coding) → coding_named e.0 ≡ o → AtMost (greatest_quality (supported_codings es)) es
    → AtMost (greatest_quality (weigh o e.1 (supported_codings es))) (e ∷ es)
at-most-step e es None h rest = All-cons (λ x. IsSupported x → x.1 ≤ greatest_quality (supported_codings es)) e es (λ s. absurd (s h)) rest
at-most-step e es (Some c) h rest =
    let m = greatest_quality (supported_codings es) in
    All-cons (λ x. IsSupported x → x.1 ≤ max e.1 m) e es (λ s. omega arith) (raised m (max e.1 m) es (omega arith) rest)

at-most : (es : List TeElement) → AtMost (greatest_quality (supported_codings es)) es
at-most [] = All-nil (λ e. IsSupported e → e.1 ≤ 0)
at-most (e ∷ es) = at-most-step e es (coding_named e.0) refl (at-most es)

least-step : (n : ℕ) (e : TeElement) (ws : List Weighed) (o : Option Coding) → coding_named e.0 ≡ o → (IsSupported e → e.1 ≤ n) → greatest_quality ws ≤ n
    → greatest_quality (weigh o e.1 ws) ≤ n
least-step n e ws None h first rest = rest
least-step n e ws (Some c) h first rest = let l : e.1 ≤ n = first (λ none. let no : Some c ≡ None = sym h ∙ none in cc) in omega arith

least : (n : ℕ) (es : List TeElement) → AtMost n es → greatest_quality (supported_codings es) ≤ n
least n [] h = omega arith
least n (e ∷ es) h =
    let P : TeElement → Type 0 = λ x. IsSupported x → x.1 ≤ n in
    least-step n e (supported_codings es) (coding_named e.0) refl (All-head P e es h) (least n es (All-tail P e es h))

-- where the first coding of a quality stands among the elements
record Found (es : List TeElement) (q : ℕ) (coding : Coding) : Type 0 where
  before : List TeElement
  chosen : TeElement
  after : List TeElement
  joins : es ≡ before ++ chosen ∷ after
  names : coding_named chosen.0 ≡ Some coding
  has : chosen.1 ≡ q
  none_before : HaveNot q before

found-later : (e : TeElement) (es : List TeElement) (q : ℕ) (coding : Coding) → (IsSupported e → e.1 ≢ q) → Found es q coding → Found (e ∷ es) q coding
found-later e es q coding first f = record {
  before = e ∷ f.before;
  chosen = f.chosen;
  after = f.after;
  joins = ap (λ xs. e ∷ xs) f.joins;
  names = f.names;
  has = f.has;
  none_before = All-cons (λ x. IsSupported x → x.1 ≢ q) e f.before first f.none_before;
}

found-at : (e : TeElement) (es : List TeElement) (q : ℕ) (w : Weighed) (c : Coding) (t : Bool) → coding_named e.0 ≡ Some c → (e.1 == q) ≡ t
    → (find (λ x. x.1 == q) (supported_codings es) ≡ Some w → Found es q w.0)
    → (if t then Some (c, e.1) else find (λ x. x.1 == q) (supported_codings es)) ≡ Some w → Found (e ∷ es) q w.0
found-at e es q w c true h k rec f =
    let is : (c, e.1) ≡ w = cc in
    record {
      before = [];
      chosen = e;
      after = es;
      joins = refl;
      names = h ∙ ap (λ (x : Weighed). Some x.0) is;
      has = eqb-true e.1 q k;
      none_before = All-nil (λ x. IsSupported x → x.1 ≢ q);
    }
found-at e es q w c false h k rec f = let other : e.1 ≢ q = grind (arith, nat_tests) in found-later e es q w.0 (λ s. other) (rec f)

found-step : (e : TeElement) (es : List TeElement) (q : ℕ) (w : Weighed) (o : Option Coding) → coding_named e.0 ≡ o
    → (find (λ x. x.1 == q) (supported_codings es) ≡ Some w → Found es q w.0)
    → find (λ x. x.1 == q) (weigh o e.1 (supported_codings es)) ≡ Some w → Found (e ∷ es) q w.0
found-step e es q w None h rec f = found-later e es q w.0 (λ s. absurd (s h)) (rec f)
found-step e es q w (Some c) h rec f = found-at e es q w c (e.1 == q) h refl rec f

asked-found : (es : List TeElement) (q : ℕ) (w : Weighed) → find (λ x. x.1 == q) (supported_codings es) ≡ Some w → Found es q w.0
asked-found [] q w f = cc
asked-found (e ∷ es) q w f = found-step e es q w (coding_named e.0) refl (asked-found es q w) f

-- some coding has the greatest quality, where that is above 0
attained-at : (w : Weighed) (ws : List Weighed) (q : ℕ) (t : Bool) → (w.1 == q) ≡ t → q ≡ max w.1 (greatest_quality ws)
    → (q ≡ greatest_quality ws → (x : Weighed) × (find (λ x. x.1 == q) ws ≡ Some x))
    → (x : Weighed) × ((if t then Some w else find (λ x. x.1 == q) ws) ≡ Some x)
attained-at w ws q true e h rec = (w, refl)
attained-at w ws q false e h rec = let other : w.1 ≢ q = grind (arith, nat_tests) in rec (omega arith)

attained : (ws : List Weighed) (q : ℕ) → 0 < q → q ≡ greatest_quality ws → (x : Weighed) × (find (λ x. x.1 == q) ws ≡ Some x)
attained [] q l h = absurd (omega arith)
attained (w ∷ ws) q l h = attained-at w ws q (w.1 == q) refl h (attained ws q l)

chosen-from : (es : List TeElement) (q : ℕ) (c : Coding) → 0 < q → AtMost q es → Found es q c → IsChosen es c
chosen-from es q c some most f = record {
  before = f.before;
  chosen = f.chosen;
  after = f.after;
  joins = f.joins;
  names = f.names;
  above_0 = let h = f.has in omega arith;
  none_greater = raised q f.chosen.1 es (let h = f.has in omega arith) most;
  none_equal_before = subst (λ n. HaveNot n f.before) (sym f.has) f.none_before;
}

carried : (es : List TeElement) (o : Option Weighed) (w : Weighed) → o ≡ Some w → IsChosen es w.0 → Choose es (option_map (λ x. x.0) o)
carried es o w h is = subst (λ (x : Option Weighed). Choose es (option_map (λ y. y.0) x)) (sym h) is

-- the computed choice is one
choose-at : (es : List TeElement) (t : Bool) → nat_lt 0 (greatest_quality (supported_codings es)) ≡ t
    → Choose es (if t then option_map (λ w. w.0) (find (λ w. w.1 == greatest_quality (supported_codings es)) (supported_codings es)) else None)
choose-at es true e =
    let q = greatest_quality (supported_codings es) in
    let some : 0 < q = grind (arith, nat_tests) in
    let a = attained (supported_codings es) q some refl in
    carried es (find (λ w. w.1 == q) (supported_codings es)) a.0 a.1 (chosen-from es q a.0.0 some (at-most es) (asked-found es q a.0 a.1))
choose-at es false e =
    let q = greatest_quality (supported_codings es) in
    let none : q ≡ 0 = grind (arith, nat_tests) in
    All-weaker (λ x. IsSupported x → x.1 ≤ q) (λ x. IsSupported x → x.1 ≡ 0) (λ x f s. let l : x.1 ≤ q = f s in omega arith) es (at-most es)

choose-is : (es : List TeElement) → Choose es (most_wanted (supported_codings es))
choose-is es = choose-at es (nat_lt 0 (greatest_quality (supported_codings es))) refl

-- and the only one
above-step : (n : ℕ) (e : TeElement) (ws : List Weighed) (o : Option Coding) → n ≤ greatest_quality ws → n ≤ greatest_quality (weigh o e.1 ws)
above-step n e ws None h = h
above-step n e ws (Some c) h = omega arith

above : (before : List TeElement) (chosen : TeElement) (after : List TeElement) (c : Coding) → coding_named chosen.0 ≡ Some c
    → chosen.1 ≤ greatest_quality (supported_codings (before ++ chosen ∷ after))
above [] chosen after c h = rw h (omega arith)
above (e ∷ es) chosen after c h = above-step chosen.1 e (supported_codings (es ++ chosen ∷ after)) (coding_named e.0) (above es chosen after c h)

asked-first_step : (q : ℕ) (e : TeElement) (ws : List Weighed) (o : Option Coding) (w : Weighed) → coding_named e.0 ≡ o → (IsSupported e → e.1 ≢ q)
    → find (λ x. x.1 == q) ws ≡ Some w → find (λ x. x.1 == q) (weigh o e.1 ws) ≡ Some w
asked-first_step q e ws None w h other f = f
asked-first_step q e ws (Some c) w h other f =
    let no : e.1 ≢ q = other (λ none. let no : Some c ≡ None = sym h ∙ none in cc) in
    let t : (e.1 == q) ≡ false = grind (arith, nat_tests) in
    rw t f

asked-first_is : (before : List TeElement) (chosen : TeElement) (after : List TeElement) (c : Coding) → coding_named chosen.0 ≡ Some c → HaveNot chosen.1 before
    → find (λ x. x.1 == chosen.1) (supported_codings (before ++ chosen ∷ after)) ≡ Some (c, chosen.1)
asked-first_is [] chosen after c h none = let t : (chosen.1 == chosen.1) ≡ true = grind (arith, nat_tests) in rw (h, t) refl
asked-first_is (e ∷ es) chosen after c h none =
    let P : TeElement → Type 0 = λ x. IsSupported x → x.1 ≢ chosen.1 in
    asked-first_step chosen.1 e (supported_codings (es ++ chosen ∷ after)) (coding_named e.0) (c, chosen.1) refl (All-head P e es none)
    (asked-first_is es chosen after c h (All-tail P e es none))

chosen-is : (es : List TeElement) (c : Coding) → IsChosen es c → Some c ≡ most_wanted (supported_codings es)
chosen-is es c h =
    let q = h.chosen.1 in
    let low = least q es h.none_greater in
    let high = subst (λ xs. q ≤ greatest_quality (supported_codings xs)) (sym h.joins) (above h.before h.chosen h.after c h.names) in
    let is : greatest_quality (supported_codings es) ≡ q = omega arith in
    let f = subst (λ xs. find (λ x. x.1 == q) (supported_codings xs) ≡ Some (c, q)) (sym h.joins) (asked-first_is h.before h.chosen h.after c h.names h.none_equal_before) in
    let t : nat_lt 0 q ≡ true = let l = h.above_0 in grind (arith, nat_tests) in
    sym (ap (λ n. wanted_at n None 0 (supported_codings es)) is ∙ rw (t, f) refl)

choose-one : (es : List TeElement) (asked : Option Coding) → Choose es asked → asked ≡ most_wanted (supported_codings es)
choose-one es None h =
    let l = least 0 es (All-weaker (λ x. IsSupported x → x.1 ≡ 0) (λ x. IsSupported x → x.1 ≤ 0) (λ x f s. let z : x.1 ≡ 0 = f s in omega arith) es h) in
    let t : nat_lt 0 (greatest_quality (supported_codings es)) ≡ false = grind (arith, nat_tests) in
    rw t refl
choose-one es (Some c) h = chosen-is es c h

-- the first TE header
asks-step : (h : Header) (hs : List Header) (t : Bool) → same_name h.field (codes "TE") ≡ t → AsksFor hs (coding_asked hs)
    → AsksFor (h ∷ hs) (if t then most_wanted (supported_codings (qualities h.value)) else coding_asked hs)
asks-step h hs true e rest = inl (e, qualities h.value, lists-is h.value, choose-is (qualities h.value))
asks-step h hs false e rest = inr ((λ yes. let no : false ≡ true = sym e ∙ yes in cc), rest)

none-asked : coding_asked [] ≡ None
unfolding coding_asked
none-asked = refl

-- the value of the header that was found, or else what the others ask for
asked-at : (h : Header) (hs : List Header) (t : Bool) (o : Option Header)
    → option_and_then (λ (x : Header). most_wanted (supported_codings (qualities x.value))) (if t then Some h else o)
    ≡ (if t then most_wanted (supported_codings (qualities h.value)) else option_and_then (λ (x : Header). most_wanted (supported_codings (qualities x.value))) o)
asked-at h hs true o = refl
asked-at h hs false o = refl

asked-step : (h : Header) (hs : List Header) → coding_asked (h ∷ hs) ≡ (if same_name h.field (codes "TE") then most_wanted (supported_codings (qualities h.value)) else coding_asked hs)
unfolding coding_asked
asked-step h hs = asked-at h hs (same_name h.field (codes "TE")) (find (λ x. same_name x.field (codes "TE")) hs)

pub asks-is : (hs : List Header) → AsksFor hs (coding_asked hs)
asks-is [] = none-asked
asks-is (h ∷ hs) = subst (AsksFor (h ∷ hs)) (sym (asked-step h hs)) (asks-step h hs (same_name h.field (codes "TE")) refl (asks-is hs))

pub asks-one : (hs : List Header) (asked : Option Coding) → AsksFor hs asked → asked ≡ coding_asked hs
asks-one [] asked h = h ∙ sym none-asked
asks-one (h ∷ hs) asked (inl k) =
    choose-one k.1 asked k.3 ∙ ap (λ es. most_wanted (supported_codings es)) (lists-one h.value k.1 k.2)
    ∙ sym (asked-step h hs ∙ rw k.0 refl)
asks-one (h ∷ hs) asked (inr k) = asks-one hs asked k.1 ∙ sym (asked-step h hs ∙ rw (not_true (same_name h.field (codes "TE")) k.0) refl)
