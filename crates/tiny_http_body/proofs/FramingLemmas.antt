-- How a head is framed: there is one way, and a head that names an upgrade is the last.
use Rattle.std.proofs.Common.{◌≡◌, refl, sym, ap, ◌∙◌, subst, ℕ, zero, suc, Bool, true, false, not, ◌&&◌, ◌||◌, inl, inr, List, [], ◌∷◌, ◌++◌, Option, Some, None, Ok, Err, arith, eqb-true, ⊎_elim, ◌+◌, ◌≤◌, drop, get_or, length}
use Rattle.std.specs.Prelude.{◌==◌, ◌<◌, ◌⊎◌, nat_le, Result, is_some, codes, if◌then◌else◌}
use Rattle.std.proofs.lemmas.List.{at_drop_more, at_drop_all}
use Rattle.std.proofs.Math.Dec.{eqb-suc-zero}
use Rattle.std.proofs.lemmas.Bool.{and_parts, leb-true, leb-false, le-leb, lt-leb}
use Rattle.tiny_http_head.specs.Common.{same_name}
use Rattle.tiny_http_head.specs.declared.content_length.InvalidLength.{InvalidLength}
use Rattle.tiny_http_head.specs.ContentLength.{one_length}
use Rattle.tiny_http_head.proofs.ContentLengthLemmas.{one-is, one-reads}
use Rattle.tiny_http_head.specs.declared.common.Header.{Header}
use Rattle.tiny_http_head.specs.declared.common.HTTPVersion.{HTTPVersion}
use Rattle.tiny_http_body.specs.declared.framing.HeadRules.{HeadRules}
use Rattle.tiny_http_body.specs.declared.framing.HeadRules.TheVariants.{Lenient, Strict}
use Rattle.tiny_http_body.specs.declared.framing.FramingFault.{FramingFault}
use Rattle.tiny_http_body.specs.declared.framing.FramingFault.TheVariants.{Invalid, Expectation}
use Rattle.tiny_http_body.specs.declared.framing.Form.{Form}
use Rattle.tiny_http_body.specs.declared.framing.Form.TheVariants.{Rest, Nothing, WithHead, Counted, Chunked}
use Rattle.tiny_http_body.specs.declared.framing.Framing.{Framing}
use Rattle.tiny_http_body.specs.Framing.{mentions, value_of, elements_of, lenient_length, expectation, names_upgrade, names_coding, EndsWithChunked, IsStrictLength, IsBodyLength, IsForm, is_last, Frames}
use Rattle.tiny_http_body.specs.FramingReading.{first_value, framing, framed_if, framed_by, form_by, sized_form, uncoded_length, ends_with_chunked, strict_length, body_length}

-- the length that the headers say

ends-is : (coding : List ℕ) (codings : List (List ℕ)) → ends_with_chunked coding codings ≡ true → EndsWithChunked (coding ∷ codings)
ends-is coding [] h = ([], coding, refl, h)
ends-is coding (last ∷ codings) h = let k = ends-is last codings h in (coding ∷ k.0, k.1, ap (λ x. coding ∷ x) k.2, k.3)

ends-one : (before : List (List ℕ)) (last coding : List ℕ) (codings : List (List ℕ)) → coding ∷ codings ≡ before ++ last ∷ [] → same_name last (codes "chunked") ≡ true → ends_with_chunked coding codings ≡ true
ends-one [] last coding [] e h = let same : coding ≡ last = cc in rw same h
ends-one [] last coding (next ∷ codings) e h = cc
ends-one (b ∷ before) last coding [] e h = absurd (nothing-behind before (let tail : [] ≡ before ++ last ∷ [] = cc in tail))
  where
    nothing-behind : (xs : List (List ℕ)) → [] ≡ xs ++ last ∷ [] → ⊥
    nothing-behind [] e = cc
    nothing-behind (x ∷ xs) e = cc
ends-one (b ∷ before) last coding (next ∷ codings) e h = let tail : next ∷ codings ≡ before ++ last ∷ [] = cc in ends-one before last next codings tail h

same-length : {x y : Option ℕ} → ◌≡◌ {A = Result (Option ℕ) FramingFault} (Ok x) (Ok y) → x ≡ y
same-length e = cc

uncoded-is : (r : Result (Option ℕ) InvalidLength) (n : Option ℕ) → uncoded_length r ≡ Ok n → r ≡ Ok n
uncoded-is (Ok m) n h = ap Ok (same-length h)
uncoded-is (Err e) n h = let no : ◌≡◌ {A = Result (Option ℕ) FramingFault} (Err Invalid) (Ok n) = h in cc

once-is : (lengths codings : List (List ℕ)) (n : Option ℕ) → strict_length lengths codings ≡ Ok n → IsStrictLength lengths codings n
once-is lengths [] n h = one-is lengths n (uncoded-is (one_length lengths) n h)
once-is [] (coding ∷ codings) n h = by (ends_with_chunked coding codings) refl h
  where
    by : (t : Bool) → ends_with_chunked coding codings ≡ t → (if t then Ok None else Err Invalid) ≡ Ok n → IsStrictLength [] (coding ∷ codings) n
    by true e h = (sym (same-length h), ends-is coding codings e)
    by false e h = let no : ◌≡◌ {A = Result (Option ℕ) FramingFault} (Err Invalid) (Ok n) = h in cc
once-is (text ∷ texts) (coding ∷ codings) n h = let no : ◌≡◌ {A = Result (Option ℕ) FramingFault} (Err Invalid) (Ok n) = h in cc

once-one : (lengths codings : List (List ℕ)) (n : Option ℕ) → IsStrictLength lengths codings n → strict_length lengths codings ≡ Ok n
once-one lengths [] n h = ap uncoded_length (one-reads lengths n h)
once-one [] (coding ∷ codings) n h = rw (ends-one h.1.0 h.1.1 coding codings h.1.2 h.1.3) (ap Ok (sym h.0))
once-one (text ∷ texts) (coding ∷ codings) n h = absurd h

said-is : (p : HeadRules) (headers : List Header) (n : Option ℕ) → body_length p headers ≡ Ok n → IsBodyLength p headers n
said-is Lenient headers n h = sym (same-length h)
said-is Strict headers n h = once-is (elements_of (codes "Content-Length") headers) (elements_of (codes "Transfer-Encoding") headers) n h

said-one : (p : HeadRules) (headers : List Header) (n : Option ℕ) → IsBodyLength p headers n → body_length p headers ≡ Ok n
said-one Lenient headers n h = ap Ok (sym h)
said-one Strict headers n h = once-one (elements_of (codes "Content-Length") headers) (elements_of (codes "Transfer-Encoding") headers) n h

-- the form of a body

sized-is : (owed : Bool) (n : Option ℕ) → IsForm (sized_form owed n) false false owed n
sized-is owed None = (refl, refl, inl refl)
sized-is owed (Some n) = by (n == 0) refl
  where
    some : (m : ℕ) → (m == 0) ≡ false → 0 < m
    some zero e = cc
    some (suc m) e = omega arith

    long : (t owes : Bool) → nat_le n 1024 ≡ t → (t && not owes) ≡ false → (1024 < n) ⊎ (owes ≡ true)
    long true true e h = inr refl
    long true false e h = cc
    long false owes e h = inl (leb-false n 1024 e)

    unowed : (owes : Bool) → not owes ≡ true → owes ≡ false
    unowed true h = cc
    unowed false h = refl

    held : (t : Bool) → (nat_le n 1024 && not owed) ≡ t → (n == 0) ≡ false → IsForm (if t then WithHead else Counted) false false owed (Some n)
    held true e nonzero = let k = and_parts (nat_le n 1024) (not owed) e in (refl, refl, n, refl, some n nonzero, leb-true n 1024 k.0, unowed owed k.1)
    held false e nonzero = (refl, refl, n, refl, some n nonzero, long (nat_le n 1024) owed refl e)

    by : (t : Bool) → (n == 0) ≡ t → IsForm (if t then Nothing else if (nat_le n 1024 && not owed) then WithHead else Counted) false false owed (Some n)
    by true e = (refl, refl, inr (ap Some (eqb-true n 0 e)))
    by false e = held (nat_le n 1024 && not owed) refl e

form-is : (upgrade coded owed : Bool) (n : Option ℕ) → IsForm (form_by upgrade coded owed n) upgrade coded owed n
form-is true coded owed n = refl
form-is false true owed n = (refl, refl)
form-is false false owed n = sized-is owed n

-- a form that the cases allow is the one that is computed
zero-or-more : (n : ℕ) → 0 < n → (n == 0) ≡ false
zero-or-more zero h = absurd (omega (arith, h))
zero-or-more (suc n) h = eqb-suc-zero n

form-one : (form : Form) (upgrade coded owed : Bool) (n : Option ℕ) → IsForm form upgrade coded owed n → form ≡ form_by upgrade coded owed n
form-one Rest upgrade coded owed n h = rw h refl
form-one Chunked upgrade coded owed n h = rw (h.0, h.1) refl
form-one Nothing upgrade coded owed n h = rw (h.0, h.1) (⊎_elim (λ none. rw none refl) (λ zero. rw zero refl) h.2)
form-one WithHead upgrade coded owed n h = rw (h.0, h.1, h.3, zero-or-more h.2 h.4, le-leb h.2 1024 h.5, h.6) refl
form-one Counted upgrade coded owed n h = rw (h.0, h.1, h.3, zero-or-more h.2 h.4, counted h.2 owed h.5) refl
  where
    counted : (m : ℕ) (owed : Bool) → (1024 < m) ⊎ (owed ≡ true) → (nat_le m 1024 && not owed) ≡ false
    counted m true h = and-none (nat_le m 1024)
      where
        and-none : (t : Bool) → (t && false) ≡ false
        and-none true = refl
        and-none false = refl
    counted m false (inl h) = rw (lt-leb m 1024 h) refl
    counted m false (inr h) = let no : false ≡ true = h in cc

-- the framing that is computed is one by the cases

none-said : (p : HeadRules) (headers : List Header) (fault : FramingFault) → body_length p headers ≡ Err fault → (n : Option ℕ) → IsBodyLength p headers n → ⊥
none-said p headers fault e n h = let no : ◌≡◌ {A = Result (Option ℕ) FramingFault} (Err fault) (Ok n) = sym e ∙ said-one p headers n h in cc

framed-is : (p : HeadRules) (v : HTTPVersion) (headers : List Header) (n : Option ℕ) → IsBodyLength p headers n → (o : Option Bool) → expectation (value_of (codes "Expect") headers) ≡ o → Frames p v headers (framed_by v headers n o)
framed-is p v headers n h None e = (n, h, e)
framed-is p v headers n h (Some owed) e = (h, e, form-is (names_upgrade headers) (names_coding headers) owed n, refl, refl, refl)

-- only an invalid length is an error of its own
only-invalid : (p : HeadRules) (headers : List Header) (fault : FramingFault) → body_length p headers ≡ Err fault → fault ≡ Invalid
only-invalid Lenient headers fault e = let no : ◌≡◌ {A = Result (Option ℕ) FramingFault} (Ok _) (Err fault) = e in cc
only-invalid Strict headers fault e = by (elements_of (codes "Content-Length") headers) (elements_of (codes "Transfer-Encoding") headers) e
  where
    same-fault : {f g : FramingFault} → ◌≡◌ {A = Result (Option ℕ) FramingFault} (Err f) (Err g) → g ≡ f
    same-fault e = cc

    chosen : (t : Bool) (n : Option ℕ) → (if t then Ok n else Err Invalid) ≡ Err fault → fault ≡ Invalid
    chosen true n e = let no : ◌≡◌ {A = Result (Option ℕ) FramingFault} (Ok n) (Err fault) = e in cc
    chosen false n e = same-fault e

    one : (r : Result (Option ℕ) InvalidLength) → uncoded_length r ≡ Err fault → fault ≡ Invalid
    one (Ok n) e = let no : ◌≡◌ {A = Result (Option ℕ) FramingFault} (Ok n) (Err fault) = e in cc
    one (Err x) e = same-fault e

    by : (lengths codings : List (List ℕ)) → strict_length lengths codings ≡ Err fault → fault ≡ Invalid
    by lengths [] e = one (one_length lengths) e
    by [] (coding ∷ codings) e = chosen (ends_with_chunked coding codings) None e
    by (length ∷ lengths) (coding ∷ codings) e = same-fault e

framed-if-is : (p : HeadRules) (v : HTTPVersion) (headers : List Header) (r : Result (Option ℕ) FramingFault) → body_length p headers ≡ r → Frames p v headers (framed_if v headers r)
framed-if-is p v headers (Err fault) e =
    let F : FramingFault → Type 0 = λ x. Frames p v headers (Err x) in
    subst F (sym (only-invalid p headers fault e)) (none-said p headers fault e)
framed-if-is p v headers (Ok n) e = framed-is p v headers n (said-is p headers n e) (expectation (value_of (codes "Expect") headers)) refl

pub framing-is : (p : HeadRules) (v : HTTPVersion) (headers : List Header) → Frames p v headers (framing p v headers)
unfolding framing
framing-is p v headers = framed-if-is p v headers (body_length p headers) refl

-- and the only one

framing-eq : (f : Framing) (form : Form) (owed : Bool) (n : Option ℕ) (last : Bool) → f.form ≡ form → f.owes_continue ≡ owed → f.body_length ≡ n → f.is_last ≡ last → f.asks_upgrade ≡ false → f.by_standard ≡ false
    → f ≡ record { form = form; owes_continue = owed; body_length = n; asks_upgrade = false; by_standard = false; is_last = last }
framing-eq f form owed n last a b c d e h =
    let g : Form → Bool → Option ℕ → Bool → Bool → Bool → Framing =
    λ w x y u v z. record { form = w; owes_continue = x; body_length = y; asks_upgrade = u; by_standard = v; is_last = z } in
    ap (λ w. g w f.owes_continue f.body_length f.asks_upgrade f.by_standard f.is_last) a
    ∙ ap (λ x. g form x f.body_length f.asks_upgrade f.by_standard f.is_last) b
    ∙ ap (λ y. g form owed y f.asks_upgrade f.by_standard f.is_last) c
    ∙ ap (λ u. g form owed n u f.by_standard f.is_last) e
    ∙ ap (λ v. g form owed n false v f.is_last) h
    ∙ ap (g form owed n false false) d

pub framing-one : (p : HeadRules) (v : HTTPVersion) (headers : List Header) (r : Result Framing FramingFault) → Frames p v headers r → r ≡ framing p v headers
unfolding framing
framing-one p v headers (Err Invalid) h = by (body_length p headers) refl
  where
    by : (r : Result (Option ℕ) FramingFault) → body_length p headers ≡ r → Err Invalid ≡ framed_if v headers r
    by (Err fault) e = ap Err (sym (only-invalid p headers fault e))
    by (Ok n) e = absurd (h n (said-is p headers n e))
framing-one p v headers (Err Expectation) h = rw (said-one p headers h.0 h.1, h.2) refl
framing-one p v headers (Ok f) h =
    rw (said-one p headers f.body_length h.0, h.1)
    (ap Ok (framing-eq f _ f.owes_continue f.body_length _ (form-one f.form (names_upgrade headers) (names_coding headers) f.owes_continue f.body_length h.2) refl refl h.3 h.4 h.5))

-- by the rules of tiny_http no head asks for an upgrade
pub asks-none : (p : HeadRules) (v : HTTPVersion) (headers : List Header) (f : Framing) → framing p v headers ≡ Ok f → f.asks_upgrade ≡ false
asks-none p v headers f e =
    let F : Result Framing FramingFault → Type 0 = λ r. Frames p v headers r in
    (subst F e (framing-is p v headers)).4

-- a head that names an upgrade is the last

last-named : (closes named old : Bool) → named ≡ true → ((closes || named) || old) ≡ true
last-named true named old e = refl
last-named false true old e = refl
last-named false false old e = cc

-- the body is the rest of the stream only where an upgrade is named
pub rest-last : (p : HeadRules) (v : HTTPVersion) (headers : List Header) (f : Framing) → Frames p v headers (Ok f) → f.form ≡ Rest → f.is_last ≡ true
rest-last p v headers f h rest =
    let F : Form → Type 0 = λ x. IsForm x (names_upgrade headers) (names_coding headers) f.owes_continue f.body_length in
    h.3 ∙ last-named (mentions (codes "close") (value_of (codes "Connection") headers)) (names_upgrade headers) _ (subst F rest h.2)

-- under Lenient only an expectation refuses a framing
pub lenient-fault : (v : HTTPVersion) (headers : List Header) (fault : FramingFault) → framing Lenient v headers ≡ Err fault → fault ≡ Expectation
lenient-fault v headers fault e = by fault (let R : Result Framing FramingFault → Type 0 = λ r. Frames Lenient v headers r in subst R e (framing-is Lenient v headers))
  where
    by : (f : FramingFault) → Frames Lenient v headers (Err f) → f ≡ Expectation
    by Invalid h = absurd (h (lenient_length headers) refl)
    by Expectation h = refl

-- a value that was found, or that of one header more, and then of those behind it
first-more : (found : Option (List ℕ)) (name : List ℕ) (h : Header) (hs : List Header) → first_value (first_value found name (h ∷ [])) name hs ≡ first_value found name (h ∷ hs)
first-more (Some value) name h hs = refl
first-more None name h hs = by-name (same_name h.field name)
  where
    by-name : (b : Bool) → first_value (if b then Some h.value else None) name hs ≡ (if b then Some h.value else value_of name hs)
    by-name true = refl
    by-name false = refl

-- behind the last header it is what was found
first-none : (found : Option (List ℕ)) (name : List ℕ) → first_value found name [] ≡ found
first-none (Some value) name = refl
first-none None name = refl

-- from one header to the next
pub first-passed : (was now : Option (List ℕ)) (name : List ℕ) (headers : List Header) (i : ℕ) (h : Header) → i < length headers → h ≡ get_or headers i h → now ≡ first_value was name (h ∷ [])
    → first_value was name (drop i headers) ≡ value_of name headers → first_value now name (drop (i + 1) headers) ≡ value_of name headers
first-passed was now name headers i h within is e so_far =
    ap (λ v. first_value v name (drop (i + 1) headers)) e ∙ first-more was name h (drop (i + 1) headers) ∙ ap (λ x. first_value was name (x ∷ drop (i + 1) headers)) is
    ∙ sym (at_drop_more (λ x. first_value was name x) headers i h within) ∙ so_far

pub first-all : (found : Option (List ℕ)) (name : List ℕ) (headers : List Header) (i : ℕ) → length headers ≤ i → first_value found name (drop i headers) ≡ value_of name headers → found ≡ value_of name headers
first-all found name headers i end so_far = sym (first-none found name) ∙ sym (at_drop_all (λ x. first_value found name x) headers i end) ∙ so_far

-- the framing by the values that were found
pub framed-found : (p : HeadRules) (v : HTTPVersion) (headers : List Header) (n : Option ℕ) (owed : Bool) (form : Form) (last : Bool) (connection coding : Option (List ℕ)) → connection ≡ value_of (codes "Connection") headers
    → coding ≡ value_of (codes "Transfer-Encoding") headers → body_length p headers ≡ Ok n → expectation (value_of (codes "Expect") headers) ≡ Some owed → form ≡ form_by (mentions (codes "upgrade") connection) (is_some coding) owed n
    → last ≡ is_last v connection → Ok (record { form = form; owes_continue = owed; body_length = n; asks_upgrade = false; by_standard = false; is_last = last }) ≡ framing p v headers
unfolding framing
framed-found p v headers n owed form last connection coding con cod body exp formed ends =
    let F : Form → Bool → Result Framing FramingFault = λ f l. Ok (record { form = f; owes_continue = owed; body_length = n; asks_upgrade = false; by_standard = false; is_last = l }) in
    ap (λ f. F f last) (formed ∙ ap (λ c. form_by (mentions (codes "upgrade") c) (is_some coding) owed n) con ∙ ap (λ c. form_by (names_upgrade headers) (is_some c) owed n) cod)
    ∙ ap (λ l. F (form_by (names_upgrade headers) (names_coding headers) owed n) l) (ends ∙ ap (λ c. is_last v c) con)
    ∙ sym (ap (λ b. framed_if v headers b) body ∙ ap (λ e. framed_by v headers n e) exp)
