-- What frames a body, computed, is what the definitions say.
use Rattle.std.proofs.Common.{◌≡◌, ◌≢◌, refl, sym, ap, ◌∙◌, subst, ℕ, Bool, true, false, not, ◌||◌, ◌⊎◌, List, [], ◌∷◌, ◌++◌, Option, Some, None, Result, Ok, Err, inl, inr}
use Rattle.std.specs.Prelude.{is_some, IsTrue, if◌then◌else◌}
use Rattle.std.specs.List.{list_all}
use Rattle.std.specs.Str.{bytes_eq}
use Rattle.std.proofs.lemmas.Bool.{and_parts}
use Rattle.tiny_http_head.specs.declared.content_length.InvalidLength.{InvalidLength}
use Rattle.tiny_http_head.specs.ContentLength.{IsOneLength, one_length}
use Rattle.tiny_http_head.proofs.ContentLengthLemmas.{one-is, one-reads}
use Rattle.tiny_http_head.specs.declared.common.HTTPVersion.{HTTPVersion}
use Rattle.tiny_http_head.proofs.FirstByte.{contrary}
use Rattle.tiny_http_standard_head.specs.declared.validation.Codings.{Codings}
use Rattle.tiny_http_standard_head.specs.declared.validation.Codings.TheVariants.{Absent, Others, Chunked, Behind, Bad}
use Rattle.tiny_http_standard_head.specs.declared.validation.HeadError.{HeadError}
use Rattle.tiny_http_standard_head.specs.declared.validation.HeadError.TheVariants.{InvalidHead, UnknownCoding}
use Rattle.tiny_http_standard_head.specs.Validation.{is_chunked, is_unknown_coding, is_1_0, IsBodyFraming, HasUnknownCodings}
use Rattle.tiny_http_standard_head.specs.ValidationReading.{coding_after, codings_on, body_by}

not-true : (b : Bool) → not b ≡ true → b ≡ false
not-true true h = contrary false h refl
not-true false h = refl

length-none : (lengths : List (List ℕ)) → one_length lengths ≡ Ok None → lengths ≡ []
length-none [] e = refl
length-none (t ∷ ts) e = let s = one-is (t ∷ ts) None e in let never : ◌≡◌ {A = Option ℕ} None (Some s.0) = s.1 in cc

-- codings
bad-stays : (xs : List (List ℕ)) → codings_on Bad xs ≡ Bad
bad-stays [] = refl
bad-stays (x ∷ xs) = bad-stays xs

-- others, and chunked behind them
pub record IsSplit (codings : List (List ℕ)) : Type 0 where
  pub others : List (List ℕ)
  pub last : List ℕ
  pub joins : codings ≡ others ++ last ∷ []
  pub named : list_all is_unknown_coding others ≡ true
  pub chunked : is_chunked last ≡ true

data FromOthers (codings : List (List ℕ)) : Type 0 where
  Named : codings_on Others codings ≡ Others → FromOthers codings
  Ends : codings_on Others codings ≡ Behind → IsSplit codings → FromOthers codings
  Fails : codings_on Others codings ≡ Bad → FromOthers codings

unknown-is : (x : List ℕ) → is_chunked x ≡ false → bytes_eq x [] ≡ false → is_unknown_coding x ≡ true
unknown-is x a b = rw (a, b) refl

from-others : (codings : List (List ℕ)) → FromOthers codings
from-others [] = Named refl
from-others (x ∷ xs) = by (is_chunked x) (bytes_eq x []) refl refl xs (from-others xs)
  where
    ended : (ys : List (List ℕ)) → is_chunked x ≡ true → codings_on (coding_after Others x) ys ≡ codings_on Behind ys → FromOthers (x ∷ ys)
    ended [] a e = Ends e (record { others = []; last = x; joins = refl; named = refl; chunked = a })
    ended (y ∷ ys) a e = Fails (e ∙ bad-stays ys)

    further : (ys : List (List ℕ)) → is_unknown_coding x ≡ true → codings_on (coding_after Others x) ys ≡ codings_on Others ys → FromOthers ys → FromOthers (x ∷ ys)
    further ys u e (Named h) = Named (e ∙ h)
    further ys u e (Ends h s) = Ends (e ∙ h) (record { others = x ∷ s.others; last = s.last; joins = ap (λ (r : List (List ℕ)). x ∷ r) s.joins; named = rw (u, s.named) refl; chunked = s.chunked })
    further ys u e (Fails h) = Fails (e ∙ h)

    by : (a b : Bool) → is_chunked x ≡ a → bytes_eq x [] ≡ b → (ys : List (List ℕ)) → FromOthers ys → FromOthers (x ∷ ys)
    by true b ea eb ys f = ended ys ea (rw ea refl)
    by false true ea eb ys f = Fails (rw (ea, eb) (bad-stays ys))
    by false false ea eb ys f = further ys (unknown-is x ea eb) (rw (ea, eb) refl) f

after-unknown : (x : List ℕ) → is_unknown_coding x ≡ true → coding_after Others x ≡ Others
after-unknown x h =
    let parts = and_parts (not (is_chunked x)) (not (bytes_eq x [])) h in
    rw (not-true (is_chunked x) parts.0, not-true (bytes_eq x []) parts.1) refl

first-unknown : (x : List ℕ) → is_unknown_coding x ≡ true → coding_after Absent x ≡ Others
first-unknown x h =
    let parts = and_parts (not (is_chunked x)) (not (bytes_eq x [])) h in
    rw (not-true (is_chunked x) parts.0, not-true (bytes_eq x []) parts.1) refl

behind-of : (others : List (List ℕ)) (last : List ℕ) → list_all is_unknown_coding others ≡ true → is_chunked last ≡ true → codings_on Others (others ++ last ∷ []) ≡ Behind
behind-of [] last h c = rw c refl
behind-of (x ∷ xs) last h c =
    let k = and_parts (is_unknown_coding x) (list_all is_unknown_coding xs) h in
    ap (λ (o : Codings). codings_on o (xs ++ last ∷ [])) (after-unknown x k.0) ∙ behind-of xs last k.1 c

-- what the codings are, from the first
data FromAbsent (codings : List (List ℕ)) : Type 0 where
  None-came : codings ≡ [] → FromAbsent codings
  Alone : (coding : List ℕ) → codings ≡ coding ∷ [] → is_chunked coding ≡ true → codings_on Absent codings ≡ Chunked → FromAbsent codings
  Split : (s : IsSplit codings) → s.others ≢ [] → codings_on Absent codings ≡ Behind → FromAbsent codings
  Unfit : (o : Codings) → ((o ≡ Others) ⊎ (o ≡ Bad)) → codings_on Absent codings ≡ o → FromAbsent codings

some-others : {X : Type 0} (x : X) (xs : List X) → x ∷ xs ≢ []
some-others x xs e = cc

from-absent : (codings : List (List ℕ)) → FromAbsent codings
from-absent [] = None-came refl
from-absent (x ∷ xs) = by (is_chunked x) (bytes_eq x []) refl refl xs (from-others xs)
  where
    alone : (ys : List (List ℕ)) → is_chunked x ≡ true → codings_on Absent (x ∷ ys) ≡ codings_on Chunked ys → FromAbsent (x ∷ ys)
    alone [] a e = Alone x refl a e
    alone (y ∷ ys) a e = Unfit Bad (inr refl) (e ∙ bad-stays ys)

    further : (ys : List (List ℕ)) → is_unknown_coding x ≡ true → codings_on Absent (x ∷ ys) ≡ codings_on Others ys → FromOthers ys → FromAbsent (x ∷ ys)
    further ys u e (Named h) = Unfit Others (inl refl) (e ∙ h)
    further ys u e (Ends h s) =
        Split (record { others = x ∷ s.others; last = s.last; joins = ap (λ (r : List (List ℕ)). x ∷ r) s.joins; named = rw (u, s.named) refl; chunked = s.chunked }) (some-others x s.others) (e ∙ h)
    further ys u e (Fails h) = Unfit Bad (inr refl) (e ∙ h)

    by : (a b : Bool) → is_chunked x ≡ a → bytes_eq x [] ≡ b → (ys : List (List ℕ)) → FromOthers ys → FromAbsent (x ∷ ys)
    by true b ea eb ys f = alone ys ea (rw ea refl)
    by false true ea eb ys f = Unfit Bad (inr refl) (rw (ea, eb) (bad-stays ys))
    by false false ea eb ys f = further ys (unknown-is x ea eb) (rw (ea, eb) refl) f

abbrev Read : Type 0
Read = Result (Option ℕ × Bool) HeadError

ok-no_err : {G : Type 0} (x : Option ℕ × Bool) (e : HeadError) → ◌≡◌ {A = Read} (Ok x) (Err e) → G
ok-no_err x e h = cc

-- codings without a length in version 1.1, or a refusal
abbrev coded : Bool → Option ℕ → Read → Read
coded old n r = if (old || is_some n) then Err InvalidHead else r

coded-by : (old : Bool) (n : Option ℕ) (r : Read) (k : Option ℕ × Bool) → coded old n r ≡ Ok k → (old ≡ false) × (n ≡ None) × (r ≡ Ok k)
coded-by true n r k h = ok-no_err k InvalidHead (sym h)
coded-by false (Some x) r k h = ok-no_err k InvalidHead (sym h)
coded-by false None r k h = (refl, refl, h)

invalid-no_unknown : {G : Type 0} → ◌≡◌ {A = Read} (Err InvalidHead) (Err UnknownCoding) → G
invalid-no_unknown h = cc

coded-unknown : (old : Bool) (n : Option ℕ) (r : Read) → coded old n r ≡ Err UnknownCoding → (old ≡ false) × (n ≡ None) × (r ≡ Err UnknownCoding)
coded-unknown true n r h = invalid-no_unknown h
coded-unknown false (Some x) r h = invalid-no_unknown h
coded-unknown false None r h = (refl, refl, h)

not-old : (old : Bool) → old ≡ false → IsTrue (not old)
not-old true h = contrary true refl h
not-old false h = refl

ok-pair : (n : Option ℕ) (b : Bool) (k : Option ℕ × Bool) → ◌≡◌ {A = Read} (Ok (n, b)) (Ok k) → (k.0 ≡ n) × (k.1 ≡ b)
ok-pair n b k h = let same : ◌≡◌ {A = Option ℕ × Bool} (n, b) k = cc in (ap (λ x. x.0) (sym same), ap (λ x. x.1) (sym same))

uncoded : (v : HTTPVersion) (lengths : List (List ℕ)) (n : Option ℕ) (k : Option ℕ × Bool) → one_length lengths ≡ Ok n → (k.0 ≡ n) × (k.1 ≡ false) → IsBodyFraming v lengths [] k.0 k.1
uncoded v lengths n k is p = (subst (IsOneLength lengths) (sym p.0) (one-is lengths n is), p.1)

-- what the codings make of a length
with_codings : (v : HTTPVersion) (codings : List (List ℕ)) (n : Option ℕ) (x : Codings) (r : Read) → codings_on Absent codings ≡ x → body_by v (codings_on Absent codings) (Ok n) ≡ r → body_by v x (Ok n) ≡ r
with_codings v codings n x r o h = subst (λ (y : Codings). body_by v y (Ok n) ≡ r) o h

-- a body that is framed, by the codings and the length that were found
framed : (v : HTTPVersion) (lengths codings : List (List ℕ)) (r : Result (Option ℕ) InvalidLength) (k : Option ℕ × Bool) → one_length lengths ≡ r → FromAbsent codings → body_by v (codings_on Absent codings) r ≡ Ok k → IsBodyFraming v lengths codings k.0 k.1
framed v lengths codings (Err e) k is f h = ok-no_err k InvalidHead (sym h)
framed v lengths codings (Ok n) k is (None-came c) h =
    let plain : ◌≡◌ {A = Read} (Ok (n, false)) (Ok k) = subst (λ (cs : List (List ℕ)). body_by v (codings_on Absent cs) (Ok n) ≡ Ok k) c h in
    subst (λ (cs : List (List ℕ)). IsBodyFraming v lengths cs k.0 k.1) (sym c) (uncoded v lengths n k is (ok-pair n false k plain))
framed v lengths codings (Ok n) k is (Alone x c a o) h =
    let g = coded-by (is_1_0 v) n (Ok (None, true)) k (with_codings v codings n Chunked (Ok k) o h) in
    let p = ok-pair None true k g.2 in
    let empty : lengths ≡ [] = length-none lengths (is ∙ ap Ok g.1) in
    subst (λ (cs : List (List ℕ)). IsBodyFraming v lengths cs k.0 k.1) (sym c)
    (subst (λ (ls : List (List ℕ)). IsBodyFraming v ls (x ∷ []) k.0 k.1) (sym empty) (not-old (is_1_0 v) g.0, a, refl, p.0, p.1))
framed v lengths codings (Ok n) k is (Split s some o) h =
    ok-no_err k UnknownCoding (sym (coded-by (is_1_0 v) n (Err UnknownCoding) k (with_codings v codings n Behind (Ok k) o h)).2)
framed v lengths codings (Ok n) k is (Unfit x (inl w) o) h =
    ok-no_err k InvalidHead (sym (coded-by (is_1_0 v) n (Err InvalidHead) k (with_codings v codings n Others (Ok k) (o ∙ w) h)).2)
framed v lengths codings (Ok n) k is (Unfit x (inr w) o) h =
    ok-no_err k InvalidHead (sym (coded-by (is_1_0 v) n (Err InvalidHead) k (with_codings v codings n Bad (Ok k) (o ∙ w) h)).2)

ok-no_unknown : {G : Type 0} (x : Option ℕ × Bool) → ◌≡◌ {A = Read} (Ok x) (Err UnknownCoding) → G
ok-no_unknown x h = cc

-- codings that aren't understood
unknown : (v : HTTPVersion) (lengths codings : List (List ℕ)) (r : Result (Option ℕ) InvalidLength) → one_length lengths ≡ r → FromAbsent codings → body_by v (codings_on Absent codings) r ≡ Err UnknownCoding → HasUnknownCodings v lengths codings
unknown v lengths codings (Err e) is f h = invalid-no_unknown h
unknown v lengths codings (Ok n) is (None-came c) h =
    ok-no_unknown (n, false) (subst (λ (cs : List (List ℕ)). body_by v (codings_on Absent cs) (Ok n) ≡ Err UnknownCoding) c h)
unknown v lengths codings (Ok n) is (Alone x c a o) h =
    ok-no_unknown (None, true) (coded-unknown (is_1_0 v) n (Ok (None, true)) (with_codings v codings n Chunked (Err UnknownCoding) o h)).2
unknown v lengths codings (Ok n) is (Split s some o) h =
    let g = coded-unknown (is_1_0 v) n (Err UnknownCoding) (with_codings v codings n Behind (Err UnknownCoding) o h) in
    record {
      later = not-old (is_1_0 v) g.0;
      no_length = length-none lengths (is ∙ ap Ok g.1);
      others = s.others;
      last = s.last;
      joins = s.joins;
      not_empty = some;
      named = s.named;
      chunked = s.chunked;
    }
unknown v lengths codings (Ok n) is (Unfit x (inl w) o) h =
    invalid-no_unknown (coded-unknown (is_1_0 v) n (Err InvalidHead) (with_codings v codings n Others (Err UnknownCoding) (o ∙ w) h)).2
unknown v lengths codings (Ok n) is (Unfit x (inr w) o) h =
    invalid-no_unknown (coded-unknown (is_1_0 v) n (Err InvalidHead) (with_codings v codings n Bad (Err UnknownCoding) (o ∙ w) h)).2

-- and the other way round
pub framed-reads : (v : HTTPVersion) (lengths codings : List (List ℕ)) (n : Option ℕ) (chunked : Bool) → IsBodyFraming v lengths codings n chunked → body_by v (codings_on Absent codings) (one_length lengths) ≡ Ok (n, chunked)
framed-reads v lengths [] n chunked b = rw (one-reads lengths n b.0, b.1) refl
framed-reads v [] (x ∷ xs) n chunked b = rw (b.2, b.1, not-true (is_1_0 v) b.0, b.3, b.4) refl
framed-reads v (t ∷ ts) (x ∷ xs) n chunked b = absurd b

split-reads : (others : List (List ℕ)) (last : List ℕ) → others ≢ [] → list_all is_unknown_coding others ≡ true → is_chunked last ≡ true → codings_on Absent (others ++ last ∷ []) ≡ Behind
split-reads [] last some h c = absurd (some refl)
split-reads (x ∷ xs) last some h c =
    let k = and_parts (is_unknown_coding x) (list_all is_unknown_coding xs) h in
    ap (λ (o : Codings). codings_on o (xs ++ last ∷ [])) (first-unknown x k.0) ∙ behind-of xs last k.1 c

pub unknown-reads : (v : HTTPVersion) (lengths codings : List (List ℕ)) → HasUnknownCodings v lengths codings → body_by v (codings_on Absent codings) (one_length lengths) ≡ Err UnknownCoding
unknown-reads v lengths codings u =
    let behind : codings_on Absent codings ≡ Behind = ap (codings_on Absent) u.joins ∙ split-reads u.others u.last u.not_empty u.named u.chunked in
    ap (λ (ls : List (List ℕ)). body_by v (codings_on Absent codings) (one_length ls)) u.no_length ∙ rw (behind, not-true (is_1_0 v) u.later) refl

-- WHAT WAS READ of lengths and codings, by the definitions
pub body-framed : (v : HTTPVersion) (lengths codings : List (List ℕ)) (n : Option ℕ) (chunked : Bool) → body_by v (codings_on Absent codings) (one_length lengths) ≡ Ok (n, chunked) → IsBodyFraming v lengths codings n chunked
body-framed v lengths codings n chunked h = framed v lengths codings (one_length lengths) (n, chunked) refl (from-absent codings) h

pub body-unknown : (v : HTTPVersion) (lengths codings : List (List ℕ)) → body_by v (codings_on Absent codings) (one_length lengths) ≡ Err UnknownCoding → HasUnknownCodings v lengths codings
body-unknown v lengths codings h = unknown v lengths codings (one_length lengths) refl (from-absent codings) h

pub body-invalid : (v : HTTPVersion) (lengths codings : List (List ℕ)) → body_by v (codings_on Absent codings) (one_length lengths) ≡ Err InvalidHead
    → (HasUnknownCodings v lengths codings → ⊥) × ((n : Option ℕ) (chunked : Bool) → IsBodyFraming v lengths codings n chunked → ⊥)
body-invalid v lengths codings h = (
  (λ u. invalid-no_unknown (sym h ∙ unknown-reads v lengths codings u)),
  (λ n chunked b. ok-no_err (n, chunked) InvalidHead (sym (framed-reads v lengths codings n chunked b) ∙ h)),
)

same-refusal : (x e : HeadError) → ◌≡◌ {A = Read} (Err x) (Err e) → e ≡ x
same-refusal x e h = cc

coded-fails : (old : Bool) (n : Option ℕ) (r : Read) (e : HeadError) → coded old n r ≡ Err e → (e ≡ InvalidHead) ⊎ (r ≡ Err e)
coded-fails true n r e h = inl (same-refusal InvalidHead e h)
coded-fails false (Some x) r e h = inl (same-refusal InvalidHead e h)
coded-fails false None r e h = inr h

-- a body is refused in two ways
pub body-fails : (v : HTTPVersion) (lengths : List (List ℕ)) (o : Codings) (r : Result (Option ℕ) InvalidLength) (e : HeadError) → one_length lengths ≡ r → body_by v o r ≡ Err e → (e ≡ InvalidHead) ⊎ (e ≡ UnknownCoding)
body-fails v lengths o (Err x) e is h = inl (same-refusal InvalidHead e h)
body-fails v lengths Absent (Ok n) e is h = ok-no_err (n, false) e h
body-fails v lengths Others (Ok n) e is h = elim (coded-fails (is_1_0 v) n (Err InvalidHead) e h) [ inl i ↦ inl i | inr g ↦ inl (same-refusal InvalidHead e g) ]
body-fails v lengths Chunked (Ok n) e is h = elim (coded-fails (is_1_0 v) n (Ok (None, true)) e h) [ inl i ↦ inl i | inr g ↦ ok-no_err (None, true) e g ]
body-fails v lengths Behind (Ok n) e is h = elim (coded-fails (is_1_0 v) n (Err UnknownCoding) e h) [ inl i ↦ inl i | inr g ↦ inr (same-refusal UnknownCoding e g) ]
body-fails v lengths Bad (Ok n) e is h = elim (coded-fails (is_1_0 v) n (Err InvalidHead) e h) [ inl i ↦ inl i | inr g ↦ inl (same-refusal InvalidHead e g) ]
