-- The law of an answer's headers, kept by each header that is added.
use Rattle.std.proofs.Common.{◌≡◌, ℕ, ◌+◌, ◌≤◌, Bool, true, false, ◌&&◌, ◌||◌, List, [], ◌∷◌, ◌++◌, Option, Some, None, Result, Ok, Err, OnOk, IfErr, refl, sym, subst, ap, ◌∙◌, arith, lit≤, codes, cond, if◌then◌else◌}
use Rattle.std.proofs.lemmas.List.Folds.{list_any-append}
use Rattle.std.proofs.lemmas.List.Sums.{sum_by-cons, sum_by_push}
use Rattle.tiny_http_head.specs.declared.common.Header.{Header}
use Rattle.tiny_http_head.specs.Common.{same_name}
use Rattle.tiny_http_head.specs.Heads.{length_in}
use Rattle.tiny_http_response.specs.Answer.{Answer, has_header, text_plain}
use Rattle.tiny_http_response.specs.AddHeader.{is_reserved, is_second_type, with_value, with_length, add_header, with_headers}
use Rattle.tiny_http_response.specs.HeaderPlace.{answer_of, Adds, AddsAll}
use Rattle.tiny_http_response.specs.ResponseHeaders.{count_named, HasNone, IsResponseHeaders}

-- ---- a value that is replaced leaves the names

with_value-any : (p : Bool) (name value n : List ℕ) (h : Header) (hs : List Header) → has_header (with_value name value hs) n ≡ has_header hs n → has_header (if p then record h { value = value } ∷ hs else h ∷ with_value name value hs) n ≡ (same_name h.field n || has_header hs n)
with_value-any true name value n h hs e = refl
with_value-any false name value n h hs e = ap (λ (b : Bool). same_name h.field n || b) e

has_header-with_value : (name value n : List ℕ) (hs : List Header) → has_header (with_value name value hs) n ≡ has_header hs n
has_header-with_value name value n [] = refl
has_header-with_value name value n (h ∷ hs) = with_value-any (same_name h.field name) name value n h hs (has_header-with_value name value n hs)

-- how a header of this name counts
abbrev one_named : List ℕ → Header → ℕ
one_named n h = cond (same_name h.field n) 1 0

with_value-count : (p : Bool) (name value n : List ℕ) (h : Header) (hs : List Header) → count_named (with_value name value hs) n ≡ count_named hs n → count_named (if p then record h { value = value } ∷ hs else h ∷ with_value name value hs) n ≡ count_named (h ∷ hs) n
with_value-count true name value n h hs e = sum_by-cons (one_named n) (record h { value = value }) hs ∙ sym (sum_by-cons (one_named n) h hs)
with_value-count false name value n h hs e = sum_by-cons (one_named n) h (with_value name value hs) ∙ ap (λ (k : ℕ). one_named n h + k) e ∙ sym (sum_by-cons (one_named n) h hs)

count_named-with_value : (name value n : List ℕ) (hs : List Header) → count_named (with_value name value hs) n ≡ count_named hs n
count_named-with_value name value n [] = refl
count_named-with_value name value n (h ∷ hs) = with_value-count (same_name h.field name) name value n h hs (count_named-with_value name value n hs)

-- ---- a header put last

HasNone-push : (n : List ℕ) (hs : List Header) (h : Header) → HasNone hs n → same_name h.field n ≡ false → HasNone (hs ++ h ∷ []) n
HasNone-push n hs h none other = list_any-append (λ (x : Header). same_name x.field n) hs (h ∷ []) ∙ rw (none, other) refl

count_named-push : (n : List ℕ) (hs : List Header) (h : Header) → count_named (hs ++ h ∷ []) n ≡ count_named hs n + cond (same_name h.field n) 1 0
count_named-push n hs h = sum_by_push (one_named n) hs h

headers-none_left : (a b : Bool) → (a || b) ≡ false → a ≡ false
headers-none_left true b e = e
headers-none_left false b e = refl

none-right : (a b : Bool) → (a || b) ≡ false → b ≡ false
none-right true true e = e
none-right true false e = refl
none-right false b e = e

none-both : (a b : Bool) → a ≡ true → (a && b) ≡ false → b ≡ false
none-both true b t e = e
none-both false true t e = sym t ∙ e
none-both false false t e = refl

count_named-none : (n : List ℕ) (hs : List Header) → HasNone hs n → count_named hs n ≡ 0
count_named-none n [] none = refl
count_named-none n (h ∷ hs) none =
    let other : same_name h.field n ≡ false = headers-none_left (same_name h.field n) (has_header hs n) none in
    sum_by-cons (one_named n) h hs ∙ rw (other, count_named-none n hs (none-right (same_name h.field n) (has_header hs n) none)) refl

once-at : (p t : Bool) (k : ℕ) → p ≡ t → (t ≡ true → k ≡ 0) → k ≤ 1 → k + cond p 1 0 ≤ 1
once-at p true k e none once = rw (e, none refl) (omega arith)
once-at p false k e none once = rw e (omega arith)

once-push : (n : List ℕ) (hs : List Header) (h : Header) → count_named hs n ≤ 1 → (same_name h.field n && has_header hs n) ≡ false → count_named (hs ++ h ∷ []) n ≤ 1
once-push n hs h once first =
    rw (count_named-push n hs h) (once-at (same_name h.field n) (same_name h.field n) (count_named hs n) refl (λ t. count_named-none n hs (none-both (same_name h.field n) (has_header hs n) t first)) once)

-- ---- each kind of header

IsResponseHeaders-nil : IsResponseHeaders []
IsResponseHeaders-nil = record { connection = refl; trailer = refl; transfer_encoding = refl; upgrade = refl; content_length = refl; content_type = omega arith }

IsResponseHeaders-with_value : (name value : List ℕ) (hs : List Header) → IsResponseHeaders hs → IsResponseHeaders (with_value name value hs)
IsResponseHeaders-with_value name value hs law = record {
  connection = has_header-with_value name value (codes "Connection") hs ∙ law.connection;
  trailer = has_header-with_value name value (codes "Trailer") hs ∙ law.trailer;
  transfer_encoding = has_header-with_value name value (codes "Transfer-Encoding") hs ∙ law.transfer_encoding;
  upgrade = has_header-with_value name value (codes "Upgrade") hs ∙ law.upgrade;
  content_length = has_header-with_value name value (codes "Content-Length") hs ∙ law.content_length;
  content_type = rw (count_named-with_value name value (codes "Content-Type") hs) law.content_type;
}

IsResponseHeaders-push : (hs : List Header) (h : Header) → is_reserved h.field ≡ false → same_name h.field (codes "Content-Length") ≡ false → is_second_type h hs ≡ false → IsResponseHeaders hs → IsResponseHeaders (hs ++ h ∷ [])
IsResponseHeaders-push hs h reserved length second law =
    let past_connection = none-right (same_name h.field (codes "Connection")) _ reserved in
    let past_trailer = none-right (same_name h.field (codes "Trailer")) _ past_connection in
    record {
      connection = HasNone-push (codes "Connection") hs h law.connection (headers-none_left _ _ reserved);
      trailer = HasNone-push (codes "Trailer") hs h law.trailer (headers-none_left _ _ past_connection);
      transfer_encoding = HasNone-push (codes "Transfer-Encoding") hs h law.transfer_encoding (headers-none_left _ _ past_trailer);
      upgrade = HasNone-push (codes "Upgrade") hs h law.upgrade (none-right (same_name h.field (codes "Transfer-Encoding")) _ past_trailer);
      content_length = HasNone-push (codes "Content-Length") hs h law.content_length length;
      content_type = once-push (codes "Content-Type") hs h law.content_type second;
    }

with_length-law : (n : Option ℕ) (a : Answer) → IsResponseHeaders a.headers → IsResponseHeaders (with_length n a).headers
with_length-law None a law = law
with_length-law (Some n) a law = law

add-cases : (r l t : Bool) (h : Header) (a : Answer) → is_reserved h.field ≡ r → same_name h.field (codes "Content-Length") ≡ l → is_second_type h a.headers ≡ t → IsResponseHeaders a.headers → IsResponseHeaders (if r then a else if l then with_length (length_in h.value) a else record a { headers = if t then with_value (codes "Content-Type") h.value a.headers else a.headers ++ h ∷ [] }).headers
add-cases true l t h a reserved length second law = law
add-cases false true t h a reserved length second law = with_length-law (length_in h.value) a law
add-cases false false true h a reserved length second law = IsResponseHeaders-with_value (codes "Content-Type") h.value a.headers law
add-cases false false false h a reserved length second law = IsResponseHeaders-push a.headers h reserved length second law

-- ---- the law

pub IsResponseHeaders-none : IsResponseHeaders []
IsResponseHeaders-none = IsResponseHeaders-nil

pub IsResponseHeaders-add : (h : Header) (a : Answer) → IsResponseHeaders a.headers → IsResponseHeaders (add_header h a).headers
IsResponseHeaders-add h a law = add-cases (is_reserved h.field) (same_name h.field (codes "Content-Length")) (is_second_type h a.headers) h a refl refl refl law

pub IsResponseHeaders-added : (hs : List Header) (a : Answer) → IsResponseHeaders a.headers → IsResponseHeaders (with_headers hs a).headers
IsResponseHeaders-added [] a law = law
IsResponseHeaders-added (h ∷ hs) a law = IsResponseHeaders-added hs (add_header h a) (IsResponseHeaders-add h a law)

pub IsResponseHeaders-Adds : (h : Header) (headers more : List Header) (length known : Option ℕ) → Adds h headers length more known → IsResponseHeaders headers → IsResponseHeaders more
IsResponseHeaders-Adds h headers more length known adds law =
    let start : Answer = answer_of 0 0 false None false headers length in
    subst IsResponseHeaders (sym (ap (λ (a : Answer). a.headers) (adds 0 0 false None false))) (IsResponseHeaders-add h start law)

-- a call that adds a header, or leaves the list as it was
pub IsResponseHeaders-tried : {T : Type 0} (r : Result T Header) (h : Header) (headers more : List Header) (length known : Option ℕ) → OnOk r (Adds h headers length more known) → IfErr r (λ e. (e ≡ h) × (more ≡ headers) × (known ≡ length)) → IsResponseHeaders headers → IsResponseHeaders more
IsResponseHeaders-tried (Ok x) h headers more length known adds same law = IsResponseHeaders-Adds h headers more length known adds law
IsResponseHeaders-tried (Err e) h headers more length known adds same law = subst IsResponseHeaders (sym same.1) law

-- headers that were added one after another
pub IsResponseHeaders-AddsAll : (hs headers more : List Header) (length known : Option ℕ) → AddsAll hs headers length more known → IsResponseHeaders headers → IsResponseHeaders more
IsResponseHeaders-AddsAll hs headers more length known adds law =
    let start : Answer = answer_of 0 0 false None false headers length in
    subst IsResponseHeaders (sym (ap (λ (a : Answer). a.headers) (adds 0 0 false None false))) (IsResponseHeaders-added hs start law)

text_plain-law : IsResponseHeaders (text_plain ∷ [])
unfolding text_plain
text_plain-law = record { connection = refl; trailer = refl; transfer_encoding = refl; upgrade = refl; content_length = refl; content_type = lit≤ tt }

text_plain-tried : (pushed : Bool) → IsResponseHeaders (if pushed then text_plain ∷ [] else [])
text_plain-tried true = text_plain-law
text_plain-tried false = IsResponseHeaders-nil

-- a plain text's header, pushed to an empty list or refused
pub IsResponseHeaders-text_plain : (pushed : Bool) (list none : List Header) (h : Header) → list ≡ (if pushed then none ++ h ∷ [] else none) → none ≡ [] → h ≡ text_plain → IsResponseHeaders list
IsResponseHeaders-text_plain pushed list none h after empty is = rw (after, empty, is) (text_plain-tried pushed)
