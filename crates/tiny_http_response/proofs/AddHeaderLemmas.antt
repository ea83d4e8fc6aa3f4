-- Headers that are added to an answer.
use Rattle.std.proofs.Common.{◌≡◌, ℕ, ◌<◌, ◌+◌, Bool, true, false, ◌||◌, Option, Some, None, Result, Ok, Err, OnErr, List, [], ◌∷◌, ◌++◌, length, take, drop, get_or, set, refl, sym, ap, ◌∙◌, drop-cons, add-one, arith, codes, if◌then◌else◌}
use Rattle.std.proofs.lemmas.Bool.{false≢true}
use Rattle.std.proofs.Math.Seq.{take-append_seam, drop-append-add}
use Rattle.std.proofs.lemmas.List.{set_split, drop-set-lt, drop-drop}
use Rattle.tiny_http_head.specs.declared.common.Header.{Header}
use Rattle.tiny_http_head.specs.Common.{same_name}
use Rattle.tiny_http_head.specs.Heads.{length_in}
use Rattle.tiny_http_response.specs.Answer.{Answer}
use Rattle.tiny_http_response.specs.AddHeader.{is_reserved, is_second_type, is_put_last, with_value, with_length, add_header, with_headers, is_some_put_last}
use Rattle.tiny_http_response.specs.HeaderPlace.{place_of_length, place_of, placed, answer_of, Adds}
use Rattle.tiny_http_response.specs.declared.add_header.Place.{Place}
use Rattle.tiny_http_response.specs.declared.add_header.Place.TheVariants.{Nowhere, ContentType, Last}

with_value-here : (name value : List ℕ) (xs : List Header) (i : ℕ) (d : Header) → i < length xs → same_name (get_or xs i d).field name ≡ true → with_value name value (drop i xs) ≡ (record (get_or xs i d) { value = value }) ∷ drop (i + 1) xs
with_value-here name value xs i d l t = ap (with_value name value) (drop-cons xs i d l) ∙ rw t (ap (λ (k : ℕ). (record (get_or xs i d) { value = value }) ∷ drop k xs) (sym (add-one i)))

-- the value of the first header of a name was written
pub with_value-set : (name value : List ℕ) (now : List Header) (i : ℕ) (x : Header) → i < length now → with_value name value now ≡ take i now ++ with_value name value (drop i now) → same_name (get_or now i x).field name ≡ true → set now i (record (get_or now i x) { value = value }) ≡ with_value name value now
with_value-set name value now i x l passed t =
    set_split now i (record (get_or now i x) { value = value }) l ∙ ap (λ (k : ℕ). take i now ++ ((record (get_or now i x) { value = value }) ∷ drop k now)) (sym (add-one i)) ∙ ap (λ (y : List Header). take i now ++ y) (sym (with_value-here name value now i x l t)) ∙ sym passed

-- ---- where a header goes

length-placed : (n : Option ℕ) (h : Header) (a : Answer) → placed (place_of_length n) h a ≡ with_length n a
length-placed None h a = refl
length-placed (Some n) h a = refl

placed-cases : (r l t : Bool) (n : Option ℕ) (h : Header) (a : Answer) → placed (if r then Nowhere else if l then place_of_length n else if t then ContentType else Last) h a ≡ (if r then a else if l then with_length n a else record a { headers = if t then with_value (codes "Content-Type") h.value a.headers else a.headers ++ h ∷ [] })
placed-cases true l t n h a = refl
placed-cases false true t n h a = length-placed n h a
placed-cases false false true n h a = refl
placed-cases false false false n h a = refl

-- the place that was found gives the answer with the header added
pub placed-is : (p : Place) (h : Header) (a : Answer) → p ≡ place_of h a.headers → placed p h a ≡ add_header h a
placed-is p h a e = ap (λ (q : Place). placed q h a) e ∙ placed-cases (is_reserved h.field) (same_name h.field (codes "Content-Length")) (is_second_type h a.headers) (length_in h.value) h a

length-not_last : (n : Option ℕ) → Last ≡ place_of_length n → ⊥
length-not_last None e = cc
length-not_last (Some n) e = cc

last-cases : (r l t : Bool) (n : Option ℕ) → Last ≡ (if r then Nowhere else if l then place_of_length n else if t then ContentType else Last) → (if r then false else if l then false else if t then false else true) ≡ true
last-cases true l t n e = cc
last-cases false true t n e = absurd (length-not_last n e)
last-cases false false true n e = cc
last-cases false false false n e = refl

-- the last place is that of a header that is put last
pub last-is : (p : Place) (h : Header) (hs : List Header) → p ≡ Last → p ≡ place_of h hs → is_put_last h hs ≡ true
last-is p h hs last e = last-cases (is_reserved h.field) (same_name h.field (codes "Content-Length")) (is_second_type h hs) (length_in h.value) (sym last ∙ e)

-- a list that was lent whole, as it is written back
pub written_back : (n : ℕ) (new old : List Header) → length new ≡ n → take n (new ++ drop (length new) old) ≡ new
written_back n new old e = rw (← e) (take-append_seam new (drop (length new) old))

-- ---- headers that are added one after another

-- one more, of those that were left
pub added-more : (whole : ℕ → ℕ → Bool → Option (List ℕ) → Bool → Answer) (hs rest : List Header) (h : Header) (headers more : List Header) (length known : Option ℕ) → hs ≡ h ∷ rest → Adds h headers length more known → ((status threshold : ℕ) (closes : Bool) (offered : Option (List ℕ)) (contentless : Bool) → with_headers hs (answer_of status threshold closes offered contentless headers length) ≡ whole status threshold closes offered contentless) → (status threshold : ℕ) (closes : Bool) (offered : Option (List ℕ)) (contentless : Bool) → with_headers rest (answer_of status threshold closes offered contentless more known) ≡ whole status threshold closes offered contentless
added-more whole hs rest h headers more length known cut adds inv status threshold closes offered contentless =
    ap (with_headers rest) (adds status threshold closes offered contentless) ∙ ap (λ (xs : List Header). with_headers xs (answer_of status threshold closes offered contentless headers length)) (sym cut) ∙ inv status threshold closes offered contentless

-- none is left
pub added-end : (whole : ℕ → ℕ → Bool → Option (List ℕ) → Bool → Answer) (hs headers : List Header) (known : Option ℕ) → length hs ≡ 0 → ((status threshold : ℕ) (closes : Bool) (offered : Option (List ℕ)) (contentless : Bool) → with_headers hs (answer_of status threshold closes offered contentless headers known) ≡ whole status threshold closes offered contentless) → (status threshold : ℕ) (closes : Bool) (offered : Option (List ℕ)) (contentless : Bool) → answer_of status threshold closes offered contentless headers known ≡ whole status threshold closes offered contentless
added-end whole [] headers known none inv status threshold closes offered contentless = inv status threshold closes offered contentless
added-end whole (h ∷ hs) headers known none inv status threshold closes offered contentless = absurd (omega (arith, none))

or-left : (a b : Bool) → a ≡ true → (a || b) ≡ true
or-left true b e = refl
or-left false b e = absurd (false≢true e)

or-right : (a b : Bool) → b ≡ true → (a || b) ≡ true
or-right true b e = refl
or-right false b e = e

-- one of the rest is put last, or the first is
pub added-some_more : (status threshold : ℕ) (closes : Bool) (offered : Option (List ℕ)) (contentless : Bool) (P : Type 0) (hs rest : List Header) (h : Header) (headers more : List Header) (length known : Option ℕ) → hs ≡ h ∷ rest → Adds h headers length more known → (is_some_put_last hs (answer_of status threshold closes offered contentless headers length) ≡ true → P) → is_some_put_last rest (answer_of status threshold closes offered contentless more known) ≡ true → P
added-some_more status threshold closes offered contentless P hs rest h headers more length known cut adds inv some =
    let start : Answer = answer_of status threshold closes offered contentless headers length in
    inv (ap (λ (xs : List Header). is_some_put_last xs start) cut ∙ or-right (is_put_last h headers) (is_some_put_last rest (add_header h start)) (ap (is_some_put_last rest) (sym (adds status threshold closes offered contentless)) ∙ some))

pub some-first : (status threshold : ℕ) (closes : Bool) (offered : Option (List ℕ)) (contentless : Bool) (P : Type 0) (hs rest : List Header) (h : Header) (headers : List Header) (length : Option ℕ) → hs ≡ h ∷ rest → is_put_last h headers ≡ true → (is_some_put_last hs (answer_of status threshold closes offered contentless headers length) ≡ true → P) → P
some-first status threshold closes offered contentless P hs rest h headers length cut last inv =
    let start : Answer = answer_of status threshold closes offered contentless headers length in
    inv (ap (λ (xs : List Header). is_some_put_last xs start) cut ∙ or-left (is_put_last h headers) (is_some_put_last rest (add_header h start)) last)

pub at_err : {T E : Type 0} (r : Result T E) (P : Type 0) → P → OnErr r P
at_err (Ok x) P p = tt
at_err (Err e) P p = p

-- ---- in one room: the list in front, and the headers that are not added yet behind it

behind-joined : (xs all : List Header) (y : Header) → drop (length xs + 1) (xs ++ set (drop (length xs) all) 0 y) ≡ drop (length xs + 1) all
behind-joined xs all y =
    drop-append-add xs (set (drop (length xs) all) 0 y) 1 ∙ drop-set-lt 1 (drop (length xs) all) 0 y (omega arith) ∙ drop-drop 1 (length xs) all

-- what follows the one that was written
pub behind-written : (at : ℕ) (xs rest all : List Header) (y : Header) → length xs ≡ at → rest ≡ drop at all → drop (at + 1) (xs ++ set rest 0 y) ≡ drop (at + 1) all
behind-written at xs rest all y e is = rw (is, ← e) (behind-joined xs all y)

-- the first of those that are left
pub left-first : (xs ys : List Header) (i : ℕ) (h : Header) → i < length xs → drop (i + 1) ys ≡ drop (i + 1) xs → drop i xs ≡ get_or xs i h ∷ drop (i + 1) ys
left-first xs ys i h within behind = drop-cons xs i h within ∙ ap (λ (k : ℕ). get_or xs i h ∷ drop k xs) (sym (add-one i)) ∙ ap (λ (rest : List Header). get_or xs i h ∷ rest) (sym behind)
