-- Lemmas on streams that end within an event: nothing more is dispatched.
use Rattle.std.proofs.Common.{◌≡◌, refl, sym, ap, ◌∙◌, eqb-true, ℕ, ◌<◌, ◌^◌, Bool, true, false, cond, not, ◌&&◌, List, [], ◌∷◌, ◌++◌, append_assoc, Option, Some, None}
use Rattle.std.specs.Prelude.{◌==◌, codes, decimal}
use Rattle.std.specs.List.{list_all, flat_map, onto_first}
use Rattle.std.specs.Option.{IfSome}
use Rattle.std.specs.Str.{bytes_eq}
use Rattle.std.proofs.lemmas.Bool.{and_parts, false≢true, not-true}
use Rattle.tiny_http_text.specs.Bytes.{parts, colon, space}
use Rattle.tiny_http_text.specs.QualityReading.{cut}
use Rattle.tiny_http_events.specs.Browser.{IsOneLine, has_nul, with_line_feeds, line_feed, all_but_last, Dispatched, Browser, with_field, with_field_line, after_line, after_lines, reads, is_number, without_space}
use Rattle.tiny_http_events.specs.Events.{EventValue, IsEvent, IsId, field_line, field_lines, name_line, id_line, retry_line, event_text}
use Rattle.tiny_http_events.proofs.LineFeeds.{is_inner, feeds-plain, all-but-split, are_lines, or-left, or-right}
use Rattle.tiny_http_events.proofs.Reading.{one-line-append, text-lines, decimal-line}

-- whether the text has no CR and no empty line; `begun` says whether it continues a line that isn't empty
abbrev pub is_filled_text : Bool → List ℕ → Bool
is_filled_text begun [] = true
is_filled_text begun (b ∷ bs) =
    cond (b == 10) (begun && is_filled_text false bs) (not (b == 13) && is_filled_text true bs)

filled-cond : (t : Bool) (x y x' y' : Bool) → (x ≡ true → x' ≡ true) → (y ≡ true → y' ≡ true) → cond t x y ≡ true → cond t x' y' ≡ true
filled-cond true x y x' y' f g h = f h
filled-cond false x y x' y' f g h = g h

and-step : (a x x' : Bool) → (x ≡ true → x' ≡ true) → (a && x) ≡ true → (a && x') ≡ true
and-step true x x' f h = f h
and-step false x x' f h = h

-- the front of such a text is one
front-filled : (begun : Bool) (xs ys : List ℕ) → is_filled_text begun (xs ++ ys) ≡ true → is_filled_text begun xs ≡ true
front-filled begun [] ys h = refl
front-filled begun (b ∷ xs) ys h =
    filled-cond (b == 10) (begun && is_filled_text false (xs ++ ys)) (not (b == 13) && is_filled_text true (xs ++ ys)) (begun && is_filled_text false xs) (not (b == 13) && is_filled_text true xs)
    (and-step begun (is_filled_text false (xs ++ ys)) (is_filled_text false xs) (front-filled false xs ys))
    (and-step (not (b == 13)) (is_filled_text true (xs ++ ys)) (is_filled_text true xs) (front-filled true xs ys)) h

-- its line ends are LFs
feeds-step : (b : ℕ) (bs : List ℕ) (t : Bool) (begun x y : Bool) → (b == 10) ≡ t → cond t (begun && x) (not (b == 13) && y) ≡ true → ((x ≡ true) → with_line_feeds bs ≡ bs) → ((y ≡ true) → with_line_feeds bs ≡ bs) → with_line_feeds (b ∷ bs) ≡ b ∷ bs
feeds-step b bs true begun x y e h f g = feeds-plain b bs (ten b e) ∙ ap (λ z. b ∷ z) (f (and_parts begun x h).1)
  where
    ten : (c : ℕ) → (c == 10) ≡ true → (c == 13) ≡ false
    ten c e = ap (λ z. z == 13) (eqb-true c 10 e)
feeds-step b bs false begun x y e h f g =
    let k = and_parts (not (b == 13)) y h in
    feeds-plain b bs (not-true (b == 13) k.0) ∙ ap (λ z. b ∷ z) (g k.1)

feeds-same : (begun : Bool) (xs : List ℕ) → is_filled_text begun xs ≡ true → with_line_feeds xs ≡ xs
feeds-same begun [] h = refl
feeds-same begun (b ∷ bs) h =
    feeds-step b bs (b == 10) begun (is_filled_text false bs) (is_filled_text true bs) refl h (feeds-same false bs) (feeds-same true bs)

-- its lines aren't empty
abbrev is_filled : List ℕ → Bool
is_filled [] = false
is_filled (b ∷ bs) = true

abbrev are_filled : List (List ℕ) → Bool
are_filled ls = list_all is_filled ls

-- the parts of a text, after `b` if it continues a line
abbrev after_front : Bool → ℕ → List (List ℕ) → List (List ℕ)
after_front begun b ps = cond begun (onto_first b ps) ps

onto-filled : (b : ℕ) (ps : List (List ℕ)) → are_filled (all_but_last ps) ≡ true → are_filled (all_but_last (onto_first b ps)) ≡ true
onto-filled b [] h = refl
onto-filled b (p ∷ []) h = refl
onto-filled b (p ∷ q ∷ qs) h = (and_parts (is_filled p) (are_filled (all_but_last (q ∷ qs))) h).1

abbrev is_feed : ℕ → Bool
is_feed b = b == line_feed

parts-step : (begun : Bool) (a c : ℕ) (cs : List ℕ) (t : Bool) → (c == 10) ≡ t
    → cond t (begun && is_filled_text false cs) (not (c == 13) && is_filled_text true cs) ≡ true
    → (is_filled_text false cs ≡ true → are_filled (all_but_last (parts line_feed cs)) ≡ true)
    → (is_filled_text true cs ≡ true → are_filled (all_but_last (onto_first c (parts line_feed cs))) ≡ true)
    → are_filled (all_but_last (after_front begun a (cond t ([] ∷ parts line_feed cs) (onto_first c (parts line_feed cs))))) ≡ true
parts-step false a c cs true e h f g = absurd (false≢true h)
parts-step true a c cs true e h f g = ap are_filled (all-but-split is_feed (a ∷ []) cs) ∙ f h
parts-step false a c cs false e h f g = g (and_parts (not (c == 13)) (is_filled_text true cs) h).1
parts-step true a c cs false e h f g = onto-filled a (onto_first c (parts line_feed cs)) (g (and_parts (not (c == 13)) (is_filled_text true cs) h).1)

parts-filled : (begun : Bool) (a : ℕ) (xs : List ℕ) → is_filled_text begun xs ≡ true → are_filled (all_but_last (after_front begun a (parts line_feed xs))) ≡ true
parts-filled false a [] h = refl
parts-filled true a [] h = refl
parts-filled begun a (c ∷ cs) h = parts-step begun a c cs (c == 10) refl h (parts-filled false c cs) (parts-filled true c cs)

-- such lines dispatch nothing
cond-events : (t : Bool) (a b : Browser) (events : List Dispatched) → a.events ≡ events → b.events ≡ events → (cond t a b).events ≡ events
cond-events true a b events f g = f
cond-events false a b events f g = g

field-events : (name value : List ℕ) (s : Browser) → (with_field name value s).events ≡ s.events
field-events name value s =
    cond-events (bytes_eq name (codes "data")) _ _ s.events refl
    (cond-events (bytes_eq name (codes "event")) _ _ s.events refl
    (cond-events (bytes_eq name (codes "id") && not (has_nul value)) _ _ s.events refl
    (cond-events (bytes_eq name (codes "retry") && is_number value) _ _ s.events refl refl)))

line-events : (line : List ℕ) (o : Option (List ℕ × List ℕ)) (s : Browser) → (with_field_line line o s).events ≡ s.events
line-events line None s = field-events line [] s
line-events line (Some field) s = field-events field.0 (without_space field.1) s

lines-events : (ls : List (List ℕ)) (s : Browser) → are_filled ls ≡ true → (after_lines ls s).events ≡ s.events
lines-events [] s h = refl
lines-events ([] ∷ ls) s h = absurd (false≢true h)
lines-events ((b ∷ bs) ∷ ls) s h =
    lines-events ls (after_line (b ∷ bs) s) h ∙ line-events (b ∷ bs) (cut colon (b ∷ bs)) s

pub filled-events : (text : List ℕ) (s : Browser) → is_filled_text false text ≡ true → (reads s text).events ≡ s.events
unfolding reads
filled-events text s h =
    ap (λ x. (after_lines (all_but_last (parts line_feed x)) s).events) (feeds-same false text h)
    ∙ lines-events (all_but_last (parts line_feed text)) s (parts-filled false 0 text h)

-- a line with a field isn't empty
line-begun : (line rest : List ℕ) → IsOneLine line → is_filled_text true (line ++ 10 ∷ rest) ≡ is_filled_text false rest
line-begun [] rest h = refl
line-begun (b ∷ bs) rest h =
    let k = and_parts (is_inner b) (list_all is_inner bs) h in
    rw (or-right (b == 13) (b == 10) k.0, or-left (b == 13) (b == 10) k.0) (line-begun bs rest k.1)

line-filled : (line rest : List ℕ) → IsOneLine line → is_filled line ≡ true → is_filled_text false (line ++ 10 ∷ rest) ≡ is_filled_text false rest
line-filled [] rest h f = absurd (false≢true f)
line-filled (b ∷ bs) rest h f =
    let k = and_parts (is_inner b) (list_all is_inner bs) h in
    rw (or-right (b == 13) (b == 10) k.0, or-left (b == 13) (b == 10) k.0) (line-begun bs rest k.1)

field-is-filled : (name value : List ℕ) → is_filled (name ++ colon ∷ space ∷ value) ≡ true
field-is-filled [] value = refl
field-is-filled (b ∷ bs) value = refl

field-filled : (name value rest : List ℕ) → IsOneLine name → IsOneLine value → is_filled_text false (field_line name value ++ rest) ≡ is_filled_text false rest
field-filled name value rest g h =
    ap (is_filled_text false) (append_assoc {A = ℕ} (name ++ colon ∷ space ∷ value) (line_feed ∷ []) rest)
    ∙ line-filled (name ++ colon ∷ space ∷ value) rest (one-line-append name (colon ∷ space ∷ value) g h) (field-is-filled name value)

data-filled : (ls : List (List ℕ)) → are_lines ls ≡ true → is_filled_text false (flat_map (field_line (codes "data")) ls) ≡ true
data-filled [] h = refl
data-filled (l ∷ ls) h =
    let k = and_parts (list_all is_inner l) (are_lines ls) h in
    field-filled (codes "data") l (flat_map (field_line (codes "data")) ls) refl k.0 ∙ data-filled ls k.1

-- the text of an event without its last byte
abbrev body_of : EventValue → List ℕ
body_of e = name_line e.name ++ id_line e.id ++ retry_line e.retry ++ field_lines (codes "data") e.text

fields-filled : (text : List ℕ) → is_filled_text false (field_lines (codes "data") text) ≡ true
fields-filled text = data-filled (parts line_feed (with_line_feeds text)) (text-lines text)

name-filled : (name rest : List ℕ) → IsOneLine name → is_filled_text false (name_line name ++ rest) ≡ is_filled_text false rest
name-filled [] rest h = refl
name-filled (b ∷ bs) rest h = field-filled (codes "event") (b ∷ bs) rest refl h

id-filled : (id : Option (List ℕ)) (rest : List ℕ) → IfSome id IsId → is_filled_text false (id_line id ++ rest) ≡ is_filled_text false rest
id-filled None rest h = refl
id-filled (Some id) rest h = field-filled (codes "id") id rest refl h.0

retry-filled : (retry : Option ℕ) (rest : List ℕ) → IfSome retry (λ n. n < 2 ^ 32) → is_filled_text false (retry_line retry ++ rest) ≡ is_filled_text false rest
retry-filled None rest h = refl
retry-filled (Some n) rest h = field-filled (codes "retry") (decimal n) rest refl (decimal-line n h)

body-filled : (e : EventValue) → IsEvent e → is_filled_text false (body_of e) ≡ true
body-filled e ok =
    let d = field_lines (codes "data") e.text in
    ap (is_filled_text false) (append_assoc (name_line e.name ++ id_line e.id) (retry_line e.retry) d ∙ append_assoc (name_line e.name) (id_line e.id) (retry_line e.retry ++ d))
    ∙ (name-filled e.name (id_line e.id ++ (retry_line e.retry ++ d)) ok.name
    ∙ (id-filled e.id (retry_line e.retry ++ d) ok.id
    ∙ (retry-filled e.retry d ok.retry ∙ fields-filled e.text)))

abbrev tail : List ℕ → List ℕ
tail [] = []
tail (b ∷ bs) = bs

abbrev head_or : ℕ → List ℕ → ℕ
head_or d [] = d
head_or d (b ∷ bs) = b

abbrev is_cons : List ℕ → Bool
is_cons [] = false
is_cons (b ∷ bs) = true

-- a front that isn't the whole text leaves out the last byte
front-of : (body part : List ℕ) (b c : ℕ) (rest : List ℕ) → body ++ b ∷ [] ≡ part ++ c ∷ rest → (more : List ℕ) × (body ≡ part ++ more)
front-of body [] b c rest e = (body, refl)
front-of [] (p ∷ []) b c rest e = absurd (false≢true (ap (λ x. is_cons (tail x)) e))
front-of [] (p ∷ q ∷ qs) b c rest e = absurd (false≢true (ap (λ x. is_cons (tail x)) e))
front-of (a ∷ as') (p ∷ ps) b c rest e =
    let found = front-of as' ps b c rest (ap tail e) in
    let heads : a ≡ p = ap (head_or 0) e in
    (found.0, ap (λ x. x ∷ as') heads ∙ ap (λ x. p ∷ x) found.1)

pub cut-events : (e : EventValue) (part rest : List ℕ) (c : ℕ) (s : Browser) → IsEvent e → event_text e ≡ part ++ c ∷ rest → (reads s part).events ≡ s.events
unfolding event_text
cut-events e part rest c s ok h =
    let found = front-of (body_of e) part line_feed c rest h in
    let whole : is_filled_text false (part ++ found.0) ≡ true = ap (is_filled_text false) (sym found.1) ∙ body-filled e ok in
    filled-events part s (front-filled false part found.0 whole)
