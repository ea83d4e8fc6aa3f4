-- What the standard's rules ask of a line: that its first LF ends it, and that a trailer line is a field line.
use Rattle.std.proofs.Common.{◌≡◌, refl, sym, ap, ◌∙◌, ℕ, ◌+◌, ◌-◌, ◌<◌, ◌≤◌, Bool, true, false, cond, not, ◌&&◌, ◌||◌, List, [], ◌∷◌, ◌++◌, length, take, drop, append_assoc, eqb-true, arith, length-append}
use Rattle.std.specs.Prelude.{◌==◌, nat_lt}
use Rattle.std.specs.List.{list_all}
use Rattle.std.proofs.Math.Seq.{take-append-add}
use Rattle.std.proofs.lemmas.List.{take-append-drop, length-take}
use Rattle.std.proofs.lemmas.Bool.{and_parts, ltb-true, lt-ltb}
use Rattle.httparse.specs.Grammar.{is_token_byte, is_value_byte}
use Rattle.tiny_http_text.specs.Bytes.{HasNo, colon, crlf}
use Rattle.tiny_http_text.specs.Lines.{has_crlf}
use Rattle.tiny_http_head.specs.Heads.{line_feed}
use Rattle.tiny_http_body.specs.Chunks.{longest_line, LoneFeed, FieldText}
use Rattle.tiny_http_body.specs.ChunkReading.{has_lone_feed, is_field_behind}

-- an LF stands before the first CR LF
record FeedFound (bytes : List ℕ) : Type 0 where
  text : List ℕ
  rest : List ℕ
  joins : bytes ≡ text ++ line_feed ∷ rest
  lone : has_crlf (text ++ line_feed ∷ []) ≡ false

found-longer : (a b : ℕ) (bs text : List ℕ) (rest : List ℕ) → b ∷ bs ≡ text ++ line_feed ∷ rest → (a == 13 && b == 10) ≡ false → has_crlf (text ++ line_feed ∷ []) ≡ false
    → has_crlf (a ∷ text ++ line_feed ∷ []) ≡ false
found-longer a b bs [] rest e t h = let x : b ≡ 10 = cc in let f : (a == 13 && 10 == 10) ≡ false = rw x at t in rw f refl
found-longer a b bs (c ∷ cs) rest e t h = let x : b ≡ c = cc in let f : (a == 13 && c == 10) ≡ false = rw x at t in rw f h

found-step : (a b : ℕ) (bs : List ℕ) (t u : Bool) → (a == 13 && b == 10) ≡ t → (a == 10) ≡ u → (has_lone_feed (b ∷ bs) ≡ true → FeedFound (b ∷ bs)) → cond t false (u || has_lone_feed (b ∷ bs)) ≡ true → FeedFound (a ∷ b ∷ bs)
found-step a b bs true u e f go h = cc
found-step a b bs false true e f go h = record { text = []; rest = b ∷ bs; joins = ap (λ x. x ∷ b ∷ bs) (eqb-true a 10 f); lone = refl }
found-step a b bs false false e f go h =
    let k = go h in
    record { text = a ∷ k.text; rest = k.rest; joins = ap (λ x. a ∷ x) k.joins; lone = found-longer a b bs k.text k.rest k.joins e k.lone }

found-is : (bytes : List ℕ) → has_lone_feed bytes ≡ true → FeedFound bytes
found-is [] h = cc
found-is (a ∷ []) h = record { text = []; rest = []; joins = ap (λ x. x ∷ []) (eqb-true a 10 h); lone = refl }
found-is (a ∷ b ∷ bs) h = found-step a b bs (a == 13 && b == 10) (a == 10) refl refl (found-is (b ∷ bs)) h

-- a test that isn't met
off : (t x : Bool) → cond t true x ≡ false → t ≡ false
off true x h = cc
off false x h = refl

off-rest : (t x : Bool) → cond t true x ≡ false → x ≡ false
off-rest true x h = cc
off-rest false x h = h

or-true : (u : Bool) → (u || true) ≡ true
or-true true = refl
or-true false = refl

found-at : (a b : ℕ) (bs : List ℕ) (t : Bool) → t ≡ false → has_lone_feed (b ∷ bs) ≡ true → cond t false (a == 10 || has_lone_feed (b ∷ bs)) ≡ true
found-at a b bs t e h = rw (e, h) (or-true (a == 10))

found-one : (text rest : List ℕ) → has_crlf (text ++ line_feed ∷ []) ≡ false → has_lone_feed (text ++ line_feed ∷ rest) ≡ true
found-one [] [] h = refl
found-one [] (c ∷ cs) h = refl
found-one (a ∷ []) rest h = found-at a 10 rest (a == 13 && 10 == 10) (off (a == 13 && 10 == 10) false h) (found-one [] rest refl)
found-one (a ∷ b ∷ bs) rest h =
    found-at a b (bs ++ line_feed ∷ rest) (a == 13 && b == 10) (off (a == 13 && b == 10) (has_crlf (b ∷ bs ++ line_feed ∷ [])) h) (found-one (b ∷ bs) rest (off-rest (a == 13 && b == 10) (has_crlf (b ∷ bs ++ line_feed ∷ [])) h))

no-feed : (a : ℕ) (text : List ℕ) → (a == 10) ≡ false → HasNo line_feed text → HasNo line_feed (a ∷ text)
no-feed a text e h = rw e h

no-front : (a : ℕ) (text : List ℕ) → HasNo line_feed (a ∷ text) → (a == 10) ≡ false
no-front a text h = by (a == 10) (and_parts (not (a == 10)) (list_all (λ y. not (y == 10)) text) h).0
  where
    by : (t : Bool) → not t ≡ true → t ≡ false
    by true e = cc
    by false e = refl

no-behind : (a : ℕ) (text : List ℕ) → HasNo line_feed (a ∷ text) → HasNo line_feed text
no-behind a text h = (and_parts (not (a == 10)) (list_all (λ y. not (y == 10)) text) h).1

none-at : (t u x : Bool) → u ≡ false → x ≡ false → cond t false (u || x) ≡ false
none-at true u x e f = refl
none-at false u x e f = rw (e, f) refl

none-front : (t u x : Bool) → t ≡ false → cond t false (u || x) ≡ false → u ≡ false
none-front true u x e h = cc
none-front false true x e h = cc
none-front false false x e h = refl

none-behind : (t u x : Bool) → t ≡ false → cond t false (u || x) ≡ false → x ≡ false
none-behind true u x e h = cc
none-behind false true x e h = cc
none-behind false false x e h = h

-- bytes without an LF have no LF alone
pub clear-lone : (bytes : List ℕ) → HasNo line_feed bytes → has_lone_feed bytes ≡ false
clear-lone [] h = refl
clear-lone (a ∷ []) h = no-front a [] h
clear-lone (a ∷ b ∷ bs) h = none-at (a == 13 && b == 10) (a == 10) (has_lone_feed (b ∷ bs)) (no-front a (b ∷ bs) h) (clear-lone (b ∷ bs) (no-behind a (b ∷ bs) h))

-- nor has a line of such bytes with its end
pub line-lone : (text rest : List ℕ) → HasNo line_feed text → has_lone_feed (text ++ crlf ++ rest) ≡ false
line-lone [] rest h = refl
line-lone (a ∷ []) rest h = none-at (a == 13 && 13 == 10) (a == 10) false (no-front a [] h) refl
line-lone (a ∷ b ∷ bs) rest h = none-at (a == 13 && b == 10) (a == 10) (has_lone_feed (b ∷ bs ++ crlf ++ rest)) (no-front a (b ∷ bs) h) (line-lone (b ∷ bs) rest (no-behind a (b ∷ bs) h))

-- and the other way round
pub lone-clear : (bytes : List ℕ) → has_crlf bytes ≡ false → has_lone_feed bytes ≡ false → HasNo line_feed bytes
lone-clear [] c h = refl
lone-clear (a ∷ []) c h = no-feed a [] h refl
lone-clear (a ∷ b ∷ bs) c h =
    let t = (a == 13 && b == 10) in
    let e : t ≡ false = off t (has_crlf (b ∷ bs)) c in
    no-feed a (b ∷ bs) (none-front t (a == 10) (has_lone_feed (b ∷ bs)) e h) (lone-clear (b ∷ bs) (off-rest t (has_crlf (b ∷ bs)) c) (none-behind t (a == 10) (has_lone_feed (b ∷ bs)) e h))

and-off : (s : Bool) → (s && false) ≡ false
and-off true = refl
and-off false = refl

pub lone-line : (text rest : List ℕ) → has_crlf text ≡ false → has_lone_feed (text ++ crlf ++ rest) ≡ false → HasNo line_feed text
lone-line [] rest c h = refl
lone-line (a ∷ []) rest c h = no-feed a [] (none-front (a == 13 && 13 == 10) (a == 10) false (and-off (a == 13)) h) refl
lone-line (a ∷ b ∷ bs) rest c h =
    let t = (a == 13 && b == 10) in
    let more = has_lone_feed (b ∷ bs ++ crlf ++ rest) in
    let e : t ≡ false = off t (has_crlf (b ∷ bs)) c in
    no-feed a (b ∷ bs) (none-front t (a == 10) more e h) (lone-line (b ∷ bs) rest (off-rest t (has_crlf (b ∷ bs)) c) (none-behind t (a == 10) more e h))

-- within the bytes that a line may have
pub lone-is : (bytes : List ℕ) → has_lone_feed (take (longest_line + 2) bytes) ≡ true → LoneFeed bytes
lone-is bytes h =
    let n = longest_line + 2 in
    let k = found-is (take n bytes) h in
    let few : length (take n bytes) ≤ n = simp length-take (omega arith) in
    let long : length (take n bytes) ≡ length k.text + (length k.rest + 1) = ap length k.joins ∙ simp length-append (omega arith) in
    record {
      text = k.text;
      rest = k.rest ++ drop n bytes;
      joins = sym (take-append-drop n bytes) ∙ (ap (λ x. x ++ drop n bytes) k.joins ∙ append_assoc k.text (line_feed ∷ k.rest) (drop n bytes));
      lone = k.lone;
      near = omega (arith, few, long);
    }

pub lone-one : (bytes : List ℕ) → LoneFeed bytes → has_lone_feed (take (longest_line + 2) bytes) ≡ true
lone-one bytes l =
    let left = longest_line + 1 - length l.text in
    let e : longest_line + 2 ≡ length (l.text ++ line_feed ∷ []) + left = simp length-append (omega (arith, l.near)) in
    let whole : bytes ≡ (l.text ++ line_feed ∷ []) ++ l.rest = l.joins ∙ sym (append_assoc l.text (line_feed ∷ []) l.rest) in
    let front : take (longest_line + 2) bytes ≡ l.text ++ line_feed ∷ take left l.rest =
    ap (λ x. take (longest_line + 2) x) whole ∙ (ap (λ m. take m ((l.text ++ line_feed ∷ []) ++ l.rest)) e ∙ (take-append-add (l.text ++ line_feed ∷ []) l.rest left ∙ append_assoc l.text (line_feed ∷ []) (take left l.rest))) in
    rw front (found-one l.text (take left l.rest) l.lone)

-- a field line, behind some bytes of its name or none
record FieldFound (some : Bool) (text : List ℕ) : Type 0 where
  name : List ℕ
  value : List ℕ
  joins : text ≡ name ++ colon ∷ value
  name_bytes : list_all is_token_byte name ≡ true
  value_is : list_all is_value_byte value ≡ true
  not_empty : some ≡ false → 0 < length name

field-step : (b : ℕ) (bs : List ℕ) (some t s u : Bool) → is_token_byte b ≡ t → (b == colon) ≡ s → list_all is_value_byte bs ≡ u → (is_field_behind true bs ≡ true → FieldFound true bs)
    → cond t (is_field_behind true bs) (some && (s && u)) ≡ true → FieldFound some (b ∷ bs)
field-step b bs some true s u e f g go h =
    let k = go h in
    record { name = b ∷ k.name; value = k.value; joins = ap (λ x. b ∷ x) k.joins; name_bytes = rw e k.name_bytes; value_is = k.value_is; not_empty = λ none. omega arith }
field-step b bs true false true true e f g go h =
    record { name = []; value = bs; joins = ap (λ x. x ∷ bs) (eqb-true b colon f); name_bytes = refl; value_is = g; not_empty = λ none. (cc) }
field-step b bs true false true false e f g go h = cc
field-step b bs true false false u e f g go h = cc
field-step b bs false false s u e f g go h = cc

field-found : (text : List ℕ) (some : Bool) → is_field_behind some text ≡ true → FieldFound some text
field-found [] some h = cc
field-found (b ∷ bs) some h = field-step b bs some (is_token_byte b) (b == colon) (list_all is_value_byte bs) refl refl refl (field-found bs true) h

pub field-is : (text : List ℕ) → is_field_behind false text ≡ true → FieldText text
field-is text h =
    let k = field-found text false h in
    record { name = k.name; value = k.value; joins = k.joins; name_is = rw (lt-ltb 0 (length k.name) (k.not_empty refl), k.name_bytes) refl; value_is = k.value_is }

colon-no_token : is_token_byte colon ≡ false
unfolding is_token_byte
colon-no_token = refl

field-behind : (name value : List ℕ) → list_all is_token_byte name ≡ true → list_all is_value_byte value ≡ true → is_field_behind true (name ++ colon ∷ value) ≡ true
field-behind [] value n v = rw (colon-no_token, v) refl
field-behind (b ∷ bs) value n v =
    let k = and_parts (is_token_byte b) (list_all is_token_byte bs) n in
    rw k.0 (field-behind bs value k.1 v)

field-at : (name value : List ℕ) → 0 < length name → list_all is_token_byte name ≡ true → list_all is_value_byte value ≡ true → is_field_behind false (name ++ colon ∷ value) ≡ true
field-at [] value p n v = absurd (omega arith)
field-at (b ∷ bs) value p n v =
    let k = and_parts (is_token_byte b) (list_all is_token_byte bs) n in
    rw k.0 (field-behind bs value k.1 v)

pub field-one : (text : List ℕ) → FieldText text → is_field_behind false text ≡ true
field-one text f =
    let k = and_parts (nat_lt 0 (length f.name)) (list_all is_token_byte f.name) f.name_is in
    rw (f.joins) (field-at f.name f.value (ltb-true 0 (length f.name) k.0) k.1 f.value_is)

-- such a line has a byte
pub field-not_empty : (text : List ℕ) → FieldText text → 0 < length text
field-not_empty text f = let n : length text ≡ length f.name + (length f.value + 1) = ap length f.joins ∙ simp length-append (omega arith) in omega (arith, n)
