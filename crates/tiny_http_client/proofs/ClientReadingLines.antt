-- A status-line and a field-line, computed, are those of the client's grammar.
use Rattle.std.proofs.Common.{◌≡◌, refl, ap, ◌∙◌, ℕ, ◌<◌, ◌≤◌, ◌^◌, Bool, true, false, cond, not, ◌&&◌, List, [], ◌∷◌, ◌++◌, Option, Some, None, eq-eqb, eqb-true, arith}
use Rattle.std.specs.Prelude.{◌==◌, option_map, MatchOption, nat_le, codes, decimal}
use Rattle.std.specs.List.{list_all}
use Rattle.std.specs.Char.{digit_value}
use Rattle.std.specs.Str.{bytes_eq}
use Rattle.std.specs.Str.Parse.{digits_value, AllDigits}
use Rattle.std.proofs.lemmas.Bool.{and_parts, not-true, leb-true, le-leb}
use Rattle.std.proofs.lemmas.Slice.Eq.{bytes_eq-Decides}
use Rattle.std.proofs.lemmas.Fmt.{decimal_is_IsNumeral}
use Rattle.tiny_http_head.specs.declared.common.HTTPVersion.{HTTPVersion}
use Rattle.tiny_http_head.specs.declared.common.Header.{Header}
use Rattle.tiny_http_text.specs.Bytes.{is_blank, HasNo, HasNoBlank, has_bare_front, space, colon, point}
use Rattle.tiny_http_text.specs.QualityReading.{cut}
use Rattle.tiny_http_client.specs.ClientAnswer.{is_space, StatusLine, FieldLine}
use Rattle.tiny_http_client.specs.ClientReading.{decimal_read, with_rest, decimal_of, decimal_until, status_read, minor_read, major_read, protocol_read, status_line_read, value_read, with_field, field_line_cut, field_line_read}
use Rattle.tiny_http_head.proofs.LinesLemmas.{both}

-- A digit is no other byte.
other-byte : (b c : ℕ) (t : Bool) → (b == c) ≡ t → digit_value b < 10 → 10 ≤ digit_value c → not t ≡ true
other-byte b c true e d h = let same : digit_value b ≡ digit_value c = ap digit_value (eqb-true b c e) in absurd (omega arith)
other-byte b c false e d h = refl

pub digits-have_no : (c : ℕ) (ds : List ℕ) → 10 ≤ digit_value c → AllDigits 10 ds → HasNo c ds
digits-have_no c [] h d = refl
digits-have_no c (b ∷ bs) h d = rw (other-byte b c (b == c) refl d.0 h) (digits-have_no c bs h d.1)

pub decimal-has_no : (c n : ℕ) → 10 ≤ digit_value c → n < 2 ^ 64 → HasNo c (decimal n)
decimal-has_no c n h lt = digits-have_no c (decimal n) h (decimal_is_IsNumeral n lt).0.1

-- the first c
pub cut-front : (c : ℕ) (w rest : List ℕ) → HasNo c w → cut c (w ++ c ∷ rest) ≡ Some (w, rest)
cut-front c [] rest h = rw (eq-eqb c c refl) refl
cut-front c (b ∷ bs) rest h =
    let k = and_parts (not (b == c)) (list_all (λ x. not (x == c)) bs) h in
    rw (not-true (b == c) k.0, cut-front c bs rest k.1) refl

abbrev CutsAt : ℕ → List ℕ → List ℕ × List ℕ → Type 0
CutsAt c text l = (text ≡ l.0 ++ c ∷ l.1) × HasNo c l.0

client_line-cut-step : (c b : ℕ) (bs : List ℕ) (t : Bool) → (b == c) ≡ t → (o : Option (List ℕ × List ℕ)) → MatchOption o (Unit {0}) (CutsAt c bs)
    → MatchOption (cond t (Some ([], bs)) (option_map (λ (l : List ℕ × List ℕ). (b ∷ l.0, l.1)) o)) (Unit {0}) (CutsAt c (b ∷ bs))
client_line-cut-step c b bs true e o h = (ap (λ x. x ∷ bs) (eqb-true b c e), refl)
client_line-cut-step c b bs false e None h = tt
client_line-cut-step c b bs false e (Some l) h = (ap (λ x. b ∷ x) h.0, rw e h.1)

client_line-cut-is : (c : ℕ) (text : List ℕ) → MatchOption (cut c text) (Unit {0}) (CutsAt c text)
client_line-cut-is c [] = tt
client_line-cut-is c (b ∷ bs) = client_line-cut-step c b bs (b == c) refl (cut c bs) (client_line-cut-is c bs)

cond-some : {A : Type 0} (t : Bool) (o : Option A) (y : A) → cond t o None ≡ Some y → (t ≡ true) × (o ≡ Some y)
cond-some true o y e = (refl, e)
cond-some false o y e = cc

some-same : {A : Type 0} (x y : A) → Some x ≡ Some y → x ≡ y
some-same x y e = cc

-- a decimal_read is read as it is written, and so alone
pub number-is : (most : ℕ) (text : List ℕ) (n : ℕ) → decimal_read most text ≡ Some n → (text ≡ decimal n) × (n ≤ most)
unfolding decimal_read
number-is most text n e =
    let k = cond-some (bytes_eq text (decimal (digits_value 10 text)) && nat_le (digits_value 10 text) most) (Some (digits_value 10 text)) n e in
    let t = both (bytes_eq text (decimal (digits_value 10 text))) (nat_le (digits_value 10 text) most) k.0 in
    let same : digits_value 10 text ≡ n = some-same (digits_value 10 text) n k.1 in
    let fits : digits_value 10 text ≤ most = leb-true (digits_value 10 text) most t.1 in
    ((bytes_eq-Decides text (decimal (digits_value 10 text))).0 t.0 ∙ ap decimal same, omega arith)

pub number-one : (most n : ℕ) → n ≤ most → most < 2 ^ 64 → decimal_read most (decimal n) ≡ Some n
unfolding decimal_read
number-one most n h lt =
    let fits : n < 2 ^ 64 = omega arith in
    let value = (decimal_is_IsNumeral n fits).1 in
    rw (value, (bytes_eq-Decides (decimal n) (decimal n)).1 refl, le-leb n most h) refl

until-one : (most c n : ℕ) (rest : List ℕ) → 10 ≤ digit_value c → n ≤ most → most < 2 ^ 64 → decimal_until most c (decimal n ++ c ∷ rest) ≡ Some (n, rest)
until-one most c n rest d h lt = rw (cut-front c (decimal n) rest (decimal-has_no c n d (omega arith)), number-one most n h lt) refl

abbrev Numbers : ℕ → ℕ → List ℕ → ℕ × List ℕ → Type 0
Numbers most c text a = (text ≡ decimal a.0 ++ c ∷ a.1) × (a.0 ≤ most)

with-rest-is : (most c : ℕ) (text front rest : List ℕ) → text ≡ front ++ c ∷ rest → (o : Option ℕ) → decimal_read most front ≡ o → MatchOption (with_rest rest o) (Unit {0}) (Numbers most c text)
with-rest-is most c text front rest j None e = tt
with-rest-is most c text front rest j (Some n) e =
    let k = number-is most front n e in
    (j ∙ ap (λ x. x ++ c ∷ rest) k.0, k.1)

number-of-is : (most c : ℕ) (text : List ℕ) (o : Option (List ℕ × List ℕ)) → MatchOption o (Unit {0}) (CutsAt c text) → MatchOption (decimal_of most o) (Unit {0}) (Numbers most c text)
number-of-is most c text None h = tt
number-of-is most c text (Some l) h = with-rest-is most c text l.0 l.1 h.0 (decimal_read most l.0) refl

until-is : (most c : ℕ) (text : List ℕ) → MatchOption (decimal_until most c text) (Unit {0}) (Numbers most c text)
until-is most c text = number-of-is most c text (cut c text) (client_line-cut-is c text)

-- a text is one status line
pub status-line-one : (text : List ℕ) (v : HTTPVersion) (status : ℕ) → StatusLine text v status → status_line_read text ≡ Some (v, status)
status-line-one text v status s =
    rw (
      s.joins,
      until-one 255 point v.0 (decimal v.1 ++ space ∷ (decimal status ++ space ∷ s.phrase)) (omega arith) s.major_fits (omega arith),
      until-one 255 space v.1 (decimal status ++ space ∷ s.phrase) (omega arith) s.minor_fits (omega arith),
      until-one 65535 space status s.phrase (omega arith) s.status_fits (omega arith),
    ) refl

abbrev ClientLineIsStatus : List ℕ → HTTPVersion × ℕ → Type 0
ClientLineIsStatus text r = StatusLine text r.0 r.1

status-read-is : (text t2 : List ℕ) (major minor : ℕ) → text ≡ codes "HTTP/" ++ (decimal major ++ point ∷ (decimal minor ++ space ∷ t2)) → major ≤ 255 → minor ≤ 255
    → (o : Option (ℕ × List ℕ)) → MatchOption o (Unit {0}) (Numbers 65535 space t2) → MatchOption (status_read major minor o) (Unit {0}) (ClientLineIsStatus text)
status-read-is text t2 major minor j h k None n = tt
status-read-is text t2 major minor j h k (Some c) n =
    record { phrase = c.1; joins = j ∙ ap (λ x. codes "HTTP/" ++ (decimal major ++ point ∷ (decimal minor ++ space ∷ x))) n.0; major_fits = h; minor_fits = k; status_fits = n.1 }

minor-read-is : (text t1 : List ℕ) (major : ℕ) → text ≡ codes "HTTP/" ++ (decimal major ++ point ∷ t1) → major ≤ 255
    → (o : Option (ℕ × List ℕ)) → MatchOption o (Unit {0}) (Numbers 255 space t1) → MatchOption (minor_read major o) (Unit {0}) (ClientLineIsStatus text)
minor-read-is text t1 major j h None n = tt
minor-read-is text t1 major j h (Some b) n =
    status-read-is text b.1 major b.0 (j ∙ ap (λ x. codes "HTTP/" ++ (decimal major ++ point ∷ x)) n.0) h n.1 (decimal_until 65535 space b.1) (until-is 65535 space b.1)

major-read-is : (text t0 : List ℕ) → text ≡ codes "HTTP/" ++ t0 → (o : Option (ℕ × List ℕ)) → MatchOption o (Unit {0}) (Numbers 255 point t0) → MatchOption (major_read o) (Unit {0}) (ClientLineIsStatus text)
major-read-is text t0 j None n = tt
major-read-is text t0 j (Some a) n =
    minor-read-is text a.1 a.0 (j ∙ ap (λ x. codes "HTTP/" ++ x) n.0) n.1 (decimal_until 255 space a.1) (until-is 255 space a.1)

word-step : (text : List ℕ) (w : List ℕ × List ℕ) (t : Bool) → CutsAt 47 text w → bytes_eq w.0 (codes "HTTP") ≡ t → MatchOption (cond t (major_read (decimal_until 255 point w.1)) None) (Unit {0}) (ClientLineIsStatus text)
word-step text w false h e = tt
word-step text w true h e =
    major-read-is text w.1 (h.0 ∙ ap (λ x. x ++ 47 ∷ w.1) ((bytes_eq-Decides w.0 (codes "HTTP")).0 e)) (decimal_until 255 point w.1) (until-is 255 point w.1)

word-read-is : (text : List ℕ) (o : Option (List ℕ × List ℕ)) → MatchOption o (Unit {0}) (CutsAt 47 text) → MatchOption (protocol_read o) (Unit {0}) (ClientLineIsStatus text)
word-read-is text None h = tt
word-read-is text (Some w) h = word-step text w (bytes_eq w.0 (codes "HTTP")) h refl

pub status-line-are : (text : List ℕ) → MatchOption (status_line_read text) (Unit {0}) (ClientLineIsStatus text)
status-line-are text = word-read-is text (cut 47 text) (client_line-cut-is 47 text)

-- a text is one field line
pub field-line-one : (text : List ℕ) (h : Header) → FieldLine text h → field_line_read text ≡ Some h
field-line-one text h l = rw (l.joins, cut-front colon h.field (space ∷ h.value) l.no_colon, l.no_blank, l.one_space) refl

abbrev ClientLineIsFieldLine : List ℕ → Header → Type 0
ClientLineIsFieldLine text h = FieldLine text h

value-step : (field bs : List ℕ) (b : ℕ) (text : List ℕ) → text ≡ field ++ colon ∷ b ∷ bs → HasNo colon field → HasNoBlank field
    → (t u : Bool) → (b == space) ≡ t → has_bare_front is_space bs ≡ u → MatchOption (with_field field (cond (t && u) (Some bs) None)) (Unit {0}) (ClientLineIsFieldLine text)
value-step field bs b text j h k true true e f = record { joins = j ∙ ap (λ x. field ++ colon ∷ x ∷ bs) (eqb-true b space e); no_colon = h; no_blank = k; one_space = f }
value-step field bs b text j h k true false e f = tt
value-step field bs b text j h k false u e f = tt

value-is : (field after text : List ℕ) → text ≡ field ++ colon ∷ after → HasNo colon field → HasNoBlank field → MatchOption (with_field field (value_read after)) (Unit {0}) (ClientLineIsFieldLine text)
value-is field [] text j h k = tt
value-is field (b ∷ bs) text j h k = value-step field bs b text j h k (b == space) (has_bare_front is_space bs) refl refl

field-step : (text : List ℕ) (l : List ℕ × List ℕ) (t : Bool) → CutsAt colon text l → list_all (λ b. not (is_blank b)) l.0 ≡ t → MatchOption (cond t (with_field l.0 (value_read l.1)) None) (Unit {0}) (ClientLineIsFieldLine text)
field-step text l false h e = tt
field-step text l true h e = value-is l.0 l.1 text h.0 h.1 e

field-read-is : (text : List ℕ) (o : Option (List ℕ × List ℕ)) → MatchOption o (Unit {0}) (CutsAt colon text) → MatchOption (field_line_cut o) (Unit {0}) (ClientLineIsFieldLine text)
field-read-is text None h = tt
field-read-is text (Some l) h = field-step text l (list_all (λ b. not (is_blank b)) l.0) h refl

pub field-line-are : (text : List ℕ) → MatchOption (field_line_read text) (Unit {0}) (ClientLineIsFieldLine text)
field-line-are text = field-read-is text (cut colon text) (client_line-cut-is colon text)
