-- What lines are handed out as.
use Rattle.std.proofs.Common.{◌≡◌, refl, sym, ap, ◌∙◌, subst, ℕ, suc, inl, inr, ◌||◌, ◌+◌, ◌/◌, ◌%◌, ◌-◌, ◌<◌, ◌≤◌, Bool, true, false, List, [], ◌∷◌, ◌++◌, length, drop, get_or, append-nil, arith}
use Rattle.std.specs.Prelude.{nat_lt, IsTrue, codes, if◌then◌else◌}
use Rattle.std.specs.Str.{bytes_eq}
use Rattle.std.specs.Char.{is_ascii_digit, is_ascii_graphic}
use Rattle.httparse.specs.Grammar.{is_token_byte, is_token, is_value_byte, is_ows}
use Rattle.std.proofs.lemmas.Bool.Decides.{nat_tests}
use Rattle.std.specs.List.{list_all}
use Rattle.std.proofs.lemmas.Bool.{and_parts}
use Rattle.std.proofs.lemmas.List.{drop_all}
use Rattle.std.proofs.lemmas.List.Folds.{list_all-append}
use Rattle.tiny_http_text.specs.Bytes.{is_ascii, AreAscii, HasNo, trimmed}
use Rattle.tiny_http_text.proofs.BytesLemmas.{trims-one}
use Rattle.tiny_http_head.specs.declared.common.HTTPVersion.{HTTPVersion}
use Rattle.tiny_http_head.proofs.HeaderTextsLemmas.{token-bytes}
use Rattle.tiny_http_head.proofs.FirstByte.{all-without, contrary, not-without, one-first}
use Rattle.tiny_http_standard_head.specs.Lines.{IsVersion, is_origin_form, is_asterisk_form, IsAbsoluteForm, IsTarget, RequestLine, IsNoRequestLine, must_be_ascii, FieldLine, IsNoFieldLine, uppercase_hexadecimal_digit, percent_encoded_byte, percent_encoded}
use Rattle.tiny_http_standard_head.specs.Hosts.{percent}

-- a text of ASCII bytes is handed out as it is
pub encoded-ascii : (value : List ℕ) → list_all is_ascii value ≡ true → percent_encoded value ≡ value
encoded-ascii [] h = refl
encoded-ascii (b ∷ bs) h =
    let k = and_parts (is_ascii b) (list_all is_ascii bs) h in
    rw k.0 (ap (λ (r : List ℕ). b ∷ r) (encoded-ascii bs k.1))

-- a digit is zero and its number
digit-is : (d : ℕ) → is_ascii_digit d ≡ true → (d ≡ 48 + (d - 48)) × (d - 48 < 10)
digit-is d h =
    let low : 48 ≤ d = grind (nat_tests, arith, h) in
    let high : d ≤ 57 = grind (nat_tests, arith, h) in
    (omega (arith, low), omega (arith, high))

-- eight bytes
eight : (t : List ℕ) → 8 ≤ length t → length t < 9 → t ≡ get_or t 0 0 ∷ get_or t 1 0 ∷ get_or t 2 0 ∷ get_or t 3 0 ∷ get_or t 4 0 ∷ get_or t 5 0 ∷ get_or t 6 0 ∷ get_or t 7 0 ∷ []
eight [] le lt = absurd (omega arith)
eight (a ∷ []) le lt = absurd (omega arith)
eight (a ∷ b ∷ []) le lt = absurd (omega arith)
eight (a ∷ b ∷ c ∷ []) le lt = absurd (omega arith)
eight (a ∷ b ∷ c ∷ d ∷ []) le lt = absurd (omega arith)
eight (a ∷ b ∷ c ∷ d ∷ e ∷ []) le lt = absurd (omega arith)
eight (a ∷ b ∷ c ∷ d ∷ e ∷ f ∷ []) le lt = absurd (omega arith)
eight (a ∷ b ∷ c ∷ d ∷ e ∷ f ∷ g ∷ []) le lt = absurd (omega arith)
eight (a ∷ b ∷ c ∷ d ∷ e ∷ f ∷ g ∷ h ∷ []) le lt = refl
eight (a ∷ b ∷ c ∷ d ∷ e ∷ f ∷ g ∷ h ∷ i ∷ is) le lt = absurd (omega arith)

pub version-is : (t : List ℕ) → 8 ≤ length t → length t < 9 → get_or t 0 0 ≡ 72 → get_or t 1 0 ≡ 84 → get_or t 2 0 ≡ 84 → get_or t 3 0 ≡ 80 → get_or t 4 0 ≡ 47 → get_or t 6 0 ≡ 46
    → is_ascii_digit (get_or t 5 0) ≡ true → is_ascii_digit (get_or t 7 0) ≡ true → IsVersion t (get_or t 5 0 - 48, get_or t 7 0 - 48)
version-is t le lt h u w p s point major minor =
    let a = digit-is (get_or t 5 0) major in
    let b = digit-is (get_or t 7 0) minor in
    record {
      joins = eight t le lt ∙ rw (h, u, w, p, s, point) (ap (λ (x : ℕ). 72 ∷ 84 ∷ 84 ∷ 80 ∷ 47 ∷ x ∷ 46 ∷ get_or t 7 0 ∷ []) a.0 ∙ ap (λ (y : ℕ). 72 ∷ 84 ∷ 84 ∷ 80 ∷ 47 ∷ (48 + (get_or t 5 0 - 48)) ∷ 46 ∷ y ∷ []) b.0);
      major = a.1;
      minor = b.1;
    }

digit-ascii : (d : ℕ) → d < 16 → is_ascii (uppercase_hexadecimal_digit d) ≡ true
digit-ascii d lt = by (nat_lt d 10) refl
  where
    by : (t : Bool) → nat_lt d 10 ≡ t → is_ascii (if t then 48 + d else 65 + (d - 10)) ≡ true
    by true e = grind (nat_tests, arith, lt)
    by false e = grind (nat_tests, arith, lt)

byte-ascii : (b : ℕ) → b < 256 → list_all is_ascii (percent_encoded_byte b) ≡ true
byte-ascii b lt = by (is_ascii b) refl
  where
    by : (t : Bool) → is_ascii b ≡ t → list_all is_ascii (if t then b ∷ [] else percent ∷ uppercase_hexadecimal_digit (b / 16) ∷ uppercase_hexadecimal_digit (b % 16) ∷ []) ≡ true
    by true e = rw e refl
    by false e = rw (digit-ascii (b / 16) (omega arith), digit-ascii (b % 16) (omega arith)) refl

-- what is handed out is ASCII
pub encoded-is_ascii : (value : List ℕ) → ((i : ℕ) → get_or value i 0 < 256) → AreAscii (percent_encoded value)
encoded-is_ascii [] fits = refl
encoded-is_ascii (b ∷ bs) fits = list_all-append is_ascii (percent_encoded_byte b) (percent_encoded bs) ∙ rw (byte-ascii b (fits 0), encoded-is_ascii bs (λ i. fits (suc i))) refl

pub all-encoded : (done value : List ℕ) (n : ℕ) → length value ≤ n → done ++ percent_encoded (drop n value) ≡ percent_encoded value → done ≡ percent_encoded value
all-encoded done value n le h = sym (append-nil done) ∙ ap (λ (r : List ℕ). done ++ percent_encoded r) (sym (drop_all n value le)) ∙ h

pub space-no_token : is_token_byte 32 ≡ false
unfolding is_token_byte
space-no_token = refl

-- the method and the rest of a request line
pub method-rest : (text m rest method target : List ℕ) (v : HTTPVersion) → text ≡ m ++ 32 ∷ rest → HasNo 32 m → (r : RequestLine text method target v) → (method ≡ m) × (target ++ 32 ∷ r.version_text ≡ rest)
method-rest text m rest method target v joins without r =
    one-first 32 method m (target ++ 32 ∷ r.version_text) rest (all-without is_token_byte 32 method space-no_token (token-bytes method r.method_is)) without (sym r.joins ∙ joins)

pub target-version : (text rest t vt method target : List ℕ) (v : HTTPVersion) (r : RequestLine text method target v) → target ++ 32 ∷ r.version_text ≡ rest → rest ≡ t ++ 32 ∷ vt → HasNo 32 t → (target ≡ t) × (r.version_text ≡ vt)
target-version text rest t vt method target v r same joins without =
    one-first 32 target t r.version_text vt (all-without is_ascii_graphic 32 target refl r.target_is.0) without (same ∙ joins)

-- why a text is no request line
pub no-space : (text : List ℕ) → HasNo 32 text → IsNoRequestLine text
no-space text without method target v r = not-without 32 method (target ++ 32 ∷ r.version_text) (subst (HasNo 32) r.joins without)

pub one-space : (text m rest : List ℕ) → text ≡ m ++ 32 ∷ rest → HasNo 32 m → HasNo 32 rest → IsNoRequestLine text
one-space text m rest joins without none method target v r =
    not-without 32 target r.version_text (subst (HasNo 32) (sym (method-rest text m rest method target v joins without r).1) none)

pub line-parts : (text m rest t vt : List ℕ) → text ≡ m ++ 32 ∷ rest → HasNo 32 m → rest ≡ t ++ 32 ∷ vt → HasNo 32 t → (method target : List ℕ) (v : HTTPVersion) → RequestLine text method target v
    → IsTrue (is_token m) × IsTarget m t × IsVersion vt v
line-parts text m rest t vt joins without more no_more method target v r =
    let a = method-rest text m rest method target v joins without r in
    let b = target-version text rest t vt method target v r a.1 more no_more in
    (subst (λ (x : List ℕ). IsTrue (is_token x)) a.0 r.method_is, subst (λ (x : List ℕ). IsTarget x t) a.0 (subst (IsTarget method) b.0 r.target_is), subst (λ (x : List ℕ). IsVersion x v) b.1 r.version_is)

pub colon-no_token : is_token_byte 58 ≡ false
unfolding is_token_byte
colon-no_token = refl

-- why a text is no field line
pub no-colon : (text : List ℕ) → HasNo 58 text → IsNoFieldLine text
no-colon text without field value l = not-without 58 field l.padded (subst (HasNo 58) l.joins without)

pub field-parts : (text f padded : List ℕ) → text ≡ f ++ 58 ∷ padded → HasNo 58 f → (field value : List ℕ) → FieldLine text field value
    → IsTrue (is_token f) × IsTrue (list_all is_value_byte padded) × (IsTrue (must_be_ascii f) → AreAscii (trimmed is_ows padded))
field-parts text f padded joins without field value l =
    let a = one-first 58 field f l.padded padded (all-without is_token_byte 58 field colon-no_token (token-bytes field l.field_is)) without (sym l.joins ∙ joins) in
    let same : value ≡ trimmed is_ows padded = sym (trims-one is_ows l.padded value l.trims) ∙ ap (trimmed is_ows) a.1 in (
      subst (λ (x : List ℕ). IsTrue (is_token x)) a.0 l.field_is,
      subst (λ (x : List ℕ). IsTrue (list_all is_value_byte x)) a.1 l.bytes,
      λ validated. subst AreAscii same (l.ascii (subst (λ (x : List ℕ). IsTrue (must_be_ascii x)) (sym a.0) validated)),
    )

-- a target that can be in absolute-form alone
pub absolute-target : (method target : List ℕ) → list_all is_ascii_graphic target ≡ true → bytes_eq method (codes "CONNECT") ≡ false → (is_origin_form target || is_asterisk_form method target) ≡ false → (r : Bool)
    → (IsTrue r → IsAbsoluteForm target) × (IsAbsoluteForm target → IsTrue r) → (IsTrue r → IsTarget method target) × (IsTarget method target → IsTrue r)
absolute-target method target visible other neither r form = (
  (λ good. (visible, rw other (inr (form.0 good)))),
  (λ t. elim (rw other at t.1) [ inl e ↦ contrary (is_origin_form target || is_asterisk_form method target) e neither | inr absolute ↦ form.1 absolute ]),
)

-- visible bytes are ASCII
pub visible-ascii : (text : List ℕ) → list_all is_ascii_graphic text ≡ true → AreAscii text
visible-ascii [] h = refl
visible-ascii (b ∷ bs) h =
    let k = and_parts (is_ascii_graphic b) (list_all is_ascii_graphic bs) h in
    let low : is_ascii b ≡ true = grind (nat_tests, arith, k.0) in
    rw (low, visible-ascii bs k.1) refl
