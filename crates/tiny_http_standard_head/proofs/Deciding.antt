-- Each text is a line or isn't, and each head has a judgement.
use Rattle.std.proofs.Common.{◌≡◌, ◌≢◌, refl, sym, ap, ◌∙◌, subst, ℕ, suc, ◌+◌, ◌-◌, ◌<◌, ◌≤◌, ◌⊎◌, Bool, true, false, ◌||◌, List, [], ◌∷◌, ◌++◌, length, take, drop, get_or, inl, inr, eqb-true, length-append, arith}
use Rattle.std.specs.Prelude.{◌==◌, IsTrue, MatchBool, codes}
use Rattle.std.specs.List.{list_all}
use Rattle.std.specs.Str.{bytes_eq}
use Rattle.std.specs.Char.{is_ascii_digit, is_ascii_graphic}
use Rattle.std.proofs.lemmas.Bool.{cases_lt}
use Rattle.std.proofs.lemmas.Bool.Decides.{nat_tests}
use Rattle.std.proofs.Math.Seq.{get_or-append_seam}
use Rattle.httparse.specs.Grammar.{is_token, is_value_byte, is_ows}
use Rattle.tiny_http_text.specs.Bytes.{HasNo, is_ascii, trimmed, colon}
use Rattle.tiny_http_text.proofs.BytesLemmas.{trims-is}
use Rattle.tiny_http_head.specs.Common.{same_name}
use Rattle.tiny_http_head.specs.Heads.{length_of}
use Rattle.tiny_http_head.specs.declared.common.HTTPVersion.{HTTPVersion}
use Rattle.tiny_http_head.proofs.FirstByte.{contrary}
use Rattle.tiny_http_standard_head.specs.Hosts.{IsBracketedAddress, is_registered_name, is_address_byte, IsHost, IsHostWithPort, IsHostValue, IsAuthority, is_port_number}
use Rattle.tiny_http_standard_head.specs.Lines.{IsVersion, authority_in, HasScheme, IsAbsoluteForm, IsTarget, is_origin_form, is_asterisk_form, RequestLine, IsNoRequestLine, must_be_ascii, FieldLine, IsNoFieldLine}
use Rattle.tiny_http_standard_head.proofs.HostsLemmas.{inside, literal-is, no-port, host-port, authority-port, number-digits}
use Rattle.tiny_http_standard_head.proofs.LinesLemmas.{version-is, no-space, one-space, line-parts, no-colon, field-parts}

abbrev pub Decided : Type 0 → Type 0
Decided A = A ⊎ (A → ⊥)

pub dec-true : (b : Bool) → Decided (IsTrue b)
dec-true true = inl refl
dec-true false = inr (λ e. contrary false e refl)

dec-both : {A B : Type 0} → Decided A → Decided B → Decided (A × B)
dec-both (inl a) (inl b) = inl (a, b)
dec-both (inl a) (inr n) = inr (λ p. n p.1)
dec-both (inr n) b = inr (λ p. n p.0)

dec-either : {A B : Type 0} → Decided A → Decided B → Decided (A ⊎ B)
dec-either (inl a) b = inl (inl a)
dec-either (inr n) (inl b) = inl (inr b)
dec-either (inr n) (inr m) = inr (λ e. elim e [ inl a ↦ n a | inr b ↦ m b ])

-- a text cut at the first such byte, and at the last one
pub cut-first : (c : ℕ) (text : List ℕ) → HasNo c text ⊎ ((a : List ℕ) × (b : List ℕ) × (text ≡ a ++ c ∷ b) × HasNo c a)
cut-first c [] = inl refl
cut-first c (x ∷ xs) = by (x == c) refl (cut-first c xs)
  where
    by : (t : Bool) → (x == c) ≡ t → HasNo c xs ⊎ ((a : List ℕ) × (b : List ℕ) × (xs ≡ a ++ c ∷ b) × HasNo c a) → HasNo c (x ∷ xs) ⊎ ((a : List ℕ) × (b : List ℕ) × (x ∷ xs ≡ a ++ c ∷ b) × HasNo c a)
    by true e w = inr ([], xs, ap (λ (y : ℕ). y ∷ xs) (eqb-true x c e), refl)
    by false e (inl h) = inl (rw (e, h) refl)
    by false e (inr w) = inr (x ∷ w.0, w.1, ap (λ (r : List ℕ). x ∷ r) w.2, rw (e, w.3) refl)

pub cut-last : (c : ℕ) (text : List ℕ) → HasNo c text ⊎ ((a : List ℕ) × (b : List ℕ) × (text ≡ a ++ c ∷ b) × HasNo c b)
cut-last c [] = inl refl
cut-last c (x ∷ xs) = by (x == c) refl (cut-last c xs)
  where
    by : (t : Bool) → (x == c) ≡ t → HasNo c xs ⊎ ((a : List ℕ) × (b : List ℕ) × (xs ≡ a ++ c ∷ b) × HasNo c b) → HasNo c (x ∷ xs) ⊎ ((a : List ℕ) × (b : List ℕ) × (x ∷ xs ≡ a ++ c ∷ b) × HasNo c b)
    by t e (inr w) = inr (x ∷ w.0, w.1, ap (λ (r : List ℕ). x ∷ r) w.2, w.3)
    by true e (inl h) = inr ([], xs, ap (λ (y : ℕ). y ∷ xs) (eqb-true x c e), h)
    by false e (inl h) = inl (rw (e, h) refl)

dec-not_empty : (text : List ℕ) → Decided (text ≢ [])
dec-not_empty [] = inr (λ h. h refl)
dec-not_empty (x ∷ xs) = inl (λ e. nothing x xs e)
  where
    nothing : (x : ℕ) (xs : List ℕ) → x ∷ xs ≡ [] → ⊥
    nothing x xs e = cc

-- an address in brackets has three bytes at least, and its brackets
literal-ends : (text : List ℕ) → IsBracketedAddress text → (3 ≤ length text) × (get_or text 0 0 ≡ 91) × (get_or text (length text - 1) 0 ≡ 93)
literal-ends text l =
    let whole : text ≡ 91 ∷ (l.address ++ 93 ∷ []) = l.joins in
    let n : length (l.address ++ 93 ∷ []) ≡ length l.address + 1 = length-append l.address (93 ∷ []) in
    let end : suc (length (l.address ++ 93 ∷ [])) - 1 ≡ suc (length l.address) = omega (arith, n) in
    let some = not-short l.address l.not_empty in
    let T : List ℕ → Type 0 = λ t. (3 ≤ length t) × (get_or t 0 0 ≡ 91) × (get_or t (length t - 1) 0 ≡ 93) in
    subst T (sym whole) (omega (arith, n, some), refl, ap (λ (i : ℕ). get_or (91 ∷ (l.address ++ 93 ∷ [])) i 0) end ∙ get_or-append_seam l.address 93 [] 0)
  where
    not-short : (xs : List ℕ) → xs ≢ [] → 0 < length xs
    not-short [] h = absurd (h refl)
    not-short (x ∷ xs) h = omega arith

dec-number : (a b : ℕ) → Decided (a ≡ b)
dec-number a b = by (a == b) refl
  where
    by : (t : Bool) → (a == b) ≡ t → Decided (a ≡ b)
    by true e = inl (eqb-true a b e)
    by false e = inr (λ same. grind (arith, e, same))

dec-literal : (text : List ℕ) → Decided (IsBracketedAddress text)
dec-literal text = elim (cases_lt (length text) 3) [
  | inl short ↦ inr (λ l. let e = (literal-ends text l).0 in absurd (omega (arith, short, e)))
  | inr long ↦ elim (dec-number (get_or text 0 0) 91) [
    | inr other ↦ inr (λ l. other (literal-ends text l).1)
    | inl first ↦ elim (dec-number (get_or text (length text - 1) 0) 93) [
      | inr other ↦ inr (λ l. other (literal-ends text l).2)
      | inl last ↦
          let is = literal-is text long first last (list_all is_address_byte (inside text)) refl in
          elim (dec-true (list_all is_address_byte (inside text))) [ inl good ↦ inl (is.0 good) | inr bad ↦ inr (λ l. bad (is.1 l)) ]
    ]
  ]
]

pub dec-host : (text : List ℕ) → Decided (IsHost text)
dec-host text = dec-either (dec-literal text) (dec-both (dec-not_empty text) (dec-true (is_registered_name text)))

pub dec-empty : (text : List ℕ) → Decided (text ≡ [])
dec-empty [] = inl refl
dec-empty (x ∷ xs) = inr (λ e. nothing x xs e)
  where
    nothing : (x : ℕ) (xs : List ℕ) → x ∷ xs ≡ [] → ⊥
    nothing x xs e = cc

dec-host_with_port : (text : List ℕ) → Decided (IsHostWithPort text)
dec-host_with_port text = elim (dec-host text) [
  | inl host ↦ inl (inl host)
  | inr unlike ↦ elim (cut-last colon text) [
    | inl none ↦ inr (λ v. elim v [ inl h ↦ unlike h | inr w ↦ no-port text none w.0 w.1 w.2 ])
    | inr w ↦ elim (dec-both (dec-host w.0) (dec-true (list_all is_ascii_digit w.1))) [
      | inl good ↦ inl (inr (w.0, w.1, record { joins = w.2; is_host = good.0; digits = good.1 }))
      | inr bad ↦ inr (λ v. bad (host-port text w.0 w.1 unlike w.2 w.3 v))
    ]
  ]
]

pub dec-host_value : (text : List ℕ) → Decided (IsHostValue text)
dec-host_value text = dec-either (dec-empty text) (dec-host_with_port text)

pub dec-authority : (text : List ℕ) → Decided (IsAuthority text)
dec-authority text = elim (cut-last colon text) [
  | inl none ↦ inr (λ a. no-port text none a.0 a.1 a.2)
  | inr w ↦ elim (dec-both (dec-host w.0) (dec-true (is_port_number (length_of w.1)))) [
    | inl good ↦ inl (w.0, w.1, record { joins = w.2; is_host = good.0; digits = number-digits w.1 good.1 }, good.1)
    | inr bad ↦ inr (λ a. bad (authority-port text w.0 w.1 w.2 w.3 a))
  ]
]

dec-match : {A B : Type 0} (b : Bool) → Decided A → Decided B → Decided (MatchBool b A B)
dec-match true a b = a
dec-match false a b = b

dec-scheme : (scheme target : List ℕ) → Decided (HasScheme scheme target)
dec-scheme scheme target = elim (dec-both (dec-true (same_name (take (length scheme) target) scheme)) (dec-host_with_port (authority_in (drop (length scheme) target)))) [
  | inl good ↦ inl (record { front = good.0; authority = good.1 })
  | inr bad ↦ inr (λ h. bad (h.front, h.authority))
]

dec-absolute : (target : List ℕ) → Decided (IsAbsoluteForm target)
dec-absolute target = dec-either (dec-scheme (codes "http://") target) (dec-scheme (codes "https://") target)

pub dec-target : (method target : List ℕ) → Decided (IsTarget method target)
dec-target method target =
    dec-both (dec-true (list_all is_ascii_graphic target))
    (dec-match (bytes_eq method (codes "CONNECT")) (dec-authority target) (dec-either (dec-true (is_origin_form target || is_asterisk_form method target)) (dec-absolute target)))

-- the bytes of a version
abbrev AreVersionBytes : List ℕ → Type 0
AreVersionBytes t =
    (get_or t 0 0 ≡ 72)
    × ((get_or t 1 0 ≡ 84) × ((get_or t 2 0 ≡ 84) × ((get_or t 3 0 ≡ 80) × ((get_or t 4 0 ≡ 47) × ((get_or t 6 0 ≡ 46) × (IsTrue (is_ascii_digit (get_or t 5 0)) × IsTrue (is_ascii_digit (get_or t 7 0))))))))

version-made : (t : List ℕ) → length t ≡ 8 → AreVersionBytes t → IsVersion t (get_or t 5 0 - 48, get_or t 7 0 - 48)
version-made t long g = version-is t (omega (arith, long)) (omega (arith, long)) g.0 g.1.0 g.1.1.0 g.1.1.1.0 g.1.1.1.1.0 g.1.1.1.1.1.0 g.1.1.1.1.1.1.0 g.1.1.1.1.1.1.1

digit-of : (n : ℕ) → n < 10 → is_ascii_digit (48 + n) ≡ true
digit-of n lt = grind (nat_tests, arith, lt)

version-bytes : (t : List ℕ) (v : HTTPVersion) → IsVersion t v → AreVersionBytes t
version-bytes t v i =
    let whole : t ≡ 72 ∷ 84 ∷ 84 ∷ 80 ∷ 47 ∷ (48 + v.0) ∷ 46 ∷ (48 + v.1) ∷ [] = i.joins in
    subst AreVersionBytes (sym whole) (refl, (refl, (refl, (refl, (refl, (refl, (digit-of v.0 i.major, digit-of v.1 i.minor)))))))

dec-version_bytes : (t : List ℕ) → Decided (AreVersionBytes t)
dec-version_bytes t =
    dec-both (dec-number (get_or t 0 0) 72) (dec-both (dec-number (get_or t 1 0) 84) (dec-both (dec-number (get_or t 2 0) 84) (dec-both (dec-number (get_or t 3 0) 80)
    (dec-both (dec-number (get_or t 4 0) 47) (dec-both (dec-number (get_or t 6 0) 46) (dec-both (dec-true (is_ascii_digit (get_or t 5 0))) (dec-true (is_ascii_digit (get_or t 7 0)))))))))

pub dec-version : (text : List ℕ) → ((v : HTTPVersion) × IsVersion text v) ⊎ ((v : HTTPVersion) → IsVersion text v → ⊥)
dec-version t = elim (dec-number (length t) 8) [
  | inr other ↦ inr (λ v i. other (ap length i.joins))
  | inl long ↦ elim (dec-version_bytes t) [
    | inl good ↦ inl ((get_or t 5 0 - 48, get_or t 7 0 - 48), version-made t long good)
    | inr bad ↦ inr (λ v i. bad (version-bytes t v i))
  ]
]

-- EACH TEXT IS A REQUEST LINE, OR ISN'T
pub dec-request_line : (text : List ℕ) → ((method : List ℕ) × (target : List ℕ) × (v : HTTPVersion) × RequestLine text method target v) ⊎ IsNoRequestLine text
dec-request_line text = elim (cut-first 32 text) [
  | inl none ↦ inr (no-space text none)
  | inr a ↦ elim (cut-first 32 a.1) [
    | inl none ↦ inr (one-space text a.0 a.1 a.2 a.3 none)
    | inr b ↦ elim (dec-version b.1) [
      | inr no_version ↦ inr (λ method target v r. no_version v (line-parts text a.0 a.1 b.0 b.1 a.2 a.3 b.2 b.3 method target v r).2)
      | inl v ↦ elim (dec-both (dec-true (is_token a.0)) (dec-target a.0 b.0)) [
        | inl good ↦ inl (a.0, b.0, v.0, record { version_text = b.1; joins = a.2 ∙ ap (λ (x : List ℕ). a.0 ++ 32 ∷ x) b.2; method_is = good.0; target_is = good.1; version_is = v.1 })
        | inr bad ↦ inr (λ method target w r. let p = line-parts text a.0 a.1 b.0 b.1 a.2 a.3 b.2 b.3 method target w r in bad (p.0, p.1))
      ]
    ]
  ]
]

-- EACH TEXT IS A FIELD LINE, OR ISN'T
pub dec-field_line : (text : List ℕ) → ((field : List ℕ) × (value : List ℕ) × FieldLine text field value) ⊎ IsNoFieldLine text
dec-field_line text = elim (cut-first 58 text) [
  | inl none ↦ inr (no-colon text none)
  | inr a ↦ elim (dec-both (dec-true (is_token a.0)) (dec-true (list_all is_value_byte a.1))) [
    | inr bad ↦ inr (λ field value l. let p = field-parts text a.0 a.1 a.2 a.3 field value l in bad (p.0, p.1))
    | inl good ↦ elim (dec-validated (must_be_ascii a.0) (list_all is_ascii (trimmed is_ows a.1))) [
      | inl validated ↦ inl (a.0, trimmed is_ows a.1, record { padded = a.1; joins = a.2; field_is = good.0; bytes = good.1; trims = trims-is is_ows a.1; ascii = validated })
      | inr bad ↦ inr (λ field value l. bad (field-parts text a.0 a.1 a.2 a.3 field value l).2)
    ]
  ]
]
  where
    dec-validated : (validated ascii : Bool) → Decided (IsTrue validated → IsTrue ascii)
    dec-validated false ascii = inl (λ e. contrary false e refl)
    dec-validated true true = inl (λ e. refl)
    dec-validated true false = inr (λ h. contrary false (h refl) refl)
