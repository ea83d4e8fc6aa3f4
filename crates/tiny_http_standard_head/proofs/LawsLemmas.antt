-- Each text has one reading, and each head one judgement.
use Rattle.std.proofs.Common.{◌≡◌, refl, sym, ap, ◌∙◌, subst, ℕ, ◌+◌, Bool, List, [], ◌∷◌, ◌++◌, Option, Result, Ok, Err, inl, inr, arith}
use Rattle.std.specs.Prelude.{codes}
use Rattle.std.specs.Char.{is_ascii_graphic}
use Rattle.httparse.specs.Grammar.{is_token_byte, is_ows}
use Rattle.tiny_http_text.specs.Bytes.{trimmed}
use Rattle.tiny_http_text.proofs.BytesLemmas.{trims-one}
use Rattle.tiny_http_head.specs.declared.common.Method.{Method}
use Rattle.tiny_http_head.specs.declared.common.HTTPVersion.{HTTPVersion}
use Rattle.tiny_http_head.specs.declared.common.Header.{Header}
use Rattle.tiny_http_standard_head.specs.declared.validation.HeadSummary.{HeadSummary}
use Rattle.tiny_http_standard_head.specs.declared.validation.HeadError.{HeadError}
use Rattle.tiny_http_standard_head.specs.declared.validation.HeadError.TheVariants.{UnsupportedVersion, InvalidHead, UnknownCoding, UnknownExpectation}
use Rattle.tiny_http_standard_head.specs.Lines.{IsVersion, RequestLine, FieldLine}
use Rattle.tiny_http_standard_head.specs.Lists.{elements_of, has_element_that}
use Rattle.tiny_http_standard_head.specs.Validation.{IsFramedRequest, IsValid, NamesUnknownCodings, Validates, owes_continue, is_unknown_expectation}
use Rattle.tiny_http_head.proofs.HeaderTextsLemmas.{token-bytes}
use Rattle.tiny_http_head.proofs.FirstByte.{all-without, contrary, one-first}
use Rattle.tiny_http_standard_head.proofs.LinesLemmas.{method-rest, space-no_token, colon-no_token}
use Rattle.tiny_http_standard_head.proofs.BodyLemmas.{framed-reads, unknown-reads}
use Rattle.tiny_http_standard_head.proofs.ValidateLemmas.{body_read}

same-version : (a b : HTTPVersion) → a.0 ≡ b.0 → a.1 ≡ b.1 → a ≡ b
same-version a b major minor = ap (λ (x : ℕ). record { 0 = x; 1 = a.1 }) major ∙ ap (λ (x : ℕ). record { 0 = b.0; 1 = x }) minor

one-version : (text : List ℕ) (v w : HTTPVersion) → IsVersion text v → IsVersion text w → v ≡ w
one-version text v w a b =
    let same : codes "HTTP/" ++ (48 + v.0) ∷ 46 ∷ (48 + v.1) ∷ [] ≡ codes "HTTP/" ++ (48 + w.0) ∷ 46 ∷ (48 + w.1) ∷ [] = sym a.joins ∙ b.joins in
    let major : 48 + v.0 ≡ 48 + w.0 = cc in
    let minor : 48 + v.1 ≡ 48 + w.1 = cc in
    same-version v w (omega (arith, major)) (omega (arith, minor))

pub request-line-once : (text m t n u : List ℕ) (v w : HTTPVersion) → RequestLine text m t v → RequestLine text n u w → (m ≡ n) × (t ≡ u) × (v ≡ w)
request-line-once text m t n u v w a b =
    let word = all-without is_token_byte 32 n space-no_token (token-bytes n b.method_is) in
    let first = method-rest text n (u ++ 32 ∷ b.version_text) m t v b.joins word a in
    let second = one-first 32 t u a.version_text b.version_text (all-without is_ascii_graphic 32 t refl a.target_is.0) (all-without is_ascii_graphic 32 u refl b.target_is.0) first.1 in
    (first.0, second.0, one-version b.version_text v w (subst (λ (x : List ℕ). IsVersion x v) second.1 a.version_is) b.version_is)

pub field-line-once : (text f v g w : List ℕ) → FieldLine text f v → FieldLine text g w → (f ≡ g) × (v ≡ w)
field-line-once text f v g w a b =
    let name = one-first 58 f g a.padded b.padded (all-without is_token_byte 58 f colon-no_token (token-bytes f a.field_is)) (all-without is_token_byte 58 g colon-no_token (token-bytes g b.field_is)) (sym a.joins ∙ b.joins) in
    (name.0, sym (trims-one is_ows a.padded v a.trims) ∙ ap (trimmed is_ows) name.1 ∙ trims-one is_ows b.padded w b.trims)

served-reads : (v : HTTPVersion) (headers : List Header) (n : Option ℕ) (chunked : Bool) → IsFramedRequest v headers n chunked → body_read v headers ≡ Ok (n, chunked)
served-reads v headers n chunked s = framed-reads v (elements_of (codes "Content-Length") headers) (elements_of (codes "Transfer-Encoding") headers) n chunked s.body

served-known : (v : HTTPVersion) (headers : List Header) (n : Option ℕ) (chunked : Bool) → IsFramedRequest v headers n chunked → NamesUnknownCodings v headers → ⊥
served-known v headers n chunked s u =
    let never : ◌≡◌ {A = Result (Option ℕ × Bool) HeadError} (Ok (n, chunked)) (Err UnknownCoding) =
    sym (served-reads v headers n chunked s) ∙ unknown-reads v (elements_of (codes "Content-Length") headers) (elements_of (codes "Transfer-Encoding") headers) u in
    no-both never
  where
    no-both : ◌≡◌ {A = Result (Option ℕ × Bool) HeadError} (Ok (n, chunked)) (Err UnknownCoding) → ⊥
    no-both e = cc

served-valid : (v : HTTPVersion) (headers : List Header) (n : Option ℕ) (chunked : Bool) → IsFramedRequest v headers n chunked → IsValid v headers
served-valid v headers n chunked s = (s.host, inr (n, chunked, s))

same-pair : (n m : Option ℕ) (b c : Bool) → ◌≡◌ {A = Result (Option ℕ × Bool) HeadError} (Ok (n, b)) (Ok (m, c)) → (n ≡ m) × (b ≡ c)
same-pair n m b c e = let same : ◌≡◌ {A = Option ℕ × Bool} (n, b) (m, c) = cc in (ap (λ x. x.0) same, ap (λ x. x.1) same)

same-head : (a b : HeadSummary) → a.body_length ≡ b.body_length → a.is_chunked ≡ b.is_chunked → a.owes_continue ≡ b.owes_continue → a.asks_upgrade ≡ b.asks_upgrade → a.is_last ≡ b.is_last → a ≡ b
same-head a b p q r s t =
    ap (λ (x : Option ℕ). record { body_length = x; is_chunked = a.is_chunked; owes_continue = a.owes_continue; asks_upgrade = a.asks_upgrade; is_last = a.is_last }) p
    ∙ ap (λ (x : Bool). record { body_length = b.body_length; is_chunked = x; owes_continue = a.owes_continue; asks_upgrade = a.asks_upgrade; is_last = a.is_last }) q
    ∙ ap (λ (x : Bool). record { body_length = b.body_length; is_chunked = b.is_chunked; owes_continue = x; asks_upgrade = a.asks_upgrade; is_last = a.is_last }) r
    ∙ ap (λ (x : Bool). record { body_length = b.body_length; is_chunked = b.is_chunked; owes_continue = b.owes_continue; asks_upgrade = x; is_last = a.is_last }) s
    ∙ ap (λ (x : Bool). record { body_length = b.body_length; is_chunked = b.is_chunked; owes_continue = b.owes_continue; asks_upgrade = b.asks_upgrade; is_last = x }) t

pub validated-once : (v : HTTPVersion) (method : Method) (headers : List Header) (r s : Result HeadSummary HeadError) → Validates v method headers r → Validates v method headers s → r ≡ s
validated-once v method headers (Err UnsupportedVersion) (Err UnsupportedVersion) j k = refl
validated-once v method headers (Err UnsupportedVersion) (Err InvalidHead) j k = absurd (j k.0)
validated-once v method headers (Err UnsupportedVersion) (Err UnknownCoding) j k = absurd (j k.0)
validated-once v method headers (Err UnsupportedVersion) (Err UnknownExpectation) j k = absurd (j k.2.version)
validated-once v method headers (Err UnsupportedVersion) (Ok b) j k = absurd (j k.0.version)
validated-once v method headers (Err InvalidHead) (Err UnsupportedVersion) j k = absurd (k j.0)
validated-once v method headers (Err InvalidHead) (Err InvalidHead) j k = refl
validated-once v method headers (Err InvalidHead) (Err UnknownCoding) j k = absurd (j.1 (k.1, inl k.2))
validated-once v method headers (Err InvalidHead) (Err UnknownExpectation) j k = absurd (j.1 (served-valid v headers k.0 k.1 k.2))
validated-once v method headers (Err InvalidHead) (Ok b) j k = absurd (j.1 (served-valid v headers b.body_length b.is_chunked k.0))
validated-once v method headers (Err UnknownCoding) (Err UnsupportedVersion) j k = absurd (k j.0)
validated-once v method headers (Err UnknownCoding) (Err InvalidHead) j k = absurd (k.1 (j.1, inl j.2))
validated-once v method headers (Err UnknownCoding) (Err UnknownCoding) j k = refl
validated-once v method headers (Err UnknownCoding) (Err UnknownExpectation) j k = absurd (served-known v headers k.0 k.1 k.2 j.2)
validated-once v method headers (Err UnknownCoding) (Ok b) j k = absurd (served-known v headers b.body_length b.is_chunked k.0 j.2)
validated-once v method headers (Err UnknownExpectation) (Err UnsupportedVersion) j k = absurd (k j.2.version)
validated-once v method headers (Err UnknownExpectation) (Err InvalidHead) j k = absurd (k.1 (served-valid v headers j.0 j.1 j.2))
validated-once v method headers (Err UnknownExpectation) (Err UnknownCoding) j k = absurd (served-known v headers j.0 j.1 j.2 k.2)
validated-once v method headers (Err UnknownExpectation) (Err UnknownExpectation) j k = refl
validated-once v method headers (Err UnknownExpectation) (Ok b) j k = contrary (has_element_that (codes "Expect") is_unknown_expectation headers) j.3 k.1
validated-once v method headers (Ok a) (Err UnsupportedVersion) j k = absurd (k j.0.version)
validated-once v method headers (Ok a) (Err InvalidHead) j k = absurd (k.1 (served-valid v headers a.body_length a.is_chunked j.0))
validated-once v method headers (Ok a) (Err UnknownCoding) j k = absurd (served-known v headers a.body_length a.is_chunked j.0 k.2)
validated-once v method headers (Ok a) (Err UnknownExpectation) j k = contrary (has_element_that (codes "Expect") is_unknown_expectation headers) k.3 j.1
validated-once v method headers (Ok a) (Ok b) j k =
    let p = same-pair a.body_length b.body_length a.is_chunked b.is_chunked (sym (served-reads v headers a.body_length a.is_chunked j.0) ∙ served-reads v headers b.body_length b.is_chunked k.0) in
    let owed : a.owes_continue ≡ b.owes_continue = j.2 ∙ ap (λ (n : Option ℕ). owes_continue v headers n a.is_chunked) p.0 ∙ ap (owes_continue v headers b.body_length) p.1 ∙ sym k.2 in
    ap Ok (same-head a b p.0 p.1 owed (j.3 ∙ sym k.3) (j.4 ∙ sym k.4))
