-- A head that is refused for its body, and one that is served.
use Rattle.std.proofs.Common.{◌≡◌, refl, sym, subst, ℕ, Bool, List, Option, Result, Ok, Err, inl, inr}
use Rattle.std.specs.Prelude.{codes}
use Rattle.tiny_http_head.specs.declared.common.Header.{Header}
use Rattle.tiny_http_head.specs.declared.common.HTTPVersion.{HTTPVersion}
use Rattle.tiny_http_head.specs.declared.common.Method.{Method}
use Rattle.tiny_http_standard_head.specs.declared.validation.Codings.TheVariants.{Absent}
use Rattle.tiny_http_standard_head.specs.declared.validation.HeadError.{HeadError}
use Rattle.tiny_http_standard_head.specs.declared.validation.HeadError.TheVariants.{InvalidHead}
use Rattle.tiny_http_standard_head.specs.Lists.{values_of, elements_of}
use Rattle.tiny_http_standard_head.specs.Validation.{HasValidHost, IsFramedRequest, Validates}
use Rattle.tiny_http_standard_head.specs.ValidationReading.{codings_on, body_by}
use Rattle.tiny_http_head.specs.ContentLength.{one_length}
use Rattle.tiny_http_standard_head.proofs.BodyLemmas.{body-framed, body-unknown, body-invalid, body-fails}

abbrev pub body_read : HTTPVersion → List Header → Result (Option ℕ × Bool) HeadError
body_read v headers = body_by v (codings_on Absent (elements_of (codes "Transfer-Encoding") headers)) (one_length (elements_of (codes "Content-Length") headers))

pub validate-served : (v : HTTPVersion) (headers : List Header) (n : Option ℕ) (chunked : Bool) → v.0 ≡ 1 → HasValidHost v (values_of (codes "Host") headers) → body_read v headers ≡ Ok (n, chunked) → IsFramedRequest v headers n chunked
validate-served v headers n chunked one host h = record {
  version = one;
  host = host;
  body = body-framed v (elements_of (codes "Content-Length") headers) (elements_of (codes "Transfer-Encoding") headers) n chunked h;
}

invalid : (v : HTTPVersion) (method : Method) (headers : List Header) → v.0 ≡ 1 → body_read v headers ≡ Err InvalidHead → Validates v method headers (Err InvalidHead)
invalid v method headers one h =
    let b = body-invalid v (elements_of (codes "Content-Length") headers) (elements_of (codes "Transfer-Encoding") headers) h in
    (one, λ valid. elim valid.1 [ inl u ↦ b.0 u | inr s ↦ b.1 s.0 s.1 s.2.body ])

pub validate-fails : (v : HTTPVersion) (method : Method) (headers : List Header) (e : HeadError) → v.0 ≡ 1 → HasValidHost v (values_of (codes "Host") headers) → body_read v headers ≡ Err e → Validates v method headers (Err e)
validate-fails v method headers e one host h =
    let lengths = elements_of (codes "Content-Length") headers in
    let codings = elements_of (codes "Transfer-Encoding") headers in
    let Is : HeadError → Type 0 = λ x. Validates v method headers (Err x) in
    let Reads : HeadError → Type 0 = λ x. body_read v headers ≡ Err x in
    elim (body-fails v lengths (codings_on Absent codings) (one_length lengths) e refl h) [
      | inl is ↦ subst Is (sym is) (invalid v method headers one (subst Reads is h))
      | inr is ↦ subst Is (sym is) (one, host, body-unknown v lengths codings (subst Reads is h))
    ]
