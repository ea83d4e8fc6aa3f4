-- Answers of the server's own are whole, and the text of a dropped request's 500 fits into its room.
use Rattle.std.specs.Fmt.{digits}
use Rattle.std.proofs.Common.{◌≡◌, refl, sym, ap, ◌∙◌, subst, ℕ, ◌<◌, ◌≤◌, inl, inr, ⊎_elim, Bool, true, false, List, [], ◌++◌, length, Option, Some, None, Result, Ok, Err, decimal, codes, length-append, arith}
use Rattle.std.specs.IoError.{error_kind}
use Rattle.std.specs.declared.io.Error.{Error}
use Rattle.std.specs.declared.io.ErrorKind.{ErrorKind}
use Rattle.std.proofs.lemmas.Fmt.{length-decimal-le}
use Rattle.httpdate.specs.Date.{date_text}
use Rattle.httpdate.specs.declared.date.HttpDate.{HttpDate}
use Rattle.tiny_http_head.specs.declared.common.HTTPVersion.{HTTPVersion}
use Rattle.tiny_http_response.specs.declared.coding.Coding.{Coding}
use Rattle.tiny_http_response.specs.declared.coding.Coding.TheVariants.{Identity, Chunked}
use Rattle.tiny_http_response.specs.declared.coding.FramingHeader.{FramingHeader}
use Rattle.tiny_http_response.specs.declared.coding.FramingHeader.TheVariants.{Neither, ContentLength, TransferEncoding}
use Rattle.tiny_http_body.specs.ChunkedPrinting.{full_chunks, left_over}
use Rattle.tiny_http_head.specs.Common.{reason_phrase}
use Rattle.std.specs.Prelude.{if◌then◌else◌}
use Rattle.std.specs.List.{list_all, flat_map}
use Rattle.tiny_http_response.specs.Coding.{is_up_to_1_0}
use Rattle.tiny_http_response.specs.ByStandard.{status_version, listed_headers, connection_headers, contentless_framing}
use Rattle.tiny_http_response.specs.declared.response_context.Persistence.{Persistence}
use Rattle.tiny_http_response.specs.declared.response_context.Persistence.TheVariants.{Persistent, Close}
use Rattle.std.specs.declared.io.ErrorKind.TheVariants.{InvalidInput}
use Rattle.tiny_http_text.specs.Bytes.{is_ascii}
use Rattle.tiny_http_io.specs.Device.{Feed, Sink, Took, Failed, whole_feed}
use Rattle.tiny_http_body.specs.Text.{Text, Ending, Whole, Broken, whole, nothing_sent, chunked_body}
use Rattle.tiny_http_response.specs.Owing.{owed, owing}
use Rattle.tiny_http_response.specs.Answer.{Answer, Printing, answer_with, text_by_code, field_line_of, answer_coding, head_text_of, coded_text, PrintsAnswer, text_of, is_withheld, answer_head_text, status_line, field_line, upgrade_lines, server_line, date_line, framing_line}
use Rattle.tiny_http_response.specs.ResponseValue.{printing_to, upgrading}
use Rattle.tiny_http_response.specs.Sending.{Sends, SendsText, SendsQuietly}
use Rattle.tiny_http_head.specs.declared.common.Header.{Header}
use Rattle.tiny_http_response.specs.Answer.{text_plain}
use Rattle.std.specs.Prelude.{◌∷◌}
use Rattle.std.proofs.lemmas.Bool.{le-leb}
use Rattle.tiny_http_response.specs.ResponseValue.{response_of, response_text}
use Rattle.tiny_http_open_request.specs.Pipeline.{Manner, plainly, Refusal, BadRequest, RequestTimeout, ExpectationFailed, HeaderFieldsTooLarge, VersionNotSupported, RequestLineTooLong, CodingNotImplemented, MajorVersionNotSupported}
use Rattle.std.specs.Prelude.{◌^◌, IfOk}
use Rattle.std.specs.declared.alloc.AllocError.{AllocError}
use Rattle.tiny_http_head.specs.Heads.{version}
use Rattle.tiny_http_open_request.specs.ErrorResponse.{own_text_by, own_printing, refusal_response, refused_text, too_new_text}

-- an answer of the server's own is whole, however it is coded
coded-whole : (coding : Coding) (says : Option Persistence) (top : FramingHeader → List ℕ) (withheld : Bool) → (coded_text coding says (Some 0) top withheld (whole_feed [])).ending ≡ Whole
coded-whole Identity says top true = refl
coded-whole Identity says top false = refl
coded-whole Chunked says top true = refl
coded-whole Chunked None top false = refl
coded-whole Chunked (Some said) top false = refl

-- or a head alone by its code
content-whole : (k : Option FramingHeader) (a : Answer) (feed : Feed) (p : Printing) → ((coding : Coding) → (coded_text coding p.persistence a.data_length (head_text_of a p) (is_withheld p.no_body a.status) feed).ending ≡ Whole) → (text_by_code k a feed p).ending ≡ Whole
content-whole (Some framing) a feed p h = refl
content-whole None a feed p h = h (answer_coding a p)

pub own-whole : (status : ℕ) (asked : Option Coding) (v : HTTPVersion) (no_body : Bool) (says : Option Persistence) (date : HttpDate) → (text_of (answer_with status [] 0) (whole_feed []) (printing_to asked v no_body says date)).ending ≡ Whole
unfolding text_of
own-whole status asked v no_body says date =
    let a = answer_with status [] 0 in
    let p = printing_to asked v no_body says date in
    content-whole (contentless_framing says false status (Some 0)) a (whole_feed []) p (λ coding. coded-whole coding says (head_text_of a p) (is_withheld no_body status))

pieces : (x y t l f : List ℕ) → length x ≤ 3 → length y ≤ 3 → length t ≡ 29 → length l ≤ 24 → length f ≤ 28
    → length ((codes "HTTP/" ++ (x ++ codes "." ++ y) ++ codes " " ++ codes "500" ++ codes " " ++ codes "Internal Server Error" ++ codes "\r\n") ++ [] ++ codes "Server: tiny-http (Rust)\r\n" ++ (codes "Date" ++ codes ": " ++ t ++ codes "\r\n") ++ l ++ f ++ codes "\r\n") ≤ 157
pieces x y t l f a b e k g = simp length-append (omega (arith, a, b, e, k, g))

-- what the head of a 500 says of its connection
says-length : (says : Option Persistence) (v : HTTPVersion) → length (flat_map field_line_of (listed_headers says v 500 None [])) ≤ 24
unfolding field_line
says-length None v = omega arith
says-length (Some Close) v = omega arith
says-length (Some Persistent) v = elim (is_up_to_1_0 v) as (λ t. length (flat_map field_line_of (connection_headers None (if t then Some (codes "keep-alive") else None) ++ [])) ≤ 24) [ true ↦ omega arith | false ↦ omega arith ]

version-fits : (says : Option Persistence) (v : HTTPVersion) → v.0 < 256 → v.1 < 256 → ((status_version says v).0 < 256) × ((status_version says v).1 < 256)
version-fits None v a b = (a, b)
version-fits (Some _) v a b = (omega arith, omega arith)

head-length : (says : Option Persistence) (v : HTTPVersion) (d : HttpDate) (framing : FramingHeader) → v.0 < 256 → v.1 < 256 → length (date_text d) ≡ 29 → length (framing_line framing) ≤ 28 → length (answer_head_text (status_version says v) 500 None [] (listed_headers says v 500 None []) d framing) ≤ 157
unfolding digits answer_head_text status_line field_line upgrade_lines server_line date_line reason_phrase
head-length says v d framing a b e g =
    let w = status_version says v in
    let fits = version-fits says v a b in
    let x : length (decimal w.0) ≤ 3 = length-decimal-le 3 w.0 (omega arith) (omega arith) (omega (arith, fits.0)) in
    let y : length (decimal w.1) ≤ 3 = length-decimal-le 3 w.1 (omega arith) (omega arith) (omega (arith, fits.1)) in
    pieces (decimal w.0) (decimal w.1) (date_text d) (flat_map field_line_of (listed_headers says v 500 None [])) (framing_line framing) x y e (says-length says v) g

no-length : length (framing_line (ContentLength 0)) ≤ 28
unfolding digits framing_line field_line
no-length = omega arith

chunked-line : length (framing_line TransferEncoding) ≤ 28
unfolding framing_line field_line
chunked-line = omega arith

-- no body, and a last chunk alone
no-chunk : (says : Option Persistence) → length (chunked_body (owing (owed says (Some 0)) (whole_feed []))).bytes ≤ 5
unfolding full_chunks left_over
no-chunk None = omega arith
no-chunk (Some said) = omega arith

coded-length : (coding : Coding) (says : Option Persistence) (v : HTTPVersion) (withheld : Bool) (d : HttpDate) → v.0 < 256 → v.1 < 256 → length (date_text d) ≡ 29
    → length (coded_text coding says (Some 0) (λ framing. answer_head_text (status_version says v) 500 None [] (listed_headers says v 500 None []) d framing) withheld (whole_feed [])).bytes < 168
coded-length Identity says v true d a b e = let h = head-length says v d (ContentLength 0) a b e no-length in simp length-append (omega (arith, h))
coded-length Identity says v false d a b e = let h = head-length says v d (ContentLength 0) a b e no-length in simp length-append (omega (arith, h))
coded-length Chunked says v true d a b e = let h = head-length says v d TransferEncoding a b e chunked-line in simp length-append (omega (arith, h))
coded-length Chunked says v false d a b e =
    let h = head-length says v d TransferEncoding a b e chunked-line in
    let l = length-append (answer_head_text (status_version says v) 500 None [] (listed_headers says v 500 None []) d TransferEncoding) (chunked_body (owing (owed says (Some 0)) (whole_feed []))).bytes in
    omega (arith, h, l, no-chunk says)

pub own-length : (asked : Option Coding) (v : HTTPVersion) (no_body : Bool) (says : Option Persistence) (d : HttpDate) → v.0 < 256 → v.1 < 256 → length (date_text d) ≡ 29 → length (own_text_by 500 (printing_to asked v no_body says d)) < 168
unfolding text_of
own-length asked v no_body None d a b e = coded-length (answer_coding (answer_with 500 [] 0) (printing_to asked v no_body None d)) None v (is_withheld no_body 500) d a b e
own-length asked v no_body (Some says) d a b e = coded-length (answer_coding (answer_with 500 [] 0) (printing_to asked v no_body (Some says) d)) (Some says) v (is_withheld no_body 500) d a b e

whole-broken : (t : Ending) (kind : ErrorKind) → t ≡ Whole → t ≡ Broken kind → ⊥
whole-broken Whole kind h k = cc
whole-broken (Broken x) kind h k = cc

full-front : (old new : Sink) (bytes text : List ℕ) (kind : ErrorKind) → old.taken ≡ Some [] → new.taken ≡ Some bytes → Failed old new text kind → length bytes ≤ length text
full-front old new bytes text kind o n f =
    let e : Some text ≡ Some (bytes ++ f.bytes.0) = rw (o, n) at f.bytes.1 in
    let s : text ≡ bytes ++ f.bytes.0 = cc in
    omega (arith, ap length s ∙ length-append bytes f.bytes.0)

-- a writer into room for such a text doesn't fail
pub no-fault : (old new : Sink) (e : Error) (a : Answer) (p : Printing) (bytes : List ℕ) → a ≡ answer_with 500 [] 0 → old.taken ≡ Some [] → new.taken ≡ Some bytes → old.failures ≡ 0 → (0 < new.failures → 168 ≤ length bytes)
    → (text_of (answer_with 500 [] 0) (whole_feed []) p).ending ≡ Whole → length (own_text_by 500 p) < 168 → PrintsAnswer {T = Unit {0}} old new (Err e) a (whole_feed []) p → ⊥
no-fault old new e a p bytes same o n z full all fits (inl k) = ⊎_elim whole failed k.0
  where
    whole : ((text_of a (whole_feed []) p).ending ≡ Broken (error_kind e)) × Took old new (text_of a (whole_feed []) p).bytes → ⊥
    whole h = whole-broken _ (error_kind e) (ap (λ x. (text_of x (whole_feed []) p).ending) same ∙ all) h.0

    failed : Failed old new (text_of a (whole_feed []) p).bytes (error_kind e) → ⊥
    failed f =
        let P : Answer → Type 0 = λ x. Failed old new (text_of x (whole_feed []) p).bytes (error_kind e) in
        let front = full-front old new bytes _ (error_kind e) o n (subst P same f) in
        let rose : new.failures ≡ 1 = f.failures ∙ rw z refl in
        let long = full (rw rose (omega arith)) in
        omega (arith, front, long, fits)
no-fault old new e a p bytes same o n z full all fits (inr k) =
    let none : ◌≡◌ {A = Option ℕ} (Some 0) None = sym (ap (λ (x : Answer). x.data_length) same) ∙ k.0.3 in
    cc

-- such an answer that was sent: its text was sent, or the writer failed in it
pub own-sent : {T : Type 0} (old new : Sink) (ended : Bool) (r : Result T Error) (text : Text) → text.ending ≡ Whole → SendsText old new ended r text → SendsQuietly old new ended text.bytes
own-sent old new ended (Ok x) text whole s = inl (s.2, s.3, s.1)
own-sent old new ended (Err e) text whole s =
    ⊎_elim (λ k. absurd (whole-broken text.ending (error_kind e) whole k.0)) (λ k. inr (s.0, s.1, error_kind e, k.1)) s.2

pub own-quietly : {T : Type 0} (old new : Sink) (ended : Bool) (r : Result T Error) (a : Answer) (status : ℕ) (asked : Option Coding) (v : HTTPVersion) (no_body : Bool) (says : Option Persistence) (date : HttpDate) → a ≡ answer_with status [] 0
    → Sends {T = T} old new ended r a (whole_feed []) (printing_to asked v no_body says date) → SendsQuietly old new ended (own_text_by status (printing_to asked v no_body says date))
own-quietly {T = T} old new ended r a status asked v no_body says date same s = by (subst S same s)
  where
    p : Printing
    p = printing_to asked v no_body says date

    S : Answer → Type 0
    S x = Sends {T = T} old new ended r x (whole_feed []) p

    by : S (answer_with status [] 0) → SendsQuietly old new ended (own_text_by status p)
    by (inl k) = own-sent {T = T} old new ended r (text_of (answer_with status [] 0) (whole_feed []) p) (own-whole status asked v no_body says date) k
    by (inr k) = let none : ◌≡◌ {A = Option ℕ} (Some 0) None = k.0.3 in cc

-- an upgrade to a protocol that is ASCII is whole
upgrade-whole : (t : Bool) (head : List ℕ) → t ≡ true → (if t then whole head else nothing_sent InvalidInput).ending ≡ Whole
upgrade-whole true head e = refl
upgrade-whole false head e = cc

pub upgrade-quietly : {T : Type 0} (old new : Sink) (ended : Bool) (r : Result T Error) (a : Answer) (content : Feed) (p : Printing) (protocol : List ℕ) → list_all is_ascii protocol ≡ true
    → SendsText {T = T} old new ended r (text_of a content (upgrading protocol p)) → SendsQuietly old new ended (text_of a content (upgrading protocol p)).bytes
unfolding text_of
upgrade-quietly {T = T} old new ended r a content p protocol ascii s =
    own-sent {T = T} old new ended r (text_of a content (upgrading protocol p)) (upgrade-whole (list_all is_ascii protocol) (head_text_of a (upgrading protocol p) Neither) ascii) s

-- a response whose data are a text is whole, however it is coded
text-whole : (coding : Coding) (says : Option Persistence) (text : List ℕ) (top : FramingHeader → List ℕ) (withheld : Bool) → (coded_text coding says (Some (length text)) top withheld (whole_feed text)).ending ≡ Whole
text-whole Identity says text top true = refl
text-whole Identity says text top false = rw (le-leb (length text) (length text) (omega arith)) refl
text-whole Chunked says text top true = refl
text-whole Chunked None text top false = rw (le-leb 0 (length text) (omega arith)) refl
text-whole Chunked (Some said) text top false = rw (le-leb (length text) (length text) (omega arith)) refl

response-whole : (status : ℕ) (headers : List Header) (text : List ℕ) (m : Manner) (no_body : Bool) (date : HttpDate) → (response_text (response_of status headers text) (own_printing m no_body date)).ending ≡ Whole
unfolding text_of
response-whole status headers text m no_body date =
    let a = answer_with status headers (length text) in
    let p = own_printing m no_body date in
    content-whole (contentless_framing p.persistence false status (Some (length text))) a (whole_feed text) p (λ coding. text-whole coding p.persistence text (head_text_of a p) (is_withheld no_body status))

-- the answer to a refused head is whole
pub refusal-whole : (refusal : Refusal) (v : Manner) (no_body : Bool) (date : HttpDate) → (response_text (refusal_response refusal) (own_printing v no_body date)).ending ≡ Whole
refusal-whole BadRequest v no_body date = response-whole 400 [] [] v no_body date
refusal-whole RequestTimeout v no_body date = response-whole 408 [] [] v no_body date
refusal-whole ExpectationFailed v no_body date = response-whole 417 [] [] v no_body date
refusal-whole HeaderFieldsTooLarge v no_body date = response-whole 431 [] [] v no_body date
refusal-whole VersionNotSupported v no_body date = response-whole 505 (text_plain ∷ []) too_new_text v no_body date
refusal-whole RequestLineTooLong v no_body date = response-whole 414 [] [] v no_body date
refusal-whole CodingNotImplemented v no_body date = response-whole 501 [] [] v no_body date
refusal-whole MajorVersionNotSupported v no_body date = response-whole 505 [] [] v no_body date

-- what is printed to a version that is too new
pub too-new-printed : {T : Type 0} (r : Result T AllocError) (items : T → List ℕ) (a : Answer) (o : Option Feed) (no_body : Bool) (date : HttpDate) → a ≡ answer_with 505 (text_plain ∷ []) 51 → o ≡ Some (whole_feed too_new_text)
    → ((content : Feed) → o ≡ Some content → length content.bytes < 2 ^ 63 → IfOk r (λ text. items text ≡ refused_text (record { answer = a; content = content }) (plainly (version 1 1)) no_body date))
    → IfOk r (λ text. items text ≡ refused_text (refusal_response VersionNotSupported) (plainly (version 1 1)) no_body date)
too-new-printed {T = T} r items a o no_body date same stated h =
    let P : Answer → Type 0 = λ x. IfOk r (λ (text : T). items text ≡ refused_text (record { answer = x; content = whole_feed too_new_text }) (plainly (version 1 1)) no_body date) in
    subst P same (h (whole_feed too_new_text) stated (omega arith))
