-- A text that breaks off is a proper front of a whole one; and a 100 in front is passed over.
use Rattle.std.proofs.Common.{◌≡◌, refl, sym, ap, ◌∙◌, subst, ℕ, ◌+◌, ◌-◌, ◌<◌, ◌≤◌, ◌^◌, Bool, true, false, List, [], ◌∷◌, ◌++◌, length, take, Option, Some, None, append_assoc, append-nil, arith, length-append}
use Rattle.std.specs.Prelude.{if◌then◌else◌, nat_le, codes, replicate}
use Rattle.std.specs.List.{AllByRecursion}
use Rattle.std.specs.declared.io.ErrorKind.{ErrorKind}
use Rattle.std.specs.declared.io.ErrorKind.TheVariants.{UnexpectedEof}
use Rattle.std.proofs.Math.ListN.{length-replicate}
use Rattle.std.proofs.lemmas.Bool.{leb-false, le-leb}
use Rattle.std.proofs.lemmas.List.{take_all}
use Rattle.httpdate.specs.declared.date.HttpDate.{HttpDate}
use Rattle.tiny_http_head.specs.declared.common.HTTPVersion.{HTTPVersion}
use Rattle.tiny_http_head.specs.declared.common.Header.{Header}
use Rattle.tiny_http_head.specs.declared.common.Method.{Method}
use Rattle.tiny_http_response.specs.declared.coding.Coding.{Coding}
use Rattle.tiny_http_response.specs.declared.coding.Coding.TheVariants.{Identity, Chunked}
use Rattle.tiny_http_response.specs.declared.coding.FramingHeader.{FramingHeader}
use Rattle.tiny_http_response.specs.declared.coding.FramingHeader.TheVariants.{Neither, TransferEncoding, ContentLength}
use Rattle.tiny_http_io.specs.declared.device.Stop.{Stop}
use Rattle.tiny_http_io.specs.declared.device.Stop.TheVariants.{End, Fault}
use Rattle.tiny_http_io.specs.Device.{Feed, fault_of}
use Rattle.tiny_http_body.specs.ChunkedPrinting.{full_chunks, left_over, short_chunk, chunked}
use Rattle.tiny_http_body.specs.Text.{Text, Ending, Whole, Broken, prepend_text, identity_body, chunked_until, chunked_body}
use Rattle.tiny_http_body.proofs.ChunkedPrintingLemmas.{full_chunks-append}
use Rattle.tiny_http_response.specs.Owing.{owed, owing}
use Rattle.tiny_http_response.specs.Answer.{Answer, Printing, listed_with, answer_head_text, status_line, is_withheld, body_unless_withheld, gathered_body, coded_text, text_by_code, with_upgrade, answer_coding, text_of}
use Rattle.tiny_http_response.specs.ByStandard.{status_version, listed_headers}
use Rattle.tiny_http_response.specs.declared.response_context.Persistence.{Persistence}
use Rattle.tiny_http_response.specs.Readable.{IsReadable}
use Rattle.tiny_http_client.specs.ClientAnswer.{AnswerHead, BeginsWithAnswerHead, is_interim, ClientAnswer, ReadsAnswer}
use Rattle.tiny_http_client.specs.ClientText.{stated_length, printed_headers, listed_of, alone_by_code, IsReadableAnswer, received_answer}
use Rattle.tiny_http_client.specs.SentTexts.{BreaksOff}
use Rattle.tiny_http_client.proofs.TextLaw.{major-fits, minor-fits, read_back}
use Rattle.tiny_http_client.proofs.ClientAnswerLemmas.{answer-one}
use Rattle.tiny_http_client.proofs.PrintedLemmas.{FramingFits, head-represents}
use Rattle.std.proofs.Math.Bool.{or-true}

-- more data of the same answer, with which the text is whole
abbrev Completes : Option ℕ → (Feed → Text) → Text → Type 0
Completes len text broken = (feed : Feed) × (more : List ℕ) × (stated_length len feed < 2 ^ 64) × ((text feed).ending ≡ Whole) × ((text feed).bytes ≡ broken.bytes ++ more) × (0 < length more)

not-whole : (t : Bool) (early kind : ErrorKind) → (if t then Whole else Broken early) ≡ Broken kind → t ≡ false
not-whole true early kind e = cc
not-whole false early kind e = refl

identity-completes : (n : ℕ) (top : List ℕ) (feed : Feed) (t : Bool) (kind : ErrorKind) → n < 2 ^ 64 → (prepend_text top (body_unless_withheld t (identity_body n feed))).ending ≡ Broken kind
    → Completes (Some n) (λ f. prepend_text top (body_unless_withheld t (identity_body n f))) (prepend_text top (body_unless_withheld t (identity_body n feed)))
identity-completes n top feed true kind lt e = cc
identity-completes n top feed false kind lt e =
    let short : length feed.bytes < n = leb-false n (length feed.bytes) (not-whole (nat_le n (length feed.bytes)) (fault_of feed.stop) kind e) in
    let gap = n - length feed.bytes in
    let pad : List ℕ = replicate gap 0 in
    let padded = feed.bytes ++ pad in
    let len : length padded ≡ n = length-append feed.bytes pad ∙ (ap (λ k. length feed.bytes + k) (length-replicate {A = ℕ} gap 0) ∙ omega arith) in
    let all : take n padded ≡ padded = take_all n padded (omega arith) in
    let old : take n feed.bytes ≡ feed.bytes = take_all n feed.bytes (omega arith) in (
      record { bytes = padded; stop = End },
      pad,
      lt,
      (rw (le-leb n (length padded) (omega arith)) refl),
      (ap (λ x. top ++ x) (all ∙ ap (λ x. x ++ pad) (sym old)) ∙ sym (append_assoc top (take n feed.bytes) pad)),
      omega (arith, len, length-append feed.bytes pad),
    )

long-head : (v : HTTPVersion) (status : ℕ) (headers listed : List Header) (date : HttpDate) (framing : FramingHeader) → 0 < length (answer_head_text v status None headers listed date framing)
unfolding answer_head_text status_line
long-head v status headers listed date framing = simp append_assoc (omega arith)

gathered-completes : (stop : Stop) (top : FramingHeader → List ℕ) (bytes : List ℕ) (t : Bool) (kind : ErrorKind) → 0 < length (top (ContentLength 0)) → (gathered_body stop (top (ContentLength (length bytes))) t bytes).ending ≡ Broken kind
    → Completes None (λ f. gathered_body f.stop (top (ContentLength (length f.bytes))) t f.bytes) (gathered_body stop (top (ContentLength (length bytes))) t bytes)
gathered-completes End top bytes t kind p e = cc
gathered-completes (Fault k) top bytes t kind p e =
    (record { bytes = []; stop = End }, top (ContentLength 0) ++ (if t then [] else []), omega arith, refl, refl, omega (arith, length-append (top (ContentLength 0)) (if t then [] else [])))

-- the data that are missing, and what the text goes on with behind its full chunks
until-front : (s : Stop) (bytes : List ℕ) (kind : ErrorKind) → (chunked_until s bytes).ending ≡ Broken kind → (chunked_until s bytes).bytes ≡ full_chunks bytes
until-front End bytes kind e = cc
until-front (Fault k) bytes kind e = refl

owed-none : (says : Option Persistence) → owed says None ≡ 0
owed-none None = refl
owed-none (Some says) = refl

padded-fits : (says : Option Persistence) (len : Option ℕ) (feed : Feed) → stated_length len feed < 2 ^ 64
    → stated_length len (record { bytes = feed.bytes ++ replicate (owed says len - length feed.bytes) 0; stop = End }) < 2 ^ 64
padded-fits says (Some n) feed h = h
padded-fits says None feed h =
    let gap = owed says None - length feed.bytes in
    omega (arith, owed-none says, length-append feed.bytes (replicate gap 0), length-replicate {A = ℕ} gap 0)

chunked-completes : (says : Option Persistence) (len : Option ℕ) (top : List ℕ) (feed : Feed) (t : Bool) (kind : ErrorKind) → stated_length len feed < 2 ^ 64
    → (prepend_text top (body_unless_withheld t (chunked_body (owing (owed says len) feed)))).ending ≡ Broken kind
    → Completes len (λ f. prepend_text top (body_unless_withheld t (chunked_body (owing (owed says len) f)))) (prepend_text top (body_unless_withheld t (chunked_body (owing (owed says len) feed))))
chunked-completes says len top feed true kind lt e = cc
chunked-completes says len top feed false kind lt e =
    let owe = owed says len in
    let gap = owe - length feed.bytes in
    let pad : List ℕ = replicate gap 0 in
    let padded = feed.bytes ++ pad in
    let enough : owe ≤ length padded = omega (arith, length-append feed.bytes pad, length-replicate {A = ℕ} gap 0) in
    let over : List ℕ = short_chunk (left_over padded) ++ codes "0\r\n\r\n" in
    let more = full_chunks (left_over feed.bytes ++ pad) ++ over in
    let front = until-front (owing owe feed).stop feed.bytes kind e in
    let body : chunked padded ≡ full_chunks feed.bytes ++ more = append_assoc (full_chunks padded) (short_chunk (left_over padded)) (codes "0\r\n\r\n") ∙ ap (λ x. x ++ over) (full_chunks-append feed.bytes pad) ∙ append_assoc (full_chunks feed.bytes) (full_chunks (left_over feed.bytes ++ pad)) over in
    let W : Bool → Type 0 = λ x. (chunked_until (if x then End else Fault UnexpectedEof) padded).ending ≡ Whole in
    let B : Bool → Type 0 = λ x. top ++ (chunked_until (if x then End else Fault UnexpectedEof) padded).bytes ≡ (top ++ (chunked_until (owing owe feed).stop feed.bytes).bytes) ++ more in
    let all : nat_le owe (length padded) ≡ true = le-leb owe (length padded) enough in (
      record { bytes = padded; stop = End },
      more,
      padded-fits says len feed lt,
      subst W (sym all) refl,
      subst B (sym all) (ap (λ x. top ++ x) (body ∙ ap (λ x. x ++ more) (sym front)) ∙ sym (append_assoc top (chunked_until (owing owe feed).stop feed.bytes).bytes more)),
      omega (arith, length-append (full_chunks (left_over feed.bytes ++ pad)) over, length-append (short_chunk (left_over padded)) (codes "0\r\n\r\n")),
    )

coding-completes : (coding : Coding) (says : Option Persistence) (len : Option ℕ) (top : FramingHeader → List ℕ) (w : Bool) (feed : Feed) (kind : ErrorKind) → 0 < length (top (ContentLength 0)) → stated_length len feed < 2 ^ 64
    → (coded_text coding says len top w feed).ending ≡ Broken kind → Completes len (λ f. coded_text coding says len top w f) (coded_text coding says len top w feed)
coding-completes Chunked says len top w feed kind p lt e = chunked-completes says len (top TransferEncoding) feed w kind lt e
coding-completes Identity says None top w feed kind p lt e = gathered-completes feed.stop top feed.bytes w kind p e
coding-completes Identity says (Some n) top w feed kind p lt e = identity-completes n (top (ContentLength n)) feed w kind lt e

upgrade-completes : (a : Answer) (feed : Feed) (p : Printing) (u : Option (List ℕ)) (kind : ErrorKind) → u ≡ None → stated_length a.data_length feed < 2 ^ 64
    → (coded_text (answer_coding a p) p.persistence a.data_length (λ framing. answer_head_text (status_version p.persistence p.version) a.status u a.headers (listed_with u p.persistence p.version a) p.date framing) (is_withheld p.no_body a.status) feed).ending ≡ Broken kind
    → Completes a.data_length (λ f. coded_text (answer_coding a p) p.persistence a.data_length (λ framing. answer_head_text (status_version p.persistence p.version) a.status u a.headers (listed_with u p.persistence p.version a) p.date framing) (is_withheld p.no_body a.status) f)
    (coded_text (answer_coding a p) p.persistence a.data_length (λ framing. answer_head_text (status_version p.persistence p.version) a.status u a.headers (listed_with u p.persistence p.version a) p.date framing) (is_withheld p.no_body a.status) feed)
upgrade-completes a feed p (Some x) kind e lt h = cc
upgrade-completes a feed p None kind e lt h =
    coding-completes (answer_coding a p) p.persistence a.data_length (λ framing. answer_head_text (status_version p.persistence p.version) a.status None a.headers (listed_of a p) p.date framing) (is_withheld p.no_body a.status) feed kind (long-head (status_version p.persistence p.version) a.status a.headers (listed_of a p) p.date (ContentLength 0)) lt h

-- a head alone never breaks off
content-completes : (a : Answer) (feed : Feed) (p : Printing) (o : Option FramingHeader) (kind : ErrorKind) → p.upgrade ≡ None → stated_length a.data_length feed < 2 ^ 64 → (text_by_code o a feed p).ending ≡ Broken kind
    → Completes a.data_length (λ f. text_by_code o a f p) (text_by_code o a feed p)
content-completes a feed p (Some framing) kind e lt h = cc
content-completes a feed p None kind e lt h = upgrade-completes a feed p p.upgrade kind e lt h

-- a broken text is a proper front of a whole one
text-completes : (a : Answer) (feed : Feed) (p : Printing) (kind : ErrorKind) → p.upgrade ≡ None → stated_length a.data_length feed < 2 ^ 64 → (text_of a feed p).ending ≡ Broken kind → Completes a.data_length (λ f. text_of a f p) (text_of a feed p)
unfolding text_of
text-completes a feed p kind e lt h =
    let P : Option (List ℕ) → Type 0 = λ u. (with_upgrade u a feed p).ending ≡ Broken kind → Completes a.data_length (λ f. with_upgrade u a f p) (with_upgrade u a feed p) in
    subst P (sym e) (content-completes a feed p (alone_by_code a p) kind e lt) h

pub broken-off : (m : Method) (a : Answer) (feed : Feed) (p : Printing) (kind : ErrorKind) → IsReadableAnswer m a feed p → (text_of a feed p).ending ≡ Broken kind → BreaksOff m (text_of a feed p).bytes
broken-off m a feed p kind r h =
    let c = text-completes a feed p kind r.no_upgrade r.length_fits h in
    let readable : IsReadableAnswer m a c.0 p = record {
      no_upgrade = r.no_upgrade;
      same_method = r.same_method;
      final = r.final;
      status_fits = r.status_fits;
      major_fits = r.major_fits;
      minor_fits = r.minor_fits;
      length_fits = c.2;
      readable = r.readable;
      no_coding = r.no_coding;
      no_length = r.no_length;
    } in
    let whole_text = read_back m a c.0 p [] readable c.3 in
    let P : List ℕ → Type 0 = λ z. ReadsAnswer m z (received_answer a c.0 p) [] in
    (c.1, received_answer a c.0 p, c.5, subst P (append-nil ((text_of a c.0 p).bytes) ∙ c.4) whole_text)

-- a 1xx head in front is passed over
pub passed-over : (m : Method) (front x : List ℕ) (h : AnswerHead) (a : ClientAnswer) (rest : List ℕ) → BeginsWithAnswerHead (front ++ x) h x → is_interim h.status ≡ true → ReadsAnswer m x a rest → ReadsAnswer m (front ++ x) a rest
passed-over m front x h a rest i t k =
    record { interim = h ∷ k.interim; start = k.start; after = k.after; passes = (x, i, t, k.passes); has_head = k.has_head; is_final = k.is_final; has_body = k.has_body }

some-text : (m : Method) (bytes : List ℕ) (a : ClientAnswer) → ReadsAnswer m bytes a [] → 0 < length bytes
some-text m [] a h = let e = answer-one m [] a [] h in cc
some-text m (b ∷ bs) a h = omega arith

nothing-step : (m : Method) (a : Answer) (feed : Feed) (p : Printing) (e : Ending) → IsReadableAnswer m a feed p → (text_of a feed p).ending ≡ e → BreaksOff m []
nothing-step m a feed p Whole r h =
    let P : List ℕ → Type 0 = λ z. ReadsAnswer m z (received_answer a feed p) [] in
    let t : ReadsAnswer m (text_of a feed p).bytes (received_answer a feed p) [] = subst P (append-nil (text_of a feed p).bytes) (read_back m a feed p [] r h) in
    ((text_of a feed p).bytes, received_answer a feed p, some-text m (text_of a feed p).bytes (received_answer a feed p) t, t)
nothing-step m a feed p (Broken kind) r h =
    let b = broken-off m a feed p kind r h in
    ((text_of a feed p).bytes ++ b.0, b.1, omega (arith, length-append (text_of a feed p).bytes b.0, b.2), b.3)

-- no byte at all is a proper front of an answer
pub nothing-off : (m : Method) (a : Answer) (feed : Feed) (p : Printing) → IsReadableAnswer m a feed p → BreaksOff m []
nothing-off m a feed p r = nothing-step m a feed p (text_of a feed p).ending r refl

-- a 100 is its head alone
abbrev pub interim_reply : Answer
interim_reply = record { status = 100; headers = []; data_length = Some 0; threshold = 32768; closes = false; offered = None; contentless = false }

abbrev interim_framing : Option Persistence → FramingHeader
interim_framing None = ContentLength 0
interim_framing (Some _) = Neither

abbrev interim_listed : Printing → List Header
interim_listed p = listed_of interim_reply p

interim-by : (p : Printing) (q : Option Persistence) → p.upgrade ≡ None → p.persistence ≡ q
    → (text_of interim_reply (record { bytes = []; stop = End }) p).bytes ≡ answer_head_text (status_version p.persistence p.version) 100 None [] (interim_listed p) p.date (interim_framing p.persistence)
unfolding text_of answer_coding
interim-by p None e q = rw (e, q) (simp (or-true, append-nil))
interim-by p (Some says) e q = rw (e, q) refl

pub interim-bytes : (p : Printing) → p.upgrade ≡ None
    → (text_of interim_reply (record { bytes = []; stop = End }) p).bytes ≡ answer_head_text (status_version p.persistence p.version) 100 None [] (interim_listed p) p.date (interim_framing p.persistence)
interim-bytes p e = interim-by p p.persistence e refl

none-listed : (q : Option Persistence) (v : HTTPVersion) → AllByRecursion IsReadable (listed_headers q v 100 None [])
none-listed None v = tt
none-listed (Some says) v = tt

interim-fits : (q : Option Persistence) → FramingFits (interim_framing q)
interim-fits None = omega arith
interim-fits (Some says) = tt

abbrev interim_read : Printing → AnswerHead
interim_read p = record { version = status_version p.persistence p.version; status = 100; headers = printed_headers [] (interim_listed p) p.date (interim_framing p.persistence) }

pub interim-head : (p : Printing) (x : List ℕ) → p.upgrade ≡ None → p.version.0 ≤ 255 → p.version.1 ≤ 255
    → (h : AnswerHead) × BeginsWithAnswerHead ((text_of interim_reply (record { bytes = []; stop = End }) p).bytes ++ x) h x × (is_interim h.status ≡ true)
interim-head p x e a b =
    let P : List ℕ → Type 0 = λ z. BeginsWithAnswerHead (z ++ x) (interim_read p) x in (
      interim_read p,
      subst P (sym (interim-bytes p e)) (head-represents (status_version p.persistence p.version) 100 [] (interim_listed p) p.date (interim_framing p.persistence) x
          (major-fits p.persistence p.version a) (minor-fits p.persistence p.version b) (omega arith) (none-listed p.persistence p.version) (interim-fits p.persistence)),
      refl,
    )
