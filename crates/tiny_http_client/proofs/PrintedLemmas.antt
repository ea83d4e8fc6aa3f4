-- A printed head is read as it was printed.
use Rattle.std.proofs.Common.{◌≡◌, refl, sym, ap, ◌∙◌, subst, ℕ, ◌<◌, ◌≤◌, ◌^◌, Bool, true, false, not, List, [], ◌∷◌, ◌++◌, None, append_assoc, append-nil, arith, eqb-true}
use Rattle.std.specs.Prelude.{◌==◌, IsTrue, codes, decimal, if◌then◌else◌}
use Rattle.std.specs.List.{list_all, AllByRecursion, flat_map}
use Rattle.std.proofs.lemmas.List.Folds.{list_all-append}
use Rattle.std.proofs.lemmas.Bool.{and_parts}
use Rattle.tiny_http_client.proofs.ClientReadingLines.{decimal-has_no}
use Rattle.httpdate.specs.Date.{date_text}
use Rattle.httpdate.specs.declared.date.HttpDate.{HttpDate}
use Rattle.tiny_http_head.specs.declared.common.HTTPVersion.{HTTPVersion}
use Rattle.tiny_http_head.specs.declared.common.Header.{Header}
use Rattle.tiny_http_response.specs.declared.coding.FramingHeader.{FramingHeader}
use Rattle.tiny_http_response.specs.declared.coding.FramingHeader.TheVariants.{Neither, TransferEncoding, ContentLength}
use Rattle.tiny_http_text.specs.Bytes.{is_ascii, is_blank, AreAscii, HasNo, HasNoBlank, has_bare_front, space, colon, crlf}
use Rattle.tiny_http_text.specs.Lines.{has_crlf}
use Rattle.tiny_http_head.specs.Common.{reason_phrase}
use Rattle.tiny_http_response.specs.Answer.{has_header, status_line, field_line, field_line_of, upgrade_lines, server_line, date_line, length_line, framing_line, answer_head_text}
use Rattle.tiny_http_response.specs.Readable.{IsReadable}
use Rattle.tiny_http_client.specs.ClientAnswer.{is_space, FieldLine, BeginsWithFieldLines, BeginsWithAnswerHead}
use Rattle.tiny_http_client.specs.ClientText.{server_header, date_header, framing_header, printed_headers}
use Rattle.tiny_http_client.proofs.PlainLemmas.{ArePlain, plain-append, plain-decimal, plain-phrase, plain-ascii, no-cr-front, plain-one_line, no-blank-no_cr, plain-date, date-front}

abbrev line_of : Header → List ℕ
line_of h = h.field ++ colon ∷ space ∷ h.value

-- a header whose printed line is read as it was printed
pub record PrintsBack (h : Header) : Type 0 where
  pub ascii : AreAscii (line_of h)
  pub first : has_crlf (line_of h) ≡ false
  pub parts : FieldLine (line_of h) h

ascii-line : (field value : List ℕ) → AreAscii field → AreAscii value → AreAscii (field ++ colon ∷ space ∷ value)
ascii-line field value h k = rw (list_all-append is_ascii field (colon ∷ space ∷ value), h) k

one-line : (field value : List ℕ) → HasNoBlank field → has_crlf value ≡ false → has_crlf (field ++ colon ∷ space ∷ value) ≡ false
one-line field value h k =
    let a : field ++ colon ∷ space ∷ value ≡ (field ++ colon ∷ space ∷ []) ++ value = sym (append_assoc field (colon ∷ space ∷ []) value) in
    let n : list_all (λ b. not (b == 13)) (field ++ colon ∷ space ∷ []) ≡ true = rw (list_all-append (λ (b : ℕ). not (b == 13)) field (colon ∷ space ∷ []), no-blank-no_cr field h) refl in
    ap has_crlf a ∙ (no-cr-front (field ++ colon ∷ space ∷ []) value n ∙ k)

space-blank : (b : ℕ) (t : Bool) → (b == space) ≡ t → not (is_blank b) ≡ true → not t ≡ true
space-blank b true e h =
    let P : ℕ → Type 0 = λ x. not (is_blank x) ≡ true in
    let k : not (is_blank 32) ≡ true = subst P (eqb-true b 32 e) h in
    cc
space-blank b false e h = refl

front-space : (value : List ℕ) → IsTrue (has_bare_front is_blank value) → IsTrue (has_bare_front is_space value)
front-space [] h = refl
front-space (b ∷ bs) h = space-blank b (b == space) refl h

readable-represents : (h : Header) → IsReadable h → PrintsBack h
readable-represents h r = record {
  ascii = ascii-line h.field h.value r.ascii_field r.ascii_value;
  first = one-line h.field h.value r.no_blank r.one_line;
  parts = record { joins = refl; no_colon = r.no_colon; no_blank = r.no_blank; one_space = front-space h.value r.bare_front };
}

-- a value of the server's own
plain-represents : (field value : List ℕ) → AreAscii field → HasNo colon field → HasNoBlank field → ArePlain value → IsTrue (has_bare_front is_space value) → PrintsBack (record { field = field; value = value })
plain-represents field value a c b p s = record {
  ascii = ascii-line field value a (plain-ascii value p);
  first = one-line field value b (plain-one_line value p);
  parts = record { joins = refl; no_colon = c; no_blank = b; one_space = s };
}

abbrev AllStand : List Header → Type 0
AllStand hs = AllByRecursion PrintsBack hs

all-readable : (hs : List Header) → AllByRecursion IsReadable hs → AllStand hs
all-readable [] h = tt
all-readable (x ∷ xs) h = (readable-represents x h.0, all-readable xs h.1)

all-append : (xs ys : List Header) → AllStand xs → AllStand ys → AllStand (xs ++ ys)
all-append [] ys h k = k
all-append (x ∷ xs) ys h k = (h.0, all-append xs ys h.1 k)

server-represents : (headers : List Header) → AllStand (server_header headers)
server-represents headers = elim (has_header headers (codes "Server")) as (λ t. AllStand (if t then [] else record { field = codes "Server"; value = codes "tiny-http (Rust)" } ∷ [])) [
  | true ↦ tt
  | false ↦ (plain-represents (codes "Server") (codes "tiny-http (Rust)") refl refl refl refl refl, tt)
]

date-represents : (headers : List Header) (date : HttpDate) → AllStand (date_header headers date)
date-represents headers date = elim (has_header headers (codes "Date")) as (λ t. AllStand (if t then [] else record { field = codes "Date"; value = date_text date } ∷ [])) [
  | true ↦ tt
  | false ↦ (plain-represents (codes "Date") (date_text date) refl refl refl (plain-date date) (date-front date), tt)
]

abbrev pub FramingFits : FramingHeader → Type 0
FramingFits Neither = Unit {0}
FramingFits TransferEncoding = Unit {0}
FramingFits (ContentLength n) = n < 2 ^ 64

digits-front : (ds : List ℕ) → IsTrue (list_all (λ b. not (b == space)) ds) → IsTrue (has_bare_front is_space ds)
digits-front [] h = refl
digits-front (b ∷ bs) h = (and_parts (not (b == space)) (list_all (λ x. not (x == space)) bs) h).0

framing-represents : (framing : FramingHeader) → FramingFits framing → AllStand (framing_header framing)
framing-represents Neither h = tt
framing-represents TransferEncoding h = (plain-represents (codes "Transfer-Encoding") (codes "chunked") refl refl refl refl refl, tt)
framing-represents (ContentLength n) h = (plain-represents (codes "Content-Length") (decimal n) refl refl refl (plain-decimal n h) (digits-front (decimal n) (decimal-has_no space n (omega arith) h)), tt)

pub printed-stand : (headers listed : List Header) (date : HttpDate) (framing : FramingHeader) → AllByRecursion IsReadable listed → FramingFits framing → AllStand (printed_headers headers listed date framing)
unfolding printed_headers
printed-stand headers listed date framing h f =
    all-append (server_header headers) (date_header headers date ++ (listed ++ framing_header framing)) (server-represents headers)
    (all-append (date_header headers date) (listed ++ framing_header framing) (date-represents headers date)
    (all-append listed (framing_header framing) (all-readable listed h) (framing-represents framing f)))

-- the text of a list of headers
abbrev pub lines_of : List Header → List ℕ
lines_of hs = flat_map field_line_of hs

field-line-is : (h : Header) → field_line_of h ≡ line_of h ++ crlf
unfolding field_line
field-line-is h = simp append_assoc

lines-append : (xs ys : List Header) → lines_of (xs ++ ys) ≡ lines_of xs ++ lines_of ys
lines-append [] ys = refl
lines-append (x ∷ xs) ys = ap (λ y. field_line_of x ++ y) (lines-append xs ys) ∙ sym (append_assoc (field_line_of x) (lines_of xs) (lines_of ys))

-- printed lines are read as the headers that they print
fields-lines : (hs : List Header) (rest : List ℕ) → AllStand hs → BeginsWithFieldLines (lines_of hs ++ rest) hs rest
fields-lines [] rest h = refl
fields-lines (x ∷ xs) rest h = (
  line_of x,
  lines_of xs ++ rest,
  record { joins = append_assoc (field_line_of x) (lines_of xs) rest ∙ ap (λ y. y ++ (lines_of xs ++ rest)) (field-line-is x); first = h.0.first },
  h.0.ascii,
  h.0.parts,
  fields-lines xs rest h.1,
)

-- the head of an answer without upgrade is the status line, the lines of the printed headers, and an empty line
server-line-is : (headers : List Header) → server_line headers ≡ lines_of (server_header headers)
unfolding server_line field_line
server-line-is headers = elim (has_header headers (codes "Server")) as (λ t. (if t then [] else field_line (codes "Server") (codes "tiny-http (Rust)")) ≡ lines_of (if t then [] else record { field = codes "Server"; value = codes "tiny-http (Rust)" } ∷ [])) [
  | true ↦ refl
  | false ↦ sym (append-nil (field_line (codes "Server") (codes "tiny-http (Rust)")))
]

date-line-is : (headers : List Header) (date : HttpDate) → date_line headers date ≡ lines_of (date_header headers date)
unfolding date_line
date-line-is headers date = elim (has_header headers (codes "Date")) as (λ t. (if t then [] else field_line (codes "Date") (date_text date)) ≡ lines_of (if t then [] else record { field = codes "Date"; value = date_text date } ∷ [])) [
  | true ↦ refl
  | false ↦ sym (append-nil (field_line (codes "Date") (date_text date)))
]

framing-line-is : (framing : FramingHeader) → framing_line framing ≡ lines_of (framing_header framing)
unfolding framing_line
framing-line-is Neither = refl
framing-line-is TransferEncoding = sym (append-nil (field_line (codes "Transfer-Encoding") (codes "chunked")))
framing-line-is (ContentLength n) = sym (append-nil (length_line n))

head-is-lines : (v : HTTPVersion) (status : ℕ) (headers listed : List Header) (date : HttpDate) (framing : FramingHeader)
    → answer_head_text v status None headers listed date framing ≡ status_line v status ++ (lines_of (printed_headers headers listed date framing) ++ crlf)
unfolding answer_head_text upgrade_lines printed_headers
head-is-lines v status headers listed date framing =
    let s = server_header headers in
    let d = date_header headers date in
    let f = framing_header framing in
    let e : lines_of (s ++ (d ++ (listed ++ f))) ≡ lines_of s ++ (lines_of d ++ (lines_of listed ++ lines_of f)) =
    lines-append s (d ++ (listed ++ f)) ∙ ap (λ y. lines_of s ++ y) (lines-append d (listed ++ f) ∙ ap (λ y. lines_of d ++ y) (lines-append listed f)) in
    rw (e, server-line-is headers, date-line-is headers date, framing-line-is framing) (simp append_assoc)

-- the status line
abbrev status_text : HTTPVersion → ℕ → List ℕ
status_text v status = codes "HTTP/" ++ (decimal v.0 ++ 46 ∷ (decimal v.1 ++ space ∷ (decimal status ++ space ∷ reason_phrase status)))

status-line-is : (v : HTTPVersion) (status : ℕ) → status_line v status ≡ status_text v status ++ crlf
unfolding status_line
status-line-is v status = simp append_assoc

status-plain : (v : HTTPVersion) (status : ℕ) → v.0 ≤ 255 → v.1 ≤ 255 → status ≤ 65535 → ArePlain (status_text v status)
status-plain v status a b c =
    plain-append (codes "HTTP/") (decimal v.0 ++ 46 ∷ (decimal v.1 ++ space ∷ (decimal status ++ space ∷ reason_phrase status))) refl
    (plain-append (decimal v.0) (46 ∷ (decimal v.1 ++ space ∷ (decimal status ++ space ∷ reason_phrase status))) (plain-decimal v.0 (omega arith))
    (plain-append (decimal v.1) (space ∷ (decimal status ++ space ∷ reason_phrase status)) (plain-decimal v.1 (omega arith))
    (plain-append (decimal status) (space ∷ reason_phrase status) (plain-decimal status (omega arith)) (plain-phrase status))))

-- a printed head is read as it was printed
pub head-represents : (v : HTTPVersion) (status : ℕ) (headers listed : List Header) (date : HttpDate) (framing : FramingHeader) (after : List ℕ)
    → v.0 ≤ 255 → v.1 ≤ 255 → status ≤ 65535 → AllByRecursion IsReadable listed → FramingFits framing
    → BeginsWithAnswerHead (answer_head_text v status None headers listed date framing ++ after) (record { version = v; status = status; headers = printed_headers headers listed date framing }) after
head-represents v status headers listed date framing after a b c h f =
    let p = status-plain v status a b c in
    let hs = printed_headers headers listed date framing in
    let fields = lines_of hs ++ (crlf ++ after) in
    record {
      fields = fields;
      empty = crlf ++ after;
      starts = (
        status_text v status,
        record {
          joins = ap (λ y. y ++ after) (head-is-lines v status headers listed date framing)
              ∙ (append_assoc (status_line v status) (lines_of hs ++ crlf) after
              ∙ (ap (λ y. status_line v status ++ y) (append_assoc (lines_of hs) crlf after)
              ∙ ap (λ y. y ++ fields) (status-line-is v status)));
          first = plain-one_line (status_text v status) p;
        },
        plain-ascii (status_text v status) p,
        record { phrase = reason_phrase status; joins = refl; major_fits = a; minor_fits = b; status_fits = c },
      );
      names = fields-lines hs (crlf ++ after) (printed-stand headers listed date framing h f);
      ends = record { joins = refl; first = refl };
    }
