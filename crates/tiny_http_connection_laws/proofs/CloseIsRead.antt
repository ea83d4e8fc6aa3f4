-- What a client reads of `Connection` is what the answer was printed with.
use Rattle.std.proofs.Common.{◌≡◌, refl, sym, ap, ◌∙◌, ℕ, ◌≤◌, Bool, true, false, ◌&&◌, ◌||◌, List, [], ◌∷◌, ◌++◌, Option, Some, None, arith}
use Rattle.std.specs.Prelude.{codes, if◌then◌else◌, nat_lt, option_map}
use Rattle.std.specs.List.{AllByRecursion, list_any, cons_option}
use Rattle.std.proofs.Math.Bool.{or-false}
use Rattle.std.proofs.lemmas.Bool.{ltb-true}
use Rattle.httpdate.specs.declared.date.HttpDate.{HttpDate}
use Rattle.tiny_http_head.specs.declared.common.HTTPVersion.{HTTPVersion}
use Rattle.tiny_http_head.specs.declared.common.Header.{Header}
use Rattle.tiny_http_response.specs.declared.coding.FramingHeader.{FramingHeader}
use Rattle.tiny_http_response.specs.declared.coding.FramingHeader.TheVariants.{Neither, TransferEncoding, ContentLength}
use Rattle.tiny_http_response.specs.declared.response_context.Persistence.{Persistence}
use Rattle.tiny_http_response.specs.declared.response_context.Persistence.TheVariants.{Persistent, Close}
use Rattle.tiny_http_response.specs.Coding.{is_up_to_1_0}
use Rattle.tiny_http_head.specs.Common.{same_name}
use Rattle.tiny_http_io.specs.Device.{Feed}
use Rattle.tiny_http_response.specs.Answer.{Answer, Printing, has_header}
use Rattle.tiny_http_response.specs.ByStandard.{persistence_option, connection_headers, safe_value, safe_headers, listed_headers}
use Rattle.tiny_http_standard_head.specs.Lists.{between_commas, elements_of, has_element}
use Rattle.tiny_http_client.specs.ClientText.{server_header, date_header, framing_header, printed_headers, listed_of, received_answer}
use Rattle.httpdate.specs.Date.{date_text}
use Rattle.tiny_http_body.specs.Text.{Ending, Whole, Broken}
use Rattle.tiny_http_response.specs.Answer.{text_plain}
use Rattle.tiny_http_body.specs.declared.framing.Profile.TheVariants.{Standard}
use Rattle.tiny_http_open_request.specs.ErrorResponse.{persistence_of, refusal_response}
use Rattle.tiny_http_open_request.specs.Pipeline.{Item, Asks, Refuses, Refusal, BadRequest, RequestTimeout, ExpectationFailed, HeaderFieldsTooLarge, VersionNotSupported, RequestLineTooLong, CodingNotImplemented, MajorVersionNotSupported}
use Rattle.tiny_http_response.specs.ResponseValue.{ResponseValue}
use Rattle.tiny_http_connection.specs.Segments.{Slot, Stage, Unanswered, Answered, ByServer, Raw, Upgraded, printing_for, server_response, stage_text}
use Rattle.tiny_http_client.specs.ClientAnswer.{ClientAnswer}
use Rattle.tiny_http_connection_laws.specs.ClientReads.{IsReadableStage, CanBeReadAt, answer_if_whole, stage_answer}
use Rattle.tiny_http_connection_laws.specs.Closes.{is_close_printed, says_close_by, says_close, reads_close, OwnsNoConnection, IsReadAsSaid}
use Rattle.tiny_http_connection_laws.proofs.StepsAdd.{AllSound, is_standard_item}

abbrev closing_in : List Header → Bool
closing_in headers = has_element (codes "Connection") (codes "close") headers

or-regroup : (a b c : Bool) → (a || (b || c)) ≡ ((a || b) || c)
or-regroup true b c = refl
or-regroup false b c = refl

any-append : (t : List ℕ → Bool) (xs ys : List (List ℕ)) → list_any t (xs ++ ys) ≡ (list_any t xs || list_any t ys)
any-append t [] ys = refl
any-append t (x ∷ xs) ys = ap (λ b. t x || b) (any-append t xs ys) ∙ or-regroup (t x) (list_any t xs) (list_any t ys)

any-more : (b : Bool) (t : List ℕ → Bool) (v z x y : List (List ℕ)) → list_any t z ≡ (list_any t x || list_any t y) → list_any t (if b then v ++ z else z) ≡ (list_any t (if b then v ++ x else x) || list_any t y)
any-more true t v z x y e = any-append t v z ∙ ap (λ q. list_any t v || q) e ∙ or-regroup (list_any t v) (list_any t x) (list_any t y) ∙ ap (λ q. q || list_any t y) (sym (any-append t v x))
any-more false t v z x y e = e

closing-append : (xs ys : List Header) → closing_in (xs ++ ys) ≡ (closing_in xs || closing_in ys)
closing-append [] ys = refl
closing-append (h ∷ hs) ys =
    let name = codes "Connection" in
    any-more (same_name h.field name) (λ e. same_name e (codes "close")) (between_commas h.value) (elements_of name (hs ++ ys)) (elements_of name hs) (elements_of name ys) (closing-append hs ys)

or-none : (a b : Bool) → (a || b) ≡ false → (a ≡ false) × (b ≡ false)
or-none true b e = cc
or-none false b e = (refl, e)

-- headers without that name say nothing of it
safe-more : (b : Bool) (h : Header) (hs : List Header) → same_name h.field (codes "Connection") ≡ false → closing_in (safe_headers hs) ≡ false
    → closing_in (cons_option (if b then Some (record h { value = safe_value h.value }) else None) (safe_headers hs)) ≡ false
safe-more true h hs e more = rw e more
safe-more false h hs e more = more

safe-none : (headers : List Header) → has_header headers (codes "Connection") ≡ false → closing_in (safe_headers headers) ≡ false
safe-none [] e = refl
safe-none (h ∷ hs) e =
    let parts = or-none (same_name h.field (codes "Connection")) (has_header hs (codes "Connection")) e in
    safe-more _ h hs parts.0 (safe-none hs parts.1)

abbrev is_close : Persistence → Bool
is_close Close = true
is_close Persistent = false

connection-says : (offered : Option (List ℕ)) (version : HTTPVersion) (says : Persistence) → closing_in (connection_headers offered (persistence_option version says)) ≡ is_close says
connection-says None version Close = refl
connection-says (Some protocols) version Close = refl
connection-says None version Persistent = by (is_up_to_1_0 version)
  where
    by : (b : Bool) → closing_in (connection_headers None (if b then Some (codes "keep-alive") else None)) ≡ false
    by true = refl
    by false = refl
connection-says (Some protocols) version Persistent = by (is_up_to_1_0 version)
  where
    by : (b : Bool) → closing_in (connection_headers (Some protocols) (if b then Some (codes "keep-alive") else None)) ≡ false
    by true = refl
    by false = refl

server-none : (headers : List Header) → closing_in (server_header headers) ≡ false
server-none headers = by (has_header headers (codes "Server"))
  where
    by : (b : Bool) → closing_in (if b then [] else record { field = codes "Server"; value = codes "tiny-http (Rust)" } ∷ []) ≡ false
    by true = refl
    by false = refl

framing-none : (f : FramingHeader) → closing_in (framing_header f) ≡ false
framing-none Neither = refl
framing-none TransferEncoding = refl
framing-none (ContentLength n) = refl

listed-says : (a : Answer) (p : Printing) (says : Persistence) → p.persistence ≡ Some says → nat_lt a.status 200 ≡ false → has_header a.headers (codes "Connection") ≡ false → closing_in (listed_of a p) ≡ is_close says
listed-says a p says e final none =
    let offer = option_map safe_value a.offered in
    let connection = connection_headers offer (persistence_option p.version says) in
    let L : Option Persistence → Bool = λ o. closing_in (listed_headers o p.version a.status a.offered a.headers) in
    let F : Bool → Bool = λ b. closing_in ((if b then [] else connection) ++ safe_headers a.headers) in
    ap L e ∙ ap F final ∙ closing-append connection (safe_headers a.headers) ∙ ap (λ b. closing_in connection || b) (safe-none a.headers none) ∙ or-false (closing_in connection) ∙ connection-says offer p.version says

date-none : (headers : List Header) (date : HttpDate) → closing_in (date_header headers date) ≡ false
date-none headers date = by (has_header headers (codes "Date"))
  where
    by : (b : Bool) → closing_in (if b then [] else record { field = codes "Date"; value = date_text date } ∷ []) ≡ false
    by true = refl
    by false = refl

lined : (server date listed framing : List Header) → closing_in server ≡ false → closing_in date ≡ false → closing_in framing ≡ false → closing_in (server ++ (date ++ (listed ++ framing))) ≡ closing_in listed
lined server date listed framing s d f =
    closing-append server (date ++ (listed ++ framing)) ∙ ap (λ b. b || closing_in (date ++ (listed ++ framing))) s
    ∙ (closing-append date (listed ++ framing) ∙ ap (λ b. b || closing_in (listed ++ framing)) d)
    ∙ (closing-append listed framing ∙ ap (λ b. closing_in listed || b) f ∙ or-false (closing_in listed))

pub printed-says : (a : Answer) (content : Feed) (p : Printing) (says : Persistence) → p.persistence ≡ Some says → nat_lt a.status 200 ≡ false → has_header a.headers (codes "Connection") ≡ false → reads_close (received_answer a content p) ≡ is_close says
unfolding printed_headers
printed-says a content p says e final none =
    lined (server_header a.headers) (date_header a.headers p.date) (listed_of a p) (framing_header _) (server-none a.headers) (date-none a.headers p.date) (framing-none _) ∙ listed-says a p says e final none

-- ---- of a number

final-by : (status : ℕ) → 200 ≤ status → nat_lt status 200 ≡ false
final-by status e = so-false (nat_lt status 200) (λ l. let less = ltb-true status 200 l in absurd (omega (arith, e, less)))
  where
    so-false : (b : Bool) → (b ≡ true → ⊥) → b ≡ false
    so-false true h = absurd (h refl)
    so-false false h = refl

is-close-if : (b : Bool) → is_close (if b then Close else Persistent) ≡ b
is-close-if true = refl
is-close-if false = refl

whole-is : (e : Ending) (r : ResponseValue) (p : Printing) (a : ClientAnswer) → answer_if_whole e r p ≡ Some a → received_answer r.answer r.content p ≡ a
whole-is Whole r p a e = cc
whole-is (Broken kind) r p a e = cc

-- what the answer under an item is printed with
item-says : (closes : Bool) (item : Item) (date : HttpDate) (r : ResponseValue) → is_standard_item item ≡ true → nat_lt r.answer.status 200 ≡ false → has_header r.answer.headers (codes "Connection") ≡ false
    → reads_close (received_answer r.answer r.content (printing_for closes item date)) ≡ is_close_printed closes item
item-says closes (Asks q) date r standard final none =
    let P : Bool → Option Persistence = λ b. persistence_of b closes in
    printed-says r.answer r.content (printing_for closes (Asks q) date) (if closes then Close else Persistent) (ap P standard) final none ∙ is-close-if closes ∙ sym (ap (λ b. b && closes) standard)
item-says closes (Refuses refusal manner no_body last) date r standard final none =
    let P : Bool → Option Persistence = λ b. persistence_of b true in
    printed-says r.answer r.content (printing_for closes (Refuses refusal manner no_body last) date) Close (ap P standard) final none ∙ sym standard

-- the server's own answers
server-final : (item : Item) → (nat_lt (server_response item).answer.status 200 ≡ false) × (has_header (server_response item).answer.headers (codes "Connection") ≡ false)
unfolding text_plain
server-final (Asks r) = (refl, refl)
server-final (Refuses refusal manner no_body last) = by refusal
  where
    by : (f : Refusal) → (nat_lt (refusal_response f).answer.status 200 ≡ false) × (has_header (refusal_response f).answer.headers (codes "Connection") ≡ false)
    by BadRequest = (refl, refl)
    by RequestTimeout = (refl, refl)
    by ExpectationFailed = (refl, refl)
    by HeaderFieldsTooLarge = (refl, refl)
    by VersionNotSupported = (refl, refl)
    by RequestLineTooLong = (refl, refl)
    by CodingNotImplemented = (refl, refl)
    by MajorVersionNotSupported = (refl, refl)

pub close-is_read : (s : Slot) (a : ClientAnswer) → is_standard_item s.item ≡ true → CanBeReadAt Standard s → OwnsNoConnection s.stage → stage_answer s s.stage ≡ Some a → reads_close a ≡ says_close s
close-is_read s a standard can owns e = by s.stage can owns e
  where
    by : (stage : Stage) → IsReadableStage true stage → OwnsNoConnection stage → stage_answer s stage ≡ Some a → reads_close a ≡ says_close_by s.closes s.item stage
    by Unanswered can owns e = cc
    by (Answered response date found) can owns e =
        sym (ap reads_close (whole-is (stage_text s.closes s.item s.date s.stage).ending response (printing_for s.closes s.item date) a e))
        ∙ item-says s.closes s.item date response standard (final-by response.answer.status can.final) owns
    by ByServer can owns e =
        let f = server-final s.item in
        sym (ap reads_close (whole-is (stage_text s.closes s.item s.date s.stage).ending (server_response s.item) (printing_for s.closes s.item s.date) a e))
        ∙ item-says s.closes s.item s.date (server_response s.item) standard f.0 f.1
    by (Raw written ends) can owns e = elim can [ ]
    by (Upgraded protocol response date written ends) can owns e = elim can [ ]

pub all-read : (slots : List Slot) → AllSound true slots → AllByRecursion IsReadAsSaid slots
all-read [] h = tt
all-read (s ∷ slots) h = (λ can owns a e. close-is_read s a h.0.fits.1 can owns e, all-read slots h.1)
