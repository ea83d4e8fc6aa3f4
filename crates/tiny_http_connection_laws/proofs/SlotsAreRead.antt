-- The joined output, and each front of it, is read as the answers of its numbers.
use Rattle.std.proofs.Common.{◌≡◌, refl, sym, ap, ◌∙◌, subst, ℕ, ◌≤◌, Bool, true, false, not, ◌&&◌, List, [], ◌∷◌, ◌++◌, map, Option, Some, None, append_assoc, append-nil, arith}
use Rattle.std.specs.Prelude.{if◌then◌else◌, MatchOption, codes, option_map}
use Rattle.std.proofs.lemmas.Bool.{and_parts, le-ltb}
use Rattle.tiny_http_response.proofs.SendingLemmas.{or-parts}
use Rattle.std.specs.List.{AllByRecursion, list_all, cons_option}
use Rattle.httpdate.specs.declared.date.HttpDate.{HttpDate}
use Rattle.tiny_http_head.specs.declared.common.Method.{Method}
use Rattle.tiny_http_head.specs.declared.common.Method.TheVariants.{Get, Head}
use Rattle.tiny_http_head.specs.declared.common.Header.{Header}
use Rattle.tiny_http_head.specs.declared.common.HTTPVersion.{HTTPVersion}
use Rattle.tiny_http_response.specs.declared.response_context.Persistence.{Persistence}
use Rattle.tiny_http_response.specs.declared.response_context.Persistence.TheVariants.{Persistent, Close}
use Rattle.tiny_http_response.specs.Coding.{is_up_to_1_0}
use Rattle.tiny_http_response.specs.ByStandard.{persistence_option, connection_header, options_with_upgrade, connection_headers, safe_value, safe_headers, listed_headers}
use Rattle.tiny_http_io.specs.Device.{IsFront}
use Rattle.tiny_http_body.specs.Text.{Ending, Whole, Broken}
use Rattle.tiny_http_response.specs.Answer.{Answer, Printing, text_plain}
use Rattle.tiny_http_response.specs.Readable.{IsReadable}
use Rattle.tiny_http_body.specs.declared.framing.Profile.{Profile}
use Rattle.tiny_http_open_request.specs.Pipeline.{Item, Asks, Refuses, Refusal, BadRequest, RequestTimeout, ExpectationFailed, HeaderFieldsTooLarge, VersionNotSupported, RequestLineTooLong, CodingNotImplemented, MajorVersionNotSupported, is_head_method}
use Rattle.tiny_http_open_request.specs.ErrorResponse.{persistence_of, refusal_response}
use Rattle.tiny_http_response.specs.ResponseValue.{ResponseValue, response_of, response_text}
use Rattle.tiny_http_connection.specs.Segments.{Slot, Stage, Unanswered, Answered, ByServer, Raw, Upgraded, drop_response, continue_response, printing_for, server_response, text_if, stage_text, opening, segment, is_broken, is_slot_broken, is_stage_finished, is_finished}
use Rattle.tiny_http_connection.specs.Slots.{is_output_broken, joined}
use Rattle.tiny_http_client.specs.ClientAnswer.{ClientAnswer, ReadsAnswer, ReadsAnswers, is_head}
use Rattle.tiny_http_client.specs.ClientText.{IsReadableAnswer, received_answer}
use Rattle.tiny_http_client.specs.SentTexts.{BreaksOff, IsSentText, joined_texts, joined_behind, methods, whole_by, whole_answers, remains_by, remains}
use Rattle.tiny_http_client.proofs.TextLaw.{read_back}
use Rattle.tiny_http_client.proofs.BrokenLemmas.{broken-off, nothing-off, passed-over, interim-head}
use Rattle.tiny_http_client.proofs.SentTextsLemmas.{reads, reads-all, Reads}
use Rattle.tiny_http_connection_laws.specs.ClientReads.{counts_as, goes_by_standard, offer_headers, headers_printed, CanBeRead, IsReadableStage, CanBeReadAt, answer_if_whole, stage_answer, sent_text, sent_texts, HaveAnswers}
use Rattle.tiny_http_connection_laws.proofs.StepsAdd.{ItemFits, AllSound}

-- a HEAD is a HEAD
same-head : (m : Method) → is_head_method m ≡ is_head m
same-head Head = refl
same-head _ = refl

refused-head : (b : Bool) → b ≡ is_head (if b then Head else Get)
refused-head true = refl
refused-head false = refl

-- what is said of a connection is readable, also with an upgrade that is offered
abbrev AreSaid : Option (List ℕ) → Type 0
AreSaid None = Unit {0}
AreSaid (Some option) = IsReadable (connection_header option) × IsReadable (connection_header (options_with_upgrade (Some option)))

close-said : AreSaid (Some (codes "close"))
close-said = (
  record { ascii_field = refl; ascii_value = refl; no_blank = refl; no_colon = refl; bare_front = refl; bare_end = refl; one_line = refl },
  record { ascii_field = refl; ascii_value = refl; no_blank = refl; no_colon = refl; bare_front = refl; bare_end = refl; one_line = refl },
)

persists-said : AreSaid (Some (codes "keep-alive"))
persists-said = (
  record { ascii_field = refl; ascii_value = refl; no_blank = refl; no_colon = refl; bare_front = refl; bare_end = refl; one_line = refl },
  record { ascii_field = refl; ascii_value = refl; no_blank = refl; no_colon = refl; bare_front = refl; bare_end = refl; one_line = refl },
)

upgrade-said : IsReadable (connection_header (codes "upgrade"))
upgrade-said = record { ascii_field = refl; ascii_value = refl; no_blank = refl; no_colon = refl; bare_front = refl; bare_end = refl; one_line = refl }

all-said : (v : HTTPVersion) (says : Persistence) → AreSaid (persistence_option v says)
all-said v Close = close-said
all-said v Persistent = by (is_up_to_1_0 v)
  where
    by : (t : Bool) → AreSaid (if t then Some (codes "keep-alive") else None)
    by true = persists-said
    by false = tt

connection-readable : (offered says : Option (List ℕ)) (rest : List Header) → AreSaid says → AllByRecursion IsReadable (offer_headers offered ++ rest) → AllByRecursion IsReadable (connection_headers offered says ++ rest)
connection-readable None None rest s h = h
connection-readable None (Some option) rest s h = (s.0, h)
connection-readable (Some protocols) None rest s h = (upgrade-said, h)
connection-readable (Some protocols) (Some option) rest s h = (s.1, h)

-- the headers of a final answer are readable as they are printed
listed-readable : (bs is_last : Bool) (v : HTTPVersion) (a : Answer) → 200 ≤ a.status → AllByRecursion IsReadable (headers_printed bs a) → AllByRecursion IsReadable (listed_headers (persistence_of bs is_last) v a.status a.offered a.headers)
listed-readable false is_last v a le h = h
listed-readable true is_last v a le h =
    let says : Persistence = if is_last then Close else Persistent in
    let front = connection_headers (option_map safe_value a.offered) (persistence_option v says) in
    let P : Bool → Type 0 = λ t. AllByRecursion IsReadable ((if t then [] else front) ++ safe_headers a.headers) in
    subst P (sym (le-ltb a.status 200 le)) (connection-readable (option_map safe_value a.offered) (persistence_option v says) (safe_headers a.headers) (all-said v says) h)

-- an answer that was printed for a number can be read
readable-for : (bs closes : Bool) (item : Item) (r : ResponseValue) (date : HttpDate) → CanBeRead bs r → ItemFits bs item → IsReadableAnswer (counts_as item) r.answer r.content (printing_for closes item date)
readable-for bs closes (Asks q) r date c f =
    let P : Bool → Type 0 = λ b. AllByRecursion IsReadable (headers_printed b r.answer) in
    record {
      no_upgrade = refl;
      same_method = same-head q.message.method;
      final = c.final;
      status_fits = c.status_fits;
      major_fits = f.0.0;
      minor_fits = f.0.1;
      length_fits = c.length_fits;
      readable = listed-readable q.framing.by_standard closes q.message.version r.answer c.final (subst P (sym f.1) c.readable);
      no_coding = c.no_coding;
      no_length = c.no_length;
    }
readable-for bs closes (Refuses refusal manner no_body last) r date c f =
    let P : Bool → Type 0 = λ b. AllByRecursion IsReadable (headers_printed b r.answer) in
    record {
      no_upgrade = refl;
      same_method = refused-head no_body;
      final = c.final;
      status_fits = c.status_fits;
      major_fits = f.0.0;
      minor_fits = f.0.1;
      length_fits = c.length_fits;
      readable = listed-readable manner.by_standard true manner.version r.answer c.final (subst P (sym f.1) c.readable);
      no_coding = c.no_coding;
      no_length = c.no_length;
    }

-- a 100 in front is passed over
opened : (bs : Bool) (item : Item) (date : Option HttpDate) (x : List ℕ) (m : Method) (a : ClientAnswer) (rest : List ℕ) → ItemFits bs item → ReadsAnswer m x a rest → ReadsAnswer m (opening item date ++ x) a rest
opened bs item None x m a rest f h = h
opened bs (Asks q) (Some date) x m a rest f h =
    let p = printing_for q.framing.is_last (Asks q) date in
    let i = interim-head p x refl f.0.0 f.0.1 in
    passed-over m (response_text continue_response p).bytes x i.0 a rest i.1 i.2 h
opened bs (Refuses refusal manner no_body last) (Some date) x m a rest f h =
    let p = printing_for last (Refuses refusal manner no_body last) date in
    let i = interim-head p x refl f.0.0 f.0.1 in
    passed-over m (response_text continue_response p).bytes x i.0 a rest i.1 i.2 h

opened-off : (bs : Bool) (item : Item) (date : Option HttpDate) (x : List ℕ) (m : Method) → ItemFits bs item → BreaksOff m x → BreaksOff m (opening item date ++ x)
opened-off bs item date x m f b =
    let P : List ℕ → Type 0 = λ z. ReadsAnswer m z b.1 [] in
    (b.0, b.1, b.2, subst P (sym (append_assoc (opening item date) x b.0)) (opened bs item date (x ++ b.0) m b.1 [] f b.3))

-- a text is an answer, or breaks off
abbrev IsAnswerText : Method → List ℕ → Option ClientAnswer → Type 0
IsAnswerText m text answer = MatchOption answer (BreaksOff m text) (λ a. ReadsAnswer m text a [])

opened-text : (bs : Bool) (item : Item) (date : Option HttpDate) (text : List ℕ) (answer : Option ClientAnswer) → ItemFits bs item → IsAnswerText (counts_as item) text answer → IsAnswerText (counts_as item) (opening item date ++ text) answer
opened-text bs item date text None f h = opened-off bs item date text (counts_as item) f h
opened-text bs item date text (Some a) f h = opened bs item date text (counts_as item) a [] f h

text-step : (m : Method) (r : ResponseValue) (p : Printing) (e : Ending) → IsReadableAnswer m r.answer r.content p → (response_text r p).ending ≡ e → IsAnswerText m (response_text r p).bytes (answer_if_whole e r p)
text-step m r p Whole h e =
    let P : List ℕ → Type 0 = λ z. ReadsAnswer m z (received_answer r.answer r.content p) [] in
    subst P (append-nil (response_text r p).bytes) (read_back m r.answer r.content p [] h e)
text-step m r p (Broken kind) h e = broken-off m r.answer r.content p kind h e

found-text : (m : Method) (found : Bool) (r : ResponseValue) (p : Printing) → IsReadableAnswer m r.answer r.content p → IsAnswerText m (text_if found r p).bytes (answer_if_whole (text_if found r p).ending r p)
found-text m true r p h = text-step m r p (response_text r p).ending h refl
found-text m false r p h = nothing-off m r.answer r.content p h

-- the server's own answers can be read
empty-can_be_read : (bs : Bool) (status : ℕ) → 200 ≤ status → status ≤ 65535 → CanBeRead bs (response_of status [] [])
empty-can_be_read true status final fits = record { final = final; readable = tt; status_fits = fits; length_fits = omega arith; no_coding = refl; no_length = refl }
empty-can_be_read false status final fits = record { final = final; readable = tt; status_fits = fits; length_fits = omega arith; no_coding = refl; no_length = refl }

-- the header of a plain text, whether it is left out or not
plain-safe : (t : Bool) → AllByRecursion IsReadable (cons_option (if t then Some (record text_plain { value = safe_value text_plain.value }) else None) [])
unfolding text_plain
plain-safe true = (record { ascii_field = refl; ascii_value = refl; no_blank = refl; no_colon = refl; bare_front = refl; bare_end = refl; one_line = refl }, tt)
plain-safe false = tt

plain-readable : (bs : Bool) → AllByRecursion IsReadable (headers_printed bs (refusal_response VersionNotSupported).answer)
unfolding text_plain
plain-readable true = plain-safe _
plain-readable false = (record { ascii_field = refl; ascii_value = refl; no_blank = refl; no_colon = refl; bare_front = refl; bare_end = refl; one_line = refl }, tt)

refusal-can_be_read : (bs : Bool) (refusal : Refusal) → CanBeRead bs (refusal_response refusal)
unfolding text_plain
refusal-can_be_read bs BadRequest = empty-can_be_read bs 400 (omega arith) (omega arith)
refusal-can_be_read bs RequestTimeout = empty-can_be_read bs 408 (omega arith) (omega arith)
refusal-can_be_read bs ExpectationFailed = empty-can_be_read bs 417 (omega arith) (omega arith)
refusal-can_be_read bs HeaderFieldsTooLarge = empty-can_be_read bs 431 (omega arith) (omega arith)
refusal-can_be_read bs VersionNotSupported = record { final = omega arith; readable = plain-readable bs; status_fits = omega arith; length_fits = omega arith; no_coding = refl; no_length = refl }
refusal-can_be_read bs RequestLineTooLong = empty-can_be_read bs 414 (omega arith) (omega arith)
refusal-can_be_read bs CodingNotImplemented = empty-can_be_read bs 501 (omega arith) (omega arith)
refusal-can_be_read bs MajorVersionNotSupported = empty-can_be_read bs 505 (omega arith) (omega arith)

drop-can_be_read : (bs : Bool) → CanBeRead bs drop_response
drop-can_be_read bs = empty-can_be_read bs 500 (omega arith) (omega arith)

server-can_be_read : (bs : Bool) (item : Item) → CanBeRead bs (server_response item)
server-can_be_read bs (Asks q) = drop-can_be_read bs
server-can_be_read bs (Refuses refusal manner no_body last) = refusal-can_be_read bs refusal

-- a number's text is its answer, or breaks off
stage-text : (bs : Bool) (s : Slot) (stage : Stage) → s.stage ≡ stage → IsReadableStage bs stage → ItemFits bs s.item → IsAnswerText (counts_as s.item) (stage_text s.closes s.item s.date stage).bytes (stage_answer s stage)
stage-text bs s Unanswered e c f = nothing-off (counts_as s.item) drop_response.answer drop_response.content (printing_for s.closes s.item s.date) (readable-for bs s.closes s.item drop_response s.date (drop-can_be_read bs) f)
stage-text bs s (Answered response date found) e c f =
    let p = printing_for s.closes s.item date in
    let P : Stage → Type 0 = λ x. IsAnswerText (counts_as s.item) (text_if found response p).bytes (answer_if_whole (stage_text s.closes s.item s.date x).ending response p) in
    subst P (sym e) (found-text (counts_as s.item) found response p (readable-for bs s.closes s.item response date c f))
stage-text bs s ByServer e c f =
    let p = printing_for s.closes s.item s.date in
    let r = server_response s.item in
    let P : Stage → Type 0 = λ x. IsAnswerText (counts_as s.item) (response_text r p).bytes (answer_if_whole (stage_text s.closes s.item s.date x).ending r p) in
    subst P (sym e) (text-step (counts_as s.item) r p (response_text r p).ending (readable-for bs s.closes s.item r s.date (server-can_be_read bs s.item) f) refl)
stage-text bs s (Raw written closed) e c f = elim c [ ]
stage-text bs s (Upgraded protocol response date written closed) e c f = elim c [ ]

slot-text : (p : Profile) (s : Slot) → CanBeReadAt p s → ItemFits (goes_by_standard p) s.item → IsSentText (sent_text s)
slot-text p s c f = opened-text (goes_by_standard p) s.item s.continued (stage_text s.closes s.item s.date s.stage).bytes (stage_answer s s.stage) f (stage-text (goes_by_standard p) s s.stage refl c f)

all-texts : (p : Profile) (slots : List Slot) → AllByRecursion (CanBeReadAt p) slots → AllSound (goes_by_standard p) slots → AllByRecursion IsSentText (sent_texts slots)
all-texts p [] c h = tt
all-texts p (s ∷ slots) c h = (slot-text p s c.0 h.0.fits, all-texts p slots c.1 h.1)

-- the joined output is these texts in order
ending-joins : (e : Ending) (r : ResponseValue) (p : Printing) (behind : List ℕ) → joined_behind (answer_if_whole e r p) behind ≡ (if not (is_broken e) then behind else [])
ending-joins Whole r p behind = refl
ending-joins (Broken kind) r p behind = refl

stage-joins : (bs : Bool) (s : Slot) (stage : Stage) (behind : List ℕ) → s.stage ≡ stage → IsReadableStage bs stage → joined_behind (stage_answer s stage) behind ≡ (if (is_stage_finished stage && not (is_slot_broken s)) then behind else [])
stage-joins bs s Unanswered behind e c = refl
stage-joins bs s (Answered response date found) behind e c = ending-joins (stage_text s.closes s.item s.date s.stage).ending response (printing_for s.closes s.item date) behind
stage-joins bs s ByServer behind e c = ending-joins (stage_text s.closes s.item s.date s.stage).ending (server_response s.item) (printing_for s.closes s.item s.date) behind
stage-joins bs s (Raw written closed) behind e c = elim c [ ]
stage-joins bs s (Upgraded protocol response date written closed) behind e c = elim c [ ]

joined-is : (p : Profile) (slots : List Slot) → AllByRecursion (CanBeReadAt p) slots → joined_texts (sent_texts slots) ≡ joined slots
joined-is p [] c = refl
joined-is p (s ∷ slots) c =
    ap (λ z. segment s ++ z) (ap (λ z. joined_behind (stage_answer s s.stage) z) (joined-is p slots c.1) ∙ stage-joins (goes_by_standard p) s s.stage (joined slots) refl c.0)

pub slots-are-read : (p : Profile) (slots : List Slot) (out : List ℕ) → AllByRecursion (CanBeReadAt p) slots → AllSound (goes_by_standard p) slots → IsFront out (joined slots) → Reads (sent_texts slots) out
slots-are-read p slots out c h f = reads (sent_texts slots) (all-texts p slots c h) out (f.0, joined-is p slots c ∙ f.1)

pub slots-are-read-all : (p : Profile) (slots : List Slot) (out : List ℕ) → AllByRecursion (CanBeReadAt p) slots → AllSound (goes_by_standard p) slots → joined slots ≡ out
    → ReadsAnswers (methods (sent_texts slots)) out (whole_answers (sent_texts slots)) (remains (sent_texts slots))
slots-are-read-all p slots out c h e =
    let texts = sent_texts slots in
    let P : List ℕ → Type 0 = λ z. ReadsAnswers (methods texts) z (whole_answers texts) (remains texts) in
    subst P (joined-is p slots c ∙ e) (reads-all texts (all-texts p slots c h))

-- where each number is finished and none broke off, each has its answer, and nothing remains
pub record AllAnswered (slots : List Slot) : Type 0 where
  pub answers : List ClientAnswer
  pub have : HaveAnswers slots answers
  pub whole : whole_answers (sent_texts slots) ≡ answers
  pub nothing : remains (sent_texts slots) ≡ []

ending-answer : (e : Ending) (r : ResponseValue) (p : Printing) → is_broken e ≡ false → answer_if_whole e r p ≡ Some (received_answer r.answer r.content p)
ending-answer Whole r p h = refl
ending-answer (Broken kind) r p h = cc

has-answer : (bs : Bool) (s : Slot) (stage : Stage) → s.stage ≡ stage → IsReadableStage bs stage → is_stage_finished stage ≡ true → is_slot_broken s ≡ false → (a : ClientAnswer) × (stage_answer s stage ≡ Some a)
has-answer bs s Unanswered e c f b = cc
has-answer bs s (Answered response date found) e c f b =
    let p = printing_for s.closes s.item date in (received_answer response.answer response.content p, ending-answer (stage_text s.closes s.item s.date s.stage).ending response p b)
has-answer bs s ByServer e c f b =
    let p = printing_for s.closes s.item s.date in
    let r = server_response s.item in (received_answer r.answer r.content p, ending-answer (stage_text s.closes s.item s.date s.stage).ending r p b)
has-answer bs s (Raw written closed) e c f b = elim c [ ]
has-answer bs s (Upgraded protocol response date written closed) e c f b = elim c [ ]

pub all-answered : (p : Profile) (slots : List Slot) → AllByRecursion (CanBeReadAt p) slots → list_all is_finished slots ≡ true → is_output_broken slots ≡ false → AllAnswered slots
all-answered p [] c f b = record { answers = []; have = refl; whole = refl; nothing = refl }
all-answered p (s ∷ slots) c f b =
    let h = and_parts (is_finished s) (list_all is_finished slots) f in
    let k = or-parts (is_slot_broken s) (is_finished s && is_output_broken slots) b in
    let rest : is_output_broken slots ≡ false = rw h.0 at k.1 in
    let go = all-answered p slots c.1 h.1 rest in
    let a = has-answer (goes_by_standard p) s s.stage refl c.0 h.0 k.0 in
    record {
      answers = a.0 ∷ go.answers;
      have = ap (λ o. o ∷ map (λ (x : Slot). stage_answer x x.stage) slots) a.1 ∙ ap (λ os. Some a.0 ∷ os) go.have;
      whole = ap (λ o. whole_by o (whole_answers (sent_texts slots))) a.1 ∙ ap (λ list. a.0 ∷ list) go.whole;
      nothing = ap (λ o. remains_by o (segment s) (remains (sent_texts slots))) a.1 ∙ go.nothing;
    }
