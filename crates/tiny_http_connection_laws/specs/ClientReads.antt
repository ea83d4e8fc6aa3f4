-- The responses that a client reads from a connection's output.
use Rattle.std.specs.Prelude.{◌≡◌, ℕ, ◌<◌, ◌≤◌, ◌^◌, Bool, true, false, List, [], ◌∷◌, ◌++◌, map, Option, Some, None}
use Rattle.std.specs.Prelude.{option_map, if◌then◌else◌, codes, ⊤}
use Rattle.std.specs.List.{AllByRecursion, list_all}
use Rattle.tiny_http_head.specs.declared.common.Method.{Method}
use Rattle.tiny_http_head.specs.declared.common.Method.TheVariants.{Get, Head}
use Rattle.tiny_http_text.specs.Bytes.{is_ascii}
use Rattle.tiny_http_io.specs.Device.{Sink}
use Rattle.tiny_http_head.specs.declared.common.Header.{Header}
use Rattle.tiny_http_response.specs.Answer.{Answer, Printing, has_header}
use Rattle.tiny_http_response.specs.ByStandard.{upgrade_header, safe_value, safe_headers}
use Rattle.tiny_http_body.specs.declared.framing.Profile.{Profile}
use Rattle.tiny_http_body.specs.declared.framing.Profile.TheVariants.{Standard}
use Rattle.tiny_http_body.specs.Text.{Ending, Whole, Broken}
use Rattle.tiny_http_response.specs.Readable.{IsReadable}
use Rattle.tiny_http_open_request.specs.Pipeline.{Item, Asks, Refuses}
use Rattle.tiny_http_response.specs.ResponseValue.{ResponseValue}
use Rattle.tiny_http_connection.specs.Segments.{Slot, Stage, Unanswered, Answered, ByServer, Raw, Upgraded}
use Rattle.tiny_http_connection.specs.Segments.{printing_for}
use Rattle.tiny_http_connection.specs.Segments.{server_response, stage_text, segment}
use Rattle.tiny_http_connection.specs.Steps.{StepValue, Respond, IntoWriter, Upgrade, TimedValue}
use Rattle.tiny_http_client.specs.ClientAnswer.{ClientAnswer, ReadsAnswers}
use Rattle.tiny_http_client.specs.ClientText.{stated_length, received_answer}
use Rattle.tiny_http_client.specs.SentTexts.{SentText, methods, AreIn}

-- The method with which a client reads a number's text: the method of the request, or GET for a refused head, but HEAD
-- for the 505 to a HEAD under Lenient or Strict.
abbrev pub counts_as : Item → Method
counts_as (Asks r) = r.message.method
counts_as (Refuses refusal manner no_body last) = if no_body then Head else Get

-- whether this profile is Standard
abbrev pub goes_by_standard : Profile → Bool
goes_by_standard Standard = true
goes_by_standard _ = false

abbrev pub offer_headers : Option (List ℕ) → List Header
offer_headers None = []
offer_headers (Some protocols) = upgrade_header protocols ∷ []

-- The response's own headers as they are printed: unchanged; or, under Standard, as `put_safe_headers`
-- (`tiny_http_response`) writes them, after a header with the protocols that the response offers, if any.
abbrev pub headers_printed : Bool → Answer → List Header
headers_printed false a = a.headers
headers_printed true a = offer_headers (option_map safe_value a.offered) ++ safe_headers a.headers

-- A response that a client can read, under Standard or not: its status is 200 or more, and its headers are readable as
-- they are printed. The other facts hold for each response of the program whose data are fewer than 2^63 bytes: its
-- status and its length fit their types, and its header list has no Transfer-Encoding and no Content-Length.
pub record CanBeRead (by_standard : Bool) (r : ResponseValue) : Type 0 where
  pub final : 200 ≤ r.answer.status
  pub readable : AllByRecursion IsReadable (headers_printed by_standard r.answer)
  pub status_fits : r.answer.status ≤ 65535
  pub length_fits : stated_length r.answer.data_length r.content < 2 ^ 64
  pub no_coding : has_header r.answer.headers (codes "Transfer-Encoding") ≡ false
  pub no_length : has_header r.answer.headers (codes "Content-Length") ≡ false

-- Whether a step leaves an output that can be read, whatever its reply: it isn't an IntoWriter, the protocol of an
-- Upgrade isn't ASCII, so that the upgrade is refused, and the response of a Respond can be read.
abbrev pub IsReadableStep : Bool → StepValue → Type 0
IsReadableStep by_standard (Respond k response) = CanBeRead by_standard response
IsReadableStep by_standard (IntoWriter k) = ⊥
IsReadableStep by_standard (Upgrade k protocol response) = list_all is_ascii protocol ≡ false
IsReadableStep by_standard _ = ⊤

abbrev pub AreReadable : Profile → List TimedValue → Type 0
AreReadable p steps = AllByRecursion (λ t. IsReadableStep (goes_by_standard p) t.1) steps

-- Whether a number in this stage leaves an output that can be read: it was answered with a response that can be read,
-- or by the server (a refused head, a drop, a refused upgrade), or isn't answered yet.
abbrev pub IsReadableStage : Bool → Stage → Type 0
IsReadableStage by_standard Unanswered = ⊤
IsReadableStage by_standard (Answered response date found) = CanBeRead by_standard response
IsReadableStage by_standard ByServer = ⊤
IsReadableStage by_standard (Raw written closed) = ⊥
IsReadableStage by_standard (Upgraded protocol response date written closed) = ⊥

abbrev pub CanBeReadAt : Profile → Slot → Type 0
CanBeReadAt p s = IsReadableStage (goes_by_standard p) s.stage

-- the response as a client reads it, or `None` if its text breaks off
abbrev pub answer_if_whole : Ending → ResponseValue → Printing → Option ClientAnswer
answer_if_whole Whole r p = Some (received_answer r.answer r.content p)
answer_if_whole (Broken kind) r p = None

-- the response that a client reads for this slot's number, in this stage; `None` without a whole response
abbrev pub stage_answer : Slot → Stage → Option ClientAnswer
stage_answer s Unanswered = None
stage_answer s (Answered response date found) =
    answer_if_whole (stage_text s.closes s.item s.date s.stage).ending response (printing_for s.closes s.item date)
stage_answer s ByServer =
    answer_if_whole (stage_text s.closes s.item s.date s.stage).ending (server_response s.item)
    (printing_for s.closes s.item s.date)
stage_answer s (Raw written closed) = None
stage_answer s (Upgraded protocol response date written closed) = None

-- the text of a number, with the response that a client is to read from it
abbrev pub sent_text : Slot → SentText
sent_text s = record { method = counts_as s.item; text = segment s; answer = stage_answer s s.stage }

abbrev pub sent_texts : List Slot → List SentText
sent_texts slots = map sent_text slots

-- whether `out` is what a writer took, then what is held
abbrev pub IsOutputOf : Sink → List ℕ → List ℕ → Type 0
IsOutputOf sink held out = (taken : List ℕ) × (sink.taken ≡ Some taken) × (out ≡ taken ++ held)

-- A CLIENT READS the output as the responses of these numbers, in their order: those whose text is whole in it. After
-- them nothing remains, or an unfinished prefix of the next number's text.
pub record ReadsNumbers (slots : List Slot) (out : List ℕ) : Type 0 where
  pub answers : List ClientAnswer
  pub rest : List ℕ
  pub reads : ReadsAnswers (methods (sent_texts slots)) out answers rest
  pub stand : AreIn (sent_texts slots) out answers rest

-- whether these are the responses of these numbers, one for each
abbrev pub HaveAnswers : List Slot → List ClientAnswer → Type 0
HaveAnswers slots answers = map (λ s. stage_answer s s.stage) slots ≡ map (λ a. Some a) answers
