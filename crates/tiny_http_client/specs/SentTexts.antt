-- The texts that a connection sends, response by response.
use Rattle.std.specs.Prelude.{◌≡◌, ℕ, ◌<◌, ◌⊎◌, List, [], ◌∷◌, ◌++◌, length, map, Option, Some, None, MatchOption}
use Rattle.tiny_http_head.specs.declared.common.Method.{Method}
use Rattle.tiny_http_io.specs.Device.{IsFront}
use Rattle.tiny_http_client.specs.ClientAnswer.{ClientAnswer, ReadsAnswer, UnfinishedAnswer}

-- The text sent for one request: the request's method, the text, and the response that a client reads from the text, or
-- `None` if the text breaks off or there is no response yet.
pub record SentText : Type 0 where
  pub method : Method
  pub text : List ℕ
  pub answer : Option ClientAnswer

-- whether a text breaks off: it is a proper prefix of a response
abbrev pub BreaksOff : Method → List ℕ → Type 0
BreaksOff m text = (more : List ℕ) × (a : ClientAnswer) × (0 < length more) × ReadsAnswer m (text ++ more) a []

abbrev pub IsSentText : SentText → Type 0
IsSentText x = MatchOption x.answer (BreaksOff x.method x.text) (λ a. ReadsAnswer x.method x.text a [])

-- the bytes sent after a text that is this response, or no bytes if the text isn't a whole response (`None`)
abbrev pub joined_behind : Option ClientAnswer → List ℕ → List ℕ
joined_behind None behind = []
joined_behind (Some a) behind = behind

abbrev pub joined_texts : List SentText → List ℕ
joined_texts [] = []
joined_texts (x ∷ xs) = x.text ++ joined_behind x.answer (joined_texts xs)

abbrev pub methods : List SentText → List Method
methods xs = map (λ x. x.method) xs

-- this response, if the text is a whole one, and the responses of the texts after it; none if the text breaks off
abbrev pub whole_by : Option ClientAnswer → List ClientAnswer → List ClientAnswer
whole_by None behind = []
whole_by (Some a) behind = a ∷ behind

abbrev pub whole_answers : List SentText → List ClientAnswer
whole_answers [] = []
whole_answers (x ∷ xs) = whole_by x.answer (whole_answers xs)

abbrev pub remains_by : Option ClientAnswer → List ℕ → List ℕ → List ℕ
remains_by None text behind = text
remains_by (Some a) text behind = behind

abbrev pub remains : List SentText → List ℕ
remains [] = []
remains (x ∷ xs) = remains_by x.answer x.text (remains xs)

-- Whether these are the responses that are complete in `out`, a prefix of what was sent, and the rest after them:
-- nothing, or an unfinished prefix of the next text.
abbrev pub AreIn : List SentText → List ℕ → List ClientAnswer → List ℕ → Type 0
AreIn [] out answers rest = (out ≡ []) × (answers ≡ []) × (rest ≡ [])
AreIn (x ∷ xs) out answers rest =
    ((a : ClientAnswer)
    × (next : List ℕ)
    × (more : List ClientAnswer)
    × (x.answer ≡ Some a)
    × (out ≡ x.text ++ next)
    × (answers ≡ a ∷ more)
    × AreIn xs next more rest)
    ⊎ ((answers ≡ []) × (rest ≡ out) × IsFront rest x.text × UnfinishedAnswer x.method rest)
