-- Each bytes begin with one answer, or with none for one reason.
use Rattle.std.proofs.Common.{◌≡◌, refl, sym, ap, ◌∙◌, subst, ℕ, inl, inr, ◌⊎◌, List, [], ◌∷◌, Ok, Err}
use Rattle.tiny_http_head.specs.declared.common.Method.{Method}
use Rattle.tiny_http_client.specs.ClientAnswer.{ClientAnswer, ReadsAnswer, Lack, Unfinished, Invalid, LacksAnswer, UnfinishedAnswer, MalformedAnswer, ReadsAnswers}
use Rattle.tiny_http_client.specs.ClientReading.{AnswerRead, answer_read}
use Rattle.tiny_http_client.proofs.ClientAnswerLemmas.{AnswerIs, answer-is, answer-one, answer-fault}

abbrev StandsAnswer : Method → List ℕ → Type 0
StandsAnswer m bytes = (a : ClientAnswer) × (rest : List ℕ) × ReadsAnswer m bytes a rest

three : (m : Method) (bytes : List ℕ) (r : AnswerRead) → AnswerIs m bytes r → StandsAnswer m bytes ⊎ (UnfinishedAnswer m bytes ⊎ MalformedAnswer m bytes)
three m bytes (Ok a) h = inl (a.0, a.1, h)
three m bytes (Err Unfinished) h = inr (inl h)
three m bytes (Err Invalid) h = inr (inr h)

pub answer-some : (m : Method) (bytes : List ℕ) → StandsAnswer m bytes ⊎ (UnfinishedAnswer m bytes ⊎ MalformedAnswer m bytes)
answer-some m bytes = three m bytes (answer_read m bytes) (answer-is m bytes)

ok-parts : (a b : ClientAnswer) (rest other : List ℕ) → ◌≡◌ {A = AnswerRead} (Ok (a, rest)) (Ok (b, other)) → (a ≡ b) × (rest ≡ other)
ok-parts a b rest other e =
    let p : ◌≡◌ {A = ClientAnswer × List ℕ} (a, rest) (b, other) = cc in
    (ap (λ (x : ClientAnswer × List ℕ). x.0) p, ap (λ (x : ClientAnswer × List ℕ). x.1) p)

client_law-ok-err : (a : ClientAnswer × List ℕ) (t : Lack) → ◌≡◌ {A = AnswerRead} (Ok a) (Err t) → ⊥
client_law-ok-err a t e = cc

unfinished-invalid : ◌≡◌ {A = AnswerRead} (Err Unfinished) (Err Invalid) → ⊥
unfinished-invalid e = cc

pub answer-same : (m : Method) (bytes : List ℕ) (a b : ClientAnswer) (rest other : List ℕ) → ReadsAnswer m bytes a rest → ReadsAnswer m bytes b other → (a ≡ b) × (rest ≡ other)
answer-same m bytes a b rest other h k = ok-parts a b rest other (sym (answer-one m bytes a rest h) ∙ answer-one m bytes b other k)

pub answer-no_lack : (m : Method) (bytes : List ℕ) (t : Lack) (a : ClientAnswer) (rest : List ℕ) → ReadsAnswer m bytes a rest → LacksAnswer m bytes t → ⊥
answer-no_lack m bytes t a rest h k = client_law-ok-err (a, rest) t (sym (answer-one m bytes a rest h) ∙ answer-fault m bytes t k)

pub lack-one : (m : Method) (bytes : List ℕ) → UnfinishedAnswer m bytes → MalformedAnswer m bytes → ⊥
lack-one m bytes h k = unfinished-invalid (sym (answer-fault m bytes Unfinished h) ∙ answer-fault m bytes Invalid k)

abbrev Lists : List Method → List ℕ → Type 0
Lists ms bytes = (list : List ClientAnswer) × (rest : List ℕ) × ReadsAnswers ms bytes list rest

some-more : (m : Method) (ms : List Method) (bytes : List ℕ) → ((rest : List ℕ) → Lists ms rest) → (r : AnswerRead) → AnswerIs m bytes r → Lists (m ∷ ms) bytes
some-more m ms bytes go (Ok a) h = let k = go a.1 in (a.0 ∷ k.0, k.1, (a.1, h, k.2))
some-more m ms bytes go (Err t) h = ([], bytes, (refl, λ a next k. answer-no_lack m bytes t a next k h))

pub answers-some : (ms : List Method) (bytes : List ℕ) → Lists ms bytes
answers-some [] bytes = ([], bytes, refl)
answers-some (m ∷ ms) bytes = some-more m ms bytes (answers-some ms) (answer_read m bytes) (answer-is m bytes)

pub answers-one : (ms : List Method) (bytes : List ℕ) (list other : List ClientAnswer) (rest remainder : List ℕ) → ReadsAnswers ms bytes list rest → ReadsAnswers ms bytes other remainder → (list ≡ other) × (rest ≡ remainder)
answers-one [] bytes [] [] rest remainder h k = (refl, h ∙ sym k)
answers-one [] bytes [] (b ∷ other) rest remainder h k = elim k [ ]
answers-one [] bytes (a ∷ list) other rest remainder h k = elim h [ ]
answers-one (m ∷ ms) bytes [] [] rest remainder h k = (refl, h.0 ∙ sym k.0)
answers-one (m ∷ ms) bytes [] (b ∷ other) rest remainder h k = absurd (h.1 b k.0 k.1)
answers-one (m ∷ ms) bytes (a ∷ list) [] rest remainder h k = absurd (k.1 a h.0 h.1)
answers-one (m ∷ ms) bytes (a ∷ list) (b ∷ other) rest remainder h k =
    let s = answer-same m bytes a b h.0 k.0 h.1 k.1 in
    let P : List ℕ → Type 0 = λ x. ReadsAnswers ms x other remainder in
    let t = answers-one ms h.0 list other rest remainder h.2 (subst P (sym s.1) k.2) in
    (ap (λ x. x ∷ list) s.0 ∙ ap (λ y. b ∷ y) t.0, t.1)
