-- What a connection sends is read as the answers that it sent.
use Rattle.std.proofs.Common.{◌≡◌, refl, sym, ap, ◌∙◌, subst, ℕ, ◌<◌, inl, inr, ◌⊎◌, List, [], ◌∷◌, ◌++◌, length, Option, Some, None, append_assoc, append-nil, arith, length-append, ⊎_elim}
use Rattle.std.specs.Prelude.{MatchOption}
use Rattle.std.specs.List.{AllByRecursion}
use Rattle.tiny_http_head.specs.declared.common.Method.{Method}
use Rattle.tiny_http_client.specs.ClientAnswer.{ClientAnswer, ReadsAnswer, Unfinished, UnfinishedAnswer, ReadsAnswers}
use Rattle.tiny_http_client.specs.SentTexts.{SentText, BreaksOff, IsSentText, joined_texts, joined_behind, methods, whole_by, whole_answers, remains_by, remains, AreIn}
use Rattle.tiny_http_io.specs.Device.{IsFront}
use Rattle.tiny_http_client.proofs.ClientAnswerLaws.{answer-no_lack}
use Rattle.tiny_http_client.proofs.FrontLemmas.{answer-more, front-unfinished}

-- a front of two texts ends in the second, or within the first
abbrev InSecond : List ℕ → List ℕ → List ℕ → List ℕ → Type 0
InSecond out r t u = (next : List ℕ) × (out ≡ t ++ next) × (u ≡ next ++ r)

abbrev InFirst : List ℕ → List ℕ → Type 0
InFirst out t = (more : List ℕ) × (0 < length more) × (t ≡ out ++ more)

pub split : (out r t u : List ℕ) → t ++ u ≡ out ++ r → InSecond out r t u ⊎ InFirst out t
split out r [] u e = inl (out, refl, e)
split [] r (b ∷ bs) u e = inr (b ∷ bs, omega arith, refl)
split (o ∷ os) r (b ∷ bs) u e =
    let same : b ≡ o = cc in
    let rest : bs ++ u ≡ os ++ r = cc in
    ⊎_elim
    (λ k. inl (k.0, ap (λ x. o ∷ x) k.1 ∙ ap (λ z. z ∷ (bs ++ k.0)) (sym same), k.2))
    (λ k. inr (k.0, k.1, ap (λ x. b ∷ x) k.2 ∙ ap (λ z. z ∷ (os ++ k.0)) same))
    (split os r bs u rest)

unfinished-none : (m : Method) (out : List ℕ) → UnfinishedAnswer m out → (a : ClientAnswer) (next : List ℕ) → ReadsAnswer m out a next → ⊥
unfinished-none m out u a next h = answer-no_lack m out Unfinished a next h u

abbrev pub Reads : List SentText → List ℕ → Type 0
Reads xs out = (answers : List ClientAnswer) × (rest : List ℕ) × ReadsAnswers (methods xs) out answers rest × AreIn xs out answers rest

stops : (x : SentText) (xs : List SentText) (out : List ℕ) → IsFront out x.text → UnfinishedAnswer x.method out → Reads (x ∷ xs) out
stops x xs out f u = ([], out, (refl, unfinished-none x.method out u), inr (refl, refl, f, u))

goes : (x : SentText) (xs : List SentText) (a : ClientAnswer) (out next : List ℕ) → x.answer ≡ Some a → ReadsAnswer x.method x.text a [] → out ≡ x.text ++ next → Reads xs next → Reads (x ∷ xs) out
goes x xs a out next e h j k =
    let P : List ℕ → Type 0 = λ z. ReadsAnswer x.method z a next in
    (a ∷ k.0, k.1, (next, subst P (sym j) (answer-more next x.method x.text a [] h), k.2), inl (a, next, k.0, e, j, refl, k.3))

one-piece : (x : SentText) (xs : List SentText) (out r : List ℕ) (o : Option ClientAnswer) → x.answer ≡ o → MatchOption o (BreaksOff x.method x.text) (λ a. ReadsAnswer x.method x.text a [])
    → ((next : List ℕ) → IsFront next (joined_texts xs) → Reads xs next) → x.text ++ joined_behind o (joined_texts xs) ≡ out ++ r → Reads (x ∷ xs) out
one-piece x xs out r None e h go j =
    let t : x.text ≡ out ++ r = sym (append-nil x.text) ∙ j in
    let P : List ℕ → Type 0 = λ z. ReadsAnswer x.method z h.1 [] in
    let whole : ReadsAnswer x.method (out ++ (r ++ h.0)) h.1 [] = subst P (ap (λ z. z ++ h.0) t ∙ append_assoc out r h.0) h.3 in
    stops x xs out (r, t) (front-unfinished x.method out (r ++ h.0) h.1 (omega (arith, length-append r h.0, h.2)) whole)
one-piece x xs out r (Some a) e h go j =
    ⊎_elim
    (λ k. goes x xs a out k.0 e h k.1 (go k.0 (r, k.2)))
    (λ k. let P : List ℕ → Type 0 = λ z. ReadsAnswer x.method z a [] in stops x xs out (k.0, k.2) (front-unfinished x.method out k.0 a k.1 (subst P k.2 h)))
    (split out r x.text (joined_texts xs) j)

-- of any front of what was sent
pub reads : (xs : List SentText) → AllByRecursion IsSentText xs → (out : List ℕ) → IsFront out (joined_texts xs) → Reads xs out
reads [] h out f =
    let e : out ≡ [] = empty out f.0 f.1 in
    ([], [], sym e, (e, refl, refl))
  where
    empty : (out r : List ℕ) → [] ≡ out ++ r → out ≡ []
    empty [] r e = refl
    empty (o ∷ os) r e = cc
reads (x ∷ xs) h out f = one-piece x xs out f.0 x.answer refl h.0 (reads xs h.1) f.1

all-more : (x : SentText) (xs : List SentText) → ReadsAnswers (methods xs) (joined_texts xs) (whole_answers xs) (remains xs) → (o : Option ClientAnswer) → MatchOption o (BreaksOff x.method x.text) (λ a. ReadsAnswer x.method x.text a [])
    → ReadsAnswers (x.method ∷ methods xs) (x.text ++ joined_behind o (joined_texts xs)) (whole_by o (whole_answers xs)) (remains_by o x.text (remains xs))
all-more x xs go None b =
    let u = front-unfinished x.method x.text b.0 b.1 b.2 b.3 in
    let P : List ℕ → Type 0 = λ z. ReadsAnswers (x.method ∷ methods xs) z [] x.text in
    subst P (sym (append-nil x.text)) (refl, unfinished-none x.method x.text u)
all-more x xs go (Some a) b = (joined_texts xs, answer-more (joined_texts xs) x.method x.text a [] b, go)

-- of all of it
pub reads-all : (xs : List SentText) → AllByRecursion IsSentText xs → ReadsAnswers (methods xs) (joined_texts xs) (whole_answers xs) (remains xs)
reads-all [] h = refl
reads-all (x ∷ xs) h = all-more x xs (reads-all xs h.1) x.answer h.0
