-- The parts of an answer, one after another.
use Rattle.std.proofs.Common.{◌≡◌, refl, sym, ap, ◌∙◌, subst, ℕ, true, false, List, [], ◌∷◌, ◌++◌, length, drop, ◌+◌, ◌-◌, ◌≤◌, Option, Some, None, inl, inr, append_assoc, arith}
use Rattle.std.specs.Prelude.{MatchOption, IsSome}
use Rattle.std.proofs.Math.Seq.{drop-append_seam}
use Rattle.std.proofs.lemmas.List.{length-append}
use Rattle.std.proofs.lemmas.Bool.{false≢true}
use Rattle.tiny_http_head.specs.declared.common.Method.{Method}
use Rattle.tiny_http_head.specs.declared.common.Header.{Header}
use Rattle.tiny_http_head.specs.declared.common.HTTPVersion.{HTTPVersion}
use Rattle.tiny_http_text.specs.Bytes.{AreAscii, crlf}
use Rattle.tiny_http_text.specs.Lines.{Line}
use Rattle.tiny_http_body.specs.Chunks.{WholeChunks, chunk_text, lines_text}
use Rattle.std.specs.List.{flat_map}
use Rattle.tiny_http_client.specs.declared.head.Fault.{Fault}
use Rattle.tiny_http_client.specs.declared.head.Fault.TheVariants.{Unfinished as IsCut, Malformed as IsBad, Memory as IsMemory}
use Rattle.tiny_http_client.specs.ClientAnswer.{StatusLine, FieldLine, BeginsWithFieldLines, AnswerHead, BeginsWithAnswerHead, PassesOver, is_interim, Extent, NoBody, OfChunks, OfLength, OfUnknownLength, has_no_body, says_chunked, content_length, extent_of_length, extent, BeginsWithBody, ClientAnswer, ReadsAnswer, Lack, IsStatusLine, IsFieldLineOrEmpty}
use Rattle.tiny_http_client.specs.ClientReading.{status_line_read, field_line_read}
use Rattle.tiny_http_client.specs.AnswerParts.{LacksBy, HasFieldLine}
use Rattle.tiny_http_client.proofs.ClientReadingLines.{status-line-one, status-line-are, field-line-one, field-line-are}

-- another reason that goes with the same lack
pub lacks-by : (Was Is : Lack → Type 0) → ((lack : Lack) → Was lack → Is lack) → (fault : Fault) → LacksBy Was fault → LacksBy Is fault
lacks-by Was Is go IsCut h = go _ h
lacks-by Was Is go IsBad h = go _ h
lacks-by Was Is go IsMemory h = tt

none-is-some : {A G : Type 0} (o : Option A) (x : A) → None ≡ o → o ≡ Some x → G
none-is-some o x e f = cc

abbrev SaysStatus : List ℕ → HTTPVersion × ℕ → Type 0
SaysStatus text r = StatusLine text r.0 r.1

-- a line that was read as a status-line, and one that wasn't
pub status-line-read : (text : List ℕ) (r : HTTPVersion × ℕ) → Some r ≡ status_line_read text → StatusLine text r.0 r.1
status-line-read text r e =
    let P : Option (HTTPVersion × ℕ) → Type 0 = λ o. MatchOption o (Unit {0}) (SaysStatus text) in
    subst P (sym e) (status-line-are text)

pub no-status-line : (text : List ℕ) → ◌≡◌ {A = Option (HTTPVersion × ℕ)} None (status_line_read text) → IsStatusLine text → ⊥
no-status-line text e s = none-is-some (status_line_read text) (s.0, s.1) e (status-line-one text s.0 s.1 s.2)

-- a line that was read as a field-line, and one that wasn't
pub field-line-read : (text : List ℕ) (h : Header) → Some h ≡ field_line_read text → FieldLine text h
field-line-read text h e =
    let P : Option Header → Type 0 = λ o. MatchOption o (Unit {0}) (FieldLine text) in
    subst P (sym e) (field-line-are text)

pub no-field-line : (text : List ℕ) → (text ≡ [] → ⊥) → ◌≡◌ {A = Option Header} None (field_line_read text) → IsFieldLineOrEmpty text → ⊥
no-field-line text ne e (inl h) = ne h
no-field-line text ne e (inr h) = none-is-some (field_line_read text) h.0 e (field-line-one text h.0 h.1)

some-of : {A : Type 0} (P : A → Type 0) (o : Option A) → MatchOption o (Unit {0}) P → IsSome o → (x : A) × P x
some-of P (Some x) m s = (x, m)
some-of P None m s = absurd (false≢true s)

-- a text that is read as a field-line is one
pub some-field-line : (text : List ℕ) → IsSome (field_line_read text) → (h : Header) × FieldLine text h
some-field-line text s = some-of (FieldLine text) (field_line_read text) (field-line-are text) s

-- where a field-line stands behind others, one stands in front
pub first-field : (bytes rest : List ℕ) (hs : List Header) → BeginsWithFieldLines bytes hs rest → HasFieldLine rest → HasFieldLine bytes
first-field bytes rest [] b f = subst HasFieldLine b f
first-field bytes rest (h ∷ hs) b f = (b.0, b.1, b.2, b.3, (h, b.4))

-- one field-line more
pub field-lines-push : (bytes rest text next : List ℕ) (hs : List Header) (h : Header) → BeginsWithFieldLines bytes hs rest → Line rest text next → AreAscii text → FieldLine text h → BeginsWithFieldLines bytes (hs ++ h ∷ []) next
field-lines-push bytes rest text next [] h b l a f =
    let P : List ℕ → Type 0 = λ x. Line x text next in
    (text, next, subst P b l, a, f, refl)
field-lines-push bytes rest text next (g ∷ gs) h b l a f = (b.0, b.1, b.2, b.3, b.4, field-lines-push b.1 rest text next gs h b.5 l a f)

-- one head more that is passed over
pub passes-push : (bytes rest next : List ℕ) (hs : List AnswerHead) (h : AnswerHead) → PassesOver bytes hs rest → BeginsWithAnswerHead rest h next → is_interim h.status ≡ true → PassesOver bytes (hs ++ h ∷ []) next
passes-push bytes rest next [] h b l i =
    let P : List ℕ → Type 0 = λ x. BeginsWithAnswerHead x h next in
    (next, subst P b l, i, refl)
passes-push bytes rest next (g ∷ gs) h b l i = (b.0, b.1, b.2, passes-push b.0 rest next gs h b.3 l i)

-- how far the body reaches, case by case
pub extent-nothing : (m : Method) (h : AnswerHead) → has_no_body m h.status ≡ true → extent m h ≡ NoBody
extent-nothing m h e = rw e refl

pub extent-chunks : (m : Method) (h : AnswerHead) → has_no_body m h.status ≡ false → says_chunked h.headers ≡ true → extent m h ≡ OfChunks
extent-chunks m h e f = rw (e, f) refl

pub extent-said : (m : Method) (h : AnswerHead) (o : Option ℕ) → has_no_body m h.status ≡ false → says_chunked h.headers ≡ false → content_length h.headers ≡ o → extent m h ≡ extent_of_length o
extent-said m h o e f g = rw (e, f, g) refl

-- the rest stands at the end of the bytes
abbrev pub EndsWith : List ℕ → List ℕ → Type 0
EndsWith bytes rest = (front : List ℕ) × (bytes ≡ front ++ rest)

ends-on : (bytes mid rest : List ℕ) → EndsWith bytes mid → EndsWith mid rest → EndsWith bytes rest
ends-on bytes mid rest h k = (h.0 ++ k.0, h.1 ∙ ap (λ x. h.0 ++ x) k.1 ∙ sym (append_assoc h.0 k.0 rest))

line-ends : (bytes text rest : List ℕ) → Line bytes text rest → EndsWith bytes rest
line-ends bytes text rest l = (text ++ crlf, l.joins)

field-lines-end : (bytes rest : List ℕ) (hs : List Header) → BeginsWithFieldLines bytes hs rest → EndsWith bytes rest
field-lines-end bytes rest [] b = ([], sym b)
field-lines-end bytes rest (h ∷ hs) b = ends-on bytes b.1 rest (line-ends bytes b.0 b.1 b.2) (field-lines-end b.1 rest hs b.5)

head-ends : (bytes rest : List ℕ) (h : AnswerHead) → BeginsWithAnswerHead bytes h rest → EndsWith bytes rest
head-ends bytes rest h b =
    ends-on bytes b.fields rest (line-ends bytes b.starts.0 b.fields b.starts.1)
    (ends-on b.fields b.empty rest (field-lines-end b.fields b.empty h.headers b.names) (line-ends b.empty [] rest b.ends))

passes-end : (bytes rest : List ℕ) (hs : List AnswerHead) → PassesOver bytes hs rest → EndsWith bytes rest
passes-end bytes rest [] b = ([], sym b)
passes-end bytes rest (h ∷ hs) b = ends-on bytes b.0 rest (head-ends bytes b.0 h b.1) (passes-end b.0 rest hs b.3)

chunks-end : (bytes body rest : List ℕ) → WholeChunks bytes body rest → EndsWith bytes rest
chunks-end bytes body rest w =
    let front = flat_map chunk_text w.chunks in
    let last = lines_text (w.last ∷ w.trailers) in
    (front ++ (last ++ crlf), w.joins ∙ ap (λ x. front ++ x) (sym (append_assoc last crlf rest)) ∙ sym (append_assoc front (last ++ crlf) rest))

body-ends : (e : Extent) (bytes body rest : List ℕ) → BeginsWithBody e bytes body rest → EndsWith bytes rest
body-ends NoBody bytes body rest b = ([], sym b.1)
body-ends OfChunks bytes body rest b = chunks-end bytes body rest b
body-ends (OfLength n) bytes body rest b = (body, b.0)
body-ends OfUnknownLength bytes body rest b = elim b [ ]

pub answer-ends : (m : Method) (bytes rest : List ℕ) (a : ClientAnswer) → ReadsAnswer m bytes a rest → EndsWith bytes rest
answer-ends m bytes rest a r =
    ends-on bytes r.start rest (passes-end bytes r.start r.interim r.passes)
    (ends-on r.start r.after rest (head-ends r.start r.after a.head r.has_head) (body-ends (extent m a.head) r.after a.body rest r.has_body))

-- what stands at the end is what is left when the others are taken
pub end-left : (bytes rest : List ℕ) → EndsWith bytes rest → (length rest ≤ length bytes) × (drop (length bytes - length rest) bytes ≡ rest)
end-left bytes rest h =
    let long : length bytes ≡ length h.0 + length rest = ap length h.1 ∙ length-append h.0 rest in
    let front : length bytes - length rest ≡ length h.0 = omega arith in
    (omega arith, rw (front, h.1) (drop-append_seam h.0 rest))
