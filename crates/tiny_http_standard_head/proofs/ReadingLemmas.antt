-- The first bytes of a client are read in one way.
use Rattle.std.proofs.Common.{◌≡◌, refl, sym, ap, ◌∙◌, subst, ℕ, ◌+◌, ◌<◌, ◌≤◌, ◌⊎◌, not, List, [], ◌∷◌, ◌++◌, length, take, inl, inr, Result, Ok, Err, append_assoc, arith, true, false}
use Rattle.std.specs.Prelude.{◌==◌}
use Rattle.std.proofs.lemmas.List.{take_all}
use Rattle.std.proofs.lemmas.List.Folds.{list_all-append}
use Rattle.tiny_http_text.specs.Bytes.{HasNo, has_bare_end}
use Rattle.tiny_http_head.specs.declared.common.Method.{Method}
use Rattle.tiny_http_head.specs.declared.common.HTTPVersion.{HTTPVersion}
use Rattle.tiny_http_head.specs.declared.common.Header.{Header}
use Rattle.tiny_http_head.specs.Heads.{Message, method_of}
use Rattle.tiny_http_head.proofs.FirstByte.{contrary, not-without, one-first}
use Rattle.tiny_http_standard_head.specs.declared.validation.HeadSummary.{HeadSummary}
use Rattle.tiny_http_standard_head.specs.declared.validation.HeadError.{HeadError}
use Rattle.tiny_http_standard_head.specs.declared.heads.StandardFault.TheVariants.{BadLine, RequestLineTooLong, HeaderFieldsTooLarge, TooManyFields, Invalid}
use Rattle.tiny_http_standard_head.specs.declared.heads.TheConstants.{MOST_HEADERS}
use Rattle.tiny_http_standard_head.specs.declared.heads.StandardRead.{StandardRead}
use Rattle.tiny_http_standard_head.specs.declared.heads.StandardRead.TheVariants.{Whole, Refused, Unfinished}
use Rattle.tiny_http_standard_head.specs.Lines.{percent_encoded, ReadsFieldLine, ReadsRequestLine, IsNoRequestLine}
use Rattle.tiny_http_standard_head.specs.Validation.{Validates}
use Rattle.tiny_http_head.specs.Heads.{line_feed}
use Rattle.tiny_http_standard_head.specs.Heads.{is_carriage_return, Line, BeginsWithBareLine, behind_empty_line, BeginsWithRequestLine, BeginsWithFieldLines, BeginsWithHead, BeginsWithBadLine, IsNoFieldOrEnd, ComesToField, HasOpenRequestLine, HasOpenField, HasTooManyFields, message_of, is_begun, Reads, IsSameRead, Reading, ReadWhole, ReadBad, ReadTooMany, ReadOpen, AreReadAs}
use Rattle.tiny_http_standard_head.proofs.HostsLemmas.{one-last}
use Rattle.tiny_http_standard_head.proofs.LawsLemmas.{request-line-once, field-line-once, validated-once}

-- a line with its CR has no LF
with-return : (text : List ℕ) → HasNo line_feed text → HasNo line_feed (text ++ 13 ∷ [])
with-return text h = list_all-append (λ b. not (b == line_feed)) text (13 ∷ []) ∙ rw h refl

line-cut : (bytes text rest : List ℕ) → Line bytes text rest → bytes ≡ (text ++ 13 ∷ []) ++ line_feed ∷ rest
line-cut bytes text rest l = l.joins ∙ sym (append_assoc text (13 ∷ []) (line_feed ∷ rest))

line-once : (bytes t r u s : List ℕ) → Line bytes t r → Line bytes u s → (t ≡ u) × (r ≡ s)
line-once bytes t r u s a b =
    let cut = one-first line_feed (t ++ 13 ∷ []) (u ++ 13 ∷ []) r s (with-return t a.first) (with-return u b.first) (sym (line-cut bytes t r a) ∙ line-cut bytes u s b) in
    ((one-last 13 t u [] [] refl refl cut.0).0, cut.1)

bare-end-return : (text : List ℕ) → has_bare_end is_carriage_return (text ++ 13 ∷ []) ≡ false
bare-end-return [] = refl
bare-end-return (a ∷ []) = refl
bare-end-return (a ∷ b ∷ bs) = bare-end-return (b ∷ bs)

line-no_bare : (bytes t r : List ℕ) → Line bytes t r → BeginsWithBareLine bytes → ⊥
line-no_bare bytes t r a b =
    let cut = one-first line_feed (t ++ 13 ∷ []) b.text r b.rest (with-return t a.first) b.first (sym (line-cut bytes t r a) ∙ b.joins) in
    contrary (has_bare_end is_carriage_return b.text) b.bare (subst (λ (x : List ℕ). has_bare_end is_carriage_return x ≡ false) cut.0 (bare-end-return t))

line-no_open : (bytes t r : List ℕ) → Line bytes t r → HasNo line_feed bytes → ⊥
line-no_open bytes t r a open_ = not-without line_feed (t ++ 13 ∷ []) r (subst (HasNo line_feed) (line-cut bytes t r a) open_)

bare-no_open : (bytes : List ℕ) → BeginsWithBareLine bytes → HasNo line_feed bytes → ⊥
bare-no_open bytes b open_ = not-without line_feed b.text b.rest (subst (HasNo line_feed) b.joins open_)

-- a good line isn't bad, and a bad one has ended
good-no_bad : (IsBad : List ℕ → Type 0) (bytes t r : List ℕ) → Line bytes t r → (IsBad t → ⊥) → BeginsWithBadLine IsBad bytes → ⊥
good-no_bad IsBad bytes t r a good bad = elim bad [
  | inl bare ↦ line-no_bare bytes t r a bare
  | inr w ↦ good (subst IsBad (line-once bytes w.0 w.1 t r w.2 a).0 w.3)
]

bad-no_open : (IsBad : List ℕ → Type 0) (bytes : List ℕ) → BeginsWithBadLine IsBad bytes → HasNo line_feed bytes → ⊥
bad-no_open IsBad bytes bad open_ = elim bad [
  | inl bare ↦ bare-no_open bytes bare open_
  | inr w ↦ line-no_open bytes w.0 w.1 w.2 open_
]

-- a request line is read once
reads-request-once : (text : List ℕ) (m n : Method) (t u : List ℕ) (v w : HTTPVersion) → ReadsRequestLine text m t v → ReadsRequestLine text n u w → (m ≡ n) × (t ≡ u) × (v ≡ w)
reads-request-once text m n t u v w a b =
    let same = request-line-once text a.0 t b.0 u v w a.1 b.1 in
    (a.2 ∙ ap method_of same.0 ∙ sym b.2, same.1, same.2)

same-header : (h k : Header) → h.field ≡ k.field → h.value ≡ k.value → h ≡ k
same-header h k f v = ap (λ (x : List ℕ). record { field = x; value = h.value }) f ∙ ap (λ (x : List ℕ). record { field = k.field; value = x }) v

reads-field-once : (text : List ℕ) (h k : Header) → ReadsFieldLine text h → ReadsFieldLine text k → h ≡ k
reads-field-once text h k a b =
    let same = field-line-once text h.field a.0 k.field b.0 a.1 b.1 in
    same-header h k same.0 (a.2 ∙ ap percent_encoded same.1 ∙ sym b.2)

no-empty_field : (h : Header) → ReadsFieldLine [] h → ⊥
no-empty_field h a = by h.field a.1.padded a.1.joins
  where
    by : (f p : List ℕ) → [] ≡ f ++ 58 ∷ p → ⊥
    by [] p e = cc
    by (x ∷ xs) p e = cc

-- how the field lines end
pub data Ending : Type 0 where
  Finished : (after : List ℕ) → Ending
  Bad : Ending
  Open : Ending

abbrev pub EndsAs : List ℕ → Ending → Type 0
EndsAs rest (Finished after) = Line rest [] after
EndsAs rest Bad = BeginsWithBadLine IsNoFieldOrEnd rest
EndsAs rest Open = HasNo line_feed rest

abbrev pub AreFields : List ℕ → List Header → Ending → Type 0
AreFields bytes hs e = (rest : List ℕ) × BeginsWithFieldLines bytes hs rest × EndsAs rest e

ends-once : (rest : List ℕ) (e f : Ending) → EndsAs rest e → EndsAs rest f → e ≡ f
ends-once rest (Finished a) (Finished b) x y = ap Finished (line-once rest [] a [] b x y).1
ends-once rest (Finished a) Bad x y = absurd (good-no_bad IsNoFieldOrEnd rest [] a x (λ k. k.0 refl) y)
ends-once rest (Finished a) Open x y = absurd (line-no_open rest [] a x y)
ends-once rest Bad (Finished b) x y = absurd (good-no_bad IsNoFieldOrEnd rest [] b y (λ k. k.0 refl) x)
ends-once rest Bad Bad x y = refl
ends-once rest Bad Open x y = absurd (bad-no_open IsNoFieldOrEnd rest x y)
ends-once rest Open (Finished b) x y = absurd (line-no_open rest [] b y x)
ends-once rest Open Bad x y = absurd (bad-no_open IsNoFieldOrEnd rest y x)
ends-once rest Open Open x y = refl

-- where a field line stands nothing ends
field-no_end : (bytes t r : List ℕ) (h : Header) (e : Ending) → Line bytes t r → ReadsFieldLine t h → EndsAs bytes e → ⊥
field-no_end bytes t r h (Finished after) l a x = no-empty_field h (subst (λ (y : List ℕ). ReadsFieldLine y h) (line-once bytes t r [] after l x).0 a)
field-no_end bytes t r h Bad l a x = good-no_bad IsNoFieldOrEnd bytes t r l (λ k. k.1 h.field a.0 a.1) x
field-no_end bytes t r h Open l a x = line-no_open bytes t r l x

fields-once : (bytes : List ℕ) (hs ks : List Header) (e f : Ending) → AreFields bytes hs e → AreFields bytes ks f → (hs ≡ ks) × (e ≡ f)
fields-once bytes [] [] e f a b = (refl, ends-once bytes e f (subst (λ (x : List ℕ). EndsAs x e) a.1 a.2) (subst (λ (x : List ℕ). EndsAs x f) b.1 b.2))
fields-once bytes [] (k ∷ ks) e f a b = absurd (field-no_end bytes b.1.0 b.1.1 k e b.1.2 b.1.3 (subst (λ (x : List ℕ). EndsAs x e) a.1 a.2))
fields-once bytes (h ∷ hs) [] e f a b = absurd (field-no_end bytes a.1.0 a.1.1 h f a.1.2 a.1.3 (subst (λ (x : List ℕ). EndsAs x f) b.1 b.2))
fields-once bytes (h ∷ hs) (k ∷ ks) e f a b =
    let line = line-once bytes a.1.0 a.1.1 b.1.0 b.1.1 a.1.2 b.1.2 in
    let header : h ≡ k = reads-field-once a.1.0 h k a.1.3 (subst (λ (x : List ℕ). ReadsFieldLine x k) (sym line.0) b.1.3) in
    let more = fields-once a.1.1 hs ks e f (a.0, a.1.4, a.2) (b.0, subst (λ (x : List ℕ). BeginsWithFieldLines x ks b.0) (sym line.1) b.1.4, b.2) in
    (ap (λ (x : Header). x ∷ hs) header ∙ ap (λ (x : List Header). k ∷ x) more.0, more.1)

-- where more field lines stand, none of these ends
many-no_few : (bytes : List ℕ) (hs ks : List Header) (rest : List ℕ) (e : Ending) → BeginsWithFieldLines bytes hs rest → AreFields bytes ks e → length ks < length hs → ⊥
many-no_few bytes [] ks rest e a b lt = absurd (omega (arith, lt))
many-no_few bytes (h ∷ hs) [] rest e a b lt = field-no_end bytes a.0 a.1 h e a.2 a.3 (subst (λ (x : List ℕ). EndsAs x e) b.1 b.2)
many-no_few bytes (h ∷ hs) (k ∷ ks) rest e a b lt =
    let line = line-once bytes a.0 a.1 b.1.0 b.1.1 a.2 b.1.2 in
    many-no_few a.1 hs ks rest e a.4 (b.0, subst (λ (x : List ℕ). BeginsWithFieldLines x ks b.0) (sym line.1) b.1.4, b.2) (omega (arith, lt))

-- where the reading of a head comes to its end
data Point : Type 0 where
  AtBad : Point
  AtOpen : Point
  AtMany : Point
  Behind : (m : Message) → Ending → Point

abbrev IsPoint : List ℕ → Point → Type 0
IsPoint bytes AtBad = BeginsWithBadLine IsNoRequestLine (behind_empty_line bytes)
IsPoint bytes AtOpen = HasNo line_feed (behind_empty_line bytes)
IsPoint bytes AtMany = HasTooManyFields bytes
IsPoint bytes (Behind m e) = (fields : List ℕ) × BeginsWithRequestLine bytes m.method m.path m.version fields × AreFields fields m.headers e × (length m.headers ≤ MOST_HEADERS)

same-message : (m n : Message) → m.method ≡ n.method → m.path ≡ n.path → m.version ≡ n.version → m.headers ≡ n.headers → m ≡ n
same-message m n a b c d =
    ap (λ (x : Method). record { method = x; path = m.path; version = m.version; headers = m.headers }) a
    ∙ ap (λ (x : List ℕ). record { method = n.method; path = x; version = m.version; headers = m.headers }) b
    ∙ ap (λ (x : HTTPVersion). record { method = n.method; path = n.path; version = x; headers = m.headers }) c
    ∙ ap (λ (x : List Header). record { method = n.method; path = n.path; version = n.version; headers = x }) d

request-no_bad : (bytes : List ℕ) (m : Method) (t : List ℕ) (v : HTTPVersion) (fields : List ℕ) → BeginsWithRequestLine bytes m t v fields → BeginsWithBadLine IsNoRequestLine (behind_empty_line bytes) → ⊥
request-no_bad bytes m t v fields r bad = good-no_bad IsNoRequestLine (behind_empty_line bytes) r.text fields r.line (λ none. none r.reads.0 t v r.reads.1) bad

request-no_open : (bytes : List ℕ) (m : Method) (t : List ℕ) (v : HTTPVersion) (fields : List ℕ) → BeginsWithRequestLine bytes m t v fields → HasNo line_feed (behind_empty_line bytes) → ⊥
request-no_open bytes m t v fields r open_ = line-no_open (behind_empty_line bytes) r.text fields r.line open_

many-no_end : (bytes : List ℕ) (m : Message) (e : Ending) → HasTooManyFields bytes → IsPoint bytes (Behind m e) → ⊥
many-no_end bytes m e t b =
    let line = line-once (behind_empty_line bytes) t.request.text t.fields b.1.text b.0 t.request.line b.1.line in
    many-no_few t.fields t.headers m.headers t.rest e t.lines (subst (λ (x : List ℕ). AreFields x m.headers e) (sym line.1) b.2) (omega (arith, t.many, b.3))

point-once : (bytes : List ℕ) (p q : Point) → IsPoint bytes p → IsPoint bytes q → p ≡ q
point-once bytes AtBad AtBad a b = refl
point-once bytes AtBad AtOpen a b = absurd (bad-no_open IsNoRequestLine (behind_empty_line bytes) a b)
point-once bytes AtBad AtMany a b = absurd (request-no_bad bytes b.method b.target b.version b.fields b.request a)
point-once bytes AtBad (Behind m e) a b = absurd (request-no_bad bytes m.method m.path m.version b.0 b.1 a)
point-once bytes AtOpen AtBad a b = absurd (bad-no_open IsNoRequestLine (behind_empty_line bytes) b a)
point-once bytes AtOpen AtOpen a b = refl
point-once bytes AtOpen AtMany a b = absurd (request-no_open bytes b.method b.target b.version b.fields b.request a)
point-once bytes AtOpen (Behind m e) a b = absurd (request-no_open bytes m.method m.path m.version b.0 b.1 a)
point-once bytes AtMany AtBad a b = absurd (request-no_bad bytes a.method a.target a.version a.fields a.request b)
point-once bytes AtMany AtOpen a b = absurd (request-no_open bytes a.method a.target a.version a.fields a.request b)
point-once bytes AtMany AtMany a b = refl
point-once bytes AtMany (Behind m e) a b = absurd (many-no_end bytes m e a b)
point-once bytes (Behind m e) AtBad a b = absurd (request-no_bad bytes m.method m.path m.version a.0 a.1 b)
point-once bytes (Behind m e) AtOpen a b = absurd (request-no_open bytes m.method m.path m.version a.0 a.1 b)
point-once bytes (Behind m e) AtMany a b = absurd (many-no_end bytes m e b a)
point-once bytes (Behind m e) (Behind n f) a b =
    let line = line-once (behind_empty_line bytes) a.1.text a.0 b.1.text b.0 a.1.line b.1.line in
    let start = reads-request-once a.1.text m.method n.method m.path n.path m.version n.version a.1.reads (subst (λ (x : List ℕ). ReadsRequestLine x n.method n.path n.version) (sym line.0) b.1.reads) in
    let more = fields-once a.0 m.headers n.headers e f a.2 (subst (λ (x : List ℕ). AreFields x n.headers f) (sym line.1) b.2) in
    ap (λ (x : Message). Behind x e) (same-message m n start.0 start.1 start.2 more.0) ∙ ap (Behind n) more.1

-- what a reading is at a point
abbrev IsValidated : ℕ → List ℕ → Message → List ℕ → StandardRead → Type 0
IsValidated limit bytes m after (Whole h) = (message_of h ≡ m) × (h.length + length after ≡ length (take limit bytes)) × Validates m.version m.method m.headers (Ok h.summary)
IsValidated limit bytes m after (Refused (Invalid e)) = Validates m.version m.method m.headers (Err e)
IsValidated limit bytes m after _ = ⊥

abbrev IsOpenAs : ℕ → List ℕ → StandardRead → StandardRead → Type 0
IsOpenAs limit bytes refused r = ((limit ≤ length bytes) × (r ≡ refused)) ⊎ ((length bytes < limit) × (r ≡ Unfinished (is_begun bytes)))

abbrev Matches : ℕ → List ℕ → Point → StandardRead → Type 0
Matches limit bytes AtBad r = r ≡ Refused BadLine
Matches limit bytes AtOpen r = IsOpenAs limit bytes (Refused RequestLineTooLong) r
Matches limit bytes AtMany r = r ≡ Refused TooManyFields
Matches limit bytes (Behind m (Finished after)) r = IsValidated limit bytes m after r
Matches limit bytes (Behind m Bad) r = r ≡ Refused BadLine
Matches limit bytes (Behind m Open) r = IsOpenAs limit bytes (Refused HeaderFieldsTooLarge) r

abbrev View : ℕ → List ℕ → StandardRead → Type 0
View limit bytes r = (p : Point) × IsPoint (take limit bytes) p × Matches limit bytes p r

of-head : (bytes : List ℕ) (m : Message) (after : List ℕ) → BeginsWithHead bytes m after → IsPoint bytes (Behind m (Finished after))
of-head bytes m after b = (b.fields, b.request, (b.empty, b.headers, b.end), b.few)

of-field : (bytes rest : List ℕ) (e : Ending) (c : ComesToField bytes rest) → EndsAs rest e → IsPoint bytes (Behind (record { method = c.method; path = c.target; version = c.version; headers = c.headers }) e)
of-field bytes rest e c x = (c.fields, c.request, (rest, c.lines, x), c.few)

view : (limit : ℕ) (bytes : List ℕ) (r : StandardRead) → Reads limit bytes r → View limit bytes r
view limit bytes (Whole h) w = (Behind (message_of h) (Finished w.0), of-head (take limit bytes) (message_of h) w.0 w.1, (refl, w.2, w.3))
view limit bytes (Refused BadLine) (inl bad) = (AtBad, bad, refl)
view limit bytes (Refused BadLine) (inr w) = (Behind (record { method = w.1.method; path = w.1.target; version = w.1.version; headers = w.1.headers }) Bad, of-field (take limit bytes) w.0 Bad w.1 w.2, refl)
view limit bytes (Refused TooManyFields) w = (AtMany, w, refl)
view limit bytes (Refused (Invalid e)) w = (Behind w.0 (Finished w.1), of-head (take limit bytes) w.0 w.1 w.2, w.3)
view limit bytes (Refused RequestLineTooLong) w = (AtOpen, w.1, inl (w.0, refl))
view limit bytes (Refused HeaderFieldsTooLarge) w = (Behind (record { method = w.1.1.method; path = w.1.1.target; version = w.1.1.version; headers = w.1.1.headers }) Open, of-field (take limit bytes) w.1.0 Open w.1.1 w.1.2, inl (w.0, refl))
view limit bytes (Unfinished b) w = by w.1
  where
    all : take limit bytes ≡ bytes
    all = take_all limit bytes (omega (arith, w.0))

    by : (HasOpenRequestLine bytes ⊎ HasOpenField bytes) → View limit bytes (Unfinished b)
    by (inl o) = (AtOpen, subst HasOpenRequestLine (sym all) o, inr (w.0, ap Unfinished w.2))
    by (inr o) = (Behind (record { method = o.1.method; path = o.1.target; version = o.1.version; headers = o.1.headers }) Open, subst (λ (x : List ℕ). IsPoint x (Behind (record { method = o.1.method; path = o.1.target; version = o.1.version; headers = o.1.headers }) Open)) (sym all) (of-field bytes o.0 Open o.1 o.2), inr (w.0, ap Unfinished w.2))

-- two readings at one point
same-self : (r s t : StandardRead) → r ≡ t → s ≡ t → IsSameRead t t → IsSameRead r s
same-self r s t a b c = subst (λ (x : StandardRead). IsSameRead x s) (sym a) (subst (λ (x : StandardRead). IsSameRead t x) (sym b) c)

same-open : (limit : ℕ) (bytes : List ℕ) (t r s : StandardRead) → IsSameRead t t → IsOpenAs limit bytes t r → IsOpenAs limit bytes t s → IsSameRead r s
same-open limit bytes t r s self (inl a) (inl b) = same-self r s t a.1 b.1 self
same-open limit bytes t r s self (inl a) (inr b) = absurd (omega (arith, a.0, b.0))
same-open limit bytes t r s self (inr a) (inl b) = absurd (omega (arith, a.0, b.0))
same-open limit bytes t r s self (inr a) (inr b) = same-self r s (Unfinished (is_begun bytes)) a.1 b.1 refl

ok-summary : (a b : HeadSummary) → ◌≡◌ {A = Result HeadSummary HeadError} (Ok a) (Ok b) → a ≡ b
ok-summary a b e = cc

ok-no_err : (a : HeadSummary) (e : HeadError) → ◌≡◌ {A = Result HeadSummary HeadError} (Ok a) (Err e) → ⊥
ok-no_err a e h = cc

err-refusal : (d e : HeadError) → ◌≡◌ {A = Result HeadSummary HeadError} (Err d) (Err e) → d ≡ e
err-refusal d e h = cc

same-validated : (limit : ℕ) (bytes : List ℕ) (m : Message) (after : List ℕ) (r s : StandardRead) → IsValidated limit bytes m after r → IsValidated limit bytes m after s → IsSameRead r s
same-validated limit bytes m after (Whole h) (Whole k) a b =
    (a.0 ∙ sym b.0, omega (arith, a.1, b.1), ok-summary h.summary k.summary (validated-once m.version m.method m.headers (Ok h.summary) (Ok k.summary) a.2 b.2))
same-validated limit bytes m after (Whole h) (Refused (Invalid e)) a b = ok-no_err h.summary e (validated-once m.version m.method m.headers (Ok h.summary) (Err e) a.2 b)
same-validated limit bytes m after (Whole h) (Refused BadLine) a b = absurd b
same-validated limit bytes m after (Whole h) (Refused RequestLineTooLong) a b = absurd b
same-validated limit bytes m after (Whole h) (Refused HeaderFieldsTooLarge) a b = absurd b
same-validated limit bytes m after (Whole h) (Refused TooManyFields) a b = absurd b
same-validated limit bytes m after (Whole h) (Unfinished x) a b = absurd b
same-validated limit bytes m after (Refused (Invalid e)) (Whole k) a b = ok-no_err k.summary e (validated-once m.version m.method m.headers (Ok k.summary) (Err e) b.2 a)
same-validated limit bytes m after (Refused (Invalid d)) (Refused (Invalid e)) a b = ap Invalid (err-refusal d e (validated-once m.version m.method m.headers (Err d) (Err e) a b))
same-validated limit bytes m after (Refused (Invalid d)) (Refused BadLine) a b = absurd b
same-validated limit bytes m after (Refused (Invalid d)) (Refused RequestLineTooLong) a b = absurd b
same-validated limit bytes m after (Refused (Invalid d)) (Refused HeaderFieldsTooLarge) a b = absurd b
same-validated limit bytes m after (Refused (Invalid d)) (Refused TooManyFields) a b = absurd b
same-validated limit bytes m after (Refused (Invalid d)) (Unfinished x) a b = absurd b
same-validated limit bytes m after (Refused BadLine) s a b = absurd a
same-validated limit bytes m after (Refused RequestLineTooLong) s a b = absurd a
same-validated limit bytes m after (Refused HeaderFieldsTooLarge) s a b = absurd a
same-validated limit bytes m after (Refused TooManyFields) s a b = absurd a
same-validated limit bytes m after (Unfinished x) s a b = absurd a

same-at : (limit : ℕ) (bytes : List ℕ) (p : Point) (r s : StandardRead) → Matches limit bytes p r → Matches limit bytes p s → IsSameRead r s
same-at limit bytes AtBad r s a b = same-self r s (Refused BadLine) a b refl
same-at limit bytes AtOpen r s a b = same-open limit bytes (Refused RequestLineTooLong) r s refl a b
same-at limit bytes AtMany r s a b = same-self r s (Refused TooManyFields) a b refl
same-at limit bytes (Behind m (Finished after)) r s a b = same-validated limit bytes m after r s a b
same-at limit bytes (Behind m Bad) r s a b = same-self r s (Refused BadLine) a b refl
same-at limit bytes (Behind m Open) r s a b = same-open limit bytes (Refused HeaderFieldsTooLarge) r s refl a b

pub reading-once : (limit : ℕ) (bytes : List ℕ) (r s : StandardRead) → Reads limit bytes r → Reads limit bytes s → IsSameRead r s
reading-once limit bytes r s a b =
    let x = view limit bytes r a in
    let y = view limit bytes s b in
    let same : x.0 ≡ y.0 = point-once (take limit bytes) x.0 y.0 x.1 y.1 in
    same-at limit bytes y.0 r s (subst (λ (p : Point). Matches limit bytes p r) same x.2) y.2

-- what bytes are read as stands at a point
abbrev Shows : Point → Reading → Type 0
Shows AtBad r = r ≡ ReadBad
Shows AtOpen r = r ≡ ReadOpen false
Shows AtMany r = r ≡ ReadTooMany
Shows (Behind m (Finished after)) r = (j : Result HeadSummary HeadError) × (r ≡ ReadWhole m after j) × Validates m.version m.method m.headers j
Shows (Behind m Bad) r = r ≡ ReadBad
Shows (Behind m Open) r = r ≡ ReadOpen true

shown : (bytes : List ℕ) (r : Reading) → AreReadAs bytes r → (p : Point) × IsPoint bytes p × Shows p r
shown bytes (ReadWhole m after j) a = (Behind m (Finished after), of-head bytes m after a.0, (j, refl, a.1))
shown bytes ReadBad (inl bad) = (AtBad, bad, refl)
shown bytes ReadBad (inr w) = (Behind (record { method = w.1.method; path = w.1.target; version = w.1.version; headers = w.1.headers }) Bad, of-field bytes w.0 Bad w.1 w.2, refl)
shown bytes ReadTooMany a = (AtMany, a, refl)
shown bytes (ReadOpen false) a = (AtOpen, a, refl)
shown bytes (ReadOpen true) a = (Behind (record { method = a.1.method; path = a.1.target; version = a.1.version; headers = a.1.headers }) Open, of-field bytes a.0 Open a.1 a.2, refl)

shows-once : (p : Point) (r s : Reading) → Shows p r → Shows p s → r ≡ s
shows-once AtBad r s a b = a ∙ sym b
shows-once AtOpen r s a b = a ∙ sym b
shows-once AtMany r s a b = a ∙ sym b
shows-once (Behind m (Finished after)) r s a b = a.1 ∙ ap (ReadWhole m after) (validated-once m.version m.method m.headers a.0 b.0 a.2 b.2) ∙ sym b.1
shows-once (Behind m Bad) r s a b = a ∙ sym b
shows-once (Behind m Open) r s a b = a ∙ sym b

pub read-once : (bytes : List ℕ) (r s : Reading) → AreReadAs bytes r → AreReadAs bytes s → r ≡ s
read-once bytes r s a b =
    let x = shown bytes r a in
    let y = shown bytes s b in
    shows-once y.0 r s (subst (λ (p : Point). Shows p r) (point-once bytes x.0 y.0 x.1 y.1) x.2) y.2
