-- An answer, computed, is the answer of the client's grammar, and there is one.
use Rattle.std.proofs.Common.{◌≡◌, refl, sym, ap, ◌∙◌, subst, ℕ, zero, suc, ◌+◌, ◌<◌, ◌≤◌, Bool, true, false, inl, inr, ◌⊎◌, List, [], ◌∷◌, ◌++◌, length, take, drop, Option, Some, None, Result, Ok, Err, arith, length-append, ⊎_elim}
use Rattle.std.specs.Prelude.{MatchOption, MatchResult, nat_lt}
use Rattle.std.specs.List.{list_all}
use Rattle.std.proofs.lemmas.Bool.{ltb-true, ltb-false, lt-ltb, le-ltb}
use Rattle.std.proofs.lemmas.List.{take-append-drop, length-take}
use Rattle.std.specs.declared.io.ErrorKind.{ErrorKind}
use Rattle.std.specs.declared.io.ErrorKind.TheVariants.{InvalidData, UnexpectedEof}
use Rattle.tiny_http_head.specs.declared.common.HTTPVersion.{HTTPVersion}
use Rattle.tiny_http_head.specs.declared.common.Header.{Header}
use Rattle.tiny_http_head.specs.declared.common.Method.{Method}
use Rattle.tiny_http_io.specs.declared.device.Stop.TheVariants.{End}
use Rattle.tiny_http_text.specs.Bytes.{is_ascii, AreAscii, colon, space}
use Rattle.tiny_http_text.specs.Lines.{Line, has_crlf}
use Rattle.tiny_http_body.specs.Chunks.{CutChunks, Remainder, NoSizeLine, BadSize, CutData, NoClose, CutTrailer, LongTrailer, RemainderBreaks, ChunkLineFault, CloseFault}
use Rattle.tiny_http_head.specs.HeadReading.{line}
use Rattle.tiny_http_body.specs.ChunkReading.{decoded, Decoded}
use Rattle.tiny_http_client.specs.ClientAnswer.{StatusLine, FieldLine, BeginsWithFieldLines, AnswerHead, BeginsWithAnswerHead, is_interim, PassesOver, Extent, NoBody, OfChunks, OfLength, OfUnknownLength, extent, BeginsWithBody, ClientAnswer, ReadsAnswer, Lack, Unfinished, Invalid, LacksLine, IsStatusLine, IsFieldLineOrEmpty, LacksHead, LacksBody, LacksAnswer}
use Rattle.tiny_http_client.specs.ClientReading.{status_line_read, field_line_read, FieldLinesRead, with_field_line, field_line_checked, field_line_at, field_line_in, field_lines_read, AnswerHeadRead, with_field_lines, status_line_checked, status_line_in, answer_head_read, AnswerBodyRead, lack_of, chunks_read, front_read, answer_body_read, AnswerRead, with_head, behind_head, answer_at, answer_within, answer_read}
use Rattle.tiny_http_head.proofs.LinesLemmas.{line-is, line-one, line-none}
use Rattle.tiny_http_head.proofs.HeadsLemmas.{line-shorter}
use Rattle.tiny_http_body.proofs.ChunksLemmas.{decoded-one, decoded-front, decoded-is, IsDecoded, made}
use Rattle.tiny_http_client.proofs.ClientReadingLines.{status-line-one, status-line-are, field-line-one, field-line-are}
use Rattle.tiny_http_head.proofs.HeadsLemmas.{fewer_than}
use Rattle.std.proofs.Math.Seq.{take-append_seam}
use Rattle.std.proofs.Math.Seq.{drop-append_seam}

no-cons : {G : Type 0} (f rest : List ℕ) (c : ℕ) → [] ≡ f ++ c ∷ rest → G
no-cons [] rest c h = cc
no-cons (x ∷ xs) rest c h = cc

client-field-one : (go : List ℕ → FieldLinesRead) (text rest : List ℕ) (h : Header) (hs : List Header) (after : List ℕ) → AreAscii text → FieldLine text h → go rest ≡ Ok (hs, after) → field_line_at go text rest ≡ Ok (h ∷ hs, after)
client-field-one go [] rest h hs after a l k = no-cons h.field (space ∷ h.value) colon l.joins
client-field-one go (b ∷ bs) rest h hs after a l k = rw (a, field-line-one (b ∷ bs) h l, k) refl

client-field-one-err : (go : List ℕ → FieldLinesRead) (text rest : List ℕ) (h : Header) (t : Lack) → AreAscii text → FieldLine text h → go rest ≡ Err t → field_line_at go text rest ≡ Err t
client-field-one-err go [] rest h t a l k = no-cons h.field (space ∷ h.value) colon l.joins
client-field-one-err go (b ∷ bs) rest h t a l k = rw (a, field-line-one (b ∷ bs) h l, k) refl

abbrev IsFieldLine : List ℕ → Header → Type 0
IsFieldLine text h = FieldLine text h

bad-field : (go : List ℕ → FieldLinesRead) (text rest : List ℕ) (a : Bool) → list_all is_ascii text ≡ a → (o : Option Header) → MatchOption o (Unit {0}) (IsFieldLine text) → (AreAscii text → IsFieldLineOrEmpty text → ⊥) → field_line_checked go rest a o ≡ Err Invalid
bad-field go text rest false e o l h = refl
bad-field go text rest true e None l h = refl
bad-field go text rest true e (Some x) l h = absurd (h e (inr (x, l)))

field-bad : (go : List ℕ → FieldLinesRead) (text rest : List ℕ) → (AreAscii text → IsFieldLineOrEmpty text → ⊥) → field_line_at go text rest ≡ Err Invalid
field-bad go [] rest h = absurd (h refl (inl refl))
field-bad go (b ∷ bs) rest h = bad-field go (b ∷ bs) rest (list_all is_ascii (b ∷ bs)) refl (field_line_read (b ∷ bs)) (field-line-are (b ∷ bs)) h

client-field-fault : (n : ℕ) (bytes : List ℕ) (t : Lack) → LacksLine IsFieldLineOrEmpty bytes t → field_lines_read (suc n) bytes ≡ Err t
client-field-fault n bytes Unfinished f = rw (line-none bytes f) refl
client-field-fault n bytes Invalid f = rw (line-one bytes f.0 f.1 f.2) (field-bad (field_lines_read n) f.0 f.1 f.3)

-- fields and what follows them, read with enough fuel
client-fields-front : (fuel : ℕ) (bytes rest after : List ℕ) (hs : List Header) → BeginsWithFieldLines bytes hs rest → Line rest [] after → length hs < fuel → field_lines_read fuel bytes ≡ Ok (hs, after)
client-fields-front zero bytes rest after hs f l lt = absurd (omega arith)
client-fields-front (suc n) bytes rest after [] f l lt =
    let e : line bytes ≡ Some ([], after) = rw (sym f) (line-one rest [] after l) in
    rw e refl
client-fields-front (suc n) bytes rest after (h ∷ hs) f l lt =
    let e = line-one bytes f.0 f.1 f.2 in
    let k : field_lines_read n f.1 ≡ Ok (hs, after) = client-fields-front n f.1 rest after hs f.5 l (omega arith) in
    rw e (client-field-one (field_lines_read n) f.0 f.1 h hs after f.3 f.4 k)

-- faulty fields, read with enough fuel
client-fields-fault : (fuel : ℕ) (bytes rest : List ℕ) (hs : List Header) (t : Lack) → BeginsWithFieldLines bytes hs rest → LacksLine IsFieldLineOrEmpty rest t → length hs < fuel → field_lines_read fuel bytes ≡ Err t
client-fields-fault zero bytes rest hs t f l lt = absurd (omega arith)
client-fields-fault (suc n) bytes rest [] t f l lt =
    let P : List ℕ → Type 0 = λ x. LacksLine IsFieldLineOrEmpty x t in
    client-field-fault n bytes t (subst P f l)
client-fields-fault (suc n) bytes rest (h ∷ hs) t f l lt =
    let e = line-one bytes f.0 f.1 f.2 in
    let k : field_lines_read n f.1 ≡ Err t = client-fields-fault n f.1 rest hs t f.5 l (omega arith) in
    rw e (client-field-one-err (field_lines_read n) f.0 f.1 h t f.3 f.4 k)

-- there are no more fields than bytes
client-fields-fewer : (bytes rest : List ℕ) (hs : List Header) → BeginsWithFieldLines bytes hs rest → length hs + length rest ≤ length bytes
client-fields-fewer bytes rest [] f = rw f (omega arith)
client-fields-fewer bytes rest (h ∷ hs) f =
    let s = line-shorter bytes f.0 f.1 f.2 in
    let k = client-fields-fewer f.1 rest hs f.5 in
    let goal : suc (length hs) + length rest ≤ length bytes = omega arith in goal

-- what follows a head is shorter
pub client-head-shorter : (bytes : List ℕ) (h : AnswerHead) (after : List ℕ) → BeginsWithAnswerHead bytes h after → length after < length bytes
client-head-shorter bytes h after a =
    let s = line-shorter bytes a.starts.0 a.fields a.starts.1 in
    let k = client-fields-fewer a.fields a.empty h.headers a.names in
    let e = line-shorter a.empty [] after a.ends in
    omega arith

-- a head is read as it stands
pub client-head-one : (bytes : List ℕ) (h : AnswerHead) (after : List ℕ) → BeginsWithAnswerHead bytes h after → answer_head_read bytes ≡ Ok (h, after)
client-head-one bytes h after a =
    let s = a.starts in
    let few = fewer_than (length h.headers) (length a.empty) (length a.fields) (client-fields-fewer a.fields a.empty h.headers a.names) in
    rw (line-one bytes s.0 a.fields s.1, s.2, status-line-one s.0 h.version h.status s.3, client-fields-front (length a.fields + 1) a.fields a.empty after h.headers a.names a.ends few) refl

abbrev IsStatusOf : List ℕ → HTTPVersion × ℕ → Type 0
IsStatusOf text r = StatusLine text r.0 r.1

bad-start : (text rest : List ℕ) (a : Bool) → list_all is_ascii text ≡ a → (o : Option (HTTPVersion × ℕ)) → MatchOption o (Unit {0}) (IsStatusOf text) → (AreAscii text → IsStatusLine text → ⊥) → status_line_checked rest a o ≡ Err Invalid
bad-start text rest false e o l h = refl
bad-start text rest true e None l h = refl
bad-start text rest true e (Some x) l h = absurd (h e (x.0, x.1, l))

start-fault : (bytes : List ℕ) (t : Lack) → LacksLine IsStatusLine bytes t → answer_head_read bytes ≡ Err t
start-fault bytes Unfinished h = rw (line-none bytes h) refl
start-fault bytes Invalid h = rw (line-one bytes h.0 h.1 h.2) (bad-start h.0 h.1 (list_all is_ascii h.0) refl (status_line_read h.0) (status-line-are h.0) h.3)

-- and so is a faulty one
pub client-head-fault : (bytes : List ℕ) (t : Lack) → LacksHead bytes t → answer_head_read bytes ≡ Err t
client-head-fault bytes t h =
    ⊎_elim
    (λ k. start-fault bytes t k)
    (λ k.
    let s = k.5 in
    let few = fewer_than (length k.3) (length k.4) (length k.2) (client-fields-fewer k.2 k.4 k.3 k.6) in
    rw (line-one bytes s.0 k.2 s.1, s.2, status-line-one s.0 k.0 k.1 s.3, client-fields-fault (length k.2 + 1) k.2 k.4 k.3 t k.6 k.7 few) refl)
    h

abbrev ClientGoodFields : List ℕ → List Header × List ℕ → Type 0
ClientGoodFields bytes r = (empty : List ℕ) × BeginsWithFieldLines bytes r.0 empty × Line empty [] r.1

abbrev ClientBadFields : List ℕ → Lack → Type 0
ClientBadFields bytes t = (hs : List Header) × (rest : List ℕ) × BeginsWithFieldLines bytes hs rest × LacksLine IsFieldLineOrEmpty rest t

client-with-header-are : (bytes text rest : List ℕ) (h : Header) (r : FieldLinesRead) → Line bytes text rest → AreAscii text → FieldLine text h
    → MatchResult r (ClientGoodFields rest) (ClientBadFields rest) → MatchResult (with_field_line h r) (ClientGoodFields bytes) (ClientBadFields bytes)
client-with-header-are bytes text rest h (Ok r) l a k g = (g.0, (text, rest, l, a, k, g.1), g.2)
client-with-header-are bytes text rest h (Err e) l a k g = (h ∷ g.0, g.1, (text, rest, l, a, k, g.2), g.3)

true-false : {G : Type 0} (t : Bool) → t ≡ true → t ≡ false → G
true-false t e f = cc

client-none-some : {A G : Type 0} (x : A) (o : Option A) → o ≡ Some x → o ≡ None → G
client-none-some x o e f = cc

client-checked-are : (go : List ℕ → FieldLinesRead) (bytes text rest : List ℕ) → Line bytes text rest → (text ≡ [] → ⊥) → (a : Bool) → list_all is_ascii text ≡ a → (o : Option Header) → field_line_read text ≡ o → MatchOption o (Unit {0}) (IsFieldLine text)
    → MatchResult (go rest) (ClientGoodFields rest) (ClientBadFields rest) → MatchResult (field_line_checked go rest a o) (ClientGoodFields bytes) (ClientBadFields bytes)
client-checked-are go bytes text rest l ne false ea o eo ho k = ([], bytes, refl, (text, rest, l, (λ x y. true-false (list_all is_ascii text) x ea)))
client-checked-are go bytes text rest l ne true ea None eo ho k =
    ([], bytes, refl, (text, rest, l, (λ x. ⊎_elim ne (λ h. client-none-some h.0 (field_line_read text) (field-line-one text h.0 h.1) eo))))
client-checked-are go bytes text rest l ne true ea (Some h) eo ho k = client-with-header-are bytes text rest h (go rest) l ea ho k

absurd-cons : (x : ℕ) (xs : List ℕ) (G : Type 0) → x ∷ xs ≡ [] → G
absurd-cons x xs G h = cc

client-field-at-are : (go : List ℕ → FieldLinesRead) (bytes text rest : List ℕ) → Line bytes text rest → MatchResult (go rest) (ClientGoodFields rest) (ClientBadFields rest) → MatchResult (field_line_at go text rest) (ClientGoodFields bytes) (ClientBadFields bytes)
client-field-at-are go bytes [] rest l k = (bytes, refl, l)
client-field-at-are go bytes (b ∷ bs) rest l k =
    client-checked-are go bytes (b ∷ bs) rest l (λ e. absurd-cons b bs ⊥ e) (list_all is_ascii (b ∷ bs)) refl (field_line_read (b ∷ bs)) refl (field-line-are (b ∷ bs)) k

client-field-in-are : (fuel : ℕ) (bytes : List ℕ) → length bytes < suc fuel → ((rest : List ℕ) → length rest < fuel → MatchResult (field_lines_read fuel rest) (ClientGoodFields rest) (ClientBadFields rest))
    → (o : Option (List ℕ × List ℕ)) → MatchOption o (has_crlf bytes ≡ false) (λ l. Line bytes l.0 l.1) → MatchResult (field_line_in (field_lines_read fuel) o) (ClientGoodFields bytes) (ClientBadFields bytes)
client-field-in-are fuel bytes lt go None h = ([], bytes, refl, h)
client-field-in-are fuel bytes lt go (Some l) h =
    let s = line-shorter bytes l.0 l.1 h in
    let lt2 : length l.1 < fuel = omega arith in
    client-field-at-are (field_lines_read fuel) bytes l.0 l.1 h (go l.1 lt2)

client-fields-are : (fuel : ℕ) (bytes : List ℕ) → length bytes < fuel → MatchResult (field_lines_read fuel bytes) (ClientGoodFields bytes) (ClientBadFields bytes)
client-fields-are zero bytes lt = absurd (omega arith)
client-fields-are (suc fuel) bytes lt = client-field-in-are fuel bytes lt (client-fields-are fuel) (line bytes) (line-is bytes)

-- what is read of a head stands there
abbrev pub ClientHeadIs : List ℕ → AnswerHeadRead → Type 0
ClientHeadIs bytes r = MatchResult r (λ p. BeginsWithAnswerHead bytes p.0 p.1) (LacksHead bytes)

client-with-fields-are : (bytes text rest : List ℕ) (s : HTTPVersion × ℕ) (f : FieldLinesRead) → Line bytes text rest → AreAscii text → StatusLine text s.0 s.1
    → MatchResult f (ClientGoodFields rest) (ClientBadFields rest) → ClientHeadIs bytes (with_field_lines s f)
client-with-fields-are bytes text rest s (Ok f) l a k g = record { fields = rest; empty = g.0; starts = (text, l, a, k); names = g.1; ends = g.2 }
client-with-fields-are bytes text rest s (Err e) l a k g = inr (s.0, s.1, rest, g.0, g.1, (text, l, a, k), g.2, g.3)

client-start-are : (bytes text rest : List ℕ) → Line bytes text rest → (a : Bool) → list_all is_ascii text ≡ a → (o : Option (HTTPVersion × ℕ)) → status_line_read text ≡ o → MatchOption o (Unit {0}) (IsStatusOf text) → ClientHeadIs bytes (status_line_checked rest a o)
client-start-are bytes text rest l false ea o eo ho = inl (text, rest, l, (λ x y. true-false (list_all is_ascii text) x ea))
client-start-are bytes text rest l true ea None eo ho = inl (text, rest, l, (λ x h. client-none-some (h.0, h.1) (status_line_read text) (status-line-one text h.0 h.1 h.2) eo))
client-start-are bytes text rest l true ea (Some r) eo ho = client-with-fields-are bytes text rest r (field_lines_read (length rest + 1) rest) l ea ho (client-fields-are (length rest + 1) rest (omega arith))

client-start-in-are : (bytes : List ℕ) (o : Option (List ℕ × List ℕ)) → MatchOption o (has_crlf bytes ≡ false) (λ l. Line bytes l.0 l.1) → ClientHeadIs bytes (status_line_in o)
client-start-in-are bytes None h = inl h
client-start-in-are bytes (Some l) h = client-start-are bytes l.0 l.1 h (list_all is_ascii l.0) refl (status_line_read l.0) refl (status-line-are l.0)

-- each bytes begin with a head, or with a faulty one
pub client-head-is : (bytes : List ℕ) → ClientHeadIs bytes (answer_head_read bytes)
client-head-is bytes = client-start-in-are bytes (line bytes) (line-is bytes)

-- The fault of a chunked body whose bytes end is one of two.
line-kind : (bytes : List ℕ) (kind : ErrorKind) → ChunkLineFault bytes End kind → (kind ≡ InvalidData) ⊎ (kind ≡ UnexpectedEof)
line-kind bytes kind h = ⊎_elim (λ k. inl k.1) (λ k. inr k.1) h.1

close-kind : (close : List ℕ) (kind : ErrorKind) → CloseFault close End kind → (kind ≡ InvalidData) ⊎ (kind ≡ UnexpectedEof)
close-kind [] kind h = inr h
close-kind (a ∷ []) kind h = ⊎_elim (λ k. inr k.1) (λ k. inl k.1) h
close-kind (a ∷ b ∷ bs) kind h = inl h.1

breaks-kind : (way : Remainder) (bytes part : List ℕ) (kind : ErrorKind) → RemainderBreaks way bytes End part kind → (kind ≡ InvalidData) ⊎ (kind ≡ UnexpectedEof)
breaks-kind NoSizeLine bytes part kind h = line-kind bytes kind h.1
breaks-kind (BadSize text rest) bytes part kind h = inl h.4
breaks-kind (CutData text size) bytes part kind h = inr h.4
breaks-kind (NoClose text close) bytes part kind h = close-kind close kind h.4
breaks-kind (CutTrailer last trailers next) bytes part kind h = line-kind next kind h.4
breaks-kind (LongTrailer last trailers next) bytes part kind h = inl h.5

-- what is read of a body stands there
abbrev pub BodyIs : Extent → List ℕ → AnswerBodyRead → Type 0
BodyIs e bytes r = MatchResult r (λ b. BeginsWithBody e bytes b.0 b.1) (LacksBody e bytes)

pub lack-is : (bytes body : List ℕ) (kind : ErrorKind) → CutChunks bytes End body kind → LacksBody OfChunks bytes (lack_of kind)
lack-is bytes body kind f =
    let P : ErrorKind → Type 0 = λ k. LacksBody OfChunks bytes (lack_of k) in
    ⊎_elim
    (λ e. subst P (sym e) (body, subst (λ k. CutChunks bytes End body k) e f))
    (λ e. subst P (sym e) (body, subst (λ k. CutChunks bytes End body k) e f))
    (breaks-kind f.way f.rest f.part kind f.breaks)

chunks-are : (bytes body : List ℕ) (r : Result (List ℕ) ErrorKind) → IsDecoded bytes End (made body r) → BodyIs OfChunks bytes (chunks_read body r)
chunks-are bytes body (Ok rest) h = h
chunks-are bytes body (Err kind) h = lack-is bytes body kind h

sized-are : (n : ℕ) (bytes : List ℕ) (t : Bool) → nat_lt (length bytes) n ≡ t → BodyIs (OfLength n) bytes (front_read n bytes t)
sized-are n bytes true e = ltb-true (length bytes) n e
sized-are n bytes false e =
    let enough : n ≤ length bytes = ltb-false (length bytes) n e in
    (sym (take-append-drop n bytes), simp length-take (omega arith))

pub client-body-is : (e : Extent) (bytes : List ℕ) → BodyIs e bytes (answer_body_read e bytes)
client-body-is NoBody bytes = (refl, refl)
client-body-is OfChunks bytes = let d = decoded (length bytes + 1) End bytes in chunks-are bytes d.body d.ends (decoded-is (length bytes + 1) bytes End (omega arith))
client-body-is (OfLength n) bytes = sized-are n bytes (nat_lt (length bytes) n) refl
client-body-is OfUnknownLength bytes = tt

chunks-read-at : (d e : Decoded) → d ≡ e → chunks_read d.body d.ends ≡ chunks_read e.body e.ends
chunks-read-at d e h = ap (λ (x : Decoded). chunks_read x.body x.ends) h

pub client-body-one : (e : Extent) (bytes body rest : List ℕ) → BeginsWithBody e bytes body rest → answer_body_read e bytes ≡ Ok (body, rest)
client-body-one NoBody bytes body rest h = rw (h.0, h.1) refl
client-body-one OfChunks bytes body rest h = chunks-read-at (decoded (length bytes + 1) End bytes) (made body (Ok rest)) (decoded-one bytes body rest End h)
client-body-one (OfLength n) bytes body rest h =
    let enough : n ≤ length bytes = omega (arith, ap length h.0 ∙ length-append body rest, h.1) in
    let front : take n bytes ≡ body = rw (h.0, sym h.1) (take-append_seam body rest) in
    let behind : drop n bytes ≡ rest = rw (h.0, sym h.1) (drop-append_seam body rest) in
    rw (le-ltb (length bytes) n enough, front, behind) refl
client-body-one OfUnknownLength bytes body rest h = elim h [ ]

pub body-fault : (e : Extent) (bytes : List ℕ) (t : Lack) → LacksBody e bytes t → answer_body_read e bytes ≡ Err t
body-fault NoBody bytes t h = elim h [ ]
body-fault OfChunks bytes Unfinished h = chunks-read-at (decoded (length bytes + 1) End bytes) (made h.0 (Err UnexpectedEof)) (decoded-front bytes h.0 End UnexpectedEof h.1)
body-fault OfChunks bytes Invalid h = chunks-read-at (decoded (length bytes + 1) End bytes) (made h.0 (Err InvalidData)) (decoded-front bytes h.0 End InvalidData h.1)
body-fault (OfLength n) bytes Unfinished h = rw (lt-ltb (length bytes) n h) refl
body-fault (OfLength n) bytes Invalid h = elim h [ ]
body-fault OfUnknownLength bytes Unfinished h = elim h [ ]
body-fault OfUnknownLength bytes Invalid h = refl

-- what is read of an answer stands there
abbrev pub AnswerIs : Method → List ℕ → AnswerRead → Type 0
AnswerIs m bytes r = MatchResult r (λ a. ReadsAnswer m bytes a.0 a.1) (LacksAnswer m bytes)

with-head-are : (m : Method) (bytes after : List ℕ) (h : AnswerHead) → BeginsWithAnswerHead bytes h after → is_interim h.status ≡ false → (r : AnswerBodyRead) → BodyIs (extent m h) after r → AnswerIs m bytes (with_head h r)
with-head-are m bytes after h a e (Ok b) k = record { interim = []; start = bytes; after = after; passes = refl; has_head = a; is_final = e; has_body = k }
with-head-are m bytes after h a e (Err t) k = ([], bytes, refl, inr (h, after, a, e, k))

-- one more head in front
client-passed-more : (m : Method) (bytes after : List ℕ) (h : AnswerHead) → BeginsWithAnswerHead bytes h after → is_interim h.status ≡ true → (r : AnswerRead) → AnswerIs m after r → AnswerIs m bytes r
client-passed-more m bytes after h a e (Ok x) k = record { interim = h ∷ k.interim; start = k.start; after = k.after; passes = (after, a, e, k.passes); has_head = k.has_head; is_final = k.is_final; has_body = k.has_body }
client-passed-more m bytes after h a e (Err t) k = (h ∷ k.0, k.1, (after, a, e, k.2), k.3)

head-passed-are : (fuel : ℕ) (m : Method) (bytes after : List ℕ) (h : AnswerHead) → BeginsWithAnswerHead bytes h after → (length after < fuel → AnswerIs m after (answer_within fuel m after)) → length bytes < suc fuel
    → (t : Bool) → is_interim h.status ≡ t → AnswerIs m bytes (behind_head (answer_within fuel m) m h after t)
head-passed-are fuel m bytes after h a go lt true e = let s = client-head-shorter bytes h after a in client-passed-more m bytes after h a e (answer_within fuel m after) (go (omega arith))
head-passed-are fuel m bytes after h a go lt false e = with-head-are m bytes after h a e (answer_body_read (extent m h) after) (client-body-is (extent m h) after)

behind-are : (fuel : ℕ) (m : Method) (bytes : List ℕ) → ((rest : List ℕ) → length rest < fuel → AnswerIs m rest (answer_within fuel m rest)) → length bytes < suc fuel
    → (r : AnswerHeadRead) → ClientHeadIs bytes r → AnswerIs m bytes (answer_at (answer_within fuel m) m r)
behind-are fuel m bytes go lt (Err t) h = ([], bytes, refl, inl h)
behind-are fuel m bytes go lt (Ok r) h = head-passed-are fuel m bytes r.1 r.0 h (go r.1) lt (is_interim r.0.status) refl

answer-in-are : (fuel : ℕ) (m : Method) (bytes : List ℕ) → length bytes < fuel → AnswerIs m bytes (answer_within fuel m bytes)
answer-in-are zero m bytes lt = absurd (omega arith)
answer-in-are (suc fuel) m bytes lt = behind-are fuel m bytes (λ rest less. answer-in-are fuel m rest less) lt (answer_head_read bytes) (client-head-is bytes)

pub answer-is : (m : Method) (bytes : List ℕ) → AnswerIs m bytes (answer_read m bytes)
answer-is m bytes = answer-in-are (length bytes + 1) m bytes (omega arith)

-- there are no more heads that are passed over than bytes
passes-fewer : (bytes start : List ℕ) (hs : List AnswerHead) → PassesOver bytes hs start → length hs + length start ≤ length bytes
passes-fewer bytes start [] p = rw p (omega arith)
passes-fewer bytes start (h ∷ hs) p =
    let s = client-head-shorter bytes h p.0 p.1 in
    let k = passes-fewer p.0 start hs p.3 in
    let goal : suc (length hs) + length start ≤ length bytes = omega arith in goal

-- an answer after heads that are passed over, read with enough fuel
passes-in : (fuel : ℕ) (m : Method) (bytes start : List ℕ) (hs : List AnswerHead) (r : AnswerRead) → PassesOver bytes hs start → length hs < fuel → ((n : ℕ) → answer_within (suc n) m start ≡ r) → answer_within fuel m bytes ≡ r
passes-in zero m bytes start hs r p lt k = absurd (omega arith)
passes-in (suc n) m bytes start [] r p lt k =
    let P : List ℕ → Type 0 = λ x. answer_within (suc n) m x ≡ r in
    subst P p (k n)
passes-in (suc n) m bytes start (h ∷ hs) r p lt k =
    rw (client-head-one bytes h p.0 p.1, p.2) (passes-in n m p.0 start hs r p.3 (omega arith) k)

final-one : (n : ℕ) (m : Method) (start after : List ℕ) (a : ClientAnswer) (rest : List ℕ) → BeginsWithAnswerHead start a.head after → is_interim a.head.status ≡ false → BeginsWithBody (extent m a.head) after a.body rest → answer_within (suc n) m start ≡ Ok (a, rest)
final-one n m start after a rest h e b = rw (client-head-one start a.head after h, e, client-body-one (extent m a.head) after a.body rest b) refl

pub answer-one : (m : Method) (bytes : List ℕ) (a : ClientAnswer) (rest : List ℕ) → ReadsAnswer m bytes a rest → answer_read m bytes ≡ Ok (a, rest)
answer-one m bytes a rest h =
    passes-in (length bytes + 1) m bytes h.start h.interim (Ok (a, rest)) h.passes (fewer_than (length h.interim) (length h.start) (length bytes) (passes-fewer bytes h.start h.interim h.passes))
    (λ n. final-one n m h.start h.after a rest h.has_head h.is_final h.has_body)

start-lacks : (n : ℕ) (m : Method) (start : List ℕ) (t : Lack) → LacksHead start t → answer_within (suc n) m start ≡ Err t
start-lacks n m start t h = rw (client-head-fault start t h) refl

final-lacks : (n : ℕ) (m : Method) (start after : List ℕ) (h : AnswerHead) (t : Lack) → BeginsWithAnswerHead start h after → is_interim h.status ≡ false → LacksBody (extent m h) after t → answer_within (suc n) m start ≡ Err t
final-lacks n m start after h t a e b = rw (client-head-one start h after a, e, body-fault (extent m h) after t b) refl

pub answer-fault : (m : Method) (bytes : List ℕ) (t : Lack) → LacksAnswer m bytes t → answer_read m bytes ≡ Err t
answer-fault m bytes t h =
    passes-in (length bytes + 1) m bytes h.1 h.0 (Err t) h.2 (fewer_than (length h.0) (length h.1) (length bytes) (passes-fewer bytes h.1 h.0 h.2))
    (λ n. ⊎_elim (λ k. start-lacks n m h.1 t k) (λ k. final-lacks n m h.1 k.1 k.0 t k.2 k.3 k.4) h.3)
