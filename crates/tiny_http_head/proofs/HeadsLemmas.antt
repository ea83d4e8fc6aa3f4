-- A head, computed, is the head of the definitions, and there is one.
use Rattle.std.proofs.Common.{◌≡◌, refl, sym, ap, ◌∙◌, subst, ℕ, zero, suc, ◌+◌, ◌<◌, ◌≤◌, Bool, true, false, cond, not, ◌&&◌, ◌||◌, inl, inr, List, [], ◌∷◌, ◌++◌, length, drop, Option, Some, None, Result, Ok, Err, append_assoc, append-nil, eqb-true, arith, length-append, ⊎_elim}
use Rattle.std.specs.Prelude.{◌==◌, option_map, IsSome, MatchOption, MatchResult, IsErrOf, IsErrAnd}
use Rattle.std.specs.List.{list_all, list_any}
use Rattle.std.proofs.Math.Seq.{drop-append-add}
use Rattle.std.proofs.lemmas.Bool.{and_parts}
use Rattle.tiny_http_head.specs.declared.common.Method.{Method}
use Rattle.tiny_http_head.specs.declared.common.HTTPVersion.{HTTPVersion}
use Rattle.tiny_http_head.specs.declared.common.Header.{Header}
use Rattle.tiny_http_head.specs.declared.common.ParseError.{ParseError}
use Rattle.tiny_http_head.specs.declared.common.ParseError.TheVariants.{Refused, Memory}
use Rattle.tiny_http_text.specs.Bytes.{is_blank, is_ascii, AreAscii, HasNo, parts, Trims, IsEmptyOrBegins, space, colon, trimmed}
use Rattle.tiny_http_text.specs.Lines.{Line, has_crlf}
use Rattle.tiny_http_head.specs.Heads.{method_of, version_of, RequestLine, HeaderLine, IsHeader, BeginsWithHeaderLines, Message, BeginsWithRequestHead, GrammarFault, Cut, NotAscii, Malformed, FaultyLine, FaultyHead, IsRequestLine, IsFieldOrEnd}
use Rattle.tiny_http_head.specs.HeadReading.{front_while, line, three_parts, request_line, header_line, is_colon, FieldsRead, with_header, field_checked, field_at, field_in, fields, RequestHeadRead, Whole, Faulty, with_fields, start_checked, start_in, request_head_read}
use Rattle.tiny_http_head.proofs.LinesLemmas.{line-is, line-one, line-none}
use Rattle.tiny_http_text.proofs.BytesLemmas.{not_true, trims-is, trims-one, ArePartsOf, parts-are, parts-word, parts-last}

absurd_cons : {A : Type 0} (x : A) (xs : List A) (G : Type 0) → x ∷ xs ≡ [] → G
absurd_cons x xs G h = cc

cons_not_nil : {G : Type 0} (c : ℕ) (f rest : List ℕ) → [] ≡ f ++ c ∷ rest → G
cons_not_nil c [] rest h = cc
cons_not_nil c (x ∷ xs) rest h = cc

abbrev named : List ℕ → List ℕ → HTTPVersion → Method × List ℕ × HTTPVersion
named m p v = (method_of m, p, v)

three-more : (mt p vt more : List ℕ) (v : HTTPVersion) → HasNo space vt → IsEmptyOrBegins space more → version_of vt ≡ Some v
    → three_parts (mt ∷ p ∷ parts space (vt ++ more)) ≡ Some (named mt p v)
three-more mt p vt [] v h b e = rw (append-nil vt, parts-last space vt h, e) refl
three-more mt p vt (c ∷ cs) v h b e = rw (b, parts-word space vt cs h, e) refl

-- a text is one request line
pub request-line-one : (text : List ℕ) (method : Method) (path : List ℕ) (v : HTTPVersion) → RequestLine text method path v → request_line text ≡ Some (method, path, v)
request-line-one text method path v r =
    let regroup : r.core ≡ r.method_text ++ (space ∷ (path ++ (space ∷ (r.version_text ++ r.more)))) = r.joins ∙ simp append_assoc in
    rw (trims-one is_blank text r.core r.trims, regroup, parts-word space r.method_text (path ++ (space ∷ (r.version_text ++ r.more))) r.one_word, parts-word space path (r.version_text ++ r.more) r.one_path)
    (three-more r.method_text path r.version_text r.more v r.one_version r.more_parts r.names_version ∙ ap (λ m. Some (m, path, v)) (sym r.names_method))

-- the third part and what follows it, where the rest is these parts
two-last : (text mt p vt rest : List ℕ) (more : List (List ℕ)) (v : HTTPVersion) (core : List ℕ) → Trims is_blank text core → HasNo space mt → HasNo space p → core ≡ mt ++ space ∷ (p ++ space ∷ rest)
    → ArePartsOf space rest (vt ∷ more) → version_of vt ≡ Some v → RequestLine text (method_of mt) p v
two-last text mt p vt rest more v core t hm hp joins a e =
    ⊎_elim
    (λ k. record {
      core = core;
      method_text = mt;
      version_text = vt;
      more = [];
      trims = t;
      one_word = hm;
      one_path = hp;
      one_version = a.0;
      more_parts = tt;
      names_method = refl;
      names_version = e;
      joins = joins ∙ (ap (λ x. mt ++ space ∷ (p ++ space ∷ x)) (k.1 ∙ sym (append-nil vt)) ∙ simp append_assoc);
    })
    (λ k. record {
      core = core;
      method_text = mt;
      version_text = vt;
      more = space ∷ k.0;
      trims = t;
      one_word = hm;
      one_path = hp;
      one_version = a.0;
      more_parts = refl;
      names_method = refl;
      names_version = e;
      joins = joins ∙ (ap (λ x. mt ++ space ∷ (p ++ space ∷ x)) k.1 ∙ simp append_assoc);
    })
    a.1

at-version : (mt p vt : List ℕ) (o : Option HTTPVersion) (r : Method × List ℕ × HTTPVersion) → option_map (named mt p) o ≡ Some r → (v : HTTPVersion) × (o ≡ Some v) × (r ≡ named mt p v)
at-version mt p vt None r h = cc
at-version mt p vt (Some v) r h = (v, refl, cc)

abbrev IsRequestLineOf : List ℕ → Method × List ℕ × HTTPVersion → Type 0
IsRequestLineOf text r = RequestLine text r.0 r.1 r.2

three-are : (text core : List ℕ) (ps : List (List ℕ)) (r : Method × List ℕ × HTTPVersion) → Trims is_blank text core → ArePartsOf space core ps → three_parts ps ≡ Some r → IsRequestLineOf text r
three-are text core [] r t a e = elim a [ ]
three-are text core (mt ∷ []) r t a e = cc
three-are text core (mt ∷ p ∷ []) r t a e = cc
three-are text core (mt ∷ p ∷ vt ∷ more) r t a e =
    let v = at-version mt p vt (version_of vt) r e in
    let absurd_first : (p ∷ vt ∷ more ≡ []) × (core ≡ mt) → IsRequestLineOf text r = λ k. absurd_cons p (vt ∷ more) (IsRequestLineOf text r) k.0 in
    ⊎_elim absurd_first
    (λ k.
    let a2 : ArePartsOf space k.0 (p ∷ vt ∷ more) = (rw k.2 at (parts-are space k.0)) in
    ⊎_elim
    (λ j. absurd_cons vt more (IsRequestLineOf text r) j.0)
    (λ j.
    let a3 : ArePartsOf space j.0 (vt ∷ more) = (rw j.2 at (parts-are space j.0)) in
    let whole : core ≡ mt ++ space ∷ (p ++ space ∷ j.0) = k.1 ∙ ap (λ x. mt ++ space ∷ x) j.1 in
    subst (IsRequestLineOf text) (sym v.2) (two-last text mt p vt j.0 more v.0 core t a.0 a2.0 whole a3 v.1))
    a2.1)
    a.1

pub request-line-is : (text : List ℕ) (r : Method × List ℕ × HTTPVersion) → request_line text ≡ Some r → RequestLine text r.0 r.1 r.2
request-line-is text r e = three-are text (trimmed is_blank text) (parts space (trimmed is_blank text)) r (trims-is is_blank text) (parts-are space (trimmed is_blank text)) e

abbrev no_colon : ℕ → Bool
no_colon b = not (is_colon b)

pub take-front : (f rest : List ℕ) → HasNo colon f → front_while no_colon (f ++ colon ∷ rest) ≡ f
take-front [] rest h = refl
take-front (b ∷ bs) rest h =
    let k = and_parts (not (b == colon)) (list_all (λ x. not (x == colon)) bs) h in
    rw k.0 (ap (λ x. b ∷ x) (take-front bs rest k.1))

pub any-front : (f rest : List ℕ) → list_any is_colon (f ++ colon ∷ rest) ≡ true
any-front [] rest = refl
any-front (b ∷ bs) rest = elim (is_colon b) as (λ v. (v || list_any is_colon (bs ++ colon ∷ rest)) ≡ true) [ true ↦ refl | false ↦ any-front bs rest ]

drop-front : (f rest : List ℕ) → drop (length f + 1) (f ++ colon ∷ rest) ≡ rest
drop-front f rest = drop-append-add f (colon ∷ rest) 1

drop-at : (text f rest : List ℕ) → text ≡ f ++ colon ∷ rest → drop (length f + 1) text ≡ rest
drop-at text f rest e = rw e (drop-front f rest)

-- the first colon
pub record ColonAt (text f : List ℕ) : Type 0 where
  pub rest : List ℕ
  pub joins : text ≡ f ++ colon ∷ rest
  pub first : HasNo colon f

colon-step : (b : ℕ) (bs : List ℕ) (t : Bool) → is_colon b ≡ t → (t || list_any is_colon bs) ≡ true → (list_any is_colon bs ≡ true → ColonAt bs (front_while no_colon bs))
    → ColonAt (b ∷ bs) (cond (not t) (b ∷ front_while no_colon bs) [])
colon-step b bs true e h go = record { rest = bs; joins = ap (λ x. x ∷ bs) (eqb-true b colon e); first = refl }
colon-step b bs false e h go = let g = go h in record { rest = g.rest; joins = ap (λ x. b ∷ x) g.joins; first = rw e g.first }

colon-at : (text : List ℕ) → list_any is_colon text ≡ true → ColonAt text (front_while no_colon text)
colon-at [] h = cc
colon-at (b ∷ bs) h = colon-step b bs (is_colon b) refl h (colon-at bs)

abbrev pub field_record : List ℕ → List ℕ → Header
field_record f v = record { field = f; value = v }

-- a text is one header line
pub header-line-one : (text f v : List ℕ) → HeaderLine text f v → header_line text ≡ Some (field_record f v)
header-line-one text f v h =
    rw (h.joins, take-front f h.padded h.no_colon, any-front f h.padded, h.no_blank, drop-front f h.padded, trims-one is_blank h.padded v h.trims) refl

header-step : (text : List ℕ) (a b : Bool) (h : Header) → list_any is_colon text ≡ a → list_all (λ x. not (is_blank x)) (front_while no_colon text) ≡ b
    → cond (a && b) (Some (field_record (front_while no_colon text) (trimmed is_blank (drop (length (front_while no_colon text) + 1) text)))) None ≡ Some h
    → HeaderLine text h.field h.value
header-step text false b h ea eb e = cc
header-step text true false h ea eb e = cc
header-step text true true h ea eb e =
    let f = front_while no_colon text in
    let c = colon-at text ea in
    let d : drop (length f + 1) text ≡ c.rest = drop-at text f c.rest c.joins in
    let w : field_record f (trimmed is_blank (drop (length f + 1) text)) ≡ h = cc in
    let t : Trims is_blank c.rest (trimmed is_blank (drop (length f + 1) text)) = rw d (trims-is is_blank c.rest) in
    let P : Header → Type 0 = λ x. HeaderLine text x.field x.value in
    subst P w (record { padded = c.rest; joins = c.joins; no_blank = eb; no_colon = c.first; trims = t })

pub header-line-is : (text : List ℕ) (h : Header) → header_line text ≡ Some h → HeaderLine text h.field h.value
header-line-is text h e = header-step text (list_any is_colon text) (list_all (λ x. not (is_blank x)) (front_while no_colon text)) h refl refl e

-- a text that is read is a header, and one that isn't is none
pub header-read : (text : List ℕ) (o : Option Header) (h : Header) → AreAscii text → o ≡ header_line text → o ≡ Some h → IsHeader text h
header-read text o h a e s = (a, header-line-is text h (sym e ∙ s))

pub header-refused : (text : List ℕ) (o : Option Header) → o ≡ header_line text → o ≡ None → (h : Header) → IsHeader text h → ⊥
header-refused text o e n h i = let no : None ≡ Some h = sym n ∙ e ∙ header-line-one text h.field h.value i.1 in cc

some-header : (text : List ℕ) (o : Option Header) → header_line text ≡ o → IsSome o → (h : Header) × (header_line text ≡ Some h)
some-header text None e s = cc
some-header text (Some h) e s = (h, e)

pub header-not-refused : (text : List ℕ) → AreAscii text → IsSome (header_line text) → ((h : Header) → IsHeader text h → ⊥) → ⊥
header-not-refused text a s none = let h = some-header text (header_line text) refl s in none h.0 (a, header-line-is text h.0 h.1)

-- lack of memory is no refusal, nor is an answer
pub memory-refused : {T : Type 0} (r : Result T ParseError) → IsErrAnd r (λ e. e ≡ Memory) → IsErrOf r Refused → ⊥
memory-refused (Ok x) h e = cc
memory-refused (Err e) h k = let same : Refused ≡ Memory = cc in cc

pub ok-refused : {T : Type 0} (x : T) → IsErrOf (Ok x) Refused → ⊥
ok-refused x e = cc

-- a line is shorter than the bytes
pub line-shorter : (bytes text rest : List ℕ) → Line bytes text rest → length rest < length bytes
line-shorter bytes text rest l = rw l.joins (simp (length-append, append_assoc) (omega arith))

field-one : (go : List ℕ → FieldsRead) (text rest : List ℕ) (h : Header) (hs : List Header) (after : List ℕ) → AreAscii text → HeaderLine text h.field h.value → go rest ≡ Ok (hs, after) → field_at go text rest ≡ Ok (h ∷ hs, after)
field-one go [] rest h hs after a l k = cons_not_nil colon h.field l.padded l.joins
field-one go (b ∷ bs) rest h hs after a l k = rw (a, header-line-one (b ∷ bs) h.field h.value l, k) refl

field-one-err : (go : List ℕ → FieldsRead) (text rest : List ℕ) (h : Header) (fault : GrammarFault) → AreAscii text → HeaderLine text h.field h.value → go rest ≡ Err fault → field_at go text rest ≡ Err fault
field-one-err go [] rest h fault a l k = cons_not_nil colon h.field l.padded l.joins
field-one-err go (b ∷ bs) rest h fault a l k = rw (a, header-line-one (b ∷ bs) h.field h.value l, k) refl

not-header : (text : List ℕ) (o : Option Header) → header_line text ≡ o → (IsFieldOrEnd text → ⊥) → o ≡ None
not-header text None e h = refl
not-header text (Some x) e h = absurd (h (inr (x.field, x.value, header-line-is text x e)))

field-not-ascii : (go : List ℕ → FieldsRead) (text rest : List ℕ) → (AreAscii text → ⊥) → field_at go text rest ≡ Err NotAscii
field-not-ascii go [] rest h = absurd (h refl)
field-not-ascii go (b ∷ bs) rest h = rw (not_true (list_all is_ascii (b ∷ bs)) h) refl

field-malformed : (go : List ℕ → FieldsRead) (text rest : List ℕ) → AreAscii text → (IsFieldOrEnd text → ⊥) → field_at go text rest ≡ Err Malformed
field-malformed go [] rest a h = absurd (h (inl refl))
field-malformed go (b ∷ bs) rest a h = rw (a, not-header (b ∷ bs) (header_line (b ∷ bs)) refl h) refl

field-fault : (n : ℕ) (bytes : List ℕ) (fault : GrammarFault) → FaultyLine IsFieldOrEnd bytes fault → fields (suc n) bytes ≡ Err fault
field-fault n bytes Cut f = rw (line-none bytes f) refl
field-fault n bytes NotAscii f = rw (line-one bytes f.0 f.1 f.2) (field-not-ascii (fields n) f.0 f.1 f.3)
field-fault n bytes Malformed f = rw (line-one bytes f.0 f.1 f.2) (field-malformed (fields n) f.0 f.1 f.3 f.4)

-- fields and what follows them, read with enough fuel
pub fields-front : (fuel : ℕ) (bytes rest after : List ℕ) (hs : List Header) → BeginsWithHeaderLines bytes hs rest → Line rest [] after → length hs < fuel → fields fuel bytes ≡ Ok (hs, after)
fields-front zero bytes rest after hs f l lt = absurd (omega arith)
fields-front (suc n) bytes rest after [] f l lt =
    let e : line bytes ≡ Some ([], after) = rw (sym f) (line-one rest [] after l) in
    rw e refl
fields-front (suc n) bytes rest after (h ∷ hs) f l lt =
    let e = line-one bytes f.0 f.1 f.2 in
    let k : fields n f.1 ≡ Ok (hs, after) = fields-front n f.1 rest after hs f.5 l (omega arith) in
    rw e (field-one (fields n) f.0 f.1 h hs after f.3 f.4 k)

-- faulty fields, read with enough fuel
pub fields-fault : (fuel : ℕ) (bytes rest : List ℕ) (hs : List Header) (fault : GrammarFault) → BeginsWithHeaderLines bytes hs rest → FaultyLine IsFieldOrEnd rest fault → length hs < fuel → fields fuel bytes ≡ Err fault
fields-fault zero bytes rest hs fault f l lt = absurd (omega arith)
fields-fault (suc n) bytes rest [] fault f l lt = field-fault n bytes fault (rw (sym f) l)
fields-fault (suc n) bytes rest (h ∷ hs) fault f l lt =
    let e = line-one bytes f.0 f.1 f.2 in
    let k : fields n f.1 ≡ Err fault = fields-fault n f.1 rest hs fault f.5 l (omega arith) in
    rw e (field-one-err (fields n) f.0 f.1 h fault f.3 f.4 k)

-- there are no more fields than bytes
pub fields-fewer : (bytes rest : List ℕ) (hs : List Header) → BeginsWithHeaderLines bytes hs rest → length hs + length rest ≤ length bytes
fields-fewer bytes rest [] f = rw f (omega arith)
fields-fewer bytes rest (h ∷ hs) f =
    let s = line-shorter bytes f.0 f.1 f.2 in
    let k = fields-fewer f.1 rest hs f.5 in
    let goal : suc (length hs) + length rest ≤ length bytes = omega arith in goal

pub fewer_than : (n m k : ℕ) → n + m ≤ k → n < k + 1
fewer_than n m k h = omega arith

-- a head is read as it stands
pub head-one : (bytes : List ℕ) (m : Message) (after : List ℕ) → BeginsWithRequestHead bytes m after → request_head_read bytes ≡ Whole m after
head-one bytes m after h =
    let s = h.2 in
    let few = fewer_than (length m.headers) (length h.1) (length h.0) (fields-fewer h.0 h.1 m.headers h.3) in
    rw (line-one bytes s.0 h.0 s.1, s.2, request-line-one s.0 m.method m.path m.version s.3, fields-front (length h.0 + 1) h.0 h.1 after m.headers h.3 h.4 few) refl

not-request : (text : List ℕ) (o : Option (Method × List ℕ × HTTPVersion)) → request_line text ≡ o → (IsRequestLine text → ⊥) → o ≡ None
not-request text None e h = refl
not-request text (Some x) e h = absurd (h (x.0, x.1, x.2, request-line-is text x e))

-- and so is a faulty one
pub head-fault : (bytes : List ℕ) (v : Option HTTPVersion) (fault : GrammarFault) → FaultyHead bytes v fault → request_head_read bytes ≡ Faulty v fault
head-fault bytes None Cut h = rw (line-none bytes h) refl
head-fault bytes None NotAscii h = rw (line-one bytes h.0 h.1 h.2, not_true (list_all is_ascii h.0) h.3) refl
head-fault bytes None Malformed h = rw (line-one bytes h.0 h.1 h.2, h.3, not-request h.0 (request_line h.0) refl h.4) refl
head-fault bytes (Some v) fault h =
    let s = h.3 in
    let few = fewer_than (length h.4) (length h.5) (length h.2) (fields-fewer h.2 h.5 h.4 h.6) in
    rw (line-one bytes s.0 h.2 s.1, s.2, request-line-one s.0 h.0 h.1 v s.3, fields-fault (length h.2 + 1) h.2 h.5 h.4 fault h.6 h.7 few) refl

abbrev pub GoodFields : List ℕ → List Header × List ℕ → Type 0
GoodFields bytes r = (empty : List ℕ) × BeginsWithHeaderLines bytes r.0 empty × Line empty [] r.1

abbrev pub BadFields : List ℕ → GrammarFault → Type 0
BadFields bytes fault = (hs : List Header) × (rest : List ℕ) × BeginsWithHeaderLines bytes hs rest × FaultyLine IsFieldOrEnd rest fault

with-header-are : (bytes text rest : List ℕ) (h : Header) (r : FieldsRead) → Line bytes text rest → AreAscii text → HeaderLine text h.field h.value
    → MatchResult r (GoodFields rest) (BadFields rest) → MatchResult (with_header h r) (GoodFields bytes) (BadFields bytes)
with-header-are bytes text rest h (Ok r) l a k g = (g.0, (text, rest, l, a, k, g.1), g.2)
with-header-are bytes text rest h (Err e) l a k g = (h ∷ g.0, g.1, (text, rest, l, a, k, g.2), g.3)

checked-are : (go : List ℕ → FieldsRead) (bytes text rest : List ℕ) → Line bytes text rest → (text ≡ [] → ⊥) → (a : Bool) → list_all is_ascii text ≡ a → (o : Option Header) → header_line text ≡ o
    → MatchResult (go rest) (GoodFields rest) (BadFields rest) → MatchResult (field_checked go rest a o) (GoodFields bytes) (BadFields bytes)
checked-are go bytes text rest l ne false ea o eo k = ([], bytes, refl, (text, rest, l, (λ x. let e : true ≡ false = sym x ∙ ea in cc)))
checked-are go bytes text rest l ne true ea None eo k =
    ([], bytes, refl, (text, rest, l, ea, ⊎_elim ne (λ h. let e : Some (field_record h.0 h.1) ≡ None = sym (header-line-one text h.0 h.1 h.2) ∙ eo in cc)))
checked-are go bytes text rest l ne true ea (Some h) eo k = with-header-are bytes text rest h (go rest) l ea (header-line-is text h eo) k

field-at-are : (go : List ℕ → FieldsRead) (bytes text rest : List ℕ) → Line bytes text rest → MatchResult (go rest) (GoodFields rest) (BadFields rest) → MatchResult (field_at go text rest) (GoodFields bytes) (BadFields bytes)
field-at-are go bytes [] rest l k = (bytes, refl, l)
field-at-are go bytes (b ∷ bs) rest l k =
    checked-are go bytes (b ∷ bs) rest l (λ e. absurd_cons b bs ⊥ e) (list_all is_ascii (b ∷ bs)) refl (header_line (b ∷ bs)) refl k

field-in-are : (fuel : ℕ) (bytes : List ℕ) → length bytes < suc fuel → ((rest : List ℕ) → length rest < fuel → MatchResult (fields fuel rest) (GoodFields rest) (BadFields rest))
    → (o : Option (List ℕ × List ℕ)) → MatchOption o (has_crlf bytes ≡ false) (λ l. Line bytes l.0 l.1) → MatchResult (field_in (fields fuel) o) (GoodFields bytes) (BadFields bytes)
field-in-are fuel bytes lt go None h = ([], bytes, refl, h)
field-in-are fuel bytes lt go (Some l) h =
    let s = line-shorter bytes l.0 l.1 h in
    let lt2 : length l.1 < fuel = omega arith in
    field-at-are (fields fuel) bytes l.0 l.1 h (go l.1 lt2)

pub fields-are : (fuel : ℕ) (bytes : List ℕ) → length bytes < fuel → MatchResult (fields fuel bytes) (GoodFields bytes) (BadFields bytes)
fields-are zero bytes lt = absurd (omega arith)
fields-are (suc fuel) bytes lt = field-in-are fuel bytes lt (fields-are fuel) (line bytes) (line-is bytes)

-- what is read of a head stands there
abbrev pub HeadIs : List ℕ → RequestHeadRead → Type 0
HeadIs bytes (Whole m after) = BeginsWithRequestHead bytes m after
HeadIs bytes (Faulty v fault) = FaultyHead bytes v fault

with-fields-are : (bytes text rest : List ℕ) (r : Method × List ℕ × HTTPVersion) (f : FieldsRead) → Line bytes text rest → AreAscii text → RequestLine text r.0 r.1 r.2
    → MatchResult f (GoodFields rest) (BadFields rest) → HeadIs bytes (with_fields r f)
with-fields-are bytes text rest r (Ok f) l a k g = (rest, g.0, (text, l, a, k), g.1, g.2)
with-fields-are bytes text rest r (Err e) l a k g = (r.0, r.1, rest, (text, l, a, k), g.0, g.1, g.2, g.3)

start-are : (bytes text rest : List ℕ) → Line bytes text rest → (a : Bool) → list_all is_ascii text ≡ a → (o : Option (Method × List ℕ × HTTPVersion)) → request_line text ≡ o → HeadIs bytes (start_checked rest a o)
start-are bytes text rest l false ea o eo = (text, rest, l, (λ x. let e : true ≡ false = sym x ∙ ea in cc))
start-are bytes text rest l true ea None eo = (text, rest, l, ea, (λ h. let e : Some (h.0, h.1, h.2) ≡ None = sym (request-line-one text h.0 h.1 h.2 h.3) ∙ eo in cc))
start-are bytes text rest l true ea (Some r) eo = with-fields-are bytes text rest r (fields (length rest + 1) rest) l ea (request-line-is text r eo) (fields-are (length rest + 1) rest (omega arith))

start-in-are : (bytes : List ℕ) (o : Option (List ℕ × List ℕ)) → MatchOption o (has_crlf bytes ≡ false) (λ l. Line bytes l.0 l.1) → HeadIs bytes (start_in o)
start-in-are bytes None h = h
start-in-are bytes (Some l) h = start-are bytes l.0 l.1 h (list_all is_ascii l.0) refl (request_line l.0) refl

-- each bytes begin with a head, or with a faulty one
pub head-is : (bytes : List ℕ) → HeadIs bytes (request_head_read bytes)
head-is bytes = start-in-are bytes (line bytes) (line-is bytes)
