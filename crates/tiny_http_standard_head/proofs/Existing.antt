-- All bytes have a reading, and each head a judgement.
use Rattle.std.proofs.Common.{◌≡◌, refl, sym, ap, ◌∙◌, subst, ℕ, zero, suc, ◌+◌, ◌≤◌, ◌⊎◌, Bool, true, false, not, List, [], ◌∷◌, ◌++◌, length, inl, inr, Result, Ok, Err, Option, eqb-true, append_assoc, arith}
use Rattle.std.specs.Prelude.{◌==◌, codes}
use Rattle.std.specs.List.{list_all}
use Rattle.std.proofs.lemmas.Bool.{and_parts, cases_lt}
use Rattle.std.proofs.lemmas.List.Folds.{list_all-append}
use Rattle.tiny_http_text.specs.Bytes.{HasNo, has_bare_end}
use Rattle.tiny_http_head.specs.declared.common.Method.{Method}
use Rattle.tiny_http_head.specs.declared.common.HTTPVersion.{HTTPVersion}
use Rattle.tiny_http_head.specs.declared.common.Header.{Header}
use Rattle.tiny_http_head.specs.Heads.{Message, method_of}
use Rattle.tiny_http_head.proofs.FirstByte.{contrary}
use Rattle.tiny_http_standard_head.specs.declared.heads.TheConstants.{MOST_HEADERS}
use Rattle.tiny_http_standard_head.specs.declared.validation.HeadSummary.{HeadSummary}
use Rattle.tiny_http_standard_head.specs.declared.validation.HeadError.{HeadError}
use Rattle.tiny_http_standard_head.specs.declared.validation.HeadError.TheVariants.{UnsupportedVersion, InvalidHead, UnknownExpectation}
use Rattle.tiny_http_standard_head.specs.Lines.{percent_encoded, ReadsFieldLine}
use Rattle.tiny_http_standard_head.specs.Lists.{values_of, has_element_that}
use Rattle.tiny_http_standard_head.specs.Validation.{is_1_0, HasValidHost, Validates, owes_continue, asks_upgrade, is_last, is_unknown_expectation}
use Rattle.tiny_http_head.specs.Heads.{line_feed}
use Rattle.tiny_http_standard_head.specs.Heads.{is_carriage_return, Line, BeginsWithBareLine, behind_empty_line, BeginsWithRequestLine, BeginsWithFieldLines, BeginsWithHead, ComesToField, HasBadLine, HasOpenRequestLine, HasOpenField, HasTooManyFields, Reading, ReadWhole, ReadBad, ReadTooMany, ReadOpen, AreReadAs}
use Rattle.tiny_http_standard_head.proofs.HeadsLemmas.{line-shorter}
use Rattle.tiny_http_standard_head.proofs.ValidateLemmas.{body_read, validate-served, validate-fails}
use Rattle.tiny_http_standard_head.proofs.ReadingLemmas.{Ending, Finished, Bad, Open, EndsAs, AreFields}
use Rattle.tiny_http_standard_head.proofs.Deciding.{Decided, dec-true, dec-empty, dec-host_value, cut-first, dec-request_line, dec-field_line}

ends-with-return : (text : List ℕ) → has_bare_end is_carriage_return text ≡ false → (b : List ℕ) × (text ≡ b ++ 13 ∷ [])
ends-with-return [] e = contrary true refl e
ends-with-return (x ∷ []) e = ([], ap (λ (y : ℕ). y ∷ []) (is x e))
  where
    is-true : (b : Bool) → not b ≡ false → b ≡ true
    is-true true h = refl
    is-true false h = contrary true refl h

    is : (x : ℕ) → not (is_carriage_return x) ≡ false → x ≡ 13
    is x h = eqb-true x 13 (is-true (x == 13) h)
ends-with-return (x ∷ y ∷ ys) e = let w = ends-with-return (y ∷ ys) e in (x ∷ w.0, ap (λ (r : List ℕ). x ∷ r) w.1)

-- the first line, or why there is none
find-line : (bytes : List ℕ) → ((t : List ℕ) × (r : List ℕ) × Line bytes t r) ⊎ (BeginsWithBareLine bytes ⊎ HasNo line_feed bytes)
find-line bytes = elim (cut-first line_feed bytes) [
  | inl none ↦ inr (inr none)
  | inr a ↦ by a.0 a.1 a.2 a.3 (has_bare_end is_carriage_return a.0) refl
]
  where
    made : (text rest b : List ℕ) → bytes ≡ text ++ line_feed ∷ rest → HasNo line_feed text → text ≡ b ++ 13 ∷ [] → Line bytes b rest
    made text rest b joins first ends = record {
      joins = joins ∙ ap (λ (x : List ℕ). x ++ line_feed ∷ rest) ends ∙ append_assoc b (13 ∷ []) (line_feed ∷ rest);
      first = (and_parts (list_all (λ x. not (x == line_feed)) b) (list_all (λ x. not (x == line_feed)) (13 ∷ [])) (sym (list_all-append (λ x. not (x == line_feed)) b (13 ∷ [])) ∙ subst (HasNo line_feed) ends first)).0;
    }

    by : (text rest : List ℕ) → bytes ≡ text ++ line_feed ∷ rest → HasNo line_feed text → (t : Bool) → has_bare_end is_carriage_return text ≡ t → ((t : List ℕ) × (r : List ℕ) × Line bytes t r) ⊎ (BeginsWithBareLine bytes ⊎ HasNo line_feed bytes)
    by text rest joins first true e = inr (inl (record { text = text; rest = rest; joins = joins; first = first; bare = e }))
    by text rest joins first false e = let w = ends-with-return text e in inl (w.0, rest, made text rest w.0 joins first w.1)

abbrev HasFields : List ℕ → Type 0
HasFields bytes = (hs : List Header) × (e : Ending) × AreFields bytes hs e

joined : (bytes text rest : List ℕ) → Line bytes text rest → (h : Header) → ReadsFieldLine text h → HasFields rest → HasFields bytes
joined bytes text rest l h reads more = (h ∷ more.0, more.1, (more.2.0, (text, rest, l, reads, more.2.1), more.2.2))

-- the first field line, or how the field lines end
pub data Step (bytes : List ℕ) : Type 0 where
  Ends : (e : Ending) → EndsAs bytes e → Step bytes
  Goes : (text rest : List ℕ) → Line bytes text rest → (h : Header) → ReadsFieldLine text h → Step bytes

step : (bytes : List ℕ) → Step bytes
step bytes = elim (find-line bytes) [
  | inr no_line ↦ elim no_line [
    | inl bare ↦ Ends Bad (inl bare)
    | inr open_ ↦ Ends Open open_
  ]
  | inl l ↦ elim (dec-empty l.0) [
    | inl empty ↦ Ends (Finished l.1) (subst (λ (x : List ℕ). Line bytes x l.1) empty l.2)
    | inr some ↦ elim (dec-field_line l.0) [
      | inr none ↦ Ends Bad (inr (l.0, l.1, l.2, (some, none)))
      | inl f ↦ Goes l.0 l.1 l.2 (record { field = f.0; value = percent_encoded f.1 }) (f.1, f.2, refl)
    ]
  ]
]

find-fields : (n : ℕ) (bytes : List ℕ) → length bytes ≤ n → HasFields bytes
find-fields zero bytes le = elim (step bytes) [
  | Ends e x ↦ ([], e, (bytes, refl, x))
  | Goes text rest l h reads ↦ let short = line-shorter bytes text rest l in absurd (omega (arith, short, le))
]
find-fields (suc n) bytes le = elim (step bytes) [
  | Ends e x ↦ ([], e, (bytes, refl, x))
  | Goes text rest l h reads ↦ let short = line-shorter bytes text rest l in joined bytes text rest l h reads (find-fields n rest (omega (arith, short, le)))
]

-- the first of the field lines
first-fields : (n : ℕ) (bytes : List ℕ) (hs : List Header) (rest : List ℕ) → BeginsWithFieldLines bytes hs rest → n ≤ length hs → (ks : List Header) × (r : List ℕ) × BeginsWithFieldLines bytes ks r × (length ks ≡ n)
first-fields zero bytes hs rest b le = ([], bytes, refl, refl)
first-fields (suc n) bytes [] rest b le = absurd (omega (arith, le))
first-fields (suc n) bytes (h ∷ hs) rest b le =
    let more = first-fields n b.1 hs rest b.4 (omega (arith, le)) in
    (h ∷ more.0, more.1, (b.0, b.1, b.2, b.3, more.2), ap suc more.3)

-- EACH LIST OF BYTES begins with a head, or has a bad line, or a field line too many, or a line that hasn't ended
abbrev IsSomeHead : List ℕ → Type 0
IsSomeHead bytes = ((m : Message) × (after : List ℕ) × BeginsWithHead bytes m after) ⊎ (HasBadLine bytes ⊎ (HasTooManyFields bytes ⊎ (HasOpenRequestLine bytes ⊎ HasOpenField bytes)))

comes : (bytes : List ℕ) (method : Method) (target : List ℕ) (v : HTTPVersion) (fields : List ℕ) (hs : List Header) (rest : List ℕ) → BeginsWithRequestLine bytes method target v fields → BeginsWithFieldLines fields hs rest → length hs ≤ MOST_HEADERS → ComesToField bytes rest
comes bytes method target v fields hs rest r b few = record { method = method; target = target; version = v; fields = fields; headers = hs; request = r; lines = b; few = few }

with-fields : (bytes : List ℕ) (method : Method) (target : List ℕ) (v : HTTPVersion) (fields : List ℕ) → BeginsWithRequestLine bytes method target v fields → HasFields fields → IsSomeHead bytes
with-fields bytes method target v fields r f = elim (cases_lt MOST_HEADERS (length f.0)) [
  | inl lt ↦ (let t = first-fields (MOST_HEADERS + 1) fields f.0 f.2.0 f.2.1 (omega (arith, lt)) in inr (inr (inl (record { method = method; target = target; version = v; fields = fields; headers = t.0; rest = t.1; request = r; lines = t.2; many = t.3 }))))
  | inr few ↦ by few f.1 f.2
]
  where
    by : length f.0 ≤ MOST_HEADERS → (e : Ending) → AreFields fields f.0 e → IsSomeHead bytes
    by few (Finished after) a = inl (record { method = method; path = target; version = v; headers = f.0 }, after, record { fields = fields; empty = a.0; request = r; headers = a.1; few = few; end = a.2 })
    by few Bad a = inr (inl (inr (a.0, comes bytes method target v fields f.0 a.0 r a.1 few, a.2)))
    by few Open a = inr (inr (inr (inr (a.0, comes bytes method target v fields f.0 a.0 r a.1 few, a.2))))

pub some-head : (bytes : List ℕ) → IsSomeHead bytes
some-head bytes = elim (find-line (behind_empty_line bytes)) [
  | inr no_line ↦ elim no_line [
    | inl bare ↦ inr (inl (inl (inl bare)))
    | inr open_ ↦ inr (inr (inr (inl open_)))
  ]
  | inl l ↦ elim (dec-request_line l.0) [
    | inr none ↦ inr (inl (inl (inr (l.0, l.1, l.2, none))))
    | inl r ↦ with-fields bytes (method_of r.0) r.1 r.2 l.1 (record { text = l.0; line = l.2; reads = (r.0, r.3, refl) }) (find-fields (length l.1) l.1 (omega arith))
  ]
]

dec-hosted : (v : HTTPVersion) (values : List (List ℕ)) → Decided (HasValidHost v values)
dec-hosted v [] = dec-true (is_1_0 v)
dec-hosted v (value ∷ []) = dec-host_value value
dec-hosted v (value ∷ another ∷ more) = inr (λ h. h)

dec-one : (n : ℕ) → Decided (n ≡ 1)
dec-one n = by (n == 1) refl
  where
    by : (t : Bool) → (n == 1) ≡ t → Decided (n ≡ 1)
    by true e = inl (eqb-true n 1 e)
    by false e = inr (λ same. grind (arith, e, same))

-- EACH HEAD HAS A JUDGEMENT
pub some-error : (v : HTTPVersion) (method : Method) (headers : List Header) → (r : Result HeadSummary HeadError) × Validates v method headers r
some-error v method headers = elim (dec-one v.0) [
  | inr other ↦ (Err UnsupportedVersion, other)
  | inl one ↦ elim (dec-hosted v (values_of (codes "Host") headers)) [
    | inr bad ↦ (Err InvalidHead, (one, λ valid. bad valid.0))
    | inl host ↦ by one host (body_read v headers) refl
  ]
]
  where
    served : (one : v.0 ≡ 1) → HasValidHost v (values_of (codes "Host") headers) → (k : Option ℕ × Bool) → body_read v headers ≡ Ok k → (t : Bool) → has_element_that (codes "Expect") is_unknown_expectation headers ≡ t → (r : Result HeadSummary HeadError) × Validates v method headers r
    served one host k is true e = (Err UnknownExpectation, (k.0, k.1, validate-served v headers k.0 k.1 one host is, e))
    served one host k is false e = (
      Ok (record { body_length = k.0; is_chunked = k.1; owes_continue = owes_continue v headers k.0 k.1; asks_upgrade = asks_upgrade v headers; is_last = is_last v method headers }),
      (validate-served v headers k.0 k.1 one host is, e, refl, refl, refl),
    )

    by : (one : v.0 ≡ 1) → HasValidHost v (values_of (codes "Host") headers) → (r : Result (Option ℕ × Bool) HeadError) → body_read v headers ≡ r → (r : Result HeadSummary HeadError) × Validates v method headers r
    by one host (Err fault) is = (Err fault, validate-fails v method headers fault one host is)
    by one host (Ok k) is = served one host k is (has_element_that (codes "Expect") is_unknown_expectation headers) refl

-- ALL BYTES ARE READ AS SOMETHING
pub some-reading : (bytes : List ℕ) → (r : Reading) × AreReadAs bytes r
some-reading bytes = elim (some-head bytes) [
  | inl h ↦ (let m : Message = h.0 in let j = some-error m.version m.method m.headers in (ReadWhole m h.1 j.0, (h.2, j.1)))
  | inr none ↦ elim none [
    | inl bad ↦ (ReadBad, bad)
    | inr more ↦ elim more [
      | inl many ↦ (ReadTooMany, many)
      | inr open_ ↦ elim open_ [
        | inl request ↦ (ReadOpen false, request)
        | inr field ↦ (ReadOpen true, field)
      ]
    ]
  ]
]
