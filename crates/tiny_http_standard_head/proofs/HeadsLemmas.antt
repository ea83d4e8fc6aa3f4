-- Lines of a head, found and joined.
use Rattle.std.proofs.Common.{◌≡◌, ◌≢◌, refl, sym, ap, ◌∙◌, subst, ℕ, suc, ◌+◌, ◌-◌, ◌<◌, ◌≤◌, ◌⊎◌, Bool, true, false, not, List, [], ◌∷◌, ◌++◌, length, take, drop, get_or, inl, inr, append_assoc, length-append, arith}
use Rattle.std.specs.Prelude.{◌==◌, ◌&&◌, min, if◌then◌else◌}
use Rattle.std.specs.List.{list_all}
use Rattle.std.proofs.lemmas.Bool.{and_parts, cases_lt}
use Rattle.std.proofs.lemmas.List.{take-append-drop, take_all, drop_all}
use Rattle.std.proofs.lemmas.List.Folds.{list_all-append}
use Rattle.tiny_http_text.specs.Bytes.{HasNo, has_bare_end}
use Rattle.tiny_http_text.proofs.BytesTrimming.{cut-at}
use Rattle.tiny_http_head.specs.declared.common.Method.{Method}
use Rattle.tiny_http_head.specs.declared.common.HTTPVersion.{HTTPVersion}
use Rattle.tiny_http_head.specs.declared.common.Header.{Header}
use Rattle.tiny_http_head.specs.Heads.{Message}
use Rattle.tiny_http_standard_head.specs.declared.heads.StandardFault.TheVariants.{BadLine, RequestLineTooLong, HeaderFieldsTooLarge, TooManyFields, Invalid}
use Rattle.tiny_http_standard_head.specs.declared.heads.TheConstants.{MOST_HEADERS}
use Rattle.tiny_http_standard_head.specs.declared.heads.StandardRead.{StandardRead}
use Rattle.tiny_http_standard_head.specs.declared.heads.StandardRead.TheVariants.{Whole, Refused, Unfinished}
use Rattle.tiny_http_standard_head.specs.declared.heads.NoHead.{NoHead}
use Rattle.tiny_http_standard_head.specs.declared.heads.NoHead.TheVariants as stop
use Rattle.tiny_http_standard_head.specs.HeadParts.{HasGoodFieldLine, StopsFields, EndsFields, StopsHead, ReadsWhole}
use Rattle.tiny_http_standard_head.specs.Lines.{ReadsFieldLine, IsNoFieldLine}
use Rattle.tiny_http_head.specs.Heads.{line_feed}
use Rattle.tiny_http_standard_head.specs.Heads.{is_carriage_return, Line, BeginsWithBareLine, behind_empty_line, BeginsWithRequestLine, BeginsWithFieldLines, BeginsWithHead, ComesToField, HasOpenRequestLine, HasOpenField, is_begun, Reads}

front-without : (n : ℕ) (text : List ℕ) → HasNo line_feed text → HasNo line_feed (take n text)
front-without n text h =
    let whole : HasNo line_feed (take n text ++ drop n text) = subst (HasNo line_feed) (sym (take-append-drop n text)) h in
    (and_parts (list_all (λ b. not (b == line_feed)) (take n text)) (list_all (λ b. not (b == line_feed)) (drop n text)) (sym (list_all-append (λ b. not (b == line_feed)) (take n text) (drop n text)) ∙ whole)).0

-- a line that ends with CR, in front of an LF
pub ended-line : (bytes line rest : List ℕ) → bytes ≡ line ++ line_feed ∷ rest → HasNo line_feed line → 0 < length line → get_or line (length line - 1) 0 ≡ 13 → Line bytes (take (length line - 1) line) rest
ended-line bytes line rest joins first some last =
    let n = length line - 1 in
    let cut : line ≡ take n line ++ 13 ∷ drop (n + 1) line = cut-at 13 line n (omega (arith, some)) last in
    let none : drop (n + 1) line ≡ [] = drop_all (n + 1) line (omega (arith, some)) in
    let whole : line ≡ take n line ++ 13 ∷ [] = cut ∙ ap (λ (r : List ℕ). take n line ++ 13 ∷ r) none in
    record {
      joins = joins ∙ (ap (λ (l : List ℕ). l ++ line_feed ∷ rest) whole ∙ append_assoc (take n line) (13 ∷ []) (line_feed ∷ rest));
      first = front-without n line first;
    }

bare-last : (x : ℕ) (xs : List ℕ) → is_carriage_return (get_or (x ∷ xs) (length xs) 0) ≡ false → has_bare_end is_carriage_return (x ∷ xs) ≡ true
bare-last x [] e = rw e refl
bare-last x (y ∷ ys) e = bare-last y ys e

pub bare-end : (line : List ℕ) → (length line ≡ 0) ⊎ (get_or line (length line - 1) 0 ≢ 13) → has_bare_end is_carriage_return line ≡ true
bare-end [] bare = refl
bare-end (x ∷ xs) (inl none) = absurd (omega (arith, none))
bare-end (x ∷ xs) (inr ne) =
    let at : suc (length xs) - 1 ≡ length xs = omega arith in
    let last : get_or (x ∷ xs) (length xs) 0 ≢ 13 = λ e. ne (ap (λ (i : ℕ). get_or (x ∷ xs) i 0) at ∙ e) in
    bare-last x xs (other (get_or (x ∷ xs) (length xs) 0) last)
  where
    other : (b : ℕ) → b ≢ 13 → is_carriage_return b ≡ false
    other b ne = grind (arith, ne)

pub bare-line : (bytes line rest : List ℕ) → bytes ≡ line ++ line_feed ∷ rest → HasNo line_feed line → (length line ≡ 0) ⊎ (get_or line (length line - 1) 0 ≢ 13) → BeginsWithBareLine bytes
bare-line bytes line rest joins first bare = record { text = line; rest = rest; joins = joins; first = first; bare = bare-end line bare }

-- one field line more
pub more-fields : (bytes : List ℕ) (hs : List Header) (h : Header) (mid text next : List ℕ) → BeginsWithFieldLines bytes hs mid → Line mid text next → ReadsFieldLine text h → BeginsWithFieldLines bytes (hs ++ h ∷ []) next
more-fields bytes [] h mid text next b line reads = (text, next, subst (λ (x : List ℕ). Line x text next) b line, reads, refl)
more-fields bytes (k ∷ ks) h mid text next b line reads = (b.0, b.1, b.2, b.3, more-fields b.1 ks h mid text next b.4 line reads)

pub is-field-line : (text : List ℕ) (h : Header) → ReadsFieldLine text h → IsNoFieldLine text → ⊥
is-field-line text h r none = none h.field r.0 r.1

-- where a good field line stands behind others, one stands in front
pub first-field : (bytes rest : List ℕ) (hs : List Header) → BeginsWithFieldLines bytes hs rest → HasGoodFieldLine rest → HasGoodFieldLine bytes
first-field bytes rest [] b g = subst HasGoodFieldLine b g
first-field bytes rest (h ∷ hs) b g = (b.0, b.1, b.2, is-field-line b.0 h b.3)

-- one line more than may come
pub one-more : (hs : List Header) (h : Header) → length (hs ++ h ∷ []) ≡ length hs + 1
one-more hs h = length-append hs (h ∷ [])

-- what follows a line is shorter
pub line-shorter : (bytes text rest : List ℕ) → Line bytes text rest → length rest < length bytes
line-shorter bytes text rest l =
    let n : length bytes ≡ length text + suc (suc (length rest)) = ap length l.joins ∙ length-append text (13 ∷ line_feed ∷ rest) in
    omega (arith, n)

behind-shorter : (bytes : List ℕ) → length (behind_empty_line bytes) ≤ length bytes
behind-shorter [] = omega arith
behind-shorter (a ∷ []) = omega arith
behind-shorter (a ∷ b ∷ bs) = by (a == 13 && b == line_feed)
  where
    by : (t : Bool) → length (if t then bs else a ∷ b ∷ bs) ≤ suc (suc (length bs))
    by true = omega arith
    by false = omega arith

fields-shorter : (bytes : List ℕ) (hs : List Header) (rest : List ℕ) → BeginsWithFieldLines bytes hs rest → length rest ≤ length bytes
fields-shorter bytes [] rest b = let same : length rest ≡ length bytes = ap length b in omega (arith, same)
fields-shorter bytes (h ∷ hs) rest b =
    let more = fields-shorter b.1 hs rest b.4 in
    let line = line-shorter bytes b.0 b.1 b.2 in
    omega (arith, more, line)

-- a head is no longer than the bytes that it begins
pub head-shorter : (bytes : List ℕ) (method : Method) (target : List ℕ) (v : HTTPVersion) (fields : List ℕ) (hs : List Header) (after : List ℕ) → BeginsWithRequestLine bytes method target v fields → EndsFields fields hs after → length after ≤ length bytes
head-shorter bytes method target v fields hs after r e =
    let start = behind-shorter bytes in
    let line = line-shorter (behind_empty_line bytes) r.text fields r.line in
    let lines = fields-shorter fields hs e.0 e.1 in
    let end = line-shorter e.0 [] after e.3 in
    omega (arith, start, line, lines, end)

pub whole-shorter : (bytes : List ℕ) (m : Message) (after : List ℕ) → BeginsWithHead bytes m after → length after < length bytes
whole-shorter bytes m after h =
    let start = behind-shorter bytes in
    let line = line-shorter (behind_empty_line bytes) h.request.text h.fields h.request.line in
    let lines = fields-shorter h.fields m.headers h.empty h.headers in
    let end = line-shorter h.empty [] after h.end in
    omega (arith, start, line, lines, end)

pub whole-head : (bytes : List ℕ) (method : Method) (target : List ℕ) (v : HTTPVersion) (fields : List ℕ) (hs : List Header) (after : List ℕ) → BeginsWithRequestLine bytes method target v fields → EndsFields fields hs after
    → BeginsWithHead bytes (record { method = method; path = target; version = v; headers = hs }) after
whole-head bytes method target v fields hs after r e = record { fields = fields; empty = e.0; request = r; headers = e.1; few = e.2; end = e.3 }

comes : (bytes : List ℕ) (method : Method) (target : List ℕ) (v : HTTPVersion) (fields : List ℕ) (hs : List Header) (rest : List ℕ) → BeginsWithRequestLine bytes method target v fields → BeginsWithFieldLines fields hs rest → length hs ≤ MOST_HEADERS → ComesToField bytes rest
comes bytes method target v fields hs rest r b few = record { method = method; target = target; version = v; fields = fields; headers = hs; request = r; lines = b; few = few }

-- a head that stops behind its request line
pub fields-stop : (bytes : List ℕ) (method : Method) (target : List ℕ) (v : HTTPVersion) (fields : List ℕ) (why : NoHead) → BeginsWithRequestLine bytes method target v fields → StopsFields fields why → StopsHead bytes why
fields-stop bytes method target v fields stop.Bad r s = inr (s.1, comes bytes method target v fields s.0 s.1 r s.2 s.3, s.4)
fields-stop bytes method target v fields stop.OpenRequest r s = absurd s
fields-stop bytes method target v fields stop.OpenField r s = (s.1, comes bytes method target v fields s.0 s.1 r s.2 s.3, s.4)
fields-stop bytes method target v fields stop.TooMany r s = record { method = method; target = target; version = v; fields = fields; headers = s.0; rest = s.1; request = r; lines = s.2; many = s.3 }
fields-stop bytes method target v fields stop.Memory r s = record { text = r.text; rest = fields; line = r.line; good = λ none. none r.reads.0 target v r.reads.1 }

-- WHERE A HEAD HASN'T ENDED
pub open-request : (limit : ℕ) (bytes : List ℕ) (r : StandardRead) → HasOpenRequestLine (take limit bytes) → (limit ≤ length bytes → r ≡ Refused RequestLineTooLong) → (length bytes < limit → r ≡ Unfinished (is_begun bytes)) → Reads limit bytes r
open-request limit bytes r h full open_ = elim (cases_lt (length bytes) limit) [
  | inl lt ↦ subst (Reads limit bytes) (sym (open_ lt)) (lt, inl (subst HasOpenRequestLine (take_all limit bytes (omega (arith, lt))) h), refl)
  | inr le ↦ subst (Reads limit bytes) (sym (full le)) (le, h)
]

pub open-field : (limit : ℕ) (bytes : List ℕ) (r : StandardRead) → HasOpenField (take limit bytes) → (limit ≤ length bytes → r ≡ Refused HeaderFieldsTooLarge) → (length bytes < limit → r ≡ Unfinished (is_begun bytes)) → Reads limit bytes r
open-field limit bytes r h full open_ = elim (cases_lt (length bytes) limit) [
  | inl lt ↦ subst (Reads limit bytes) (sym (open_ lt)) (lt, inr (subst HasOpenField (take_all limit bytes (omega (arith, lt))) h), refl)
  | inr le ↦ subst (Reads limit bytes) (sym (full le)) (le, h)
]

-- a head that has come whole
pub reads-whole : (limit : ℕ) (bytes : List ℕ) (r : StandardRead) → ReadsWhole (take limit bytes) r → Reads limit bytes r
reads-whole limit bytes (Whole h) w = w
reads-whole limit bytes (Refused (Invalid e)) w = w
reads-whole limit bytes (Refused BadLine) w = absurd w
reads-whole limit bytes (Refused RequestLineTooLong) w = absurd w
reads-whole limit bytes (Refused HeaderFieldsTooLarge) w = absurd w
reads-whole limit bytes (Refused TooManyFields) w = absurd w
reads-whole limit bytes (Unfinished b) w = absurd w

-- the bytes that count
pub seen-is : (limit : ℕ) (bytes : List ℕ) (n : ℕ) → n ≡ min (length bytes) limit → take n bytes ≡ take limit bytes
seen-is limit bytes n e = elim (cases_lt (length bytes) limit) [
  | inl lt ↦ let whole : n ≡ length bytes = omega (arith, e, lt) in ap (λ (k : ℕ). take k bytes) whole ∙ (take_all (length bytes) bytes (omega arith) ∙ sym (take_all limit bytes (omega (arith, lt))))
  | inr le ↦ let cut : n ≡ limit = omega (arith, e, le) in ap (λ (k : ℕ). take k bytes) cut
]
