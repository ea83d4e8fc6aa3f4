-- A chunked body, computed, is that of the definitions, and there is one.
use Rattle.std.proofs.Common.{◌≡◌, refl, sym, ap, ◌∙◌, subst, ℕ, zero, suc, ◌+◌, ◌-◌, ◌<◌, ◌≤◌, Bool, true, false, cond, not, ◌&&◌, ◌⊎◌, inl, inr, List, [], ◌∷◌, ◌++◌, length, take, drop, Option, Some, None, Ok, Err, append_assoc, append-nil, eq-eqb, eqb-true, arith, length-append, ⊎_elim}
use Rattle.std.specs.Prelude.{◌==◌, MatchOption, MatchResult, IsTrue, Result, nat_lt, nat_le, flat_map, if◌then◌else◌}
use Rattle.std.specs.List.{list_all, AllByRecursion}
use Rattle.std.specs.Str.Parse.{digits_value}
use Rattle.std.proofs.lemmas.Grind.{common_steps}
use Rattle.std.proofs.Math.Seq.{take-append-add}
use Rattle.std.proofs.lemmas.List.{take-append-drop, length-take}
use Rattle.std.proofs.lemmas.Bool.{and_parts, ltb-true, ltb-false, leb-true, leb-false, lt-ltb, le-ltb, le-leb, lt-leb}
use Rattle.std.specs.declared.io.ErrorKind.{ErrorKind}
use Rattle.std.specs.declared.io.ErrorKind.TheVariants.{InvalidData}
use Rattle.tiny_http_io.specs.declared.device.Stop.{Stop}
use Rattle.tiny_http_io.specs.declared.device.Stop.TheVariants.{End}
use Rattle.httparse.specs.Grammar.{is_value_byte}
use Rattle.tiny_http_text.specs.Bytes.{HasNo, IsEmptyOrBegins, has_bare_front, semicolon, crlf}
use Rattle.tiny_http_body.specs.declared.chunked.ChunkRules.{ChunkRules}
use Rattle.tiny_http_body.specs.declared.chunked.ChunkRules.TheVariants.{Lenient, Standard}
use Rattle.tiny_http_body.proofs.ChunkRulesLemmas.{clear-lone, line-lone, lone-clear, lone-line, lone-is, lone-one, field-is, field-one, field-not_empty}
use Rattle.tiny_http_text.specs.Lines.{Line}
use Rattle.tiny_http_body.specs.Chunks.{longest_line, most_trailers, is_bws, is_hex, SizeText, SizeTextBy, IsShortLine, IsShortLineBy, Chunk, chunk_text, IsChunkBy, IsLastLineBy, FieldText, TrailerTextBy, IsTrailerLineBy, lines_text, data_of, WholeChunksBy, WholeChunks, HasNoShortLine, ChunkLineFault, ChunkLineFaultBy, NoField, TrailerFaultBy, CloseFault, Remainder, NoSizeLine, BadSize, CutData, NoClose, CutTrailer, LongTrailer, RemainderBreaksBy, CutChunksBy, CutChunks}
use Rattle.tiny_http_io.specs.Device.{fault_of}
use Rattle.tiny_http_head.specs.HeadReading.{line, front_while}
use Rattle.tiny_http_body.specs.ChunkReading.{digits_of, size_said, size_of, Decoded, broken, LineRead, short_in, short_line, size_by, is_trailer_by, has_lone_feed, line_by, trailer_at, trailer_in, trailer_section, after_data, prepend_decoded, chunk_closed, data_at, sized, chunk_in, decoded_by, decoded}
use Rattle.tiny_http_head.proofs.LinesLemmas.{line-is, line-front, line-none}
use Rattle.tiny_http_text.proofs.BytesLemmas.{trims-is, trims-one}
use Rattle.std.proofs.Math.Seq.{take-append_seam}
use Rattle.std.proofs.Math.Seq.{drop-append_seam}

abbrev before_semicolon : ℕ → Bool
before_semicolon b = not (b == semicolon)

front-part : (part extension : List ℕ) → HasNo semicolon part → IsEmptyOrBegins semicolon extension → front_while before_semicolon (part ++ extension) ≡ part
front-part [] [] h b = refl
front-part [] (c ∷ cs) h b = rw b refl
front-part (x ∷ xs) extension h b =
    let k = and_parts (not (x == semicolon)) (list_all (λ y. not (y == semicolon)) xs) h in
    rw k.0 (ap (λ y. x ∷ y) (front-part xs extension k.1 b))

record Part (text part : List ℕ) : Type 0 where
  extension : List ℕ
  joins : text ≡ part ++ extension
  clear : HasNo semicolon part
  extends : IsEmptyOrBegins semicolon extension

part-step : (b : ℕ) (bs : List ℕ) (t : Bool) → (b == semicolon) ≡ t → Part bs (front_while before_semicolon bs) → Part (b ∷ bs) (cond (not t) (b ∷ front_while before_semicolon bs) [])
part-step b bs true e p = record { extension = b ∷ bs; joins = refl; clear = refl; extends = eqb-true b semicolon e }
part-step b bs false e p = record { extension = p.extension; joins = ap (λ x. b ∷ x) p.joins; clear = rw e p.clear; extends = p.extends }

part-is : (text : List ℕ) → Part text (front_while before_semicolon text)
part-is [] = record { extension = []; joins = refl; clear = refl; extends = tt }
part-is (b ∷ bs) = part-step b bs (b == semicolon) refl (part-is bs)

said-one : (digits : List ℕ) → 0 < length digits → length digits ≤ 16 → IsTrue (list_all is_hex digits) → size_said digits ≡ Some (digits_value 16 digits)
said-one digits a b c = rw (lt-ltb 0 (length digits) a, le-leb (length digits) 16 b, c) refl

said-step : (digits : List ℕ) (n : ℕ) (a b c : Bool) → cond (a && (b && c)) (Some (digits_value 16 digits)) None ≡ Some n → (a ≡ true) × (b ≡ true) × (c ≡ true) × (n ≡ digits_value 16 digits)
said-step digits n true true true h = (refl, refl, refl, cc)
said-step digits n false b c h = cc
said-step digits n true false c h = cc
said-step digits n true true false h = cc

-- a text says one size
pub size-one : (text : List ℕ) (n : ℕ) → SizeText text n → size_of text ≡ Some n
size-one text n s =
    rw (s.joins, front-part s.part s.extension s.no_semicolon s.extends, trims-one is_bws s.part s.digits s.trims)
    (said-one s.digits s.some_digit s.few_digits s.hexadecimal ∙ ap Some (sym s.value))

pub size-is : (text : List ℕ) (n : ℕ) → size_of text ≡ Some n → SizeText text n
size-is text n e =
    let d = digits_of text in
    let k = said-step d n (nat_lt 0 (length d)) (nat_le (length d) 16) (list_all is_hex d) e in
    let p = part-is text in
    record {
      part = front_while before_semicolon text;
      extension = p.extension;
      digits = d;
      joins = p.joins;
      no_semicolon = p.clear;
      extends = p.extends;
      trims = trims-is is_bws (front_while before_semicolon text);
      some_digit = ltb-true 0 (length d) k.0;
      few_digits = leb-true (length d) 16 k.1;
      hexadecimal = k.2;
      value = k.3;
    }

-- a size text with a number below 2 is one of the two: sizes are one
pub size-same : (text : List ℕ) (n m : ℕ) → SizeText text n → SizeText text m → n ≡ m
size-same text n m s t = let e = size-one text n s in let f = size-one text m t in some-same n m (sym e ∙ f)
  where
    some-same : (n m : ℕ) → Some n ≡ Some m → n ≡ m
    some-same n m e = cc

take-seam : (most : ℕ) (text rest : List ℕ) → length text ≤ most → take (most + 2) (text ++ crlf ++ rest) ≡ text ++ crlf ++ take (most - length text) rest
take-seam most text rest h =
    let e : most + 2 ≡ length (text ++ crlf) + (most - length text) = simp length-append (omega arith) in
    rw e (take-append-add (text ++ crlf) rest (most - length text))

drop-seam : (text rest : List ℕ) → drop (length text + 2) (text ++ crlf ++ rest) ≡ rest
drop-seam text rest = grind (arith, common_steps)

-- a short line is read
pub short-one : (stop : Stop) (text rest : List ℕ) → IsShortLine text → short_line stop (text ++ crlf ++ rest) ≡ Ok (text, rest)
short-one stop text rest h =
    rw (take-seam longest_line text rest h.0, line-front text (take (longest_line - length text) rest) h.1, drop-seam text rest) refl

-- what a short line reads
abbrev pub IsLineRead : Stop → List ℕ → LineRead → Type 0
IsLineRead stop bytes r = MatchResult r (λ l. (bytes ≡ l.0 ++ crlf ++ l.1) × IsShortLine l.0) (λ kind. ChunkLineFault bytes stop kind)

fault-step : (stop : Stop) (bytes : List ℕ) (t : Bool) → nat_le (longest_line + 2) (length bytes) ≡ t → HasNoShortLine bytes → ChunkLineFault bytes stop (if t then InvalidData else fault_of stop)
fault-step stop bytes true e h = (h, inl (leb-true (longest_line + 2) (length bytes) e, refl))
fault-step stop bytes false e h = (h, inr (leb-false (longest_line + 2) (length bytes) e, refl))

short-is-some : (most : ℕ) (bytes text rest : List ℕ) → Line (take (most + 2) bytes) text rest → (bytes ≡ text ++ crlf ++ drop (length text + 2) bytes) × (length text ≤ most)
short-is-some most bytes text rest l =
    let whole : bytes ≡ text ++ crlf ++ (rest ++ drop (most + 2) bytes) = sym (take-append-drop (most + 2) bytes) ∙ (ap (λ x. x ++ drop (most + 2) bytes) l.joins ∙ append_assoc (text ++ crlf) rest (drop (most + 2) bytes)) in
    let cut : drop (length text + 2) bytes ≡ rest ++ drop (most + 2) bytes = ap (λ x. drop (length text + 2) x) whole ∙ drop-seam text (rest ++ drop (most + 2) bytes) in
    let few : length (take (most + 2) bytes) ≤ most + 2 = simp length-take (omega arith) in
    let long : length (take (most + 2) bytes) ≡ length text + 2 + length rest = ap length l.joins ∙ simp length-append refl in
    (rw cut whole, omega arith)

short-in-is : (stop : Stop) (bytes : List ℕ) (o : Option (List ℕ × List ℕ)) → MatchOption o (HasNoShortLine bytes) (λ l. Line (take (longest_line + 2) bytes) l.0 l.1) → IsLineRead stop bytes (short_in stop bytes o)
short-in-is stop bytes None h = fault-step stop bytes (nat_le (longest_line + 2) (length bytes)) refl h
short-in-is stop bytes (Some l) h = let k = short-is-some longest_line bytes l.0 l.1 h in (k.0, (k.1, h.first))

pub short-is : (stop : Stop) (bytes : List ℕ) → IsLineRead stop bytes (short_line stop bytes)
short-is stop bytes = short-in-is stop bytes (line (take (longest_line + 2) bytes)) (line-is (take (longest_line + 2) bytes))

pub short-fault : (stop : Stop) (bytes : List ℕ) (kind : ErrorKind) → ChunkLineFault bytes stop kind → short_line stop bytes ≡ Err kind
short-fault stop bytes kind h =
    rw (line-none (take (longest_line + 2) bytes) h.0)
    (⊎_elim (λ k. rw (le-leb (longest_line + 2) (length bytes) k.0) (ap Err (sym k.1))) (λ k. rw (lt-leb (longest_line + 2) (length bytes) k.0) (ap Err (sym k.1))) h.1)

-- the same by each of the rules
abbrev pub IsLineReadBy : ChunkRules → Stop → List ℕ → LineRead → Type 0
IsLineReadBy rules stop bytes r = MatchResult r (λ l. (bytes ≡ l.0 ++ crlf ++ l.1) × IsShortLineBy rules l.0) (λ kind. ChunkLineFaultBy rules bytes stop kind)

pub line_by-one : (rules : ChunkRules) (stop : Stop) (text rest : List ℕ) → IsShortLineBy rules text → line_by rules stop (text ++ crlf ++ rest) ≡ Ok (text, rest)
line_by-one Lenient stop text rest h = short-one stop text rest h
line_by-one Standard stop text rest h =
    let e : has_lone_feed (take (longest_line + 2) (text ++ crlf ++ rest)) ≡ false = ap has_lone_feed (take-seam longest_line text rest h.0.0) ∙ line-lone text (take (longest_line - length text) rest) h.1 in
    ap (λ t. cond t (Err InvalidData) (short_line stop (text ++ crlf ++ rest))) e ∙ short-one stop text rest h.0

without-lone : (stop : Stop) (bytes : List ℕ) (r : LineRead) → has_lone_feed (take (longest_line + 2) bytes) ≡ false → IsLineRead stop bytes r → IsLineReadBy Standard stop bytes r
without-lone stop bytes (Ok l) e h =
    let front : take (longest_line + 2) bytes ≡ l.0 ++ crlf ++ take (longest_line - length l.0) l.1 = ap (λ x. take (longest_line + 2) x) h.0 ∙ take-seam longest_line l.0 l.1 h.1.0 in
    (h.0, (h.1, lone-line l.0 (take (longest_line - length l.0) l.1) h.1.1 (sym (ap has_lone_feed front) ∙ e)))
without-lone stop bytes (Err kind) e h = inr (lone-clear (take (longest_line + 2) bytes) h.0 e, h)

lone-step : (stop : Stop) (bytes : List ℕ) (t : Bool) → has_lone_feed (take (longest_line + 2) bytes) ≡ t → IsLineReadBy Standard stop bytes (cond t (Err InvalidData) (short_line stop bytes))
lone-step stop bytes true e = inl (lone-is bytes e, refl)
lone-step stop bytes false e = without-lone stop bytes (short_line stop bytes) e (short-is stop bytes)

pub line_by-is : (rules : ChunkRules) (stop : Stop) (bytes : List ℕ) → IsLineReadBy rules stop bytes (line_by rules stop bytes)
line_by-is Lenient stop bytes = short-is stop bytes
line_by-is Standard stop bytes = lone-step stop bytes (has_lone_feed (take (longest_line + 2) bytes)) refl

pub line_by-fault : (rules : ChunkRules) (stop : Stop) (bytes : List ℕ) (kind : ErrorKind) → ChunkLineFaultBy rules bytes stop kind → line_by rules stop bytes ≡ Err kind
line_by-fault Lenient stop bytes kind h = short-fault stop bytes kind h
line_by-fault Standard stop bytes kind h =
    ⊎_elim
    (λ k. ap (λ t. cond t (Err InvalidData) (short_line stop bytes)) (lone-one bytes k.0) ∙ ap Err (sym k.1))
    (λ k. ap (λ t. cond t (Err InvalidData) (short_line stop bytes)) (clear-lone (take (longest_line + 2) bytes) k.0) ∙ short-fault stop bytes kind k.1)
    h

-- the size of a size line
both-true : (a b : Bool) (o : Option ℕ) (n : ℕ) → cond (a && b) o None ≡ Some n → (a ≡ true) × (b ≡ true) × (o ≡ Some n)
both-true true true o n h = (refl, refl, h)
both-true true false o n h = cc
both-true false b o n h = cc

pub size_by-one : (rules : ChunkRules) (text : List ℕ) (n : ℕ) → SizeTextBy rules text n → size_by rules text ≡ Some n
size_by-one Lenient text n h = size-one text n h
size_by-one Standard text n h = rw (h.1, h.2) (size-one text n h.0)

pub size_by-is : (rules : ChunkRules) (text : List ℕ) (n : ℕ) → size_by rules text ≡ Some n → SizeTextBy rules text n
size_by-is Lenient text n e = size-is text n e
size_by-is Standard text n e =
    let k = both-true (has_bare_front is_bws text) (list_all is_value_byte text) (size_of text) n e in
    (size-is text n k.2, k.0, k.1)

-- a trailer line
positive : (b : ℕ) (bs : List ℕ) → 0 < length (b ∷ bs)
positive b bs = omega arith

no-true : {G : Type 0} → true ≡ false → G
no-true e = cc

trailer-bytes : (rules : ChunkRules) (text : List ℕ) → TrailerTextBy rules text → 0 < length text
trailer-bytes Lenient text h = h
trailer-bytes Standard text h = field-not_empty text h

trailer-passes : (rules : ChunkRules) (text : List ℕ) → TrailerTextBy rules text → is_trailer_by rules text ≡ true
trailer-passes Lenient text h = refl
trailer-passes Standard text h = field-one text h

trailer-text : (rules : ChunkRules) (b : ℕ) (bs : List ℕ) → is_trailer_by rules (b ∷ bs) ≡ true → TrailerTextBy rules (b ∷ bs)
trailer-text Lenient b bs e = positive b bs
trailer-text Standard b bs e = field-is (b ∷ bs) e

-- a line that stands in its place and is none
trailer-fails : (rules : ChunkRules) (stop : Stop) (bytes : List ℕ) (b : ℕ) (bs rest : List ℕ) → bytes ≡ (b ∷ bs) ++ crlf ++ rest → IsShortLineBy rules (b ∷ bs) → is_trailer_by rules (b ∷ bs) ≡ false → TrailerFaultBy rules bytes stop InvalidData
trailer-fails Lenient stop bytes b bs rest j s e = cc
trailer-fails Standard stop bytes b bs rest j s e =
    let no : FieldText (b ∷ bs) → ⊥ = λ f. no-true (sym (field-one (b ∷ bs) f) ∙ e) in
    inr (record { text = b ∷ bs; rest = rest; joins = j; short = s; not_empty = positive b bs; no_field = no }, refl)

line-fails : (rules : ChunkRules) (bytes : List ℕ) (stop : Stop) (kind : ErrorKind) → ChunkLineFaultBy rules bytes stop kind → TrailerFaultBy rules bytes stop kind
line-fails Lenient bytes stop kind h = h
line-fails Standard bytes stop kind h = inl h

-- the trailer part
abbrev whole_part : List ℕ → Decoded
whole_part rest = record { body = []; ends = Ok rest }

empty-short : (rules : ChunkRules) → IsShortLineBy rules []
empty-short Lenient = (omega arith, refl)
empty-short Standard = ((omega arith, refl), refl)

pub trailer-end : (rules : ChunkRules) (m : ℕ) (stop : Stop) (rest : List ℕ) → trailer_section rules m stop (crlf ++ rest) ≡ whole_part rest
trailer-end rules zero stop rest = ap (trailer_in rules (λ x. broken [] InvalidData)) (line_by-one rules stop [] rest (empty-short rules))
trailer-end rules (suc m) stop rest = ap (trailer_in rules (trailer_section rules m stop)) (line_by-one rules stop [] rest (empty-short rules))

at-cons : (rules : ChunkRules) (go : List ℕ → Decoded) (text rest : List ℕ) → 0 < length text → is_trailer_by rules text ≡ true → trailer_at rules go text rest ≡ go rest
at-cons rules go [] rest h e = absurd (omega arith)
at-cons rules go (b ∷ bs) rest h e = ap (λ t. cond t (go rest) (broken [] InvalidData)) e

either-way : (t : Bool) (d : Decoded) → cond t d d ≡ d
either-way true d = refl
either-way false d = refl

-- one line more than may stand there is a fault, whatever it says
pub last-cons : (rules : ChunkRules) (text rest : List ℕ) → 0 < length text → trailer_at rules (λ x. broken [] InvalidData) text rest ≡ broken [] InvalidData
last-cons rules [] rest h = absurd (omega arith)
last-cons rules (b ∷ bs) rest h = either-way (is_trailer_by rules (b ∷ bs)) (broken [] InvalidData)

not-trailer : (rules : ChunkRules) (go : List ℕ → Decoded) (text rest : List ℕ) → 0 < length text → is_trailer_by rules text ≡ false → trailer_at rules go text rest ≡ broken [] InvalidData
not-trailer rules go [] rest h e = absurd (omega arith)
not-trailer rules go (b ∷ bs) rest h e = ap (λ t. cond t (go rest) (broken [] InvalidData)) e

pub trailer-next : (rules : ChunkRules) (m : ℕ) (stop : Stop) (text rest : List ℕ) → IsShortLineBy rules text → 0 < length text → is_trailer_by rules text ≡ true → trailer_section rules (suc m) stop (text ++ crlf ++ rest) ≡ trailer_section rules m stop rest
trailer-next rules m stop text rest s p e = rw (line_by-one rules stop text rest s) (at-cons rules (trailer_section rules m stop) text rest p e)

trailer-more : (rules : ChunkRules) (m : ℕ) (stop : Stop) (text rest : List ℕ) → IsTrailerLineBy rules text → trailer_section rules (suc m) stop (text ++ crlf ++ rest) ≡ trailer_section rules m stop rest
trailer-more rules m stop text rest h = trailer-next rules m stop text rest h.0 (trailer-bytes rules text h.1) (trailer-passes rules text h.1)

regroup : (text : List ℕ) (lines : List (List ℕ)) (rest : List ℕ) → lines_text (text ∷ lines) ++ rest ≡ text ++ crlf ++ (lines_text lines ++ rest)
regroup text lines rest = append_assoc (text ++ crlf) (lines_text lines) rest

trailer-whole : (rules : ChunkRules) (m : ℕ) (stop : Stop) (lines : List (List ℕ)) (rest : List ℕ) → AllByRecursion (IsTrailerLineBy rules) lines → length lines ≤ m → trailer_section rules m stop (lines_text lines ++ (crlf ++ rest)) ≡ whole_part rest
trailer-whole rules m stop [] rest h le = trailer-end rules m stop rest
trailer-whole rules zero stop (x ∷ xs) rest h le = absurd (omega arith)
trailer-whole rules (suc m) stop (x ∷ xs) rest h le = rw (regroup x xs (crlf ++ rest)) (trailer-more rules m stop x (lines_text xs ++ (crlf ++ rest)) h.0 ∙ trailer-whole rules m stop xs rest h.1 (omega arith))

pub trailer-line_fault : (rules : ChunkRules) (m : ℕ) (stop : Stop) (bytes : List ℕ) (kind : ErrorKind) → ChunkLineFaultBy rules bytes stop kind → trailer_section rules m stop bytes ≡ broken [] kind
trailer-line_fault rules zero stop bytes kind h = ap (trailer_in rules (λ x. broken [] InvalidData)) (line_by-fault rules stop bytes kind h)
trailer-line_fault rules (suc m) stop bytes kind h = ap (trailer_in rules (trailer_section rules m stop)) (line_by-fault rules stop bytes kind h)

-- a line that is no trailer line
pub trailer-bad : (rules : ChunkRules) (m : ℕ) (stop : Stop) (text rest : List ℕ) → IsShortLineBy rules text → 0 < length text → is_trailer_by rules text ≡ false → trailer_section rules m stop (text ++ crlf ++ rest) ≡ broken [] InvalidData
trailer-bad rules zero stop text rest s p e = ap (trailer_in rules (λ x. broken [] InvalidData)) (line_by-one rules stop text rest s) ∙ last-cons rules text rest p
trailer-bad rules (suc m) stop text rest s p e = ap (trailer_in rules (trailer_section rules m stop)) (line_by-one rules stop text rest s) ∙ not-trailer rules (trailer_section rules m stop) text rest p e

no-trailer : (text : List ℕ) (t : Bool) → is_trailer_by Standard text ≡ t → (FieldText text → ⊥) → t ≡ false
no-trailer text true e h = absurd (h (field-is text e))
no-trailer text false e h = refl

trailer-no_field : (m : ℕ) (stop : Stop) (bytes : List ℕ) → NoField bytes → trailer_section Standard m stop bytes ≡ broken [] InvalidData
trailer-no_field m stop bytes n =
    ap (λ x. trailer_section Standard m stop x) n.joins ∙ trailer-bad Standard m stop n.text n.rest n.short n.not_empty (no-trailer n.text (is_trailer_by Standard n.text) refl n.no_field)

trailer-faulty : (rules : ChunkRules) (m : ℕ) (stop : Stop) (bytes : List ℕ) (kind : ErrorKind) → TrailerFaultBy rules bytes stop kind → trailer_section rules m stop bytes ≡ broken [] kind
trailer-faulty Lenient m stop bytes kind h = trailer-line_fault Lenient m stop bytes kind h
trailer-faulty Standard m stop bytes kind h =
    ⊎_elim (λ k. trailer-line_fault Standard m stop bytes kind k) (λ k. trailer-no_field m stop bytes k.0 ∙ ap (λ x. broken [] x) (sym k.1)) h

trailer-cut : (rules : ChunkRules) (m : ℕ) (stop : Stop) (lines : List (List ℕ)) (next : List ℕ) (kind : ErrorKind) → AllByRecursion (IsTrailerLineBy rules) lines → length lines ≤ m → TrailerFaultBy rules next stop kind → trailer_section rules m stop (lines_text lines ++ next) ≡ broken [] kind
trailer-cut rules m stop [] next kind h le f = trailer-faulty rules m stop next kind f
trailer-cut rules zero stop (x ∷ xs) next kind h le f = absurd (omega arith)
trailer-cut rules (suc m) stop (x ∷ xs) next kind h le f = rw (regroup x xs next) (trailer-more rules m stop x (lines_text xs ++ next) h.0 ∙ trailer-cut rules m stop xs next kind h.1 (omega arith) f)

trailer-long : (rules : ChunkRules) (m : ℕ) (stop : Stop) (lines : List (List ℕ)) (next : List ℕ) → AllByRecursion (IsTrailerLineBy rules) lines → length lines ≡ m + 1 → trailer_section rules m stop (lines_text lines ++ next) ≡ broken [] InvalidData
trailer-long rules m stop [] next h le = absurd (omega arith)
trailer-long rules zero stop (x ∷ xs) next h le = rw (regroup x xs next, line_by-one rules stop x (lines_text xs ++ next) h.0.0) (last-cons rules x (lines_text xs ++ next) (trailer-bytes rules x h.0.1))
trailer-long rules (suc m) stop (x ∷ xs) next h le = rw (regroup x xs next) (trailer-more rules m stop x (lines_text xs ++ next) h.0 ∙ trailer-long rules m stop xs next h.1 (omega arith))

-- what follows a chunk's data
close-one : (stop : Stop) (rest : List ℕ) → after_data stop (crlf ++ rest) ≡ Ok rest
close-one stop rest = refl

not_both : (a b : Bool) → ((a ≡ true) × (b ≡ true) → ⊥) → (a && b) ≡ false
not_both true true h = absurd (h (refl, refl))
not_both true false h = refl
not_both false b h = refl

ne-test : (a n : ℕ) (t : Bool) → (a == n) ≡ t → (a ≡ n → ⊥) → t ≡ false
ne-test a n true e h = absurd (h (eqb-true a n e))
ne-test a n false e h = refl

pair-crlf : (a b : ℕ) → (a ≡ 13) × (b ≡ 10) → a ∷ b ∷ [] ≡ crlf
pair-crlf a b h = rw (h.0, h.1) refl

pub close-fault : (stop : Stop) (close : List ℕ) (kind : ErrorKind) → CloseFault close stop kind → after_data stop close ≡ Err kind
close-fault stop [] kind h = ap Err (sym h)
close-fault stop (a ∷ []) kind h =
    ⊎_elim (λ k. rw (k.0) (ap Err (sym k.1))) (λ k. rw (ne-test a 13 (a == 13) refl k.0) (ap Err (sym k.1))) h
close-fault stop (a ∷ b ∷ bs) kind h =
    rw (not_both (a == 13) (b == 10) (λ k. h.0 (pair-crlf a b (eqb-true a 13 k.0, eqb-true b 10 k.1)))) (ap Err (sym h.1))

pub head_of : (a b : ℕ) → a ∷ b ∷ [] ≡ crlf → a ≡ 13
head_of a b e = cc

pub next_of : (a b : ℕ) → a ∷ b ∷ [] ≡ crlf → b ≡ 10
next_of a b e = cc

not_same : (a : ℕ) → a ≡ 13 → (a == 13) ≡ false → ⊥
not_same a e f = let g : (a == 13) ≡ true = eq-eqb a 13 e in let h : true ≡ false = sym g ∙ f in cc

not_same2 : (a : ℕ) → a ≡ 10 → (a == 10) ≡ false → ⊥
not_same2 a e f = let g : (a == 10) ≡ true = eq-eqb a 10 e in let h : true ≡ false = sym g ∙ f in cc

one-step : (stop : Stop) (a : ℕ) (t : Bool) → (a == 13) ≡ t → ((a ≡ 13) × ((if t then fault_of stop else InvalidData) ≡ fault_of stop)) ⊎ ((a ≡ 13 → ⊥) × ((if t then fault_of stop else InvalidData) ≡ InvalidData))
one-step stop a true e = inl (eqb-true a 13 e, refl)
one-step stop a false e = inr ((λ k. not_same a k e), refl)

close-step : (stop : Stop) (a b : ℕ) (bs : List ℕ) (s t : Bool) → (a == 13) ≡ s → (b == 10) ≡ t
    → MatchResult (if (s && t) then Ok bs else Err InvalidData) (λ rest. a ∷ b ∷ bs ≡ crlf ++ rest) (λ kind. CloseFault (a ∷ b ∷ bs) stop kind)
close-step stop a b bs true true e f = let p = eqb-true a 13 e in let q = eqb-true b 10 f in rw (p, q) refl
close-step stop a b bs false t e f = ((λ k. not_same a (head_of a b k) e), refl)
close-step stop a b bs true false e f = ((λ k. not_same2 b (next_of a b k) f), refl)

pub close-is : (stop : Stop) (bytes : List ℕ) → MatchResult (after_data stop bytes) (λ rest. bytes ≡ crlf ++ rest) (λ kind. CloseFault bytes stop kind)
close-is stop [] = refl
close-is stop (a ∷ []) = one-step stop a (a == 13) refl
close-is stop (a ∷ b ∷ bs) = close-step stop a b bs (a == 13) (b == 10) refl refl

abbrev pub Go : Type 0
Go = List ℕ → Decoded

sized-at : (rules : ChunkRules) (go : Go) (stop : Stop) (rest : List ℕ) (n : ℕ) → 0 < n → sized rules go stop rest (Some n) ≡ data_at go stop n rest (nat_lt (length rest) n)
sized-at rules go stop rest zero h = absurd (omega arith)
sized-at rules go stop rest (suc m) h = refl

not-shorter : (xs ys : List ℕ) → nat_lt (length (xs ++ ys)) (length xs) ≡ false
not-shorter xs ys = le-ltb (length (xs ++ ys)) (length xs) (simp length-append (omega arith))

-- a size line of a size above 0
pub sized-line : (rules : ChunkRules) (fuel : ℕ) (stop : Stop) (text rest : List ℕ) (n : ℕ) → IsShortLineBy rules text → SizeTextBy rules text n → 0 < n
    → decoded_by rules (suc fuel) stop (text ++ crlf ++ rest) ≡ data_at (decoded_by rules fuel stop) stop n rest (nat_lt (length rest) n)
sized-line rules fuel stop text rest n s z p = rw (line_by-one rules stop text rest s, size_by-one rules text n z) (sized-at rules (decoded_by rules fuel stop) stop rest n p)

-- and of size 0
last-line : (rules : ChunkRules) (fuel : ℕ) (stop : Stop) (text rest : List ℕ) → IsLastLineBy rules text → decoded_by rules (suc fuel) stop (text ++ crlf ++ rest) ≡ trailer_section rules most_trailers stop rest
last-line rules fuel stop text rest h = rw (line_by-one rules stop text rest h.0, size_by-one rules text 0 h.1) refl

data-closed : (go : Go) (stop : Stop) (bytes close : List ℕ) → data_at go stop (length bytes) (bytes ++ close) (nat_lt (length (bytes ++ close)) (length bytes)) ≡ chunk_closed go bytes (after_data stop close)
data-closed go stop bytes close = rw (not-shorter bytes close, take-append_seam bytes close, drop-append_seam bytes close) refl

chunk-group : (c : Chunk) (rest : List ℕ) → chunk_text c ++ rest ≡ c.size_line ++ crlf ++ (c.bytes ++ (crlf ++ rest))
chunk-group c rest = append_assoc (c.size_line ++ crlf ++ c.bytes) crlf rest ∙ append_assoc (c.size_line ++ crlf) c.bytes (crlf ++ rest)

chunk-one : (rules : ChunkRules) (fuel : ℕ) (stop : Stop) (c : Chunk) (rest : List ℕ) → (IsChunkBy rules) c → decoded_by rules (suc fuel) stop (chunk_text c ++ rest) ≡ prepend_decoded c.bytes (decoded_by rules fuel stop rest)
chunk-one rules fuel stop c rest h =
    rw (chunk-group c rest)
    (sized-line rules fuel stop c.size_line (c.bytes ++ (crlf ++ rest)) (length c.bytes) h.short h.sized h.not_last
    ∙ (data-closed (decoded_by rules fuel stop) stop c.bytes (crlf ++ rest) ∙ ap (chunk_closed (decoded_by rules fuel stop) c.bytes) (close-one stop rest)))

abbrev joined_chunks : List Chunk → List ℕ
joined_chunks chunks = flat_map chunk_text chunks

abbrev pub made : List ℕ → Result (List ℕ) ErrorKind → Decoded
made body ends = record { body = body; ends = ends }

chunks-front : (rules : ChunkRules) (fuel : ℕ) (stop : Stop) (chunks : List Chunk) (rest part : List ℕ) (ends : Result (List ℕ) ErrorKind) → AllByRecursion (IsChunkBy rules) chunks → length chunks < fuel
    → ((n : ℕ) → decoded_by rules (suc n) stop rest ≡ made part ends) → decoded_by rules fuel stop (joined_chunks chunks ++ rest) ≡ made (data_of chunks ++ part) ends
chunks-front rules zero stop chunks rest part ends h lt go = absurd (omega arith)
chunks-front rules (suc fuel) stop [] rest part ends h lt go = go fuel
chunks-front rules (suc fuel) stop (c ∷ cs) rest part ends h lt go =
    rw (append_assoc (chunk_text c) (joined_chunks cs) rest)
    (chunk-one rules fuel stop c (joined_chunks cs ++ rest) h.0
    ∙ (ap (prepend_decoded c.bytes) (chunks-front rules fuel stop cs rest part ends h.1 (omega arith) go)
    ∙ ap (λ x. made x ends) (sym (append_assoc c.bytes (data_of cs) part))))

chunk-long : (c : Chunk) → 0 < length (chunk_text c)
chunk-long c = simp length-append (omega arith)

chunks-fewer : (chunks : List Chunk) (rest : List ℕ) → length chunks < length (joined_chunks chunks ++ rest) + 1
chunks-fewer [] rest = omega arith
chunks-fewer (c ∷ cs) rest =
    let k = chunks-fewer cs rest in
    let l = chunk-long c in
    let e : length (joined_chunks (c ∷ cs) ++ rest) ≡ length (chunk_text c) + length (joined_chunks cs ++ rest) = ap length (append_assoc (chunk_text c) (joined_chunks cs) rest) ∙ length-append (chunk_text c) (joined_chunks cs ++ rest) in
    omega arith

-- chunks, a last chunk and a trailer part are read as they stand
pub decoded_by-one : (rules : ChunkRules) (bytes body rest : List ℕ) (stop : Stop) → WholeChunksBy rules bytes body rest → decoded_by rules (length bytes + 1) stop bytes ≡ made body (Ok rest)
decoded_by-one rules bytes body rest stop c =
    let tail = lines_text (c.last ∷ c.trailers) ++ (crlf ++ rest) in
    let few : length c.chunks < length bytes + 1 = rw c.joins (chunks-fewer c.chunks tail) in
    let last : (n : ℕ) → decoded_by rules (suc n) stop tail ≡ made [] (Ok rest) =
    λ n. rw (regroup c.last c.trailers (crlf ++ rest)) (last-line rules n stop c.last (lines_text c.trailers ++ (crlf ++ rest)) c.is_last_chunk ∙ trailer-whole rules most_trailers stop c.trailers rest c.are_trailers c.few_trailers) in
    let go = chunks-front rules (length bytes + 1) stop c.chunks tail [] (Ok rest) c.are_chunks few last in
    let P : List ℕ → Type 0 = λ x. decoded_by rules (length bytes + 1) stop x ≡ made body (Ok rest) in
    subst P (sym c.joins) (go ∙ ap (λ x. made x (Ok rest)) (append-nil (data_of c.chunks) ∙ sym c.body_is))

no-size : (rules : ChunkRules) (text : List ℕ) (o : Option ℕ) → size_by rules text ≡ o → ((n : ℕ) → SizeTextBy rules text n → ⊥) → o ≡ None
no-size rules text None e h = refl
no-size rules text (Some n) e h = absurd (h n (size_by-is rules text n e))

breaks-one : (rules : ChunkRules) (way : Remainder) (rest : List ℕ) (stop : Stop) (part : List ℕ) (kind : ErrorKind) → RemainderBreaksBy rules way rest stop part kind → (n : ℕ) → decoded_by rules (suc n) stop rest ≡ made part (Err kind)
breaks-one rules NoSizeLine rest stop part kind h n = rw (line_by-fault rules stop rest kind h.1, h.0) refl
breaks-one rules (BadSize text more) rest stop part kind h n = rw (h.0, line_by-one rules stop text more h.1, no-size rules text (size_by rules text) refl h.2, h.3, h.4) refl
breaks-one rules (CutData text size) rest stop part kind h n =
    rw (h.0) (sized-line rules n stop text part size h.1 h.2 (omega arith) ∙ rw (lt-ltb (length part) size h.3, h.4) refl)
breaks-one rules (NoClose text close) rest stop part kind h n =
    rw (h.0, append_assoc (text ++ crlf) part close)
    (sized-line rules n stop text (part ++ close) (length part) h.1 h.2 h.3
    ∙ (data-closed (decoded_by rules n stop) stop part close ∙ ap (chunk_closed (decoded_by rules n stop) part) (close-fault stop close kind h.4)))
breaks-one rules (CutTrailer last trailers next) rest stop part kind h n =
    rw (h.0, regroup last trailers next, h.5)
    (last-line rules n stop last (lines_text trailers ++ next) h.1 ∙ trailer-cut rules most_trailers stop trailers next kind h.2 h.3 h.4)
breaks-one rules (LongTrailer last trailers next) rest stop part kind h n =
    rw (h.0, regroup last trailers next, h.4, h.5)
    (last-line rules n stop last (lines_text trailers ++ next) h.1 ∙ trailer-long rules most_trailers stop trailers next h.2 h.3)

-- and so is a front of such a body
pub decoded_by-front : (rules : ChunkRules) (bytes body : List ℕ) (stop : Stop) (kind : ErrorKind) → CutChunksBy rules bytes stop body kind → decoded_by rules (length bytes + 1) stop bytes ≡ made body (Err kind)
decoded_by-front rules bytes body stop kind c =
    let few : length c.chunks < length bytes + 1 = rw c.joins (chunks-fewer c.chunks c.rest) in
    let go = chunks-front rules (length bytes + 1) stop c.chunks c.rest c.part (Err kind) c.are_chunks few (breaks-one rules c.way c.rest stop c.part kind c.breaks) in
    let P : List ℕ → Type 0 = λ x. decoded_by rules (length bytes + 1) stop x ≡ made body (Err kind) in
    subst P (sym c.joins) (go ∙ ap (λ x. made x (Err kind)) (sym c.body_is))

more_lines : (n m : ℕ) → n ≤ m → suc n ≤ suc m
more_lines n m h = omega arith

more_equal : (n m : ℕ) → n ≡ m + 1 → suc n ≡ suc m + 1
more_equal n m h = omega arith

none-size : {G : Type 0} (n : ℕ) → Some n ≡ None → G
none-size n e = cc

less_rest : (bytes front rest : List ℕ) (fuel : ℕ) → bytes ≡ front ++ rest → 0 < length front → length bytes < suc fuel → length rest < fuel
less_rest bytes front rest fuel j p lt =
    let e : length bytes ≡ length front + length rest = ap length j ∙ length-append front rest in omega arith

-- what is read of a trailer part
abbrev TrailerWhole : ChunkRules → ℕ → List ℕ → List ℕ → Type 0
TrailerWhole rules m bytes rest = (lines : List (List ℕ)) × (bytes ≡ lines_text lines ++ (crlf ++ rest)) × AllByRecursion (IsTrailerLineBy rules) lines × (length lines ≤ m)

abbrev TrailerBroken : ChunkRules → ℕ → List ℕ → Stop → ErrorKind → Type 0
TrailerBroken rules m bytes stop kind =
    ((lines : List (List ℕ)) × (next : List ℕ) × (bytes ≡ lines_text lines ++ next) × AllByRecursion (IsTrailerLineBy rules) lines × (length lines ≤ m) × TrailerFaultBy rules next stop kind)
    ⊎ ((lines : List (List ℕ)) × (next : List ℕ) × (bytes ≡ lines_text lines ++ next) × AllByRecursion (IsTrailerLineBy rules) lines × (length lines ≡ m + 1) × (kind ≡ InvalidData))

abbrev TrailerIs : ChunkRules → ℕ → Stop → List ℕ → Decoded → Type 0
TrailerIs rules m stop bytes d = (d.body ≡ []) × MatchResult d.ends (TrailerWhole rules m bytes) (TrailerBroken rules m bytes stop)

all-cons : (text : List ℕ) (lines : List (List ℕ)) (bytes rest next : List ℕ) → bytes ≡ text ++ crlf ++ rest → rest ≡ lines_text lines ++ next → bytes ≡ lines_text (text ∷ lines) ++ next
all-cons text lines bytes rest next e f = e ∙ (ap (λ x. text ++ crlf ++ x) f ∙ sym (regroup text lines next))

longer : (rules : ChunkRules) (m : ℕ) (stop : Stop) (text bytes rest : List ℕ) → bytes ≡ text ++ crlf ++ rest → IsTrailerLineBy rules text → (e : Result (List ℕ) ErrorKind)
    → MatchResult e (TrailerWhole rules m rest) (TrailerBroken rules m rest stop) → MatchResult e (TrailerWhole rules (suc m) bytes) (TrailerBroken rules (suc m) bytes stop)
longer rules m stop text bytes rest j h (Ok r) k = (text ∷ k.0, all-cons text k.0 bytes rest (crlf ++ r) j k.1, (h, k.2), omega arith)
longer rules m stop text bytes rest j h (Err kind) k =
    ⊎_elim
    (λ b. inl (text ∷ b.0, b.1, all-cons text b.0 bytes rest b.1 j b.2, (h, b.3), more_lines (length b.0) m b.4, b.5))
    (λ b. inr (text ∷ b.0, b.1, all-cons text b.0 bytes rest b.1 j b.2, (h, b.3), more_equal (length b.0) m b.4, b.5))
    k

trailer-fits-is : (rules : ChunkRules) (m : ℕ) (stop : Stop) (bytes : List ℕ) (b : ℕ) (bs rest : List ℕ) (t : Bool) → bytes ≡ (b ∷ bs) ++ crlf ++ rest → IsShortLineBy rules (b ∷ bs) → is_trailer_by rules (b ∷ bs) ≡ t → TrailerIs rules m stop rest (trailer_section rules m stop rest)
    → TrailerIs rules (suc m) stop bytes (cond t (trailer_section rules m stop rest) (broken [] InvalidData))
trailer-fits-is rules m stop bytes b bs rest true j s e k = (k.0, longer rules m stop (b ∷ bs) bytes rest j (s, trailer-text rules b bs e) (trailer_section rules m stop rest).ends k.1)
trailer-fits-is rules m stop bytes b bs rest false j s e k = (refl, inl ([], bytes, refl, tt, omega arith, trailer-fails rules stop bytes b bs rest j s e))

trailer-at-is : (rules : ChunkRules) (m : ℕ) (stop : Stop) (bytes text rest : List ℕ) → bytes ≡ text ++ crlf ++ rest → IsShortLineBy rules text → TrailerIs rules m stop rest (trailer_section rules m stop rest) → TrailerIs rules (suc m) stop bytes (trailer_at rules (trailer_section rules m stop) text rest)
trailer-at-is rules m stop bytes [] rest j s k = (refl, ([], j, tt, omega arith))
trailer-at-is rules m stop bytes (b ∷ bs) rest j s k = trailer-fits-is rules m stop bytes b bs rest (is_trailer_by rules (b ∷ bs)) j s refl k

last-fits-is : (rules : ChunkRules) (stop : Stop) (bytes : List ℕ) (b : ℕ) (bs rest : List ℕ) (t : Bool) → bytes ≡ (b ∷ bs) ++ crlf ++ rest → IsShortLineBy rules (b ∷ bs) → is_trailer_by rules (b ∷ bs) ≡ t
    → TrailerIs rules zero stop bytes (cond t (broken [] InvalidData) (broken [] InvalidData))
last-fits-is rules stop bytes b bs rest true j s e = (refl, inr ((b ∷ bs) ∷ [], rest, all-cons (b ∷ bs) [] bytes rest rest j refl, ((s, trailer-text rules b bs e), tt), omega arith, refl))
last-fits-is rules stop bytes b bs rest false j s e = (refl, inl ([], bytes, refl, tt, omega arith, trailer-fails rules stop bytes b bs rest j s e))

last-at-is : (rules : ChunkRules) (stop : Stop) (bytes text rest : List ℕ) → bytes ≡ text ++ crlf ++ rest → IsShortLineBy rules text → TrailerIs rules zero stop bytes (trailer_at rules (λ x. broken [] InvalidData) text rest)
last-at-is rules stop bytes [] rest j s = (refl, ([], j, tt, omega arith))
last-at-is rules stop bytes (b ∷ bs) rest j s = last-fits-is rules stop bytes b bs rest (is_trailer_by rules (b ∷ bs)) j s refl

last-in-is : (rules : ChunkRules) (stop : Stop) (bytes : List ℕ) (r : LineRead) → IsLineReadBy rules stop bytes r → TrailerIs rules zero stop bytes (trailer_in rules (λ x. broken [] InvalidData) r)
last-in-is rules stop bytes (Ok l) h = last-at-is rules stop bytes l.0 l.1 h.0 h.1
last-in-is rules stop bytes (Err kind) h = (refl, inl ([], bytes, refl, tt, omega arith, line-fails rules bytes stop kind h))

trailer-in-is : (rules : ChunkRules) (m : ℕ) (stop : Stop) (bytes : List ℕ) (r : LineRead) → IsLineReadBy rules stop bytes r → ((rest : List ℕ) → TrailerIs rules m stop rest (trailer_section rules m stop rest)) → TrailerIs rules (suc m) stop bytes (trailer_in rules (trailer_section rules m stop) r)
trailer-in-is rules m stop bytes (Ok l) h go = trailer-at-is rules m stop bytes l.0 l.1 h.0 h.1 (go l.1)
trailer-in-is rules m stop bytes (Err kind) h go = (refl, inl ([], bytes, refl, tt, omega arith, line-fails rules bytes stop kind h))

trailer-is : (rules : ChunkRules) (m : ℕ) (stop : Stop) (bytes : List ℕ) → TrailerIs rules m stop bytes (trailer_section rules m stop bytes)
trailer-is rules zero stop bytes = last-in-is rules stop bytes (line_by rules stop bytes) (line_by-is rules stop bytes)
trailer-is rules (suc m) stop bytes = trailer-in-is rules m stop bytes (line_by rules stop bytes) (line_by-is rules stop bytes) (trailer-is rules m stop)

-- what a reading of a chunked body has to be
abbrev pub IsDecodedBy : ChunkRules → List ℕ → Stop → Decoded → Type 0
IsDecodedBy rules bytes stop d = MatchResult d.ends (λ rest. WholeChunksBy rules bytes d.body rest) (λ kind. CutChunksBy rules bytes stop d.body kind)

no-chunks : (rules : ChunkRules) (bytes : List ℕ) (stop : Stop) (part : List ℕ) (kind : ErrorKind) (way : Remainder) → RemainderBreaksBy rules way bytes stop part kind → CutChunksBy rules bytes stop part kind
no-chunks rules bytes stop part kind way h = record { chunks = []; rest = bytes; part = part; way = way; joins = refl; body_is = refl; are_chunks = tt; breaks = h }

after-last : (rules : ChunkRules) (bytes text rest : List ℕ) (stop : Stop) (body : List ℕ) (e : Result (List ℕ) ErrorKind) → bytes ≡ text ++ crlf ++ rest → IsLastLineBy rules text → body ≡ [] → MatchResult e (TrailerWhole rules most_trailers rest) (TrailerBroken rules most_trailers rest stop) → IsDecodedBy rules bytes stop (made body e)
after-last rules bytes text rest stop body (Ok r) j h b k =
    record { chunks = []; last = text; trailers = k.0; joins = all-cons text k.0 bytes rest (crlf ++ r) j k.1; body_is = b; are_chunks = tt; is_last_chunk = h; are_trailers = k.2; few_trailers = k.3 }
after-last rules bytes text rest stop body (Err kind) j h b k =
    ⊎_elim
    (λ t. no-chunks rules bytes stop body kind (CutTrailer text t.0 t.1) (all-cons text t.0 bytes rest t.1 j t.2, h, t.3, t.4, t.5, b))
    (λ t. no-chunks rules bytes stop body kind (LongTrailer text t.0 t.1) (all-cons text t.0 bytes rest t.1 j t.2, h, t.3, t.4, b, t.5))
    k

-- one chunk more in front
chunk-more : (rules : ChunkRules) (bytes : List ℕ) (c : Chunk) (rest : List ℕ) (stop : Stop) (body : List ℕ) (e : Result (List ℕ) ErrorKind) → bytes ≡ chunk_text c ++ rest → (IsChunkBy rules) c → IsDecodedBy rules rest stop (made body e) → IsDecodedBy rules bytes stop (made (c.bytes ++ body) e)
chunk-more rules bytes c rest stop body (Ok r) j h d =
    let tail = lines_text (d.last ∷ d.trailers) ++ (crlf ++ r) in
    record { chunks = c ∷ d.chunks; last = d.last; trailers = d.trailers; joins = j ∙ (ap (λ x. chunk_text c ++ x) d.joins ∙ sym (append_assoc (chunk_text c) (joined_chunks d.chunks) tail)); body_is = ap (λ x. c.bytes ++ x) d.body_is; are_chunks = (h, d.are_chunks); is_last_chunk = d.is_last_chunk; are_trailers = d.are_trailers; few_trailers = d.few_trailers }
chunk-more rules bytes c rest stop body (Err kind) j h d =
    record {
      chunks = c ∷ d.chunks;
      rest = d.rest;
      part = d.part;
      way = d.way;
      joins = j ∙ (ap (λ x. chunk_text c ++ x) d.joins ∙ sym (append_assoc (chunk_text c) (joined_chunks d.chunks) d.rest));
      body_is = ap (λ x. c.bytes ++ x) d.body_is ∙ sym (append_assoc c.bytes (data_of d.chunks) d.part);
      are_chunks = (h, d.are_chunks);
      breaks = d.breaks;
    }

abbrev all_shorter : ChunkRules → ℕ → Stop → Type 0
all_shorter rules fuel stop = (rest : List ℕ) → length rest < fuel → IsDecodedBy rules rest stop (decoded_by rules fuel stop rest)

closed-is : (rules : ChunkRules) (fuel : ℕ) (stop : Stop) (bytes text front close : List ℕ) → bytes ≡ text ++ crlf ++ (front ++ close) → IsShortLineBy rules text → SizeTextBy rules text (length front) → 0 < length front → length bytes < suc fuel → all_shorter rules fuel stop
    → (r : Result (List ℕ) ErrorKind) → MatchResult r (λ rest. close ≡ crlf ++ rest) (λ kind. CloseFault close stop kind) → IsDecodedBy rules bytes stop (chunk_closed (decoded_by rules fuel stop) front r)
closed-is rules fuel stop bytes text front close j s z p lt go (Err kind) h =
    no-chunks rules bytes stop front kind (NoClose text close) (j ∙ sym (append_assoc (text ++ crlf) front close), s, z, p, h)
closed-is rules fuel stop bytes text front close j s z p lt go (Ok rest) h =
    let c : Chunk = record { size_line = text; bytes = front } in
    let joins : bytes ≡ chunk_text c ++ rest = j ∙ (ap (λ x. text ++ crlf ++ (front ++ x)) h ∙ sym (chunk-group c rest)) in
    let shorter : length rest < fuel = less_rest bytes (chunk_text c) rest fuel joins (chunk-long c) lt in
    let d = decoded_by rules fuel stop rest in
    chunk-more rules bytes c rest stop d.body d.ends joins (record { short = s; sized = z; not_last = p }) (go rest shorter)

data-is : (rules : ChunkRules) (fuel : ℕ) (stop : Stop) (bytes text rest : List ℕ) (n : ℕ) → bytes ≡ text ++ crlf ++ rest → IsShortLineBy rules text → SizeTextBy rules text n → 0 < n → length bytes < suc fuel → all_shorter rules fuel stop
    → (t : Bool) → nat_lt (length rest) n ≡ t → IsDecodedBy rules bytes stop (data_at (decoded_by rules fuel stop) stop n rest t)
data-is rules fuel stop bytes text rest n j s z p lt go true e = no-chunks rules bytes stop rest (fault_of stop) (CutData text n) (j, s, z, ltb-true (length rest) n e, refl)
data-is rules fuel stop bytes text rest n j s z p lt go false e =
    let enough : n ≤ length rest = ltb-false (length rest) n e in
    let len : length (take n rest) ≡ n = simp length-take (omega arith) in
    let whole : bytes ≡ text ++ crlf ++ (take n rest ++ drop n rest) = j ∙ ap (λ x. text ++ crlf ++ x) (sym (take-append-drop n rest)) in
    closed-is rules fuel stop bytes text (take n rest) (drop n rest) whole s (rw len z) (rw len p) lt go (after_data stop (drop n rest)) (close-is stop (drop n rest))

sized-is : (rules : ChunkRules) (fuel : ℕ) (stop : Stop) (bytes text rest : List ℕ) → bytes ≡ text ++ crlf ++ rest → IsShortLineBy rules text → length bytes < suc fuel → all_shorter rules fuel stop
    → (o : Option ℕ) → size_by rules text ≡ o → IsDecodedBy rules bytes stop (sized rules (decoded_by rules fuel stop) stop rest o)
sized-is rules fuel stop bytes text rest j s lt go None e =
    no-chunks rules bytes stop [] InvalidData (BadSize text rest) (j, s, (λ n z. none-size n (sym (size_by-one rules text n z) ∙ e)), refl, refl)
sized-is rules fuel stop bytes text rest j s lt go (Some zero) e =
    let t = trailer-is rules most_trailers stop rest in
    let d = trailer_section rules most_trailers stop rest in
    after-last rules bytes text rest stop d.body d.ends j (s, size_by-is rules text 0 e) t.0 t.1
sized-is rules fuel stop bytes text rest j s lt go (Some (suc m)) e =
    data-is rules fuel stop bytes text rest (suc m) j s (size_by-is rules text (suc m) e) (omega arith) lt go (nat_lt (length rest) (suc m)) refl

chunk-in-is : (rules : ChunkRules) (fuel : ℕ) (stop : Stop) (bytes : List ℕ) → length bytes < suc fuel → all_shorter rules fuel stop → (r : LineRead) → IsLineReadBy rules stop bytes r → IsDecodedBy rules bytes stop (chunk_in rules (decoded_by rules fuel stop) stop r)
chunk-in-is rules fuel stop bytes lt go (Err kind) h = no-chunks rules bytes stop [] kind NoSizeLine (refl, h)
chunk-in-is rules fuel stop bytes lt go (Ok l) h = sized-is rules fuel stop bytes l.0 l.1 h.0 h.1 lt go (size_by rules l.0) refl

-- each bytes are such a body or such a front
pub decoded_by-is : (rules : ChunkRules) (fuel : ℕ) (bytes : List ℕ) (stop : Stop) → length bytes < fuel → IsDecodedBy rules bytes stop (decoded_by rules fuel stop bytes)
decoded_by-is rules zero bytes stop lt = absurd (omega arith)
decoded_by-is rules (suc fuel) bytes stop lt = chunk-in-is rules fuel stop bytes lt (λ rest less. decoded_by-is rules fuel rest stop less) (line_by rules stop bytes) (line_by-is rules stop bytes)

some-body : (rules : ChunkRules) (bytes : List ℕ) (stop : Stop) (body : List ℕ) (e : Result (List ℕ) ErrorKind) → IsDecodedBy rules bytes stop (made body e)
    → ((body : List ℕ) × (rest : List ℕ) × WholeChunksBy rules bytes body rest) ⊎ ((body : List ℕ) × (kind : ErrorKind) × CutChunksBy rules bytes stop body kind)
some-body rules bytes stop body (Ok rest) h = inl (body, rest, h)
some-body rules bytes stop body (Err kind) h = inr (body, kind, h)

pub chunked-some : (rules : ChunkRules) (bytes : List ℕ) (stop : Stop) → ((body : List ℕ) × (rest : List ℕ) × WholeChunksBy rules bytes body rest) ⊎ ((body : List ℕ) × (kind : ErrorKind) × CutChunksBy rules bytes stop body kind)
chunked-some rules bytes stop =
    let d = decoded_by rules (length bytes + 1) stop bytes in
    some-body rules bytes stop d.body d.ends (decoded_by-is rules (length bytes + 1) bytes stop (omega arith))

made-same : (a b : List ℕ) (x y : Result (List ℕ) ErrorKind) (d : Decoded) → d ≡ made a x → d ≡ made b y → (a ≡ b) × (x ≡ y)
made-same a b x y d e f =
    let body : Decoded → List ℕ = λ v. v.body in
    let ends : Decoded → Result (List ℕ) ErrorKind = λ v. v.ends in
    (sym (ap body e) ∙ ap body f, sym (ap ends e) ∙ ap ends f)

ok-same : (x y : List ℕ) → ◌≡◌ {A = Result (List ℕ) ErrorKind} (Ok x) (Ok y) → x ≡ y
ok-same x y e = cc

err-same : (x y : ErrorKind) → ◌≡◌ {A = Result (List ℕ) ErrorKind} (Err x) (Err y) → x ≡ y
err-same x y e = cc

ok-err : (x : List ℕ) (y : ErrorKind) → ◌≡◌ {A = Result (List ℕ) ErrorKind} (Ok x) (Err y) → ⊥
ok-err x y e = cc

pub chunked-one : (rules : ChunkRules) (bytes body rest other remainder : List ℕ) → WholeChunksBy rules bytes body rest → WholeChunksBy rules bytes other remainder → (body ≡ other) × (rest ≡ remainder)
chunked-one rules bytes body rest other remainder h k =
    let s = made-same body other (Ok rest) (Ok remainder) (decoded_by rules (length bytes + 1) End bytes) (decoded_by-one rules bytes body rest End h) (decoded_by-one rules bytes other remainder End k) in
    (s.0, ok-same rest remainder s.1)

pub front-one : (rules : ChunkRules) (bytes body other : List ℕ) (stop : Stop) (kind sort : ErrorKind) → CutChunksBy rules bytes stop body kind → CutChunksBy rules bytes stop other sort → (body ≡ other) × (kind ≡ sort)
front-one rules bytes body other stop kind sort h k =
    let s = made-same body other (Err kind) (Err sort) (decoded_by rules (length bytes + 1) stop bytes) (decoded_by-front rules bytes body stop kind h) (decoded_by-front rules bytes other stop sort k) in
    (s.0, err-same kind sort s.1)

pub chunked-not_both : (rules : ChunkRules) (bytes body rest other : List ℕ) (stop : Stop) (kind : ErrorKind) → WholeChunksBy rules bytes body rest → CutChunksBy rules bytes stop other kind → ⊥
chunked-not_both rules bytes body rest other stop kind h k =
    let s = made-same body other (Ok rest) (Err kind) (decoded_by rules (length bytes + 1) stop bytes) (decoded_by-one rules bytes body rest stop h) (decoded_by-front rules bytes other stop kind k) in
    ok-err rest kind s.1

-- the lenient rules' cases
abbrev pub IsDecoded : List ℕ → Stop → Decoded → Type 0
IsDecoded bytes stop d = IsDecodedBy Lenient bytes stop d

pub decoded-one : (bytes body rest : List ℕ) (stop : Stop) → WholeChunks bytes body rest → decoded (length bytes + 1) stop bytes ≡ made body (Ok rest)
decoded-one bytes body rest stop c = decoded_by-one Lenient bytes body rest stop c

pub decoded-front : (bytes body : List ℕ) (stop : Stop) (kind : ErrorKind) → CutChunks bytes stop body kind → decoded (length bytes + 1) stop bytes ≡ made body (Err kind)
decoded-front bytes body stop kind c = decoded_by-front Lenient bytes body stop kind c

pub decoded-is : (fuel : ℕ) (bytes : List ℕ) (stop : Stop) → length bytes < fuel → IsDecoded bytes stop (decoded fuel stop bytes)
decoded-is fuel bytes stop lt = decoded_by-is Lenient fuel bytes stop lt
