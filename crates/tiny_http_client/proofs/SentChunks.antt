-- A body that is sent in chunks is read as it was sent.
use Rattle.std.proofs.Common.{◌≡◌, refl, sym, ap, ◌∙◌, ℕ, zero, suc, ◌+◌, ◌*◌, ◌/◌, ◌%◌, ◌<◌, ◌≤◌, ◌^◌, Bool, true, false, not, ◌&&◌, List, [], ◌∷◌, ◌++◌, length, take, drop, append_assoc, append-nil, arith, length-take, length-drop}
use Rattle.std.specs.Prelude.{◌==◌, IsTrue, codes, if◌then◌else◌, flat_map}
use Rattle.std.specs.List.{list_all, AllByRecursion}
use Rattle.std.specs.Char.{digit_value}
use Rattle.std.specs.Str.Parse.{AllDigits}
use Rattle.std.specs.Fmt.{digits, digits_onto, digit_glyph}
use Rattle.std.proofs.Math.Nat.{pow-suc}
use Rattle.std.proofs.lemmas.Bool.{and_parts, not-true, lt-ltb, eqb-true}
use Rattle.std.proofs.lemmas.Fmt.{digits_is_IsNumeral}
use Rattle.std.proofs.lemmas.List.{take-append-drop}
use Rattle.std.proofs.Math.Seq.{take-add}
use Rattle.tiny_http_text.specs.Bytes.{HasNo, has_bare_front, has_bare_end, semicolon}
use Rattle.tiny_http_text.specs.Lines.{has_crlf}
use Rattle.tiny_http_body.specs.Chunks.{is_bws, is_hex, SizeText, Chunk, chunk_text, IsChunk, data_of, WholeChunks}
use Rattle.tiny_http_body.specs.Streamed.{pieces_text, joined, IsPiece}
use Rattle.tiny_http_body.specs.declared.streamed.StreamedForm.TheVariants.{Chunks as StreamedChunks}
use Rattle.tiny_http_body.specs.ChunkedPrinting.{printed_chunk, first_chunks, full_chunks, left_over, short_chunk, chunked}

-- a hexadecimal digit is not white space and no semicolon
abbrev is_clear : ℕ → Bool
is_clear b = not (is_bws b) && (not (b == semicolon) && (not (b == 13) && is_hex b))

other-hex : (b c : ℕ) (t : Bool) → (b == c) ≡ t → digit_value b < 16 → 16 ≤ digit_value c → t ≡ false
other-hex b c true e d h = let same : digit_value b ≡ digit_value c = ap digit_value (eqb-true b c e) in absurd (omega arith)
other-hex b c false e d h = refl

hex-is_not : (b c : ℕ) → digit_value b < 16 → 16 ≤ digit_value c → (b == c) ≡ false
hex-is_not b c d h = other-hex b c (b == c) refl d h

hex-no : (c : ℕ) (ds : List ℕ) → 16 ≤ digit_value c → AllDigits 16 ds → HasNo c ds
hex-no c [] h d = refl
hex-no c (b ∷ bs) h d = rw (hex-is_not b c d.0 h) (hex-no c bs h d.1)

hex-bws : (b : ℕ) → digit_value b < 16 → is_bws b ≡ false
hex-bws b d = rw (hex-is_not b 9 d (omega arith), hex-is_not b 32 d (omega arith)) refl

hex-front : (ds : List ℕ) → AllDigits 16 ds → IsTrue (has_bare_front is_bws ds)
hex-front [] d = refl
hex-front (b ∷ bs) d = rw (hex-bws b d.0) refl

hex-end : (ds : List ℕ) → AllDigits 16 ds → IsTrue (has_bare_end is_bws ds)
hex-end [] d = refl
hex-end (b ∷ []) d = rw (hex-bws b d.0) refl
hex-end (b ∷ c ∷ cs) d = hex-end (c ∷ cs) d.1

hex-all : (ds : List ℕ) → AllDigits 16 ds → IsTrue (list_all is_hex ds)
hex-all [] d = refl
hex-all (b ∷ bs) d = rw (lt-ltb (digit_value b) 16 d.0) (hex-all bs d.1)

no-cr-line : (ds : List ℕ) → HasNo 13 ds → has_crlf ds ≡ false
no-cr-line [] h = refl
no-cr-line (b ∷ []) h = refl
no-cr-line (b ∷ c ∷ cs) h =
    let k = and_parts (not (b == 13)) (list_all (λ x. not (x == 13)) (c ∷ cs)) h in
    rw (not-true (b == 13) k.0) (no-cr-line (c ∷ cs) k.1)

-- so many digits and no more
onto-step : (k j n : ℕ) (acc : List ℕ) (t : Bool) → (n / 16 == 0) ≡ t → length (digits_onto k 16 false (n / 16) (digit_glyph false (n % 16) ∷ acc)) ≤ j + suc (length acc)
    → length (if t then digit_glyph false (n % 16) ∷ acc else digits_onto k 16 false (n / 16) (digit_glyph false (n % 16) ∷ acc)) ≤ suc j + length acc
onto-step k j n acc true e h = omega arith
onto-step k j n acc false e h = omega arith

onto-short : (k j n : ℕ) (acc : List ℕ) → n < 16 ^ j → length (digits_onto k 16 false n acc) ≤ j + suc (length acc)
onto-short zero j n acc h = omega arith
onto-short (suc k) zero n acc h =
    let z : n / 16 ≡ 0 = omega arith in
    rw z (omega arith)
onto-short (suc k) (suc j) n acc h =
    let e : 16 ^ suc j ≡ 16 ^ j * 16 = pow-suc 16 j in
    let g = onto-short k j (n / 16) (digit_glyph false (n % 16) ∷ acc) (omega arith) in
    let s = onto-step k (suc j) n acc (n / 16 == 0) refl (omega arith) in
    omega arith

hex-short : (n : ℕ) → n ≤ 8192 → length (digits 16 false n) ≤ 16
unfolding digits
hex-short n h =
    let g = onto-short 64 4 n [] (omega arith) in
    omega arith

abbrev Hex : ℕ → List ℕ
Hex n = digits 16 false n

size-represents : (n : ℕ) → n ≤ 8192 → n < 16 ^ 64 → SizeText (Hex n) n
size-represents n h lt =
    let d = digits_is_IsNumeral 16 false (omega arith) (omega arith) n lt in
    record {
      part = Hex n;
      extension = [];
      digits = Hex n;
      joins = sym (append-nil (Hex n));
      no_semicolon = hex-no semicolon (Hex n) (omega arith) d.0.1;
      extends = tt;
      trims = record { before = []; after = []; joins = sym (append-nil (Hex n)); blank_before = refl; blank_after = refl; bare_front = hex-front (Hex n) d.0.1; bare_end = hex-end (Hex n) d.0.1 };
      some_digit = d.0.0;
      few_digits = hex-short n h;
      hexadecimal = hex-all (Hex n) d.0.1;
      value = sym d.1;
    }

abbrev chunk_of : List ℕ → Chunk
chunk_of bytes = record { size_line = Hex (length bytes); bytes = bytes }

below : (n : ℕ) → n ≤ 8192 → n < 16 ^ 64
below n h = omega arith

chunk-represents : (bytes : List ℕ) → 0 < length bytes → length bytes ≤ 8192 → IsChunk (chunk_of bytes)
chunk-represents bytes p h =
    let lt = below (length bytes) h in
    let d = digits_is_IsNumeral 16 false (omega arith) (omega arith) (length bytes) lt in
    let few = hex-short (length bytes) h in
    record { short = (omega arith, no-cr-line (Hex (length bytes)) (hex-no 13 (Hex (length bytes)) (omega arith) d.0.1)); sized = size-represents (length bytes) h lt; not_last = p }

abbrev pieces : ℕ → List ℕ → List Chunk
pieces zero bytes = []
pieces (suc count) bytes = chunk_of (take 8192 bytes) ∷ pieces count (drop 8192 bytes)

pieces-text : (count : ℕ) (bytes : List ℕ) → flat_map chunk_text (pieces count bytes) ≡ first_chunks count bytes
pieces-text zero bytes = refl
pieces-text (suc count) bytes = ap (λ y. printed_chunk (take 8192 bytes) ++ y) (pieces-text count (drop 8192 bytes))

pieces-stand : (count : ℕ) (bytes : List ℕ) → count * 8192 ≤ length bytes → AllByRecursion IsChunk (pieces count bytes)
pieces-stand zero bytes h = tt
pieces-stand (suc count) bytes h =
    let len : length (take 8192 bytes) ≡ 8192 = simp length-take (omega arith) in
    (chunk-represents (take 8192 bytes) (omega arith) (omega arith), pieces-stand count (drop 8192 bytes) (simp length-drop (omega arith)))

pieces-data : (count : ℕ) (bytes : List ℕ) → data_of (pieces count bytes) ≡ take (count * 8192) bytes
pieces-data zero bytes = refl
pieces-data (suc count) bytes =
    let e : suc count * 8192 ≡ 8192 + count * 8192 = omega arith in
    ap (λ y. take 8192 bytes ++ y) (pieces-data count (drop 8192 bytes)) ∙ (sym (take-add 8192 (count * 8192) bytes) ∙ ap (λ n. take n bytes) (sym e))

abbrev last_piece : List ℕ → List Chunk
last_piece bytes = if length bytes == 0 then [] else chunk_of bytes ∷ []

last-text : (bytes : List ℕ) → flat_map chunk_text (last_piece bytes) ≡ short_chunk bytes
last-text bytes = elim (length bytes == 0) as (λ t. flat_map chunk_text (if t then [] else chunk_of bytes ∷ []) ≡ (if t then [] else printed_chunk bytes)) [ true ↦ refl | false ↦ append-nil (printed_chunk bytes) ]

none-left : (bytes : List ℕ) → length bytes ≡ 0 → bytes ≡ []
none-left [] h = refl
none-left (b ∷ bs) h = absurd (omega arith)

last-data-step : (bytes : List ℕ) (t : Bool) → (length bytes == 0) ≡ t → data_of (if t then [] else chunk_of bytes ∷ []) ≡ bytes
last-data-step bytes true e = sym (none-left bytes (eqb-true (length bytes) 0 e))
last-data-step bytes false e = append-nil bytes

positive : (n : ℕ) → (n == 0) ≡ false → 0 < n
positive zero e = cc
positive (suc n) e = omega arith

last-stand-step : (bytes : List ℕ) (t : Bool) → (length bytes == 0) ≡ t → length bytes ≤ 8192 → AllByRecursion IsChunk (if t then [] else chunk_of bytes ∷ [])
last-stand-step bytes true e h = tt
last-stand-step bytes false e h = (chunk-represents bytes (positive (length bytes) e) h, tt)

chunks-append : (xs ys : List Chunk) → flat_map chunk_text (xs ++ ys) ≡ flat_map chunk_text xs ++ flat_map chunk_text ys
chunks-append [] ys = refl
chunks-append (x ∷ xs) ys = ap (λ y. chunk_text x ++ y) (chunks-append xs ys) ∙ sym (append_assoc (chunk_text x) (flat_map chunk_text xs) (flat_map chunk_text ys))

data-append : (xs ys : List Chunk) → data_of (xs ++ ys) ≡ data_of xs ++ data_of ys
data-append [] ys = refl
data-append (x ∷ xs) ys = ap (λ y. x.bytes ++ y) (data-append xs ys) ∙ sym (append_assoc x.bytes (data_of xs) (data_of ys))

all-append : (xs ys : List Chunk) → AllByRecursion IsChunk xs → AllByRecursion IsChunk ys → AllByRecursion IsChunk (xs ++ ys)
all-append [] ys h k = k
all-append (x ∷ xs) ys h k = (h.0, all-append xs ys h.1 k)

-- chunks and the end are a chunked body
whole-of : (all : List Chunk) (text bytes rest : List ℕ) → flat_map chunk_text all ≡ text → data_of all ≡ bytes → AllByRecursion IsChunk all → WholeChunks ((text ++ codes "0\r\n\r\n") ++ rest) bytes rest
whole-of all text bytes rest sent given stand = record {
  chunks = all;
  last = 48 ∷ [];
  trailers = [];
  joins = append_assoc text (codes "0\r\n\r\n") rest ∙ ap (λ y. y ++ (codes "0\r\n\r\n" ++ rest)) (sym sent);
  body_is = sym given;
  are_chunks = stand;
  is_last_chunk = ((omega arith, refl), record { part = 48 ∷ []; extension = []; digits = 48 ∷ []; joins = refl; no_semicolon = refl; extends = tt; trims = record { before = []; after = []; joins = refl; blank_before = refl; blank_after = refl; bare_front = refl; bare_end = refl }; some_digit = omega arith; few_digits = omega arith; hexadecimal = refl; value = refl });
  are_trailers = tt;
  few_trailers = omega arith;
}

-- chunks of 8192 bytes, the short one and the end are such a body
pub sent-chunks : (bytes rest : List ℕ) → WholeChunks (chunked bytes ++ rest) bytes rest
unfolding full_chunks left_over
sent-chunks bytes rest =
    let n = length bytes / 8192 in
    let left = drop (n * 8192) bytes in
    let fits : n * 8192 ≤ length bytes = omega arith in
    let few : length left ≤ 8192 = simp length-drop (omega arith) in
    let all = pieces n bytes ++ last_piece left in
    let text : flat_map chunk_text all ≡ first_chunks n bytes ++ short_chunk left = chunks-append (pieces n bytes) (last_piece left) ∙ rw (pieces-text n bytes, last-text left) refl in
    let sent : data_of all ≡ bytes = data-append (pieces n bytes) (last_piece left) ∙ (rw (pieces-data n bytes, last-data-step left (length left == 0) refl) (take-append-drop (n * 8192) bytes)) in
    whole-of all (first_chunks n bytes ++ short_chunk left) bytes rest text sent (all-append (pieces n bytes) (last_piece left) (pieces-stand n bytes fits) (last-stand-step left (length left == 0) refl few))

-- the chunks of pieces of any size up to 8192 bytes
abbrev chunks_of : List (List ℕ) → List Chunk
chunks_of [] = []
chunks_of (p ∷ ps) = last_piece p ++ chunks_of ps

chunks_of-text : (ps : List (List ℕ)) → flat_map chunk_text (chunks_of ps) ≡ pieces_text StreamedChunks ps
chunks_of-text [] = refl
chunks_of-text (p ∷ ps) = chunks-append (last_piece p) (chunks_of ps) ∙ rw (last-text p, chunks_of-text ps) refl

chunks_of-data : (ps : List (List ℕ)) → data_of (chunks_of ps) ≡ joined ps
chunks_of-data [] = refl
chunks_of-data (p ∷ ps) = data-append (last_piece p) (chunks_of ps) ∙ rw (last-data-step p (length p == 0) refl, chunks_of-data ps) refl

chunks_of-stand : (ps : List (List ℕ)) → AllByRecursion IsPiece ps → AllByRecursion IsChunk (chunks_of ps)
chunks_of-stand [] h = tt
chunks_of-stand (p ∷ ps) h = all-append (last_piece p) (chunks_of ps) (last-stand-step p (length p == 0) refl h.0) (chunks_of-stand ps h.1)

-- these and the end are such a body
pub sent-pieces : (ps : List (List ℕ)) (rest : List ℕ) → AllByRecursion IsPiece ps → WholeChunks ((pieces_text StreamedChunks ps ++ codes "0\r\n\r\n") ++ rest) (joined ps) rest
sent-pieces ps rest h = whole-of (chunks_of ps) (pieces_text StreamedChunks ps) (joined ps) rest (chunks_of-text ps) (chunks_of-data ps) (chunks_of-stand ps h)
