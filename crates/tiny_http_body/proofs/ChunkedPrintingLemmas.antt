-- Full chunks and what is left over of bytes, and of bytes with more after them.
use Rattle.std.proofs.Common.{◌≡◌, ℕ, zero, suc, ◌+◌, ◌-◌, ◌*◌, ◌/◌, ◌<◌, ◌≤◌, ◌==◌, false, List, [], ◌∷◌, ◌++◌, length, take, drop, refl, sym, ap, ◌∙◌, append_assoc, arith, length-drop, length-append, zero-add}
use Rattle.std.proofs.Math.Nat.{zero-mul}
use Rattle.std.proofs.lemmas.List.{append-nil, drop-drop, take_all}
use Rattle.tiny_http_body.specs.ChunkedPrinting.{printed_chunk, first_chunks, full_chunks, left_over, short_chunk}

-- so many chunks, and so many more
pub first_chunks-add : (k m : ℕ) (xs : List ℕ) → first_chunks (k + m) xs ≡ first_chunks k xs ++ first_chunks m (drop (k * 8192) xs)
first_chunks-add zero m xs = ap (λ (n : ℕ). first_chunks n xs) (zero-add m) ∙ ap (λ (n : ℕ). first_chunks m (drop n xs)) (sym (zero-mul 8192))
first_chunks-add (suc k) m xs =
    let count : suc k + m ≡ suc (k + m) = omega arith in
    let place : 8192 + k * 8192 ≡ suc k * 8192 = omega arith in
    ap (λ (n : ℕ). first_chunks n xs) count
    ∙ ap (λ (y : List ℕ). printed_chunk (take 8192 xs) ++ y) (first_chunks-add k m (drop 8192 xs))
    ∙ ap (λ (y : List ℕ). printed_chunk (take 8192 xs) ++ (first_chunks k (drop 8192 xs) ++ first_chunks m y)) (drop-drop (k * 8192) 8192 xs ∙ ap (λ (n : ℕ). drop n xs) place)
    ∙ sym (append_assoc (printed_chunk (take 8192 xs)) (first_chunks k (drop 8192 xs)) (first_chunks m (drop (suc k * 8192) xs)))

pub drop-past : (n : ℕ) (xs : List ℕ) → length xs ≤ n → drop n xs ≡ []
drop-past zero [] h = refl
drop-past zero (x ∷ xs) h = absurd (omega arith)
drop-past (suc n) [] h = refl
drop-past (suc n) (x ∷ xs) h = drop-past n xs (omega arith)

pub short_chunk-tested : (xs : List ℕ) → (length xs == 0) ≡ false → short_chunk xs ≡ printed_chunk xs
short_chunk-tested xs test = rw test refl

-- how many full chunks there are, and what is left over
pub full_chunks-is : (i : ℕ) (xs : List ℕ) → i * 8192 ≤ length xs → length xs < i * 8192 + 8192 → full_chunks xs ≡ first_chunks i xs
unfolding full_chunks
full_chunks-is i xs l h = let count : length xs / 8192 ≡ i = omega arith in ap (λ (n : ℕ). first_chunks n xs) count

pub left_over-is : (i : ℕ) (xs : List ℕ) → i * 8192 ≤ length xs → length xs < i * 8192 + 8192 → left_over xs ≡ drop (i * 8192) xs
unfolding left_over
left_over-is i xs l h = let count : length xs / 8192 ≡ i = omega arith in ap (λ (n : ℕ). drop (n * 8192) xs) count

-- one chunk more
pub first_chunks-more : (i : ℕ) (xs : List ℕ) → first_chunks (i + 1) xs ≡ first_chunks i xs ++ printed_chunk (take 8192 (drop (i * 8192) xs))
first_chunks-more i xs = first_chunks-add i 1 xs ∙ ap (λ (y : List ℕ). first_chunks i xs ++ y) (append-nil (printed_chunk (take 8192 (drop (i * 8192) xs))))

-- the chunks so far are a front of all
pub full_chunks-front : (i : ℕ) (xs : List ℕ) → i * 8192 ≤ length xs → (more : List ℕ) × (full_chunks xs ≡ first_chunks i xs ++ more)
unfolding full_chunks
full_chunks-front i xs l =
    let count : length xs / 8192 ≡ i + (length xs / 8192 - i) = omega arith in
    (first_chunks (length xs / 8192 - i) (drop (i * 8192) xs), ap (λ (n : ℕ). first_chunks n xs) count ∙ first_chunks-add i (length xs / 8192 - i) xs)

-- less than a chunk, and just a chunk
pub full_chunks-short : (xs : List ℕ) → length xs < 8192 → full_chunks xs ≡ []
full_chunks-short xs h = full_chunks-is 0 xs (omega arith) (omega arith)

pub left_over-short : (xs : List ℕ) → length xs < 8192 → left_over xs ≡ xs
left_over-short xs h = left_over-is 0 xs (omega arith) (omega arith)

pub full_chunks-one : (xs : List ℕ) → length xs ≡ 8192 → full_chunks xs ≡ printed_chunk xs
full_chunks-one xs h = full_chunks-is 1 xs (omega arith) (omega arith) ∙ append-nil (printed_chunk (take 8192 xs)) ∙ ap printed_chunk (take_all 8192 xs (omega arith))

pub left_over-one : (xs : List ℕ) → length xs ≡ 8192 → left_over xs ≡ []
left_over-one xs h = left_over-is 1 xs (omega arith) (omega arith) ∙ drop-past 8192 xs (omega arith)

-- the front and the rest of two lists
chunks-drop_front : (n : ℕ) (xs ys : List ℕ) → n ≤ length xs → drop n (xs ++ ys) ≡ drop n xs ++ ys
chunks-drop_front zero xs ys h = refl
chunks-drop_front (suc n) [] ys h = absurd (omega arith)
chunks-drop_front (suc n) (x ∷ xs) ys h = chunks-drop_front n xs ys (omega arith)

chunks-take_front : (n : ℕ) (xs ys : List ℕ) → n ≤ length xs → take n (xs ++ ys) ≡ take n xs
chunks-take_front zero xs ys h = refl
chunks-take_front (suc n) [] ys h = absurd (omega arith)
chunks-take_front (suc n) (x ∷ xs) ys h = ap (λ (t : List ℕ). x ∷ t) (chunks-take_front n xs ys (omega arith))

first_chunks-before : (k : ℕ) (xs ys : List ℕ) → k * 8192 ≤ length xs → first_chunks k (xs ++ ys) ≡ first_chunks k xs
first_chunks-before zero xs ys h = refl
first_chunks-before (suc k) xs ys h =
    let one : 8192 ≤ length xs = omega arith in
    ap (λ (y : List ℕ). printed_chunk y ++ first_chunks k (drop 8192 (xs ++ ys))) (chunks-take_front 8192 xs ys one)
    ∙ ap (λ (y : List ℕ). printed_chunk (take 8192 xs) ++ first_chunks k y) (chunks-drop_front 8192 xs ys one)
    ∙ ap (λ (y : List ℕ). printed_chunk (take 8192 xs) ++ y) (first_chunks-before k (drop 8192 xs) ys (omega (arith, length-drop 8192 xs)))

-- how many chunks some bytes make, and how many those that are left over make with more after them
chunk_counts : (xs ys : List ℕ) → length (xs ++ ys) / 8192 ≡ length xs / 8192 + length (drop (length xs / 8192 * 8192) xs ++ ys) / 8192
chunk_counts xs ys =
    let all : length (xs ++ ys) ≡ length xs + length ys = length-append xs ys in
    let rest : length (drop (length xs / 8192 * 8192) xs ++ ys) ≡ (length xs - length xs / 8192 * 8192) + length ys = length-append (drop (length xs / 8192 * 8192) xs) ys ∙ ap (λ (n : ℕ). n + length ys) (length-drop (length xs / 8192 * 8192) xs) in
    omega arith

-- more bytes go behind what is left over
pub full_chunks-append : (xs ys : List ℕ) → full_chunks (xs ++ ys) ≡ full_chunks xs ++ full_chunks (left_over xs ++ ys)
unfolding full_chunks left_over
full_chunks-append xs ys =
    let k : ℕ = length xs / 8192 in
    let within : k * 8192 ≤ length xs = omega arith in
    let m : ℕ = length (drop (k * 8192) xs ++ ys) / 8192 in
    ap (λ (n : ℕ). first_chunks n (xs ++ ys)) (chunk_counts xs ys) ∙ first_chunks-add k m (xs ++ ys)
    ∙ ap (λ (y : List ℕ). y ++ first_chunks m (drop (k * 8192) (xs ++ ys))) (first_chunks-before k xs ys within)
    ∙ ap (λ (y : List ℕ). first_chunks k xs ++ first_chunks m y) (chunks-drop_front (k * 8192) xs ys within)

pub left_over-append : (xs ys : List ℕ) → left_over (xs ++ ys) ≡ left_over (left_over xs ++ ys)
unfolding left_over
left_over-append xs ys =
    let k : ℕ = length xs / 8192 in
    let within : k * 8192 ≤ length xs = omega arith in
    let m : ℕ = length (drop (k * 8192) xs ++ ys) / 8192 in
    let place : (k + m) * 8192 ≡ k * 8192 + m * 8192 = omega arith in
    ap (λ (n : ℕ). drop (n * 8192) (xs ++ ys)) (chunk_counts xs ys) ∙ ap (λ (n : ℕ). drop n (xs ++ ys)) place
    ∙ sym (drop-drop (m * 8192) (k * 8192) (xs ++ ys)) ∙ ap (λ (y : List ℕ). drop (m * 8192) y) (chunks-drop_front (k * 8192) xs ys within)
