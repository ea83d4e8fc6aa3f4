-- Data of a reader that a writer takes in chunks.
use Rattle.std.proofs.Common.{◌≡◌, ℕ, ◌+◌, ◌-◌, ◌*◌, ◌<◌, ◌≤◌, ◌^◌, List, [], ◌++◌, length, take, drop, Option, Some, None, Result, Ok, Err, IfSome, codes, refl, sym, ap, ◌∙◌, subst, append_assoc, arith, inl, inr, length-drop}
use Rattle.std.specs.Prelude.{⊤}
use Rattle.std.specs.IoError.{error_kind}
use Rattle.std.specs.declared.io.Error.{Error}
use Rattle.std.proofs.lemmas.List.{append-nil, drop-drop, take_all}
use Rattle.tiny_http_io.specs.Device.{Feed, Sink, Took, Failed, Puts, Fills}
use Rattle.tiny_http_io.specs.declared.device.Stop.{Stop}
use Rattle.tiny_http_io.specs.declared.device.Stop.TheVariants.{End, Fault}
use Rattle.tiny_http_io.proofs.DeviceLemmas.{Took-append, Failed-append, Failed-front, Puts-append}
use Rattle.tiny_http_body.specs.ChunkedPrinting.{printed_chunk, first_chunks, full_chunks, left_over, short_chunk}
use Rattle.tiny_http_body.specs.Text.{Prints, chunked_body, chunked_until}
use Rattle.tiny_http_body.proofs.DeviceCopies.{Prints-from_puts}
use Rattle.tiny_http_body.proofs.ChunkedPrintingLemmas.{full_chunks-is, left_over-is, first_chunks-more, full_chunks-front}

-- the first `count` chunks of a feed were read, and a writer took them
abbrev pub ChunkedTo : Option Feed → Option Feed → Sink → Sink → ℕ → Type 0
ChunkedTo None new from to count = ⊤
ChunkedTo (Some f) None from to count = ⊥
ChunkedTo (Some f) (Some g) from to count = (count * 8192 ≤ length f.bytes) × (g.bytes ≡ drop (count * 8192) f.bytes) × (g.stop ≡ f.stop) × Took from to (first_chunks count f.bytes)

body-front : (s : Stop) (xs : List ℕ) → (more : List ℕ) × ((chunked_until s xs).bytes ≡ full_chunks xs ++ more)
body-front End xs = (short_chunk (left_over xs) ++ codes "0\r\n\r\n", append_assoc (full_chunks xs) (short_chunk (left_over xs)) (codes "0\r\n\r\n"))
body-front (Fault kind) xs = ([], sym (append-nil (full_chunks xs)))

-- a chunk that was read and written
pub ChunkedTo-more : (o p q : Option Feed) (a b c : Sink) (i n : ℕ) (buf : List ℕ) → length buf ≡ 8192 → n ≡ 8192 → ChunkedTo o p a b i → Fills p q (Ok n) buf → Took b c (printed_chunk buf) → ChunkedTo o q a c (i + 1)
ChunkedTo-more None p q a b c i n buf l m h r t = tt
ChunkedTo-more (Some f) None q a b c i n buf l m h r t = absurd h
ChunkedTo-more (Some f) (Some g) None a b c i n buf l m h r t = r
ChunkedTo-more (Some f) (Some g) (Some d) a b c i n buf l m h r t =
    let there : length g.bytes ≡ length f.bytes - i * 8192 = ap length h.1 ∙ length-drop (i * 8192) f.bytes in
    let place : i * 8192 + 8192 ≡ (i + 1) * 8192 = omega arith in
    let piece : buf ≡ take 8192 (drop (i * 8192) f.bytes) = sym (take_all n buf (omega arith)) ∙ r.1 ∙ ap (λ (k : ℕ). take k g.bytes) m ∙ ap (λ (y : List ℕ). take 8192 y) h.1 in
    let P : List ℕ → Type 0 = λ y. Took b c (printed_chunk y) in
    let Q : List ℕ → Type 0 = λ y. Took a c y in (
      omega (arith, r.0),
      r.2 ∙ ap (λ (k : ℕ). drop k g.bytes) m ∙ ap (λ (y : List ℕ). drop 8192 y) h.1 ∙ drop-drop 8192 (i * 8192) f.bytes ∙ ap (λ (k : ℕ). drop k f.bytes) place,
      r.3 ∙ h.2,
      subst Q (sym (first_chunks-more i f.bytes)) (Took-append a b c _ _ h.3 (subst P piece t)),
    )

-- the data failed
pub Prints-fault : (o p q : Option Feed) (a b : Sink) (i : ℕ) (e : Error) (buf : List ℕ) → length buf ≡ 8192 → ChunkedTo o p a b i → Fills p q (Err e) buf → IfSome o (λ f. length f.bytes < 2 ^ 63 → Prints {T = Unit {0}} a b (Err e) (chunked_body f))
Prints-fault None p q a b i e buf l h r = tt
Prints-fault (Some f) None q a b i e buf l h r = absurd h
Prints-fault (Some f) (Some g) None a b i e buf l h r = absurd r
Prints-fault (Some f) (Some g) (Some d) a b i e buf l h r = λ few.
    let there : length g.bytes ≡ length f.bytes - i * 8192 = ap length h.1 ∙ length-drop (i * 8192) f.bytes in
    let all : full_chunks f.bytes ≡ first_chunks i f.bytes = full_chunks-is i f.bytes h.0 (omega (arith, r.0, h.0)) in
    let P : Stop → Type 0 = λ s. Prints {T = Unit {0}} a b (Err e) (chunked_until s f.bytes) in
    let Q : List ℕ → Type 0 = λ y. Took a b y in
    subst P (sym (sym h.2 ∙ r.1)) (inl (refl, subst Q (sym all) h.3))

-- the last bytes came, and were written or not
pub Prints-last : {T : Type 0} (o p q : Option Feed) (a b c : Sink) (i n : ℕ) (r : Result T Error) (buf : List ℕ) → length buf ≡ 8192 → n < 8192 → ChunkedTo o p a b i → Fills p q (Ok n) buf → Puts b c r (short_chunk (take n buf) ++ codes "0\r\n\r\n") → IfSome o (λ f. length f.bytes < 2 ^ 63 → Prints a c r (chunked_body f))
Prints-last None p q a b c i n r buf l m h k t = tt
Prints-last (Some f) None q a b c i n r buf l m h k t = absurd h
Prints-last (Some f) (Some g) None a b c i n r buf l m h k t = absurd k
Prints-last {T} (Some f) (Some g) (Some d) a b c i n r buf l m h k t = λ few.
    let there : length g.bytes ≡ length f.bytes - i * 8192 = ap length h.1 ∙ length-drop (i * 8192) f.bytes in
    let ended = k.4 (omega arith) in
    let none : length g.bytes ≤ n = omega (arith, length-drop n g.bytes, ap length (sym k.2 ∙ ended.0)) in
    let all : full_chunks f.bytes ≡ first_chunks i f.bytes = full_chunks-is i f.bytes h.0 (omega (arith, h.0)) in
    let rest : take n buf ≡ left_over f.bytes = k.1 ∙ take_all n g.bytes none ∙ h.1 ∙ sym (left_over-is i f.bytes h.0 (omega (arith, h.0))) in
    let P : Stop → Type 0 = λ s. Prints a c r (chunked_until s f.bytes) in
    let Q : List ℕ → Type 0 = λ y. Took a b y in
    let R : List ℕ → Type 0 = λ y. Puts b c r (short_chunk y ++ codes "0\r\n\r\n") in
    let S : List ℕ → Type 0 = λ y. Puts a c r y in
    subst P (sym (sym h.2 ∙ ended.1)) (Prints-from_puts a c r _ (subst S (sym (append_assoc (full_chunks f.bytes) (short_chunk (left_over f.bytes)) (codes "0\r\n\r\n"))) (Puts-append a b c r _ _ (subst Q (sym all) h.3) (subst R rest t))))

-- the writer failed within a chunk
pub Prints-cut : (o p q : Option Feed) (a b c : Sink) (i n : ℕ) (e : Error) (buf : List ℕ) → length buf ≡ 8192 → n ≡ 8192 → ChunkedTo o p a b i → Fills p q (Ok n) buf → Failed b c (printed_chunk buf) (error_kind e) → IfSome o (λ f. length f.bytes < 2 ^ 63 → Prints {T = Unit {0}} a c (Err e) (chunked_body f))
Prints-cut None p q a b c i n e buf l m h r t = tt
Prints-cut (Some f) None q a b c i n e buf l m h r t = absurd h
Prints-cut (Some f) (Some g) None a b c i n e buf l m h r t = absurd r
Prints-cut (Some f) (Some g) (Some d) a b c i n e buf l m h r t = λ few.
    let there : length g.bytes ≡ length f.bytes - i * 8192 = ap length h.1 ∙ length-drop (i * 8192) f.bytes in
    let piece : buf ≡ take 8192 (drop (i * 8192) f.bytes) = sym (take_all n buf (omega arith)) ∙ r.1 ∙ ap (λ (k : ℕ). take k g.bytes) m ∙ ap (λ (y : List ℕ). take 8192 y) h.1 in
    let front = full_chunks-front (i + 1) f.bytes (omega (arith, r.0)) in
    let body = body-front f.stop f.bytes in
    let P : List ℕ → Type 0 = λ y. Failed b c (printed_chunk y) (error_kind e) in
    let Q : List ℕ → Type 0 = λ y. Failed a c y (error_kind e) in
    let one : Failed a c (first_chunks (i + 1) f.bytes) (error_kind e) = subst Q (sym (first_chunks-more i f.bytes)) (Failed-append a b c _ _ (error_kind e) h.3 (subst P piece t)) in
    inr (subst Q (sym body.1) (Failed-front a c _ _ (error_kind e) (subst Q (sym front.1) (Failed-front a c _ _ (error_kind e) one))))

-- data of fewer than 2^63 bytes does not go on for so many chunks
pub Prints-endless : {T : Type 0} (o p : Option Feed) (a b : Sink) (i : ℕ) (r : Result T Error) → 2 ^ 64 - 1 ≤ i → ChunkedTo o p a b i → IfSome o (λ f. length f.bytes < 2 ^ 63 → Prints a b r (chunked_body f))
Prints-endless None p a b i r l h = tt
Prints-endless (Some f) None a b i r l h = absurd h
Prints-endless (Some f) (Some g) a b i r l h = λ few. absurd (omega (arith, h.0))
