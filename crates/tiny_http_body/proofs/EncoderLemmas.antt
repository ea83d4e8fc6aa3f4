-- One call of an encoder after others.
use Rattle.std.proofs.Common.{◌≡◌, ℕ, ◌<◌, List, [], ◌++◌, length, take, drop, codes, sym, ap, ◌∙◌, subst, append_assoc, arith, length-append}
use Rattle.std.specs.declared.io.ErrorKind.{ErrorKind}
use Rattle.std.proofs.lemmas.List.{append-nil, take_at, take-append-drop}
use Rattle.tiny_http_io.specs.Device.{Sink, Took, Failed}
use Rattle.tiny_http_io.proofs.DeviceLemmas.{Took-nil, Took-append, Failed-append, Failed-front}
use Rattle.tiny_http_body.specs.ChunkedPrinting.{printed_chunk, first_chunks, full_chunks, left_over, short_chunk, chunked}
use Rattle.tiny_http_body.specs.Encoder.{Encoded}
use Rattle.tiny_http_body.proofs.ChunkedPrintingLemmas.{full_chunks-short, left_over-short, full_chunks-one, left_over-one, full_chunks-front, full_chunks-append, left_over-append}

-- bytes after those that are held: still no chunk, or just one, or a failure in it
pub Encodes-short : (a : Sink) (was piece now : List ℕ) → now ≡ was ++ piece → length now < 8192 → Took a a (full_chunks (was ++ piece)) × (now ≡ left_over (was ++ piece))
Encodes-short a was piece now e l =
    let P : List ℕ → Type 0 = λ y. Took a a y in
    let Q : List ℕ → Type 0 = λ y. length y < 8192 in
    let few : length (was ++ piece) < 8192 = subst Q e l in
    (subst P (sym (full_chunks-short (was ++ piece) few)) (Took-nil a), e ∙ sym (left_over-short (was ++ piece) few))

pub Encodes-full : (a b : Sink) (was piece now : List ℕ) → now ≡ was ++ piece → length now ≡ 8192 → Took a b (printed_chunk now) → Took a b (full_chunks (was ++ piece)) × ([] ≡ left_over (was ++ piece))
Encodes-full a b was piece now e l t =
    let P : List ℕ → Type 0 = λ y. Took a b y in
    let whole : length (was ++ piece) ≡ 8192 = sym (ap length e) ∙ l in
    (subst P (ap printed_chunk e ∙ sym (full_chunks-one (was ++ piece) whole)) t, sym (left_over-one (was ++ piece) whole))

pub Encodes-failed : (a b : Sink) (was bytes now : List ℕ) (n : ℕ) (kind : ErrorKind) → now ≡ was ++ take n bytes → length now ≡ 8192 → Failed a b (printed_chunk now) kind → Failed a b (full_chunks (was ++ bytes)) kind
Encodes-failed a b was bytes now n kind e l t =
    let all : was ++ bytes ≡ now ++ drop n bytes = ap (λ (y : List ℕ). was ++ y) (sym (take-append-drop n bytes)) ∙ sym (append_assoc was (take n bytes) (drop n bytes)) ∙ ap (λ (y : List ℕ). y ++ drop n bytes) (sym e) in
    let front = full_chunks-front 1 (was ++ bytes) (omega (arith, ap length all, length-append now (drop n bytes))) in
    let one : first_chunks 1 (was ++ bytes) ≡ printed_chunk now = append-nil (printed_chunk (take 8192 (was ++ bytes))) ∙ ap (λ (y : List ℕ). printed_chunk (take 8192 y)) all ∙ ap printed_chunk (take_at now (drop n bytes) 8192 l) in
    let Q : List ℕ → Type 0 = λ y. Failed a b y kind in
    subst Q (sym (front.1 ∙ ap (λ (y : List ℕ). y ++ front.0) one)) (Failed-front a b (printed_chunk now) front.0 kind t)

-- nothing was given yet
pub Encoded-none : (a : Sink) (held : List ℕ) → held ≡ [] → Encoded a a [] held
Encoded-none a held e =
    let P : List ℕ → Type 0 = λ y. Took a a y in
    record { written = subst P (sym (full_chunks-short [] (omega arith))) (Took-nil a); rest = e ∙ sym (left_over-short [] (omega arith)) }

-- more bytes were given
pub Encoded-more : (start a b : Sink) (given was held more : List ℕ) → Encoded start a given was → Took a b (full_chunks (was ++ more)) → held ≡ left_over (was ++ more) → Encoded start b (given ++ more) held
Encoded-more start a b given was held more h t e =
    let P : List ℕ → Type 0 = λ y. Took start b y in
    let Q : List ℕ → Type 0 = λ y. Took a b (full_chunks (y ++ more)) in
    record {
      written = subst P (sym (full_chunks-append given more)) (Took-append start a b _ _ h.written (subst Q h.rest t));
      rest = e ∙ ap (λ (y : List ℕ). left_over (y ++ more)) h.rest ∙ sym (left_over-append given more);
    }

-- the writer failed within the full chunks of more bytes
pub Encoded-failed : (start a b : Sink) (given was more : List ℕ) (kind : ErrorKind) → Encoded start a given was → Failed a b (full_chunks (was ++ more)) kind → Failed start b (full_chunks (given ++ more)) kind
Encoded-failed start a b given was more kind h t =
    let P : List ℕ → Type 0 = λ y. Failed start b y kind in
    let Q : List ℕ → Type 0 = λ y. Failed a b (full_chunks (y ++ more)) kind in
    subst P (sym (full_chunks-append given more)) (Failed-append start a b _ _ kind h.written (subst Q h.rest t))

-- the writer was flushed, or failed at that
pub Encoded-flushed : (start a b : Sink) (given held : List ℕ) → Encoded start a given held → Took a b [] → Encoded start b given held
Encoded-flushed start a b given held h t =
    let P : List ℕ → Type 0 = λ y. Took start b y in
    record { written = subst P (append-nil (full_chunks given)) (Took-append start a b _ _ h.written t); rest = h.rest }

pub Encoded-flush_failed : (start a b : Sink) (given held : List ℕ) (kind : ErrorKind) → Encoded start a given held → Failed a b [] kind → Failed start b (full_chunks given) kind
Encoded-flush_failed start a b given held kind h t =
    let P : List ℕ → Type 0 = λ y. Failed start b y kind in
    subst P (append-nil (full_chunks given)) (Failed-append start a b _ _ kind h.written t)

-- the body has ended
pub Encoded-ended : (start a b : Sink) (given held : List ℕ) → Encoded start a given held → Took a b (short_chunk held ++ codes "0\r\n\r\n") → Took start b (chunked given)
Encoded-ended start a b given held h t =
    let P : List ℕ → Type 0 = λ y. Took start b y in
    let Q : List ℕ → Type 0 = λ y. Took a b (short_chunk y ++ codes "0\r\n\r\n") in
    subst P (sym (append_assoc (full_chunks given) (short_chunk (left_over given)) (codes "0\r\n\r\n"))) (Took-append start a b _ _ h.written (subst Q h.rest t))

-- the writer failed within the rest of the body
pub Encoded-end_failed : (start a b : Sink) (given held : List ℕ) (kind : ErrorKind) → Encoded start a given held → Failed a b (short_chunk held ++ codes "0\r\n\r\n") kind → Failed start b (chunked given) kind
Encoded-end_failed start a b given held kind h t =
    let P : List ℕ → Type 0 = λ y. Failed start b y kind in
    let Q : List ℕ → Type 0 = λ y. Failed a b (short_chunk y ++ codes "0\r\n\r\n") kind in
    subst P (sym (append_assoc (full_chunks given) (short_chunk (left_over given)) (codes "0\r\n\r\n"))) (Failed-append start a b _ _ kind h.written (subst Q h.rest t))
