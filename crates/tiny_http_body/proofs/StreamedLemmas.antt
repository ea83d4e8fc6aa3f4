-- What is gathered of a body that grows.
use Rattle.std.proofs.Common.{◌≡◌, refl, ℕ, zero, suc, ◌+◌, ◌-◌, ◌<◌, ◌≤◌, ◌==◌, false, List, [], ◌∷◌, ◌++◌, length, take, append_assoc, Result, Ok, Err, sym, ap, ◌∙◌, subst, inl, inr, arith, length-append, length-take, zero-add}
use Rattle.std.specs.List.{flat_map, AllByRecursion}
use Rattle.std.proofs.lemmas.List.{append-nil}
use Rattle.std.specs.IoError.{error_kind}
use Rattle.std.specs.declared.io.Error.{Error}
use Rattle.tiny_http_io.specs.Device.{Sink, Took, Failed}
use Rattle.tiny_http_io.proofs.DeviceLemmas.{Took-nil, Took-append}
use Rattle.tiny_http_body.specs.ChunkedPrinting.{printed_chunk, full_chunks, short_chunk}
use Rattle.tiny_http_body.specs.Encoder.{Encodes}
use Rattle.tiny_http_body.specs.Streamed.{Gathers, piece_text, pieces_text, end_text, joined, IsPiece, SentPieces, EndsStreamed}
use Rattle.tiny_http_body.specs.declared.streamed.StreamedForm.{StreamedForm}
use Rattle.tiny_http_body.specs.declared.streamed.StreamedForm.TheVariants.{Chunks}
use Rattle.tiny_http_body.proofs.ChunkedPrintingLemmas.{short_chunk-tested}
use Rattle.tiny_http_body.proofs.EncoderLemmas.{Encodes-short, Encodes-full, Encodes-failed}

-- one of two texts is no longer than both
pub length-behind : (xs ys : List ℕ) (n : ℕ) → n ≤ length xs + length ys → n ≤ length (xs ++ ys)
length-behind xs ys n h = subst (λ (k : ℕ). n ≤ k) (sym (length-append xs ys)) h

-- the front that goes beyond the first of two texts
pub take-behind : (xs ys : List ℕ) (n m : ℕ) → m ≡ length xs + n → take m (xs ++ ys) ≡ xs ++ take n ys
take-behind [] ys n m e = ap (λ (k : ℕ). take k ys) (e ∙ zero-add n)
take-behind (x ∷ xs) ys n zero e = absurd (omega (arith, e))
take-behind (x ∷ xs) ys n (suc m) e = ap (λ (zs : List ℕ). x ∷ zs) (take-behind xs ys n m (omega (arith, e)))

full-is-some : (n : ℕ) → n ≡ 8192 → (n == 0) ≡ false
full-is-some n e = ap (λ (k : ℕ). k == 0) e

full-piece : (xs : List ℕ) → length xs ≡ 8192 → short_chunk xs ≡ printed_chunk xs
full-piece xs e = short_chunk-tested xs (full-is-some (length xs) e)

-- what is gathered in chunks is encoded
pub Encodes-gathered : (old new : Sink) (was held : List ℕ) (r : Result ℕ Error) (text : List ℕ) → length was < 8192 → Gathers Chunks old new was held r text → Encodes old new was held r text
Encodes-gathered old new was held (Ok n) text few (fits, some, inl (short, same, e)) =
    let h = Encodes-short old was (take n text) held e (subst (λ (y : List ℕ). length y < 8192) (sym e) short) in
    (fits, some, subst (λ (s : Sink). Took old s (full_chunks (was ++ take n text))) (sym same) h.0, h.1)
Encodes-gathered old new was held (Ok n) text few (fits, some, inr (full, took, none)) =
    let h = Encodes-full old new was (take n text) (was ++ take n text) refl full (subst (λ (y : List ℕ). Took old new y) (full-piece (was ++ take n text) full) took) in
    (fits, some, h.0, none ∙ h.1)
Encodes-gathered old new was held (Err e) text few (long, failed) =
    let whole : take 8192 (was ++ text) ≡ was ++ take (8192 - length was) text = take-behind was text (8192 - length was) 8192 (omega arith) in
    let size : length (take 8192 (was ++ text)) ≡ 8192 = simp length-take (omega (arith, long)) in
    Encodes-failed old new was text (take 8192 (was ++ text)) (8192 - length was) (error_kind e) whole size
    (subst (λ (y : List ℕ). Failed old new y (error_kind e)) (full-piece (take 8192 (was ++ text)) size) failed)

-- one piece more
one-more : (f : List ℕ → List ℕ) (pieces : List (List ℕ)) (piece : List ℕ) → flat_map f (pieces ++ (piece ∷ [])) ≡ flat_map f pieces ++ f piece
one-more f [] piece = append-nil (f piece)
one-more f (p ∷ pieces) piece = ap (λ (y : List ℕ). f p ++ y) (one-more f pieces piece) ∙ sym (append_assoc (f p) (flat_map f pieces) (f piece))

bounds-more : (pieces : List (List ℕ)) (piece : List ℕ) → AllByRecursion IsPiece pieces → IsPiece piece → AllByRecursion IsPiece (pieces ++ (piece ∷ []))
bounds-more [] piece h k = (k, tt)
bounds-more (p ∷ pieces) piece h k = (h.0, bounds-more pieces piece h.1 k)

-- nothing was given yet
pub Streamed-none : (form : StreamedForm) (a : Sink) (held : List ℕ) → held ≡ [] → SentPieces form a a [] held
Streamed-none form a held e = record { pieces = []; sent = Took-nil a; joins = sym e; bounds = tt; few = subst (λ (y : List ℕ). length y < 8192) (sym e) (omega arith) }

-- more bytes were held
pub Streamed-held : (form : StreamedForm) (start a b : Sink) (given was held more : List ℕ) → SentPieces form start a given was → length held < 8192 → b ≡ a → held ≡ was ++ more
    → SentPieces form start b (given ++ more) held
Streamed-held form start a b given was held more h few same e = record {
  pieces = h.pieces;
  sent = subst (λ (s : Sink). Took start s (pieces_text form h.pieces)) (sym same) h.sent;
  joins = ap (λ (y : List ℕ). y ++ more) h.joins ∙ append_assoc (joined h.pieces) was more ∙ ap (λ (y : List ℕ). joined h.pieces ++ y) (sym e);
  bounds = h.bounds;
  few = few;
}

-- a piece was sent, and nothing is held
pub Streamed-sent : (form : StreamedForm) (start a b : Sink) (given was held more : List ℕ) → SentPieces form start a given was → length (was ++ more) ≤ 8192
    → Took a b (piece_text form (was ++ more)) → held ≡ [] → SentPieces form start b (given ++ more) held
Streamed-sent form start a b given was held more h bound took e =
    let piece : List ℕ = was ++ more in
    record {
      pieces = h.pieces ++ (piece ∷ []);
      sent = subst (λ (y : List ℕ). Took start b y) (sym (one-more (piece_text form) h.pieces piece)) (Took-append start a b (pieces_text form h.pieces) (piece_text form piece) h.sent took);
      joins = ap (λ (y : List ℕ). y ++ more) h.joins ∙ append_assoc (joined h.pieces) was more ∙ sym (one-more (λ (p : List ℕ). p) h.pieces piece)
          ∙ sym (append-nil (joined (h.pieces ++ (piece ∷ [])))) ∙ ap (λ (y : List ℕ). joined (h.pieces ++ (piece ∷ [])) ++ y) (sym e);
      bounds = bounds-more h.pieces piece h.bounds bound;
      few = subst (λ (y : List ℕ). length y < 8192) (sym e) (omega arith);
    }

-- one write
pub Streamed-more : (form : StreamedForm) (start a b : Sink) (given was held : List ℕ) (n : ℕ) (text : List ℕ) → SentPieces form start a given was → Gathers form a b was held (Ok n) text
    → SentPieces form start b (given ++ take n text) held
Streamed-more form start a b given was held n text h (fits, some, inl (short, same, e)) =
    Streamed-held form start a b given was held (take n text) h (subst (λ (y : List ℕ). length y < 8192) (sym e) short) same e
Streamed-more form start a b given was held n text h (fits, some, inr (full, took, none)) =
    Streamed-sent form start a b given was held (take n text) h (omega (arith, full)) took none

-- one flush
pub Streamed-flushed : (form : StreamedForm) (start a b : Sink) (given was held : List ℕ) → SentPieces form start a given was → Took a b (piece_text form was) → held ≡ [] → SentPieces form start b given held
Streamed-flushed form start a b given was held h took e =
    let all : was ++ [] ≡ was = append-nil was in
    subst (λ (y : List ℕ). SentPieces form start b y held) (append-nil given)
    (Streamed-sent form start a b given was held [] h (subst (λ (y : List ℕ). length y ≤ 8192) (sym all) (omega (arith, h.few)))
    (subst (λ (y : List ℕ). Took a b (piece_text form y)) (sym all) took) e)

-- the body has ended
pub Streamed-ended : (form : StreamedForm) (start a b : Sink) (given held : List ℕ) → SentPieces form start a given held → Took a b (piece_text form held ++ end_text form) → EndsStreamed form start b given
Streamed-ended form start a b given held h took = record {
  pieces = h.pieces ++ (held ∷ []);
  sent = subst (λ (y : List ℕ). Took start b y)
      (sym (append_assoc (pieces_text form h.pieces) (piece_text form held) (end_text form)) ∙ ap (λ (y : List ℕ). y ++ end_text form) (sym (one-more (piece_text form) h.pieces held)))
      (Took-append start a b (pieces_text form h.pieces) (piece_text form held ++ end_text form) h.sent took);
  joins = h.joins ∙ sym (one-more (λ (p : List ℕ). p) h.pieces held);
  bounds = bounds-more h.pieces held h.bounds (omega (arith, h.few));
}
