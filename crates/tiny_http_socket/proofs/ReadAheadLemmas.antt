-- A piece that is given from its front.
use Rattle.std.proofs.Common.{◌≡◌, ◌⊎◌, inl, inr, sym, ap, ◌∙◌, ℕ, ◌+◌, ◌-◌, ◌≤◌, List, ◌++◌, length, take, drop, drop-drop, length-take, length-drop, Option, Result, Ok, Err, IfOk, arith}
use Rattle.std.proofs.lemmas.List.{drop-take, take-append-le, length-take-le}
use lib.Seq.{take-append-add}
use Rattle.std.specs.declared.io.Error.{Error}
use Rattle.tiny_http_io.specs.Device.{Feed, prepended}
use Rattle.tiny_http_io.proofs.DeviceFeeds.{given-given}
use borrow.Rule.Slice.PartMut.{post_of, put_mid}

-- so many bytes are held between two places of a piece
pub length-held : (piece : List ℕ) (start end : ℕ) → end ≤ length piece → length (take (end - start) (drop start piece)) ≡ end - start
length-held piece start end fits = simp (length-take, length-drop) (omega arith)

-- so many of them were let go
pub held-consumed : (piece : List ℕ) (start end n : ℕ) → start + n ≤ end → take (end - (start + n)) (drop (start + n) piece) ≡ drop n (take (end - start) (drop start piece))
held-consumed piece start end n fits =
    let whole : end - start ≡ n + (end - (start + n)) = omega arith in
    sym (ap (λ k. drop n (take k (drop start piece))) whole ∙ drop-take n (end - (start + n)) (drop start piece) ∙ ap (λ r. take (end - (start + n)) r) (drop-drop n start piece))

-- the first `end` bytes of a piece and those that were read after them come before the rest
pub read-after : (end k : ℕ) (piece buf : List ℕ) (old new : Option Feed) (r : Result ℕ Error) → end ≤ length piece → IfOk r (λ n. n ≤ length buf) → IfOk r (λ n. old ≡ prepended (take n buf) new)
    → IfOk r (λ n. prepended (take (end + n) (put_mid end k piece buf)) new ≡ prepended (take end piece) old)
read-after end k piece buf old new (Err e) fits few given = given
read-after end k piece buf old new (Ok n) fits few given =
    ap (λ bs. prepended bs new) (ap (λ m. take (m + n) (put_mid end k piece buf)) (sym (length-take-le end piece fits))
    ∙ take-append-add (take end piece) (buf ++ post_of end k piece) n
    ∙ ap (λ r. take end piece ++ r) (take-append-le n buf (post_of end k piece) few))
    ∙ sym (given-given (take end piece) (take n buf) new)
    ∙ ap (λ f. prepended (take end piece) f) (sym given)

-- a piece that was taken anew had no bytes before
pub same-held : (old new : List ℕ) (start end len whole : ℕ) → (len ≡ whole) ⊎ (len ≡ 0) → (len ≡ whole → new ≡ old) → end ≤ len
    → take (end - start) (drop start new) ≡ take (end - start) (drop start old)
same-held old new start end len whole (inl full) same fits = ap (λ p. take (end - start) (drop start p)) (same full)
same-held old new start end len whole (inr empty) same fits =
    let none : end - start ≡ 0 = omega (arith, empty, fits) in
    ap (λ m. take m (drop start new)) none ∙ sym (ap (λ m. take m (drop start old)) none)
