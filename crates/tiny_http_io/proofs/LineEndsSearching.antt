-- Lemmas on the search for the first CR LF by its carriage returns.
use Prim.Native.Nat.{zero, suc}
use Rattle.std.proofs.Common.{◌≡◌, ◌≢◌, ℕ, ◌+◌, ◌-◌, ◌<◌, ◌≤◌, Bool, true, false, List, length, drop, take, sym, ap, ◌∙◌, subst, arith, Some, None, slice_index_or, inl, inr}
use Rattle.std.specs.Prelude.{◌==◌}
use Rattle.std.proofs.lemmas.Bool.Decides.{eqb_tells}
use Rattle.std.proofs.lemmas.List.{get_or-drop, length-drop, take_all}
use Rattle.memchr.specs.Find.{IsFirstByte, is_byte}
use Rattle.tiny_http_text.specs.Lines.{has_crlf}
use Rattle.tiny_http_io.proofs.LineEndsLemmas.{passed-nothing}
use Rattle.tiny_http_io.proofs.LineEndsScanning.{Scans, scans-on, scans-none}

-- the rest of the bytes, cut at its own length
pub rest-whole : (bytes : List ℕ) (at : ℕ) → take (length bytes - at) (drop at bytes) ≡ drop at bytes
rest-whole bytes at = let short : length (drop at bytes) ≡ length bytes - at = length-drop at bytes in take_all (length bytes - at) (drop at bytes) (omega (arith, short))

-- no CR LF begins before this place, nor with the byte before it
pub record Searched (bytes : List ℕ) (at : ℕ) : Type 0 where
  pub flag : Bool
  pub scans : Scans flag bytes at
  pub goes_on : flag ≡ true → at < length bytes → slice_index_or bytes at 0 ≢ 10

not-eqb : (a b : ℕ) → a ≢ b → (a == b) ≡ false
not-eqb a b ne = elim (eqb_tells a b) [ inl p ↦ absurd (ne p.1) | inr p ↦ p.0 ]

pub searched-nothing : (bytes : List ℕ) → Searched bytes 0
searched-nothing bytes = record { flag = false; scans = passed-nothing; goes_on = λ no. absurd (cc) }

-- so many bytes that are no carriage return
pub searched-over : (k : ℕ) (bytes : List ℕ) (at : ℕ) → ((i : ℕ) → i < k → slice_index_or bytes (at + i) 0 ≢ 13) → at + k ≤ length bytes → Searched bytes at → Searched bytes (at + k)
searched-over zero bytes at none within s = let same : at + 0 ≡ at = omega arith in rw same s
searched-over (suc k) bytes at none within s =
    let here : at < length bytes = omega (arith, within) in
    let zero-on : at + 0 ≡ at = omega arith in
    let first : slice_index_or bytes at 0 ≢ 13 = λ e. none 0 (omega arith) (ap (λ j. slice_index_or bytes j 0) zero-on ∙ e) in
    let on = scans-on s.flag false bytes at here (not-eqb (slice_index_or bytes at 0) 13 first) (λ f. s.goes_on f here) s.scans in
    let next : (i : ℕ) → at + suc i ≡ (at + 1) + i = λ i. omega arith in
    let all : at + suc k ≡ (at + 1) + k = next k in
    rw all (searched-over k bytes (at + 1) (λ i lt e. none (suc i) (omega (arith, lt)) (ap (λ j. slice_index_or bytes j 0) (next i) ∙ e)) (omega (arith, within))
    (record { flag = false; scans = on; goes_on = λ no. absurd (cc) }))

-- and then a carriage return
pub searched-return : (n : ℕ) (bytes hay : List ℕ) (at : ℕ) → hay ≡ drop at bytes → IsFirstByte (is_byte 13) hay (Some n) → at ≤ length bytes → Searched bytes at → (at + (n + 1) ≤ length bytes) × Scans true bytes (at + (n + 1))
searched-return n bytes hay at e found within s =
    let first = subst (λ h. IsFirstByte (is_byte 13) h (Some n)) e found in
    let short : length (drop at bytes) ≡ length bytes - at = length-drop at bytes in
    let high = first.0.high in
    let room : at + n < length bytes = omega (arith, high, short, within) in
    let before : (i : ℕ) → i < n → slice_index_or bytes (at + i) 0 ≢ 13 = λ i lt is13. first.0.before i (omega arith) lt (ap (λ b. b == 13) (get_or-drop at bytes i 0 ∙ is13)) in
    let over = searched-over n bytes at before (omega (arith, room)) s in
    let is : (slice_index_or bytes (at + n) 0 == 13) ≡ true = ap (λ b. b == 13) (sym (get_or-drop at bytes n 0)) ∙ first.1 in
    let more : (at + n) + 1 ≡ at + (n + 1) = omega arith in
    (omega (arith, room), subst (Scans true bytes) more (scans-on over.flag true bytes (at + n) room is (λ f. over.goes_on f room) over.scans))

-- and none up to the end
pub searched-none : (bytes hay : List ℕ) (at : ℕ) → hay ≡ drop at bytes → IsFirstByte (is_byte 13) hay None → at ≤ length bytes → Searched bytes at → has_crlf bytes ≡ false
searched-none bytes hay at e found within s =
    let none = subst (λ h. IsFirstByte (is_byte 13) h None) e found in
    let short : length (drop at bytes) ≡ length bytes - at = length-drop at bytes in
    let left = length bytes - at in
    let all : at + left ≡ length bytes = omega (arith, within) in
    let over = searched-over left bytes at (λ i lt is13. none i (omega arith) (omega (arith, lt, short)) (ap (λ b. b == 13) (get_or-drop at bytes i 0 ∙ is13))) (omega (arith, all)) s in
    scans-none over.flag bytes (at + left) (omega (arith, all)) over.scans
