-- Lines of a source, found and joined.
use Rattle.std.proofs.Common.{◌≡◌, refl, sym, ap, ◌∙◌, subst, ℕ, zero, suc, ◌+◌, ◌<◌, ◌≤◌, Bool, true, false, not, List, [], ◌∷◌, ◌++◌, length, take, slice_index_or, Option, Some, None, take-take, take_all, length-take, arith, eqb-true}
use Rattle.std.specs.Prelude.{◌==◌, ◌&&◌, IfSome, IfNone}
use Rattle.std.specs.List.{list_all}
use Rattle.std.proofs.Math.Seq.{take-suc}
use Rattle.std.proofs.lemmas.List.Folds.{list_all-append}
use Rattle.memchr.specs.Find.{IsFirstByte, is_byte}
use Rattle.tiny_http_text.specs.Bytes.{HasNo}
use Rattle.tiny_http_head.specs.Heads.{line_feed}
use Rattle.tiny_http_standard_head.specs.SourceLines.{EndsLine}

-- no LF stands among so many bytes
front-has_no : (n : ℕ) (bytes : List ℕ) → n ≤ length bytes → ((i : ℕ) → i < n → (slice_index_or bytes i 0 == line_feed) ≡ true → ⊥) → HasNo line_feed (take n bytes)
front-has_no zero bytes le h = refl
front-has_no (suc n) [] le h = absurd (omega (arith, le))
front-has_no (suc n) (b ∷ bs) le h = by (b == line_feed) refl (front-has_no n bs (omega (arith, le)) (λ i lt. h (suc i) (omega (arith, lt))))
  where
    by : (t : Bool) → (b == line_feed) ≡ t → HasNo line_feed (take n bs) → (not (b == line_feed) && list_all (λ x. not (x == line_feed)) (take n bs)) ≡ true
    by true e rest = absurd (h 0 (omega arith) e)
    by false e rest = rw e rest

-- the first LF
first-line_feed : (bytes : List ℕ) (n : ℕ) → IsFirstByte (is_byte 10) bytes (Some n) → EndsLine bytes n
first-line_feed bytes n h =
    let high = h.0.high in
    let is : slice_index_or bytes n 0 ≡ 10 = eqb-true (slice_index_or bytes n 0) 10 h.1 in
    let next : n + 1 ≡ suc n = omega arith in
    record {
      within = omega (arith, high);
      ends = ap (λ (k : ℕ). take k bytes) next ∙ take-suc bytes n 0 high ∙ ap (λ (b : ℕ). take n bytes ++ b ∷ []) is;
      first = front-has_no n bytes (omega (arith, high)) (λ i lt e. h.0.before i (omega arith) lt e);
    }

no-line_feed : (bytes : List ℕ) → IsFirstByte (is_byte 10) bytes None → HasNo line_feed bytes
no-line_feed bytes h =
    subst (HasNo line_feed) (take_all (length bytes) bytes (omega arith)) (front-has_no (length bytes) bytes (omega arith) (λ i lt e. h i (omega arith) lt e))

pub found-line_feed : (bytes : List ℕ) (r : Option ℕ) → IsFirstByte (is_byte 10) bytes r → IfSome r (EndsLine bytes)
found-line_feed bytes (Some n) h = first-line_feed bytes n h
found-line_feed bytes None h = tt

pub unfound-line_feed : (bytes : List ℕ) (r : Option ℕ) → IsFirstByte (is_byte 10) bytes r → IfNone r (HasNo line_feed bytes)
unfound-line_feed bytes (Some n) h = tt
unfound-line_feed bytes None h = no-line_feed bytes h

pub joined-has_no : (a b : List ℕ) → HasNo line_feed a → HasNo line_feed b → HasNo line_feed (a ++ b)
joined-has_no a b h k = list_all-append (λ x. not (x == line_feed)) a b ∙ rw (h, k) refl

-- a line among the bytes that a limit lets through
pub line-within : (limit n : ℕ) (held : List ℕ) → EndsLine (take limit held) n → EndsLine held n × (n < limit)
line-within limit n held e = (
  record {
    within = omega (arith, e.within, short);
    ends = sym (take-take (n + 1) limit held low) ∙ e.ends ∙ ap (λ (x : List ℕ). x ++ line_feed ∷ []) (take-take n limit held (omega (arith, low)));
    first = subst (HasNo line_feed) (take-take n limit held (omega (arith, low))) e.first;
  },
  omega (arith, low),
)
  where
    short : length (take limit held) ≤ length held
    short = grind (arith, length-take)

    low : n + 1 ≤ limit
    low = grind (arith, e.within, length-take)
