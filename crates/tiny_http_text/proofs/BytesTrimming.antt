-- Texts trimmed and cut, byte by byte, and where a text may be cut.
use Rattle.std.proofs.Common.{◌≡◌, refl, sym, ap, ◌∙◌, ℕ, zero, suc, ◌+◌, ◌-◌, ◌<◌, ◌≤◌, Bool, true, false, not, List, [], ◌∷◌, ◌++◌, length, take, drop, get_or, inl, inr, arith, add-one, drop-cons, subst, length-append, append-nil}
use Rattle.std.specs.Prelude.{◌==◌, slice_index, slice_range}
use Rattle.std.specs.List.{list_all}
use Rattle.std.proofs.lemmas.Bool.{and_parts, cases_lt}
use Rattle.std.proofs.lemmas.List.{take-append-drop, take_all}
use Rattle.std.proofs.lemmas.List.Folds.{list_all-append, list_all_more}
use Rattle.tiny_http_text.specs.Bytes.{HasNo, has_bare_end, is_blank, is_ascii, AreAscii, parts, skip_while, skip_end_while, trimmed}
use Rattle.tiny_http_text.proofs.BytesLemmas.{end-core, trims-is, parts-word, parts-last, front, back}
use Rattle.std.specs.Str.{IsUtf8, IsCharBoundary}
use Rattle.std.proofs.Math.Seq.{drop-append_seam, take-append_seam, get_or-append_seam}
use Rattle.std.proofs.lemmas.Bool.Decides.{nat_tests}
use Rattle.std.proofs.lemmas.Str.{IsUtf8-drop, IsCharBoundary-after_ascii, IsCharBoundary-before_ascii, IsCharBoundary-at_seam, IsCharBoundary-end}

module _ (p : ℕ → Bool) where
  -- a text is blank up to one place more, or from one place more on
  pub all-drop : (xs : List ℕ) (n : ℕ) (d : ℕ) → n < length xs → p (get_or xs n d) ≡ true → list_all p (drop (n + 1) xs) ≡ true → list_all p (drop n xs) ≡ true
  all-drop xs n d l e h = rw (drop-cons xs n d l, e) (ap (λ (k : ℕ). list_all p (drop k xs)) (sym (add-one n)) ∙ h)

  bare-end : (xs : List ℕ) (n : ℕ) (d : ℕ) → n < length xs → p (get_or xs n d) ≡ false → has_bare_end p (take (suc n) xs) ≡ true
  bare-end [] n d l e = absurd (omega arith)
  bare-end (x ∷ xs) zero d l e = rw e refl
  bare-end (x ∷ []) (suc n) d l e = absurd (omega arith)
  bare-end (x ∷ y ∷ ys) (suc n) d l e = bare-end (y ∷ ys) n d (omega arith) e

  -- trimming the end stops here
  pub end-here : (xs : List ℕ) (n : ℕ) (d : ℕ) → 0 < n → n ≤ length xs → p (get_or xs (n - 1) d) ≡ false → list_all p (drop n xs) ≡ true → take n xs ≡ skip_end_while p xs
  end-here xs zero d s l e h = absurd (omega arith)
  end-here xs (suc n) d s l e h =
      let same : suc n - 1 ≡ n = omega arith in
      let e2 : p (get_or xs n d) ≡ false = ap (λ (k : ℕ). p (get_or xs k d)) (sym same) ∙ e in
      sym (end-core p (take (suc n) xs) (drop (suc n) xs) (bare-end xs n d (omega arith) e2) h) ∙ ap (skip_end_while p) (take-append-drop (suc n) xs)

  pub end-none : (xs : List ℕ) (n : ℕ) → n ≡ 0 → list_all p (drop n xs) ≡ true → take n xs ≡ skip_end_while p xs
  end-none xs n z h =
      let all : list_all p xs ≡ true = ap (λ (k : ℕ). list_all p (drop k xs)) (sym z) ∙ h in
      ap (λ (k : ℕ). take k xs) z ∙ sym (end-core p [] xs refl all)

  -- skipping the front goes on, or stops here
  pub skip-past : (xs : List ℕ) (i : ℕ) (d : ℕ) → i < length xs → p (get_or xs i d) ≡ true → skip_while p (drop (i + 1) xs) ≡ skip_while p (drop i xs)
  skip-past xs i d l e = ap (λ (k : ℕ). skip_while p (drop k xs)) (add-one i) ∙ sym (rw (drop-cons xs i d l, e) refl)

  pub skip-here : (xs : List ℕ) (i : ℕ) (d : ℕ) → i < length xs → p (get_or xs i d) ≡ false → skip_while p (drop i xs) ≡ drop i xs
  skip-here xs i d l e = rw (drop-cons xs i d l, e) refl

-- one byte more that isn't c
pub has_no-more : (c : ℕ) (xs : List ℕ) (i : ℕ) (d : ℕ) → i < length xs → (get_or xs i d == c) ≡ false → HasNo c (take i xs) → HasNo c (take (i + 1) xs)
has_no-more c xs i d l e h = rw (list_all_more (λ b. not (b == c)) xs i d l, h, e) refl

-- the first c and what stands round it
pub cut-at : (c : ℕ) (xs : List ℕ) (i : ℕ) → i < length xs → slice_index xs i ≡ c → xs ≡ take i xs ++ c ∷ drop (i + 1) xs
cut-at c xs i l e =
    sym (take-append-drop i xs) ∙ ap (λ (r : List ℕ). take i xs ++ r) (drop-cons xs i 0 l ∙ ap (λ (b : ℕ). b ∷ drop (suc i) xs) e ∙ ap (λ (k : ℕ). c ∷ drop k xs) (sym (add-one i)))

pub first-part : (c : ℕ) (xs : List ℕ) (i : ℕ) → i ≤ length xs → HasNo c (take i xs) → (i < length xs → slice_index xs i ≡ c) → (more : List (List ℕ)) × (parts c xs ≡ take i xs ∷ more)
first-part c xs i l h there = elim (cases_lt i (length xs)) [
  | inl lt ↦ (parts c (drop (i + 1) xs), ap (parts c) (cut-at c xs i lt (there lt)) ∙ parts-word c (take i xs) (drop (i + 1) xs) h)
  | inr ge ↦
      let e : take i xs ≡ xs = take_all i xs ge in
      ([], ap (parts c) (sym e) ∙ parts-last c (take i xs) h)
]

-- the parts of an ASCII text are ASCII
pub ascii-parts : (a b : List ℕ) → AreAscii (a ++ b) → AreAscii a × AreAscii b
ascii-parts a b h = and_parts (list_all is_ascii a) (list_all is_ascii b) (sym (list_all-append is_ascii a b) ∙ h)

pub ascii-trimmed : (text core : List ℕ) → core ≡ trimmed is_blank text → AreAscii text → AreAscii core
ascii-trimmed text core e h =
    let t = trims-is is_blank text in
    let h2 : AreAscii (t.before ++ trimmed is_blank text ++ t.after) = ap (list_all is_ascii) (sym t.joins) ∙ h in
    let front = ascii-parts (t.before ++ trimmed is_blank text) t.after h2 in
    ap (list_all is_ascii) e ∙ (ascii-parts t.before (trimmed is_blank text) front.0).1

pub ascii-cut : (c : ℕ) (text w rest : List ℕ) → text ≡ w ++ c ∷ rest → AreAscii text → AreAscii w × AreAscii rest
ascii-cut c text w rest e h =
    let a = ascii-parts w (c ∷ rest) (ap (list_all is_ascii) (sym e) ∙ h) in
    (a.0, (and_parts (is_ascii c) (list_all is_ascii rest) a.1).1)

blank-ascii : (b : ℕ) → is_blank b ≡ true → b < 128
blank-ascii b h = grind (arith, nat_tests)

-- after white space a text is a text
utf8-behind : (before core : List ℕ) → list_all is_blank before ≡ true → IsUtf8 (before ++ core) → IsUtf8 core
utf8-behind [] core h u = u
utf8-behind (b ∷ bs) core h u =
    let k = and_parts (is_blank b) (list_all is_blank bs) h in
    let cut : IsCharBoundary (b ∷ (bs ++ core)) 1 = IsCharBoundary-after_ascii (b ∷ (bs ++ core)) 0 u (omega arith) (blank-ascii b k.0) in
    utf8-behind bs core k.1 (IsUtf8-drop (b ∷ (bs ++ core)) 1 u cut)

-- the text after the white space at its front
pub record Behind (text core : List ℕ) : Type 0 where
  pub shorter : length core ≤ length text
  pub cut : IsCharBoundary text (length text - length core)
  pub is : drop (length text - length core) text ≡ core

pub behind-blanks : (text core : List ℕ) → IsUtf8 text → core ≡ skip_while is_blank text → Behind text core
behind-blanks text core u e =
    let f = front is_blank text in
    let joins : text ≡ f.before ++ core = f.joins ∙ ap (λ x. f.before ++ x) (sym e) in
    let long : length text ≡ length f.before + length core = ap length joins ∙ length-append f.before core in
    let at : length text - length core ≡ length f.before = omega (arith, long) in
    record {
      shorter = omega (arith, long);
      cut = rw at (IsCharBoundary-at_seam text f.before core joins (utf8-behind f.before core f.blank (subst IsUtf8 joins u)));
      is = rw at (ap (drop (length f.before)) joins ∙ drop-append_seam f.before core);
    }

cut-before : (core after : List ℕ) → list_all is_blank after ≡ true → IsCharBoundary (core ++ after) (length core)
cut-before core [] h = rw (append-nil core) (IsCharBoundary-end core)
cut-before core (a ∷ rest) h =
    let k = and_parts (is_blank a) (list_all is_blank rest) h in
    let long : length (core ++ a ∷ rest) ≡ length core + length (a ∷ rest) = length-append core (a ∷ rest) in
    let low : get_or (core ++ a ∷ rest) (length core) 0 < 128 = rw (get_or-append_seam core a rest 0) (blank-ascii a k.0) in
    IsCharBoundary-before_ascii (core ++ a ∷ rest) (length core) (omega (arith, long)) low

-- the text before the white space at its end
pub record Before (text core : List ℕ) : Type 0 where
  pub shorter : length core ≤ length text
  pub cut : IsCharBoundary text (length core)
  pub is : take (length core) text ≡ core

pub before-blanks : (text core : List ℕ) → core ≡ skip_end_while is_blank text → Before text core
before-blanks text core e =
    let b = back is_blank text in
    let joins : text ≡ core ++ b.after = b.joins ∙ ap (λ x. x ++ b.after) (sym e) in
    let long : length text ≡ length core + length b.after = ap length joins ∙ length-append core b.after in
    record {
      shorter = omega (arith, long);
      cut = rw joins (cut-before core b.after b.blank);
      is = ap (take (length core)) joins ∙ take-append_seam core b.after;
    }

pub range-front : (xs : List ℕ) (n : ℕ) → slice_range xs 0 n ≡ take n xs
range-front xs n = grind arith
