-- The size read byte by byte is the size of the definition.
use Rattle.std.proofs.Common.{◌≡◌, refl, sym, ap, ◌∙◌, ℕ, ◌+◌, ◌*◌, ◌^◌, ◌<◌, ◌≤◌, Bool, true, false, cond, not, ◌&&◌, ◌||◌, List, [], ◌∷◌, ◌++◌, length, Option, Some, None, eqb-true, add-one, arith}
use Rattle.std.specs.Prelude.{◌==◌, nat_lt, nat_le}
use Rattle.std.specs.List.{list_all}
use Rattle.std.specs.Char.{digit_value}
use Rattle.std.specs.Str.Parse.{digits_value_after}
use Rattle.std.proofs.Math.Nat.{pow-le-pow_right, pow-suc}
use Rattle.std.proofs.lemmas.Bool.{ltb-true, ltb-false, lt-ltb, le-ltb, le-leb, lt-leb}
use Rattle.tiny_http_text.specs.Bytes.{semicolon, skip_while, skip_end_while}
use Rattle.tiny_http_body.specs.Chunks.{is_bws, is_hex}
use Rattle.tiny_http_head.specs.HeadReading.{front_while}
use Rattle.tiny_http_body.specs.ChunkReading.{size_said, size_of}
use Rattle.tiny_http_body.specs.declared.chunked.size.Size.{Size}
use Rattle.tiny_http_body.specs.declared.chunked.size.Size.TheVariants.{Blank, Digits, Behind, Extension, Wrong}
use Rattle.tiny_http_body.specs.ChunkSize.{hex_of, digits_begun, more_digits, size_step, size_after, size_value}

pub hex_of-some : (b d : ℕ) → digit_value b < 16 → d ≡ digit_value b → Some d ≡ hex_of b
unfolding hex_of
hex_of-some b d h e = rw (e, lt-ltb (digit_value b) 16 h) refl

pub hex_of-none : (b : ℕ) → 16 ≤ digit_value b → None ≡ hex_of b
unfolding hex_of
hex_of-none b h = rw (le-ltb (digit_value b) 16 h) refl

-- one digit more fits
pub digit_fits : (v c d : ℕ) → v < 16 ^ c → c < 16 → d < 16 → (v * 16 + d < 16 ^ (c + 1)) × (v * 16 + d < 2 ^ 64)
digit_fits v c d h l k =
    let e : 16 ^ (c + 1) ≡ 16 ^ c * 16 = rw add-one (pow-suc 16 c) in
    let up : 0 < 16 = omega arith in
    let in_range : c + 1 ≤ 16 = omega arith in
    let p : 16 ^ (c + 1) ≤ 16 ^ 16 = pow-le-pow_right up in_range in
    let r : v * 16 + d < 16 ^ (c + 1) = omega (arith, e) in
    (r, omega (arith, p, r))

abbrev part : List ℕ → List ℕ
part bs = front_while (λ b. not (b == semicolon)) bs

wrong-after : (bs : List ℕ) → size_value (size_after Wrong bs) ≡ None
wrong-after [] = refl
wrong-after (b ∷ bs) = wrong-after bs

extension-after : (v : ℕ) (bs : List ℕ) → size_value (size_after (Extension v) bs) ≡ Some v
extension-after v [] = refl
extension-after v (b ∷ bs) = extension-after v bs

no-true : {G : Type 0} → true ≡ false → G
no-true e = cc

bws-semi : (b : ℕ) → is_bws b ≡ true → (b == 59) ≡ false
bws-semi b h = go b (b == 9) (b == 32) (b == 59) refl refl refl h
  where
    go : (b : ℕ) (p q t : Bool) → (b == 9) ≡ p → (b == 32) ≡ q → (b == 59) ≡ t → (p || q) ≡ true → t ≡ false
    go b p q false d e f h = refl
    go b true q true d e f h = let x : b ≡ 9 = eqb-true b 9 d in let y : b ≡ 59 = eqb-true b 59 f in absurd (omega arith)
    go b false true true d e f h = let x : b ≡ 32 = eqb-true b 32 e in let y : b ≡ 59 = eqb-true b 59 f in absurd (omega arith)
    go b false false true d e f h = cc

-- a byte that is one of three is no digit
hex-bws : (b : ℕ) → is_hex b ≡ true → is_bws b ≡ false
hex-bws b h = go b (b == 9) (b == 32) refl refl h
  where
    go : (b : ℕ) (p q : Bool) → (b == 9) ≡ p → (b == 32) ≡ q → is_hex b ≡ true → (p || q) ≡ false
    go b true q d e h = let x : is_hex 9 ≡ true = rw (eqb-true b 9 d) at h in cc
    go b false true d e h = let x : is_hex 32 ≡ true = rw (eqb-true b 32 e) at h in cc
    go b false false d e h = refl

hex-semi : (b : ℕ) → is_hex b ≡ true → (b == 59) ≡ false
hex-semi b h = go b (b == 59) refl h
  where
    go : (b : ℕ) (p : Bool) → (b == 59) ≡ p → is_hex b ≡ true → p ≡ false
    go b true d h = let x : is_hex 59 ≡ true = rw (eqb-true b 59 d) at h in cc
    go b false d h = refl

abbrev blank_or_none : ℕ → List ℕ → Option ℕ
blank_or_none v p = cond (list_all is_bws p) (Some v) None

size-behind-step : (v b : ℕ) (bs : List ℕ) (s t : Bool) → is_bws b ≡ s → (s ≡ true → t ≡ false) → size_value (size_after (Behind v) bs) ≡ blank_or_none v (part bs)
    → size_value (size_after (cond s (Behind v) (cond t (Extension v) Wrong)) bs) ≡ blank_or_none v (cond (not t) (b ∷ part bs) [])
size-behind-step v b bs true true e x ih = no-true (x refl)
size-behind-step v b bs true false e x ih = rw e ih
size-behind-step v b bs false true e x ih = extension-after v bs
size-behind-step v b bs false false e x ih = rw e (wrong-after bs)

behind-after : (v : ℕ) (bs : List ℕ) → size_value (size_after (Behind v) bs) ≡ blank_or_none v (part bs)
behind-after v [] = refl
behind-after v (b ∷ bs) = size-behind-step v b bs (is_bws b) (b == 59) refl (bws-semi b) (behind-after v bs)

abbrev trim_end : List ℕ → List ℕ
trim_end p = skip_end_while is_bws p

-- digits after these ones
abbrev said : ℕ → ℕ → List ℕ → Option ℕ
said v c d = cond (nat_le (c + length d) 16 && list_all is_hex d) (Some (digits_value_after 16 v d)) None

said-nothing : (v c : ℕ) → c ≤ 16 → said v c [] ≡ Some v
said-nothing v c h = rw (le-leb (c + 0) 16 (omega arith)) refl

and-no : (a b : Bool) → (a && (false && b)) ≡ false
and-no true b = refl
and-no false b = refl

said-other : (v c b : ℕ) (d : List ℕ) → is_hex b ≡ false → None ≡ said v c (b ∷ d)
said-other v c b d e = rw (e, and-no (nat_le (c + length (b ∷ d)) 16) (list_all is_hex d)) refl

said-more : (v c b : ℕ) (d : List ℕ) → is_hex b ≡ true → said (v * 16 + digit_value b) (c + 1) d ≡ said v c (b ∷ d)
said-more v c b d e = let n : c + 1 + length d ≡ c + length (b ∷ d) = omega arith in rw (e, n) refl

said-many : (v c b : ℕ) (d : List ℕ) → 16 ≤ c → None ≡ said v c (b ∷ d)
said-many v c b d h = rw (lt-leb (c + length (b ∷ d)) 16 (omega arith)) refl

digit-step : (v c b : ℕ) (bs : List ℕ) (u : Bool) → nat_lt c 16 ≡ u → is_hex b ≡ true
    → (c < 16 → size_value (size_after (Digits (v * 16 + digit_value b) (c + 1)) bs) ≡ said (v * 16 + digit_value b) (c + 1) (trim_end (part bs)))
    → size_value (size_after (cond u (Digits (v * 16 + digit_value b) (c + 1)) Wrong) bs) ≡ said v c (b ∷ trim_end (part bs))
digit-step v c b bs true l e ih = ih (ltb-true c 16 l) ∙ said-more v c b (trim_end (part bs)) e
digit-step v c b bs false l e ih = wrong-after bs ∙ said-many v c b (trim_end (part bs)) (ltb-false c 16 l)

blanks-step : (v c b : ℕ) (p : List ℕ) (w : Bool) → c ≤ 16 → is_hex b ≡ false → cond w (Some v) None ≡ said v c (cond w [] (b ∷ trim_end p))
blanks-step v c b p true l e = sym (said-nothing v c l)
blanks-step v c b p false l e = said-other v c b (trim_end p) e

digits-step : (v c b : ℕ) (bs : List ℕ) (s t h : Bool) → c ≤ 16 → is_bws b ≡ s → is_hex b ≡ h → (b == 59) ≡ t → (s ≡ true → t ≡ false) → (h ≡ true → s ≡ false) → (h ≡ true → t ≡ false)
    → (c < 16 → size_value (size_after (Digits (v * 16 + digit_value b) (c + 1)) bs) ≡ said (v * 16 + digit_value b) (c + 1) (trim_end (part bs)))
    → size_value (size_after (more_digits v c b (cond h (Some (digit_value b)) None)) bs) ≡ said v c (trim_end (cond (not t) (b ∷ part bs) []))
digits-step v c b bs true t true l e g f x y z ih = no-true (y refl)
digits-step v c b bs false true true l e g f x y z ih = no-true (z refl)
digits-step v c b bs false false true l e g f x y z ih = rw e (digit-step v c b bs (nat_lt c 16) refl g ih)
digits-step v c b bs true true false l e g f x y z ih = no-true (x refl)
digits-step v c b bs true false false l e g f x y z ih = rw e (behind-after v bs ∙ blanks-step v c b (part bs) (list_all is_bws (part bs)) l g)
digits-step v c b bs false true false l e g f x y z ih = rw (e, f) (extension-after v bs ∙ sym (said-nothing v c l))
digits-step v c b bs false false false l e g f x y z ih = rw (e, f) (wrong-after bs ∙ said-other v c b (trim_end (part bs)) g)

digits-after : (bs : List ℕ) (v c : ℕ) → c ≤ 16 → size_value (size_after (Digits v c) bs) ≡ said v c (trim_end (part bs))
unfolding hex_of
digits-after [] v c l = sym (said-nothing v c l)
digits-after (b ∷ bs) v c l =
    digits-step v c b bs (is_bws b) (b == 59) (is_hex b) l refl refl refl (bws-semi b) (hex-bws b) (hex-semi b) (λ k. digits-after bs (v * 16 + digit_value b) (c + 1) (omega arith))

first-digit : (b : ℕ) (d : List ℕ) → is_hex b ≡ true → said (digit_value b) 1 d ≡ size_said (b ∷ d)
first-digit b d e =
    let n : 1 + length d ≡ length (b ∷ d) = omega arith in
    let m : digit_value b ≡ 0 * 16 + digit_value b = omega arith in
    rw (lt-ltb 0 (length (b ∷ d)) (omega arith), e, n) (ap (λ k. cond (nat_le (length (b ∷ d)) 16 && list_all is_hex d) (Some (digits_value_after 16 k d)) None) m)

no-digit : (b : ℕ) (d : List ℕ) → is_hex b ≡ false → None ≡ size_said (b ∷ d)
no-digit b d e = rw (lt-ltb 0 (length (b ∷ d)) (omega arith), e, and-no (nat_le (length (b ∷ d)) 16) (list_all is_hex d)) refl

blank-step : (b : ℕ) (bs : List ℕ) (s t h : Bool) → is_bws b ≡ s → is_hex b ≡ h → (s ≡ true → t ≡ false) → (h ≡ true → s ≡ false) → (h ≡ true → t ≡ false)
    → size_value (size_after Blank bs) ≡ size_of bs
    → size_value (size_after (cond s Blank (digits_begun (cond h (Some (digit_value b)) None))) bs) ≡ size_said (trim_end (skip_while is_bws (cond (not t) (b ∷ part bs) [])))
blank-step b bs true true h e g x y z ih = no-true (x refl)
blank-step b bs true false h e g x y z ih = rw e ih
blank-step b bs false true true e g x y z ih = no-true (z refl)
blank-step b bs false true false e g x y z ih = wrong-after bs
blank-step b bs false false true e g x y z ih = rw (e, e) (digits-after bs (digit_value b) 1 (omega arith) ∙ first-digit b (trim_end (part bs)) g)
blank-step b bs false false false e g x y z ih = rw (e, e) (wrong-after bs ∙ no-digit b (trim_end (part bs)) g)

-- at the end of the line it is that of the text
pub size-read : (text : List ℕ) → size_value (size_after Blank text) ≡ size_of text
unfolding hex_of
size-read [] = refl
size-read (b ∷ bs) = blank-step b bs (is_bws b) (b == 59) (is_hex b) refl refl (bws-semi b) (hex-bws b) (hex-semi b) (size-read bs)

-- one byte more at the end
pub size_after-push : (size : Size) (text : List ℕ) (b : ℕ) → size_after size (text ++ b ∷ []) ≡ size_step (size_after size text) b
size_after-push size [] b = refl
size_after-push size (c ∷ cs) b = size_after-push (size_step size c) cs b

pub size-not_below : (a b : ℕ) → (a < b → ⊥) → b ≤ a
size-not_below a b h = omega (arith, h)
