-- Lemmas on where no CR LF begins.
use Rattle.std.proofs.Common.{◌≡◌, ◌≢◌, ℕ, Bool, true, false, cond, ◌&&◌, List, [], ◌∷◌, ◌++◌, refl}
use Rattle.std.specs.Prelude.{◌==◌}
use Rattle.std.proofs.lemmas.Bool.{ne_eqb}
use Rattle.tiny_http_text.specs.Lines.{has_crlf}

-- no CR LF begins at a byte that is no carriage return
pub line-plain : (b : ℕ) (bs : List ℕ) → b ≢ 13 → has_crlf (b ∷ bs) ≡ has_crlf bs
line-plain b [] ne = refl
line-plain b (c ∷ bs) ne = rw (ne_eqb b 13 ne)

-- nor at a carriage return before another byte than a line feed
pub line-return : (b : ℕ) (bs : List ℕ) → b ≢ 10 → has_crlf (13 ∷ b ∷ bs) ≡ has_crlf (b ∷ bs)
line-return b bs ne = rw (ne_eqb b 10 ne)

-- the front of bytes without CR LF has none
clear-step : (a b : ℕ) (t : Bool) (xs more : Bool) → cond t true more ≡ false → (more ≡ false → xs ≡ false) → cond t true xs ≡ false
clear-step a b true xs more h go = h
clear-step a b false xs more h go = go h

pub clear-front : (xs ys : List ℕ) → has_crlf (xs ++ ys) ≡ false → has_crlf xs ≡ false
clear-front [] ys h = refl
clear-front (a ∷ []) ys h = refl
clear-front (a ∷ b ∷ xs) ys h = clear-step a b (a == 13 && b == 10) (has_crlf (b ∷ xs)) (has_crlf (b ∷ xs ++ ys)) h (clear-front (b ∷ xs) ys)
