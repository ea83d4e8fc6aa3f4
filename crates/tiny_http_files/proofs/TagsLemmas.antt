-- Texts between quotes.
use Rattle.std.proofs.Common.{◌≡◌, refl, sym, ap, ◌∙◌, ℕ, Bool, true, false, ◌&&◌, List, [], ◌∷◌, ◌++◌}
use Rattle.std.specs.Prelude.{◌==◌}
use Rattle.std.specs.Str.{bytes_eq}
use Rattle.tiny_http_files.specs.Tags.{quoted}

and-false : (b : Bool) → (b && false) ≡ false
and-false true = refl
and-false false = refl

same-before-quote : (a b : List ℕ) → bytes_eq (a ++ 34 ∷ []) (b ++ 34 ∷ []) ≡ bytes_eq a b
same-before-quote [] [] = refl
same-before-quote [] (y ∷ []) = and-false (34 == y)
same-before-quote [] (y ∷ z ∷ zs) = and-false (34 == y)
same-before-quote (x ∷ []) [] = and-false (x == 34)
same-before-quote (x ∷ y ∷ ys) [] = and-false (x == 34)
same-before-quote (x ∷ xs) (y ∷ ys) = ap (λ (t : Bool). (x == y) && t) (same-before-quote xs ys)

-- a text is the quoted b if what it quotes is b
pub same-quoted : (text a b : List ℕ) → text ≡ quoted a → bytes_eq a b ≡ bytes_eq text (quoted b)
same-quoted text a b e = sym (ap (λ (t : List ℕ). bytes_eq t (quoted b)) e ∙ same-before-quote a b)
