-- One text written after another, whatever options the formatter has.
use Rattle.std.proofs.Common.{ap, ◌∙◌, List, ℕ, [], ◌∷◌, ◌++◌}
use Rattle.std.specs.List.{FoldsTo, concat}
use Rattle.std.specs.Fmt.{HasWrittenStyled}
use Rattle.std.specs.declared.fmt.Formatter.{Formatter}
use Rattle.std.proofs.lemmas.List.Folds.{concat-append}

folds-append : {S A : Type 0} (R : S → A → S → Type 0) (s : S) (xs ys : List A) (t u : S) → FoldsTo R s xs t → FoldsTo R t ys u → FoldsTo R s (xs ++ ys) u
folds-append R s [] ys t u h k = rw h k
folds-append R s (x ∷ xs) ys t u h k = (h.0, h.1, folds-append R h.0 xs ys t u h.2 k)

pub written-behind : {W : Type 0} (took : W → List ℕ → W → Type 0) (f g h : Formatter W) (a b : List ℕ) → HasWrittenStyled took f a g → HasWrittenStyled took g b h → HasWrittenStyled took f (a ++ b) h
written-behind took f g h a b x y = record {
  wrote = record {
    parts = x.wrote.parts ++ y.wrote.parts;
    calls = folds-append took f.writer x.wrote.parts y.wrote.parts g.writer h.writer x.wrote.calls y.wrote.calls;
    whole = concat-append x.wrote.parts y.wrote.parts ∙ ap (λ z. z ++ concat y.wrote.parts) x.wrote.whole ∙ ap (λ z. a ++ z) y.wrote.whole;
  };
  spec = y.spec ∙ x.spec;
  flush = y.flush;
}
