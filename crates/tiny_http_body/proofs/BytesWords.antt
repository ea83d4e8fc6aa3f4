-- A word that doesn't stand at a place is looked for after it.
use Rattle.std.proofs.Common.{◌≡◌, refl, sym, ap, ◌∙◌, ℕ, suc, ◌+◌, ◌<◌, Bool, false, List, ◌∷◌, drop, length, get_or, drop-cons, add-one}
use Rattle.std.specs.Prelude.{◌==◌}
use Rattle.std.specs.List.{starts_with}
use Rattle.tiny_http_text.specs.Bytes.{contains_word}
use Rattle.tiny_http_head.specs.Common.{lowercase}

pub word-past : (word text s : List ℕ) (i : ℕ) (whole : Bool) → i < length text → s ≡ drop i text → starts_with ◌==◌ (lowercase s) word ≡ false
    → contains_word word (lowercase (drop i text)) ≡ whole → contains_word word (lowercase (drop (i + 1) text)) ≡ whole
word-past word text s i whole l same b inv =
    let e : drop i text ≡ get_or text i 0 ∷ drop (suc i) text = drop-cons text i 0 l in
    let b2 : starts_with ◌==◌ (lowercase (get_or text i 0 ∷ drop (suc i) text)) word ≡ false = ap (λ x. starts_with ◌==◌ (lowercase x) word) (sym e ∙ sym same) ∙ b in
    ap (λ k. contains_word word (lowercase (drop k text))) (add-one i)
    ∙ sym (ap (λ x. contains_word word (lowercase x)) e ∙ rw b2 refl)
    ∙ inv
