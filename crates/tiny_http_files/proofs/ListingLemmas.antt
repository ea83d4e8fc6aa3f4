-- A text that is appended in five steps.
use Rattle.std.proofs.Common.{◌≡◌, ℕ, List, ◌++◌, ap, ◌∙◌, append_assoc}

pub joined : (h a l b n e v w x y z : List ℕ) → v ≡ h ++ a → w ≡ v ++ l → x ≡ w ++ b → y ≡ x ++ n → z ≡ y ++ e → z ≡ h ++ ((((a ++ l) ++ b) ++ n) ++ e)
joined h a l b n e v w x y z hv hw hx hy hz =
    let two : w ≡ h ++ (a ++ l) = hw ∙ ap (λ (t : List ℕ). t ++ l) hv ∙ append_assoc h a l in
    let three : x ≡ h ++ ((a ++ l) ++ b) = hx ∙ ap (λ (t : List ℕ). t ++ b) two ∙ append_assoc h (a ++ l) b in
    let four : y ≡ h ++ (((a ++ l) ++ b) ++ n) = hy ∙ ap (λ (t : List ℕ). t ++ n) three ∙ append_assoc h ((a ++ l) ++ b) n in
    hz ∙ ap (λ (t : List ℕ). t ++ e) four ∙ append_assoc h (((a ++ l) ++ b) ++ n) e
