-- A text is trimmed where trimming leaves its length.
use Rattle.std.proofs.Common.{◌≡◌, refl, sym, ap, ◌∙◌, subst, ℕ, List, [], ◌∷◌, ◌++◌, length, arith, append-nil, length-append}
use Rattle.tiny_http_text.specs.Bytes.{is_blank, IsTrimmed, trimmed}
use Rattle.tiny_http_text.proofs.BytesLemmas.{trims-is, trims-one}

-- a core that is as long as the text is the text
whole-core : (before after core text : List ℕ) → text ≡ before ++ core ++ after → length core ≡ length text → text ≡ core
whole-core [] [] core text j l = j ∙ append-nil core
whole-core [] (a ∷ rest) core text j l = absurd (omega (arith, ap length j, length-append core (a ∷ rest)))
whole-core (b ∷ bs) after core text j l = absurd (omega (arith, ap length j, length-append (bs ++ core) after, length-append bs core))

-- a text is trimmed if trimming leaves its length
pub trimmed-whole : (text core : List ℕ) → core ≡ trimmed is_blank text → length core ≡ length text → IsTrimmed text
trimmed-whole text core e l =
    let t = trims-is is_blank text in
    let long : length (trimmed is_blank text) ≡ length text = ap length (sym e) ∙ l in
    subst IsTrimmed (sym (whole-core t.before t.after (trimmed is_blank text) text t.joins long)) (t.bare_front, t.bare_end)

pub whole-trimmed : (text core : List ℕ) → core ≡ trimmed is_blank text → IsTrimmed text → length core ≡ length text
whole-trimmed text core e h =
    ap length (e ∙ trims-one is_blank text text (record { before = []; after = []; joins = sym (append-nil text); blank_before = refl; blank_after = refl; bare_front = h.0; bare_end = h.1 }))
