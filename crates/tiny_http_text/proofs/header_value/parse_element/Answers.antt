use Rattle.std.proofs.Common.{◌≡◌, sym, ap, ◌∙◌, subst, ℕ, List}
use Rattle.tiny_http_text.specs.Qualities.{Element}
use Rattle.tiny_http_text.specs.QualityReading.{element}
use Rattle.tiny_http_text.proofs.QualitiesLemmas.{element-is}
use Rattle.tiny_http_text.proofs.QualityReadingLemmas.{element-bare, element-parted}
use Rattle.tiny_http_text.proofs.header_value.parse_element.Goals as goal

of-computed : (text : List ℕ) (e : List ℕ × ℕ) → e ≡ element text → Element text e.0 e.1
of-computed text e h = let P : List ℕ × ℕ → Type 0 = λ x. Element text x.0 x.1 in subst P (sym h) (element-is text)

pub returns-in-None : goal.returns-in-None
returns-in-None c =
    let pair : List ℕ → List ℕ × ℕ = λ name. (name, 1000) in
    let is = ap pair c.trim.ensures ∙ element-bare c.args.text.now c.in-None.ensures.none in
    record { computed = is; element = of-computed c.args.text.now (pair c.trim.result.now) is }

pub returns-in-Some : goal.returns-in-Some
returns-in-Some c =
    let cut = c.in-Some.ensures.some in
    let pair : List ℕ → ℕ → List ℕ × ℕ = λ name q. (name, q) in
    let is =
    ap (λ name. pair name c.first_quality.result) c.trim-in-Some.ensures ∙ ap (pair _) c.first_quality.ensures
    ∙ element-parted c.args.text.now c.in-Some.name.now c.in-Some.parameters.now cut.0 cut.1
    in
    record { computed = is; element = of-computed c.args.text.now (pair c.trim-in-Some.result.now c.first_quality.result) is }
