use Rattle.std.proofs.Common.{refl, sym, subst, Bool}
use Rattle.tiny_http_body.specs.Body.{IsNewDecoding}
use Rattle.tiny_http_body.proofs.body.chunked.Goals as goal

pub returns-then-by_standard : goal.returns-then-by_standard
returns-then-by_standard c =
    let d = c.new_with.result in
    let P : Bool → Type 0 = λ t. IsNewDecoding t d in
    (d, refl, subst P (sym c.if-by_standard.true) (record { rules = c.new_with.ensures.rules; whole = c.new_with.ensures.whole; front = c.new_with.ensures.front }))

pub returns-else-by_standard : goal.returns-else-by_standard
returns-else-by_standard c =
    let d = c.new_with-else-by_standard.result in
    let P : Bool → Type 0 = λ t. IsNewDecoding t d in
    (d, refl, subst P (sym c.if-by_standard.false) (record { rules = c.new_with-else-by_standard.ensures.rules; whole = c.new_with-else-by_standard.ensures.whole; front = c.new_with-else-by_standard.ensures.front }))
