use Rattle.std.proofs.Common.{◌≡◌, ℕ, Bool, true, false, ◌&&◌, sym, subst, ◌∙◌, refl}
use Rattle.std.proofs.lemmas.Bool.{eqb-true}
use Rattle.std.specs.Prelude.{eqb}
use Rattle.tiny_http_io.specs.Device.{Puts}
use Rattle.std.specs.Prelude.{codes}
use Rattle.std.specs.Fmt.{digits}
use Rattle.tiny_http_head.specs.Common.{reason_phrase}
use Rattle.tiny_http_head.specs.declared.common.HTTPVersion.{HTTPVersion}
use Rattle.tiny_http_response.specs.Answer.{status_line}
use Rattle.tiny_http_response.proofs.answer_head.put_status_line.Goals as goal

both : (a b c d : ℕ) → (eqb a b && eqb c d) ≡ true → (a ≡ b) × (c ≡ d)
both a b c d e = (eqb-true a b (first (eqb a b) (eqb c d) e), eqb-true c d (second (eqb a b) (eqb c d) e))
  where
    first : (x y : Bool) → (x && y) ≡ true → x ≡ true
    first true y e = refl
    first false y e = cc

    second : (x y : Bool) → (x && y) ≡ true → y ≡ true
    second true y e = e
    second false y e = cc

-- the line of a 200 under 1.1 as one piece
same : status_line (record { 0 = 1; 1 = 1 }) 200 ≡ codes "HTTP/1.1 200 OK\r\n"
unfolding status_line digits reason_phrase
same = refl

pub returns-then-eq-2 : goal.returns-then-eq-2
returns-then-eq-2 g c =
    let v = c.args.version in
    let version = both v.0 1 v.1 1 (sym c.eq.ensures ∙ c.if-eq.true) in
    let code : c.args.status.0 ≡ 200 = eqb-true c.args.status.0 200 (sym c.eq-then-eq.ensures ∙ c.if-eq-2.true) in
    let line : HTTPVersion → ℕ → Type 0 = λ v n. Puts (g.W.WriteDevice.sink c.args.writer.now) (g.W.WriteDevice.sink c.put.new.writer) c.put.result (status_line v n) in
    subst (λ n. line v n) (sym code) (subst (λ m. line (record { 0 = v.0; 1 = m }) 200) (sym version.1) (subst (λ m. line (record { 0 = m; 1 = 1 }) 200) (sym version.0) (subst (λ t. Puts (g.W.WriteDevice.sink c.args.writer.now) (g.W.WriteDevice.sink c.put.new.writer) c.put.result t) (sym same) c.put.ensures)))
