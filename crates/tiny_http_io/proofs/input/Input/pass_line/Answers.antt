use Rattle.std.proofs.Common.{◌≡◌, ◌+◌, ◌∙◌, ℕ, Ok, take, drop, drop-drop, refl, ap}
use Rattle.tiny_http_io.specs.Input.{input_feed}
use Rattle.tiny_http_io.proofs.LineEndsScanning.{line-given}
use Rattle.tiny_http_io.proofs.SourceLines.{takes-line}
use Rattle.tiny_http_io.proofs.input.Input.pass_line.Goals as goal

pub returns-clause-line : goal.returns-clause-line
returns-clause-line g c =
    let self = c.args.self.now in
    let n = c.args.n in
    let new = record self { held = c.consume-2.new.self } in
    let left : c.consume-2.new.self ≡ drop (n + 2) self.held = c.consume-2.ensures ∙ (ap (drop 2) c.consume.ensures ∙ drop-drop 2 n self.held) in
    takes-line (input_feed g.R.ReadDevice.feed self) (input_feed g.R.ReadDevice.feed new) (take n self.held)
    (line-given {E = ℕ} g.R.ReadDevice.feed (Ok (take n self.held)) (λ x. x) n self self new refl c.requires.skip c.requires.line refl (ap (λ h. record self { held = h }) left))
    c.requires.line.first

pub returns-clause-rest : goal.returns-clause-rest
returns-clause-rest g c = (c.consume-2.ensures ∙ (ap (drop 2) c.consume.ensures ∙ drop-drop 2 c.args.n c.args.self.now.held), c.requires.skip)
