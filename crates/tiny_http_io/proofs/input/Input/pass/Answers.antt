use Rattle.std.proofs.Common.{◌-◌, ap, ◌∙◌, arith}
use Rattle.tiny_http_io.specs.ToCome.{behind_held, to_come}
use Rattle.tiny_http_io.proofs.ToComeLemmas.{to_come-passed}
use Rattle.tiny_http_io.proofs.input.Input.pass.Goals as goal

pub returns-clause-feed : goal.returns-clause-feed
returns-clause-feed g c =
    let s = c.args.self.now in
    let rest = behind_held s.stop (g.R.ReadDevice.feed s.inner) in
    ap (λ held. to_come (s.skip - c.min-n.result) held rest) c.consume.ensures ∙ to_come-passed s.skip c.min-n.result s.held rest (omega arith) (omega arith)
