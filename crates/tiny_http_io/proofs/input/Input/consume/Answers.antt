use Rattle.std.proofs.Common.{◌≡◌, refl, sym, subst, ℕ, List, take, drop}
use Rattle.tiny_http_io.specs.Device.{prepended}
use Rattle.tiny_http_io.specs.ToCome.{behind_held, to_come}
use Rattle.tiny_http_io.proofs.LineEndsScanning.{held-line}
use Rattle.tiny_http_io.proofs.input.Input.consume.Goals as goal

pub returns-clause-feed : goal.returns-clause-feed
returns-clause-feed g c =
    let self = c.args.self.now in
    let n = c.args.n in
    let come = behind_held self.stop (g.R.ReadDevice.feed self.inner) in
    let T : ℕ → Type 0 = λ k. to_come k self.held come ≡ prepended (take n self.held) (to_come k (drop n self.held) come) in
    let P : List ℕ → Type 0 = λ h. to_come self.skip self.held come ≡ prepended (take n self.held) (to_come self.skip h come) in
    subst P (sym c.consume.ensures) (subst T (sym c.requires.skip) (held-line n (take n self.held) self.held come refl))
