use Rattle.std.proofs.Common.{rules, arith, ap, ◌≡◌, ◌≤◌, ℕ, length, replicate}
use Rattle.std.proofs.lemmas.Grind.{common_steps}
use Rattle.tiny_http_wire.specs.declared.device.Stop.TheVariants.{End}
use Rattle.replay_script.proofs.XsLemmas.{xs_go_on}
use Rattle.replay_script.proofs.script_data.XsReadDevice.read_in.Goals as goal

pub returns-2-clause-reads : goal.returns-2-clause-reads
returns-2-clause-reads c =
    let given = c.args.self.now in
    let count = c.write_xs-n.ensures.count in
    let len = c.write_xs-n.ensures.len in
    let bound : c.write_xs-n.result ≤ length c.write_xs-n.new.to = omega (arith, count, len) in
    let within : c.write_xs-n.result ≤ given.left = omega (arith, count) in
    record {
      bound = bound;
      bytes = xs_go_on given.left c.write_xs-n.result given.stop c.write_xs-n.new.to within c.write_xs-n.ensures.xs;
      end = λ zero room.
          let none : given.left ≡ 0 = omega (arith, count, len, zero, room) in
          let ended : given.stop ≡ End = grind (arith, common_steps) in
          (ap (λ n. replicate {A = ℕ} n 120) none, ended);
      fault = search rules;
      again = search rules;
    }
