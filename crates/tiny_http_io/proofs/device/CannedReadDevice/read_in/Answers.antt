use Rattle.std.proofs.Common.{rules, arith}
use Rattle.std.proofs.lemmas.Grind.{common_steps}
use Rattle.tiny_http_io.proofs.DeviceFeeds.{feed_goes_on}
use Rattle.tiny_http_io.proofs.device.CannedReadDevice.read_in.Goals as goal

pub returns-2-clause-reads : goal.returns-2-clause-reads
returns-2-clause-reads c =
    let inside = c.self.inside in
    record {
      bound = search rules;
      bytes = feed_goes_on _ inside.bytes.items _ inside.at c.copy_front-n.result inside.stop _ c.self.view_is c.deref.ensures.value c.copy_front-n.ensures.copied;
      end = grind (arith, common_steps);
      fault = search rules;
      again = search rules;
    }
