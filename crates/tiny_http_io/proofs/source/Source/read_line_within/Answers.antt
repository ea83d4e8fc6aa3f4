use Rattle.std.proofs.Common.{rules, Some}
use Rattle.tiny_http_io.proofs.SourceGoesOn.{within-goes_on}
use Rattle.tiny_http_io.proofs.SourceOver.{source-stays}
use Rattle.tiny_http_io.proofs.source.Source.read_line_within.Goals as goal

pub returns-clause-reads : goal.returns-clause-reads
returns-clause-reads g c =
    record {
      line = search rules;
      goes_on = rw (← c.self.view_is) (within-goes_on (Some c.args.left) _ _ c.read_line.result c.read_line.ensures.line);
      limited = search rules;
      once = search rules;
      over = search rules;
      ended = search rules;
      stop = search rules;
      stays = rw (← c.self.view_is) (source-stays g.R.ReadDevice.feed c.self.inside.input_state c.self.inside.input c.read_line.new.self (Some c.args.left) _ c.read_line.ensures.stays);
      lazy = search rules;
      passed = search rules;
      held = search rules;
      full = search rules;
      input_state = search rules;
    }
