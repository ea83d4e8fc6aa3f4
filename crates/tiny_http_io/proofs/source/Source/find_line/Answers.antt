use Rattle.std.proofs.Common.{rules}
use Rattle.tiny_http_io.proofs.SourceGoesOn.{finds-goes_on}
use Rattle.tiny_http_io.proofs.SourceOver.{source-stays}
use Rattle.tiny_http_io.proofs.source.Source.find_line.Goals as goal

pub returns-clause-finds : goal.returns-clause-finds
returns-clause-finds g c =
    record {
      line = search rules;
      goes_on = rw (← c.self.view_is) (finds-goes_on c.args.left _ _ _ _ c.find_line.result c.find_line.ensures.line);
      limited = search rules;
      over = search rules;
      ended = search rules;
      stop = search rules;
      once = search rules;
      held = search rules;
      full = search rules;
      stays = rw (← c.self.view_is) (source-stays g.R.ReadDevice.feed c.self.inside.input_state c.self.inside.input c.find_line.new.self c.args.left _ c.find_line.ensures.stays);
      memory = search rules;
      lazy = search rules;
      input_state = search rules;
    }
