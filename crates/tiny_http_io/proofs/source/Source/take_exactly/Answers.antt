use Rattle.std.proofs.Common.{rules}
use Rattle.tiny_http_io.proofs.source.Source.take_exactly.Goals as goal

pub returns-clause-takes : goal.returns-clause-takes
returns-clause-takes g c =
    record {
      takes = search rules;
      exact = search rules;
      over = search rules;
      err = search rules;
      once = search rules;
      lazy = search rules;
      held = search rules;
      goes_on = rw (← c.self.view_is) c.take_exactly.ensures.goes_on;
      input_state = search rules;
    }
