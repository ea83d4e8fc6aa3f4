use Rattle.std.proofs.Common.{rules}
use Rattle.tiny_http_io.proofs.SourceGoesOn.{takes-goes_on}
use Rattle.tiny_http_io.proofs.source.Source.pass_line.Goals as goal

pub returns : goal.returns
returns g c =
    record {
      line = search rules;
      goes_on = rw (← c.self.view_is) (takes-goes_on _ _ _ c.pass_line.ensures.line);
      rest = search rules;
      reader = search rules;
      stop = search rules;
      input_state = search rules;
    }
