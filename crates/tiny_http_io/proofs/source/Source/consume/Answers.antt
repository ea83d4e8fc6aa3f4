use Rattle.std.proofs.Common.{rules}
use Rattle.tiny_http_io.proofs.SourceGoesOn.{goes-on_given}
use Rattle.tiny_http_io.proofs.source.Source.consume.Goals as goal

pub returns : goal.returns
returns g c =
    record {
      feed = search rules;
      goes_on = rw (← c.self.view_is) (goes-on_given _ _ _ c.consume.ensures.feed);
      rest = search rules;
      reader = search rules;
      stop = search rules;
      input_state = search rules;
    }
