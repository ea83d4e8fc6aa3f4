use Rattle.std.proofs.Common.{rules}
use Rattle.tiny_http_io.proofs.SourceGoesOn.{goes-on_given, goes-on_more}
use Rattle.tiny_http_body.proofs.BodyReads.{goes-on_end}
use Rattle.tiny_http_body.proofs.body.UnreadBody.read_chunked.Goals as goal

pub returns-in-Ok-eq0-clause-reads : goal.returns-in-Ok-eq0-clause-reads
returns-in-Ok-eq0-clause-reads g c =
    let t = c.read.ensures.takes in
    record {
      bound = search rules;
      bytes = search rules;
      end = search rules;
      fault = search rules;
      again = search rules;
      moves = search rules;
      ended = search rules;
      over = search rules;
      at_end = search rules;
      goes_on = goes-on_given _ _ t.0 t.1;
    }

pub returns-in-Ok-clause-reads : goal.returns-in-Ok-clause-reads
returns-in-Ok-clause-reads g c =
    let t = c.read.ensures.takes in
    record {
      bound = search rules;
      bytes = search rules;
      end = search rules;
      fault = search rules;
      again = search rules;
      moves = search rules;
      ended = search rules;
      over = search rules;
      at_end = search rules;
      goes_on = goes-on_given _ _ t.0 t.1;
    }

pub returns-in-Err-clause-reads : goal.returns-in-Err-clause-reads
returns-in-Err-clause-reads g c =
    let t = c.read.ensures.takes in
    record {
      bound = search rules;
      bytes = search rules;
      end = search rules;
      fault = search rules;
      again = search rules;
      moves = search rules;
      ended = search rules;
      over = search rules;
      at_end = search rules;
      goes_on = goes-on_more _ _ _ (goes-on_given _ _ t.0 t.1) (goes-on_end _ _ c.end.ensures.feed);
    }
