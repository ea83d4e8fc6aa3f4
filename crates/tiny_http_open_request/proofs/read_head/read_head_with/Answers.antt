use Rattle.std.proofs.Common.{rules, ◌≡◌, sym, ap, ◌∙◌, subst, Ok, Result}
use Rattle.std.specs.declared.alloc.AllocError.{AllocError}
use Rattle.tiny_http_io.specs.declared.source.InputState.TheVariants as at
use Rattle.tiny_http_open_request.specs.declared.exchange.HeadRead.{HeadRead}
use Rattle.tiny_http_open_request.specs.declared.exchange.HeadRead.TheVariants as read
use Rattle.tiny_http_open_request.specs.declared.exchange.EndOfRequests.{EndOfRequests}
use Rattle.tiny_http_open_request.specs.HeadReads.{ReadsHead, end_at}
use Rattle.tiny_http_io.proofs.SourceGoesOn.{goes-on_more}
use Rattle.tiny_http_body.proofs.BodyReads.{goes-on_end}
use Rattle.tiny_http_open_request.proofs.HeadReadsServing.{head-end}
use Rattle.tiny_http_open_request.proofs.read_head.read_head_with.Goals as goal

pub returns-in-Body : goal.returns-in-Body
returns-in-Body g c =
    record {
      reads = search rules;
      ends = search rules;
      last = search rules;
      unread = search rules;
      goes_on = goes-on_end _ _ c.end.ensures.feed;
      at_end = search rules;
      begun = search rules;
      framed = search rules;
      fits = search rules;
      lazy = search rules;
      input_state = search rules;
    }

pub returns-in-Ok-Ended : goal.returns-in-Ok-Ended
returns-in-Ok-Ended g c =
    let old = c.args.source.now in
    let new = c.end-in-Ok-Ended.new.self.feed in
    let why = c.in-Ok-Ended.why in
    let P : Result HeadRead AllocError → Type 0 = λ r. ReadsHead c.args.profile at.Head c.args.now old.feed c.read_item-read.new.source.feed r in
    let Q : EndOfRequests → Type 0 = λ x. ReadsHead c.args.profile old.input_state c.args.now old.feed new (Ok (read.Ended x)) in
    let is : c.read_item-read.result ≡ Ok (read.Ended why) = search rules in
    record {
      reads = λ here. subst Q (sym (c.end_at.ensures ∙ ap (λ s. end_at s why) c.input_state-input_state.ensures)) (head-end c.args.profile old.input_state c.args.now old.feed c.read_item-read.new.source.feed new why here (subst P is c.read_item-read.ensures.reads));
      ends = search rules;
      last = search rules;
      unread = search rules;
      goes_on = goes-on_more _ _ _ c.read_item-read.ensures.goes_on (goes-on_end _ _ c.end-in-Ok-Ended.ensures.feed);
      at_end = search rules;
      begun = search rules;
      framed = search rules;
      fits = search rules;
      lazy = search rules;
      input_state = search rules;
    }

pub returns-then-last : goal.returns-then-last
returns-then-last g c =
    record {
      reads = search rules;
      ends = search rules;
      last = search rules;
      unread = search rules;
      goes_on = goes-on_more _ _ _ c.read_item-read.ensures.goes_on (goes-on_end _ _ c.end-then-last.ensures.feed);
      at_end = search rules;
      begun = search rules;
      framed = search rules;
      fits = search rules;
      lazy = search rules;
      input_state = search rules;
    }

pub returns-in-Err : goal.returns-in-Err
returns-in-Err g c =
    record {
      reads = search rules;
      ends = search rules;
      last = search rules;
      unread = search rules;
      goes_on = goes-on_more _ _ _ c.read_item-read.ensures.goes_on (goes-on_end _ _ c.end-in-Err.ensures.feed);
      at_end = search rules;
      begun = search rules;
      framed = search rules;
      fits = search rules;
      lazy = search rules;
      input_state = search rules;
    }
