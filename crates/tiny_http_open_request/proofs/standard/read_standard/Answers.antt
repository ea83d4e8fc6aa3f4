use Rattle.std.proofs.Common.{rules, refl, ap, ◌∙◌, subst, Option, Ok}
use Rattle.tiny_http_io.specs.Device.{Feed}
use Rattle.tiny_http_io.specs.Source.{GoesOn}
use Rattle.tiny_http_io.specs.declared.source.InputState.TheVariants as at
use Rattle.tiny_http_io.proofs.SourceGoesOn.{goes-on_more}
use Rattle.tiny_http_body.specs.declared.framing.Profile.TheVariants.{Standard}
use Rattle.tiny_http_open_request.specs.declared.exchange.HeadRead.TheVariants as read
use Rattle.tiny_http_open_request.specs.HeadReads.{ReadsHead, head_framing}
use Rattle.tiny_http_open_request.proofs.HeadReadsServing.{cut-stop, fits-handed}
use Rattle.tiny_http_open_request.proofs.StandardServing.{standard-closed, standard-faulty, standard-unfinished, standard-handed, standard-body_cut, standard-framed}
use Rattle.tiny_http_open_request.proofs.standard.read_standard.Goals as goal

pub returns-then-not-has_byte-clause-reads : goal.returns-then-not-has_byte-clause-reads
returns-then-not-has_byte-clause-reads g c =
    let first = c.if-not-has_byte.ensures.looks in
    standard-closed c.args.now c.args.source.now.feed c.has_byte.new.self c.stop.result c.answer_standard_cut.result (first.none refl).0 first.feed (first.none refl).1 c.stop.ensures.over c.answer_standard_cut.ensures

pub returns-in-Ok-Refused-clause-reads : goal.returns-in-Ok-Refused-clause-reads
returns-in-Ok-Refused-clause-reads g c =
    let reads = rw c.in-Ok-Refused.field-0-is at c.in-Ok-Refused.ensures.reads in
    subst (λ (o : Option Feed). ReadsHead Standard at.Head c.args.now o c.read_head_from.new.source.feed c.refuse.result) c.has_byte.ensures.looks.feed
    (standard-faulty c.args.now c.has_byte.new.self.feed c.read_head_from.new.source.feed c.in-Ok-Refused.fault c.refuse.result reads c.refuse.ensures)

pub returns-in-Ok-Unfinished-clause-reads : goal.returns-in-Ok-Unfinished-clause-reads
returns-in-Ok-Unfinished-clause-reads g c =
    let reads = rw c.in-Ok-Unfinished.field-0-is at c.in-Ok-Unfinished.ensures.reads in
    let cut = rw c.in-Ok-Unfinished.field-0-is at c.in-Ok-Unfinished.ensures.cut in
    subst (λ (o : Option Feed). ReadsHead Standard at.Head c.args.now o c.read_head_from.new.source.feed c.answer_standard_cut-in-Ok-Unfinished.result) c.has_byte.ensures.looks.feed
    (standard-unfinished c.args.now c.has_byte.new.self.feed c.read_head_from.new.source.feed c.in-Ok-Unfinished.has_begun c.stop-in-Ok-Unfinished.result c.answer_standard_cut-in-Ok-Unfinished.result reads
    (λ f e. cut-stop c.has_byte.new.self c.read_head_from.new.source c.stop-in-Ok-Unfinished.result f e (cut tt) c.stop-in-Ok-Unfinished.ensures.over) c.answer_standard_cut-in-Ok-Unfinished.ensures)

pub returns-in-Ok-clause-reads : goal.returns-in-Ok-clause-reads
returns-in-Ok-clause-reads g c =
    let reads = rw c.in-Ok-Whole.field-0-is at c.in-Ok-Whole.ensures.reads in
    let taken = rw c.in-Ok-Some.field-0-is at c.in-Ok-Some.ensures in
    let kept = c.in-Ok.ensures in
    let says = c.new-in-Ok.ensures in
    let x = c.new-in-Ok.result in
    subst (λ (o : Option Feed). ReadsHead Standard at.Head c.args.now o c.begin_body.new.source.feed (Ok (read.Request x))) c.has_byte.ensures.looks.feed
    (standard-handed c.args.now c.has_byte.new.self.feed c.read_head_from.new.source.feed c.begin_body.new.source.feed c.in-Ok-Whole.head c.framing_of-framing.result c.head_of-head.result c.in-Ok-Some.body x c.head_of-head.ensures.message c.framing_of-framing.ensures
    c.head_of-head.ensures.framing reads taken.begins says.head (search (rules, says.open, kept.0)) (search (rules, says.open, kept.1)))

pub returns-in-Ok-None-clause-reads : goal.returns-in-Ok-None-clause-reads
returns-in-Ok-None-clause-reads g c =
    let reads = rw c.in-Ok-Whole.field-0-is at c.in-Ok-Whole.ensures.reads in
    let taken = rw c.in-Ok-None.field-0-is at c.in-Ok-None.ensures in
    subst (λ (o : Option Feed). ReadsHead Standard at.Head c.args.now o c.begin_body.new.source.feed c.answer_cut.result) c.has_byte.ensures.looks.feed
    (standard-body_cut c.args.now c.has_byte.new.self.feed c.read_head_from.new.source.feed c.begin_body.new.source.feed c.in-Ok-Whole.head c.framing_of-framing.result c.stop-in-Ok-None.result c.answer_cut.result c.framing_of-framing.ensures reads taken.begins
    (λ x e. cut-stop c.read_head_from.new.source c.begin_body.new.source c.stop-in-Ok-None.result x e (taken.cut refl) c.stop-in-Ok-None.ensures.over) c.answer_cut.ensures)

pub returns-in-Ok-clause-goes_on : goal.returns-in-Ok-clause-goes_on
returns-in-Ok-clause-goes_on g c = subst (λ (o : Option Feed). GoesOn o c.begin_body.new.source.feed) c.has_byte.ensures.looks.feed (goes-on_more _ _ _ c.in-Ok-Whole.ensures.goes_on c.begin_body.ensures.goes_on)

pub returns-in-Err-new-clause-goes_on : goal.returns-in-Err-new-clause-goes_on
returns-in-Err-new-clause-goes_on g c = subst (λ (o : Option Feed). GoesOn o c.begin_body.new.source.feed) c.has_byte.ensures.looks.feed (goes-on_more _ _ _ c.in-Ok-Whole.ensures.goes_on c.begin_body.ensures.goes_on)

pub returns-in-Ok-None-clause-goes_on : goal.returns-in-Ok-None-clause-goes_on
returns-in-Ok-None-clause-goes_on g c = subst (λ (o : Option Feed). GoesOn o c.begin_body.new.source.feed) c.has_byte.ensures.looks.feed (goes-on_more _ _ _ c.in-Ok-Whole.ensures.goes_on c.begin_body.ensures.goes_on)

pub returns-in-Err-begin_body-clause-goes_on : goal.returns-in-Err-begin_body-clause-goes_on
returns-in-Err-begin_body-clause-goes_on g c = subst (λ (o : Option Feed). GoesOn o c.begin_body.new.source.feed) c.has_byte.ensures.looks.feed (goes-on_more _ _ _ c.in-Ok-Whole.ensures.goes_on c.begin_body.ensures.goes_on)

pub returns-in-Ok-clause-framed : goal.returns-in-Ok-clause-framed
returns-in-Ok-clause-framed g c =
    let validated = rw c.in-Ok-Whole.field-0-is at c.in-Ok-Whole.ensures.validated in
    let kept = c.in-Ok.ensures in
    let says = c.new-in-Ok.ensures in
    standard-framed c.args.now c.in-Ok-Whole.head c.framing_of-framing.result c.head_of-head.result c.new-in-Ok.result validated c.head_of-head.ensures.message c.framing_of-framing.ensures c.head_of-head.ensures.framing says.head (search (rules, says.open, kept.1))

pub returns-in-Ok-clause-fits : goal.returns-in-Ok-clause-fits
returns-in-Ok-clause-fits g c =
    let taken = rw c.in-Ok-Some.field-0-is at c.in-Ok-Some.ensures in
    let kept = c.in-Ok.ensures in
    let says = c.new-in-Ok.ensures in
    fits-handed c.framing_of-framing.result c.in-Ok-Some.body c.new-in-Ok.result (ap head_framing says.head ∙ c.head_of-head.ensures.framing) (search (rules, says.open, kept.0)) taken.fits
