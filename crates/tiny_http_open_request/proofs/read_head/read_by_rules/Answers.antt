use Rattle.std.proofs.Common.{rules, refl, sym, ap, ◌∙◌, subst, ℕ, Bool, true, false, Option, Ok, Err}
use Rattle.tiny_http_io.specs.Device.{Feed}
use Rattle.tiny_http_io.specs.Source.{GoesOn}
use Rattle.tiny_http_io.specs.declared.source.InputState.TheVariants as at
use Rattle.tiny_http_open_request.specs.declared.exchange.HeadRead.TheVariants as read
use Rattle.tiny_http_open_request.specs.HeadReads.{ReadsHead, ReadsMessage, RefusesWith, RefusesTooNew, head_framing}
use Rattle.tiny_http_open_request.specs.Pipeline.{ends_too_new, plainly, profile_of}
use Rattle.tiny_http_open_request.proofs.HeadReadsServing.{fits-handed, head-closed, head-refused, head-unframed, head-too_new, passed-on, head-cut, head-handed, cut-stop, begun-is, end-unanswered, timed-out, other-rules, cut-passed, fault-passed}
use Rattle.tiny_http_io.proofs.SourceGoesOn.{goes-on_more}
use Rattle.tiny_http_open_request.proofs.read_head.read_by_rules.Goals as goal

pub returns-then-not-has_byte-clause-reads : goal.returns-then-not-has_byte-clause-reads
returns-then-not-has_byte-clause-reads g c =
    let first = c.if-not-has_byte.ensures.looks in
    head-closed c.args.rules c.args.now c.args.source.now.feed c.has_byte.new.self c.stop.result c.answer_cut.result (first.none refl).0 first.feed (first.none refl).1 c.stop.ensures.over c.answer_cut.ensures

pub returns-then-not-has_byte-clause-at_end : goal.returns-then-not-has_byte-clause-at_end
returns-then-not-has_byte-clause-at_end g c end =
    let same = (c.has_byte.ensures.looks.stays end.0).1 in
    (end-unanswered c.args.now c.stop.result false c.answer_cut.result (c.stop.ensures.stop ∙ ap (λ s. s.stop) same ∙ end.1) c.answer_cut.ensures, same)

pub returns-then-not-has_byte-clause-begun : goal.returns-then-not-has_byte-clause-begun
returns-then-not-has_byte-clause-begun g c some =
    let first = c.if-not-has_byte.ensures.looks in
    timed-out (profile_of c.args.rules) c.args.now c.args.source.now.feed c.has_byte.new.self c.stop.result c.answer_cut.result first.feed (first.none refl).1 c.stop.ensures.over c.answer_cut.ensures some (other-rules c.args.rules)

pub returns-then-not-has_byte-clause-passed : goal.returns-then-not-has_byte-clause-passed
returns-then-not-has_byte-clause-passed g c =
    cut-passed _ c.stop.result false c.args.now c.answer_cut.result (c.stop.ensures.over (c.if-not-has_byte.ensures.looks.none refl).1).0 c.answer_cut.ensures

pub returns-in-Err-clause-reads : goal.returns-in-Err-clause-reads
returns-in-Err-clause-reads g c =
    let first = c.has_byte in
    let mid = first.new.self in
    let new = c.read_message.new.source in
    let P : Option Feed → Type 0 = λ o. ReadsHead (profile_of c.args.rules) at.Head c.args.now o new.feed c.answer_fault.result in
    subst P first.ensures.looks.feed
    (head-refused c.args.rules c.args.now mid.feed new.feed c.in-Err.version c.in-Err.fault c.stop-in-Err.result c.answer_fault.result (subst (λ l. ReadsMessage l mid.feed new.feed (Err (c.in-Err.version, c.in-Err.fault))) c.head_limit.ensures c.in-Err.ensures.reads) c.answer_fault.ensures
    (λ f e cut. (cut-stop mid new c.stop-in-Err.result f e (c.in-Err.ensures.cut cut) c.stop-in-Err.ensures.over, begun-is c.args.source.now.feed f (sym first.ensures.looks.feed ∙ e) (c.if-not-has_byte.ensures.looks.some refl).0)))

pub returns-in-Err-clause-passed : goal.returns-in-Err-clause-passed
returns-in-Err-clause-passed g c =
    fault-passed _ c.in-Err.version c.in-Err.fault c.stop-in-Err.result c.args.now c.answer_fault.result c.answer_fault.ensures
    (λ cut. (c.stop-in-Err.ensures.over (c.in-Err.ensures.cut cut).over).0) (λ bad. c.in-Err.ensures.passed bad ∙ (c.if-not-has_byte.ensures.looks.some refl).1)

pub returns-in-Err-framing_of-clause-reads : goal.returns-in-Err-framing_of-clause-reads
returns-in-Err-framing_of-clause-reads g c =
    let fault = c.in-Err-framing_of.fault in
    let P : Option Feed → Type 0 = λ o. ReadsHead (profile_of c.args.rules) at.Head c.args.now o c.read_message.new.source.feed c.refused_with.result in
    let R : ℕ → Type 0 = λ n. RefusesWith n (plainly c.in-Ok.message.version) c.args.now c.refused_with.result in
    subst P c.has_byte.ensures.looks.feed
    (head-unframed c.args.rules _ _ _ c.in-Ok.message fault c.refused_with.result (subst (λ l. ReadsMessage l c.has_byte.new.self.feed c.read_message.new.source.feed (Ok c.in-Ok.message)) c.head_limit.ensures c.in-Ok.ensures.reads) (search (rules, c.as_slice.ensures.value, c.in-Err-framing_of.ensures)) (subst R c.refusal_of.ensures c.refused_with.ensures))

pub returns-then-is_too_new-clause-reads : goal.returns-then-is_too_new-clause-reads
returns-then-is_too_new-clause-reads g c =
    let taken = rw c.in-Ok-Some.field-0-is at c.in-Ok-Some.ensures in
    let refused = c.refuse_too_new in
    let P : Option Feed → Type 0 = λ o. ReadsHead (profile_of c.args.rules) at.Head c.args.now o refused.new.source.feed refused.result in
    let R : Bool → Type 0 = λ y. RefusesTooNew (ends_too_new c.in-Ok-framing_of.framing.form) y c.args.now refused.result in
    subst P c.has_byte.ensures.looks.feed
    (head-too_new c.args.rules c.args.now _ _ c.begin_body.new.source refused.new.source c.in-Ok.message c.in-Ok-framing_of.framing c.in-Ok-Some.body refused.result (subst (λ l. ReadsMessage l c.has_byte.new.self.feed c.read_message.new.source.feed (Ok c.in-Ok.message)) c.head_limit.ensures c.in-Ok.ensures.reads) (search (rules, c.as_slice.ensures.value, c.in-Ok-framing_of.ensures)) taken.begins
    (search (rules, c.if-is_too_new.ensures)) (subst R c.is_head-no_body.ensures refused.ensures.refuses) refused.ensures.passes)

pub returns-then-is_too_new-clause-passed : goal.returns-then-is_too_new-clause-passed
returns-then-is_too_new-clause-passed g c =
    let taken = rw c.in-Ok-Some.field-0-is at c.in-Ok-Some.ensures in
    let refused = c.refuse_too_new in
    passed-on _ _ _ c.args.now refused.result refused.ensures.refuses (λ ends. search (rules, refused.ensures.stays ends, taken.lazy refl, c.in-Ok.ensures.lazy, (c.if-not-has_byte.ensures.looks.some refl).1))

pub returns-then-is_too_new-clause-goes_on : goal.returns-then-is_too_new-clause-goes_on
returns-then-is_too_new-clause-goes_on g c =
    let P : Option Feed → Type 0 = λ o. GoesOn o c.refuse_too_new.new.source.feed in
    subst P c.has_byte.ensures.looks.feed (goes-on_more _ _ _ c.in-Ok.ensures.goes_on (goes-on_more _ _ _ c.begin_body.ensures.goes_on c.refuse_too_new.ensures.goes_on))

pub returns-in-Ok-new-clause-reads : goal.returns-in-Ok-new-clause-reads
returns-in-Ok-new-clause-reads g c =
    let taken = rw c.in-Ok-Some.field-0-is at c.in-Ok-Some.ensures in
    let kept = c.in-Ok-new.ensures in
    let says = c.new-in-Ok-new.ensures in
    let x = c.new-in-Ok-new.result in
    let P : Option Feed → Type 0 = λ o. ReadsHead (profile_of c.args.rules) at.Head c.args.now o c.begin_body.new.source.feed (Ok (read.Request x)) in
    subst P c.has_byte.ensures.looks.feed
    (head-handed c.args.rules _ _ _ _ c.in-Ok.message c.in-Ok-framing_of.framing c.head_of-head.result c.in-Ok-Some.body x c.head_of-head.ensures.message c.head_of-head.ensures.framing (subst (λ l. ReadsMessage l c.has_byte.new.self.feed c.read_message.new.source.feed (Ok c.in-Ok.message)) c.head_limit.ensures c.in-Ok.ensures.reads)
    (search (rules, c.as_slice.ensures.value, c.in-Ok-framing_of.ensures)) (search (rules, c.if-is_too_new.ensures)) taken.begins says.head (search (rules, says.open, kept.0)) (search (rules, says.open, kept.1)))

pub returns-in-Ok-None-clause-reads : goal.returns-in-Ok-None-clause-reads
returns-in-Ok-None-clause-reads g c =
    let taken = rw c.in-Ok-None.field-0-is at c.in-Ok-None.ensures in
    let P : Option Feed → Type 0 = λ o. ReadsHead (profile_of c.args.rules) at.Head c.args.now o c.begin_body.new.source.feed c.answer_cut-in-Ok-None.result in
    subst P c.has_byte.ensures.looks.feed
    (head-cut c.args.rules _ _ _ _ c.in-Ok.message c.in-Ok-framing_of.framing c.stop-in-Ok-None.result c.answer_cut-in-Ok-None.result (subst (λ l. ReadsMessage l c.has_byte.new.self.feed c.read_message.new.source.feed (Ok c.in-Ok.message)) c.head_limit.ensures c.in-Ok.ensures.reads) (search (rules, c.as_slice.ensures.value, c.in-Ok-framing_of.ensures)) taken.begins
    (λ x e. cut-stop c.read_message.new.source c.begin_body.new.source c.stop-in-Ok-None.result x e (taken.cut refl) c.stop-in-Ok-None.ensures.over) c.answer_cut-in-Ok-None.ensures)

pub returns-in-Ok-None-clause-passed : goal.returns-in-Ok-None-clause-passed
returns-in-Ok-None-clause-passed g c =
    let taken = rw c.in-Ok-None.field-0-is at c.in-Ok-None.ensures in
    cut-passed _ c.stop-in-Ok-None.result true c.args.now c.answer_cut-in-Ok-None.result (c.stop-in-Ok-None.ensures.over (taken.cut refl).over).0 c.answer_cut-in-Ok-None.ensures

pub returns-in-Ok-new-clause-goes_on : goal.returns-in-Ok-new-clause-goes_on
returns-in-Ok-new-clause-goes_on g c =
    let P : Option Feed → Type 0 = λ o. GoesOn o c.begin_body.new.source.feed in
    subst P c.has_byte.ensures.looks.feed (goes-on_more _ _ _ c.in-Ok.ensures.goes_on c.begin_body.ensures.goes_on)

pub returns-in-Err-new-clause-goes_on : goal.returns-in-Err-new-clause-goes_on
returns-in-Err-new-clause-goes_on g c =
    let P : Option Feed → Type 0 = λ o. GoesOn o c.begin_body.new.source.feed in
    subst P c.has_byte.ensures.looks.feed (goes-on_more _ _ _ c.in-Ok.ensures.goes_on c.begin_body.ensures.goes_on)

pub returns-in-Ok-None-clause-goes_on : goal.returns-in-Ok-None-clause-goes_on
returns-in-Ok-None-clause-goes_on g c =
    let P : Option Feed → Type 0 = λ o. GoesOn o c.begin_body.new.source.feed in
    subst P c.has_byte.ensures.looks.feed (goes-on_more _ _ _ c.in-Ok.ensures.goes_on c.begin_body.ensures.goes_on)

pub returns-in-Err-begin_body-clause-goes_on : goal.returns-in-Err-begin_body-clause-goes_on
returns-in-Err-begin_body-clause-goes_on g c =
    let P : Option Feed → Type 0 = λ o. GoesOn o c.begin_body.new.source.feed in
    subst P c.has_byte.ensures.looks.feed (goes-on_more _ _ _ c.in-Ok.ensures.goes_on c.begin_body.ensures.goes_on)

pub returns-in-Ok-new-clause-lazy : goal.returns-in-Ok-new-clause-lazy
returns-in-Ok-new-clause-lazy g c is =
    let taken = rw c.in-Ok-Some.field-0-is at c.in-Ok-Some.ensures in
    taken.lazy refl ∙ c.in-Ok.ensures.lazy ∙ (c.if-not-has_byte.ensures.looks.some refl).1

pub returns-in-Ok-new-clause-fits : goal.returns-in-Ok-new-clause-fits
returns-in-Ok-new-clause-fits g c =
    let taken = rw c.in-Ok-Some.field-0-is at c.in-Ok-Some.ensures in
    let kept = c.in-Ok-new.ensures in
    let says = c.new-in-Ok-new.ensures in
    fits-handed c.in-Ok-framing_of.framing c.in-Ok-Some.body c.new-in-Ok-new.result (ap head_framing says.head ∙ c.head_of-head.ensures.framing) (search (rules, says.open, kept.0)) taken.fits
