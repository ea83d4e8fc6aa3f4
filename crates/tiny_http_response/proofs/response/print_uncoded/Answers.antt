use Rattle.std.proofs.Common.{None, length, if◌then◌else◌, []}
use Rattle.tiny_http_body.specs.Text.{whole, identity_body}
use Rattle.tiny_http_response.specs.ResponseHead.{response_head_text}
use Rattle.tiny_http_response.specs.declared.coding.FramingHeader.TheVariants.{ContentLength}
use Rattle.tiny_http_response.proofs.AnswerLemmas.{response_head-some, Uncoded-printed, Uncoded-gathered}
use Rattle.tiny_http_response.proofs.response.print_uncoded.Goals as goal

pub returns-in-Some-clause-text : goal.returns-in-Some-clause-text
returns-in-Some-clause-text g c =
    let head = c.args.head.now in
    rw c.in-Some.is (Uncoded-printed _ _ _ _ (response_head_text head None (ContentLength c.in-Some.n)) (λ f. if c.args.withheld then whole [] else identity_body c.in-Some.n f) c.in-Some.n (response_head-some head None (ContentLength c.in-Some.n)) c.print_as_it_is.ensures.text)

pub returns-in-None-clause-text : goal.returns-in-None-clause-text
returns-in-None-clause-text g c = rw c.in-None.is (Uncoded-gathered _ _ _ _ (λ f. response_head_text c.args.head.now None (ContentLength (length f.bytes))) c.args.withheld c.print_gathered.ensures.text)
