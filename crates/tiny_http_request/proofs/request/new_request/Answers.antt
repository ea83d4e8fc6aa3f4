use Rattle.std.proofs.Common.{rules, ◌≡◌, sym, ap, ◌∙◌, subst, true, false, not, ◌&&◌, Option, Some, None, Ok, Err}
use Rattle.std.specs.Prelude.{is_some, IfSome}
use Rattle.tiny_http_io.specs.Source.{SourceState}
use Rattle.tiny_http_threads.specs.declared.held_reader.HeldReader.{HeldReader}
use Rattle.tiny_http_threads.specs.HeldReader.{held_item}
use Rattle.tiny_http_request.specs.Body.{BodyState, input_of}
use Rattle.tiny_http_io.specs.Device.{Feed}
use Rattle.tiny_http_body.specs.declared.body.UnreadBody.{UnreadBody}
use Rattle.tiny_http_body.specs.declared.framing.HeadRules.TheVariants.{Lenient}
use Rattle.tiny_http_body.specs.declared.framing.Framing.{Framing}
use Rattle.tiny_http_body.specs.FramingReading.{framing}
use Rattle.tiny_http_body.proofs.FramingLemmas.{lenient-fault, asks-none}
use Rattle.tiny_http_body.specs.Body.{is_streaming}
use Rattle.tiny_http_open_request.specs.HeadReads.{Begins, FitsFraming, head_framing}
use Rattle.std.proofs.Math.Bool.{or-false}
use Rattle.tiny_http_request.specs.Request.{request_head, request_open, request_body}
use Rattle.tiny_http_request.proofs.request.new_request.Goals as goal

-- a body begins by what is equal to its framing and its feed
begins-by : (f f' : Framing) (feed feed' left : Option Feed) (b b' : UnreadBody) → f' ≡ f → feed' ≡ feed → b' ≡ b → Begins f feed left (Some b) → Begins f' feed' left (Some b')
begins-by f f' feed feed' left b b' same-f same-feed same-b begins =
    let F : Framing → Type 0 = λ x. Begins x feed' left (Some b') in
    let O : Option Feed → Type 0 = λ x. Begins f x left (Some b') in
    let B : UnreadBody → Type 0 = λ x. Begins f feed left (Some x) in
    subst F (sym same-f) (subst O (sym same-feed) (subst B (sym same-b) begins))

fits-by : (f f' : Framing) (b b' : UnreadBody) → f' ≡ f → b' ≡ b → FitsFraming f b → FitsFraming f' b'
fits-by f f' b b' same-f same-b fits =
    subst (λ x. FitsFraming x b') (sym same-f) (subst (λ x. FitsFraming f x) (sym same-b) fits)

pub from_parts-requires : goal.from_parts-requires
from_parts-requires g c =
    let w = c.in_ok-open_request.open_request in
    let kept = c.in_ok-open_request.ensures in
    let framed : framing Lenient c.args.version c.args.headers.items ≡ Ok c.in-Ok.framing = search (rules, c.as_slice.ensures.value, c.framing_of.ensures, c.in-Ok.is) in
    let asks = asks-none Lenient c.args.version c.args.headers.items c.in-Ok.framing framed in
    let holds : w.holds_next_head ≡ false = kept.1.holds_next_head ∙ ap (λ b. b && not c.in-Ok.framing.is_last) asks in
    c.in_ok-reader.ensures.0 ∙ ap is_streaming (sym kept.0) ∙ sym (rw holds (or-false (is_streaming w.body)))

pub returns-clause-body : goal.returns-clause-body
returns-clause-body g c = (
  c.body_of.new.source.feed,
  begins-by c.in-Ok.framing (head_framing (request_head c.from_parts.result)) c.new-source.result.feed (g.R.ReadDevice.feed c.args.source_data) c.body_of.new.source.feed c.in_ok-body.body c.from_parts.result.open_request.body.unread (search rules) (search rules) (search rules) c.in_ok-body.ensures.begins,
  fits-by c.in-Ok.framing (head_framing (request_head c.from_parts.result)) c.in_ok-body.body c.from_parts.result.open_request.body.unread (search rules) (search rules) c.in_ok-body.ensures.fits,
)

-- a reader that holds the source gives what that gives
input-is : {R Rt : Type 0} (reader : Option (HeldReader (SourceState R) Rt)) (source : SourceState R) → IfSome reader (λ held. held_item held ≡ source)
    → is_some reader ≡ true → input_of reader None ≡ source.feed
input-is None source h e = cc
input-is (Some held) source h e = ap (λ s. s.feed) h

pub returns-clause-input : goal.returns-clause-input
unfolding returns-clause-body
returns-clause-input g c = λ holds.
    let body = c.from_parts.ensures.body in
    let some : is_some c.in_ok-reader.reader ≡ true = sym (ap (λ (b : BodyState). b.holds_input) body) ∙ holds in
    let input : (request_body c.from_parts.result).input ≡ c.body_of.new.source.feed =
    ap (λ (b : BodyState). b.input) body ∙ input-is c.in_ok-reader.reader c.body_of.new.source c.in_ok-reader.ensures.1 some in
    subst (λ left. Begins (head_framing (request_head c.from_parts.result)) (g.R.ReadDevice.feed c.args.source_data) left (Some (request_open c.from_parts.result).body))
    (sym input) ((returns-clause-body g c).1)

pub returns-in-Err-clause-fails : goal.returns-in-Err-clause-fails
returns-in-Err-clause-fails g c = (
  λ failed.
      let e : framing Lenient c.args.version c.args.headers.items ≡ Err c.in-Err.field-0 = search (rules, c.as_slice.ensures.value, c.framing_of.ensures, c.in-Err.is) in
      e ∙ ap Err (lenient-fault c.args.version c.args.headers.items c.in-Err.field-0 e),
  tt,
)
