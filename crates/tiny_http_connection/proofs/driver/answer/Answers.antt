use Rattle.tiny_http_open_request.specs.OpenRequest.{final_context}
use Rattle.std.proofs.Common.{◌≡◌, refl, sym, ap, ◌∙◌, subst, false, true, Bool, append-nil, Result, Ok, Err, Option, Some, None, List, [], ℕ, ◌⊎◌, inl, inr}
use Rattle.std.specs.Prelude.{if◌then◌else◌, OnOk, OnErr, IfErr}
use Rattle.std.specs.declared.io.Error.{Error}
use Rattle.std.specs.declared.io.ErrorKind.{ErrorKind}
use Rattle.std.specs.IoError.{error_kind}
use Rattle.tiny_http_io.specs.Outlet.{OutletState, output_of, SentOn}
use Rattle.tiny_http_io.specs.Device.{IsAllKnown, grown}
use Rattle.tiny_http_connection.specs.Steps.{ReplyValue, Done, Fault}
use Rattle.tiny_http_connection.specs.Outcomes.{fault_reply}
use Rattle.tiny_http_connection.specs.Seen.{seen, write_reply, reply_to, IsAnswered}
use Rattle.tiny_http_response.specs.ResponseValue.{printing_in}
use Rattle.tiny_http_response.specs.Sending.{IsFlushed, IsHonest, is_closed_client, reported}
use Rattle.tiny_http_connection.proofs.driver.answer.Goals as goal

-- what is reported of a fault, where the client has gone and where it hasn't
abbrev reported_if : Bool → Error → Result (Unit {0}) Error
reported_if gone e = if gone then Ok tt else Err e

-- what is reported of an answer is replied as the answer is
reply-reported : (r : Result (Unit {0}) Error) → write_reply (reported r) ≡ reply_to r
reply-reported (Ok x) = refl
reply-reported (Err e) = by (is_closed_client (error_kind e))
  where
    by : (t : Bool) → write_reply (reported_if t e) ≡ (if t then Done else Fault (error_kind e))
    by true = refl
    by false = refl

is-answered : (r : Result (Unit {0}) Error) → IsAnswered (write_reply r)
is-answered (Ok x) = tt
is-answered (Err e) = tt

-- an outlet that holds nothing, over a writer that holds nothing, holds nothing
flushed-on : {W : Type 0} (o : OutletState W) → o.held ≡ [] → SentOn o → IsFlushed (output_of o)
flushed-on o none sent open_is =
    subst (λ h. IsAllKnown o.sink.sent (grown o.sink.has_ended o.sink.taken h)) (sym none) (by o.sink.has_ended o.sink.taken (sent open_is))
  where
    by : (ended : Bool) (taken : Option (List ℕ)) → IsAllKnown o.sink.sent taken → IsAllKnown o.sink.sent (grown ended taken [])
    by true taken h = h
    by false None h = h
    by false (Some xs) h = h ∙ sym (append-nil xs)

-- a reply of a fault is that of an answer that failed so
fault-is : (r : Result (Unit {0}) Error) (kind : ErrorKind) (P : ErrorKind → Type 0) (E : Type 0) → write_reply (reported r) ≡ Fault kind → OnErr r E → IfErr r (λ e. P (error_kind e)) → E × P kind
fault-is (Ok x) kind P E is over holds = let no : Done ≡ Fault kind = is in cc
fault-is (Err e) kind P E is over holds = by (is_closed_client (error_kind e)) is
  where
    by : (t : Bool) → write_reply (reported_if t e) ≡ Fault kind → E × P kind
    by true is = let no : Done ≡ Fault kind = is in cc
    by false is = let same : error_kind e ≡ kind = (let h : Fault (error_kind e) ≡ Fault kind = is in cc) in (over, subst P same holds)

-- what is told of a failure of the writer
stop_count-by : (r : Result (Unit {0}) Error) (same ended : Type 0) (P : ErrorKind → Type 0) (reply : ReplyValue) → reply ≡ reply_to r → OnOk r same → OnErr r ended → IfErr r (λ e. P (error_kind e)) → same ⊎ ((kind : ErrorKind) × (reply ≡ fault_reply kind) × ended × P kind)
stop_count-by (Ok x) same ended P reply is ok over h = inl ok
stop_count-by (Err e) same ended P reply is ok over h = inr (error_kind e, is, over, h)

pub returns : goal.returns
returns g c =
    let r = c.respond.result in
    let a = c.respond.ensures.answers in
    let replied : seen c.write_reply.result ≡ write_reply (reported r) = c.write_reply.ensures ∙ ap write_reply c.reported.ensures in
    let is : seen c.write_reply.result ≡ reply_to r = replied ∙ reply-reported r in
    let H : ErrorKind → Type 0 = λ k. IsHonest (output_of c.args.outlet.now) (output_of c.respond.new.outlet) c.args.response.answer (g.D.ReadDevice.feed c.args.response.data_reader) (printing_in (final_context c.args.request.now c.args.left) c.args.now) k in
    record {
      past = λ e. ((a.past e).0, is ∙ ap reply_to (a.past e).1);
      sends = λ content stated few open_is can. (r, is, a.sends content stated few open_is can, flushed-on c.respond.new.outlet a.flushed a.sent_on);
      fails_once = a.fails_once;
      flushed = a.flushed;
      sent_on = a.sent_on;
      body = ap (λ x. x.body) c.respond.ensures.once;
      done = subst IsAnswered (sym replied) (is-answered (reported r));
      honest = λ kind e. fault-is r kind H _ (sym replied ∙ e) a.ended a.honest;
      tells = stop_count-by r _ _ H _ is a.reports a.ended a.honest;
    }
