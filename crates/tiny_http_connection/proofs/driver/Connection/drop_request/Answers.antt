use Rattle.std.proofs.Common.{refl, sym, ap, subst, IsTrue, rules}
use Rattle.std.specs.Prelude.{is_some}
use Rattle.tiny_http_connection.proofs.RepliesLemmas.{replied-none}
use Rattle.tiny_http_connection.specs.declared.driver.Step.TheVariants as step
use Rattle.tiny_http_connection.specs.Steps.{Drop, NoSuch, Done}
use Rattle.tiny_http_connection.specs.Connection.{kept}
use Rattle.tiny_http_connection.specs.Driving.{TakesStep}
use Rattle.tiny_http_connection.proofs.ConnectionRespond.{no-such}
use Rattle.tiny_http_connection.proofs.ConnectionDrop.{drop-not_taken}
use Rattle.tiny_http_connection.proofs.DrivingLemmas.{takes-drop, moves-none}
use Rattle.tiny_http_connection.proofs.driver.Connection.drop_request.Goals as goal

pub returns-then-not-let_go : goal.returns-then-not-let_go
returns-then-not-let_go g c =
    let n = c.args.number in
    let old = c.args.self.now in
    let free = c.let_go.ensures.none c.if-not-let_go.true in
    record {
      step = λ date. subst (λ x. TakesStep old x date (step.Drop n) NoSuch) (sym free.1) (takes-drop old old date n NoSuch
          (λ client before s low st. no-such client before (kept old) s date n (Drop n) refl (drop-not_taken n) st free.0) (λ no. refl) (replied-none _ _ _ (ap is_some free.0)) refl (λ no. elim no [ ]) (moves-none old) (λ kind e. cc));
    }

pub returns : goal.returns
returns g c =
    let dropped : IsTrue c.let_go.result = search rules in
    record { step = λ date. c.let_go.ensures.drops dropped date (step.Drop c.args.number) Done refl }
