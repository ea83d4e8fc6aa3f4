use Rattle.std.proofs.Common.{◌≡◌, refl, sym, ap, ◌∙◌, subst, inl, inr, true, false, Some, Result, Ok, Err, append-nil}
use Rattle.std.specs.Prelude.{is_some}
use Rattle.std.specs.declared.alloc.AllocError.{AllocError}
use Rattle.tiny_http_turns.specs.Turns.{AreInShape}
use Rattle.tiny_http_io.specs.declared.source.InputState.TheVariants as at
use Rattle.tiny_http_open_request.specs.declared.exchange.EndOfRequests.TheVariants as because
use Rattle.tiny_http_open_request.specs.declared.next_request.NextRequest.{NextRequest}
use Rattle.tiny_http_open_request.specs.declared.next_request.NextRequest.TheVariants as next
use Rattle.tiny_http_open_request.specs.Exchange.{exchange_of}
use Rattle.tiny_http_open_request.specs.HeadReads.{head_message, head_framing}
use Rattle.tiny_http_open_request.specs.NextRequest.{FindsNext, next_of, at as at-head}
use Rattle.tiny_http_connection.proofs.Asking.{CanAsk}
use Rattle.tiny_http_connection.specs.Pending.{RefusesHead}
use Rattle.tiny_http_connection.specs.Steps.{Ended, NotYet, Memory, Handed}
use Rattle.tiny_http_connection.specs.Connection.{kept}
use Rattle.tiny_http_connection.proofs.ConnectionAsk.{ask-ended, ask-not_yet, ask-waits}
use Rattle.tiny_http_connection.proofs.ConnectionNext.{asks-next, found-request, found-no-number, found-no-memory, found-end}
use Rattle.tiny_http_connection.proofs.DrivingLemmas.{viewed, none-of, ask-step, takes-ask, moves-none}
use Rattle.tiny_http_connection.proofs.driver.Connection.ask.Goals.{in-Body, in_default}
use Rattle.tiny_http_connection.proofs.driver.Connection.ask.Goals as goal

pub returns-then-is_some : goal.returns-then-is_some
returns-then-is_some g c =
    let q = c.self.inside in
    let old = viewed q.profile q.source q.outlet q.pending q.end in
    let some : is_some q.end ≡ true = sym c.is_some.ensures ∙ c.if-is_some.true in
    record {
      step = rw (← c.self.view_is) (takes-ask old old c.args.now Ended (ask-step old old c.args.now Ended (λ client p left. tt)
          (λ client before s low st. ask-ended client before (kept old) s c.args.now st some)
          (λ no. refl) (λ is. refl, λ is. refl, λ none. (let no : false ≡ true = ap is_some (sym none) ∙ some in cc)) (0, (sym (append-nil q.pending.requests), λ none. (refl, refl)), λ over. refl) (moves-none old)));
    }

pub returns-then-matches : goal.returns-then-matches
returns-then-matches g c =
    let q = c.self.inside in
    let old = viewed q.profile q.source q.outlet q.pending q.end in
    let open_is : is_some q.end ≡ false = sym c.is_some.ensures ∙ c.if-is_some.false in
    let here : q.source.input_state ≡ at.Body = elim c.match-matches.branch [
      | in-Body w ↦ sym c.input_state.ensures ∙ w.in-Body.is
      | in_default w ↦ (let no : false ≡ true = sym w.matches-is ∙ c.if-matches.true in cc)
    ] in
    record {
      step = rw (← c.self.view_is) (takes-ask old old c.args.now NotYet (ask-step old old c.args.now NotYet (λ client p left. tt)
          (λ client before s low st. ask-not_yet client before (kept old) s c.args.now st open_is here)
          (λ no. refl) (none-of q.end open_is, inl here) tt (moves-none old)));
    }

pub returns-then-last_holds_next_head : goal.returns-then-last_holds_next_head
returns-then-last_holds_next_head g c =
    let q = c.self.inside in
    let old = viewed q.profile q.source q.outlet q.pending q.end in
    let open_is : is_some q.end ≡ false = sym c.is_some.ensures ∙ c.if-is_some.false in
    let holds = sym c.last_holds_next_head.ensures ∙ c.if-last_holds_next_head.true in
    record {
      step = rw (← c.self.view_is) (takes-ask old old c.args.now NotYet (ask-step old old c.args.now NotYet (λ client p left. tt)
          (λ client before s low st. ask-waits client before (kept old) s c.args.now st open_is holds)
          (λ no. refl) (none-of q.end open_is, inr holds) tt (moves-none old)));
    }

pub returns-in-Ok : goal.returns-in-Ok
returns-in-Ok g c =
    let q = c.self.inside in
    let f = c.next_request.new in
    let x = exchange_of c.in-Ok-Request.head c.in-Ok-Request.request in
    let e = c.in-Ok.ensures in
    let old = viewed q.profile q.source q.outlet q.pending q.end in
    let new = viewed q.profile f.source f.output c.issue.new.self q.end in
    let outside : q.source.input_state ≡ at.Body → ⊥ = elim c.match-matches.branch [
      | in-Body w ↦ λ e. (let no : true ≡ false = sym w.matches-is ∙ c.if-matches.false in cc)
      | in_default w ↦ λ e. w.in_default.not-Body (c.input_state.ensures ∙ e)
    ] in
    let can : CanAsk old = (none-of q.end (sym c.is_some.ensures ∙ c.if-is_some.false), outside, sym c.last_holds_next_head.ensures ∙ c.if-last_holds_next_head.false) in
    let N : Result NextRequest AllocError → Type 0 = λ r. FindsNext RefusesHead q.profile c.args.now (at-head q.source q.pending q.outlet) r (at-head f.source f.place f.output) in
    let found : N (Ok (next_of x)) = subst N (c.in-Ok-Request.is ∙ ap (λ y. Ok y) c.in-Ok-Request.field-0-is) c.next_request.ensures in
    let shape : AreInShape c.issue.new.self.turns.marks = e.shape in
    let reply = Handed c.in-Ok.number (head_message x.head) (head_framing x.head) in
    record {
      step = rw (← c.self.view_is) (takes-ask old new c.args.now reply (asks-next q.profile c.args.now (at-head q.source q.pending q.outlet) (at-head f.source f.place f.output) q.end (Ok (next_of x)) found can new reply
          (λ h may. found-request q.profile c.args.now found.mid (at-head f.source f.place f.output) c.issue.new.self q.end x c.in-Ok.number e.number e.marks shape e.requests h may)));
    }

pub returns-in-Err-issue : goal.returns-in-Err-issue
returns-in-Err-issue g c =
    let q = c.self.inside in
    let f = c.next_request.new in
    let x = exchange_of c.in-Ok-Request.head c.in-Ok-Request.request in
    let e = c.in-Err-issue.ensures.err in
    let old = viewed q.profile q.source q.outlet q.pending q.end in
    let new = viewed q.profile f.source f.output c.issue.new.self (Some because.Memory) in
    let outside : q.source.input_state ≡ at.Body → ⊥ = elim c.match-matches.branch [
      | in-Body w ↦ λ e. (let no : true ≡ false = sym w.matches-is ∙ c.if-matches.false in cc)
      | in_default w ↦ λ e. w.in_default.not-Body (c.input_state.ensures ∙ e)
    ] in
    let can : CanAsk old = (none-of q.end (sym c.is_some.ensures ∙ c.if-is_some.false), outside, sym c.last_holds_next_head.ensures ∙ c.if-last_holds_next_head.false) in
    let N : Result NextRequest AllocError → Type 0 = λ r. FindsNext RefusesHead q.profile c.args.now (at-head q.source q.pending q.outlet) r (at-head f.source f.place f.output) in
    let found : N (Ok (next_of x)) = subst N (c.in-Ok-Request.is ∙ ap (λ y. Ok y) c.in-Ok-Request.field-0-is) c.next_request.ensures in
    record {
      step = rw (← c.self.view_is) (takes-ask old new c.args.now Memory (asks-next q.profile c.args.now (at-head q.source q.pending q.outlet) (at-head f.source f.place f.output) q.end (Ok (next_of x)) found can new Memory
          (λ h may. found-no-number q.profile c.args.now found.mid (at-head f.source f.place f.output) c.issue.new.self q.end x e.0 e.1 h may)));
    }

pub returns-in-Ok-Ended : goal.returns-in-Ok-Ended
returns-in-Ok-Ended g c =
    let q = c.self.inside in
    let f = c.next_request.new in
    let why = c.in-Ok-Ended.why in
    let old = viewed q.profile q.source q.outlet q.pending q.end in
    let new = viewed q.profile f.source f.output f.place (Some why) in
    let outside : q.source.input_state ≡ at.Body → ⊥ = elim c.match-matches.branch [
      | in-Body w ↦ λ e. (let no : true ≡ false = sym w.matches-is ∙ c.if-matches.false in cc)
      | in_default w ↦ λ e. w.in_default.not-Body (c.input_state.ensures ∙ e)
    ] in
    let can : CanAsk old = (none-of q.end (sym c.is_some.ensures ∙ c.if-is_some.false), outside, sym c.last_holds_next_head.ensures ∙ c.if-last_holds_next_head.false) in
    let N : Result NextRequest AllocError → Type 0 = λ r. FindsNext RefusesHead q.profile c.args.now (at-head q.source q.pending q.outlet) r (at-head f.source f.place f.output) in
    let found : N (Ok (next.Ended why)) = subst N (c.in-Ok-Ended.is ∙ ap (λ y. Ok y) c.in-Ok-Ended.field-0-is) c.next_request.ensures in
    record {
      step = rw (← c.self.view_is) (takes-ask old new c.args.now Ended (asks-next q.profile c.args.now (at-head q.source q.pending q.outlet) (at-head f.source f.place f.output) q.end (Ok (next.Ended why)) found can new Ended
          (λ h may. found-end q.profile c.args.now found.mid (at-head f.source f.place f.output) q.end why h may)));
    }

pub returns-in-Err : goal.returns-in-Err
returns-in-Err g c =
    let q = c.self.inside in
    let f = c.next_request.new in
    let error = c.in-Err.field-0 in
    let old = viewed q.profile q.source q.outlet q.pending q.end in
    let new = viewed q.profile f.source f.output f.place (Some because.Memory) in
    let outside : q.source.input_state ≡ at.Body → ⊥ = elim c.match-matches.branch [
      | in-Body w ↦ λ e. (let no : true ≡ false = sym w.matches-is ∙ c.if-matches.false in cc)
      | in_default w ↦ λ e. w.in_default.not-Body (c.input_state.ensures ∙ e)
    ] in
    let can : CanAsk old = (none-of q.end (sym c.is_some.ensures ∙ c.if-is_some.false), outside, sym c.last_holds_next_head.ensures ∙ c.if-last_holds_next_head.false) in
    let N : Result NextRequest AllocError → Type 0 = λ r. FindsNext RefusesHead q.profile c.args.now (at-head q.source q.pending q.outlet) r (at-head f.source f.place f.output) in
    let found : N (Err error) = subst N c.in-Err.is c.next_request.ensures in
    record {
      step = rw (← c.self.view_is) (takes-ask old new c.args.now Memory (asks-next q.profile c.args.now (at-head q.source q.pending q.outlet) (at-head f.source f.place f.output) q.end (Err error) found can new Memory
          (λ h may. found-no-memory q.profile c.args.now found.mid (at-head f.source f.place f.output) q.end error h may)));
    }
