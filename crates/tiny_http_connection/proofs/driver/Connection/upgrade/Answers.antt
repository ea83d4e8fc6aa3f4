use Rattle.std.proofs.Common.{ℕ, ◌≡◌, refl, sym, ap, ◌∙◌, subst, Bool, true, false, not, ◌&&◌, ◌||◌, List, Option, Some, None, IsTrue}
use Rattle.std.specs.Prelude.{◌==◌, slice_get, string_bytes, is_err, is_some}
use Rattle.std.specs.List.{list_all}
use Rattle.tiny_http_response.specs.Answer.{Answer}
use Rattle.tiny_http_text.specs.Bytes.{is_ascii}
use Rattle.tiny_http_turns.specs.Turns.{first_unfinished}
use Rattle.tiny_http_io.specs.Outlet.{output_of, outlet_ended}
use Rattle.tiny_http_response.specs.ResponseValue.{printing_in, upgrade_text}
use Rattle.tiny_http_response.specs.Sending.{SendsUnlessEnded}
use Rattle.tiny_http_connection.specs.declared.driver.Step.TheVariants as step
use Rattle.tiny_http_connection.specs.Steps.{Upgrade, NoSuch, NotYet, Done, Refused}
use Rattle.tiny_http_connection.specs.Pending.{waiting_response_context, refuses_upgrade_at, is_last_with_stream_at}
use Rattle.tiny_http_connection.specs.Driving.{ends_behind, stated_response}
use Rattle.tiny_http_connection.proofs.ConnectionAsk.{StepIsAnswered}
use Rattle.tiny_http_open_request.specs.OpenRequest.{final_context, request_check}
use Rattle.tiny_http_body.specs.Body.{remainder, is_long, is_whole}
use Rattle.tiny_http_connection.specs.Connection.{Kept, ConnectionState, kept}
use Rattle.tiny_http_body.specs.declared.body.UnreadBody.{UnreadBody}
use Rattle.tiny_http_open_request.specs.declared.open_request.OpenRequest.{OpenRequest}
use Rattle.tiny_http_connection.specs.declared.pending.Unfinished.{Unfinished}
use Rattle.tiny_http_connection.specs.declared.pending.Unfinished.TheVariants as still
use Rattle.tiny_http_io.proofs.SourceGoesOn.{goes-on_same}
use Rattle.tiny_http_connection.proofs.ConnectionRespond.{no-such, waits-some, waits-none}
use Rattle.tiny_http_connection.proofs.ConnectionUpgrade.{upgrade-not_taken, upgrade-not_yet, upgrade-done}
use Rattle.tiny_http_connection.proofs.RepliesLemmas.{replied-none, replied-later, replied-done}
use Rattle.tiny_http_connection.proofs.DrivingLemmas.{viewed, ends-some, takes-upgrade, moves-none}
use Rattle.tiny_http_connection.proofs.driver.Connection.upgrade.Goals as goal

pub returns-then-not-is_waiting : goal.returns-then-not-is_waiting
returns-then-not-is_waiting g c =
    let n = c.args.number in
    let q = c.self.inside in
    let old = viewed q.profile q.source q.outlet q.pending q.end in
    let none = waits-none (slice_get q.pending.requests n) (sym c.is_waiting.ensures ∙ c.if-not-is_waiting.true) in
    record {
      step = λ named same. rw (← c.self.view_is) (takes-upgrade g.D.ReadDevice.feed false old old c.args.now n named c.args.response NoSuch
          (λ client before s value low answer st. no-such client before (kept old) s c.args.now n (Upgrade n (string_bytes named) value) refl (upgrade-not_taken n (string_bytes named) value) st none)
          (λ no. refl) (replied-none _ _ _ (sym c.is_waiting.ensures ∙ c.if-not-is_waiting.true)) refl tt refl (moves-none old) (λ kind e. cc));
    }

-- a request that waits was let go
let-go : (r : Bool) → (r ≡ false → ⊥) → IsTrue r
let-go true f = refl
let-go false f = absurd (f refl)

-- a protocol that isn't refused is ASCII
ascii-of : (w : OpenRequest UnreadBody) (protocol : List ℕ) (code : ℕ) (whole : Bool) → is_err (request_check w protocol code whole) ≡ false → list_all is_ascii protocol ≡ true
ascii-of w protocol code whole = by (list_all is_ascii protocol) refl
  where
    by : (t : Bool) → list_all is_ascii protocol ≡ t → is_err (request_check w protocol code whole) ≡ false → list_all is_ascii protocol ≡ true
    by true e granted = e
    by false e granted = let no : true ≡ false = rw e at granted in cc

view-none : {R W : Type 0} (n : ℕ) (c d : ConnectionState R W) → c ≡ d → waiting_response_context (slice_get d.requests n) ≡ None → waiting_response_context (slice_get c.requests n) ≡ None
view-none {R = R} {W = W} n c d e h = let P : ConnectionState R W → Type 0 = λ y. waiting_response_context (slice_get y.requests n) ≡ None in subst P (sym e) h

waits-still : (w : OpenRequest UnreadBody) (o : Option (Option Unfinished)) → o ≡ Some (Some (still.Waiting w)) → waiting_response_context o ≡ None → ⊥
waits-still w o e f = let none : Some (final_context w (remainder w.body)) ≡ None = sym (ap waiting_response_context e) ∙ f in cc

pub returns-then-refuses_upgrade : goal.returns-then-refuses_upgrade
returns-then-refuses_upgrade g c =
    let n = c.args.number in
    let q = c.self.inside in
    let w = waits-some (slice_get q.pending.requests n) (sym c.is_waiting.ensures ∙ c.if-not-is_waiting.false) in
    let gone : IsTrue c.let_go.result = let-go c.let_go.result (λ no. waits-still w.0 (slice_get q.pending.requests n) w.1 (view-none n (viewed q.profile q.source q.outlet q.pending q.end) c.args.self.now c.self.view_is (c.let_go.ensures.none no).0)) in
    record {
      step = λ named same.
          let D : List (Option Unfinished) → Type 0 = λ l. refuses_upgrade_at (string_bytes named) c.args.response.answer.status (slice_get l n) ≡ true in
          let refused : refuses_upgrade_at (string_bytes named) c.args.response.answer.status (slice_get q.pending.requests n) ≡ true = ap (λ t. refuses_upgrade_at t c.args.response.answer.status (slice_get q.pending.requests n)) same ∙ ap (λ code. refuses_upgrade_at c.args.protocol.now code (slice_get q.pending.requests n)) (sym c.status_code-status.ensures) ∙ sym c.refuses_upgrade.ensures ∙ c.if-refuses_upgrade.true in
          (c.let_go.ensures.drops gone c.args.now (step.Upgrade n named (stated_response g.D.ReadDevice.feed c.args.response)) Refused (refl, subst D (ap (λ y. y.requests) c.self.view_is) refused));
    }

pub returns-then-not-is_in_turn : goal.returns-then-not-is_in_turn
returns-then-not-is_in_turn g c =
    let n = c.args.number in
    let q = c.self.inside in
    let old = viewed q.profile q.source q.outlet q.pending q.end in
    let w = waits-some (slice_get q.pending.requests n) (sym c.is_waiting.ensures ∙ c.if-not-is_waiting.false) in
    record {
      step = λ named same.
          let granted : refuses_upgrade_at (string_bytes named) c.args.response.answer.status (slice_get q.pending.requests n) ≡ false = ap (λ t. refuses_upgrade_at t c.args.response.answer.status (slice_get q.pending.requests n)) same ∙ ap (λ code. refuses_upgrade_at c.args.protocol.now code (slice_get q.pending.requests n)) (sym c.status_code-status.ensures) ∙ sym c.refuses_upgrade.ensures ∙ c.if-refuses_upgrade.false in
          let kept_grants = ap (refuses_upgrade_at (string_bytes named) c.args.response.answer.status) (sym w.1) ∙ granted in
          let A : Answer → Type 0 = λ a. is_err (request_check w.0 (string_bytes named) a.status (is_whole w.0.body)) ≡ false in
          rw (← c.self.view_is) (takes-upgrade g.D.ReadDevice.feed false old old c.args.now n named c.args.response NotYet
          (λ client before s value low answer st. upgrade-not_yet client before (kept old) s c.args.now n (string_bytes named) value w.0 st w.1 (subst A (sym answer) kept_grants) (sym c.is_in_turn.ensures ∙ c.if-not-is_in_turn.true))
          (λ no. refl) (replied-later _ _ _ (sym c.is_waiting.ensures ∙ c.if-not-is_waiting.false) granted (ap not (sym c.is_in_turn.ensures ∙ c.if-not-is_in_turn.true))) refl tt refl (moves-none old) (λ kind e. cc));
    }

pub upgrade-requires : goal.upgrade-requires
upgrade-requires g c =
    let q = c.self.inside in
    let w = waits-some (slice_get q.pending.requests c.args.number) (sym c.is_waiting.ensures ∙ c.if-not-is_waiting.false) in
    ascii-of w.0 c.args.protocol.now _ (is_whole w.0.body) (ap (refuses_upgrade_at c.args.protocol.now c.status_code-status.result.0) (sym w.1) ∙ sym c.refuses_upgrade.ensures ∙ c.if-refuses_upgrade.false)

pub returns : goal.returns
returns g c =
    let n = c.args.number in
    let q = c.self.inside in
    let outlet = c.upgrade.new.outlet in
    let left = c.upgrade.new.self in
    let old = viewed q.profile q.source q.outlet q.pending q.end in
    let end = c.ends_behind-self-inside.result in
    let new = viewed q.profile q.source outlet left end in
    let k : Kept = kept old in
    let done = c.upgrade.ensures in
    let w = waits-some (slice_get k.requests n) (sym c.is_waiting.ensures ∙ c.if-not-is_waiting.false) in
    let said = done.sends w.0 w.1 in
    let marks = ap (λ t. t.marks) done.turns in
    let requests = done.requests w.0 w.1 in
    let ends = w.0.holds_next_head || (w.0.by_standard && (w.0.owes_continue || is_long (remainder w.0.body))) in
    let end_is = c.ends_behind-self-inside.ensures ∙ ap (λ b. ends_behind b q.end) c.is_last_with_stream.ensures in
    let ended : is_some end ≡ (is_some q.end || ends) = ap is_some (end_is ∙ ap (λ o. ends_behind (is_last_with_stream_at o) q.end) w.1) ∙ ends-some ends q.end in
    let come : (n == first_unfinished k.marks) ≡ true = sym c.is_in_turn.ensures ∙ c.if-not-is_in_turn.false in
    record {
      step = λ named same.
          let granted : refuses_upgrade_at (string_bytes named) c.args.response.answer.status (slice_get q.pending.requests n) ≡ false = ap (λ t. refuses_upgrade_at t c.args.response.answer.status (slice_get q.pending.requests n)) same ∙ ap (λ code. refuses_upgrade_at c.args.protocol.now code (slice_get q.pending.requests n)) (sym c.status_code-status.ensures) ∙ sym c.refuses_upgrade.ensures ∙ c.if-refuses_upgrade.false in
          let kept_grants = ap (refuses_upgrade_at (string_bytes named) c.args.response.answer.status) (sym w.1) ∙ granted in
          let A : Answer → Type 0 = λ a. is_err (request_check w.0 (string_bytes named) a.status (is_whole w.0.body)) ≡ false in
          rw (← c.self.view_is) (takes-upgrade g.D.ReadDevice.feed true old new c.args.now n named c.args.response Done
          (λ client before s value low answer st.
          let T : Answer → List ℕ → Type 0 = λ a t. SendsUnlessEnded k.output_ended k.sink (output_of outlet) (outlet_ended outlet) (upgrade_text (record { answer = a; content = value.content }) t (printing_in w.0.response_context c.args.now)) in
          let E : Bool → Type 0 = λ e. StepIsAnswered client before (record (kept new) { asking_ended = e }) s c.args.now (Upgrade n (string_bytes named) value) Done in
          subst E (sym ended) (upgrade-done client before k s c.args.now n (string_bytes named) value w.0 w.0.response_context (output_of outlet) (outlet_ended outlet) left.turns.marks left.requests q.source st (record { feed = refl; stop = refl; ends = refl; input_state = refl }) low w.1 refl (subst A (sym answer) kept_grants) come marks requests
          (λ can. subst (λ t. T value.answer t) (sym same) (subst (λ a. T a c.args.protocol.now) (sym answer) (said.0 value.content can))) said.1.2))
          (λ no. elim no [ ]) (replied-done _ _ _ Done (sym c.is_waiting.ensures ∙ c.if-not-is_waiting.false) granted (ap not come) tt) end_is (granted, w.0, w.1, requests, marks, refl) refl
          (record { profile = refl; goes_on = goes-on_same q.source.feed; fails_once = done.fails_once; flushed = λ was. said.1.0; sent_on = λ was. said.1.1 })
          (λ kind e. cc));
    }
