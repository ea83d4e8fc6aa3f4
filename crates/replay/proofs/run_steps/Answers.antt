use Rattle.std.proofs.Common.{rules, arith, lit<, ◌≡◌, refl, sym, ap, ◌∙◌, ◌++◌, Some, map}
use Rattle.tiny_http_wire.specs.Device.{Sink, whole_feed}
use Rattle.tiny_http_wire.specs.Budget.{budget_sink, budget_bytes}
use Rattle.tiny_http_core.specs.Conversation.{IsFresh}
use Rattle.tiny_http_core.specs.Outlet.{outlet_held, outlet_ended}
use Rattle.replay_script.specs.Script.{timed_value}
use Rattle.replay_script.proofs.ScriptLemmas.{steps_stated}
use Rattle.replay.proofs.run_steps.Goals as goal

pub returns-clause-runs : goal.returns-clause-runs
returns-clause-runs c =
    let writer = c.in-Ok.record.outlet.writer in
    let before = budget_sink c.new-writer.result in
    let none : c.new-writer.result.failures ≡ 0 = ap (λ (s : Sink). s.failures) c.new-writer.ensures.sink in
    let fresh : IsFresh before = record { no_bytes = ap (λ (s : Sink). s.taken) c.new-writer.ensures.sink; unended = refl; can_count = rw none (lit< tt) } in
    let held : c.in-Ok-to_vec.held.items ≡ outlet_held c.in-Ok.record.outlet = search rules in
    let inner = c.into_inner.ensures.inner in
    let unfailed : c.in-Ok.record.outlet.sink.failures ≡ 0 = omega (arith, c.failures.ensures, c.if-failures-gt0.false) in
    let zero : writer.failures ≡ 0 = ap (λ b. (budget_sink b).failures) (sym inner) ∙ ap (λ (s : Sink). s.failures) c.into_inner.ensures.sink ∙ unfailed in
    record {
      before = before;
      after = budget_sink writer;
      taken = budget_bytes writer;
      held = outlet_held c.in-Ok.record.outlet;
      fresh = fresh;
      ended = outlet_ended c.in-Ok.record.outlet;
      unread = c.in-Ok.record.source.feed;
      conversation = c.in-Ok.ensures.conversation (whole_feed c.args.bytes.items) (map timed_value c.args.steps.items) (ap Some c.new-reader.ensures) fresh (steps_stated c.args.steps.items);
      no_fault = zero ∙ sym none;
      took = refl;
      output_is = ap (λ b. budget_bytes b ++ c.in-Ok-to_vec.held.items) inner ∙ ap (λ bs. budget_bytes writer ++ bs) held;
    }
