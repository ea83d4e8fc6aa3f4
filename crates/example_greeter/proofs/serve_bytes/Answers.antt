use Rattle.std.proofs.Common.{lit<, ◌≡◌, refl, ap, subst, Some}
use Rattle.tiny_http_wire.specs.Device.{Sink, whole_feed}
use Rattle.tiny_http_wire.specs.Budget.{budget_sink}
use Rattle.tiny_http_core.specs.Conversation.{IsFresh}
use Rattle.tiny_http_core.specs.Outlet.{outlet_writer, outlet_held, outlet_ended}
use Rattle.example_greeter.specs.Greeting.{Greets}
use Rattle.example_greeter.proofs.serve_bytes.Goals as goal

pub returns : goal.returns
returns c =
    let before = budget_sink c.new-writer.result in
    let none : c.new-writer.result.failures ≡ 0 = ap (λ (s : Sink). s.failures) c.new-writer.ensures.sink in
    let fresh : IsFresh before = record { no_bytes = ap (λ (s : Sink). s.taken) c.new-writer.ensures.sink; unended = refl; can_count = rw none (lit< tt) } in
    let outlet = c.serve-outlet.result.1 in
    let last = c.serve-outlet.result.2 in
    let unread = c.serve-outlet.result.0.feed in
    let P : Sink → Type 0 = λ s. Greets (whole_feed c.args.bytes.items) s c.args.now (budget_sink (outlet_writer outlet)) (outlet_held outlet) (outlet_ended outlet) unread last in
    record { unread = unread; greets = subst P c.new-writer.ensures.sink (c.serve-outlet.ensures (whole_feed c.args.bytes.items) (ap Some c.new-reader.ensures) fresh) }
