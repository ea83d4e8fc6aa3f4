use Rattle.std.proofs.Common.{refl, ◌∙◌, None}
use Rattle.tiny_http_connection.proofs.DrivingLemmas.{viewed, begins}
use Rattle.tiny_http_connection.proofs.driver.Connection.new_with.Goals as goal

pub returns-clause-begins : goal.returns-clause-begins
returns-clause-begins g c client states fresh =
    begins client (g.W.WriteDevice.sink c.args.writer) c.args.writer (viewed c.args.profile c.new.result c.new-2.result c.new-3.result None)
    c.new-3.ensures.marks c.new-3.ensures.requests c.new.ensures.input_state refl (c.new.ensures.feed ∙ states) c.new.ensures.stop (rw (← c.new-2.ensures.sink, ← c.new-2.ensures.writer, ← c.new-2.ensures.held, ← c.new-2.ensures.open) refl) fresh
