use Rattle.std.proofs.Common.{◌≡◌, Some}
use Rattle.tiny_http_wire.specs.Device.{Feed}
use Rattle.tiny_http_core.specs.Conversation.{IsFresh}
use Rattle.example_greeter.proofs.GreetingLemmas.{Greeted}
use Rattle.example_greeter.proofs.serve.Given as goal

abbrev pub invariant-loop-greeting : goal.invariant-loop-greeting
invariant-loop-greeting g l = (client : Feed) → g.R.ReadDevice.feed l.fn.reader ≡ Some client → IsFresh (g.W.WriteDevice.sink l.fn.writer) → Greeted client (g.W.WriteDevice.sink l.fn.writer) l.fn.now l.connection l._greeting
