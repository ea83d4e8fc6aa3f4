use Rattle.std.proofs.Common.{arith, refl, sym, lit<, append-nil, [], ◌∷◌, ◌++◌}
use Rattle.tiny_http_core.specs.ResponseValue.{ResponseValue, response_of}
use Rattle.tiny_http_core.specs.Steps.{Ask, Respond, Handed}
use Rattle.tiny_http_core.specs.HeadReads.{head_message, head_framing}
use Rattle.tiny_http_core.specs.declared.framing.Profile.TheVariants.{Lenient}
use Rattle.tiny_http_core.specs.Seen.{seen}
use Rattle.example_greeter.specs.Greeting.{Greeting, steps_of, replies_of}
use Rattle.example_greeter.proofs.GreetingLemmas.{greeted-more, unhanded}
use Rattle.example_greeter.proofs.serve.Goals as goal

pub loop-greeting-init : goal.loop-greeting-init
loop-greeting-init g c client states fresh = record { greetings = []; counted = refl; by_path = tt; done = c.new-connection.ensures.begins client states fresh }

pub returns-in_default : goal.returns-in_default
returns-in_default g c client states fresh =
    let writer = g.W.WriteDevice.sink c.args.writer in
    let now = c.args.now in
    let so_far = c.loop-greeting.invariant client states fresh in
    let asked = c.ask.ensures.step.does Lenient client writer (steps_of now so_far.greetings) (replies_of so_far.greetings) Ask tt so_far.done in
    record {
      greetings = so_far.greetings;
      by_path = so_far.by_path;
      ends = unhanded c.ask.result c.in_default.not-Handed;
      conversation = c.into_parts-source.ensures.conversation Lenient client writer (steps_of now so_far.greetings ++ (now, Ask) ∷ []) (replies_of so_far.greetings ++ seen c.ask.result ∷ []) asked;
    }

pub loop-greeting-preserved : goal.loop-greeting-preserved
loop-greeting-preserved g c client states fresh =
    let writer = g.W.WriteDevice.sink c.args.writer in
    let now = c.args.now in
    let so_far = c.loop-greeting.invariant client states fresh in
    let head = c.in-Handed.head in
    let handed = Handed c.in-Handed.number (head_message head) (head_framing head) in
    let value : ResponseValue = response_of c.status_of.result.0 [] [] in
    let asked = c.in-Handed.ensures.step.does Lenient client writer (steps_of now so_far.greetings) (replies_of so_far.greetings) Ask tt so_far.done in
    let answered = c.respond.ensures.step.does Lenient client writer (steps_of now so_far.greetings ++ (now, Ask) ∷ []) (replies_of so_far.greetings ++ handed ∷ []) (Respond c.in-Handed.number value) (refl, (sym c.empty-response.ensures, refl, lit< tt)) asked in
    let greeting : Greeting = record { number = c.in-Handed.number; head = head; status = c.status_of.result.0; reply = seen c.respond.result } in
    greeted-more client writer now c.respond.new.self so_far.greetings greeting _ so_far.counted so_far.by_path c.status_of.ensures answered

pub returns : goal.returns
returns g c client states fresh =
    let writer = g.W.WriteDevice.sink c.args.writer in
    let now = c.args.now in
    let so_far = c.loop-greeting.invariant client states fresh in
    record {
      greetings = so_far.greetings;
      by_path = so_far.by_path;
      ends = omega (arith, so_far.counted, c.loop-greeting-test.false, c.loop-greeting.auto._greeting-end);
      conversation = rw (append-nil, append-nil) (c.into_parts-source-2.ensures.conversation Lenient client writer (steps_of now so_far.greetings) (replies_of so_far.greetings) so_far.done);
    }
