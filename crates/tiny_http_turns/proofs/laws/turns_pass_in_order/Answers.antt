use Rattle.tiny_http_turns.specs.TurnsLaw.{marks_after}
use Rattle.std.specs.Prelude.{[]}
use Rattle.tiny_http_turns.proofs.TurnsLawOrder.{in_order, one_at_a_time}
use Rattle.tiny_http_turns.proofs.TurnsLawTexts.{come_once, come_in_turn, go_holds}
use Rattle.tiny_http_turns.proofs.laws.turns_pass_in_order.Goals as goal

pub returns : goal.returns
returns c = record {
  order = in_order;
  one_at_a_time = one_at_a_time;
  once = come_once;
  held = λ steps step n text e. go_holds step (marks_after steps []) n text e;
  in_turn = come_in_turn;
}
