use Rattle.std.proofs.Common.{map, take, List, ℕ, Bor}
use Rattle.std.specs.List.{AllZip}
use Rattle.replay_script.specs.ScriptLine.{IsLine}
use Rattle.replay_script.proofs.script.read_lines.Given as goal

abbrev pub invariant-loop-i : goal.invariant-loop-i
invariant-loop-i l = AllZip IsLine (map {A = Bor (List ℕ)} (λ line. line.now) (take l.i l.lines)) l.said.items
