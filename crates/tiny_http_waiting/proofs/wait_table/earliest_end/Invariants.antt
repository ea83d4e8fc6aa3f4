use Rattle.std.proofs.Common.{take}
use Rattle.tiny_http_waiting.specs.WaitTable.{IsFirstEnd}
use Rattle.tiny_http_waiting.proofs.wait_table.earliest_end.Given as goal

abbrev pub invariant-loop-slot : goal.invariant-loop-slot
invariant-loop-slot g l = IsFirstEnd l.earliest (take l.slot-index l.slots)
