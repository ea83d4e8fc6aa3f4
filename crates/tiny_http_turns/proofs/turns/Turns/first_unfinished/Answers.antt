use Rattle.std.proofs.Common.{sym}
use Rattle.tiny_http_turns.proofs.TurnsKept.{turn-of}
use Rattle.tiny_http_turns.proofs.turns.Turns.first_unfinished.Goals as goal

pub returns : goal.returns
returns g c = let t = c.self.inside in rw (← c.self.view_is) (sym (turn-of t.turn t.entries.items))
