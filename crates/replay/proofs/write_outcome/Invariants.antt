use Rattle.std.proofs.Common.{take, map}
use Rattle.std.specs.List.{flat_map}
use Rattle.std.specs.Io.KnownBytes.{Appends}
use Rattle.tiny_http_core.specs.Seen.{seen}
use Rattle.replay_script.specs.Reply.{reply_line}
use Rattle.replay.proofs.write_outcome.Given as goal

abbrev pub invariant-loop-reply : goal.invariant-loop-reply
invariant-loop-reply g l = Appends (g.E.Write.contents l.initial.err) (g.E.Write.contents l.err) (flat_map reply_line (map seen (take l.reply-index l.reply-items)))
