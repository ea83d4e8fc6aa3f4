use Rattle.std.proofs.Common.{◌≡◌}
use Rattle.tiny_http_socket.specs.Timed.{timed_sink}
use Rattle.tiny_http_socket.proofs.timed_writer.TimedWriterWriteBoth.write_both.Given as goal

abbrev pub invariant-loop : goal.invariant-loop
invariant-loop g l = timed_sink l.self ≡ timed_sink l.initial.self
