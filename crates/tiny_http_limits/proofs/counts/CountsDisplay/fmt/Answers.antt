use Rattle.std.proofs.Common.{append_assoc, append-nil, refl}
use Rattle.std.proofs.Output.{has_written_of_eq}
use Rattle.tiny_http_limits.proofs.counts.CountsDisplay.fmt.Goals as goal

pub returns-clause-writes : goal.returns-clause-writes
returns-clause-writes g c = λ p ok. has_written_of_eq _ _ _ _ _ (simp (append_assoc, append-nil) refl) (c.write.ensures.writes p ok)
