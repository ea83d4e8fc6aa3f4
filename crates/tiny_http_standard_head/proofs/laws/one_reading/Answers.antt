use Rattle.tiny_http_standard_head.proofs.ReadingLemmas.{reading-once, read-once}
use Rattle.tiny_http_standard_head.proofs.Existing.{some-reading}
use Rattle.tiny_http_standard_head.proofs.laws.one_reading.Goals as goal

pub returns-clause-some : goal.returns-clause-some
returns-clause-some c = some-reading

pub returns-clause-one : goal.returns-clause-one
returns-clause-one c = reading-once

pub returns-clause-read : goal.returns-clause-read
returns-clause-read c = read-once
