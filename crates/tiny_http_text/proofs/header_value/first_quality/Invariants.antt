use Rattle.std.proofs.Common.{◌≡◌, length}
use Rattle.std.specs.Str.{IsUtf8}
use Rattle.tiny_http_text.specs.Bytes.{parts, semicolon}
use Rattle.tiny_http_text.specs.QualityReading.{first_quality}
use Rattle.tiny_http_text.proofs.header_value.first_quality.Given as goal

abbrev pub invariant-loop-parameter : goal.invariant-loop-parameter
invariant-loop-parameter l = record { utf8 : IsUtf8 l.rest; first : first_quality (parts semicolon l.rest) ≡ first_quality (parts semicolon l.fn.parameters) }

abbrev pub decreases-loop-parameter : goal.decreases-loop-parameter
decreases-loop-parameter l = length l.rest
