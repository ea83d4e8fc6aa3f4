use Rattle.std.proofs.Common.{rules}
use Rattle.tiny_http_text.proofs.QualityReadingLemmas.{short_number-long, short_number-short, short_number-bound}
use Rattle.tiny_http_text.proofs.header_value.short_number.Goals as goal

pub returns-then-digits-gt6-clause-value : goal.returns-then-digits-gt6-clause-value
returns-then-digits-gt6-clause-value c = short_number-long c.args.digits.now (search rules)

pub returns-clause-value : goal.returns-clause-value
returns-clause-value c = short_number-short c.args.digits.now c.number.result (search rules) c.number.ensures

pub returns-clause-bound : goal.returns-clause-bound
returns-clause-bound c = short_number-bound c.args.digits.now c.number.result (search rules) c.number.ensures
