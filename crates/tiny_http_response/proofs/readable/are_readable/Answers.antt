use Rattle.std.proofs.Common.{rules, tests}
use Rattle.std.proofs.lemmas.Iterator.{cases_from_all, YieldsList-from_slice}
use Rattle.tiny_http_response.specs.Readable.{IsReadable}
use Rattle.tiny_http_response.proofs.ReadableLemmas.{readable-all}
use Rattle.tiny_http_response.proofs.readable.are_readable.Goals as goal

pub returns : goal.returns
returns c =
    readable-all c.args.headers.now c.all.result
    (cases_from_all _ _ _ IsReadable (λ h. IsReadable h → ⊥) c.all.ensures.ran (YieldsList-from_slice c.args.headers.now cc) (λ x q k. search (rules, tests)) (λ x q k. search (rules, tests)))
