use Rattle.std.proofs.Common.{◌≡◌, ap, Err}
use Rattle.std.specs.Prelude.{IsErrOf}
use Rattle.tiny_http_head.specs.declared.common.ParseError.{ParseError}
use Rattle.tiny_http_request.proofs.test.TestRequest.with.Goals as goal

-- an error says the same whatever value there would have been
moved : {A B : Type 0} (e f : ParseError) → IsErrOf {T = A} (Err e) f → IsErrOf {T = B} (Err e) f
moved e f h = let same : e ≡ f = cc in ap Err same

pub returns-in-Err-clause-refused : goal.returns-in-Err-clause-refused
returns-in-Err-clause-refused c =
    (λ h. c.in-Err.ensures.refused.0 (moved _ _ h), λ n. moved _ _ (c.in-Err.ensures.refused.1 n))
