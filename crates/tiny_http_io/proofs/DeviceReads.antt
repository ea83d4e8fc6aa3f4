-- One read, by cases.
use Rattle.std.proofs.Common.{◌≡◌, ℕ, ◌<◌, List, length, take, Option, Some, None, Result, Ok, Err, IfOk, sym, ap}
use Rattle.std.specs.Prelude.{IfErr, OnErr}
use Rattle.std.specs.IoError.{error_kind}
use Rattle.std.specs.declared.io.Error.{Error}
use Rattle.tiny_http_io.specs.declared.device.Stop.TheVariants.{End, Fault}
use Rattle.tiny_http_io.specs.Device.{Feed, prepended, prepend, StopsBy, ReadsFrom}

some-eq : (a b : Feed) → Some a ≡ Some b → a ≡ b
some-eq a b e = cc

pub reads-from : (o p : Option Feed) (r : Result ℕ Error) (buf : List ℕ) → IfOk r (λ n. o ≡ prepended (take n buf) p) → IfOk r (λ n. n ≡ 0 → 0 < length buf → StopsBy End o)
    → IfErr r (λ e. StopsBy (Fault (error_kind e)) o) → OnErr r (p ≡ o) → ReadsFrom o p r buf
reads-from None p (Ok n) buf b e f a = tt
reads-from None p (Err x) buf b e f a = tt
reads-from (Some f) None (Ok n) buf b e k a = cc
reads-from (Some f) None (Err x) buf b e k a = cc
reads-from (Some f) (Some g) (Ok n) buf b e k a =
    let h = some-eq f (prepend (take n buf) g) b in
    let bytes : Feed → List ℕ = λ x. x.bytes in
    (ap bytes h, sym (ap (λ (x : Feed). x.stop) h), e)
reads-from (Some f) (Some g) (Err x) buf b e k a = (k.0, k.1, some-eq g f a)
