-- What is left of a body, as a feed.
use Rattle.std.proofs.Common.{◌≡◌, refl, sym, ap, ◌∙◌, subst, ℕ, ◌<◌, ◌≤◌, Bool, true, false, List, ◌++◌, length, take, Option, Some, None, Result, Ok, Err}
use Rattle.std.specs.Prelude.{is_some, IfOk, IfErr, OnErr, ⊤}
use Rattle.std.specs.Option.{option_map}
use Rattle.std.specs.IoError.{error_kind}
use Rattle.std.specs.declared.io.Error.{Error}
use Rattle.tiny_http_io.specs.Device.{Feed, prepend, prepended, StopsBy, Reads}
use Rattle.tiny_http_io.specs.declared.device.Stop.{Stop}
use Rattle.tiny_http_io.specs.declared.device.Stop.TheVariants.{End, Fault}
use Rattle.tiny_http_body.specs.declared.body.UnreadBody.{UnreadBody}
use Rattle.tiny_http_body.specs.declared.body.UnreadBody.TheVariants.{Over, WithHead, Counted, Chunked, Rest}
use Rattle.tiny_http_body.specs.Body.{Remaining, remaining, prepended_body, BodyStops, ReadsHeld}
use Rattle.tiny_http_request.specs.Body.{body_part}

-- what is left of a body, where the input gives this
abbrev pub left_at : UnreadBody → Option Feed → Option Feed
left_at u feed = option_map body_part (remaining u feed)

part-of-prepended : (bs : List ℕ) (r : Option Remaining) → option_map body_part (prepended_body bs r) ≡ prepended bs (option_map body_part r)
part-of-prepended bs None = refl
part-of-prepended bs (Some r) = refl

part-stops : (stop : Stop) (r : Option Remaining) → BodyStops stop r → StopsBy stop (option_map body_part r)
part-stops stop None h = tt
part-stops stop (Some r) h = (ap (λ (f : Feed). f.bytes) h, ap (λ (f : Feed). f.stop) h)

-- what is said of what remains is said of the part that is the body's
reads-part : (old new : Option Remaining) (r : Result ℕ Error) (buf : List ℕ)
    → IfOk r (λ n. n ≤ length buf)
    → IfOk r (λ n. old ≡ prepended_body (take n buf) new)
    → IfOk r (λ n. n ≡ 0 → 0 < length buf → BodyStops End old)
    → IfErr r (λ e. BodyStops (Fault (error_kind e)) old)
    → OnErr r (new ≡ old)
    → Reads (option_map body_part old) (option_map body_part new) r buf
reads-part old new (Ok n) buf bound bytes end fault again = record {
  bound = bound;
  bytes = ap (λ (x : Option Remaining). option_map body_part x) bytes ∙ part-of-prepended (take n buf) new;
  end = λ zero room. part-stops End old (end zero room);
  fault = tt;
  again = tt;
}
reads-part old new (Err e) buf bound bytes end fault again = record {
  bound = tt;
  bytes = tt;
  end = tt;
  fault = part-stops (Fault (error_kind e)) old fault;
  again = ap (λ (x : Option Remaining). option_map body_part x) again;
}

err-same : (old new : UnreadBody) (feed : Option Feed) (r : Result ℕ Error) → IfErr r (λ e. (new ≡ old) × (new ≡ Over (Fault (error_kind e)))) → OnErr r (remaining new feed ≡ remaining old feed)
err-same old new feed (Ok n) h = tt
err-same old new feed (Err e) h = ap (λ u. remaining u feed) h.0

pub held-reads : (old new : UnreadBody) (feed : Option Feed) (r : Result ℕ Error) (buf : List ℕ)
    → ReadsHeld old new r buf → Reads (left_at old feed) (left_at new feed) r buf
held-reads old new feed r buf h = reads-part (remaining old feed) (remaining new feed) r buf h.bound (h.bytes feed) (h.end feed) (h.fault feed) (err-same old new feed r h.broken)
