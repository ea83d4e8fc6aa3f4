-- What reading a line makes of a feed.
use Rattle.std.proofs.Common.{◌≡◌, ℕ, List, [], ◌∷◌, ◌++◌, Option, None, Some, Ok, Err, refl}
use Rattle.std.specs.Str.{IsAscii, IsNotAscii}
use Rattle.tiny_http_io.specs.Device.{Feed, prepended}
use Rattle.tiny_http_io.specs.LineEnds.{BeginsNoLineEnd}
use Rattle.tiny_http_io.specs.Source.{ReadsLine, TakesLine}
use Rattle.tiny_http_io.specs.declared.source.LineFault.TheVariants.{NotAscii}
use Rattle.tiny_http_io.proofs.LineEndsLemmas.{line-at_end}

-- a first line that is no ASCII
pub reads-not_ascii : (f0 f1 : Option Feed) (text : List ℕ) → f0 ≡ prepended (text ++ (13 ∷ (10 ∷ []))) f1 → BeginsNoLineEnd text (13 ∷ []) → IsNotAscii text →
    ReadsLine f0 f1 (Err NotAscii)
reads-not_ascii f0 None text e p bad = rw e tt
reads-not_ascii f0 (Some f) text e p bad = rw e (text, f.bytes, line-at_end text f.bytes p, bad, refl)

-- a first line
pub reads-ascii : (f0 f1 : Option Feed) (text : List ℕ) → f0 ≡ prepended (text ++ (13 ∷ (10 ∷ []))) f1 → BeginsNoLineEnd text (13 ∷ []) → IsAscii text → ReadsLine f0 f1 (Ok text)
reads-ascii f0 None text e p good = rw e tt
reads-ascii f0 (Some f) text e p good = rw e (f.bytes, line-at_end text f.bytes p, good, refl)

-- a first line, whatever bytes it has
pub takes-line : (f0 f1 : Option Feed) (text : List ℕ) → f0 ≡ prepended (text ++ (13 ∷ (10 ∷ []))) f1 → BeginsNoLineEnd text (13 ∷ []) → TakesLine f0 f1 text
takes-line f0 None text e p = rw e tt
takes-line f0 (Some f) text e p = rw e (f.bytes, line-at_end text f.bytes p, refl)
