use Rattle.std.specs.Str.{IsUtf8}
use Rattle.std.proofs.lemmas.Str.{IsUtf8-from_ascii}
use Rattle.tiny_http_text.proofs.ascii.AsciiString.as_str.Goals as goal

pub from_utf8_unchecked-requires : goal.from_utf8_unchecked-requires
from_utf8_unchecked-requires c =
    let text : IsUtf8 c.as_slice.result.now = rw c.as_slice.ensures (IsUtf8-from_ascii _ c.self.invariant) in
    text
