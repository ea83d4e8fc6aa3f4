use Rattle.std.specs.Str.{IsUtf8}
use Rattle.std.proofs.lemmas.Str.{IsUtf8-from_ascii}
use Rattle.tiny_http_text.proofs.number.Numeral.as_str.Goals as goal

pub unreachable-requires : goal.unreachable-requires
unreachable-requires c =
    let text : IsUtf8 c.as_bytes.result.now = rw c.as_bytes.ensures.value (IsUtf8-from_ascii _ c.as_bytes.ensures.ascii) in
    c.in-Err.ensures.cases.0 text
