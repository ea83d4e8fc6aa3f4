-- The parts of `TextBytes`, the bytes of an `AsciiString`, that contracts refer to.
use Rattle.std.specs.Prelude.{ℕ, List, take}
use Rattle.tiny_http_text.specs.declared.ascii.TextBytes.{TextBytes}
use Rattle.tiny_http_text.specs.declared.ascii.TextBytes.TheVariants.{Short, Long}

-- the bytes of a text, which are stored inline or in an allocation
abbrev pub text_bytes : TextBytes → List ℕ
text_bytes (Short short) = take short.len short.bytes
text_bytes (Long bytes) = bytes.items
