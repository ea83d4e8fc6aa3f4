use Rattle.std.proofs.Common.{◌≡◌, drop, codes}
use Rattle.std.specs.Option.{option_copied}
use Rattle.tiny_http_body.specs.Framing.{value_of}
use Rattle.tiny_http_body.specs.FramingReading.{first_value}
use Rattle.tiny_http_body.proofs.framing.framing_of.Given as goal

abbrev pub invariant-loop-header : goal.invariant-loop-header
invariant-loop-header l =
    let rest = drop l.header-index l.headers in
    (first_value (option_copied l.connection) (codes "Connection") rest ≡ value_of (codes "Connection") l.headers)
    × (first_value (option_copied l.expect) (codes "Expect") rest ≡ value_of (codes "Expect") l.headers)
    × (first_value (option_copied l.length) (codes "Content-Length") rest ≡ value_of (codes "Content-Length") l.headers)
    × (first_value (option_copied l.coding) (codes "Transfer-Encoding") rest ≡ value_of (codes "Transfer-Encoding") l.headers)
