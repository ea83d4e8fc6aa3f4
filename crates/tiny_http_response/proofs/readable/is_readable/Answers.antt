use Rattle.std.proofs.Common.{◌≡◌, subst, sym}
use Rattle.std.specs.Str.{IsAscii}
use Rattle.tiny_http_response.proofs.ReadableLemmas.{readable-value}
use Rattle.tiny_http_response.proofs.readable.is_readable.Goals as goal

pub returns-then-is_readable_name : goal.returns-then-is_readable_name
returns-then-is_readable_name c =
    let h = c.args.header.now in
    let name = c.as_bytes.result.now in
    let value = c.as_bytes-then-is_readable_name.result.now in
    let field : name ≡ h.field = cc in
    let text : value ≡ h.value = cc in
    let seen : name ≡ c.as_str.result = cc in
    readable-value h name value c.is_readable_value.result field text
    (subst IsAscii (sym seen) c.as_str-name.ensures.ascii)
    (subst IsAscii (sym text) c.as_str-value.ensures.ascii)
    (c.is_readable_name.ensures.0 c.if-is_readable_name.true)
    c.is_readable_value.ensures
