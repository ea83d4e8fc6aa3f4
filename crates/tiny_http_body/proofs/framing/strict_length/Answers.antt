use Rattle.std.proofs.Common.{◌≡◌, ◌∙◌, sym, true, false}
use Rattle.std.specs.Prelude.{codes, is_some}
use Rattle.tiny_http_body.specs.Framing.{value_of, elements_of}
use Rattle.tiny_http_body.proofs.StrictLemmas.{none-named, some-named, strict-uncoded, strict-both, strict-coded}
use Rattle.tiny_http_body.proofs.framing.strict_length.Goals as goal

pub returns-then-not-is_coded : goal.returns-then-not-is_coded
returns-then-not-is_coded c coded sized =
    let hs = c.args.headers.now in
    let none : is_some (value_of (codes "Transfer-Encoding") hs) ≡ false = sym coded ∙ c.if-not-is_coded.true in
    c.uncoded_length.ensures ∙ strict-uncoded (elements_of (codes "Content-Length") hs) (elements_of (codes "Transfer-Encoding") hs) (none-named (codes "Transfer-Encoding") hs none)

pub returns-then-is_sized : goal.returns-then-is_sized
returns-then-is_sized c coded sized =
    let hs = c.args.headers.now in
    let has_coding : is_some (value_of (codes "Transfer-Encoding") hs) ≡ true = sym coded ∙ c.if-not-is_coded.false in
    let has_length : is_some (value_of (codes "Content-Length") hs) ≡ true = sym sized ∙ c.if-is_sized.true in
    strict-both (elements_of (codes "Content-Length") hs) (elements_of (codes "Transfer-Encoding") hs) (some-named (codes "Content-Length") hs has_length) (some-named (codes "Transfer-Encoding") hs has_coding)

pub returns-then-is_chunked : goal.returns-then-is_chunked
returns-then-is_chunked c coded sized =
    let hs = c.args.headers.now in
    let has_coding : is_some (value_of (codes "Transfer-Encoding") hs) ≡ true = sym coded ∙ c.if-not-is_coded.false in
    let no_length : is_some (value_of (codes "Content-Length") hs) ≡ false = sym sized ∙ c.if-is_sized.false in
    strict-coded (elements_of (codes "Content-Length") hs) (elements_of (codes "Transfer-Encoding") hs) true (none-named (codes "Content-Length") hs no_length) (some-named (codes "Transfer-Encoding") hs has_coding) (sym c.is_chunked.ensures ∙ c.if-is_chunked.true)

pub returns : goal.returns
returns c coded sized =
    let hs = c.args.headers.now in
    let has_coding : is_some (value_of (codes "Transfer-Encoding") hs) ≡ true = sym coded ∙ c.if-not-is_coded.false in
    let no_length : is_some (value_of (codes "Content-Length") hs) ≡ false = sym sized ∙ c.if-is_sized.false in
    strict-coded (elements_of (codes "Content-Length") hs) (elements_of (codes "Transfer-Encoding") hs) false (none-named (codes "Content-Length") hs no_length) (some-named (codes "Transfer-Encoding") hs has_coding) (sym c.is_chunked.ensures ∙ c.if-is_chunked.false)
