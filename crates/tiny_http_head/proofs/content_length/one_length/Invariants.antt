use Rattle.std.proofs.Common.{◌≡◌, drop}
use Rattle.std.specs.Prelude.{codes}
use Rattle.tiny_http_head.specs.Lists.{is_left_out, elements_by_name}
use Rattle.tiny_http_head.specs.ContentLength.{one_length, lengths_after}
use Rattle.tiny_http_head.proofs.content_length.one_length.Given as goal

abbrev pub invariant-loop-header : goal.invariant-loop-header
invariant-loop-header l =
    lengths_after l.found (elements_by_name (is_left_out l.blanks) (codes "Content-Length") (drop l.header-index l.headers)) ≡ one_length (elements_by_name (is_left_out l.blanks) (codes "Content-Length") l.headers)
