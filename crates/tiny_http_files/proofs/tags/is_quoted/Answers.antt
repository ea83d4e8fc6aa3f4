use Rattle.std.proofs.Common.{◌∙◌}
use Rattle.tiny_http_files.proofs.TagsLemmas.{same-quoted}
use Rattle.tiny_http_files.proofs.tags.is_quoted.Goals as goal

pub returns-in-Some : goal.returns-in-Some
returns-in-Some c = c.eq.ensures ∙ same-quoted c.args.text.now c.in-Some.inner.now c.args.opaque.now c.in-Some.ensures.some
