use Rattle.std.proofs.Common.{◌++◌, length, take, ap, ◌∙◌, arith}
use Rattle.std.proofs.lemmas.Slice.{take-put_mid}
use Rattle.tiny_http_response.proofs.page.Page.append.Goals as goal

pub returns-clause-bytes : goal.returns-clause-bytes
returns-clause-bytes c =
    let page = c.args.self.now in
    let copied = c.copy_from_slice.ensures.after in
    take-put_mid page.len _ page.bytes c.copy_from_slice.new.self _ (omega (arith, ap length copied)) (omega arith)
    ∙ ap (λ r. take page.len page.bytes ++ r) copied
