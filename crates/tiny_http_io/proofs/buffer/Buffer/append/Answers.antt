use Rattle.std.proofs.Common.{◌≡◌, ℕ, ◌++◌, length, length-take, ap, ◌∙◌, arith}
use Rattle.tiny_http_io.proofs.BufferLemmas.{window-appended}
use Rattle.tiny_http_io.proofs.buffer.Buffer.append.Goals as goal

pub returns-clause-bytes : goal.returns-clause-bytes
returns-clause-bytes c =
    let inside = c.self.inside in
    let ws = c.copy_from_slice.new.self in
    let copied = c.copy_from_slice.ensures.after in
    let count : length ws ≡ c.min-n.result = omega (arith, ap length copied, length-take {A = ℕ}) in
    window-appended inside.bytes inside.start inside.end c.min-n.result _ ws (omega arith) (omega arith) count
    ∙ ap (λ r. r ++ ws) c.self.view_is
    ∙ ap (λ r. c.args.self.now ++ r) copied
