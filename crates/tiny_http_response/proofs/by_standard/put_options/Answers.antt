use Rattle.std.proofs.Common.{ℕ, List, ◌++◌, sym, subst, append_assoc, codes}
use Rattle.tiny_http_io.specs.Device.{Puts}
use Rattle.tiny_http_response.specs.Answer.{field_line}
use Rattle.tiny_http_response.proofs.by_standard.put_options.Goals as goal

pub returns-in-Some : goal.returns-in-Some
unfolding field_line
returns-in-Some g c =
    let P : List ℕ → Type 0 = λ x. Puts (g.W.WriteDevice.sink c.args.writer.now) (g.W.WriteDevice.sink c.put_all.new.writer) c.put_all.result (codes "Connection" ++ (codes ": " ++ x)) in
    rw c.in-Some.is (subst P (sym (append_assoc c.in-Some.option.now (codes ", upgrade") (codes "\r\n"))) (rw (← c.as_bytes.ensures.value) c.put_all.ensures))
