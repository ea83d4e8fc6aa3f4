use Rattle.std.proofs.Common.{rules, ◌≡◌, sym, ap, ◌∙◌, subst, ℕ, ◌+◌, ◌-◌, List, length, take, length-take-le, arith}
use Rattle.tiny_http_standard_head.specs.declared.source_lines.FoundLine.{FoundLine}
use Rattle.tiny_http_standard_head.specs.SourceLines.{FindsLine}
use Rattle.tiny_http_standard_head.specs.Lines.{IsNoRequestLine}
use Rattle.tiny_http_standard_head.specs.SourceHeads.{RequestIn}
use Rattle.tiny_http_standard_head.proofs.SourceHeadsLemmas.{request-taken, held-taken, request-memory, lacks-taken}
use Rattle.tiny_http_standard_head.proofs.source_heads.read_request.Goals as goal

pub returns-in-Ok-Taken-clause-reads : goal.returns-in-Ok-Taken-clause-reads
returns-in-Ok-Taken-clause-reads g c =
    let limit = c.args.left.now in
    let mid = c.find_line.new.source in
    let line = c.in-Ok-Taken.line.items in
    let finds = subst (λ (x : FoundLine). FindsLine limit c.args.source.now.feed mid.feed mid.held mid.skip x) c.in-Ok-Taken.field-0-is c.in-Ok-Taken.ensures.finds in
    request-taken limit (limit - (c.len.result + 1)) c.args.source.now.feed mid.feed line c.request_in.result (ap (λ n. limit - (n + 1)) (search rules)) finds
    (subst (λ (x : List ℕ). RequestIn x c.request_in.result) c.as_slice.ensures.value c.request_in.ensures)

pub returns-in-Ok-Held-clause-reads : goal.returns-in-Ok-Held-clause-reads
returns-in-Ok-Held-clause-reads g c =
    let limit = c.args.left.now in
    let old = c.args.source.now.feed in
    let mid = c.find_line.new.source in
    let n = c.in-Ok-Held.n in
    let finds = subst (λ (x : FoundLine). FindsLine limit old mid.feed mid.held mid.skip x) c.in-Ok-Held.field-0-is c.in-Ok-Held.ensures.finds in
    let line = take n c.held.result.now in
    let is : line ≡ take n mid.held = ap (take n) c.held.ensures in
    let long : n ≡ length line = sym (ap length is ∙ length-take-le n mid.held (omega (arith, finds.2.within))) in
    request-taken limit (limit - (n + 1)) old c.consume.new.self.feed line c.request_in-request.result (ap (λ k. limit - (k + 1)) long)
    (held-taken limit n old mid.feed c.consume.new.self.feed mid.held line finds.0 c.consume.ensures.feed finds.2 finds.3 is) c.request_in-request.ensures

pub returns-in-Ok-Taken-clause-memory : goal.returns-in-Ok-Taken-clause-memory
returns-in-Ok-Taken-clause-memory g c memory =
    let limit = c.args.left.now in
    let mid = c.find_line.new.source in
    let line = c.in-Ok-Taken.line.items in
    let finds = subst (λ (x : FoundLine). FindsLine limit c.args.source.now.feed mid.feed mid.held mid.skip x) c.in-Ok-Taken.field-0-is c.in-Ok-Taken.ensures.finds in
    let reads = subst (λ (x : List ℕ). RequestIn x c.request_in.result) c.as_slice.ensures.value c.request_in.ensures in
    lacks-taken IsNoRequestLine limit c.args.source.now.feed mid.feed mid.held line finds (request-memory line c.request_in.result reads memory)

pub returns-in-Ok-Held-clause-memory : goal.returns-in-Ok-Held-clause-memory
returns-in-Ok-Held-clause-memory g c memory =
    let limit = c.args.left.now in
    let old = c.args.source.now.feed in
    let mid = c.find_line.new.source in
    let new = c.consume.new.self in
    let n = c.in-Ok-Held.n in
    let finds = subst (λ (x : FoundLine). FindsLine limit old mid.feed mid.held mid.skip x) c.in-Ok-Held.field-0-is c.in-Ok-Held.ensures.finds in
    let line = take n c.held.result.now in
    let is : line ≡ take n mid.held = ap (take n) c.held.ensures in
    lacks-taken IsNoRequestLine limit old new.feed new.held line (held-taken limit n old mid.feed new.feed mid.held line finds.0 c.consume.ensures.feed finds.2 finds.3 is)
    (request-memory line c.request_in-request.result c.request_in-request.ensures memory)
