use Rattle.std.proofs.Common.{rules, ℕ, ◌∙◌, ap, sym, List, Option, Ok, take, subst}
use Rattle.tiny_http_io.specs.Device.{Feed}
use Rattle.tiny_http_io.specs.declared.source.FirstLine.{FirstLine}
use Rattle.tiny_http_io.specs.Source.{TakesLine, IsWithin}
use Rattle.tiny_http_open_request.specs.HeadReads.{StartIn, FindsText, left_after}
use Rattle.tiny_http_open_request.proofs.HeadReadsLemmas.{start-taken}
use Rattle.tiny_http_open_request.proofs.SeenLemmas.{held-long}
use Rattle.tiny_http_open_request.proofs.heads.read_start.Goals as goal

pub returns-in-Taken-clause-reads : goal.returns-in-Taken-clause-reads
returns-in-Taken-clause-reads g c =
    let old = c.args.source.now.feed in
    let new = c.find_text_line.new.source in
    let limit = c.args.left.now in
    let Found : FirstLine → Type 0 = λ l. FindsText limit old new.feed new.held new.skip (Ok l) in
    let Read : List ℕ → Type 0 = λ t. StartIn t c.start_in.result in
    let found = subst Found c.in-Taken.is c.in_ok-text.ensures.finds in
    start-taken limit c.left_after.result old new.feed c.in-Taken.text.items c.start_in.result found.0 found.1 (search rules) (subst Read c.as_slice.ensures.value c.start_in.ensures)

pub returns-in-Held-clause-reads : goal.returns-in-Held-clause-reads
returns-in-Held-clause-reads g c =
    let old = c.args.source.now.feed in
    let mid = c.find_text_line.new.source in
    let limit = c.args.left.now in
    let n = c.in-Held.n in
    let Found : FirstLine → Type 0 = λ l. FindsText limit old mid.feed mid.held mid.skip (Ok l) in
    let Passed : Option Feed → Type 0 = λ f. TakesLine f c.pass_line.new.self.feed (take n mid.held) in
    let Read : List ℕ → Type 0 = λ t. StartIn (take n t) c.start_in-start.result in
    let found = subst Found c.in-Held.is c.in_ok-text.ensures.finds in
    let long = held-long mid.held n found.2 in
    start-taken limit c.left_after-in-Held.result old c.pass_line.new.self.feed (take n mid.held) c.start_in-start.result (subst Passed found.0 c.pass_line.ensures.line) (subst (IsWithin limit) (sym long) found.3) (c.left_after-in-Held.ensures ∙ ap (λ k. left_after k limit) (sym long)) (subst Read c.held.ensures c.start_in-start.ensures)
