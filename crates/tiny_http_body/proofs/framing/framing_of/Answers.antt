use Rattle.std.proofs.Common.{rules, codes, sym, ap, ◌∙◌}
use Rattle.std.specs.Option.{option_copied}
use Rattle.tiny_http_body.specs.Framing.{expectation}
use Rattle.tiny_http_body.proofs.FramingLemmas.{first-passed, first-all, framed-found}
use Rattle.tiny_http_body.proofs.framing.framing_of.Goals as goal

pub loop-header-preserved : goal.loop-header-preserved
loop-header-preserved c =
    let l = c.loop-header in
    let hs = c.args.headers.now in
    let h = c.header-item.result in
    let within = c.loop-header-test.true in
    let is = c.header-item.is in (
      first-passed (option_copied l.connection) (option_copied c.or_value_of-connection.result) (codes "Connection") hs l.header-index h within is c.or_value_of-connection.ensures l.invariant.0,
      first-passed (option_copied l.expect) (option_copied c.or_value_of-expect.result) (codes "Expect") hs l.header-index h within is c.or_value_of-expect.ensures l.invariant.1,
      first-passed (option_copied l.length) (option_copied c.or_value_of-length.result) (codes "Content-Length") hs l.header-index h within is c.or_value_of-length.ensures l.invariant.2,
      first-passed (option_copied l.coding) (option_copied c.or_value_of-coding.result) (codes "Transfer-Encoding") hs l.header-index h within is c.or_value_of-coding.ensures l.invariant.3,
    )

pub returns : goal.returns
returns c =
    let l = c.loop-header in
    let hs = c.args.headers.now in
    let end = c.loop-header-test.false in
    let connection = first-all (option_copied l.connection) (codes "Connection") hs l.header-index end l.invariant.0 in
    let expect = first-all (option_copied l.expect) (codes "Expect") hs l.header-index end l.invariant.1 in
    let length = first-all (option_copied l.length) (codes "Content-Length") hs l.header-index end l.invariant.2 in
    let coding = first-all (option_copied l.coding) (codes "Transfer-Encoding") hs l.header-index end l.invariant.3 in
    framed-found c.args.rules c.args.version hs c.in_ok-body_length.body_length c.in-Some.owed c.form_by.result c.is_last.result (option_copied l.connection) (option_copied l.coding) connection coding
    (sym (c.body_length.ensures coding length) ∙ search rules) (ap (λ e. expectation e) (sym expect) ∙ sym c.expectation.ensures ∙ c.in-Some.is) (search rules) c.is_last.ensures
