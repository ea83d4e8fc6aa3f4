use Rattle.std.proofs.Common.{refl, sym, ap, ◌∙◌, subst, ◌+◌, List, ◌∷◌, [], ◌++◌, codes}
use Rattle.std.specs.List.{list_any}
use Rattle.tiny_http_head.specs.declared.common.Header.{Header}
use Rattle.tiny_http_standard_head.specs.Validation.{is_protocol_named}
use Rattle.tiny_http_open_request.proofs.UpgradesLemmas.{AreKeptOf, kept-one, kept-none, kept-all}
use Rattle.tiny_http_open_request.proofs.open_request.upgrade_headers.Goals.{then-equiv+in_ok-try_clone+in_ok-push, else-equiv}
use Rattle.tiny_http_open_request.proofs.open_request.upgrade_headers.Goals as goal

pub loop-header-init : goal.loop-header-init
loop-header-init c = rw c.new-upgrades.ensures.items refl

pub loop-header-preserved : goal.loop-header-preserved
loop-header-preserved c =
    let name = codes "Upgrade" in
    let headers = c.args.headers.now in
    let i = c.loop-header.header-index in
    let h = c.header-item.result in
    let P : List Header → Type 0 = λ kept. AreKeptOf name kept headers (i + 1) in
    elim c.if-equiv.branch [
      | then-equiv+in_ok-try_clone+in_ok-push w ↦
          let kept = c.loop-header.upgrades.items in
          let more = w.in_ok-push.ensures.items ∙ ap (λ (x : Header). kept ++ (x ∷ [])) w.in_ok-try_clone.ensures in
          subst P (sym (ap (λ v. v.items) w.upgrades-is ∙ more)) (kept-one name kept headers i h c.loop-header-test.true c.header-item.is (sym c.equiv.ensures ∙ w.if-equiv.true) c.loop-header.invariant)
      | else-equiv w ↦ subst P (ap (λ v. v.items) (sym w.upgrades-is)) (kept-none name c.loop-header.upgrades.items headers i h c.loop-header-test.true c.header-item.is (sym c.equiv.ensures ∙ w.if-equiv.false) c.loop-header.invariant)
    ]

pub returns : goal.returns
returns c protocol = ap (list_any (is_protocol_named protocol)) (kept-all (codes "Upgrade") c.loop-header.upgrades.items c.args.headers.now c.loop-header.header-index c.loop-header-test.false c.loop-header.invariant)
