use Rattle.std.proofs.Common.{◌≡◌, refl, sym, ap, ◌∙◌, subst, false, true, List, ℕ, ◌-◌, length, take, drop, take_all, length-drop, arith}
use Rattle.std.proofs.lemmas.List.{drop_all}
use Rattle.tiny_http_head.specs.Common.{same_name, lowercase}
use Rattle.tiny_http_head.proofs.FirstByte.{contrary}
use Rattle.tiny_http_standard_head.specs.Hosts.{IsHostWithPort}
use Rattle.tiny_http_standard_head.specs.Lines.{authority_in}
use Rattle.tiny_http_standard_head.proofs.HostsLemmas.{no-empty_host}
use Rattle.std.proofs.lemmas.Slice.Eq.{bytes_eq-Decides}
use Rattle.tiny_http_standard_head.proofs.lines.has_scheme.Goals.{then-target-n-via-then-target-n, then-target-n-via-else-target-n+then-not-eq_ignore_ascii_case}
use Rattle.tiny_http_standard_head.proofs.lines.has_scheme.Goals as goal

pub returns-then-target-n : goal.returns-then-target-n
returns-then-target-n c = (
  (λ e. contrary false e refl),
  (λ h. elim c.then-target-n.branch [
    | then-target-n-via-then-target-n w ↦
        absurd (no-empty_host (subst (λ (x : List ℕ). IsHostWithPort (authority_in x)) (drop_all (length c.args.scheme.now) c.args.target.now (omega (arith, w.if-target-n.true))) h.authority))
    | then-target-n-via-else-target-n+then-not-eq_ignore_ascii_case w ↦
        let front = take (length c.args.scheme.now) c.args.target.now in
        let same = (bytes_eq-Decides (lowercase front) (lowercase c.args.scheme.now)).0 h.front in
        contrary w.eq_ignore_ascii_case.result (w.eq_ignore_ascii_case.ensures.test.1 same) w.if-not-eq_ignore_ascii_case.true
  ]),
)

pub returns : goal.returns
returns c =
    let scheme = c.args.scheme.now in
    let front = take (length scheme) c.args.target.now in
    let same : same_name front scheme ≡ true = (bytes_eq-Decides (lowercase front) (lowercase scheme)).1 (c.eq_ignore_ascii_case.ensures.test.0 c.if-not-eq_ignore_ascii_case.false) in
    let rest = drop (length scheme) c.args.target.now in
    let all : take (length c.args.target.now - length scheme) rest ≡ rest = take_all (length c.args.target.now - length scheme) rest (grind (arith, length-drop)) in
    let is : c.authority_in.result.now ≡ authority_in rest = c.authority_in.ensures ∙ ap authority_in all in (
      (λ good. record { front = same; authority = subst IsHostWithPort is (c.is_host_with_port.ensures.0 good) }),
      (λ h. c.is_host_with_port.ensures.1 (subst IsHostWithPort (sym is) h.authority)),
    )
