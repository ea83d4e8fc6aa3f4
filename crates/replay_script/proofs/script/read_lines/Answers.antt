use Rattle.std.proofs.Common.{rules, ◌≡◌, sym, subst, ◌+◌, ◌++◌, ◌∷◌, [], List, take}
use Rattle.std.specs.List.{AllZip}
use Rattle.replay_script.specs.ScriptLine.{IsLine}
use Rattle.replay_script.specs.Script.{IsFirstBadLine}
use Rattle.replay_script.specs.declared.line.ScriptLine.{ScriptLine}
use Rattle.replay_script.proofs.ScriptLemmas.{texts, all_good, first_bad, read_on}
use Rattle.replay_script.proofs.script.read_lines.Goals as goal

pub returns-in_default-clause-bad : goal.returns-in_default-clause-bad
returns-in_default-clause-bad c = λ n e.
    let is_n : c.loop-i.i + 1 ≡ n = cc e in
    let good = all_good (texts (take c.loop-i.i c.args.lines.now)) c.loop-i.said.items c.loop-i.invariant in
    subst (IsFirstBadLine (texts c.args.lines.now)) is_n
    (first_bad c.args.lines.now c.loop-i.i _ c.loop-i-test.true good (λ g. let found = c.in_default.ensures.good.1 g in cc found))

pub loop-i-preserved : goal.loop-i-preserved
loop-i-preserved c =
    let pushed : c.push.new.self.items ≡ c.loop-i.said.items ++ c.in-Some.line ∷ [] = search rules in
    let read : List ScriptLine → Type 0 = λ said. AllZip IsLine (texts (take (c.loop-i.i + 1) c.args.lines.now)) said in
    subst read (sym pushed) (read_on c.args.lines.now c.loop-i.i _ c.loop-i.said.items c.in-Some.line c.loop-i-test.true c.loop-i.invariant c.in-Some.ensures.says)
