use Rattle.std.proofs.Common.{rules, List, ℕ, length, ◌≡◌, subst, Some}
use Rattle.std.specs.Fmt.{DisplaysOnOk}
use Rattle.tiny_http_core.specs.HeadReads.{head_message}
use Rattle.replay_script.proofs.ReplyLemmas.{handed_joined}
use Rattle.replay_script.proofs.reply.HandedDisplay.fmt.Goals as goal

pub returns-clause-writes : goal.returns-clause-writes
returns-clause-writes g c =
    let h = c.args.self.now.1.now in
    let writes : List ℕ → Type 0 = λ text. DisplaysOnOk g.W.Write.write_str_gives c.args.f.now c.write.result (Some text) c.write.new.self in
    let count : c.len-headers.result ≡ length h.headers.items = search rules in
    subst writes (handed_joined c.args.self.now.0 (head_message h) h.framing.body_length c.as_str-path.result.now c.len-headers.result c.as_str-path.ensures.value count) c.write.ensures.writes
