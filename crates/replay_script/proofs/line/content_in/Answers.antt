use Rattle.std.proofs.Common.{◌≡◌, ◌++◌, codes, refl}
use Rattle.replay_script.proofs.ScriptLineLemmas.{only_stream, only_broken, count_read}
use Rattle.replay_script.proofs.line.content_in.Goals as goal

pub returns-in_err-count_in-clause-found : goal.returns-in_err-count_in-clause-found
returns-in_err-count_in-clause-found c = λ s.
    let strips = c.in-Some-strip_prefix.ensures.cases in
    let digits = c.in-Some-strip_prefix.digits.now in
    let e : c.args.text.now ≡ codes "stream " ++ digits = rw strips.2 strips.1.1 in
    let count = only_stream c.args.text.now digits e s in
    absurd (c.in_err-count_in.ensures (count_read digits digits count.0 refl count.1))

pub returns-in_err-count_in-2-clause-found : goal.returns-in_err-count_in-2-clause-found
returns-in_err-count_in-2-clause-found c = λ s.
    let strips = c.in_ok-digits.ensures.cases in
    let digits = c.in_ok-digits.digits.now in
    let e : c.args.text.now ≡ codes "broken " ++ digits = rw strips.2 strips.1.1 in
    let count = only_broken c.args.text.now digits e s in
    absurd (c.in_err-count_in-2.ensures (count_read digits digits count.0 refl count.1))
