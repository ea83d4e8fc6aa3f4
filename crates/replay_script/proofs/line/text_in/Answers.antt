use Rattle.std.proofs.Common.{◌≡◌, ◌++◌, codes}
use Rattle.replay_script.proofs.ScriptLineLemmas.{only_now, only_read, only_write, only_upgrade, only_respond}
use Rattle.replay_script.proofs.line.text_in.Goals as goal

pub returns-in_err-number-clause-found : goal.returns-in_err-number-clause-found
returns-in_err-number-clause-found c = λ s.
    let strips = c.in-Some.ensures.cases in
    let words = c.in-Some.words.now in
    let e : c.args.text.now ≡ codes "respond " ++ words = rw strips.2 strips.1.1 in
    let wrong = c.in_err-number.ensures.found (only_respond c.args.text.now words e s) in
    absurd (cc wrong)

pub returns-in-Some-clause-some : goal.returns-in-Some-clause-some
returns-in-Some-clause-some c =
    let strips = c.in-Some.ensures.cases in
    let words = c.in-Some.words.now in
    let e : c.args.text.now ≡ codes "respond " ++ words = rw strips.2 strips.1.1 in
    (words, e, c.in_ok-number.ensures.some)

pub returns-in_err-date_in-clause-found : goal.returns-in_err-date_in-clause-found
returns-in_err-date_in-clause-found c = λ s.
    let strips = c.in-Some-strip_prefix.ensures.cases in
    let e : c.args.text.now ≡ codes "now " ++ c.in-Some-strip_prefix.seconds.now = rw strips.2 strips.1.1 in
    rw c.from_residual-in_err-date_in.ensures (c.in_err-date_in.ensures.found (only_now c.args.text.now c.in-Some-strip_prefix.seconds.now e s))

pub returns-in_err-number-2-clause-found : goal.returns-in_err-number-2-clause-found
returns-in_err-number-2-clause-found c = λ s.
    let strips = c.in-Some-strip_prefix-7.ensures.cases in
    let words = c.in-Some-strip_prefix-7.words.now in
    let e : c.args.text.now ≡ codes "write " ++ words = rw strips.2 strips.1.1 in
    let written = only_write c.args.text.now words e s in
    absurd (c.in_err-number-2.ensures.found written.0 written.1 written.3 written.2)

pub returns-in_err-number-3-clause-found : goal.returns-in_err-number-3-clause-found
returns-in_err-number-3-clause-found c = λ s.
    let strips = c.in-Some-strip_prefix-8.ensures.cases in
    let words = c.in-Some-strip_prefix-8.words.now in
    let e : c.args.text.now ≡ codes "upgrade " ++ words = rw strips.2 strips.1.1 in
    let words_are = only_upgrade c.args.text.now words e s in
    absurd (c.in_err-number-3.ensures.found words_are.0 words_are.1 words_are.2 words_are.3)

pub returns-in_err-number-4-clause-found : goal.returns-in_err-number-4-clause-found
returns-in_err-number-4-clause-found c = λ s.
    let strips = c.in_ok-words.ensures.cases in
    let words = c.in_ok-words.words.now in
    let e : c.args.text.now ≡ codes "read " ++ words = rw strips.2 strips.1.1 in
    let read = only_read c.args.text.now words e s in
    rw c.from_residual-in_err-number-4.ensures (c.in_err-number-4.ensures.found read.0 read.1 read.2)

pub returns-clause-some : goal.returns-clause-some
returns-clause-some c =
    let strips = c.in_ok-words.ensures.cases in
    let words = c.in_ok-words.words.now in
    let e : c.args.text.now ≡ codes "read " ++ words = rw strips.2 strips.1.1 in
    (words, e, c.in_ok-number-4.ensures.some)
