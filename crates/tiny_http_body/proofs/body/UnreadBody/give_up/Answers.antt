use Rattle.std.proofs.Common.{rules, ap, sym, subst, ◌∙◌}
use Rattle.tiny_http_io.specs.Source.{SourceState}
use Rattle.tiny_http_body.specs.declared.body.UnreadBody.{UnreadBody}
use Rattle.tiny_http_body.specs.declared.body.UnreadBody.TheVariants.{Counted, Chunked}
use Rattle.tiny_http_io.specs.InputState.{after_body, after_abandoned}
use Rattle.tiny_http_body.specs.Body.{GivesUp}
use Rattle.tiny_http_body.proofs.body.UnreadBody.give_up.Goals.{in-Counted, in-Chunked, in-Over, in-WithHead, in-Rest}
use Rattle.tiny_http_body.proofs.body.UnreadBody.give_up.Goals as goal

pub returns-clause-gives_up : goal.returns-clause-gives_up
returns-clause-gives_up g c =
    let S = SourceState g.row.R.Denot in
    let old = c.args.source.now in
    let P : UnreadBody → Type 0 = λ b. GivesUp b old c.match-self.source in
    elim c.match-self.branch [
      | in-Counted w ↦
          let Q : S → Type 0 = λ x. GivesUp (Counted w.in-Counted.left w.in-Counted.by_standard) old x in
          subst P (sym w.in-Counted.is) (subst Q (sym (w.source-is ∙ w.set_input_state.ensures)) (record {
            feed = w.skip.ensures.skips.feed;
            alone = w.skip.ensures.skips.alone;
            adds = w.skip.ensures.skips.adds;
            once = w.skip.ensures.skips.once;
            input_state = w.after_body.ensures ∙ ap after_body c.input_state-input_state.ensures;
          }))
      | in-Chunked w ↦
          let Q : S → Type 0 = λ x. GivesUp (Chunked w.in-Chunked.field-0) old x in
          subst P (sym w.in-Chunked.is) (subst Q (sym (w.source-is ∙ w.set_input_state-in-Chunked.ensures)) (record {
            feed = w.end.ensures.feed;
            at_end = w.end.ensures.at_end;
            reader = w.end.ensures.reader;
            input_state = w.after_abandoned.ensures ∙ ap after_abandoned c.input_state-input_state.ensures;
          }))
      | in-Over w ↦ search rules
      | in-WithHead w ↦ search rules
      | in-Rest w ↦ search rules
    ]
