use Rattle.std.proofs.Common.{◌≡◌, refl, sym, ap, ◌∙◌, subst, map, arith, inl, inr, ⊎_elim, true, ◌+◌, Option, [], ◌∷◌, ◌++◌, length, length-append}
use Rattle.std.specs.List.{AllZip}
use Rattle.std.proofs.lemmas.List.{map-append}
use Rattle.std.proofs.lemmas.Grind.{common_steps}
use Rattle.tiny_http_io.specs.Device.{Feed}
use Rattle.tiny_http_io.specs.Source.{GoesOn}
use Rattle.tiny_http_connection.specs.Seen.{IsTimedStep, seen, all_sent_after, all_sent}
use Rattle.tiny_http_connection.specs.Driving.{stated_step}
use Rattle.tiny_http_io.specs.Outlet.{OutletState, output_of, SentOn}
use Rattle.tiny_http_response.specs.Sending.{SinkFailsOnce}
use Rattle.tiny_http_io.proofs.SourceGoesOn.{goes-on_same, goes-on_more}
use Rattle.tiny_http_connection.proofs.ConversationRuns.{all-sent-snoc, sent-stated, joins-more, joins-end, fails-step, takes-snoc}
use Rattle.tiny_http_connection.proofs.DrivingLemmas.{done-none, done-step}
use Rattle.tiny_http_connection.proofs.run.run_with.Goals as goal

pub loop-timed-init : goal.loop-timed-init
loop-timed-init g c =
    let reader = g.R.ReadDevice.feed c.args.reader in
    let writer = g.W.WriteDevice.sink c.args.writer in
    let new = c.new_with-connection.result in
    let P : Option Feed → Type 0 = λ x. GoesOn reader x in
    record {
      joins = grind (arith, common_steps);
      counted = grind (arith, common_steps);
      fits = grind (arith, common_steps);
      as_many = rw c.in-Ok.ensures.items refl;
      follows = λ client dated states fresh stated. rw c.in-Ok.ensures.items (done-none (IsTimedStep g.D.ReadDevice.feed) c.args.profile client writer new dated (c.new_with-connection.ensures.begins client states fresh) stated);
      source = subst P (sym c.new_with-connection.ensures.source.0) (goes-on_same reader);
      fails_once = rw c.new_with-connection.ensures.outlet (inl refl);
      flushed = λ all. rw c.new_with-connection.ensures.outlet refl;
      sent_on = λ none all. rw c.new_with-connection.ensures.outlet (λ e. none);
      first = new;
      begins = record { profile = c.new_with-connection.ensures.profile; unasked = (c.new_with-connection.ensures.open.2, c.new_with-connection.ensures.open.1, c.new_with-connection.ensures.open.0); source = (c.new_with-connection.ensures.source.2, c.new_with-connection.ensures.source.0, c.new_with-connection.ensures.source.1); unread = (c.new_with-connection.ensures.source.3, c.new_with-connection.ensures.source.4, c.new_with-connection.ensures.source.5); outlet = c.new_with-connection.ensures.outlet };
      takes = rw c.in-Ok.ensures.items refl;
    }

pub loop-timed-preserved : goal.loop-timed-preserved
loop-timed-preserved g c =
    let writer = g.W.WriteDevice.sink c.args.writer in
    let inv = c.loop-timed.invariant in
    let old = c.loop-timed.connection in
    let new = c.step-reply.new.self in
    let step = c.step-reply.ensures.step in
    let done = c.loop-timed.yielded in
    let replies = c.loop-timed.replies.items in
    let before : all_sent (done ++ c.in-Some.timed ∷ []) c.push_reserved.new.self.items true ≡ true → all_sent_after (stated_step g.D.ReadDevice.feed c.in-Some.timed.step) (seen c.step-reply.result) (all_sent done replies true) ≡ true =
    λ e. sent-stated g.D.ReadDevice.feed c.in-Some.timed.step (seen c.step-reply.result) (all_sent done replies true) ∙ sym (all-sent-snoc done replies c.in-Some.timed c.step-reply.result true inv.as_many) ∙ ap (λ l. all_sent (done ++ c.in-Some.timed ∷ []) l true) (sym c.push_reserved.ensures.items) ∙ e in
    record {
      joins = joins-more _ _ _ _ c.in-Some.timed inv.joins c.in-Some.ensures.steps.0;
      counted = grind (arith, common_steps);
      fits = grind (arith, common_steps);
      as_many = length-append done (c.in-Some.timed ∷ []) ∙ ap (λ n. n + 1) inv.as_many ∙ sym (length-append replies (c.step-reply.result ∷ [])) ∙ ap length (sym c.push_reserved.ensures.items);
      follows = λ client dated states fresh stated. rw (c.push_reserved.ensures.items, map-append)
          (done-step g.D.ReadDevice.feed c.args.profile client writer old new c.in-Some.timed c.loop-timed.yielded (map seen c.loop-timed.replies.items) (seen c.step-reply.result) dated (λ ds t. inv.follows client ds states fresh t) step stated);
      source = goes-on_more _ _ _ inv.source step.makes.goes_on;
      fails_once = fails-step writer (output_of old.outlet) (output_of new.outlet) old.outlet.ended new.outlet.ended inv.fails_once step.makes.fails_once;
      flushed = λ e. step.makes.flushed (all_sent c.loop-timed.yielded c.loop-timed.replies.items true) inv.flushed (before e);
      sent_on = λ none e. step.makes.sent_on (all_sent c.loop-timed.yielded c.loop-timed.replies.items true) (inv.sent_on none) (before e);
      first = inv.first;
      begins = inv.begins;
      takes = rw c.push_reserved.ensures.items (takes-snoc g.R.ReadDevice.stop_count g.D.ReadDevice.feed inv.first old new done replies c.in-Some.timed c.step-reply.result inv.takes step.makes c.step-reply.ensures.meets);
    }

pub returns-clause-conversation : goal.returns-clause-conversation
returns-clause-conversation g c feed dated states fresh stated =
    let whole : c.loop-timed.yielded ≡ c.args.steps.items =
    joins-end _ _ _ c.loop-timed.invariant.joins (sym c.loop-timed.timed-iterator.rest.ok.0 ∙ c.in-None.ensures.steps.0) in
    let stated_all : AllZip (IsTimedStep g.D.ReadDevice.feed) c.loop-timed.yielded dated = rw whole stated in
    c.into_parts-source.ensures.conversation c.args.profile feed (g.W.WriteDevice.sink c.args.writer) dated (map seen c.loop-timed.replies.items) (c.loop-timed.invariant.follows feed dated states fresh stated_all)

pub returns-clause-run : goal.returns-clause-run
returns-clause-run g c =
    let inv = c.loop-timed.invariant in
    let left = c.into_parts-source.ensures in
    let whole : c.loop-timed.yielded ≡ c.args.steps.items = joins-end _ _ _ inv.joins (sym c.loop-timed.timed-iterator.rest.ok.0 ∙ c.in-None.ensures.steps.0) in
    let writer = g.W.WriteDevice.sink c.args.writer in
    let replies = c.loop-timed.replies.items in
    let Once : OutletState g.row.W.Denot → Type 0 = λ o. SinkFailsOnce writer (output_of o) o.ended in
    let Flushed : OutletState g.row.W.Denot → Type 0 = λ o. all_sent c.args.steps.items replies true ≡ true → o.held ≡ [] in
    let Sent : OutletState g.row.W.Denot → Type 0 = λ o. all_sent c.args.steps.items replies true ≡ true → SentOn o in
    record {
      replies = sym inv.as_many ∙ ap length whole;
      source = rw left.source inv.source;
      fails_once = rw (← left.sink) (⊎_elim (λ h. inl h) (λ h. inr h.0) (subst Once (sym left.outlet) inv.fails_once));
      first = inv.first;
      last = c.loop-timed.connection;
      begins = inv.begins;
      takes = rw (← whole) inv.takes;
      leaves = (left.source, left.outlet);
      states = left.sink;
      flushed = subst Flushed (sym left.outlet) (rw (← whole) inv.flushed);
      sent_on = λ none. subst Sent (sym left.outlet) (rw (← whole) (inv.sent_on none));
    }
