use Rattle.std.proofs.Common.{rules}
use Rattle.tiny_http_events.specs.Events.{comment_text}
use Rattle.tiny_http_events.proofs.Reading.{comment-ignored}
use Rattle.tiny_http_events.proofs.event.append_comment.Goals as goal

pub returns-clause-ignored : goal.returns-clause-ignored
returns-clause-ignored c = search (rules, comment-ignored c.args.comment.now)

pub returns-clause-text : goal.returns-clause-text
unfolding comment_text
returns-clause-text c = c.put_fields.ensures
