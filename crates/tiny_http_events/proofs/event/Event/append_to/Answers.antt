use Rattle.std.proofs.Common.{rules, append_assoc}
use Rattle.tiny_http_events.specs.Events.{event_text}
use Rattle.tiny_http_events.proofs.Reading.{event-read}
use Rattle.tiny_http_events.proofs.event.Event.append_to.Goals as goal

pub returns-clause-read : goal.returns-clause-read
returns-clause-read c = search (rules, event-read)

pub returns-clause-text : goal.returns-clause-text
unfolding event_text
returns-clause-text c = search (rules, append_assoc)
