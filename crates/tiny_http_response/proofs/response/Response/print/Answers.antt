use Rattle.std.proofs.Common.{refl, sym, ◌∙◌, None}
use Rattle.std.specs.Option.{option_copied}
use Rattle.tiny_http_response.specs.declared.coding.Coding.TheVariants.{Identity, Chunked}
use Rattle.tiny_http_response.specs.Answer.{Answer, Printing, head_text_of}
use Rattle.tiny_http_body.proofs.DeviceFaults.{Prints-uses}
use Rattle.tiny_http_response.proofs.AnswerLemmas.{Answered-upgrade, Answered-contentless, Answered-coded, Printed-owing}
use Rattle.tiny_http_response.proofs.response.Response.print.Goals as goal

pub returns-in-Some-clause-text : goal.returns-in-Some-clause-text
returns-in-Some-clause-text g c =
    let x = c.args.context in
    let answer : Answer = record { status = c.self.inside.status.0; headers = c.deref.result.now; data_length = c.self.inside.data_length; threshold = c.self.inside.threshold; closes = c.self.inside.closes; offered = c.self.inside.offered; contentless = c.self.inside.contentless } in
    let p : Printing = record { version = x.version; asked_coding = x.asked_coding; no_body = x.no_body; persistence = x.persistence; upgrade = option_copied c.args.upgrade; date = c.args.now } in
    rw (← c.self.view_is, ← c.deref.ensures.value) (Answered-upgrade {T = Unit {0}} _ _ _ _ answer p c.in-Some.protocol.now (rw c.in-Some.is refl) c.print_upgrade.ensures)

pub returns-in-Some-contentless_framing-clause-text : goal.returns-in-Some-contentless_framing-clause-text
returns-in-Some-contentless_framing-clause-text g c =
    let x = c.args.context in
    let answer : Answer = record { status = c.self.inside.status.0; headers = c.deref.result.now; data_length = c.self.inside.data_length; threshold = c.self.inside.threshold; closes = c.self.inside.closes; offered = c.self.inside.offered; contentless = c.self.inside.contentless } in
    let p : Printing = record { version = x.version; asked_coding = x.asked_coding; no_body = x.no_body; persistence = x.persistence; upgrade = None; date = c.args.now } in
    rw (← c.self.view_is, ← c.deref.ensures.value, c.in_default.is) (Answered-contentless {T = Unit {0}} _ _ _ _ answer p c.in-Some-contentless_framing.framing refl (sym c.in-Some-contentless_framing.is ∙ c.contentless_framing.ensures) c.put_head.ensures)

pub returns-in-Chunked-clause-text : goal.returns-in-Chunked-clause-text
returns-in-Chunked-clause-text g c =
    let x = c.args.context in
    let answer : Answer = record { status = c.self.inside.status.0; headers = c.deref.result.now; data_length = c.self.inside.data_length; threshold = c.self.inside.threshold; closes = c.self.inside.closes; offered = c.self.inside.offered; contentless = c.self.inside.contentless } in
    let p : Printing = record { version = x.version; asked_coding = x.asked_coding; no_body = x.no_body; persistence = x.persistence; upgrade = None; date = c.args.now } in
    rw (← c.self.view_is, ← c.deref.ensures.value, c.in_default.is)
    (Answered-coded {T = Unit {0}} _ _ _ _ answer p Chunked c.is_withheld-withheld.result refl (sym c.contentless_framing.ensures ∙ c.in_default-contentless_framing.is) (sym c.in-Chunked.is ∙ c.choose-coding.ensures) c.is_withheld-withheld.ensures
    (Printed-owing {T = Unit {0}} g.R.ReadDevice.feed _ _ _ _ _ _ x.persistence answer.data_length (λ framing. head_text_of answer p framing) c.is_withheld-withheld.result c.new-data.ensures c.owed.ensures c.print_in_chunks.ensures.text))

pub returns-in-Identity-clause-text : goal.returns-in-Identity-clause-text
returns-in-Identity-clause-text g c =
    let x = c.args.context in
    let answer : Answer = record { status = c.self.inside.status.0; headers = c.deref.result.now; data_length = c.self.inside.data_length; threshold = c.self.inside.threshold; closes = c.self.inside.closes; offered = c.self.inside.offered; contentless = c.self.inside.contentless } in
    let p : Printing = record { version = x.version; asked_coding = x.asked_coding; no_body = x.no_body; persistence = x.persistence; upgrade = None; date = c.args.now } in
    rw (← c.self.view_is, ← c.deref.ensures.value, c.in_default.is)
    (Answered-coded {T = Unit {0}} _ _ _ _ answer p Identity c.is_withheld-withheld.result refl (sym c.contentless_framing.ensures ∙ c.in_default-contentless_framing.is) (sym c.in-Identity.is ∙ c.choose-coding.ensures) c.is_withheld-withheld.ensures c.print_uncoded.ensures.text)

pub returns-in-Some-clause-uses : goal.returns-in-Some-clause-uses
returns-in-Some-clause-uses g c = Prints-uses _ _ _ _ c.print_upgrade.ensures.0
