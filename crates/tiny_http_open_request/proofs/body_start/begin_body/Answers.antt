use Rattle.std.proofs.Common.{rules, ◌≡◌, refl, sym, subst, ap, ◌∙◌, ℕ, List, Option, None, Some, drop, length}
use Rattle.tiny_http_body.specs.declared.body.UnreadBody.{UnreadBody}
use Rattle.tiny_http_open_request.specs.HeadReads.{Begins, FitsFraming}
use Rattle.tiny_http_io.specs.Device.{Feed}
use Rattle.tiny_http_io.specs.Source.{TakesExactly}
use Rattle.std.specs.Global.{Vec}
use Rattle.std.specs.Io.Cursor.{cursor_inner}
use Rattle.tiny_http_io.specs.Cursor.{cursor_bytes}
use Rattle.tiny_http_open_request.proofs.HeadReadsServing.{begins-rest, begins-nothing, begins-counted, begins-chunked, begins-held, begins-cut, fits-rest, fits-nothing, fits-counted, fits-chunked, fits-held}
use Rattle.tiny_http_open_request.proofs.body_start.begin_body.Goals as goal

pub returns-in-Rest-clause-begins : goal.returns-in-Rest-clause-begins
returns-in-Rest-clause-begins g c = begins-rest c.args.framing c.args.source.now.feed (search rules)

pub returns-in-Nothing-clause-begins : goal.returns-in-Nothing-clause-begins
returns-in-Nothing-clause-begins g c = begins-nothing c.args.framing c.args.source.now.feed (search rules)

pub returns-in-Counted-clause-begins : goal.returns-in-Counted-clause-begins
returns-in-Counted-clause-begins g c = begins-counted c.args.framing c.args.source.now.feed c.counted.result _ (search rules) (search rules) c.counted.ensures.remaining c.counted.ensures.moves

pub returns-in-Chunked-clause-begins : goal.returns-in-Chunked-clause-begins
returns-in-Chunked-clause-begins g c =
    let o = c.args.source.now.feed in
    let k = c.chunked.ensures in
    let P : UnreadBody → Type 0 = λ b. Begins c.args.framing o o (Some b) in
    subst P (sym k.1) (begins-chunked c.args.framing o k.0 (search rules) k.2.whole k.2.front k.2.rules)

pub returns-in-Ok-Some-clause-begins : goal.returns-in-Ok-Some-clause-begins
returns-in-Ok-Some-clause-begins g c =
    let taken = rw c.in-Ok-Some.field-0-is at c.in-Ok-Some.ensures in
    begins-held c.args.framing c.args.source.now.feed c.take_exactly.new.self.feed c.new.result c.in-Ok-Some.bytes c.unwrap_or-length.result (search rules) (search rules)
    (ap (λ n. drop n (cursor_inner c.new.result).items) c.new.ensures.position ∙ ap (λ (v : Vec ℕ). v.items) c.new.ensures.inner) taken.takes.takes

pub returns-in-Ok-None-clause-begins : goal.returns-in-Ok-None-clause-begins
returns-in-Ok-None-clause-begins g c =
    let taken = rw c.in-Ok-None.field-0-is at c.in-Ok-None.ensures in
    begins-cut c.args.framing c.args.source.now.feed c.take_exactly.new.self.feed c.unwrap_or-length.result (search rules) (search rules) taken.takes.takes

pub returns-in-Ok-None-clause-cut : goal.returns-in-Ok-None-clause-cut
returns-in-Ok-None-clause-cut g c none =
    let taken = rw c.in-Ok-None.field-0-is at c.in-Ok-None.ensures in
    let items : Vec ℕ → List ℕ = λ v. v.items in
    record {
      over = taken.takes.over refl;
      remains = λ f e. let P : Option Feed → Type 0 = λ o. TakesExactly items c.unwrap_or-length.result o c.take_exactly.new.self.feed None in (subst P e taken.takes.takes).1;
    }

pub returns-in-Rest-clause-fits : goal.returns-in-Rest-clause-fits
returns-in-Rest-clause-fits g c = fits-rest c.args.framing (search rules)

pub returns-in-Nothing-clause-fits : goal.returns-in-Nothing-clause-fits
returns-in-Nothing-clause-fits g c = fits-nothing c.args.framing (search rules)

pub returns-in-Counted-clause-fits : goal.returns-in-Counted-clause-fits
returns-in-Counted-clause-fits g c = fits-counted c.args.framing c.counted.result _ (search rules) (search rules) c.counted.ensures.moves

pub returns-in-Chunked-clause-fits : goal.returns-in-Chunked-clause-fits
returns-in-Chunked-clause-fits g c =
    let k = c.chunked.ensures in
    subst (λ b. FitsFraming c.args.framing b) (sym k.1) (fits-chunked c.args.framing k.0 (search rules) k.2.rules)

pub returns-in-Ok-Some-clause-fits : goal.returns-in-Ok-Some-clause-fits
returns-in-Ok-Some-clause-fits g c =
    let taken = rw c.in-Ok-Some.field-0-is at c.in-Ok-Some.ensures in
    let bytes : cursor_bytes c.new.result ≡ c.in-Ok-Some.bytes.items = ap (λ n. drop n (cursor_inner c.new.result).items) c.new.ensures.position ∙ ap (λ (v : Vec ℕ). v.items) c.new.ensures.inner in
    fits-held c.args.framing c.new.result (search rules) (ap length bytes ∙ taken.takes.exact ∙ search rules)
