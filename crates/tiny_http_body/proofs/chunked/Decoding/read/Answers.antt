use Rattle.std.proofs.Common.{◌≡◌, ap, sym, ◌∙◌, ⊎_elim, take}
use Rattle.std.proofs.lemmas.List.{length-take-le}
use Rattle.std.specs.IoError.{error_kind}
use Rattle.tiny_http_body.specs.declared.chunked.Next.{Next}
use Rattle.tiny_http_body.specs.declared.chunked.Next.TheVariants.{Data, Over, Broken}
use Rattle.tiny_http_body.specs.Decoding.{comes, decoding_coming}
use Rattle.tiny_http_body.proofs.DecodingLemmas.{data-given, data-cut, breaks, over-comes, takes-more, takes-none}
use Rattle.tiny_http_body.proofs.ChunkTakingLemmas.{needed-front, needed-same}
use Rattle.tiny_http_body.proofs.chunked.Decoding.read.Goals as goal

pub returns-in-Ok-clause-data : goal.returns-in-Ok-clause-data
returns-in-Ok-clause-data g c =
    let feed = g.R.ReadDevice.feed in
    let s = c.go_to_data-self in
    let r = c.in-Ok.ensures in
    let here : comes c.args.self.now.rules (Data c.in-Data.left) (feed s.new.reader) ≡ decoding_coming c.args.self.now (feed c.args.reader.now) = ap (λ (x : Next). comes c.args.self.now.rules x (feed s.new.reader)) (sym c.in-Data.is) ∙ s.ensures.comes in
    sym here ∙ data-given c.args.self.now.rules (feed s.new.reader) (feed c.read_data.new.reader) (take c.in-Ok.n c.read_data.new.buf) c.in-Data.left c.in-Ok.n r.bytes (length-take-le c.in-Ok.n c.read_data.new.buf r.bound) r.most

pub returns-in-Err-clause-fault : goal.returns-in-Err-clause-fault
returns-in-Err-clause-fault g c =
    let feed = g.R.ReadDevice.feed in
    let s = c.go_to_data-self in
    let r = c.in-Err.ensures in
    let ready = rw c.in-Data.is at s.ensures.ready in
    let here : comes c.args.self.now.rules (Data c.in-Data.left) (feed s.new.reader) ≡ decoding_coming c.args.self.now (feed c.args.reader.now) = ap (λ (x : Next). comes c.args.self.now.rules x (feed s.new.reader)) (sym c.in-Data.is) ∙ s.ensures.comes in
    breaks c.args.self.now.rules (feed c.read_data.new.reader) (error_kind c.in-Err.e) _ (data-cut c.args.self.now.rules (feed s.new.reader) (feed c.read_data.new.reader) (error_kind c.in-Err.e) c.in-Data.left ready r.cut r.again ∙ here)

pub returns-in-Err-clause-again : goal.returns-in-Err-clause-again
returns-in-Err-clause-again g c =
    let feed = g.R.ReadDevice.feed in
    let s = c.go_to_data-self in
    let r = c.in-Err.ensures in
    let ready = rw c.in-Data.is at s.ensures.ready in
    let here : comes c.args.self.now.rules (Data c.in-Data.left) (feed s.new.reader) ≡ decoding_coming c.args.self.now (feed c.args.reader.now) = ap (λ (x : Next). comes c.args.self.now.rules x (feed s.new.reader)) (sym c.in-Data.is) ∙ s.ensures.comes in
    ap (λ k. comes c.args.self.now.rules (Broken k) (feed c.read_data.new.reader)) c.kind.ensures ∙ (data-cut c.args.self.now.rules (feed s.new.reader) (feed c.read_data.new.reader) (error_kind c.in-Err.e) c.in-Data.left ready r.cut r.again ∙ here)

pub returns-in-Broken-clause-fault : goal.returns-in-Broken-clause-fault
returns-in-Broken-clause-fault g c =
    let feed = g.R.ReadDevice.feed in
    let s = c.go_to_data-self in
    let here : comes c.args.self.now.rules (Broken c.in-Broken.kind) (feed s.new.reader) ≡ decoding_coming c.args.self.now (feed c.args.reader.now) = ap (λ (x : Next). comes c.args.self.now.rules x (feed s.new.reader)) (sym c.in-Broken.is) ∙ s.ensures.comes in
    breaks c.args.self.now.rules (feed s.new.reader) (error_kind c.into.result) _ (ap (λ k. comes c.args.self.now.rules (Broken k) (feed s.new.reader)) c.into.ensures ∙ here)

pub returns-in-Over-clause-end : goal.returns-in-Over-clause-end
returns-in-Over-clause-end g c none room =
    let feed = g.R.ReadDevice.feed in
    let s = c.go_to_data-self in
    let is : s.result ≡ Over = ⊎_elim (λ e. e) (λ e. absurd (rw e at s.ensures.ready)) c.in-Over.is in
    sym s.ensures.comes ∙ (ap (λ (x : Next). comes c.args.self.now.rules x (feed s.new.reader)) is ∙ over-comes c.args.self.now.rules (feed s.new.reader))

pub returns-in-Ok-clause-takes : goal.returns-in-Ok-clause-takes
returns-in-Ok-clause-takes g c = takes-more _ _ _ (needed-front _ _ _ c.go_to_data-self.ensures.needed) (take c.in-Ok.n c.read_data.new.buf, c.in-Ok.ensures.bytes)

pub returns-in-Err-clause-takes : goal.returns-in-Err-clause-takes
returns-in-Err-clause-takes g c = takes-more _ _ _ (needed-front _ _ _ c.go_to_data-self.ensures.needed) (takes-none _ _ c.in-Err.ensures.again)

pub returns-in-Err-clause-needed : goal.returns-in-Err-clause-needed
returns-in-Err-clause-needed g c = needed-same _ _ _ _ c.go_to_data-self.ensures.needed c.in-Err.ensures.again

pub returns-in-Broken-clause-needed : goal.returns-in-Broken-clause-needed
returns-in-Broken-clause-needed g c = c.go_to_data-self.ensures.needed

pub returns-in-Broken-clause-takes : goal.returns-in-Broken-clause-takes
returns-in-Broken-clause-takes g c = needed-front _ _ _ c.go_to_data-self.ensures.needed

pub returns-in-Over-clause-takes : goal.returns-in-Over-clause-takes
returns-in-Over-clause-takes g c = needed-front _ _ _ c.go_to_data-self.ensures.needed
