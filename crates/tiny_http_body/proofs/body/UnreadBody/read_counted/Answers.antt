use Rattle.std.proofs.Common.{rules, sym, ap, subst, ◌≡◌, ◌∙◌, ◌<◌, length, take, arith}
use Rattle.std.proofs.lemmas.List.{length-take}
use Rattle.std.specs.Option.{option_map}
use Rattle.std.specs.IoError.{error_kind}
use Rattle.std.specs.declared.io.ErrorKind.TheVariants.{UnexpectedEof}
use Rattle.tiny_http_io.specs.declared.device.Stop.TheVariants.{End, Fault}
use Rattle.tiny_http_body.specs.declared.body.UnreadBody.TheVariants.{Over}
use Rattle.tiny_http_body.specs.Body.{remaining, prepended_body, counted_remaining, cut_stop, BodyStops}
use Rattle.tiny_http_io.proofs.FeedPartsLemmas.{nothing-given}
use Rattle.tiny_http_body.proofs.BodyReads.{counted-bytes, counted-none, body-cut-is, cut-fault, cut-stops, taken-stops, read-nothing}
use Rattle.tiny_http_body.proofs.body.UnreadBody.read_counted.Goals as goal

pub returns-then-left-eq0-clause-reads : goal.returns-then-left-eq0-clause-reads
returns-then-left-eq0-clause-reads g c =
    let o = c.args.source.now.feed in
    let is = ap (λ b. remaining b o) c.requires.counted ∙ ap (λ n. option_map (counted_remaining c.args.by_standard n) o) c.if-left-eq0.true ∙ counted-none c.args.by_standard o in
    record {
      bound = search rules;
      bytes = read-nothing (remaining c.args.self.now o) (remaining (Over End) o) is;
      end = λ z some. taken-stops End o (remaining c.args.self.now o) is;
      fault = search rules;
      again = search rules;
      moves = search rules;
      ended = search rules;
      over = search rules;
      at_end = search rules;
      goes_on = search rules;
    }

pub returns-else-by_standard-clause-reads : goal.returns-else-by_standard-clause-reads
returns-else-by_standard-clause-reads g c =
    let o = c.args.source.now.feed in
    let standard = c.args.by_standard in
    let e = c.in-Ok-eq0.ensures in
    let some : 0 < c.args.left = omega (arith, c.if-left-eq0.false) in
    let same = nothing-given o c.read_front.new.reader.feed (take c.in-Ok-eq0.field-0 c.read_front.new.buf) e.bytes (rw length-take (omega (arith, c.in-Ok-eq0.field-0-test))) in
    let room : 0 < length c.read_front.new.buf = omega (arith, c.read_front.ensures.len, c.requires.room) in
    let stops = e.end c.in-Ok-eq0.field-0-test some room in
    let stop : cut_stop standard End ≡ End = ap (λ t. cut_stop t End) c.if-by_standard.false in
    record {
      bound = search rules;
      bytes = read-nothing (remaining c.args.self.now o) (remaining (Over End) c.end.new.self.feed)
          (body-cut-is standard c.args.self.now o c.read_front.new.reader.feed c.end.new.self.feed c.args.left End c.requires.counted some stops same c.end.ensures.feed ∙ ap (λ x. remaining (Over x) c.end.new.self.feed) stop);
      end = λ z full. subst (λ x. BodyStops x (remaining c.args.self.now o)) stop (cut-stops standard c.args.self.now o c.args.left End c.requires.counted some stops);
      fault = search rules;
      again = search rules;
      moves = search rules;
      ended = search rules;
      over = search rules;
      at_end = search rules;
      goes_on = search rules;
    }

pub returns-then-by_standard-clause-reads : goal.returns-then-by_standard-clause-reads
returns-then-by_standard-clause-reads g c =
    let o = c.args.source.now.feed in
    let standard = c.args.by_standard in
    let e = c.in-Ok-eq0.ensures in
    let some : 0 < c.args.left = omega (arith, c.if-left-eq0.false) in
    let same = nothing-given o c.read_front.new.reader.feed (take c.in-Ok-eq0.field-0 c.read_front.new.buf) e.bytes (rw length-take (omega (arith, c.in-Ok-eq0.field-0-test))) in
    let room : 0 < length c.read_front.new.buf = omega (arith, c.read_front.ensures.len, c.requires.room) in
    let stops = e.end c.in-Ok-eq0.field-0-test some room in
    let kind : error_kind c.into.result ≡ UnexpectedEof = search rules in
    let stop : cut_stop standard End ≡ Fault UnexpectedEof = ap (λ t. cut_stop t End) c.if-by_standard.true in
    record {
      bound = search rules;
      bytes = search rules;
      end = search rules;
      fault = subst (λ x. BodyStops x (remaining c.args.self.now o)) (stop ∙ ap Fault (sym kind)) (cut-stops standard c.args.self.now o c.args.left End c.requires.counted some stops);
      again = sym (body-cut-is standard c.args.self.now o c.read_front.new.reader.feed c.end.new.self.feed c.args.left End c.requires.counted some stops same c.end.ensures.feed ∙ ap (λ x. remaining (Over x) c.end.new.self.feed) stop);
      moves = search rules;
      ended = search rules;
      over = search rules;
      at_end = search rules;
      goes_on = search rules;
    }

pub returns-in-Ok-clause-reads : goal.returns-in-Ok-clause-reads
returns-in-Ok-clause-reads g c =
    let o = c.args.source.now.feed in
    let n = c.in-Ok.n in
    let e = c.in-Ok.ensures in
    let p = c.read_front.new.reader.feed in
    let bs = take n c.read_front.new.buf in
    record {
      bound = search rules;
      bytes = ap (λ b. remaining b o) c.requires.counted ∙ counted-bytes c.args.by_standard o p bs c.args.left n e.bytes (rw length-take (omega (arith, e.bound))) e.most ∙ ap (λ r. prepended_body bs r) (sym (c.counted.ensures.remaining p));
      end = search rules;
      fault = search rules;
      again = search rules;
      moves = search rules;
      ended = search rules;
      over = search rules;
      at_end = search rules;
      goes_on = search rules;
    }

pub returns-in-Err-clause-reads : goal.returns-in-Err-clause-reads
returns-in-Err-clause-reads g c =
    let o = c.args.source.now.feed in
    let some : 0 < c.args.left = omega (arith, c.if-left-eq0.false) in
    let stop = Fault (error_kind c.in-Err.e) in
    let standard = c.args.by_standard in
    let stop_count = cut-fault standard (error_kind c.in-Err.e) in
    record {
      bound = search rules;
      bytes = search rules;
      end = search rules;
      fault = subst (λ x. BodyStops x (remaining c.args.self.now o)) stop_count (cut-stops standard c.args.self.now o c.args.left stop c.requires.counted some c.in-Err.ensures.fault);
      again = rw c.kind.ensures
          (sym (body-cut-is standard c.args.self.now o c.read_front.new.reader.feed c.end-in-Err.new.self.feed c.args.left stop c.requires.counted some c.in-Err.ensures.fault c.in-Err.ensures.again c.end-in-Err.ensures.feed ∙ ap (λ x. remaining (Over x) c.end-in-Err.new.self.feed) stop_count));
      moves = search rules;
      ended = search rules;
      over = search rules;
      at_end = search rules;
      goes_on = search rules;
    }
