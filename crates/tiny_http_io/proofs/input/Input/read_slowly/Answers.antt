use Rattle.std.specs.Prelude.{Option, IfSome, is_err}
use Rattle.std.proofs.Common.{rules, ◌≡◌, ◌++◌, ◌∷◌, [], ap, sym, ◌∙◌, subst, length, length-append, false}
use Rattle.tiny_http_io.specs.Device.{Feed, prepended, StopsBy}
use Rattle.tiny_http_io.proofs.DeviceFeeds.{given-along}
use Rattle.tiny_http_io.specs.LineEnds.{held_return, IsRoom}
use Rattle.tiny_http_io.specs.Input.{input_feed, input_stop}
use Rattle.tiny_http_io.proofs.LineEndsLemmas.{line_ends-line-none}
use Rattle.tiny_http_io.proofs.WithinLines.{room-less, room-short, room-full, short-read-of, long-gone, ok-of}
use Rattle.tiny_http_io.proofs.input.Input.read_slowly.Goals as goal

pub loop-room-preserved : goal.loop-room-preserved
loop-room-preserved g c =
    let feed = input_feed g.R.ReadDevice.feed in
    let next : feed c.loop-room.self ≡ prepended (c.in-Some.b ∷ []) (feed c.pop_byte.new.self) = search rules in
    let before = c.loop-room.text.items ++ held_return c.loop-room.after_return in
    let fine : is_err c.go_on.result ≡ false = sym c.is_err.ensures.value ∙ c.if-is_err.false in
    let bytes = ok-of _ c.go_on.result fine c.go_on.ensures.bytes in
    record {
      feed = given-along _ (feed c.loop-room.self) (feed c.pop_byte.new.self) before (c.in-Some.b ∷ []) _ c.loop-room.invariant.feed next bytes;
      passed = ok-of _ c.go_on.result fine c.go_on.ensures.passed;
      room = subst (λ r. IsRoom c.args.left r (length (c.go_on.new.text.items ++ held_return c.go_on.new.after_return))) (sym c.one_less-room.ensures)
          (room-less c.args.left c.loop-room.room (length before) _ c.loop-room.invariant.room (c.is_reached.ensures.below (search rules)) (ap length bytes ∙ length-append before (c.in-Some.b ∷ [])));
      once = search rules;
      stays = search rules;
      fresh = search rules;
      lazy = search rules;
      calls = search rules;
    }

pub returns-in_default-clause-none : goal.returns-in_default-clause-none
returns-in_default-clause-none g c =
    let feed = input_feed g.R.ReadDevice.feed in
    let text = c.loop-room.text.items ++ held_return c.loop-room.after_return in
    let same : feed c.pop_byte.new.self ≡ feed c.loop-room.self = search rules in
    let k = c.line_fault.ensures.in_time in
    let stops = c.in_default.ensures in
    let within = room-short c.args.left c.loop-room.room text c.line_fault.result k.0 c.loop-room.invariant.room (c.is_reached.ensures.below (search rules)) in
    let S : Option Feed → Type 0 = λ o. IfSome (input_stop c.pop_byte.new.self) (λ s. StopsBy s o) in (
      short-read-of c.args.left _ (feed c.pop_byte.new.self) text c.line_fault.result (input_stop c.pop_byte.new.self) k (c.loop-room.invariant.feed ∙ ap (λ f. prepended text f) (sym same))
          (line_ends-line-none c.loop-room.text.items c.loop-room.after_return c.loop-room.invariant.passed) within stops.over.0 c.line_fault.ensures.fault (subst S (sym same) stops.stop),
      k.1,
    )

pub returns-clause-none : goal.returns-clause-none
returns-clause-none g c =
    let feed = input_feed g.R.ReadDevice.feed in
    let text = c.loop-room.text.items ++ held_return c.loop-room.after_return in
    let full = c.is_reached.ensures.reached (search rules) in
    let none = line_ends-line-none c.loop-room.text.items c.loop-room.after_return c.loop-room.invariant.passed in
    (long-gone c.args.left _ (feed c.loop-room.self) _ text c.loop-room.invariant.feed c.end-2.ensures.feed none (room-full c.args.left c.loop-room.room text c.loop-room.invariant.room full.0 full.1), λ e. cc)
