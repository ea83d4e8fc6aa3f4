use Rattle.std.proofs.Common.{◌≡◌, ◌∙◌, ◌+◌, ◌-◌, sym, ap, length, drop, take, arith}
use Rattle.std.proofs.lemmas.List.{with_items_is}
use Rattle.std.specs.Vec.{with_items}
use Rattle.tiny_http_io.specs.Device.{prepended}
use Rattle.tiny_http_socket.specs.ReadAhead.{ahead_feed}
use Rattle.tiny_http_socket.proofs.ReadAheadLemmas.{same-held}
use Rattle.tiny_http_socket.proofs.read_ahead.ReadAhead.read_ahead.Goals as goal

pub returns-clause-feed : goal.returns-clause-feed
returns-clause-feed g c =
    let inside = c.self.inside in
    let held = inside.end - inside.start in
    let same = same-held inside.piece.items c.take_piece.new.piece.items inside.start inside.end _ _ c.self.invariant.2 (λ full. ap (λ v. v.items) (c.take_piece.ensures.same full)) (omega arith) in
    let len = c.move_to_front.ensures.len ∙ ap (λ p. length p) c.deref_mut.ensures.value ∙ sym c.take_piece.new.piece.ok.0 in
    let moved = with_items_is c.take_piece.new.piece c.move_to_front.new.piece len in
    let before = c.deref_mut-2.ensures.value ∙ moved in
    let piece = with_items (with_items c.take_piece.new.piece c.move_to_front.new.piece) c.read_after_held.new.piece in
    let more = with_items_is (with_items c.take_piece.new.piece c.move_to_front.new.piece) c.read_after_held.new.piece (c.in_ok-n.ensures.len ∙ ap (λ p. length p) before ∙ len) in
    let all : held + c.in_ok-n.n - 0 ≡ held + c.in_ok-n.n = omega arith in
    ap (λ m. prepended (take m piece.items) (g.R.ReadDevice.feed c.read_after_held.new.reader)) all
    ∙ ap (λ p. prepended (take (held + c.in_ok-n.n) p) (g.R.ReadDevice.feed c.read_after_held.new.reader)) more
    ∙ c.in_ok-n.ensures.feed
    ∙ ap (λ bytes. prepended bytes (g.R.ReadDevice.feed inside.reader))
    (ap (λ p. take held p) before
    ∙ c.move_to_front.ensures.bytes
    ∙ ap (λ p. take held (drop inside.start p)) c.deref_mut.ensures.value
    ∙ same)
    ∙ ap ahead_feed c.self.view_is
