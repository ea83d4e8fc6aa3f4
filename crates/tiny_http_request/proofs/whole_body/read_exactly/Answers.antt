use Rattle.std.proofs.Common.{rules, ◌≡◌, refl, sym, ap, ◌∙◌, subst, ℕ, ◌-◌, ◌<◌, ◌==◌, Bool, true, false, List, [], ◌++◌, length, Option, Some, None, append-nil, arith}
use Rattle.tiny_http_io.specs.Device.{Feed, whole_feed}
use Rattle.tiny_http_io.specs.declared.device.Stop.TheVariants.{End, Fault}
use Rattle.tiny_http_body.specs.declared.body.UnreadBody.{UnreadBody}
use Rattle.tiny_http_body.specs.declared.body.UnreadBody.TheVariants.{Over, WithHead, Counted, Chunked, Rest}
use Rattle.tiny_http_body.specs.Body.{Remaining, is_streaming, bytes_left, remaining, prepended_body, BodyStops, ReadsOn, IsBodyOver, IsWithHead}
use Rattle.tiny_http_body.proofs.BodyReads.{counted-over}
use Rattle.tiny_http_request.proofs.WholeBodyLemmas.{represents-end, count-whole}
use Rattle.tiny_http_request.specs.Body.{body_left}
use Rattle.tiny_http_request.proofs.whole_body.read_exactly.Goals as goal

abbrev bytes-of : Option Remaining → List ℕ
bytes-of None = []
bytes-of (Some r) = r.body.bytes

-- an input that gives nothing, for a body that isn't read from it
abbrev nothing : Option Feed
nothing = Some (whole_feed [])

-- so many bytes are left of a body that isn't read from the input
left-bytes : (b : UnreadBody) (count : ℕ) → is_streaming b ≡ false → bytes_left b ≡ Some count → length (bytes-of (remaining b nothing)) ≡ count
left-bytes (Over End) count s h = cc
left-bytes (Over (Fault kind)) count s h = cc
left-bytes (WithHead bytes) count s h = cc
left-bytes (Counted n standard) count s h = cc
left-bytes (Chunked d) count s h = cc
left-bytes Rest count s h = cc

-- none are left where it ends
none-left : (b : UnreadBody) → is_streaming b ≡ false → BodyStops End (remaining b nothing) → bytes-of (remaining b nothing) ≡ []
none-left (Over stop) s h = refl
none-left (WithHead bytes) s h = ap (λ (f : Feed). f.bytes) h
none-left (Counted n standard) s h = cc
none-left (Chunked d) s h = cc
none-left Rest s h = cc

-- the bytes that were read stand in front of those that are left
joined : (old now : UnreadBody) (items : List ℕ) → is_streaming now ≡ false → remaining old nothing ≡ prepended_body items (remaining now nothing)
    → bytes-of (remaining old nothing) ≡ items ++ bytes-of (remaining now nothing)
joined old (Over stop) items s h = ap bytes-of h
joined old (WithHead bytes) items s h = ap bytes-of h
joined old (Counted n standard) items s h = cc
joined old (Chunked d) items s h = cc
joined old Rest items s h = cc

-- only a body that is read from the input ends before all bytes have come
must-stream : (old now : UnreadBody) (items : List ℕ) (count : ℕ) → bytes_left old ≡ Some count
    → (is_streaming old ≡ false → (feed : Option Feed) → remaining old feed ≡ prepended_body items (remaining now feed))
    → (is_streaming old ≡ false → is_streaming now ≡ false)
    → (is_streaming now ≡ false → BodyStops End (remaining now nothing))
    → length items < count → is_streaming old ≡ true
must-stream old now items count left held settled end less = by (is_streaming old) refl
  where
    by : (t : Bool) → is_streaming old ≡ t → is_streaming old ≡ true
    by true s = s
    by false s =
        let none = none-left now (settled s) (end (settled s)) in
        let given : bytes-of (remaining old nothing) ≡ items =
        joined old now items (settled s) (held s nothing) ∙ ap (λ (rest : List ℕ). items ++ rest) none ∙ append-nil items in
        let all : length items ≡ count = sym (ap length given) ∙ left-bytes old count s left in
        absurd (omega (arith, all, less))

over-at : (b new : UnreadBody) → (IsWithHead b → ⊥) → ReadsOn b 0 true new → IsBodyOver new
over-at (Over stop) new held m = subst IsBodyOver (sym m.0) tt
over-at (WithHead bytes) new held m = absurd (held tt)
over-at (Counted n standard) new held m = counted-over standard (0 == n) new m
over-at (Chunked d) new held m = m
over-at Rest new held m = m

-- such a body is over then
over : (b new : UnreadBody) (n : ℕ) → n ≡ 0 → (IsWithHead b → ⊥) → ReadsOn b n (n == 0) new → IsBodyOver new
over b new n zero held m = over-at b new held (subst (λ (k : ℕ). ReadsOn b k (k == 0) new) zero m)

pub returns-then-n-eq0-clause-fails : goal.returns-then-n-eq0-clause-fails
returns-then-n-eq0-clause-fails g c =
    let inv = c.loop-piece.invariant in
    let h = c.in_ok-n.ensures.body in
    let zero : c.in_ok-n.n ≡ 0 = c.if-n-eq0.true in
    let some : 0 < length c.read_in.new.buf = search rules in
    let less : length c.loop-piece.bytes.items < c.args.count = search rules in
    let end : is_streaming c.loop-piece.body.unread ≡ false → BodyStops End (remaining c.loop-piece.body.unread nothing) = λ s. h.end s nothing zero some in
    let streams = must-stream c.args.body.now.unread c.loop-piece.body.unread c.loop-piece.bytes.items c.args.count c.requires inv.held inv.settled end less in
    (streams, over c.loop-piece.body.unread c.read_in.new.self.unread c.in_ok-n.n zero (inv.streams streams) (h.moves some))

pub returns-clause-over : goal.returns-clause-over
returns-clause-over g c = λ streams.
    let inv = c.loop-piece.invariant in
    represents-end c.loop-piece.body.unread (c.args.count - length c.loop-piece.bytes.items) (length c.loop-piece.bytes.items) c.args.count (search rules) (search rules) (inv.represents streams)

pub returns-clause-whole : goal.returns-clause-whole
returns-clause-whole g c =
    let inv = c.loop-piece.invariant in
    count-whole c.args.body.now.unread c.args.body.now.input (body_left c.loop-piece.body) c.args.count c.loop-piece.bytes.items c.requires (search rules) inv.read
