-- What is left of a body, by how far it was read.
use Rattle.std.proofs.Common.{◌≡◌, refl, sym, ap, ◌∙◌, subst, ℕ, ◌+◌, ◌-◌, ◌≤◌, inl, inr, Bool, true, false, List, [], ◌++◌, length, take, drop, Some, None, Result, Ok, Err, arith}
use Rattle.std.specs.Prelude.{nat_lt, MatchResult}
use Rattle.std.specs.declared.io.ErrorKind.{ErrorKind}
use Rattle.std.proofs.lemmas.Bool.{ltb-true, ltb-false}
use Rattle.std.proofs.lemmas.List.{take-append-drop, length-take-le}
use Rattle.tiny_http_body.specs.declared.chunked.Next.{Next}
use Rattle.tiny_http_body.specs.declared.chunked.Next.TheVariants.{Line, Data, Over, Broken}
use Rattle.tiny_http_io.specs.Device.{Feed, whole_feed, prepend, fault_of}
use Rattle.tiny_http_text.specs.Bytes.{crlf}
use Rattle.tiny_http_body.specs.Chunks.{WholeChunksBy, CutChunksBy, CloseFault}
use Rattle.tiny_http_body.specs.ChunkReading.{Decoded, after_data, chunk_closed, data_at}
use Rattle.tiny_http_body.specs.Decoding.{decoded_from_by, rest_at, coming_of, body_by}
use Rattle.tiny_http_body.proofs.ChunksLemmas.{decoded_by-is, close-is}
use Rattle.tiny_http_body.specs.declared.body.UnreadBody.{UnreadBody}
use Rattle.tiny_http_body.specs.declared.body.UnreadBody.TheVariants as body
use Rattle.tiny_http_body.specs.declared.framing.Form.{Form}
use Rattle.tiny_http_body.specs.declared.framing.Form.TheVariants.{Counted, Chunked}
use Rattle.tiny_http_io.specs.declared.device.Stop.TheVariants.{End}
use Rattle.tiny_http_io.specs.ToCome.{stopped}
use Rattle.tiny_http_open_request.specs.Pipeline.{Place, BodyAt, place_feed}
use Rattle.tiny_http_body.specs.Body.{Remaining, remaining, chunk_rules, counted_remaining, chunks_remaining, coming_remaining, is_streaming, Fits}
use Rattle.tiny_http_open_request.specs.BodyRemains.{breaking, RemainsAt}
use Rattle.tiny_http_open_request.proofs.HeadReadsServing.{remains-counted}

-- a chunked body from here on
pub record ChunkedFrom (standard : Bool) (n : ℕ) (x : Feed) (left : Remaining) : Type 0 where
  pub content : Feed
  pub next : Place
  pub represents : BodyAt standard Chunked n x.bytes x.stop content next
  pub is : left ≡ record { body = content; behind = place_feed x.stop next }

chunked-from : (standard : Bool) (n : ℕ) (x : Feed) → ChunkedFrom standard n x (coming_remaining (coming_of x.stop (body_by (chunk_rules standard) x.stop x.bytes)))
chunked-from standard n x = by (body_by (chunk_rules standard) x.stop x.bytes).body (body_by (chunk_rules standard) x.stop x.bytes).ends (decoded_by-is (chunk_rules standard) (length x.bytes + 1) x.bytes x.stop (omega arith))
  where
    by : (content : List ℕ) (r : Result (List ℕ) ErrorKind) → MatchResult r (λ rest. WholeChunksBy (chunk_rules standard) x.bytes content rest) (λ kind. CutChunksBy (chunk_rules standard) x.bytes x.stop content kind) → ChunkedFrom standard n x (chunks_remaining content (rest_at x.stop r))
    by content (Ok rest) h = record { content = whole_feed content; next = Some rest; represents = inl (rest, h, refl, refl); is = refl }
    by content (Err kind) h = record { content = breaking content kind; next = None; represents = inr (kind, h, refl, refl); is = refl }

-- the same after some data
behind-data : (front content : List ℕ) (r : Result Feed ErrorKind) (b : Feed) (after : Feed) → chunks_remaining content r ≡ record { body = b; behind = after } → chunks_remaining (front ++ content) r ≡ record { body = prepend front b; behind = after }
behind-data front content r b after e =
    let P : Remaining → Remaining = λ x. record { body = prepend front x.body; behind = x.behind } in
    by r ∙ ap P e
  where
    by : (r : Result Feed ErrorKind) → chunks_remaining (front ++ content) r ≡ (let x = chunks_remaining content r in record { body = prepend front x.body; behind = x.behind })
    by (Ok feed) = refl
    by (Err kind) = refl

-- what is left, by where the decoding stands
pub record RemainsFrom (standard : Bool) (form : Form) (n : ℕ) (x : Feed) (left : Remaining) : Type 0 where
  pub content : Feed
  pub next : Place
  pub represents : RemainsAt standard form n x.bytes x.stop content next
  pub is : left ≡ record { body = content; behind = place_feed x.stop next }

remains-data : (standard : Bool) (n size : ℕ) (x : Feed) → RemainsFrom standard Chunked n x (coming_remaining (coming_of x.stop (data_at (body_by (chunk_rules standard) x.stop) x.stop size x.bytes (nat_lt (length x.bytes) size))))
remains-data standard n size x = by (nat_lt (length x.bytes) size) refl
  where
    L : Decoded → Type 0
    L d = RemainsFrom standard Chunked n x (coming_remaining (coming_of x.stop d))

    split : x.bytes ≡ take size x.bytes ++ drop size x.bytes
    split = sym (take-append-drop size x.bytes)

    by-close : size ≤ length x.bytes → (r : Result (List ℕ) ErrorKind) → MatchResult r (λ rest. drop size x.bytes ≡ crlf ++ rest) (λ kind. CloseFault (drop size x.bytes) x.stop kind) → L (chunk_closed (body_by (chunk_rules standard) x.stop) (take size x.bytes) r)
    by-close le (Err kind) h =
        record {
          content = breaking (take size x.bytes) kind;
          next = None;
          represents = inr (inl (size, inr (inl (take size x.bytes, drop size x.bytes, kind, split, length-take-le size x.bytes le, h, refl, refl))));
          is = refl;
        }
    by-close le (Ok rest) h =
        let k = chunked-from standard size (record { bytes = rest; stop = x.stop }) in
        record {
          content = prepend (take size x.bytes) k.content;
          next = k.next;
          represents = inr (inl (size, inl (take size x.bytes, rest, k.content, split ∙ ap (λ y. take size x.bytes ++ y) h, length-take-le size x.bytes le, k.represents, refl)));
          is = behind-data (take size x.bytes) (body_by (chunk_rules standard) x.stop rest).body (rest_at x.stop (body_by (chunk_rules standard) x.stop rest).ends) k.content (place_feed x.stop k.next) k.is;
        }

    by : (t : Bool) → nat_lt (length x.bytes) size ≡ t → L (data_at (body_by (chunk_rules standard) x.stop) x.stop size x.bytes t)
    by true e = record { content = breaking x.bytes (fault_of x.stop); next = None; represents = inr (inl (size, inr (inr (ltb-true (length x.bytes) size e, refl, refl)))); is = refl }
    by false e = by-close (ltb-false (length x.bytes) size e) (after_data x.stop (drop size x.bytes)) (close-is x.stop (drop size x.bytes))

remains-next : (standard : Bool) (n : ℕ) (next : Next) (x : Feed) → RemainsFrom standard Chunked n x (coming_remaining (coming_of x.stop (decoded_from_by (chunk_rules standard) next x)))
unfolding decoded_from_by
remains-next standard n Line x = let k = chunked-from standard n x in record { content = k.content; next = k.next; represents = inl k.represents; is = k.is }
remains-next standard n (Data size) x = remains-data standard n size x
remains-next standard n Over x = record { content = whole_feed []; next = Some x.bytes; represents = inr (inr (inl (refl, refl))); is = refl }
remains-next standard n (Broken kind) x = record { content = breaking [] kind; next = None; represents = inr (inr (inr (kind, refl, refl))); is = refl }

-- what is left of a body that is read from the input
pub remains-of : (standard : Bool) (b : UnreadBody) (form : Form) (n given : ℕ) (end_reported : Bool) (x : Feed) (left : Remaining) → Fits standard b form n given end_reported → is_streaming b ≡ true → remaining b (Some x) ≡ Some left → RemainsFrom standard form (n - given) x left
remains-of standard (body.Over stop) form n given end_reported x left fits streams e = cc
remains-of standard (body.WithHead bytes) form n given end_reported x left fits streams e = cc
remains-of standard (body.Counted count by_standard) form n given end_reported x left fits streams e =
    let k = remains-counted standard count x in
    let F : Form → Type 0 = λ f. RemainsFrom standard f (n - given) x left in
    let N : ℕ → Type 0 = λ m. RemainsFrom standard Counted m x left in
    let same : counted_remaining standard count x ≡ left = (let E : counted_remaining by_standard count x ≡ left = cc in subst (λ t. counted_remaining t count x ≡ left) fits.4 E) in
    let some : count ≡ n - given = omega (arith, fits.1) in
    subst F (sym fits.0) (subst N some (record { content = k.0; next = k.1; represents = k.2; is = sym same ∙ k.3 }))
remains-of standard body.Rest form n given end_reported x left fits streams e =
    let F : Form → Type 0 = λ f. RemainsFrom standard f (n - given) x left in
    let same : record { body = x; behind = stopped End } ≡ left = cc in
    subst F (sym fits.0) (record { content = x; next = None; represents = (refl, refl); is = sym same })
remains-of standard (body.Chunked d) form n given end_reported x left fits streams e =
    let k = remains-next standard (n - given) d.next x in
    let F : Form → Type 0 = λ f. RemainsFrom standard f (n - given) x left in
    let same : coming_remaining (coming_of x.stop (decoded_from_by d.rules d.next x)) ≡ left = cc in
    let ruled : coming_remaining (coming_of x.stop (decoded_from_by d.rules d.next x)) ≡ coming_remaining (coming_of x.stop (decoded_from_by (chunk_rules standard) d.next x)) = ap (λ r. coming_remaining (coming_of x.stop (decoded_from_by r d.next x))) fits.2 in
    subst F (sym fits.0) (record { content = k.content; next = k.next; represents = k.represents; is = sym same ∙ (ruled ∙ k.is) })
