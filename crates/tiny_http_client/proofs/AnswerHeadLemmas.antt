-- The heads that `httparse` finds, and the headers that are copied from them.
use Rattle.std.proofs.Common.{◌≡◌, sym, subst, ℕ, ◌<◌, List, length, map, slice_index_or}
use Rattle.std.specs.List.{All}
use Rattle.std.proofs.lemmas.List.{get_or-map, length-map}
use Rattle.httparse.specs.Spans.{header_bytes}
use Rattle.httparse.specs.Grammar.{ResponseHead, ReadsResponse}
use Rattle.httparse.specs.declared.spans.HeaderSpan.{HeaderSpan}
use Rattle.httparse.proofs.GrammarLemmas.{response_prefix_free}
use Rattle.tiny_http_client.specs.AnswerHead.{field_pair, IsAsciiPair, NeverHasHead}

-- the texts of a span are ASCII where those of all are
pub ascii-at : (bytes : List ℕ) (spans : List HeaderSpan) (k : ℕ) (d : HeaderSpan) → k < length spans
    → All IsAsciiPair (map (header_bytes bytes) spans) → IsAsciiPair (header_bytes bytes (slice_index_or spans k d))
ascii-at bytes spans k d lt all =
    let e = get_or-map (header_bytes bytes) spans k d (header_bytes bytes d) lt in
    let within : k < length (map (header_bytes bytes) spans) = rw (length-map spans (header_bytes bytes)) lt in
    subst IsAsciiPair e (all k (header_bytes bytes d) within)

-- no head that is taken stands there, whatever follows one whose texts aren't all ASCII
pub never-ascii : (most : ℕ) (bytes : List ℕ) (spans : List HeaderSpan) (h : ResponseHead) (behind : List ℕ)
    → ReadsResponse bytes h behind → map (header_bytes bytes) spans ≡ map field_pair h.fields
    → (All IsAsciiPair (map (header_bytes bytes) spans) → ⊥) → NeverHasHead most bytes
never-ascii most bytes spans h behind reads are bad more k rest also few all =
    let same : h ≡ k = (response_prefix_free bytes more h k behind rest reads also).0 in
    let P : ResponseHead → Type 0 = λ x. All IsAsciiPair (map field_pair x.fields) in
    bad (subst (All IsAsciiPair) (sym are) (subst P (sym same) all))
