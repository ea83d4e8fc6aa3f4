-- The pipeline of a feed as a computation: from the heading at each position, which under `Lenient` and `Strict` is
-- itself computed. The law `one_pipeline` is proved from it.
use Rattle.std.specs.Prelude.{ℕ, zero, suc, ◌+◌, Bool, true, false, nat_lt, nat_le, List, [], ◌∷◌, ◌++◌, length, take}
use Rattle.std.specs.Prelude.{drop, Option, Some, None, unwrap_or, Result, Ok, Err, if◌then◌else◌}
use Rattle.tiny_http_io.specs.declared.device.Stop.{Stop}
use Rattle.tiny_http_io.specs.declared.device.Stop.TheVariants.{End, Fault as Faults}
use Rattle.tiny_http_io.specs.Device.{Feed}
use Rattle.tiny_http_head.specs.declared.common.HTTPVersion.{HTTPVersion}
use Rattle.tiny_http_head.specs.Heads.{Message, GrammarFault, Cut, NotAscii, Malformed, version}
use Rattle.tiny_http_head.specs.HeadReading.{request_head_read, RequestHeadRead, Whole, Faulty}
use Rattle.tiny_http_body.specs.ChunkReading.{decoded_by, Decoded}
use Rattle.tiny_http_io.specs.Source.{seen_within}
use Rattle.tiny_http_body.specs.declared.framing.HeadRules.{HeadRules}
use Rattle.tiny_http_body.specs.declared.framing.FramingFault.{FramingFault}
use Rattle.tiny_http_body.specs.declared.framing.Form.{Form}
use Rattle.tiny_http_body.specs.declared.framing.Form.TheVariants.{Rest, Nothing, WithHead, Counted, Chunked}
use Rattle.tiny_http_body.specs.declared.framing.Framing.{Framing}
use Rattle.tiny_http_body.specs.FramingReading.{framing}
use Rattle.tiny_http_body.specs.Body.{cut_stop, chunk_rules}
use Rattle.tiny_http_body.specs.Framing.{head_limit}
use Rattle.tiny_http_open_request.specs.Pipeline.{place_feed, plainly, Item, Refuses, BadRequest, RequestTimeout}
use Rattle.tiny_http_open_request.specs.Pipeline.{HeaderFieldsTooLarge, framing_refusal, Place, is_timed_out}
use Rattle.tiny_http_open_request.specs.Pipeline.{is_cut_with_head, Heading, Silence, Refused, Heads}
use Rattle.tiny_http_open_request.specs.Pipeline.{body_length_or_0, item_of, next_place}

-- The result of reading a body: the body, and where the next head begins.
pub record BodyRead : Type 0 where
  pub body : Feed
  pub next : Place

abbrev pub chunked_read : Decoded → BodyRead
chunked_read d =
    elim d.ends [
      | Ok rest ↦ record { body = record { bytes = d.body; stop = End }; next = Some rest }
      | Err kind ↦ record
          { body = record { bytes = d.body; stop = Faults kind }; next = None }
    ]

abbrev pub sized_read : ℕ → List ℕ → Stop → BodyRead
sized_read n after stop =
    if nat_lt (length after) n
    then record { body = record { bytes = after; stop = stop }; next = None }
    else record { body = record { bytes = take n after; stop = End }; next = Some (drop n after) }

-- the result of reading a body with a Content-Length, which, if it is cut, stops as its profile requires
abbrev pub counted_read : Bool → ℕ → List ℕ → Stop → BodyRead
counted_read standard n after stop = sized_read n after (cut_stop standard stop)

abbrev pub body_read : Bool → Form → ℕ → List ℕ → Stop → BodyRead
body_read standard Nothing n after stop = record { body = record { bytes = []; stop = End }; next = Some after }
body_read standard WithHead n after stop = sized_read n after stop
body_read standard Counted n after stop = counted_read standard n after stop
body_read standard Rest n after stop = record { body = record { bytes = after; stop = stop }; next = None }
body_read standard Chunked n after stop = chunked_read (decoded_by (chunk_rules standard) (length after + 1) stop after)

-- the heading of a head that is cut, or whose body is read with it and is cut: a 408 if the reader timed out, otherwise
-- silence
abbrev pub cut_heading : Stop → Heading
cut_heading stop = if is_timed_out stop then Refused RequestTimeout (plainly (version 1 1)) else Silence

abbrev pub whole_heading : Message → List ℕ → Stop → Result Framing FramingFault → Heading
whole_heading m after stop (Err fault) = Refused (framing_refusal fault) (plainly m.version)
whole_heading m after stop (Ok f) =
    if is_cut_with_head f.form (body_length_or_0 f) after then cut_heading stop else Heads m f after

-- whether at least as many bytes have arrived as the limit allows; false without a limit
abbrev pub is_full : Option ℕ → List ℕ → Bool
is_full None bytes = false
is_full (Some limit) bytes = nat_le limit (length bytes)

-- all bytes after a head, given those of them that are within the limit
abbrev pub all_after : Option ℕ → List ℕ → List ℕ → List ℕ
all_after None bytes after = after
all_after (Some limit) bytes after = after ++ drop limit bytes

-- the heading of a head with this fault in its first faulty line; if the head is only cut, `full` says whether the
-- limit was reached
abbrev pub faulty : Bool → Option HTTPVersion → GrammarFault → Stop → Heading
faulty full v Cut stop =
    if full then Refused HeaderFieldsTooLarge (plainly (unwrap_or v (version 1 1))) else cut_heading stop
faulty full v NotAscii stop = Silence
faulty full v Malformed stop = Refused BadRequest (plainly (unwrap_or v (version 1 1)))

abbrev pub heading : HeadRules → List ℕ → Stop → RequestHeadRead → Heading
heading p bytes stop (Faulty v fault) = faulty (is_full (head_limit p) bytes) v fault stop
heading p bytes stop (Whole m after) =
    whole_heading m (all_after (head_limit p) bytes after) stop (framing p m.version m.headers)

-- the heading of the bytes at a position, under `Lenient` or `Strict`
abbrev pub heading_of : HeadRules → Stop → List ℕ → Heading
heading_of p stop bytes = heading p bytes stop (request_head_read (seen_within (head_limit p) bytes))

abbrev pub items_at : (Place → List Item) → Stop → Heading → List Item
items_at go stop Silence = []
items_at go stop (Refused refusal v) = Refuses refusal v false true ∷ []
items_at go stop (Heads m f after) =
    let b = body_read f.by_standard f.form (body_length_or_0 f) after stop in
    item_of m f b.body (place_feed stop b.next) ∷ go (next_place m f b.next)

-- The heading at each position of a feed with each stop.
abbrev pub Headings : Type 0
Headings = Stop → List ℕ → Heading

abbrev pub items_from : Headings → ℕ → Stop → Place → List Item
items_from at zero stop place = []
items_from at (suc fuel) stop place =
    elim place [ None ↦ [] | Some bytes ↦ items_at (items_from at fuel stop) stop (at stop bytes) ]

-- the items of a feed's pipeline, given the heading at each position
abbrev pub items_of : Headings → Feed → List Item
items_of at feed = items_from at (length feed.bytes + 1) feed.stop (Some feed.bytes)
