-- A chunked body, decoded piece by piece.
use Rattle.std.proofs.Common.{◌≡◌, refl, sym, ap, ◌∙◌, subst, ℕ, ◌+◌, ◌<◌, List, [], ◌++◌, length, Option, Some, None, Result, Ok, Err, append_assoc, append-nil, inl, inr, arith}
use Rattle.std.specs.Prelude.{option_map}
use Rattle.std.proofs.lemmas.List.{length-append}
use Rattle.std.specs.declared.io.ErrorKind.{ErrorKind}
use Rattle.std.specs.declared.io.ErrorKind.TheVariants.{InvalidData}
use Rattle.tiny_http_io.specs.declared.device.Stop.TheVariants.{End}
use Rattle.tiny_http_io.specs.Device.{Feed, whole_feed}
use Rattle.tiny_http_body.specs.Chunks.{WholeChunks, CutChunks}
use Rattle.tiny_http_body.specs.Decoding.{Coming, coming_of, rest_at, prepended_data, over_at, BreaksBy}
use Rattle.tiny_http_body.specs.ChunkReading.{Decoded, decoded}
use Rattle.tiny_http_body.proofs.ChunksLemmas.{decoded-is, IsDecoded}
use Rattle.tiny_http_client.specs.ClientAnswer.{LacksBody, OfChunks}
use Rattle.tiny_http_client.specs.ClientReading.{lack_of}
use Rattle.tiny_http_client.specs.AnswerParts.{LacksBy, chunk_fault, HasChunkData}
use Rattle.tiny_http_client.proofs.ClientAnswerLemmas.{lack-is}

-- how many bytes of the data are still to come, if that is stated
abbrev pub coming_count : Option Coming → ℕ
coming_count None = 0
coming_count (Some c) = length c.bytes

abbrev reading : List ℕ → Decoded
reading bytes = decoded (length bytes + 1) End bytes

-- the data so far and those to come are these bytes' chunked body, and what follows it, or its fault
abbrev pub HasDecoded : List ℕ → List ℕ → Option Coming → Type 0
HasDecoded bytes body coming = prepended_data body coming ≡ Some (coming_of End (reading bytes))

abbrev read_so : List ℕ → Result (List ℕ) ErrorKind → Decoded
read_so body ends = record { body = body; ends = ends }

from-ends : (bytes body : List ℕ) (ends : Result (List ℕ) ErrorKind) (c : Option Coming) → IsDecoded bytes End (read_so body ends)
    → ((body rest : List ℕ) → WholeChunks bytes body rest → c ≡ Some (record { bytes = body; behind = Ok (record { bytes = rest; stop = End }) }))
    → ((body : List ℕ) (kind : ErrorKind) → CutChunks bytes End body kind → c ≡ Some (record { bytes = body; behind = Err kind }))
    → c ≡ Some (coming_of End (read_so body ends))
from-ends bytes body (Ok rest) c h whole front = whole body rest h
from-ends bytes body (Err kind) c h whole front = front body kind h

prepend-nothing : (c : Option Coming) → prepended_data [] c ≡ c
prepend-nothing None = refl
prepend-nothing (Some c) = refl

pub decoded-nothing : (bytes : List ℕ) (c : Option Coming)
    → ((body rest : List ℕ) → WholeChunks bytes body rest → c ≡ Some (record { bytes = body; behind = Ok (record { bytes = rest; stop = End }) }))
    → ((body : List ℕ) (kind : ErrorKind) → CutChunks bytes End body kind → c ≡ Some (record { bytes = body; behind = Err kind }))
    → HasDecoded bytes [] c
decoded-nothing bytes c whole front =
    prepend-nothing c ∙ from-ends bytes (reading bytes).body (reading bytes).ends c (decoded-is (length bytes + 1) bytes End (omega arith)) whole front

prepend-more : (body more : List ℕ) (c : Option Coming) → prepended_data body (prepended_data more c) ≡ prepended_data (body ++ more) c
prepend-more body more None = refl
prepend-more body more (Some c) = ap (λ (x : List ℕ). Some (record { bytes = x; behind = c.behind })) (sym (append_assoc body more c.bytes))

pub decoded-more : (bytes body more : List ℕ) (old new : Option Coming) → old ≡ prepended_data more new → HasDecoded bytes body old → HasDecoded bytes (body ++ more) new
decoded-more bytes body more old new e h = sym (prepend-more body more new) ∙ sym (ap (prepended_data body) e) ∙ h

fewer-of : (bytes body more : List ℕ) (new : Option Coming) → prepended_data body (prepended_data more new) ≡ Some (coming_of End (reading bytes)) → 0 < length more → coming_count new < coming_count (prepended_data more new)
fewer-of bytes body more None h some = absurd (cc)
fewer-of bytes body more (Some c) h some = omega (arith, length-append more c.bytes)

-- fewer bytes are to come
pub coming-fewer : (bytes body more : List ℕ) (old new : Option Coming) → old ≡ prepended_data more new → HasDecoded bytes body old → 0 < length more → coming_count new < coming_count old
coming-fewer bytes body more old new e h some =
    let P : Option Coming → Type 0 = λ c. prepended_data body c ≡ Some (coming_of End (reading bytes)) in
    let less = fewer-of bytes body more new (subst P e h) some in
    let same : coming_count old ≡ coming_count (prepended_data more new) = ap coming_count e in
    omega arith

coming-parts : (b d : List ℕ) (r s : Result Feed ErrorKind) → ◌≡◌ {A = Option Coming} (Some (record { bytes = b; behind = r })) (Some (record { bytes = d; behind = s })) → (b ≡ d) × (r ≡ s)
coming-parts b d r s e =
    let p : ◌≡◌ {A = Coming} (record { bytes = b; behind = r }) (record { bytes = d; behind = s }) = cc in
    (ap (λ (c : Coming). c.bytes) p, ap (λ (c : Coming). c.behind) p)

rest-over : (bytes body rest : List ℕ) (ends : Result (List ℕ) ErrorKind) → IsDecoded bytes End (read_so body ends) → Ok (whole_feed rest) ≡ rest_at End ends → WholeChunks bytes body rest
rest-over bytes body rest (Ok r) h e =
    let same : rest ≡ r = ap (λ (f : Feed). f.bytes) (let x : ◌≡◌ {A = Feed} (whole_feed rest) (whole_feed r) = cc in x) in
    rw same h
rest-over bytes body rest (Err kind) h e = absurd (cc)

-- the body is over
pub decoded-over : (bytes body rest : List ℕ) (c : Option Coming) → HasDecoded bytes body c → c ≡ option_map over_at (Some (whole_feed rest)) → WholeChunks bytes body rest
decoded-over bytes body rest c h e =
    let d = reading bytes in
    let all : Some (record { bytes = body ++ []; behind = Ok (whole_feed rest) }) ≡ Some (coming_of End d) = ap (prepended_data body) (sym e) ∙ h in
    let k = coming-parts (body ++ []) d.body (Ok (whole_feed rest)) (rest_at End d.ends) all in
    let same : d.body ≡ body = sym k.0 ∙ append-nil body in
    let w = rest-over bytes d.body rest d.ends (decoded-is (length bytes + 1) bytes End (omega arith)) k.1 in
    let P : List ℕ → Type 0 = λ x. WholeChunks bytes x rest in
    subst P same w

rest-broken : (bytes body : List ℕ) (kind : ErrorKind) (ends : Result (List ℕ) ErrorKind) → IsDecoded bytes End (read_so body ends) → Err kind ≡ rest_at End ends → CutChunks bytes End body kind
rest-broken bytes body kind (Ok r) h e = absurd (cc)
rest-broken bytes body kind (Err k) h e = let same : kind ≡ k = cc in rw same h

cut-by : (bytes body : List ℕ) (kind : ErrorKind) (c : Option Coming) → HasDecoded bytes body c → BreaksBy kind c → CutChunks bytes End (reading bytes).body kind
cut-by bytes body kind None h b = absurd (cc)
cut-by bytes body kind (Some c) h b =
    let d = reading bytes in
    let all : Some (record { bytes = body ++ []; behind = Err kind }) ≡ Some (coming_of End d) = ap (λ (x : Coming). prepended_data body (Some x)) (sym b) ∙ h in
    let k = coming-parts (body ++ []) d.body (Err kind) (rest_at End d.ends) all in
    rest-broken bytes d.body kind d.ends (decoded-is (length bytes + 1) bytes End (omega arith)) k.1

-- the fault as a client has it
fault-lacks : (bytes : List ℕ) (kind : ErrorKind) → LacksBody OfChunks bytes (lack_of kind) → LacksBy (LacksBody OfChunks bytes) (chunk_fault kind)
fault-lacks bytes InvalidData h = h
fault-lacks bytes _ h = h

-- the body breaks off
pub decoded-broken : (bytes body : List ℕ) (kind : ErrorKind) (c : Option Coming) → HasDecoded bytes body c → BreaksBy kind c → LacksBy (LacksBody OfChunks bytes) (chunk_fault kind)
decoded-broken bytes body kind c h b = fault-lacks bytes kind (lack-is bytes (reading bytes).body kind (cut-by bytes body kind c h b))

data-there : (bytes body : List ℕ) (ends : Result (List ℕ) ErrorKind) → IsDecoded bytes End (read_so body ends) → 0 < length body → HasChunkData bytes
data-there bytes body (Ok rest) h some = (body, some, inl (rest, h))
data-there bytes body (Err kind) h some = (body, some, inr (kind, h))

longer : (bytes body : List ℕ) (c : Option Coming) → HasDecoded bytes body c → 0 < length body → 0 < length (reading bytes).body
longer bytes body None h some = absurd (cc)
longer bytes body (Some c) h some =
    let d = reading bytes in
    let k = coming-parts (body ++ c.bytes) d.body c.behind (rest_at End d.ends) h in
    let same : length (body ++ c.bytes) ≡ length d.body = ap length k.0 in
    omega (arith, length-append body c.bytes)

-- data came
pub decoded-some : (bytes body more : List ℕ) (old new : Option Coming) → old ≡ prepended_data more new → HasDecoded bytes body old → 0 < length more → HasChunkData bytes
decoded-some bytes body more old new e h some =
    let d = reading bytes in
    let all = decoded-more bytes body more old new e h in
    let front : length (body ++ more) ≡ length body + length more = length-append body more in
    data-there bytes d.body d.ends (decoded-is (length bytes + 1) bytes End (omega arith)) (longer bytes (body ++ more) new all (omega arith))
