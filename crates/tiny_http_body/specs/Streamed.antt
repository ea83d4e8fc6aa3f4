-- The parts of a `Streamed` that contracts refer to.
use Rattle.std.specs.Prelude.{◌≡◌, ◌⊎◌, ℕ, ◌<◌, ◌≤◌, Bool, false, List, [], ◌++◌, length, take, Result, Ok, Err}
use Rattle.std.specs.Prelude.{codes}
use Rattle.std.specs.List.{flat_map, AllByRecursion}
use Rattle.std.specs.IoError.{error_kind}
use Rattle.std.specs.declared.io.Error.{Error}
use Rattle.tiny_http_io.specs.Device.{Sink, Took, Failed}
use Rattle.tiny_http_body.specs.ChunkedPrinting.{short_chunk}
use Rattle.tiny_http_body.specs.declared.chunks.TheConstants.{CHUNK}
use Rattle.tiny_http_body.specs.declared.streamed.StreamedForm.{StreamedForm}
use Rattle.tiny_http_body.specs.declared.streamed.StreamedForm.TheVariants.{Chunks, Plain, Absent}

-- The parts of a `Streamed` that contracts refer to: the inner writer, the writer's sink, the form of the body, the
-- held bytes, and whether the writer has failed.
pub record StreamedState (W : Type 0) : Type 0 where
  pub writer : W
  pub sink : Sink
  pub form : StreamedForm
  pub held : List ℕ
  pub failed : Bool

-- the state of a body to which no bytes have been given yet
abbrev pub begun : {W : Type 0} → W → Sink → StreamedForm → StreamedState W
begun writer sink form = record { writer = writer; sink = sink; form = form; held = []; failed = false }

-- a piece of a body as it is sent in this form. `Chunks`: as one chunk, or not at all if it is empty. `Plain`: as is.
-- `Absent`: not at all
abbrev pub piece_text : StreamedForm → List ℕ → List ℕ
piece_text Chunks bytes = short_chunk bytes
piece_text Plain bytes = bytes
piece_text Absent bytes = []

-- the end of a body as it is sent in this form: for `Chunks` the last chunk and an empty trailer section, otherwise
-- nothing
abbrev pub end_text : StreamedForm → List ℕ
end_text Chunks = codes "0\r\n\r\n"
end_text Plain = []
end_text Absent = []

-- the text of these pieces of a body as they are sent
abbrev pub pieces_text : StreamedForm → List (List ℕ) → List ℕ
pieces_text form pieces = flat_map (piece_text form) pieces

-- the bytes that these pieces join to
abbrev pub joined : List (List ℕ) → List ℕ
joined pieces = flat_map (λ piece. piece) pieces

-- whether a piece has at most `CHUNK` bytes
abbrev pub IsPiece : List ℕ → Type 0
IsPiece bytes = length bytes ≤ CHUNK

-- whether all bytes given to a body between two states of a writer were sent in pieces, except the held bytes, which
-- are fewer than `CHUNK`
pub record SentPieces (form : StreamedForm) (start now : Sink) (given held : List ℕ) : Type 0 where
  pub pieces : List (List ℕ)
  pub sent : Took start now (pieces_text form pieces)
  pub joins : given ≡ joined pieces ++ held
  pub bounds : AllByRecursion IsPiece pieces
  pub few : length held < CHUNK

-- whether a body has been given these bytes since its writer was in the state `start`, and its writer hasn't failed:
-- they were sent in pieces, except the held bytes
abbrev pub HasStreamed : {W : Type 0} → Sink → List ℕ → StreamedState W → Type 0
HasStreamed start given s = (s.failed ≡ false) × SentPieces s.form start s.sink given s.held

-- THE WHOLE BODY: whether these bytes were sent, in pieces, and then the end of the body
pub record EndsStreamed (form : StreamedForm) (start now : Sink) (given : List ℕ) : Type 0 where
  pub pieces : List (List ℕ)
  pub sent : Took start now (pieces_text form pieces ++ end_text form)
  pub joins : given ≡ joined pieces
  pub bounds : AllByRecursion IsPiece pieces

-- whether these bytes are all held if they are fewer than `CHUNK`, or are sent as one piece, with none held, if they
-- are exactly `CHUNK`
abbrev pub Holds : StreamedForm → Sink → Sink → List ℕ → List ℕ → Type 0
Holds form old new held bytes =
    ((length bytes < CHUNK) × (new ≡ old) × (held ≡ bytes))
    ⊎ ((length bytes ≡ CHUNK) × Took old new (piece_text form bytes) × (held ≡ []))

-- THE EFFECT OF ONE WRITE. `Ok`: it takes bytes from the front of a text, at least one unless the text is empty, and
-- puts them after the held bytes. `Err`: the writer failed within the piece that the held bytes and the text fill.
abbrev pub Gathers : StreamedForm → Sink → Sink → List ℕ → List ℕ → Result ℕ Error → List ℕ → Type 0
Gathers form old new was held (Ok n) text =
    (n ≤ length text) × (0 < length text → 0 < n) × Holds form old new held (was ++ take n text)
Gathers form old new was held (Err e) text =
    (CHUNK ≤ length (was ++ text)) × Failed old new (piece_text form (take CHUNK (was ++ text))) (error_kind e)
