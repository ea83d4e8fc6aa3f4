-- The parts of an `Encoder` that contracts refer to.
use Rattle.std.specs.Prelude.{◌≡◌, ℕ, ◌<◌, ◌≤◌, Bool, false, List, ◌++◌, length, take, Result, Ok, Err, IfErr, IsErr}
use Rattle.std.specs.IoError.{error_kind}
use Rattle.std.specs.declared.io.Error.{Error}
use Rattle.std.specs.declared.io.ErrorKind.TheVariants.{BrokenPipe}
use Rattle.tiny_http_io.specs.Device.{Sink, Took, Failed}
use Rattle.tiny_http_body.specs.ChunkedPrinting.{full_chunks, left_over}

-- The parts of an `Encoder` that contracts refer to: the inner writer, the writer's sink, the bytes of an unfinished
-- chunk, and whether the writer has failed.
pub record EncoderState (W : Type 0) : Type 0 where
  pub writer : W
  pub sink : Sink
  pub held : List ℕ
  pub failed : Bool

-- the inner writer of an encoder
abbrev pub encoder_writer : {W : Type 0} → EncoderState W → W
encoder_writer e = e.writer

-- whether the inner writer of an encoder has failed
abbrev pub encoder_failed : {W : Type 0} → EncoderState W → Bool
encoder_failed e = e.failed

-- whether the bytes given between two states of a writer were written up to their last full chunk, and the rest is held
pub record Encoded (start now : Sink) (given held : List ℕ) : Type 0 where
  pub written : Took start now (full_chunks given)
  pub rest : held ≡ left_over given

-- whether an encoder has been given these bytes since its writer was in the state `start`, and its writer hasn't
-- failed: their full chunks were written, and the rest is held
abbrev pub HasEncoded : {W : Type 0} → Sink → List ℕ → EncoderState W → Type 0
HasEncoded start given e = (e.failed ≡ false) × Encoded start e.sink given e.held

-- The effect of a call that takes bytes from the front of a text. `Ok`: the full chunks of the held bytes and those
-- taken were written, and the rest is held. `Err`: the writer failed within the full chunks of the held bytes and the
-- whole text.
abbrev pub Encodes : Sink → Sink → List ℕ → List ℕ → Result ℕ Error → List ℕ → Type 0
Encodes old new was held (Ok n) text =
    (n ≤ length text)
    × (0 < length text → 0 < n)
    × Took old new (full_chunks (was ++ take n text))
    × (held ≡ left_over (was ++ take n text))
Encodes old new was held (Err e) text = Failed old new (full_chunks (was ++ text)) (error_kind e)

-- whether the result is `BrokenPipe`, as it is after the writer's first fault
abbrev pub IsBroken : {T : Type 0} → Result T Error → Type 0
IsBroken r = IsErr r × IfErr r (λ e. error_kind e ≡ BrokenPipe)
