-- The parts of an `Outlet` that contracts refer to.
use Rattle.std.specs.Prelude.{◌≡◌, ℕ, Bool, false, ◌||◌, List, [], Result, Ok, Err}
use Rattle.std.specs.IoError.{error_kind}
use Rattle.std.specs.declared.io.Error.{Error}
use Rattle.tiny_http_io.specs.Device.{Sink, IsFront, grown, Failed, HoldsNothing}

-- the bytes that a writer took and the bytes `held` that an outlet holds back, as one sink, which has ended if the
-- outlet (`ended`) or the writer has
abbrev pub holding : Sink → List ℕ → Bool → Sink
holding s held ended =
    record {
      taken = grown s.has_ended s.taken held;
      sent = s.sent;
      failures = s.failures;
      last_kind = s.last_kind;
      has_ended = ended || s.has_ended;
    }

-- The parts of an `Outlet` that contracts refer to: the bytes held back, whether the outlet has ended, the inner
-- writer, and the writer's sink.
pub record OutletState (W : Type 0) : Type 0 where
  pub held : List ℕ
  pub ended : Bool
  pub writer : W
  pub sink : Sink

-- the bytes that an outlet's writer took and those that the outlet holds back, as one sink, which has ended if the
-- outlet or its writer has
abbrev pub output_of : {W : Type 0} → OutletState W → Sink
output_of o = holding o.sink o.held o.ended

-- the bytes that an outlet holds back
abbrev pub outlet_held : {W : Type 0} → OutletState W → List ℕ
outlet_held o = o.held

-- whether the outlet has ended, and takes no more bytes
abbrev pub outlet_ended : {W : Type 0} → OutletState W → Bool
outlet_ended o = o.ended

-- the inner writer of an outlet
abbrev pub outlet_writer : {W : Type 0} → OutletState W → W
outlet_writer o = o.writer

-- whether the outlet's writer holds no bytes back, if neither the outlet nor the writer has ended
abbrev pub SentOn : {W : Type 0} → OutletState W → Type 0
SentOn o = (output_of o).has_ended ≡ false → HoldsNothing o.sink

-- The effect of ending an outlet on its output. `Ok`: neither the bytes taken nor the failures changed, and more bytes
-- may have been sent on. An error: the writer failed.
abbrev pub EndsOutlet : {T : Type 0} → Sink → Sink → Result T Error → Type 0
EndsOutlet old new (Ok x) =
    (new.taken ≡ old.taken)
    × IsFront old.sent new.sent
    × (new.failures ≡ old.failures)
    × (new.last_kind ≡ old.last_kind)
EndsOutlet old new (Err e) = Failed old new [] (error_kind e)
