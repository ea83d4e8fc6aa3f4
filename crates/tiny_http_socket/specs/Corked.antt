-- The parts of a `Corked`, a writer with a buffer, that contracts refer to.
use Rattle.std.specs.Prelude.{◌≡◌, ℕ, ◌<◌, ◌≤◌, Bool, true, false, List, ◌++◌, length, take, Option, Some, None}
use Rattle.std.specs.Prelude.{Result, Ok, Err}
use Rattle.std.specs.IoError.{error_kind}
use Rattle.std.specs.declared.io.Error.{Error}
use Rattle.std.specs.declared.io.ErrorKind.{ErrorKind}
use Rattle.tiny_http_io.specs.Device.{Sink, IsFront, IsKnownFront, HoldsNothing, Took, Failed, grown}
use Rattle.tiny_http_socket.specs.declared.corked.State.{State}
use Rattle.tiny_http_socket.specs.declared.corked.State.TheVariants.{Open, Broken, Ended}

-- The parts of a `Corked` that contracts refer to: the buffered bytes, whether it takes more, the number of failures
-- that it reported and the kind of the last one, the inner writer, and what the inner writer states.
pub record CorkedState (W : Type 0) : Type 0 where
  pub waiting : List ℕ
  pub state : State
  pub failures : ℕ
  pub last : Option ErrorKind
  pub writer : W
  pub sink : Sink

-- the kind of a fault that was met and hasn't been reported yet, given the state of the writer
abbrev pub unreported_of : State → Option ErrorKind
unreported_of (Broken kind) = Some kind
unreported_of Open = None
unreported_of Ended = None

-- the kind of a fault that a `Corked` met and hasn't reported yet
abbrev pub unreported : {W : Type 0} → CorkedState W → Option ErrorKind
unreported c = unreported_of c.state

-- the bytes that the inner writer took, followed, in state `Open`, by the buffered ones, unless the inner writer has
-- ended
abbrev pub taken_by : State → Sink → List ℕ → Option (List ℕ)
taken_by Open s waiting = grown s.has_ended s.taken waiting
taken_by (Broken kind) s waiting = s.taken
taken_by Ended s waiting = s.taken

-- whether a `Corked` takes nothing more: it is `Ended`, since a call has reported its fault, or it is `Open` and the
-- inner writer has ended
abbrev pub takes_none : State → Sink → Bool
takes_none Open s = s.has_ended
takes_none (Broken kind) s = false
takes_none Ended s = true

-- the sink of a `Corked` as one writer: the bytes that the inner writer took, followed by the buffered ones
abbrev pub corked_sink : {W : Type 0} → CorkedState W → Sink
corked_sink c =
    record {
      taken = taken_by c.state c.sink c.waiting;
      sent = c.sink.sent;
      failures = c.failures;
      last_kind = c.last;
      has_ended = takes_none c.state c.sink;
    }

-- The effect of writing the buffered bytes and then a text to the inner writer. `Ok n`: it took the buffered bytes and
-- n bytes of the text, at least one unless the text is empty. `Err`: it failed within the buffered bytes and the text.
abbrev pub PassesBehind : Sink → Sink → List ℕ → Result ℕ Error → List ℕ → Type 0
PassesBehind old new waiting (Ok n) text =
    (n ≤ length text) × (0 < length text → 0 < n) × Took old new (waiting ++ take n text)
PassesBehind old new waiting (Err e) text = Failed old new (waiting ++ text) (error_kind e)

-- whether a call reports a fault of this kind that was met earlier, without calling the inner writer
abbrev pub ReportsFault : {W T : Type 0} → CorkedState W → CorkedState W → Result T Error → ErrorKind → Type 0
ReportsFault old new (Ok x) kind = ⊥
ReportsFault old new (Err e) kind = (error_kind e ≡ kind) × (new.writer ≡ old.writer) × (new.sink ≡ old.sink)

-- whether all bytes taken so far were sent on, unless the writer has ended; or, if a fault of some kind hasn't been
-- reported yet, whether the bytes still stated as taken are a prefix of those stated before
abbrev pub SentOrBroken : Sink → Sink → Option ErrorKind → Type 0
SentOrBroken old new None =
    (new.taken ≡ old.taken) × (new.has_ended ≡ old.has_ended) × (new.has_ended ≡ false → HoldsNothing new)
SentOrBroken old new (Some kind) = IsKnownFront new.taken old.taken × (new.has_ended ≡ false)

-- THE BUFFERED BYTES ARE SENT: whether a call sends them, or the inner writer fails within them. The call reports no
-- fault, and so counts none.
pub record SendsWaiting (old new : Sink) (unreported : Option ErrorKind) : Type 0 where
  pub taken : SentOrBroken old new unreported
  pub sent : IsFront old.sent new.sent
  pub failures : new.failures ≡ old.failures
  pub last_kind : new.last_kind ≡ old.last_kind
