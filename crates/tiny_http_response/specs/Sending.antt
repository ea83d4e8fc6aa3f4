-- The effect of sending a response on an outlet.
use Rattle.std.specs.Prelude.{◌≡◌, ℕ, ◌-◌, ◌^◌, ◌<◌, ◌⊎◌, ⊤, Bool, true, false, List, [], length, Option, None, Some}
use Rattle.std.specs.Prelude.{Result, Ok, Err, IfErr, OnErr, OnOk, MatchBool, if◌then◌else◌}
use Rattle.std.specs.IoError.{error_kind}
use Rattle.std.specs.declared.io.Error.{Error}
use Rattle.std.specs.declared.io.ErrorKind.{ErrorKind}
use Rattle.std.specs.declared.io.ErrorKind.TheVariants.{OutOfMemory, BrokenPipe, ConnectionAborted, ConnectionRefused}
use Rattle.std.specs.declared.io.ErrorKind.TheVariants.{ConnectionReset}
use Rattle.std.specs.Io.KnownBytes.{append_known}
use Rattle.tiny_http_io.specs.Outlet.{OutletState, output_of, SentOn}
use Rattle.tiny_http_io.specs.Device.{Feed, Sink, IsFront, BeginsKnown, HoldsNothing, IsKnownFront, StatesKind}
use Rattle.tiny_http_io.specs.Device.{next_count}
use Rattle.tiny_http_response.specs.Answer.{Answer, ResponseState, Printing, text_of, IsGathered}
use Rattle.tiny_http_body.specs.Text.{Text, Whole, Broken, nothing_sent}

-- Whether a writer takes bytes and its failure count can rise.
pub record CanSend (sink : Sink) : Type 0 where
  pub unended : sink.has_ended ≡ false
  pub can_count : sink.failures < 2 ^ 64 - 1

-- Whether the writer took these bytes and did not fail.
pub record OutletTook (old new : Sink) (text : List ℕ) : Type 0 where
  pub bytes : new.taken ≡ append_known old.taken text
  pub sent : IsFront old.sent new.sent
  pub failures : new.failures ≡ old.failures

-- Whether the writer failed once, with an error of this kind, in taking a text. The bytes it states are a prefix of its
-- earlier bytes and this text, and include all that it had sent on.
pub record OutletFailed (old new : Sink) (text : List ℕ) (kind : ErrorKind) : Type 0 where
  pub bytes : IsKnownFront new.taken (append_known old.taken text)
  pub keeps : BeginsKnown old.sent new.taken
  pub failures : new.failures ≡ next_count old.failures
  pub last_kind : StatesKind new.last_kind kind

-- whether the held bytes were sent, or the writer failed in sending them
abbrev pub EndsQuietly : Sink → Sink → Type 0
EndsQuietly old new = OutletTook old new [] ⊎ ((kind : ErrorKind) × OutletFailed old new [] kind)

-- Whether the held bytes were discarded, and the writer did not fail.
pub record DropsHeld (old new : Sink) : Type 0 where
  pub bytes : IsKnownFront new.taken old.taken
  pub sent : IsFront old.sent new.sent
  pub keeps : BeginsKnown new.sent new.taken
  pub failures : new.failures ≡ old.failures
  pub last_kind : new.last_kind ≡ old.last_kind

-- Whether a call sends a text on an outlet; `ended` says whether the outlet has ended afterwards. `Ok`: the writer took
-- all of the text, and the outlet hasn't ended. `Err`: the outlet has ended. Either the text broke off, its fault is
-- reported, and the writer took the part before the fault or failed in it; or the writer failed in a nonempty text, and
-- the writer's fault is reported.
abbrev pub SendsText : {T : Type 0} → Sink → Sink → Bool → Result T Error → Text → Type 0
SendsText old new ended (Ok x) text =
    (text.ending ≡ Whole) × OutletTook old new text.bytes × (ended ≡ false) × (new.has_ended ≡ false)
SendsText old new ended (Err e) text =
    (ended ≡ true) × (new.has_ended ≡ true)
    × (((text.ending ≡ Broken (error_kind e))
    × (OutletTook old new text.bytes ⊎ ((kind : ErrorKind) × OutletFailed old new text.bytes kind)))
    ⊎ ((text.bytes ≡ [] → ⊥) × OutletFailed old new text.bytes (error_kind e)))

-- whether a call sends a response with these data, or is refused memory to gather them
abbrev pub Sends : {T : Type 0} → Sink → Sink → Bool → Result T Error → Answer → Feed → Printing → Type 0
Sends old new ended r a feed p =
    SendsText old new ended r (text_of a feed p)
    ⊎ (IsGathered a p × SendsText old new ended r (nothing_sent OutOfMemory))

-- whether a call sends a text without reporting a fault: the writer took it and the outlet hasn't ended, or the writer
-- failed and the outlet has ended
abbrev pub SendsQuietly : Sink → Sink → Bool → List ℕ → Type 0
SendsQuietly old new ended text =
    ((ended ≡ false) × (new.has_ended ≡ false) × OutletTook old new text)
    ⊎ ((ended ≡ true) × (new.has_ended ≡ true) × (kind : ErrorKind) × OutletFailed old new text kind)

-- whether the writer holds nothing back, unless it has ended
abbrev pub IsFlushed : Sink → Type 0
IsFlushed s = s.has_ended ≡ false → HoldsNothing s

-- Whether the writer took nothing and did not fail.
pub record Idles (old new : Sink) : Type 0 where
  pub bytes : new.taken ≡ old.taken
  pub failures : new.failures ≡ old.failures
  pub last_kind : new.last_kind ≡ old.last_kind
  pub stays : new.has_ended ≡ old.has_ended

-- whether a call sends a text without reporting a fault, or, if the outlet had ended (`was`), sends nothing
abbrev pub SendsUnlessEnded : Bool → Sink → Sink → Bool → List ℕ → Type 0
SendsUnlessEnded was old new ended text =
    MatchBool was (Idles old new × (ended ≡ true)) (SendsQuietly old new ended text)

-- A TEXT IS SENT ON AN OUTLET: whether a call sends it without reporting a fault. An outlet that had ended sends
-- nothing. On any other outlet the text is sent, or the writer fails, if the writer takes bytes and its failure count
-- can rise; if not, nothing is claimed.
abbrev pub SendsQuietlyOn : {W : Type 0} → OutletState W → OutletState W → List ℕ → Type 0
SendsQuietlyOn old new text =
    (old.ended ≡ false → CanSend (output_of old))
    → SendsUnlessEnded old.ended (output_of old) (output_of new) new.ended text

-- whether the writer's failure count is unchanged, or has risen by one and the outlet has ended
abbrev pub SinkFailsOnce : Sink → Sink → Bool → Type 0
SinkFailsOnce old new ended =
    (new.failures ≡ old.failures) ⊎ ((new.failures ≡ next_count old.failures) × (ended ≡ true))

-- whether the writer failed at most once, as in `SinkFailsOnce`, or, if the outlet had ended (`was`), not at all, and
-- the outlet is still ended
abbrev pub FailsOnceUnlessEnded : Bool → Sink → Sink → Bool → Type 0
FailsOnceUnlessEnded was old new ended =
    MatchBool was ((new.failures ≡ old.failures) × (ended ≡ true)) (SinkFailsOnce old new ended)

-- A CALL THAT USES AN OUTLET, whatever its reader and writer state: whether the writer's failure count rises by at most
-- one, and the outlet has ended if it rises. An outlet that had ended stays ended, and its count is unchanged.
abbrev pub FailsOnce : {W : Type 0} → OutletState W → OutletState W → Type 0
FailsOnce old new = FailsOnceUnlessEnded old.ended (output_of old) (output_of new) new.ended

-- whether the bytes that the writer had sent on are still a prefix of those it has sent on
abbrev pub KeepsSent : {W : Type 0} → OutletState W → OutletState W → Type 0
KeepsSent old new = IsFront (output_of old).sent (output_of new).sent

-- whether the writer failed at most once
abbrev pub FailsAtMostOnce : Sink → Sink → Type 0
FailsAtMostOnce old new = (new.failures ≡ old.failures) ⊎ (new.failures ≡ next_count old.failures)

-- Whether the text of a response breaks off with a fault of this kind; or its data are gathered, and this kind is
-- `OutOfMemory`: memory for them may be refused.
abbrev pub BreaksOff : Answer → Feed → Printing → ErrorKind → Type 0
BreaksOff a f p kind = ((text_of a f p).ending ≡ Broken kind) ⊎ (IsGathered a p × (kind ≡ OutOfMemory))

-- whether the text of a response may break off with this kind, as in `BreaksOff`; always true of data that state no
-- feed, or one of 2^63 bytes or more
abbrev pub MayBreakOff : Answer → Option Feed → Printing → ErrorKind → Type 0
MayBreakOff a None p kind = Unit {0}
MayBreakOff a (Some f) p kind = length f.bytes < 2 ^ 63 → BreaksOff a f p kind

-- whether the writer failed once more and, if its failure count could rise, states this kind for its last failure, if
-- it states any
abbrev pub FailedBy : Sink → Sink → ErrorKind → Type 0
FailedBy old new kind =
    (new.failures ≡ next_count old.failures) × (old.failures < 2 ^ 64 - 1 → StatesKind new.last_kind kind)

-- whether the kind of a reported fault is honest: that of a failure of the writer, as in `FailedBy`, or one with which
-- the text of the response may break off, as in `MayBreakOff`
abbrev pub IsHonest : Sink → Sink → Answer → Option Feed → Printing → ErrorKind → Type 0
IsHonest old new a feed p kind = FailedBy old new kind ⊎ MayBreakOff a feed p kind

-- whether the writer did not fail if the call returns `Ok`
abbrev pub ReportsFailure : {T : Type 0} → Sink → Sink → Result T Error → Type 0
ReportsFailure old new r = OnOk r (new.failures ≡ old.failures)

-- ONE RESPONSE, sent on an outlet and flushed: whether a call does so. An outlet that had ended is unchanged, and no
-- fault is reported. On any other outlet the text of the response is sent if the data state a feed of fewer than 2^63
-- bytes, the writer takes bytes, and its failure count can rise.
pub record SendsAnswer {W D : Type 0}
    (stated : D
    → Option Feed) (old new : OutletState W) (r : Result (Unit {0}) Error) (response : ResponseState D)
    (p : Printing) : Type 0 where
  pub past : old.ended ≡ true → (new ≡ old) × (r ≡ Ok tt)
  pub sends : (content : Feed) → stated response.data_reader ≡ Some content → length content.bytes < 2 ^ 63
      → old.ended ≡ false → CanSend (output_of old)
      → Sends (output_of old) (output_of new) new.ended r response.answer content p
  -- Whatever the writer and the data state: the writer fails at most once, and then a fault is reported. The kind of a
  -- fault is honest, as in `IsHonest`. After a fault the outlet has ended. The outlet holds no bytes, and a writer that
  -- has not ended has sent everything on.
  pub fails_once : FailsOnce old new
  pub reports : ReportsFailure (output_of old) (output_of new) r
  pub honest : IfErr r
      (λ e. IsHonest (output_of old) (output_of new) response.answer (stated response.data_reader) p (error_kind e))
  pub ended : OnErr r (new.ended ≡ true)
  pub flushed : new.held ≡ []
  pub sent_on : SentOn new

-- whether an error of this kind means that the client has closed the connection, which is not a failure of the response
abbrev pub is_closed_client : ErrorKind → Bool
is_closed_client BrokenPipe = true
is_closed_client ConnectionAborted = true
is_closed_client ConnectionRefused = true
is_closed_client ConnectionReset = true
is_closed_client _ = false

-- the result to report of sending a response: its error, or `Ok` if the client has closed the connection
abbrev pub reported : Result ⊤ Error → Result ⊤ Error
reported (Ok u) = Ok u
reported (Err e) = if is_closed_client (error_kind e) then Ok tt else Err e
