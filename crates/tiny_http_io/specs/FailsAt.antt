-- The parts of a `FailsAt` that contracts refer to.
use Rattle.std.specs.Prelude.{◌≡◌, ◌≢◌, ℕ, ◌-◌, Bool, true, Result, Ok, Err}
use Rattle.std.specs.IoError.{error_kind}
use Rattle.std.specs.declared.io.Error.{Error}
use Rattle.std.specs.declared.io.ErrorKind.{ErrorKind}
use Rattle.tiny_http_io.specs.declared.device.FailsAt.{FailsAt}

-- the inner stream of a `FailsAt`
abbrev pub fails_at_inner : {S : Type 0} → FailsAt S → S
fails_at_inner f = f.inner

-- the number of calls left up to and including the chosen one; 0 if no fault is still to be injected
abbrev pub calls_left : {S : Type 0} → FailsAt S → ℕ
calls_left f = f.calls

-- the kind of the fault that is injected
abbrev pub fault_kind : {S : Type 0} → FailsAt S → ErrorKind
fault_kind f = f.kind

-- whether the fault has been injected
abbrev pub has_failed : {S : Type 0} → FailsAt S → Bool
has_failed f = f.has_failed

-- whether a call other than the chosen one was counted
abbrev pub IsCounted : {S : Type 0} → FailsAt S → FailsAt S → Type 0
IsCounted old new =
    (calls_left new ≡ calls_left old - 1) × (fault_kind new ≡ fault_kind old) × (has_failed new ≡ has_failed old)

-- whether the call failed with the chosen kind and didn't reach the inner stream
abbrev pub FailsNow : {S T : Type 0} → FailsAt S → FailsAt S → Result T Error → Type 0
FailsNow old new (Ok x) = ⊥
FailsNow old new (Err e) = (error_kind e ≡ fault_kind old) × (new ≡ record old { calls = 0; has_failed = true })

-- the effect of counting a call: an error if it is the chosen one; otherwise the count of calls left is reduced by one,
-- but not below 0
abbrev pub Counts : {S T : Type 0} → FailsAt S → FailsAt S → Result T Error → Type 0
Counts {T = T} old new (Ok x) = (old.calls ≢ 1) × (new ≡ record old { calls = old.calls - 1 })
Counts {T = T} old new (Err e) = (old.calls ≡ 1) × FailsNow {T = T} old new (Err e)
