-- The conversions between errors of a server and errors of the system.
use Rattle.std.specs.Prelude.{◌≡◌, ◌≢◌, ◌<◌, ◌+◌, ◌-◌, ◌^◌, ⊤, ℕ, Option, Some, None}
use Rattle.std.specs.IoError.{error_kind}
use Rattle.std.specs.declared.io.Error.{Error}
use Rattle.std.specs.declared.io.ErrorKind.TheVariants.{InvalidInput, OutOfMemory}
use Rattle.tiny_http_limits.specs.declared.limits.Limits.{Limits}
use Rattle.tiny_http.specs.declared.options.ServerOptions.{ServerOptions}
use Rattle.tiny_http.specs.declared.server.ServerError.{ServerError}
use Rattle.tiny_http.specs.declared.server.ServerError.TheVariants.{Io, Ssl, Memory, TooFewDescriptors}

-- whether this is a server's error for a fault: `Memory` if the fault's kind is OutOfMemory, else `Io` with the fault
abbrev pub IsServerErrorOf : Error → ServerError → Type 0
IsServerErrorOf fault (Io same) = (same ≡ fault) × (¬ (error_kind fault ≡ OutOfMemory))
IsServerErrorOf fault Ssl = ⊥
IsServerErrorOf fault Memory = error_kind fault ≡ OutOfMemory
IsServerErrorOf fault (TooFewDescriptors _ _) = ⊥

-- whether this is the fault for an error of a server
abbrev pub IsFaultOf : ServerError → Error → Type 0
IsFaultOf (Io same) fault = fault ≡ same
IsFaultOf Ssl fault = error_kind fault ≡ InvalidInput
IsFaultOf Memory fault = error_kind fault ≡ OutOfMemory
IsFaultOf (TooFewDescriptors _ _) fault = error_kind fault ≡ InvalidInput

-- Whether limits on connections, of which the process may open only so many, are too high: they are above 1,000, not
-- unlimited, and leave fewer than ten descriptors beside.
pub record IsTooHigh (limits : Limits) (connections descriptors : ℕ) : Type 0 where
  pub limit : connections ≡ limits.connections
  pub many : 1000 < connections
  pub limited : connections ≢ 2 ^ 64 - 1
  pub lacks : descriptors < connections + 10

-- the same for limits that may be absent
abbrev pub FailsWithin : Option Limits → ℕ → ℕ → Type 0
FailsWithin None connections descriptors = ⊥
FailsWithin (Some limits) connections descriptors = IsTooHigh limits connections descriptors

-- whether a server with these settings, and without TLS, may fail to be made with this error
abbrev pub FailsUnder : ServerOptions → ServerError → Type 0
FailsUnder options (Io _) = ⊤
FailsUnder options Ssl = ⊥
FailsUnder options Memory = ⊤
FailsUnder options (TooFewDescriptors connections descriptors) = FailsWithin options.limits connections descriptors
