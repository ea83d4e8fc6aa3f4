-- The parts of a test's request that contracts refer to.
use Rattle.std.specs.Prelude.{◌≡◌, ℕ, List, ◌∷◌, ◌++◌, [], None, false, is_some, codes, decimal, if◌then◌else◌}
use Rattle.tiny_http_head.specs.declared.common.Header.{Header}
use Rattle.tiny_http_body.specs.Framing.{value_of}
use Rattle.tiny_http_io.specs.Device.{Sink}
use Rattle.tiny_http_request.specs.declared.test.Nowhere.{Nowhere}
use Rattle.tiny_http_request.specs.declared.test.Recorder.{Recorder}
use Rattle.tiny_http_request.specs.declared.test.TestBody.{TestBody}
use Rattle.tiny_http_request.specs.declared.test.TestBody.TheVariants.{Text, Bytes}
use Rattle.tiny_http_request.specs.declared.test.TestRequest.{TestRequest}

-- the sink of a `Nowhere`, a writer that takes all bytes and keeps none: it states no bytes and no failure
abbrev pub nowhere_sink : Nowhere → Sink
nowhere_sink _ = record { taken = None; sent = []; failures = 0; last_kind = None; has_ended = false }

-- the sink of a `Recorder`, a writer whose bytes are under a lock: it states its own failures, and no bytes
abbrev pub recorder_sink : {Rt : Type 0} → Recorder Rt → Sink
recorder_sink w = record { taken = None; sent = []; failures = w.failures; last_kind = None; has_ended = false }

-- the bytes of the body of a test's request
abbrev pub body_bytes : TestBody → List ℕ
body_bytes (Text text) = text.now
body_bytes (Bytes bytes) = bytes.items

-- Whether two builders differ at most in their headers and their bodies.
pub record IsLike (old new : TestRequest) : Type 0 where
  pub remote_addr : new.remote_addr ≡ old.remote_addr
  pub secure : new.secure ≡ old.secure
  pub method : new.method ≡ old.method
  pub path : new.path ≡ old.path
  pub version : new.version ≡ old.version

-- the Content-Length header with this length
abbrev pub length_header : ℕ → Header
length_header n = record { field = codes "Content-Length"; value = decimal n }

-- the headers, with a Content-Length of n appended if they have no Content-Length
abbrev pub with_length : ℕ → List Header → List Header
with_length n headers =
    if is_some (value_of (codes "Content-Length") headers) then headers else headers ++ (length_header n ∷ [])
