-- What a writer states of its faults, over one call and the next.
use Rattle.std.proofs.Common.{ℕ, ◌+◌, ◌-◌, ◌^◌, min, List, Result, Ok, Err, refl, sym, ap, ◌∙◌, inl, inr}
use Rattle.std.specs.IoError.{error_kind}
use Rattle.std.specs.declared.io.Error.{Error}
use Rattle.std.specs.declared.io.ErrorKind.{ErrorKind}
use Rattle.tiny_http_io.specs.Device.{Sink, Took, Failed, Puts, SameFaults, Faulted, CountsFaults}
use Rattle.tiny_http_body.specs.Text.{Text, Prints}

-- nothing was written
pub SameFaults-none : (a : Sink) → SameFaults a a
SameFaults-none a = record { failures = refl; last_kind = refl; stays = refl }

pub SameFaults-append : (a b c : Sink) → SameFaults a b → SameFaults b c → SameFaults a c
SameFaults-append a b c h k = record { failures = k.failures ∙ h.failures; last_kind = k.last_kind ∙ h.last_kind; stays = k.stays ∙ h.stays }

-- a text was taken, or the writer failed within it
pub Took-same : (a b : Sink) (text : List ℕ) → Took a b text → SameFaults a b
Took-same a b text h = record { failures = h.failures; last_kind = h.last_kind; stays = h.stays }

pub Failed-faulted : (a b : Sink) (text : List ℕ) (kind : ErrorKind) → Failed a b text kind → Faulted a b kind
Failed-faulted a b text kind h = record { failures = h.failures; last_kind = h.last_kind; was_open = h.was_open }

pub Puts-uses : {T : Type 0} (a b : Sink) (r : Result T Error) (text : List ℕ) → Puts a b r text → CountsFaults a b r
Puts-uses a b (Ok x) text h = Took-same a b text h
Puts-uses a b (Err e) text h = inr (Failed-faulted a b text (error_kind e) h)

pub Prints-uses : {T : Type 0} (a b : Sink) (r : Result T Error) (text : Text) → Prints a b r text → CountsFaults a b r
Prints-uses a b (Ok x) text h = Took-same a b text.bytes h.1
Prints-uses a b (Err e) text (inl h) = inl (Took-same a b text.bytes h.1)
Prints-uses a b (Err e) text (inr h) = inr (Failed-faulted a b text.bytes (error_kind e) h)

-- a call after others that did not fail
pub Uses-behind : {T : Type 0} (a b c : Sink) (r : Result T Error) → SameFaults a b → CountsFaults b c r → CountsFaults a c r
Uses-behind a b c (Ok x) h k = SameFaults-append a b c h k
Uses-behind a b c (Err e) h (inl k) = inl (SameFaults-append a b c h k)
Uses-behind a b c (Err e) h (inr k) = inr (record {
  failures = k.failures ∙ ap (λ (n : ℕ). min (n + 1) (2 ^ 64 - 1)) h.failures;
  last_kind = k.last_kind;
  was_open = sym h.stays ∙ k.was_open;
})
