-- A writer and what is held back, as one sink.
use Rattle.std.proofs.Common.{◌≡◌, refl, sym, ap, ◌∙◌, subst, ℕ, Bool, true, false, List, [], ◌++◌, length, take, drop, ◌-◌, ◌≤◌, length-drop, Option, Some, None, append_assoc, append-nil, arith}
use Rattle.std.specs.declared.io.ErrorKind.{ErrorKind}
use Rattle.std.specs.Io.KnownBytes.{append_known}
use Rattle.tiny_http_io.specs.Device.{Sink, grown, BeginsKnown, IsKnownFront, Took, Failed}
use Rattle.tiny_http_io.proofs.DeviceFeeds.{front-more}
use Rattle.std.proofs.lemmas.List.{take-append-drop, take_all}
use Rattle.tiny_http_io.proofs.DeviceLemmas.{IsFront-same, Failed-append}
use Rattle.tiny_http_io.specs.Outlet.{holding}
use Rattle.tiny_http_io.proofs.DeviceLemmas.{grown-nil}

outlet-grown-append : (ended : Bool) (known : Option (List ℕ)) (s t : List ℕ) → grown ended known (s ++ t) ≡ grown ended (grown ended known s) t
outlet-grown-append true known s t = refl
outlet-grown-append false None s t = refl
outlet-grown-append false (Some xs) s t = ap Some (sym (append_assoc xs s t))

-- what was held is sent
pub held-sent : (a b : Sink) (held : List ℕ) → Took a b held → Took (holding a held false) (holding b [] false) []
held-sent a b held t = record {
  bytes = grown-nil b.has_ended b.taken ∙ t.bytes ∙ sym (grown-nil a.has_ended (grown a.has_ended a.taken held));
  sent = t.sent;
  failures = t.failures;
  last_kind = t.last_kind;
  stays = t.stays;
}

-- or the writer failed in it
pub held-failed : (a b : Sink) (held : List ℕ) (kind : ErrorKind) → Failed a b held kind → Failed (holding a held false) (holding b [] true) [] kind
held-failed a b held kind f =
    let whole : append_known (grown a.has_ended a.taken held) [] ≡ append_known a.taken held =
    grown-nil false (grown a.has_ended a.taken held) ∙ ap (λ e. grown e a.taken held) f.was_open in
    record {
      bytes = (f.bytes.0, whole ∙ f.bytes.1 ∙ ap (λ k. append_known k f.bytes.0) (sym (grown-nil b.has_ended b.taken)));
      sent = f.sent;
      keeps = let P : Option (List ℕ) → Type 0 = λ x. BeginsKnown b.sent x in subst P (sym (grown-nil b.has_ended b.taken)) f.keeps;
      failures = f.failures;
      last_kind = f.last_kind;
      was_open = f.was_open;
    }

-- more is held
pub held-more : (a : Sink) (held more new : List ℕ) → new ≡ held ++ more → Took (holding a held false) (holding a new false) more
held-more a held more new e = record {
  bytes = ap (grown a.has_ended a.taken) e ∙ outlet-grown-append a.has_ended a.taken held more;
  sent = IsFront-same a.sent;
  failures = refl;
  last_kind = refl;
  stays = refl;
}

-- the writer failed while room was made for more
pub failed-for_more : (s b : Sink) (held new buf : List ℕ) (n : ℕ) (ended : Bool) (kind : ErrorKind) → n ≡ 0 → new ≡ held ++ take n buf → Failed (holding s new ended) b [] kind → Failed (holding s held ended) b buf kind
failed-for_more s b held new buf n ended kind z e h =
    let same : new ≡ held = e ∙ ap (λ k. held ++ take k buf) z ∙ append-nil held in
    let P : List ℕ → Type 0 = λ x. Failed (holding s x ended) b [] kind in
    let f = subst P same h in
    let known = grown s.has_ended s.taken held in
    let Q : Option (List ℕ) → Type 0 = λ k. IsKnownFront b.taken k in
    record {
      bytes = front-more b.taken known buf (subst Q (grown-nil false known) f.bytes);
      sent = f.sent;
      keeps = f.keeps;
      failures = f.failures;
      last_kind = f.last_kind;
      was_open = f.was_open;
    }

-- the writer failed in what was left of a text
pub failed-at : (a b c : Sink) (bytes : List ℕ) (at : ℕ) (kind : ErrorKind) → Took a b (take at bytes) → Failed b c (take (length bytes - at) (drop at bytes)) kind → Failed a c bytes kind
failed-at a b c bytes at kind took failed =
    let P : List ℕ → Type 0 = λ s. Failed b c s kind in
    let Q : List ℕ → Type 0 = λ s. Failed a c s kind in
    let fits : length (drop at bytes) ≤ length bytes - at = omega (arith, length-drop at bytes) in
    subst Q (take-append-drop at bytes)
    (Failed-append a b c (take at bytes) (drop at bytes) kind took (subst P (take_all (length bytes - at) (drop at bytes) fits) failed))
