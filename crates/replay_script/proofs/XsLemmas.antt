-- Bytes `x` that are given one after another.
use Rattle.std.proofs.Common.{◌≡◌, sym, ap, ◌∙◌, arith, ℕ, ◌+◌, ◌-◌, ◌≤◌, List, ◌++◌, take, replicate, Option, Some}
use Rattle.std.proofs.lemmas.List.{replicate-append-replicate}
use Rattle.tiny_http_wire.specs.Device.{Feed, prepended}
use Rattle.tiny_http_wire.specs.declared.device.Stop.{Stop}
use Rattle.replay_script.specs.ScriptData.{xs}

-- the first of them, and then the others
pub xs_go_on : (left n : ℕ) (stop : Stop) (to : List ℕ) → n ≤ left → take n to ≡ replicate n 120 → Some (xs left stop) ≡ prepended (take n to) (Some (xs (left - n) stop))
xs_go_on left n stop to within front =
    let both : left ≡ n + (left - n) = omega (arith, within) in
    let whole : replicate {A = ℕ} left 120 ≡ take n to ++ replicate (left - n) 120 =
    ap (λ k. replicate {A = ℕ} k 120) both ∙ sym (replicate-append-replicate {A = ℕ} n (left - n) 120) ∙ ap (λ bs. bs ++ replicate (left - n) 120) (sym front) in
    let feed : List ℕ → Option Feed = λ bs. Some (record { bytes = bs; stop = stop }) in
    ap feed whole
