use Rattle.std.proofs.Common.{rules, arith, ◌≡◌, ◌+◌, ◌<◌, ◌∙◌, ap, ℕ, List, [], length, Result, Ok, inl, inr, length-take, length-drop}
use Rattle.std.specs.Prelude.{◌⊎◌}
use Rattle.std.specs.declared.io.Error.{Error}
use Rattle.tiny_http_io.specs.Outlet.{OutletState, outlet_held, outlet_writer}
use Rattle.tiny_http_io.specs.declared.buffer.TheConstants.{CAPACITY}
use Rattle.std.proofs.lemmas.Result.{err_from_is_err_and}
use Rattle.tiny_http_io.proofs.DeviceLemmas.{Took-at}
use Rattle.tiny_http_io.proofs.OutletLemmas.{failed-at}
use Rattle.tiny_http_io.proofs.outlet.Outlet.write.Goals as goal

-- after one more piece of a write of fewer bytes than the buffer has room for, all are in it
small-on : {W : Type 0} (old mid new : OutletState W) (bytes piece : List ℕ) (at n : ℕ) → at + length piece ≡ length bytes → at < length bytes → ((at ≡ 0) × (mid ≡ old)) ⊎ (outlet_held old ≡ [] → length bytes < CAPACITY → (outlet_writer mid ≡ outlet_writer old) × (at ≡ length bytes)) → (outlet_held mid ≡ [] → length piece < CAPACITY → (outlet_writer new ≡ outlet_writer mid) × (◌≡◌ {A = Result ℕ Error} (Ok n) (Ok (length piece)))) → ((at + n ≡ 0) × (new ≡ old)) ⊎ (outlet_held old ≡ [] → length bytes < CAPACITY → (outlet_writer new ≡ outlet_writer old) × (at + n ≡ length bytes))
small-on old mid new bytes piece at n whole less (inl h) small = inr (λ none few.
    let short : length piece < CAPACITY = omega (arith, few, whole) in
    let k = small (ap outlet_held h.1 ∙ none) short in
    let n_is : n ≡ length piece = cc in
    let sum : at + n ≡ length bytes = omega (arith, n_is, whole) in
    (k.0 ∙ ap outlet_writer h.1, sum))
small-on old mid new bytes piece at n whole less (inr h) small = inr (λ none few. let all = (h none few).1 in absurd (omega (arith, less, all)))

pub loop-at-preserved : goal.loop-at-preserved
loop-at-preserved g c =
    let h = c.in_ok-at.ensures.puts in
    record {
      within = grind (arith, h.0, length-take, length-drop);
      taken = Took-at _ _ _ c.args.bytes.now c.loop-at.at c.in_ok-at.field-0 c.loop-at.invariant.within h.0 c.loop-at.invariant.taken h.2;
      small = small-on _ _ _ c.args.bytes.now _ c.loop-at.at c.in_ok-at.field-0 (grind (arith, c.loop-at.invariant.within, length-take, length-drop)) (search rules) c.loop-at.invariant.small c.in_ok-at.ensures.small;
      stays = c.in_ok-at.ensures.stays ∙ c.loop-at.invariant.stays;
    }

pub returns-in_err-at-clause-puts : goal.returns-in_err-at-clause-puts
returns-in_err-at-clause-puts g c =
    let p = err_from_is_err_and c.from_residual.result c.from_residual.ensures.1 in
    rw (p.1, p.2) (failed-at _ _ _ c.args.bytes.now c.loop-at.at _ c.loop-at.invariant.taken c.in_err-at.ensures.puts)
