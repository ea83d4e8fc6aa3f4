-- Lemmas on what is still to come of an input.
use Rattle.std.proofs.Common.{◌≡◌, ℕ, ◌+◌, ◌-◌, ◌<◌, ◌≤◌, ◌⊎◌, inl, inr, List, length, drop, Option, None, Some, refl, sym, ap, ◌∙◌, arith, length-drop, length-append}
use Rattle.std.proofs.Math.Seq.{drop-nil}
use Rattle.std.proofs.lemmas.Bool.{le-leb, lt-leb, cases_lt, cond-true, cond-false}
use Rattle.std.proofs.lemmas.List.{drop-drop, drop-append-le}
use Rattle.tiny_http_io.specs.Device.{Feed, prepend}
use Rattle.tiny_http_io.specs.declared.device.Stop.TheVariants.{End}
use Rattle.tiny_http_io.specs.ToCome.{to_come, stopped, skipped}

-- the feed from its nth byte on
abbrev pub later : ℕ → Feed → Feed
later n feed = record { bytes = drop n feed.bytes; stop = feed.stop }

pub skipped-within : (n : ℕ) (f : Feed) → n ≤ length f.bytes → skipped n f ≡ later n f
skipped-within n f le = cond-true _ (later n f) (stopped End) (le-leb n (length f.bytes) le)

pub skipped-beyond : (n : ℕ) (f : Feed) → length f.bytes < n → skipped n f ≡ stopped End
skipped-beyond n f lt = cond-false _ (later n f) (stopped End) (lt-leb n (length f.bytes) lt)

pub skipped-skipped : (a n : ℕ) (f : Feed) → skipped n (skipped a f) ≡ skipped (a + n) f
skipped-skipped a n f = elim (cases_lt (length f.bytes) a) [
  | inl past ↦ ap (skipped n) (skipped-beyond a f past) ∙ at_end n ∙ sym (skipped-beyond (a + n) f (omega arith))
  | inr in_it ↦ ap (skipped n) (skipped-within a f in_it) ∙ inside in_it (cases_lt (length f.bytes) (a + n))
]
  where
    at_end : (n : ℕ) → skipped n (stopped End) ≡ stopped End
    at_end n = elim (cases_lt 0 n) [
      | inl more ↦ skipped-beyond n (stopped End) more
      | inr none ↦ skipped-within n (stopped End) none ∙ (let P : List ℕ → Feed = λ bs. record { bytes = bs; stop = End } in ap P (drop-nil n))
    ]

    inside : a ≤ length f.bytes → (length f.bytes < a + n) ⊎ (a + n ≤ length f.bytes) → skipped n (later a f) ≡ skipped (a + n) f
    inside in_it (inl past) = skipped-beyond n (later a f) (rw length-drop (omega arith)) ∙ sym (skipped-beyond (a + n) f past)
    inside in_it (inr all) =
        skipped-within n (later a f) (rw length-drop (omega arith))
        ∙ (let P : List ℕ → Feed = λ bs. record { bytes = bs; stop = f.stop } in ap P (drop-drop n a f.bytes))
        ∙ sym (skipped-within (a + n) f all)

pub skipped-prepend : (n : ℕ) (held : List ℕ) (f : Feed) → n ≤ length held → skipped n (prepend held f) ≡ prepend (drop n held) f
skipped-prepend n held f le =
    skipped-within n (prepend held f) (rw length-append (omega arith))
    ∙ (let P : List ℕ → Feed = λ bs. record { bytes = bs; stop = f.stop } in ap P (drop-append-le n held f.bytes le))

pub to_come-passed : (s n : ℕ) (held : List ℕ) (f : Option Feed) → n ≤ s → n ≤ length held → to_come (s - n) (drop n held) f ≡ to_come s held f
to_come-passed s n held None le within = refl
to_come-passed s n held (Some f) le within =
    let e : n + (s - n) ≡ s = omega arith in
    ap Some (ap (skipped (s - n)) (sym (skipped-prepend n held f within)) ∙ skipped-skipped n (s - n) (prepend held f) ∙ ap (λ k. skipped k (prepend held f)) e)
