-- A client that leaves, and one that comes, in the list of those who are connected.
use Prim.Native.Nat.{suc}
use Rattle.std.proofs.Common.{◌≡◌, ℕ, ◌+◌, ◌-◌, ◌^◌, ◌<◌, ◌≤◌, Bool, true, false, List, [], ◌∷◌, ◌++◌, length, Some, None, refl, ap, arith, sym, ◌∙◌, subst, cond, length-append}
use Rattle.std.proofs.lemmas.List.Sums.{sum_by-append, sum_by-cons, length-filter, count_by-le-length}
use Rattle.std.proofs.lemmas.List.Filters.{sum_by-filter_both}
use Rattle.std.specs.Prelude.{Option, option_map, not, count_by, position, slice_index_or, remove}
use Rattle.std.specs.List.{find, position_or_len}
use Rattle.std.specs.Option.{option_eq}
use Rattle.std.specs.Cmp.{IsEquivalence}
use Rattle.std.specs.Cmp.Lexicographic.{options_equiv}
use Rattle.std.specs.declared.net.ip_addr.IpAddr.{IpAddr}
use Rattle.std.specs.contracts.net.ip_addr.IpAddrPartialEq.TheImpl as ip
use Rattle.std.specs.contracts.net.ip_addr.IpAddrEq.TheImpl.Laws.{laws-law}
use Rattle.tiny_http_limits.specs.Headcount.{CountsIn, CountsOut}
use Rattle.tiny_http_limits.specs.declared.connection_table.Entry.{Entry}
use Rattle.tiny_http_limits.specs.ConnectionTable.{Connected, has_number, has_address, count_of, is_address_full, with_entry, item_of, without, AreNumbered, IsKept}

-- two addresses that are equal stand alike to each other one
alike : (x y z : Option IpAddr) → option_eq (ip.ghosts).eq x y ≡ true → option_eq (ip.ghosts).eq z x ≡ option_eq (ip.ghosts).eq z y
alike x y z e = let eq : IsEquivalence (option_eq (ip.ghosts).eq) = options_equiv laws-law in eq.symm z x ∙ (eq.congr x y z e ∙ eq.symm y z)

-- who has an equal address has one
of-one : (o : Option IpAddr) (a : IpAddr) → option_eq (ip.ghosts).eq o (Some a) ≡ true → (b : IpAddr) × (o ≡ Some b) × (option_eq (ip.ghosts).eq (Some b) (Some a) ≡ true)
of-one None a e = cc
of-one (Some b) a e = (b, refl, e)

-- a headcount that has room is one more, and one that is not 0 one less
pub one-more : (old new : ℕ) (b : Bool) → CountsIn old b new → old < 2 ^ 64 - 1 → new ≡ old + 1
one-more old new true c room = c.1
one-more old new false c room = absurd (omega (arith, c.0, room))

pub one-less : (old new : ℕ) (b : Bool) → CountsOut old b new → 0 < old → new ≡ old - 1
one-less old new true c some = c.1
one-less old new false c some = absurd (omega (arith, c.0, some))

module _ {T : Type 0} where
  -- the place of a number, where it is found and where it is not
  pub at-place : (p : Entry T → Bool) (gs : List (Entry T)) (at : ℕ) → position p gs ≡ Some at → (position_or_len p gs < length gs) × (at ≡ position_or_len p gs)
  at-place p gs at e = grind arith

  pub no-place : (p : Entry T → Bool) (gs : List (Entry T)) → position p gs ≡ None → length gs ≤ position_or_len p gs
  no-place p gs e = grind arith

  -- nobody has the number: nobody is found, and all stay
  pub nobody-found : (n : ℕ) (gs : List (Entry T)) → length gs ≤ position_or_len (has_number n) gs → find (has_number n) gs ≡ None
  nobody-found n [] h = refl
  nobody-found n (g ∷ gs) h = grind (arith, nobody-found n gs)

  pub all-stay : (n : ℕ) (gs : List (Entry T)) → length gs ≤ position_or_len (has_number n) gs → without n gs ≡ gs
  all-stay n [] h = refl
  all-stay n (g ∷ gs) h = grind (arith, all-stay n gs)

  -- so they do where all numbers are greater
  pub greater-stay : (n least next : ℕ) (gs : List (Entry T)) → AreNumbered least gs next → n < least → without n gs ≡ gs
  greater-stay n least next [] a h = refl
  greater-stay n least next (g ∷ gs) a h = let more : n < g.number + 1 = omega (arith, a.0, h) in grind (arith, greater-stay n (g.number + 1) next gs a.1 more, a.0, h)

  remove-cons : (g : Entry T) (gs : List (Entry T)) (k : ℕ) → remove (g ∷ gs) (1 + k) ≡ g ∷ remove gs k
  remove-cons g gs k = let one : 1 + k ≡ suc k = omega arith in ap (remove (g ∷ gs)) one

  -- the one at the place goes
  pub one-goes : (n least next : ℕ) (gs : List (Entry T)) → AreNumbered least gs next → position_or_len (has_number n) gs < length gs → remove gs (position_or_len (has_number n) gs) ≡ without n gs
  one-goes n least next [] a h = absurd (omega (arith, h))
  one-goes n least next (g ∷ gs) a h =
      let place = position_or_len (has_number n) gs in
      (elim (has_number n g) as (λ b. has_number n g ≡ b → cond (not b) (1 + place) 0 < length (g ∷ gs) → remove (g ∷ gs) (cond (not b) (1 + place) 0) ≡ cond (not b) (g ∷ without n gs) (without n gs)) [
        | true ↦ λ is lt. (let less : n < g.number + 1 = grind (arith, is) in sym (greater-stay n (g.number + 1) next gs a.1 less))
        | false ↦ λ is lt. remove-cons g gs place ∙ ap (λ r. g ∷ r) (one-goes n (g.number + 1) next gs a.1 (omega (arith, lt)))
      ]) refl h

  -- and is found
  pub one-found : (n : ℕ) (gs : List (Entry T)) (d : Entry T) → position_or_len (has_number n) gs < length gs → find (has_number n) gs ≡ Some (slice_index_or gs (position_or_len (has_number n) gs) d)
  one-found n [] d h = absurd (omega (arith, h))
  one-found n (g ∷ gs) d h = grind (arith, one-found n gs d)

  -- the same, of a census
  pub gone : (n at : ℕ) (table : Connected T) (new : List (Entry T)) → IsKept table → Some at ≡ position (has_number n) table.entries → new ≡ remove table.entries at → new ≡ without n table.entries
  gone n at table new k e is =
      let place = at-place (has_number n) table.entries at (sym e) in
      is ∙ (ap (remove table.entries) place.1 ∙ one-goes n 0 table.next table.entries k.numbered place.0)

  pub its-item : (n at : ℕ) (gs : List (Entry T)) (entry : Entry T) → Some at ≡ position (has_number n) gs → entry ≡ slice_index_or gs at entry → Some entry.item ≡ item_of n gs
  its-item n at gs entry e is =
      let place = at-place (has_number n) gs at (sym e) in
      ap (option_map (λ x. x.item)) (ap Some (is ∙ ap (λ k. slice_index_or gs k entry) place.1) ∙ sym (one-found n gs entry place.0))

  -- numbers may begin earlier
  pub numbered-from : (less least next : ℕ) (gs : List (Entry T)) → less ≤ least → AreNumbered least gs next → AreNumbered less gs next
  numbered-from less least next [] h a = omega (arith, h, a)
  numbered-from less least next (g ∷ gs) h a = (omega (arith, h, a.0), a.1)

  -- those that stay are numbered, and no more than before
  pub numbered-without : (n least next : ℕ) (gs : List (Entry T)) → AreNumbered least gs next → AreNumbered least (without n gs) next
  numbered-without n least next [] a = a
  numbered-without n least next (g ∷ gs) a =
      let rest = numbered-without n (g.number + 1) next gs a.1 in
      elim (has_number n g) as (λ b. AreNumbered least (cond (not b) (g ∷ without n gs) (without n gs)) next) [
        | true ↦ numbered-from least (g.number + 1) next (without n gs) (omega (arith, a.0)) rest
        | false ↦ (a.0, rest)
      ]

  pub count_by-without : (q : Entry T → Bool) (n : ℕ) (gs : List (Entry T)) → count_by q (without n gs) ≤ count_by q gs
  count_by-without q n gs =
      let parts = sum_by-filter_both (λ g. not (has_number n g)) (λ g. not (not (has_number n g))) (λ g. refl) (λ g. cond (q g) 1 0) gs in
      omega (arith, parts)

  pub kept-without : (n : ℕ) (table : Connected T) → IsKept table → IsKept (record table { entries = without n table.entries })
  kept-without n table k = record {
    numbered = numbered-without n 0 table.next table.entries k.numbered;
    few = (let fewer = length-filter (λ g. not (has_number n g)) table.entries in let most = count_by-le-length (λ g. not (has_number n g)) table.entries in omega (arith, fewer, most, k.few));
    few_of_address = λ address. let fewer = count_by-without (has_address address) n table.entries in omega (arith, fewer, k.few_of_address address);
  }

  -- those that were there and one more are numbered
  pub numbered-with : (least next : ℕ) (gs : List (Entry T)) (g : Entry T) → g.number ≡ next → AreNumbered least gs next → AreNumbered least (gs ++ g ∷ []) (next + 1)
  numbered-with least next [] g e a = (omega (arith, e, a), omega (arith, e))
  numbered-with least next (x ∷ xs) g e a = (a.0, numbered-with (x.number + 1) next xs g e a.1)

  -- as many have one address as have an equal one
  pub count-alike : (a b : IpAddr) (gs : List (Entry T)) → option_eq (ip.ghosts).eq (Some a) (Some b) ≡ true → count_of a gs ≡ count_of b gs
  count-alike a b [] e = refl
  count-alike a b (g ∷ gs) e =
      let here : has_address a g ≡ has_address b g = alike (Some a) (Some b) g.address e in
      sum_by-cons (λ x. cond (has_address a x) 1 0) g gs ∙ (ap (λ v. cond v 1 0 + count_of a gs) here ∙ (ap (λ k. cond (has_address b g) 1 0 + k) (count-alike a b gs e) ∙ sym (sum_by-cons (λ x. cond (has_address b x) 1 0) g gs)))

  count-with : (a : IpAddr) (gs : List (Entry T)) (g : Entry T) → count_of a (gs ++ g ∷ []) ≡ count_of a gs + cond (has_address a g) 1 0
  count-with a gs g = sum_by-append (λ x. cond (has_address a x) 1 0) gs (g ∷ []) ∙ (let one : 0 + cond (has_address a g) 1 0 ≡ cond (has_address a g) 1 0 = omega arith in ap (λ k. count_of a gs + k) one)

  has-room : (most : ℕ) (a : IpAddr) (gs : List (Entry T)) (g : Entry T) → count_of a gs ≤ most → ((b : IpAddr) → g.address ≡ Some b → count_of b gs < most) → count_of a gs + cond (has_address a g) 1 0 ≤ most
  has-room most a gs g few room =
      (elim (has_address a g) as (λ v. has_address a g ≡ v → count_of a gs + cond v 1 0 ≤ most) [
        | true ↦ λ is. (let it = of-one g.address a is in let same = count-alike it.0 a gs it.2 in let lt = room it.0 it.1 in omega (arith, same, lt))
        | false ↦ λ is. omega (arith, few)
      ]) refl

  -- one more of an address of which there may be one more
  pub few-with : (most : ℕ) (a : IpAddr) (gs : List (Entry T)) (g : Entry T) → count_of a gs ≤ most → ((b : IpAddr) → g.address ≡ Some b → count_of b gs < most) → count_of a (gs ++ g ∷ []) ≤ most
  few-with most a gs g few room =
      let sum = count-with a gs g in
      (elim (has_address a g) as (λ v. has_address a g ≡ v → count_of a gs + cond v 1 0 ≤ most → count_of a (gs ++ g ∷ []) ≤ most) [
        | true ↦ λ is le. rw (sum, is) le
        | false ↦ λ is le. rw (sum, is) le
      ]) refl (has-room most a gs g few room)

  room-for : (table : Connected T) (address : Option IpAddr) (b : IpAddr) → is_address_full table address ≡ false → address ≡ Some b → count_of b table.entries < table.most_of_address
  room-for table None b f e = cc
  room-for table (Some a) b f e = let same : a ≡ b = cc in let lt : count_of a table.entries < table.most_of_address = grind (arith, f) in subst (λ x. count_of x table.entries < table.most_of_address) same lt

  pub kept-with : (table : Connected T) (address : Option IpAddr) (item : T) → IsKept table → length table.entries < table.most → is_address_full table address ≡ false → IsKept (with_entry table address item)
  kept-with table address item k lt f =
      let entry : Entry T = record { number = table.next; address = address; item = item } in
      record {
        numbered = numbered-with 0 table.next table.entries entry refl k.numbered;
        few = (let one = length-append table.entries (entry ∷ []) in omega (arith, one, lt));
        few_of_address = λ a. few-with table.most_of_address a table.entries entry (k.few_of_address a) (λ b e. room-for table address b f e);
      }
