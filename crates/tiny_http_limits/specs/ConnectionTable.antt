-- The parts of THE CONNECTION TABLE that contracts refer to: its two limits, the number of the next connection, and the
-- open connections in order of arrival.
use Rattle.std.specs.Prelude.{◌≡◌, ℕ, ◌+◌, ◌-◌, ◌^◌, ◌≤◌, Bool, false, not, ◌||◌, ◌==◌, nat_le, if◌then◌else◌, List}
use Rattle.std.specs.Prelude.{[], ◌∷◌, ◌++◌, length, filter, count_by, Option, Some, None, option_map, Result, Ok}
use Rattle.std.specs.Prelude.{Err}
use Rattle.std.specs.List.{find}
use Rattle.std.specs.Option.{option_eq}
use Rattle.std.specs.declared.net.ip_addr.IpAddr.{IpAddr}
use Rattle.std.specs.contracts.net.ip_addr.IpAddrPartialEq.TheImpl as ip
use Rattle.tiny_http_limits.specs.declared.connection_table.Entry.{Entry}
use Rattle.tiny_http_limits.specs.declared.connection_table.Refusal.{Refusal}
use Rattle.tiny_http_limits.specs.declared.connection_table.Refusal.TheVariants.{Full, AddressFull, Memory}

-- The parts of a `ConnectionTable` that contracts refer to: the limits of connections, in all and from one address; the
-- next number; and the open connections.
pub record Connected (T : Type 0) : Type 0 where
  pub most : ℕ
  pub most_of_address : ℕ
  pub next : ℕ
  pub entries : List (Entry T)

module _ {T : Type 0} where
  -- the table with these limits and no open connection
  abbrev pub nobody : ℕ → ℕ → Connected T
  nobody most most_of_address = record { most = most; most_of_address = most_of_address; next = 0; entries = [] }

  -- whether the connection has this address
  abbrev pub has_address : IpAddr → Entry T → Bool
  has_address address entry = option_eq (ip.ghosts).eq entry.address (Some address)

  -- the number of connections that have this address
  abbrev pub count_of : IpAddr → List (Entry T) → ℕ
  count_of address entries = count_by (has_address address) entries

  -- whether the limit of connections is reached or no number is left
  abbrev pub is_closed : Connected T → Bool
  is_closed table = nat_le table.most (length table.entries) || (table.next == 2 ^ 64 - 1)

  -- whether the limit of this address is reached, if there is an address
  abbrev pub is_address_full : Connected T → Option IpAddr → Bool
  is_address_full table None = false
  is_address_full table (Some address) = nat_le table.most_of_address (count_of address table.entries)

  -- the reason why a connection from this address may not be added, or `None` if it may
  abbrev pub refusal_of : Connected T → Option IpAddr → Option Refusal
  refusal_of table address = if is_closed table then Some Full
      else if is_address_full table address then Some AddressFull else None

  -- the table with this connection added at the end, under the next number
  abbrev pub with_entry : Connected T → Option IpAddr → T → Connected T
  with_entry table address item = record table {
    next = table.next + 1;
    entries = table.entries
        ++ record { number = table.next; address = address; item = item } ∷ [];
  }

  -- THE EFFECT OF ADDING A CONNECTION: it is added under the next number; or a limit is reached, no number is left, or
  -- memory was refused, and nothing has changed.
  abbrev pub Enters : Connected T → Option IpAddr → T → Result ℕ Refusal → Connected T → Type 0
  Enters old address item (Ok number) new = (refusal_of old address ≡ None)
      × (number ≡ old.next)
      × (new ≡ with_entry old address item)
  Enters old address item (Err Memory) new = (refusal_of old address ≡ None) × (new ≡ old)
  Enters old address item (Err Full) new = (refusal_of old address ≡ Some Full) × (new ≡ old)
  Enters old address item (Err AddressFull) new = (refusal_of old address ≡ Some AddressFull) × (new ≡ old)

  -- whether the connection has this number
  abbrev pub has_number : ℕ → Entry T → Bool
  has_number number entry = entry.number == number

  -- the item of the connection with this number, if there is one
  abbrev pub item_of : ℕ → List (Entry T) → Option T
  item_of number entries = option_map (λ entry. entry.item) (find (has_number number) entries)

  -- all connections except the one with this number, in order
  abbrev pub without : ℕ → List (Entry T) → List (Entry T)
  without number entries = filter (λ entry. not (has_number number entry)) entries

  -- whether the numbers increase, the first is at least `least`, and all are less than `next`
  abbrev pub AreNumbered : ℕ → List (Entry T) → ℕ → Type 0
  AreNumbered least [] next = least ≤ next
  AreNumbered least (entry ∷ entries) next = (least ≤ entry.number) × AreNumbered (entry.number + 1) entries next

  -- THE INVARIANT OF A CONNECTION TABLE: the numbers increase and are less than the next one, and neither limit is
  -- exceeded.
  pub record IsKept (table : Connected T) : Type 0 where
    pub numbered : AreNumbered 0 table.entries table.next
    pub few : length table.entries ≤ table.most
    pub few_of_address : (address : IpAddr) → count_of address table.entries ≤ table.most_of_address
