-- Where the port stands in a host with one.
use Rattle.std.proofs.Common.{◌≡◌, refl, sym, ap, ◌∙◌, subst, ℕ, suc, Bool, true, false, ◌&&◌, List, [], ◌∷◌, ◌++◌, length, take, drop, inl, inr, arith, get_or, length-append, ◌+◌, ◌-◌, ◌≤◌}
use Rattle.std.specs.Prelude.{nat_lt, slice_range, IsTrue}
use Rattle.std.specs.List.{list_all}
use Rattle.std.specs.Char.{is_ascii_digit}
use Rattle.std.specs.Str.{all_ascii_digits}
use Rattle.tiny_http_head.specs.Heads.{length_of}
use Rattle.tiny_http_head.proofs.FirstByte.{contrary, not-without}
use Rattle.tiny_http_text.specs.Bytes.{HasNo, colon}
use Rattle.std.proofs.lemmas.List.{drop_all}
use Rattle.std.proofs.Math.Seq.{take-append_seam}
use Rattle.tiny_http_text.proofs.BytesTrimming.{cut-at}
use Rattle.tiny_http_standard_head.specs.Hosts.{is_address_byte, IsBracketedAddress, IsHost, HostAndPort, IsHostWithPort, IsAuthority, is_port_number}

-- the last such byte stands at one place
pub one-last : (c : ℕ) (a b x y : List ℕ) → HasNo c x → HasNo c y → a ++ c ∷ x ≡ b ++ c ∷ y → (a ≡ b) × (x ≡ y)
one-last c [] [] x y hx hy e = (refl, cc)
one-last c [] (v ∷ b) x y hx hy e = let s : x ≡ b ++ c ∷ y = cc in absurd (not-without c b y (subst (HasNo c) s hx))
one-last c (u ∷ a) [] x y hx hy e = let s : y ≡ a ++ c ∷ x = cc in absurd (not-without c a x (subst (HasNo c) s hy))
one-last c (u ∷ a) (v ∷ b) x y hx hy e =
    let rest : a ++ c ∷ x ≡ b ++ c ∷ y = cc in
    let first : u ≡ v = cc in
    let r = one-last c a b x y hx hy rest in
    (rw (first, r.0) refl, r.1)

-- digits have no colon
pub digits-no_colon : (port : List ℕ) → list_all is_ascii_digit port ≡ true → HasNo colon port
digits-no_colon [] h = refl
digits-no_colon (d ∷ ds) h = grind (arith, h, digits-no_colon ds)

-- what stands between the first byte and the last
abbrev pub inside : List ℕ → List ℕ
inside text = slice_range text 1 (length text - 1)

inside-brackets : (address : List ℕ) → inside (91 ∷ (address ++ 93 ∷ [])) ≡ address
inside-brackets address =
    let n : length (address ++ 93 ∷ []) ≡ length address + 1 = length-append address (93 ∷ []) in
    let k : suc (length (address ++ 93 ∷ [])) - 1 - 1 ≡ length address = omega (arith, n) in
    ap (λ (m : ℕ). take m (address ++ 93 ∷ [])) k ∙ take-append_seam address (93 ∷ [])

in-brackets : (text : List ℕ) → 3 ≤ length text → get_or text 0 0 ≡ 91 → get_or text (length text - 1) 0 ≡ 93 → text ≡ 91 ∷ (inside text ++ 93 ∷ [])
in-brackets [] n first last = absurd (omega arith)
in-brackets (b ∷ []) n first last = absurd (omega arith)
in-brackets (b ∷ c ∷ cs) n first last =
    let end : suc (length cs) ≡ suc (suc (length cs)) - 1 = omega arith in
    let k : suc (suc (length cs)) - 1 - 1 ≡ length cs = omega arith in
    let at : get_or (c ∷ cs) (length cs) 0 ≡ 93 = ap (λ (i : ℕ). get_or (b ∷ c ∷ cs) i 0) end ∙ last in
    let cut : c ∷ cs ≡ take (length cs) (c ∷ cs) ++ 93 ∷ drop (length cs + 1) (c ∷ cs) = cut-at 93 (c ∷ cs) (length cs) (omega arith) at in
    let none : drop (length cs + 1) (c ∷ cs) ≡ [] = drop_all (length cs + 1) (c ∷ cs) (omega arith) in
    let is : b ≡ 91 = first in
    let whole : c ∷ cs ≡ take (length cs) (c ∷ cs) ++ 93 ∷ [] = cut ∙ ap (λ (r : List ℕ). take (length cs) (c ∷ cs) ++ 93 ∷ r) none in
    ap (λ (x : ℕ). x ∷ c ∷ cs) is ∙ ap (λ (r : List ℕ). 91 ∷ r) (whole ∙ ap (λ (m : ℕ). take m (c ∷ cs) ++ 93 ∷ []) (sym k))

literal-address : (text : List ℕ) (l : IsBracketedAddress text) → inside text ≡ l.address
literal-address text l = ap inside l.joins ∙ inside-brackets l.address

-- an address in brackets, by its first and last byte
pub literal-is : (text : List ℕ) → 3 ≤ length text → get_or text 0 0 ≡ 91 → get_or text (length text - 1) 0 ≡ 93 → (result : Bool) → result ≡ list_all is_address_byte (inside text)
    → (IsTrue result → IsBracketedAddress text) × (IsBracketedAddress text → IsTrue result)
literal-is text n first last result is = (
  (λ yes. record {
    address = inside text;
    joins = in-brackets text n first last;
    not_empty = λ empty. let short : length (inside text) ≡ 0 = ap length empty in grind (arith, short, n);
    bytes = sym is ∙ yes;
  }),
  (λ l. is ∙ ap (list_all is_address_byte) (literal-address text l) ∙ l.bytes),
)

-- the port of a text with a colon stands behind the last one
pub one-port : (text host port : List ℕ) → text ≡ host ++ colon ∷ port → HasNo colon port → (h p : List ℕ) → HostAndPort text h p → IsHost host × IsTrue (list_all is_ascii_digit port) × (p ≡ port)
one-port text host port joins last h p hp =
    let same = one-last colon h host p port (digits-no_colon p hp.digits) last (sym hp.joins ∙ joins) in
    (subst IsHost same.0 hp.is_host, subst (λ (x : List ℕ). IsTrue (list_all is_ascii_digit x)) same.1 hp.digits, same.1)

pub host-port : (text host port : List ℕ) → (IsHost text → ⊥) → text ≡ host ++ colon ∷ port → HasNo colon port → IsHostWithPort text → IsHost host × IsTrue (list_all is_ascii_digit port)
host-port text host port unlike joins last v = elim v [
  | inl is ↦ absurd (unlike is)
  | inr w ↦ let r = one-port text host port joins last w.0 w.1 w.2 in (r.0, r.1)
]

-- nothing is no host
pub no-empty_host : IsHostWithPort [] → ⊥
no-empty_host v = elim v [
  | inl host ↦ elim host [ inl a ↦ by a.address a.joins | inr name ↦ name.0 refl ]
  | inr w ↦ cut w.0 w.1 w.2.joins
]
  where
    by : (address : List ℕ) → [] ≡ 91 ∷ (address ++ 93 ∷ []) → ⊥
    by address e = cc

    cut : (host port : List ℕ) → [] ≡ host ++ colon ∷ port → ⊥
    cut [] port e = cc
    cut (h ∷ hs) port e = cc

-- without a colon there is no port
pub no-port : (text : List ℕ) → HasNo colon text → (h p : List ℕ) → HostAndPort text h p → ⊥
no-port text without h p hp = not-without colon h p (subst (HasNo colon) hp.joins without)

-- a host with a port from 1 to 65535, by its last colon
pub authority-port : (text host port : List ℕ) → text ≡ host ++ colon ∷ port → HasNo colon port → IsAuthority text → IsHost host × IsTrue (is_port_number (length_of port))
authority-port text host port joins last a =
    let r = one-port text host port joins last a.0 a.1 a.2 in
    (r.0, subst (λ (x : List ℕ). IsTrue (is_port_number (length_of x))) r.2 a.3)

-- what has a number has digits alone
pub number-digits : (port : List ℕ) → is_port_number (length_of port) ≡ true → list_all is_ascii_digit port ≡ true
number-digits port h = by (nat_lt 0 (length port)) (all_ascii_digits port) refl refl
  where
    all-digits : (ds : List ℕ) → all_ascii_digits ds ≡ list_all is_ascii_digit ds
    all-digits [] = refl
    all-digits (d ∷ ds) = ap (λ (x : Bool). is_ascii_digit d && x) (all-digits ds)

    by : (some digits : Bool) → nat_lt 0 (length port) ≡ some → all_ascii_digits port ≡ digits → list_all is_ascii_digit port ≡ true
    by true true n d = sym (all-digits port) ∙ d
    by true false n d = contrary false (rw (n, d) at h) refl
    by false digits n d = contrary false (rw n at h) refl
