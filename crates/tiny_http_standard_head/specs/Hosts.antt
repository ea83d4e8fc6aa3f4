-- Hosts and ports (RFC 3986, section 3.2; RFC 9112, section 3.2).
use Rattle.std.specs.Prelude.{◌≡◌, ◌≢◌, ℕ, ◌⊎◌, Bool, true, false, ◌&&◌, ◌||◌, ◌==◌, nat_lt, List, [], ◌∷◌, ◌++◌}
use Rattle.std.specs.Prelude.{Option, Some, None, IsTrue, codes}
use Rattle.std.specs.List.{list_all, list_any}
use Rattle.std.specs.Char.{is_ascii_alphanumeric, is_ascii_digit, is_ascii_hexdigit}
use Rattle.tiny_http_text.specs.Bytes.{colon, point}
use Rattle.tiny_http_head.specs.Heads.{length_of}

abbrev pub percent : ℕ
percent = 37

-- whether the text begins with two hexadecimal digits
abbrev pub begins_with_two_hexadecimal_digits : List ℕ → Bool
begins_with_two_hexadecimal_digits [] = false
begins_with_two_hexadecimal_digits (a ∷ []) = false
begins_with_two_hexadecimal_digits (a ∷ b ∷ bs) = is_ascii_hexdigit a && is_ascii_hexdigit b

-- whether a byte is allowed unencoded in a registered name
abbrev pub is_registered_name_byte : ℕ → Bool
is_registered_name_byte b = is_ascii_alphanumeric b || list_any (λ c. c == b) (codes "-._~!$&'()*+,;=")

-- whether the text is a reg-name: bytes that are allowed unencoded, and percent signs followed by two hexadecimal
-- digits
abbrev pub is_registered_name : List ℕ → Bool
is_registered_name [] = true
is_registered_name (b ∷ bs) =
    (is_registered_name_byte b || (b == percent && begins_with_two_hexadecimal_digits bs)) && is_registered_name bs

-- whether a byte is allowed in a bracketed address
abbrev pub is_address_byte : ℕ → Bool
is_address_byte b = is_ascii_hexdigit b || (b == colon || b == point)

-- whether the text is a bracketed address, which is accepted in place of an IP-literal: one or more hexadecimal digits,
-- colons and points in brackets, not validated further
pub record IsBracketedAddress (text : List ℕ) : Type 0 where
  pub address : List ℕ
  pub joins : text ≡ codes "[" ++ address ++ codes "]"
  pub not_empty : address ≢ []
  pub bytes : IsTrue (list_all is_address_byte address)

-- whether the text is a uri-host that isn't empty: a bracketed address or a registered name
abbrev pub IsHost : List ℕ → Type 0
IsHost text = IsBracketedAddress text ⊎ ((text ≢ []) × IsTrue (is_registered_name text))

-- whether the text is uri-host ":" port, where the port may have no digits
pub record HostAndPort (text host port : List ℕ) : Type 0 where
  pub joins : text ≡ host ++ colon ∷ port
  pub is_host : IsHost host
  pub digits : IsTrue (list_all is_ascii_digit port)

-- whether the text is uri-host [ ":" port ]: a host with or without a port
abbrev pub IsHostWithPort : List ℕ → Type 0
IsHostWithPort text = IsHost text ⊎ ((host : List ℕ) × (port : List ℕ) × HostAndPort text host port)

-- whether the text is a valid Host value: empty, or a host with or without a port
abbrev pub IsHostValue : List ℕ → Type 0
IsHostValue value = (value ≡ []) ⊎ IsHostWithPort value

-- whether the number is present and from 1 to 65535
abbrev pub is_port_number : Option ℕ → Bool
is_port_number None = false
is_port_number (Some n) = nat_lt 0 n && nat_lt n 65536

-- whether the target is in authority-form, the form for CONNECT: a host, and a port from 1 to 65535
abbrev pub IsAuthority : List ℕ → Type 0
IsAuthority target =
    (host : List ℕ) × (port : List ℕ) × HostAndPort target host port × IsTrue (is_port_number (length_of port))
