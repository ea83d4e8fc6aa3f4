-- Tokens, byte by byte.
use Rattle.std.proofs.Common.{◌≡◌, refl, ℕ, Bool, true, false, List, [], ◌∷◌, length, arith}
use Rattle.std.specs.Prelude.{nat_lt}
use Rattle.std.specs.Char.{is_ascii_alphanumeric}
use Rattle.std.specs.List.{list_all}
use Rattle.std.proofs.lemmas.Bool.{and_parts}
use Rattle.std.proofs.lemmas.Bool.Decides.{nat_tests}
use Rattle.httparse.specs.Grammar.{is_token_byte, is_token}
use Rattle.tiny_http_text.specs.Bytes.{is_ascii, AreAscii}

-- each byte of a token is one that may stand there
pub token-bytes : (text : List ℕ) → is_token text ≡ true → list_all is_token_byte text ≡ true
token-bytes text h = (and_parts (nat_lt 0 (length text)) (list_all is_token_byte text) h).1

-- a token is ASCII
token-below : (b : ℕ) → is_token_byte b ≡ true → is_ascii b ≡ true
unfolding is_token_byte
token-below b e = by (is_ascii_alphanumeric b) refl
  where
    by : (t : Bool) → is_ascii_alphanumeric b ≡ t → is_ascii b ≡ true
    by true h = grind (nat_tests, arith, h)
    by false h = grind (nat_tests, arith, e, h)

tokens-below : (bs : List ℕ) → list_all is_token_byte bs ≡ true → AreAscii bs
tokens-below [] e = refl
tokens-below (b ∷ bs) e = let k = and_parts (is_token_byte b) (list_all is_token_byte bs) e in rw (token-below b k.0, tokens-below bs k.1) refl

pub token_ascii : (text : List ℕ) → is_token text ≡ true → AreAscii text
token_ascii text h = tokens-below text (token-bytes text h)
