-- Bytes written in hexadecimal.
use Rattle.std.proofs.Common.{◌≡◌, refl, sym, ap, ◌∙◌, arith, ℕ, suc, zero, ◌<◌, ◌+◌, ◌-◌, ◌^◌, ◌/◌, ◌%◌, List, [], ◌∷◌, ◌++◌, length, take, get_or, flat_map, codes, false, append-nil}
use Rattle.std.specs.Fmt.{digits, digit_glyph, padded_integral, format_spec}
use Rattle.std.proofs.lemmas.Fmt.{hex_byte as padded_byte}
use Rattle.std.proofs.lemmas.List.{take_more}
use Rattle.std.proofs.lemmas.Grind.{flat_map-append}
use Rattle.replay_script.specs.Reply.{hex_byte}

-- a digit's character
digit_is : (d : ℕ) → d < 16 → digit_glyph false d ≡ get_or (codes "0123456789abcdef") d 0
digit_is zero l = refl
digit_is (suc zero) l = refl
digit_is (suc (suc zero)) l = refl
digit_is (suc (suc (suc zero))) l = refl
digit_is (suc (suc (suc (suc zero)))) l = refl
digit_is (suc (suc (suc (suc (suc zero))))) l = refl
digit_is (suc (suc (suc (suc (suc (suc zero)))))) l = refl
digit_is (suc (suc (suc (suc (suc (suc (suc zero))))))) l = refl
digit_is (suc (suc (suc (suc (suc (suc (suc (suc zero)))))))) l = refl
digit_is (suc (suc (suc (suc (suc (suc (suc (suc (suc zero))))))))) l = refl
digit_is (suc (suc (suc (suc (suc (suc (suc (suc (suc (suc zero)))))))))) l = refl
digit_is (suc (suc (suc (suc (suc (suc (suc (suc (suc (suc (suc zero))))))))))) l = refl
digit_is (suc (suc (suc (suc (suc (suc (suc (suc (suc (suc (suc (suc zero)))))))))))) l = refl
digit_is (suc (suc (suc (suc (suc (suc (suc (suc (suc (suc (suc (suc (suc zero))))))))))))) l = refl
digit_is (suc (suc (suc (suc (suc (suc (suc (suc (suc (suc (suc (suc (suc (suc zero)))))))))))))) l = refl
digit_is (suc (suc (suc (suc (suc (suc (suc (suc (suc (suc (suc (suc (suc (suc (suc zero))))))))))))))) l = refl
digit_is (suc (suc (suc (suc (suc (suc (suc (suc (suc (suc (suc (suc (suc (suc (suc (suc d)))))))))))))))) l = absurd (omega (arith, l))

-- what `{:02x}` writes of a byte
pub byte_is : (b : ℕ) → b < 256 → padded_integral (format_spec 32 0 4 2 (2 ^ 64 - 1)) false [] (digits 16 false b) ≡ hex_byte b
byte_is b l = padded_byte false b l ∙ ap (λ d. d ∷ digit_glyph false (b % 16) ∷ []) (digit_is (b / 16) (omega arith)) ∙ ap (λ d. get_or (codes "0123456789abcdef") (b / 16) 0 ∷ d ∷ []) (digit_is (b % 16) (omega arith))

-- one byte's digits more
pub bytes_more : (bytes : List ℕ) (i : ℕ) → i < length bytes → flat_map hex_byte (take i bytes) ++ hex_byte (get_or bytes i 0) ≡ flat_map hex_byte (take (i + 1) bytes)
bytes_more bytes i l = sym (ap (flat_map hex_byte) (take_more bytes i 0 l) ∙ flat_map-append hex_byte (take i bytes) (get_or bytes i 0 ∷ []) ∙ ap (λ t. flat_map hex_byte (take i bytes) ++ t) (append-nil (hex_byte (get_or bytes i 0))))
