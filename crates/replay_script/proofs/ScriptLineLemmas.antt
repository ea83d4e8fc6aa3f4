-- What the grammar of a line says of its parts.
use Rattle.std.proofs.Common.{◌≡◌, ◌≢◌, refl, sym, ap, ◌∙◌, arith, lit<, ℕ, ◌<◌, ◌≤◌, ◌^◌, List, ◌++◌, length, get_or, codes, drop, Bool, true, false, Option, Some, Result, Ok, Err, inl, inr, Bor}
use Rattle.std.specs.Option.{MatchOption}
use Rattle.std.specs.Result.{OkIff, MatchResult, is_ok, result_ok}
use Rattle.std.specs.Str.Parse.{IsNumeral, AllDigits, digits_value}
use Rattle.std.proofs.lemmas.Str.Parse.{IsNumeralModel, numerals_by_value, tells_digits, not_in_digits}
use Rattle.std.proofs.lemmas.Str.Pattern.{IsSplitOnceResult, split_after}
use Rattle.std.specs.Str.{bytes_eq}
use Rattle.std.specs.Str.Pattern.{LacksTextAt}
use Rattle.replay_script.specs.ScriptLine.{WritesNumber, BeginsByNumber, BeginsByNumbers, WritesCount, IsContent, IsAnswer, SaysSome, IsDate, WritesRead}
use Rattle.replay_script.specs.declared.line.ScriptLine.TheVariants.{Blank, Now, Ask, AsReader, Read, Respond, Writer, Write, Flush, Upgrade, Finish, Drop}
use Rattle.replay_script.specs.declared.line.Content.TheVariants.{Text, Empty, Stream, Broken}

script_line-own : IsNumeralModel (AllDigits 10) (digits_value 10)
script_line-own = numerals_by_value (AllDigits 10) tells_digits

no_space : (ds : List ℕ) → AllDigits 10 ds → (i : ℕ) → i < length ds → get_or ds i 0 ≢ 32
no_space ds h = not_in_digits script_line-own ds 32 h (λ r. let low : 48 ≤ 32 = r.0 in omega arith)

-- a text that begins by a number is cut after the digits
pub number_cut : (text rest : List ℕ) (n : ℕ) (r : Option (Bor (List ℕ) × Bor (List ℕ))) → IsSplitOnceResult 32 text r → (b : BeginsByNumber text n rest) → MatchOption r ⊥ (λ x. (x.0.now ≡ b.0) × (x.1.now ≡ rest))
number_cut text rest n r h b = split_after 32 text b.0 rest r h (lit< tt) b.1 (no_space b.0 b.2.0.1)

-- the cut digits are read
pub number_read : (ds es : List ℕ) (n : ℕ) → es ≡ ds → WritesNumber ds n → n < 2 ^ 64 → IsNumeral 10 es × (digits_value 10 es < 2 ^ 64) × (digits_value 10 es ≡ n)
number_read ds es n e w l = rw e (w.0, rw w.1 l, w.1)

-- the digits of a count are read
pub count_read : (ds es : List ℕ) (n : ℕ) → es ≡ ds → WritesCount ds n → IsNumeral 10 es × (digits_value 10 es < 2 ^ 16)
count_read ds es n e w = rw e (w.0.0, rw w.0.1 w.1)

-- a text that begins by `now` doesn't begin by `respond`
no_respond : (text rest words : List ℕ) → text ≡ codes "now " ++ rest → text ≡ codes "respond " ++ words → ⊥
no_respond text rest words e h = let first : ◌≡◌ {A = ℕ} 110 114 = ap (λ bs. get_or bs 0 0) (sym e ∙ h) in omega arith

-- a line that begins by `now` says a date, if it says anything
pub only_now : (text rest : List ℕ) → text ≡ codes "now " ++ rest → SaysSome text → IsDate rest
only_now text rest e (Blank, inl h) = absurd (let first : ◌≡◌ {A = ℕ} 110 0 = ap (λ bs. get_or bs 0 0) (sym e ∙ h) in omega arith)
only_now text rest e (Blank, inr h) = absurd (let first : ◌≡◌ {A = ℕ} 110 35 = ap (λ bs. get_or bs 0 0) (sym e ∙ h.1) in omega arith)
only_now text rest e (Now date, d) = let same : rest ≡ d.0 = ap (drop 4) (sym e ∙ d.1) in (date, rw same d.2)
only_now text rest e (Ask, h) = absurd (let first : ◌≡◌ {A = ℕ} 110 97 = ap (λ bs. get_or bs 0 0) (sym e ∙ h) in omega arith)
only_now text rest e (AsReader number, h) = absurd (let first : ◌≡◌ {A = ℕ} 110 97 = ap (λ bs. get_or bs 0 0) (sym e ∙ h.1) in omega arith)
only_now text rest e (Read number count, h) = absurd (let first : ◌≡◌ {A = ℕ} 110 114 = ap (λ bs. get_or bs 0 0) (sym e ∙ h.1) in omega arith)
only_now text rest e (Respond number status content, h) = absurd (no_respond text rest h.0 e h.1)
only_now text rest e (Writer number, h) = absurd (let first : ◌≡◌ {A = ℕ} 110 119 = ap (λ bs. get_or bs 0 0) (sym e ∙ h.1) in omega arith)
only_now text rest e (Write number written, h) = absurd (let first : ◌≡◌ {A = ℕ} 110 119 = ap (λ bs. get_or bs 0 0) (sym e ∙ h.1) in omega arith)
only_now text rest e (Flush number, h) = absurd (let first : ◌≡◌ {A = ℕ} 110 102 = ap (λ bs. get_or bs 0 0) (sym e ∙ h.1) in omega arith)
only_now text rest e (Upgrade number status protocol, h) = absurd (let first : ◌≡◌ {A = ℕ} 110 117 = ap (λ bs. get_or bs 0 0) (sym e ∙ h.1) in omega arith)
only_now text rest e (Finish number, h) = absurd (let first : ◌≡◌ {A = ℕ} 110 102 = ap (λ bs. get_or bs 0 0) (sym e ∙ h.1) in omega arith)
only_now text rest e (Drop number, h) = absurd (let first : ◌≡◌ {A = ℕ} 110 100 = ap (λ bs. get_or bs 0 0) (sym e ∙ h.1) in omega arith)

-- the words are some read
abbrev pub IsReadWords : List ℕ → Type 0
IsReadWords words = (number : ℕ) × (count : ℕ) × WritesRead words number count

no_respond_read : (text rest words : List ℕ) → text ≡ codes "read " ++ rest → text ≡ codes "respond " ++ words → ⊥
no_respond_read text rest words e h = let third : ◌≡◌ {A = ℕ} 97 115 = ap (λ bs. get_or bs 2 0) (sym e ∙ h) in omega arith

-- a line that begins by `read` says a read, if it says anything
pub only_read : (text rest : List ℕ) → text ≡ codes "read " ++ rest → SaysSome text → IsReadWords rest
only_read text rest e (Blank, inl h) = absurd (let first : ◌≡◌ {A = ℕ} 114 0 = ap (λ bs. get_or bs 0 0) (sym e ∙ h) in omega arith)
only_read text rest e (Blank, inr h) = absurd (let first : ◌≡◌ {A = ℕ} 114 35 = ap (λ bs. get_or bs 0 0) (sym e ∙ h.1) in omega arith)
only_read text rest e (Now date, h) = absurd (let first : ◌≡◌ {A = ℕ} 114 110 = ap (λ bs. get_or bs 0 0) (sym e ∙ h.1) in omega arith)
only_read text rest e (Ask, h) = absurd (let first : ◌≡◌ {A = ℕ} 114 97 = ap (λ bs. get_or bs 0 0) (sym e ∙ h) in omega arith)
only_read text rest e (AsReader number, h) = absurd (let first : ◌≡◌ {A = ℕ} 114 97 = ap (λ bs. get_or bs 0 0) (sym e ∙ h.1) in omega arith)
only_read text rest e (Read number count, h) = let same : rest ≡ h.0 = ap (drop 5) (sym e ∙ h.1) in (number, count, rw same h.2)
only_read text rest e (Respond number status content, h) = absurd (no_respond_read text rest h.0 e h.1)
only_read text rest e (Writer number, h) = absurd (let first : ◌≡◌ {A = ℕ} 114 119 = ap (λ bs. get_or bs 0 0) (sym e ∙ h.1) in omega arith)
only_read text rest e (Write number written, h) = absurd (let first : ◌≡◌ {A = ℕ} 114 119 = ap (λ bs. get_or bs 0 0) (sym e ∙ h.1) in omega arith)
only_read text rest e (Flush number, h) = absurd (let first : ◌≡◌ {A = ℕ} 114 102 = ap (λ bs. get_or bs 0 0) (sym e ∙ h.1) in omega arith)
only_read text rest e (Upgrade number status protocol, h) = absurd (let first : ◌≡◌ {A = ℕ} 114 117 = ap (λ bs. get_or bs 0 0) (sym e ∙ h.1) in omega arith)
only_read text rest e (Finish number, h) = absurd (let first : ◌≡◌ {A = ℕ} 114 102 = ap (λ bs. get_or bs 0 0) (sym e ∙ h.1) in omega arith)
only_read text rest e (Drop number, h) = absurd (let first : ◌≡◌ {A = ℕ} 114 100 = ap (λ bs. get_or bs 0 0) (sym e ∙ h.1) in omega arith)

-- a line that begins by `respond` says an answer, if it says anything
pub only_respond : (text rest : List ℕ) → text ≡ codes "respond " ++ rest → SaysSome text → IsAnswer rest
only_respond text rest e (Blank, inl h) = absurd (let first : ◌≡◌ {A = ℕ} 114 0 = ap (λ bs. get_or bs 0 0) (sym e ∙ h) in omega arith)
only_respond text rest e (Blank, inr h) = absurd (let first : ◌≡◌ {A = ℕ} 114 35 = ap (λ bs. get_or bs 0 0) (sym e ∙ h.1) in omega arith)
only_respond text rest e (Now date, h) = absurd (let first : ◌≡◌ {A = ℕ} 114 110 = ap (λ bs. get_or bs 0 0) (sym e ∙ h.1) in omega arith)
only_respond text rest e (Ask, h) = absurd (let first : ◌≡◌ {A = ℕ} 114 97 = ap (λ bs. get_or bs 0 0) (sym e ∙ h) in omega arith)
only_respond text rest e (AsReader number, h) = absurd (let first : ◌≡◌ {A = ℕ} 114 97 = ap (λ bs. get_or bs 0 0) (sym e ∙ h.1) in omega arith)
only_respond text rest e (Read number count, h) = absurd (no_respond_read text h.0 rest h.1 e)
only_respond text rest e (Respond number status content, h) = let same : rest ≡ h.0 = ap (drop 8) (sym e ∙ h.1) in (number, status, content, rw same h.2)
only_respond text rest e (Writer number, h) = absurd (let first : ◌≡◌ {A = ℕ} 114 119 = ap (λ bs. get_or bs 0 0) (sym e ∙ h.1) in omega arith)
only_respond text rest e (Write number written, h) = absurd (let first : ◌≡◌ {A = ℕ} 114 119 = ap (λ bs. get_or bs 0 0) (sym e ∙ h.1) in omega arith)
only_respond text rest e (Flush number, h) = absurd (let first : ◌≡◌ {A = ℕ} 114 102 = ap (λ bs. get_or bs 0 0) (sym e ∙ h.1) in omega arith)
only_respond text rest e (Upgrade number status protocol, h) = absurd (let first : ◌≡◌ {A = ℕ} 114 117 = ap (λ bs. get_or bs 0 0) (sym e ∙ h.1) in omega arith)
only_respond text rest e (Finish number, h) = absurd (let first : ◌≡◌ {A = ℕ} 114 102 = ap (λ bs. get_or bs 0 0) (sym e ∙ h.1) in omega arith)
only_respond text rest e (Drop number, h) = absurd (let first : ◌≡◌ {A = ℕ} 114 100 = ap (λ bs. get_or bs 0 0) (sym e ∙ h.1) in omega arith)

-- the words are some number, a space, and the rest
abbrev pub IsWriteWords : List ℕ → Type 0
IsWriteWords words = (number : ℕ) × (rest : List ℕ) × BeginsByNumber words number rest × (number < 2 ^ 64)

no_writer_write : (text rest words : List ℕ) → text ≡ codes "write " ++ rest → text ≡ codes "writer " ++ words → ⊥
no_writer_write text rest words e h = let sixth : ◌≡◌ {A = ℕ} 32 114 = ap (λ bs. get_or bs 5 0) (sym e ∙ h) in omega arith

-- a line that begins by `write` says what is written, if it says anything
pub only_write : (text rest : List ℕ) → text ≡ codes "write " ++ rest → SaysSome text → IsWriteWords rest
only_write text rest e (Blank, inl h) = absurd (let first : ◌≡◌ {A = ℕ} 119 0 = ap (λ bs. get_or bs 0 0) (sym e ∙ h) in omega arith)
only_write text rest e (Blank, inr h) = absurd (let first : ◌≡◌ {A = ℕ} 119 35 = ap (λ bs. get_or bs 0 0) (sym e ∙ h.1) in omega arith)
only_write text rest e (Now date, h) = absurd (let first : ◌≡◌ {A = ℕ} 119 110 = ap (λ bs. get_or bs 0 0) (sym e ∙ h.1) in omega arith)
only_write text rest e (Ask, h) = absurd (let first : ◌≡◌ {A = ℕ} 119 97 = ap (λ bs. get_or bs 0 0) (sym e ∙ h) in omega arith)
only_write text rest e (AsReader number, h) = absurd (let first : ◌≡◌ {A = ℕ} 119 97 = ap (λ bs. get_or bs 0 0) (sym e ∙ h.1) in omega arith)
only_write text rest e (Read number count, h) = absurd (let first : ◌≡◌ {A = ℕ} 119 114 = ap (λ bs. get_or bs 0 0) (sym e ∙ h.1) in omega arith)
only_write text rest e (Respond number status content, h) = absurd (let first : ◌≡◌ {A = ℕ} 119 114 = ap (λ bs. get_or bs 0 0) (sym e ∙ h.1) in omega arith)
only_write text rest e (Writer number, h) = absurd (no_writer_write text rest h.0 e h.1)
only_write text rest e (Write number written, h) = let same : rest ≡ h.0 = ap (drop 6) (sym e ∙ h.1) in (number, written.now, rw same h.2, h.3)
only_write text rest e (Flush number, h) = absurd (let first : ◌≡◌ {A = ℕ} 119 102 = ap (λ bs. get_or bs 0 0) (sym e ∙ h.1) in omega arith)
only_write text rest e (Upgrade number status protocol, h) = absurd (let first : ◌≡◌ {A = ℕ} 119 117 = ap (λ bs. get_or bs 0 0) (sym e ∙ h.1) in omega arith)
only_write text rest e (Finish number, h) = absurd (let first : ◌≡◌ {A = ℕ} 119 102 = ap (λ bs. get_or bs 0 0) (sym e ∙ h.1) in omega arith)
only_write text rest e (Drop number, h) = absurd (let first : ◌≡◌ {A = ℕ} 119 100 = ap (λ bs. get_or bs 0 0) (sym e ∙ h.1) in omega arith)

-- the words are some number, a code, and the rest
abbrev pub IsUpgradeWords : List ℕ → Type 0
IsUpgradeWords words = (number : ℕ) × (status : ℕ) × (rest : List ℕ) × BeginsByNumbers words number status rest

-- a line that begins by `upgrade` says an upgrade, if it says anything
pub only_upgrade : (text rest : List ℕ) → text ≡ codes "upgrade " ++ rest → SaysSome text → IsUpgradeWords rest
only_upgrade text rest e (Blank, inl h) = absurd (let first : ◌≡◌ {A = ℕ} 117 0 = ap (λ bs. get_or bs 0 0) (sym e ∙ h) in omega arith)
only_upgrade text rest e (Blank, inr h) = absurd (let first : ◌≡◌ {A = ℕ} 117 35 = ap (λ bs. get_or bs 0 0) (sym e ∙ h.1) in omega arith)
only_upgrade text rest e (Now date, h) = absurd (let first : ◌≡◌ {A = ℕ} 117 110 = ap (λ bs. get_or bs 0 0) (sym e ∙ h.1) in omega arith)
only_upgrade text rest e (Ask, h) = absurd (let first : ◌≡◌ {A = ℕ} 117 97 = ap (λ bs. get_or bs 0 0) (sym e ∙ h) in omega arith)
only_upgrade text rest e (AsReader number, h) = absurd (let first : ◌≡◌ {A = ℕ} 117 97 = ap (λ bs. get_or bs 0 0) (sym e ∙ h.1) in omega arith)
only_upgrade text rest e (Read number count, h) = absurd (let first : ◌≡◌ {A = ℕ} 117 114 = ap (λ bs. get_or bs 0 0) (sym e ∙ h.1) in omega arith)
only_upgrade text rest e (Respond number status content, h) = absurd (let first : ◌≡◌ {A = ℕ} 117 114 = ap (λ bs. get_or bs 0 0) (sym e ∙ h.1) in omega arith)
only_upgrade text rest e (Writer number, h) = absurd (let first : ◌≡◌ {A = ℕ} 117 119 = ap (λ bs. get_or bs 0 0) (sym e ∙ h.1) in omega arith)
only_upgrade text rest e (Write number written, h) = absurd (let first : ◌≡◌ {A = ℕ} 117 119 = ap (λ bs. get_or bs 0 0) (sym e ∙ h.1) in omega arith)
only_upgrade text rest e (Flush number, h) = absurd (let first : ◌≡◌ {A = ℕ} 117 102 = ap (λ bs. get_or bs 0 0) (sym e ∙ h.1) in omega arith)
only_upgrade text rest e (Upgrade number status protocol, h) = let same : rest ≡ h.0 = ap (drop 8) (sym e ∙ h.1) in (number, status, protocol.now, rw same h.2)
only_upgrade text rest e (Finish number, h) = absurd (let first : ◌≡◌ {A = ℕ} 117 102 = ap (λ bs. get_or bs 0 0) (sym e ∙ h.1) in omega arith)
only_upgrade text rest e (Drop number, h) = absurd (let first : ◌≡◌ {A = ℕ} 117 100 = ap (λ bs. get_or bs 0 0) (sym e ∙ h.1) in omega arith)

-- the digits write some number of 16 bits
abbrev pub IsCount : List ℕ → Type 0
IsCount digits = (count : ℕ) × WritesCount digits count

-- content that begins by `stream` says a number, if it is any
pub only_stream : (text rest : List ℕ) → text ≡ codes "stream " ++ rest → IsContent text → IsCount rest
only_stream text rest e (Text words, h) = absurd (let first : ◌≡◌ {A = ℕ} 115 116 = ap (λ bs. get_or bs 0 0) (sym e ∙ h) in omega arith)
only_stream text rest e (Empty, h) = absurd (let first : ◌≡◌ {A = ℕ} 115 101 = ap (λ bs. get_or bs 0 0) (sym e ∙ h) in omega arith)
only_stream text rest e (Stream count, h) = let same : rest ≡ h.0 = ap (drop 7) (sym e ∙ h.1) in (count, rw same h.2)
only_stream text rest e (Broken count, h) = absurd (let first : ◌≡◌ {A = ℕ} 115 98 = ap (λ bs. get_or bs 0 0) (sym e ∙ h.1) in omega arith)

-- content that begins by `broken` says a number, if it is any
pub only_broken : (text rest : List ℕ) → text ≡ codes "broken " ++ rest → IsContent text → IsCount rest
only_broken text rest e (Text words, h) = absurd (let first : ◌≡◌ {A = ℕ} 98 116 = ap (λ bs. get_or bs 0 0) (sym e ∙ h) in omega arith)
only_broken text rest e (Empty, h) = absurd (let first : ◌≡◌ {A = ℕ} 98 101 = ap (λ bs. get_or bs 0 0) (sym e ∙ h) in omega arith)
only_broken text rest e (Stream count, h) = absurd (let first : ◌≡◌ {A = ℕ} 98 115 = ap (λ bs. get_or bs 0 0) (sym e ∙ h.1) in omega arith)
only_broken text rest e (Broken count, h) = let same : rest ≡ h.0 = ap (drop 7) (sym e ∙ h.1) in (count, rw same h.2)

-- what is refused doesn't hold
pub none_fits : {T E : Type 0} (r : Result T E) (P : Type 0) (v : T) → OkIff r P v → false ≡ is_ok r → P → ⊥
none_fits (Ok x) P v h was p = absurd (cc was)
none_fits (Err e) P v h was p = h p

-- what is taken is the value
pub fits_same : {T E : Type 0} (r : Result T E) (P : Type 0) (v x : T) → OkIff r P v → result_ok r ≡ Some x → x ≡ v
fits_same (Ok y) P v x h e = let same : y ≡ x = cc in sym same ∙ h.1
fits_same (Err y) P v x h e = cc

pub error_stated : {T E : Type 0} (r : Result T E) (P : T → Type 0) (Q : E → Type 0) → MatchResult r P Q → false ≡ is_ok r → (e : E) × Q e
error_stated (Ok x) P Q h was = absurd (cc was)
error_stated (Err e) P Q h was = (e, h)

-- no fifth form of content
pub no_content : (text : List ℕ) (is_empty : Bool) → is_empty ≡ bytes_eq text (codes "empty") → is_empty ≡ false
    → LacksTextAt (codes "text ") text 0 → LacksTextAt (codes "stream ") text 0 → LacksTextAt (codes "broken ") text 0 → IsContent text → ⊥
no_content text is_empty is differs no_text no_stream no_broken (Text words, h) = no_text words.now h
no_content text is_empty is differs no_text no_stream no_broken (Empty, h) = let yes : bytes_eq text (codes "empty") ≡ true = rw h refl in absurd (cc (sym differs ∙ is ∙ yes))
no_content text is_empty is differs no_text no_stream no_broken (Stream count, h) = no_stream h.0 h.1
no_content text is_empty is differs no_text no_stream no_broken (Broken count, h) = no_broken h.0 h.1
