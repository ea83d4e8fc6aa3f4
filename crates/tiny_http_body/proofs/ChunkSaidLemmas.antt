-- What the bytes of a line say, read byte by byte, is what the plain reading finds in its text.
use Rattle.std.proofs.Common.{◌≡◌, refl, ap, ◌∙◌, ℕ, Bool, true, false, cond, not, ◌&&◌, List, [], ◌∷◌, ◌++◌, Option, Some, None}
use Rattle.std.specs.Prelude.{◌==◌, ◌+◌, ◌*◌, nat_lt, ⊤}
use Rattle.std.specs.List.{list_all}
use Rattle.httparse.specs.Grammar.{is_token_byte, is_value_byte}
use Rattle.tiny_http_text.specs.Bytes.{colon, semicolon}
use Rattle.tiny_http_body.specs.declared.chunked.ChunkRules.{ChunkRules}
use Rattle.tiny_http_body.specs.declared.chunked.ChunkRules.TheVariants.{Lenient, Standard}
use Rattle.tiny_http_body.specs.declared.chunked.size.Size.{Size}
use Rattle.tiny_http_body.specs.declared.chunked.size.Size.TheVariants.{Blank, Digits, Behind, Extension, Wrong}
use Rattle.tiny_http_body.specs.declared.chunked.field.Field.{Field}
use Rattle.tiny_http_body.specs.declared.chunked.field.Field.TheVariants as field
use Rattle.tiny_http_body.specs.declared.chunked.line.Said.{Said}
use Rattle.tiny_http_body.specs.Chunks.{is_bws}
use Rattle.tiny_http_body.specs.ChunkReading.{size_of, size_by, is_field_behind, is_trailer_by}
use Rattle.tiny_http_body.specs.ChunkSize.{hex_of, digits_begun, more_digits, size_step, standard_step, may_follow, size_after, size_value}
use Rattle.tiny_http_body.specs.ChunkField.{field_step, is_whole_field}
use Rattle.tiny_http_body.specs.ChunkLine.{said_step, said_after, nothing_said, is_trailer_said}
use Rattle.tiny_http_body.proofs.ChunkSizeLemmas.{size-read}

-- one byte more at the end
pub said_after-push : (rules : ChunkRules) (said : Said) (text : List ℕ) (b : ℕ) → said_after rules said (text ++ b ∷ []) ≡ said_step rules (said_after rules said text) b
said_after-push rules said [] b = refl
said_after-push rules said (c ∷ cs) b = said_after-push rules (said_step rules said c) cs b

abbrev said_of : Size → Field → Said
said_of size field = record { size = size; field = field }

-- the size after these bytes, by the standard
abbrev standard_size : Size → Field → List ℕ → Option ℕ
standard_size size field text = size_value (said_after Standard (said_of size field) text).size

lenient-size : (text : List ℕ) (size : Size) (field : Field) → (said_after Lenient (said_of size field) text).size ≡ size_after size text
lenient-size [] size field = refl
lenient-size (b ∷ bs) size field = lenient-size bs (size_step size b) field

wrong-step : (t : Bool) → cond t Wrong Wrong ≡ Wrong
wrong-step true = refl
wrong-step false = refl

standard-wrong : (text : List ℕ) (field : Field) → standard_size Wrong field text ≡ None
standard-wrong [] field = refl
standard-wrong (b ∷ bs) field = ap (λ z. standard_size z (field_step field b) bs) (wrong-step (is_value_byte b)) ∙ standard-wrong bs (field_step field b)

-- a byte came
abbrev IsBegun : Size → Type 0
IsBegun Blank = ⊥
IsBegun (Digits value count) = ⊤
IsBegun (Behind value) = ⊤
IsBegun (Extension value) = ⊤
IsBegun Wrong = ⊤

ended-begun : (value : ℕ) (s t : Bool) → IsBegun (cond s (Behind value) (cond t (Extension value) Wrong))
ended-begun value true t = tt
ended-begun value false true = tt
ended-begun value false false = tt

count-begun : (value count : ℕ) (t : Bool) → IsBegun (cond t (Digits value count) Wrong)
count-begun value count true = tt
count-begun value count false = tt

more-begun : (value count b : ℕ) (o : Option ℕ) → IsBegun (more_digits value count b o)
more-begun value count b None = ended-begun value (is_bws b) (b == semicolon)
more-begun value count b (Some d) = count-begun (value * 16 + d) (count + 1) (nat_lt count 16)

begun-step : (size : Size) (b : ℕ) → IsBegun size → IsBegun (size_step size b)
begun-step Blank b h = absurd h
begun-step (Digits value count) b h = more-begun value count b (hex_of b)
begun-step (Behind value) b h = ended-begun value (is_bws b) (b == semicolon)
begun-step (Extension value) b h = tt
begun-step Wrong b h = tt

may-begun : (size : Size) (b : ℕ) → IsBegun size → may_follow size b ≡ is_value_byte b
may-begun Blank b h = absurd h
may-begun (Digits value count) b h = refl
may-begun (Behind value) b h = refl
may-begun (Extension value) b h = refl
may-begun Wrong b h = refl

abbrev if_clean : List ℕ → Option ℕ → Option ℕ
if_clean text size = cond (list_all is_value_byte text) size None

begun-by : (bs : List ℕ) (next : Size) (field : Field) (t : Bool) → standard_size next field bs ≡ if_clean bs (size_value (size_after next bs))
    → standard_size (cond t next Wrong) field bs ≡ cond (t && list_all is_value_byte bs) (size_value (size_after next bs)) None
begun-by bs next field true h = h
begun-by bs next field false h = standard-wrong bs field

begun-after : (text : List ℕ) (size : Size) (field : Field) → IsBegun size → standard_size size field text ≡ if_clean text (size_value (size_after size text))
begun-after [] size field h = refl
begun-after (b ∷ bs) size field h =
    ap (λ t. standard_size (cond t (size_step size b) Wrong) (field_step field b) bs) (may-begun size b h)
    ∙ begun-by bs (size_step size b) (field_step field b) (is_value_byte b) (begun-after bs (size_step size b) (field_step field b) (begun-step size b h))

first-begun : (o : Option ℕ) → IsBegun (digits_begun o)
first-begun None = tt
first-begun (Some d) = tt

first-step : (b : ℕ) (s : Bool) → s ≡ false → IsBegun (cond s Blank (digits_begun (hex_of b)))
first-step b true e = cc
first-step b false e = first-begun (hex_of b)

first-by : (b : ℕ) (bs : List ℕ) (field : Field) (t s : Bool) → is_bws b ≡ s
    → standard_size (cond (t && not s) (size_step Blank b) Wrong) field bs ≡ cond (not s && (t && list_all is_value_byte bs)) (size_of (b ∷ bs)) None
first-by b bs field true false e = begun-after bs (size_step Blank b) field (first-step b (is_bws b) e) ∙ ap (if_clean bs) (size-read (b ∷ bs))
first-by b bs field true true e = standard-wrong bs field
first-by b bs field false false e = standard-wrong bs field
first-by b bs field false true e = standard-wrong bs field

-- the size
pub said-size : (rules : ChunkRules) (text : List ℕ) → size_value (said_after rules nothing_said text).size ≡ size_by rules text
said-size Lenient text = ap size_value (lenient-size text Blank field.Empty) ∙ size-read text
said-size Standard [] = refl
said-size Standard (b ∷ bs) = first-by b bs (field_step field.Empty b) (is_value_byte b) (is_bws b) refl

-- whether a field line stands there after these bytes
abbrev whole_after : Size → Field → List ℕ → Bool
whole_after size field text = is_whole_field (said_after Standard (said_of size field) text).field

wrong-field : (text : List ℕ) (size : Size) → whole_after size field.Wrong text ≡ false
wrong-field [] size = refl
wrong-field (b ∷ bs) size = wrong-field bs (standard_step size b)

value-by : (bs : List ℕ) (size : Size) (t : Bool) → whole_after size field.Value bs ≡ list_all is_value_byte bs → whole_after size (cond t field.Value field.Wrong) bs ≡ (t && list_all is_value_byte bs)
value-by bs size true h = h
value-by bs size false h = wrong-field bs size

value-after : (text : List ℕ) (size : Size) → whole_after size field.Value text ≡ list_all is_value_byte text
value-after [] size = refl
value-after (b ∷ bs) size = value-by bs (standard_step size b) (is_value_byte b) (value-after bs (standard_step size b))

name-by : (bs : List ℕ) (size : Size) (t s : Bool) → whole_after size field.Name bs ≡ is_field_behind true bs
    → whole_after size (cond t field.Name (cond s field.Value field.Wrong)) bs ≡ cond t (is_field_behind true bs) (s && list_all is_value_byte bs)
name-by bs size true s h = h
name-by bs size false true h = value-after bs size
name-by bs size false false h = wrong-field bs size

name-after : (text : List ℕ) (size : Size) → whole_after size field.Name text ≡ is_field_behind true text
name-after [] size = refl
name-after (b ∷ bs) size = name-by bs (standard_step size b) (is_token_byte b) (b == colon) (name-after bs (standard_step size b))

front-by : (bs : List ℕ) (size : Size) (t : Bool) → whole_after size (cond t field.Name field.Wrong) bs ≡ cond t (is_field_behind true bs) false
front-by bs size true = name-after bs size
front-by bs size false = wrong-field bs size

-- whether it is a trailer line
pub said-trailer : (rules : ChunkRules) (text : List ℕ) → is_trailer_said rules (said_after rules nothing_said text) ≡ is_trailer_by rules text
said-trailer Lenient text = refl
said-trailer Standard [] = refl
said-trailer Standard (b ∷ bs) = front-by bs (standard_step Blank b) (is_token_byte b)
