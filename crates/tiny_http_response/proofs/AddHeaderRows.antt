-- The definition tried out: headers added to an answer.
use Rattle.std.proofs.Common.{◌≡◌, refl, ℕ, ◌≤◌, true, false, List, [], ◌∷◌, Some, arith, lit≤}
use Rattle.std.specs.Prelude.{codes}
use Rattle.tiny_http_head.specs.declared.common.Header.{Header}
use Rattle.tiny_http_head.specs.Heads.{length_in}
use Rattle.tiny_http_response.specs.Answer.{Answer, answer_with, text_plain}
use Rattle.tiny_http_response.specs.AddHeader.{add_header, with_headers, is_put_last}
use Rattle.tiny_http_response.specs.ResponseHeaders.{IsResponseHeaders}

abbrev header : List ℕ → List ℕ → Header
header field value = record { field = field; value = value }

type_length_and_connection : with_headers (header (codes "Content-Type") (codes "a/b") ∷ header (codes "Content-Length") (codes "7") ∷ header (codes "Content-Length") (codes "y") ∷ header (codes "Connection") (codes "close") ∷ []) (answer_with 200 (text_plain ∷ []) 1)
    ≡ answer_with 200 (header (codes "Content-Type") (codes "a/b") ∷ []) 7
unfolding length_in text_plain
type_length_and_connection = refl

connection : (value : List ℕ) (a : Answer) → add_header (header (codes "Connection") value) a ≡ a
connection value a = refl

trailer : (value : List ℕ) (a : Answer) → add_header (header (codes "trailer") value) a ≡ a
trailer value a = refl

transfer_encoding : (value : List ℕ) (a : Answer) → add_header (header (codes "Transfer-encoding") value) a ≡ a
transfer_encoding value a = refl

upgrade : (value : List ℕ) (a : Answer) → add_header (header (codes "UPGRADE") value) a ≡ a
upgrade value a = refl

readable_length : (a : Answer) → add_header (header (codes "content-length") (codes "7")) a ≡ record a { data_length = Some 7 }
unfolding length_in
readable_length a = refl

plus_and_zeros : (a : Answer) → add_header (header (codes "Content-Length") (codes "+007")) a ≡ record a { data_length = Some 7 }
unfolding length_in
plus_and_zeros a = refl

greatest_length : (a : Answer) → add_header (header (codes "Content-Length") (codes "18446744073709551615")) a ≡ record a { data_length = Some 18446744073709551615 }
unfolding length_in
greatest_length a = refl

too_great_length : (a : Answer) → add_header (header (codes "Content-Length") (codes "18446744073709551616")) a ≡ a
unfolding length_in
too_great_length a = refl

no_digits : (a : Answer) → add_header (header (codes "Content-Length") (codes "+")) a ≡ a
unfolding length_in
no_digits a = refl

two_lengths : (a : Answer) → add_header (header (codes "Content-Length") (codes "5, 5")) a ≡ a
unfolding length_in
two_lengths a = refl

first_type : add_header (header (codes "content-type") (codes "a/b")) (answer_with 200 (header (codes "X") (codes "1") ∷ []) 1)
    ≡ answer_with 200 (header (codes "X") (codes "1") ∷ header (codes "content-type") (codes "a/b") ∷ []) 1
first_type = refl

-- the first keeps its place and its spelling
second_type : add_header (header (codes "content-TYPE") (codes "a/b")) (answer_with 200 (header (codes "X") (codes "1") ∷ header (codes "Content-type") (codes "c/d") ∷ header (codes "Y") (codes "2") ∷ []) 1)
    ≡ answer_with 200 (header (codes "X") (codes "1") ∷ header (codes "Content-type") (codes "a/b") ∷ header (codes "Y") (codes "2") ∷ []) 1
second_type = refl

-- others may stand there more than once
others : with_headers (header (codes "Set-Cookie") (codes "a=1") ∷ header (codes "Date") (codes "today") ∷ header (codes "Set-Cookie") (codes "a=1") ∷ []) (answer_with 200 [] 1)
    ≡ answer_with 200 (header (codes "Set-Cookie") (codes "a=1") ∷ header (codes "Date") (codes "today") ∷ header (codes "Set-Cookie") (codes "a=1") ∷ []) 1
others = refl

-- ---- what is put last

last_of_none : (value : List ℕ) → is_put_last (header (codes "Content-Type") value) [] ≡ true
last_of_none value = refl

second_type_is_not : (value : List ℕ) → is_put_last (header (codes "content-type") value) (header (codes "Content-Type") value ∷ []) ≡ false
second_type_is_not value = refl

length_is_not : (value : List ℕ) → is_put_last (header (codes "content-length") value) [] ≡ false
length_is_not value = refl

upgrade_is_not : (value : List ℕ) → is_put_last (header (codes "upgrade") value) [] ≡ false
upgrade_is_not value = refl

-- ---- the law of a list

cookies_and_a_type : (value : List ℕ) → IsResponseHeaders (header (codes "Set-Cookie") value ∷ header (codes "content-type") value ∷ header (codes "Set-Cookie") value ∷ [])
cookies_and_a_type value = record { connection = refl; trailer = refl; transfer_encoding = refl; upgrade = refl; content_length = refl; content_type = lit≤ tt }

no_connection : (value : List ℕ) → IsResponseHeaders (header (codes "X") value ∷ header (codes "conneCTION") value ∷ []) → ⊥
no_connection value law = let e : true ≡ false = law.connection in cc

no_trailer : (value : List ℕ) → IsResponseHeaders (header (codes "TRAILER") value ∷ []) → ⊥
no_trailer value law = let e : true ≡ false = law.trailer in cc

no_transfer_encoding : (value : List ℕ) → IsResponseHeaders (header (codes "transfer-Encoding") value ∷ []) → ⊥
no_transfer_encoding value law = let e : true ≡ false = law.transfer_encoding in cc

no_upgrade : (value : List ℕ) → IsResponseHeaders (header (codes "upgrade") value ∷ []) → ⊥
no_upgrade value law = let e : true ≡ false = law.upgrade in cc

no_content_length : (value : List ℕ) → IsResponseHeaders (header (codes "Content-length") value ∷ []) → ⊥
no_content_length value law = let e : true ≡ false = law.content_length in cc

one_content_type : (value : List ℕ) → IsResponseHeaders (header (codes "Content-Type") value ∷ header (codes "content-type") value ∷ []) → ⊥
one_content_type value law = let two : 2 ≤ 1 = law.content_type in omega (arith, two)
