-- The definition tried out: answers as a client reads them, computed.
use Rattle.std.proofs.Common.{◌≡◌, refl, subst, ℕ, inl, inr, List, [], ◌∷◌, ◌++◌, Ok, Err, take}
use Rattle.std.specs.Prelude.{codes}
use Rattle.std.specs.Fmt.{digits}
use Rattle.tiny_http_head.specs.declared.common.Header.{Header}
use Rattle.tiny_http_head.specs.declared.common.HTTPVersion.{HTTPVersion}
use Rattle.tiny_http_head.specs.declared.common.Method.{Method}
use Rattle.tiny_http_head.specs.declared.common.Method.TheVariants.{Get, Head}
use Rattle.tiny_http_text.specs.Lines.{IsUnfinished}
use Rattle.tiny_http_head.specs.Heads.{version}
use Rattle.tiny_http_client.specs.ClientAnswer.{says_chunked, content_length, BeginsWithStatusLine, BeginsWithFieldLines, ReadsAnswer, Unfinished, Invalid, UnfinishedAnswer, MalformedAnswer}
use Rattle.tiny_http_client.specs.ClientReading.{decimal_read, AnswerRead, answer_read}
use Rattle.tiny_http_client.proofs.ClientAnswerLemmas.{AnswerIs, answer-is}
use Rattle.tiny_http_client.proofs.ClientAnswerLaws.{lack-one}

abbrev header : List ℕ → List ℕ → Header
header field value = record { field = field; value = value }

-- an answer of version 1.1, and the rest
abbrev gives : ℕ → List Header → List ℕ → List ℕ → AnswerRead
gives status headers body rest = Ok (record { head = record { version = version 1 1; status = status; headers = headers }; body = body }, rest)

-- an answer of eleven bytes, by its length and in chunks
abbrev hello : List ℕ
hello = codes "HTTP/1.1 200 OK\r\nServer: tiny-http (Rust)\r\nDate: Wed, 04 May 1983 11:17:00 GMT\r\nContent-Type: text/plain; charset=UTF-8\r\nContent-Length: 11\r\n\r\nhello world"

abbrev hello_headers : List Header
hello_headers =
    header (codes "Server") (codes "tiny-http (Rust)") ∷ header (codes "Date") (codes "Wed, 04 May 1983 11:17:00 GMT")
    ∷ header (codes "Content-Type") (codes "text/plain; charset=UTF-8") ∷ header (codes "Content-Length") (codes "11") ∷ []

abbrev hello_in_chunks : List ℕ
hello_in_chunks = codes "HTTP/1.1 200 OK\r\nTransfer-Encoding: chunked\r\n\r\nb\r\nhello world\r\n0\r\n\r\n"

abbrev chunked_header : List Header
chunked_header = header (codes "Transfer-Encoding") (codes "chunked") ∷ []

by_length : answer_read Get hello ≡ gives 200 hello_headers (codes "hello world") []
unfolding says_chunked content_length decimal_read digits
by_length = refl

rest_behind_length : answer_read Get (hello ++ codes "HTTP") ≡ gives 200 hello_headers (codes "hello world") (codes "HTTP")
unfolding says_chunked content_length decimal_read digits
rest_behind_length = refl

in_chunks : answer_read Get hello_in_chunks ≡ gives 200 chunked_header (codes "hello world") []
unfolding says_chunked content_length decimal_read digits
in_chunks = refl

rest_behind_chunks : answer_read Get (hello_in_chunks ++ codes "H") ≡ gives 200 chunked_header (codes "hello world") (codes "H")
unfolding says_chunked content_length decimal_read digits
rest_behind_chunks = refl

-- no body where the request was a HEAD, and under 204 and 304
to_head : answer_read Head hello ≡ gives 200 hello_headers [] (codes "hello world")
unfolding says_chunked content_length decimal_read digits
to_head = refl

to_head_in_chunks : answer_read Head hello_in_chunks ≡ gives 200 chunked_header [] (codes "b\r\nhello world\r\n0\r\n\r\n")
unfolding says_chunked content_length decimal_read digits
to_head_in_chunks = refl

no_content : answer_read Get (codes "HTTP/1.1 204 No Content\r\nContent-Length: 0\r\n\r\nH") ≡ gives 204 (header (codes "Content-Length") (codes "0") ∷ []) [] (codes "H")
unfolding says_chunked content_length decimal_read digits
no_content = refl

not_modified : answer_read Get (codes "HTTP/1.1 304 Not Modified\r\nContent-Length: 5\r\n\r\n") ≡ gives 304 (header (codes "Content-Length") (codes "5") ∷ []) [] []
unfolding says_chunked content_length decimal_read digits
not_modified = refl

-- heads of 100 to 199 are passed over
continue_first : answer_read Get (codes "HTTP/1.1 100 Continue\r\nContent-Length: 0\r\n\r\n" ++ hello) ≡ gives 200 hello_headers (codes "hello world") []
unfolding says_chunked content_length decimal_read digits
continue_first = refl

continue_alone : answer_read Get (codes "HTTP/1.1 100 Continue\r\nContent-Length: 0\r\n\r\n") ≡ Err Unfinished
unfolding says_chunked content_length decimal_read digits
continue_alone = refl

two_interim_heads : answer_read Get (codes "HTTP/1.1 100 Continue\r\n\r\nHTTP/1.1 103 Early Hints\r\nLink: x\r\n\r\n" ++ hello_in_chunks) ≡ gives 200 chunked_header (codes "hello world") []
unfolding says_chunked content_length decimal_read digits
two_interim_heads = refl

-- exactly one space after the colon
two_spaces : answer_read Get (codes "HTTP/1.1 200 OK\r\nX:  y\r\n") ≡ Err Invalid
unfolding says_chunked content_length decimal_read digits
two_spaces = refl

no_space : answer_read Get (codes "HTTP/1.1 200 OK\r\nX:y\r\n") ≡ Err Invalid
unfolding says_chunked content_length decimal_read digits
no_space = refl

blank_before_colon : answer_read Get (codes "HTTP/1.1 200 OK\r\nX : y\r\n") ≡ Err Invalid
unfolding says_chunked content_length decimal_read digits
blank_before_colon = refl

-- the value is read as it is, to the end of the line
blank_at_end : answer_read Head (codes "HTTP/1.1 200 OK\r\nX: y \r\n\r\n") ≡ gives 200 (header (codes "X") (codes "y ") ∷ []) [] []
unfolding says_chunked content_length decimal_read digits
blank_at_end = refl

empty_value : answer_read Head (codes "HTTP/1.1 200 OK\r\nX: \r\n\r\n") ≡ gives 200 (header (codes "X") [] ∷ []) [] []
unfolding says_chunked content_length decimal_read digits
empty_value = refl

byte_past_ascii : answer_read Head (codes "HTTP/1.1 200 OK\r\nX: " ++ 233 ∷ codes "\r\n") ≡ Err Invalid
unfolding says_chunked content_length decimal_read digits
byte_past_ascii = refl

-- a line that isn't finished breaks no rule
nothing : answer_read Get [] ≡ Err Unfinished
unfolding says_chunked content_length decimal_read digits
nothing = refl

unfinished_status_line : answer_read Get (codes "HTTP/1.1 2") ≡ Err Unfinished
unfolding says_chunked content_length decimal_read digits
unfinished_status_line = refl

unfinished_wrong_line : answer_read Get (codes "no answer at all\r") ≡ Err Unfinished
unfolding says_chunked content_length decimal_read digits
unfinished_wrong_line = refl

finished_wrong_line : answer_read Get (codes "no answer at all\r\n") ≡ Err Invalid
unfolding says_chunked content_length decimal_read digits
finished_wrong_line = refl

unfinished_field_line : answer_read Get (codes "HTTP/1.1 200 OK\r\nX  y") ≡ Err Unfinished
unfolding says_chunked content_length decimal_read digits
unfinished_field_line = refl

unfinished_body : answer_read Get (take 153 hello) ≡ Err Unfinished
unfolding says_chunked content_length decimal_read digits
unfinished_body = refl

unfinished_chunks : answer_read Get (codes "HTTP/1.1 200 OK\r\nTransfer-Encoding: chunked\r\n\r\nb\r\nhello world\r\n0\r\n\r") ≡ Err Unfinished
unfolding says_chunked content_length decimal_read digits
unfinished_chunks = refl

wrong_chunk_size : answer_read Get (codes "HTTP/1.1 200 OK\r\nTransfer-Encoding: chunked\r\n\r\nx\r\n") ≡ Err Invalid
unfolding says_chunked content_length decimal_read digits
wrong_chunk_size = refl

-- the body's length has to be said, by decimal digits alone
no_length : answer_read Get (codes "HTTP/1.1 200 OK\r\n\r\nhello") ≡ Err Invalid
unfolding says_chunked content_length decimal_read digits
no_length = refl

no_length_to_head : answer_read Head (codes "HTTP/1.1 200 OK\r\n\r\n") ≡ gives 200 [] [] []
unfolding says_chunked content_length decimal_read digits
no_length_to_head = refl

other_coding : answer_read Get (codes "HTTP/1.1 200 OK\r\nTransfer-Encoding: gzip, chunked\r\n\r\n0\r\n\r\n") ≡ Err Invalid
unfolding says_chunked content_length decimal_read digits
other_coding = refl

plus_before_length : answer_read Get (codes "HTTP/1.1 200 OK\r\nContent-Length: +1\r\n\r\nx") ≡ Err Invalid
unfolding says_chunked content_length decimal_read digits
plus_before_length = refl

too_great_length : answer_read Get (codes "HTTP/1.1 200 OK\r\nContent-Length: 18446744073709551616\r\n\r\nx") ≡ Err Invalid
unfolding says_chunked content_length decimal_read digits
too_great_length = refl

chunked_before_length : answer_read Get (codes "HTTP/1.1 200 OK\r\nContent-Length: 1\r\ntransfer-encoding: CHUNKED\r\n\r\n0\r\n\r\n")
    ≡ gives 200 (header (codes "Content-Length") (codes "1") ∷ header (codes "transfer-encoding") (codes "CHUNKED") ∷ []) [] []
unfolding says_chunked content_length decimal_read digits
chunked_before_length = refl

first_of_two_lengths : answer_read Get (codes "HTTP/1.1 200 OK\r\ncontent-length: 05\r\nContent-Length: 11\r\n\r\nhello world")
    ≡ gives 200 (header (codes "content-length") (codes "05") ∷ header (codes "Content-Length") (codes "11") ∷ []) (codes "hello") (codes " world")
unfolding says_chunked content_length decimal_read digits
first_of_two_lengths = refl

-- numbers of the status-line are decimal, without leading zeros
leading_zero : answer_read Get (codes "HTTP/1.1 0200 OK\r\n") ≡ Err Invalid
unfolding says_chunked content_length decimal_read digits
leading_zero = refl

too_great_status : answer_read Get (codes "HTTP/1.1 65536 OK\r\n") ≡ Err Invalid
unfolding says_chunked content_length decimal_read digits
too_great_status = refl

no_phrase : answer_read Get (codes "HTTP/1.1 204 \r\n\r\n") ≡ gives 204 [] [] []
unfolding says_chunked content_length decimal_read digits
no_phrase = refl

-- The same of the definition itself: what stands there by the reading, stands there.
by_length_read : ReadsAnswer Get hello (record { head = record { version = version 1 1; status = 200; headers = hello_headers }; body = codes "hello world" }) []
by_length_read = subst (AnswerIs Get hello) by_length (answer-is Get hello)

in_chunks_read : ReadsAnswer Get hello_in_chunks (record { head = record { version = version 1 1; status = 200; headers = chunked_header }; body = codes "hello world" }) []
in_chunks_read = subst (AnswerIs Get hello_in_chunks) in_chunks (answer-is Get hello_in_chunks)

two_spaces_malformed : MalformedAnswer Get (codes "HTTP/1.1 200 OK\r\nX:  y\r\n")
two_spaces_malformed = subst (AnswerIs Get (codes "HTTP/1.1 200 OK\r\nX:  y\r\n")) two_spaces (answer-is Get (codes "HTTP/1.1 200 OK\r\nX:  y\r\n"))

-- whatever stands in a line that isn't finished, the answer is unfinished and not malformed: a status-line
line_unfinished : (method : Method) (bytes : List ℕ) → IsUnfinished bytes → UnfinishedAnswer method bytes × (MalformedAnswer method bytes → ⊥)
line_unfinished method bytes h = let u : UnfinishedAnswer method bytes = ([], bytes, refl, inl (inl h)) in (u, lack-one method bytes u)

-- and a line after it
field_line_unfinished : (method : Method) (v : HTTPVersion) (status : ℕ) (bytes fields rest : List ℕ) (headers : List Header)
    → BeginsWithStatusLine bytes v status fields → BeginsWithFieldLines fields headers rest → IsUnfinished rest → UnfinishedAnswer method bytes × (MalformedAnswer method bytes → ⊥)
field_line_unfinished method v status bytes fields rest headers s f h =
    let u : UnfinishedAnswer method bytes = ([], bytes, refl, inl (inr (v, status, fields, headers, rest, s, f, h))) in (u, lack-one method bytes u)
