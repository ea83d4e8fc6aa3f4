-- The definitions tried out: heads and chunked bodies, computed.
use Rattle.std.proofs.Common.{◌≡◌, refl, ℕ, List, [], ◌∷◌, ◌++◌, Some, None, Ok, Err, zero, suc}
use Rattle.std.specs.Prelude.{codes, replicate}
use Rattle.std.specs.declared.io.ErrorKind.TheVariants.{InvalidData, UnexpectedEof}
use Rattle.tiny_http_io.specs.declared.device.Stop.TheVariants.{End}
use Rattle.tiny_http_head.specs.declared.common.Method.TheVariants.{Get}
use Rattle.tiny_http_head.specs.Heads.{version, Cut, NotAscii, Malformed}
use Rattle.tiny_http_head.specs.HeadReading.{request_head_read, Whole, Faulty}
use Rattle.tiny_http_body.specs.ChunkReading.{decoded}

plain_request : request_head_read (codes "GET /hello HTTP/1.1\r\n\r\n") ≡ Whole (record { method = Get; path = codes "/hello"; version = version 1 1; headers = [] }) []
plain_request = refl

empty_first_line : request_head_read (codes "\r\n") ≡ Faulty None Malformed
empty_first_line = refl

no_version : request_head_read (codes "GET /hello\r\n") ≡ Faulty None Malformed
no_version = refl

no_such_version : request_head_read (codes "qsd qsd qsd\r\n") ≡ Faulty None Malformed
no_such_version = refl

lone_newline_in_request_line : request_head_read (codes "GET / HTTP/1.1\n\r\n\r\n") ≡ Whole (record { method = Get; path = codes "/"; version = version 1 1; headers = [] }) []
lone_newline_in_request_line = refl

lone_newline_in_value : request_head_read (codes "GET / HTTP/1.1\r\nHost: a\nX: b\r\n\r\n")
    ≡ Whole (record { method = Get; path = codes "/"; version = version 1 1; headers = record { field = codes "Host"; value = codes "a\nX: b" } ∷ [] }) []
lone_newline_in_value = refl

blank_before_colon : request_head_read (codes "GET / HTTP/1.0\r\nContent-Length : 5\r\n\r\nhello") ≡ Faulty (Some (version 1 0)) Malformed
blank_before_colon = refl

leading_blank : request_head_read (codes "GET / HTTP/1.0\r\n Host: a\r\n\r\nhello") ≡ Faulty (Some (version 1 0)) Malformed
leading_blank = refl

unfinished_head : request_head_read (codes "GET / HTTP/1.1\r\nHost: a") ≡ Faulty (Some (version 1 1)) Cut
unfinished_head = refl

byte_past_ascii : request_head_read (codes "GET / HTTP/1.1\r\nHost: " ++ 233 ∷ codes "\r\n") ≡ Faulty (Some (version 1 1)) NotAscii
byte_past_ascii = refl

chunks_with_extension_and_trailer : decoded 100 End (codes "5;x=1\r\nhello\r\n0\r\nT: v\r\n\r\nGET /b HTTP/1.1\r\n\r\n") ≡ record { body = codes "hello"; ends = Ok (codes "GET /b HTTP/1.1\r\n\r\n") }
chunks_with_extension_and_trailer = refl

no_line_end_after_data : decoded 100 End (codes "5\r\nhelloXY") ≡ record { body = codes "hello"; ends = Err InvalidData }
no_line_end_after_data = refl

cut_data : decoded 100 End (codes "5\r\nhel") ≡ record { body = codes "hel"; ends = Err UnexpectedEof }
cut_data = refl

cut_line_end : decoded 100 End (codes "5\r\nhello\r") ≡ record { body = codes "hello"; ends = Err UnexpectedEof }
cut_line_end = refl

half_a_line_end : decoded 100 End (codes "5\r\nhello\rX") ≡ record { body = codes "hello"; ends = Err InvalidData }
half_a_line_end = refl

size_texts : decoded 100 End (codes " 5 ;x\r\nhello\r\n0x5\r\n") ≡ record { body = codes "hello"; ends = Err InvalidData }
size_texts = refl

greatest_size : decoded 100 End (codes "ffffffffffffffff\r\nabc") ≡ record { body = codes "abc"; ends = Err UnexpectedEof }
greatest_size = refl

longest_line : decoded 10 End (codes "5;" ++ replicate 8190 120 ++ codes "\r\nhello\r\n0\r\n\r\n") ≡ record { body = codes "hello"; ends = Ok [] }
longest_line = refl

too_long_line : decoded 10 End (codes "5;" ++ replicate 8191 120 ++ codes "\r\nhello\r\n0\r\n\r\n") ≡ record { body = []; ends = Err InvalidData }
too_long_line = refl

abbrev trailer_lines : ℕ → List ℕ
trailer_lines zero = codes "\r\n"
trailer_lines (suc n) = codes "a\r\n" ++ trailer_lines n

most_trailers : decoded 10 End (codes "0\r\n" ++ trailer_lines 128) ≡ record { body = []; ends = Ok [] }
most_trailers = refl

too_many_trailers : decoded 10 End (codes "0\r\n" ++ trailer_lines 129) ≡ record { body = []; ends = Err InvalidData }
too_many_trailers = refl
