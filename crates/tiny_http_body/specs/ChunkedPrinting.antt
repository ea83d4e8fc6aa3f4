-- Chunked encoding (RFC 9112, section 7.1), in chunks of `CHUNK` bytes.
use Rattle.std.specs.Prelude.{ℕ, zero, suc, ◌*◌, ◌/◌, false, List, [], ◌++◌, length, take, drop, codes, ◌==◌}
use Rattle.std.specs.Prelude.{if◌then◌else◌}
use Rattle.std.specs.Fmt.{digits}
use Rattle.tiny_http_body.specs.declared.chunks.TheConstants.{CHUNK}

-- a chunk as it is sent: its size in lower-case hexadecimal, CR LF, the bytes, CR LF
abbrev pub printed_chunk : List ℕ → List ℕ
printed_chunk bytes = digits 16 false (length bytes) ++ codes "\r\n" ++ bytes ++ codes "\r\n"

-- the first `count` pieces of `CHUNK` bytes, each as a chunk
abbrev pub first_chunks : ℕ → List ℕ → List ℕ
first_chunks zero bytes = []
first_chunks (suc count) bytes = printed_chunk (take CHUNK bytes) ++ first_chunks count (drop CHUNK bytes)

-- all full chunks of the bytes
unfoldable pub full_chunks : List ℕ → List ℕ
full_chunks bytes = first_chunks (length bytes / CHUNK) bytes

-- the bytes after all full chunks, fewer than a full chunk
unfoldable pub left_over : List ℕ → List ℕ
left_over bytes = drop (length bytes / CHUNK * CHUNK) bytes

-- one chunk with these bytes, or nothing if there are none, since a chunk of size 0 would end the body
abbrev pub short_chunk : List ℕ → List ℕ
short_chunk bytes = if length bytes == 0 then [] else printed_chunk bytes

-- all bytes in chunks of `CHUNK` bytes, of which the last may be shorter, then the chunk of size 0 and the empty
-- trailer section that end the body
abbrev pub chunked : List ℕ → List ℕ
chunked bytes = full_chunks bytes ++ short_chunk (left_over bytes) ++ codes "0\r\n\r\n"
