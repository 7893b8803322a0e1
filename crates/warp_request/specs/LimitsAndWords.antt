-- To be believed: the limits, field names and words by which requests are read. Statuses
-- stand in warp_response.
use Rattle.std.specs.Prelude.{ℕ, List, codes}

-- the most bytes of a head, with the empty lines before it
abbrev pub head_limit : ℕ
head_limit = 8192

-- the most field lines of a head
abbrev pub field_limit : ℕ
field_limit = 100

-- the most bytes of content
abbrev pub body_limit : ℕ
body_limit = 1048576

-- the most hexadecimal digits of a chunk's size
abbrev pub chunk_digits : ℕ
chunk_digits = 8

-- the most bytes of a chunk line, with its CRLF
abbrev pub chunk_line_limit : ℕ
chunk_line_limit = 256

-- the most bytes of a trailer section, with its last CRLF
abbrev pub trailer_limit : ℕ
trailer_limit = 4096

-- the name of the field that says which host is asked (RFC 9110, section 7.2)
abbrev pub host_name : List ℕ
host_name = codes "host"

-- the name of the field that says whether the connection stays open (RFC 9110, section 7.6.1)
abbrev pub connection_name : List ℕ
connection_name = codes "connection"

-- the name of the field that lists the codings of the content (RFC 9112, section 6.1)
abbrev pub transfer_encoding_name : List ℕ
transfer_encoding_name = codes "transfer-encoding"

-- the name of the field that says the length of the content (RFC 9110, section 8.6)
abbrev pub content_length_name : List ℕ
content_length_name = codes "content-length"

-- the name of the field that says what the client expects (RFC 9110, section 10.1.1)
abbrev pub expect_name : List ℕ
expect_name = codes "expect"

-- the member of a Connection list by which the connection closes (RFC 9112, section 9.6)
abbrev pub close_word : List ℕ
close_word = codes "close"

-- the member of a Connection list by which it stays open under HTTP/1.0 (RFC 9112, section 9.3)
abbrev pub keep_alive_word : List ℕ
keep_alive_word = codes "keep-alive"

-- the only transfer coding that there is (RFC 9112, section 7.1)
abbrev pub chunked_word : List ℕ
chunked_word = codes "chunked"

-- the only expectation that there is (RFC 9110, section 10.1.1)
abbrev pub continue_word : List ℕ
continue_word = codes "100-continue"
