-- To be believed: the requests of the load: of which kind each of them is, and its bytes.
use Rattle.std.specs.Prelude.{ℕ, ◌+◌, ◌*◌, ◌%◌, ◌==◌, List, ◌++◌, codes, map, if◌then◌else◌}
use Rattle.std.specs.List.{flat_map, range_with_len}
use Rattle.warp_load.specs.declared.request_kind.RequestKind.{RequestKind}
use Rattle.warp_load.specs.declared.request_kind.RequestKind.TheVariants.{Index, Text, TextHead, Big, Absent}
use Rattle.warp_load.specs.declared.request_kind.RequestKind.TheVariants.{Folder, Posted, Browser}

-- the kinds by their numbers
abbrev pub kind_numbered : ℕ → RequestKind
kind_numbered n =
    if n == 0 then Index
    else (if n == 1 then Text
    else (if n == 2 then TextHead
    else (if n == 3 then Big
    else (if n == 4 then Absent
    else (if n == 5 then Folder
    else (if n == 6 then Posted else Browser))))))

-- the kind of request j of connection i, both counted from 0
unfoldable pub request_kind : (seed i j : ℕ) → RequestKind
request_kind seed i j = kind_numbered ((seed + 5 * i + 3 * j) % 8)

-- the request that a browser makes for the index of a folder
abbrev pub browser_request : List ℕ
browser_request =
    codes "GET /sub/ HTTP/1.1\r\n"
    ++ codes "Host: localhost:8080\r\n"
    ++ codes "User-Agent: Mozilla/5.0 (X11; Linux x86_64; rv:128.0) Gecko/20100101 Firefox/128.0\r\n"
    ++ codes
    "Accept: text/html,application/xhtml+xml,application/xml;q=0.9,image/avif,image/webp,*/*;q=0.8\r\n"
    ++ codes "Accept-Language: en-US,en;q=0.5\r\n"
    ++ codes "Accept-Encoding: gzip, deflate, br, zstd\r\n"
    ++ codes "Referer: http://localhost:8080/\r\n"
    ++ codes "Connection: keep-alive\r\n"
    ++ codes "Cookie: theme=dark; lang=en\r\n"
    ++ codes "Upgrade-Insecure-Requests: 1\r\n"
    ++ codes "Sec-Fetch-Dest: document\r\n"
    ++ codes "Sec-Fetch-Mode: navigate\r\n"
    ++ codes "Sec-Fetch-Site: same-origin\r\n"
    ++ codes "Sec-Fetch-User: ?1\r\n"
    ++ codes "Priority: u=0, i\r\n"
    ++ codes "\r\n"

-- the bytes of a request, head and body
unfoldable pub request_bytes : RequestKind → List ℕ
request_bytes Index = codes "GET / HTTP/1.1\r\nHost: a\r\n\r\n"
request_bytes Text = codes "GET /a.txt HTTP/1.1\r\nHost: a\r\n\r\n"
request_bytes TextHead = codes "HEAD /a.txt HTTP/1.1\r\nHost: a\r\n\r\n"
request_bytes Big = codes "GET /big.bin HTTP/1.1\r\nHost: a\r\n\r\n"
request_bytes Absent = codes "GET /nope HTTP/1.1\r\nHost: a\r\n\r\n"
request_bytes Folder = codes "GET /sub?q=1 HTTP/1.1\r\nHost: a\r\n\r\n"
request_bytes Posted =
    codes "POST /a.txt HTTP/1.1\r\nHost: a\r\nTransfer-Encoding: chunked\r\n\r\n5\r\nhello\r\n0\r\n\r\n"
request_bytes Browser = browser_request

-- the kinds of a connection's requests, in order
abbrev pub request_kinds : (seed requests i : ℕ) → List RequestKind
request_kinds seed requests i = map (λ j. request_kind seed i j) (range_with_len 0 requests)

-- the input of connection i: its requests one after the other
unfoldable pub load_input : (seed requests i : ℕ) → List ℕ
load_input seed requests i = flat_map request_bytes (request_kinds seed requests i)
