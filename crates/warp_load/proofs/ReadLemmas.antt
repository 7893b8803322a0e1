-- What each request of the load is to a server: a head that it reads, and a request that is whole.
use Rattle.std.proofs.Common.{◌≡◌, ℕ, ◌<◌, ◌≤◌, Bool, true, false, List, [], ◌∷◌, ◌++◌, length, drop, map}
use Rattle.std.proofs.Common.{codes, refl, sym, ap, ◌∙◌, subst, arith, append-nil, lit≤}
use Rattle.std.specs.Prelude.{if◌then◌else◌, not, ◌&&◌, nat_lt, All, slice_index_or}
use Rattle.std.proofs.lemmas.Bool.{and_parts}
use Rattle.std.proofs.lemmas.Bool.Decides.{nat_tests}
use Rattle.std.proofs.lemmas.List.{take_all}
use Rattle.std.specs.List.{AllPass, list_all}
use Rattle.std.specs.Str.{is_utf8}
use Rattle.std.proofs.lemmas.List.Elements.{All-nil, All-cons}
use Rattle.std.proofs.lemmas.List.Sums.{AllPass-from_list_all}
use Rattle.std.proofs.lemmas.Str.{IsUtf8-from_is_utf8, is_utf8-from_IsUtf8, IsUtf8-from_ascii}
use Rattle.std.proofs.lemmas.Str.Ascii.{IsAscii-from_all}
use Rattle.httparse.specs.Grammar.{RequestHead, Field, IsField, IsRequestHead, ReadsRequest, crlf}
use Rattle.httparse.specs.Grammar.{is_token_byte, is_uri_byte, is_value_byte}
use Rattle.httparse.proofs.GrammarLemmas.{request_unique}
use Rattle.httparse.proofs.OnLiterals.{httparse_on_literals}
use Rattle.path_rules.specs.Target.{behind_scheme, form_of}
use Rattle.warp_request.specs.declared.verdict.Framing.{Framing}
use Rattle.warp_request.specs.declared.verdict.Framing.TheVariants as framings
use Rattle.warp_request.specs.LimitsAndWords.{head_limit}
use Rattle.warp_response.specs.Statuses.{bad_request, uri_too_long}
use Rattle.warp_request.specs.Beginning.{Beginning, whole, unfinished, invalid, beginning}
use Rattle.warp_request.specs.Body.{body_of, behind_extension, line_end, behind_digits, line_of, section_of}
use Rattle.warp_request.specs.Body.{chunks}
use Rattle.warp_request.specs.Body as body
use Rattle.warp_request.specs.BodyLaws.{BodyStaysSettled}
use Rattle.warp_request.specs.Checks.{parts_of, checked}
use Rattle.warp_request.specs.Content.{codings_of, ends_in_chunked, framing_of, has_other_coding}
use Rattle.warp_request.specs.Content.{is_length_fault, length_in, waits_for_interim}
use Rattle.warp_request.specs.Fields.{values_of, members_of, has_word, has_member, is_host_byte}
use Rattle.warp_request.specs.Fields.{is_host_fault, stays_open}
use Rattle.warp_request.specs.Laws.{StaysSettled}
use Rattle.warp_request.specs.Lines.{skip_empty, has_line, lines_from, ends_in_version, is_field_line}
use Rattle.warp_request.specs.Lines.{are_lines_right, breaks_line_rule}
use Rattle.warp_request.specs.Next.{waits, by_beginning, next_of}
use Rattle.warp_request.specs.Target.{is_target_form}
use Rattle.warp_request.specs.Verdict.{Verdict, Asked, refused, asked}
use Rattle.conn_loop.specs.FirstRequest.{FirstRequest, first_request, first_by_head, first_by_body}
use Rattle.conn_loop.specs.FirstRequest.{interim_of, interim_by}
use Rattle.conn_loop.specs.FirstRequest as front
use Rattle.warp_load.specs.declared.request_kind.RequestKind.{RequestKind}
use Rattle.warp_load.specs.declared.request_kind.RequestKind.TheVariants.{Index, Text, TextHead, Big, Absent}
use Rattle.warp_load.specs.declared.request_kind.RequestKind.TheVariants.{Folder, Posted, Browser}
use Rattle.warp_load.specs.Requests.{request_bytes}
use Rattle.warp_load.proofs.LoadLists.{length-request_bytes}

-- ---- the heads

-- a field line
abbrev pub line : List ℕ × List ℕ → Field
line field = record { name = field.0; raw = field.1; end = crlf }

-- a head of these lines
abbrev pub head : List ℕ → List ℕ → List (List ℕ × List ℕ) → RequestHead
head method target fields = record {
  blank = [];
  method = method;
  target = target;
  minor = 1;
  line_end = crlf;
  fields = map line fields;
  last = crlf;
}

abbrev pub host : List (List ℕ × List ℕ)
host = (codes "Host", codes " a") ∷ []

abbrev pub posted_fields : List (List ℕ × List ℕ)
posted_fields = (codes "Host", codes " a") ∷ (codes "Transfer-Encoding", codes " chunked") ∷ []

abbrev pub browser_fields : List (List ℕ × List ℕ)
browser_fields =
    (codes "Host", codes " localhost:8080")
    ∷ (codes "User-Agent", codes " Mozilla/5.0 (X11; Linux x86_64; rv:128.0) Gecko/20100101 Firefox/128.0")
    ∷ (
      codes "Accept",
      codes " text/html,application/xhtml+xml,application/xml;q=0.9,image/avif,image/webp,*/*;q=0.8",
    )
    ∷ (codes "Accept-Language", codes " en-US,en;q=0.5")
    ∷ (codes "Accept-Encoding", codes " gzip, deflate, br, zstd")
    ∷ (codes "Referer", codes " http://localhost:8080/")
    ∷ (codes "Connection", codes " keep-alive")
    ∷ (codes "Cookie", codes " theme=dark; lang=en")
    ∷ (codes "Upgrade-Insecure-Requests", codes " 1")
    ∷ (codes "Sec-Fetch-Dest", codes " document")
    ∷ (codes "Sec-Fetch-Mode", codes " navigate")
    ∷ (codes "Sec-Fetch-Site", codes " same-origin")
    ∷ (codes "Sec-Fetch-User", codes " ?1")
    ∷ (codes "Priority", codes " u=0, i")
    ∷ []

-- the head of a request
unfoldable pub head_read : RequestKind → RequestHead
head_read Index = head (codes "GET") (codes "/") host
head_read Text = head (codes "GET") (codes "/a.txt") host
head_read TextHead = head (codes "HEAD") (codes "/a.txt") host
head_read Big = head (codes "GET") (codes "/big.bin") host
head_read Absent = head (codes "GET") (codes "/nope") host
head_read Folder = head (codes "GET") (codes "/sub?q=1") host
head_read Posted = head (codes "POST") (codes "/a.txt") posted_fields
head_read Browser = head (codes "GET") (codes "/sub/") browser_fields

-- the bytes after the head
unfoldable pub body_bytes : RequestKind → List ℕ
body_bytes Index = []
body_bytes Text = []
body_bytes TextHead = []
body_bytes Big = []
body_bytes Absent = []
body_bytes Folder = []
body_bytes Posted = codes "5\r\nhello\r\n0\r\n\r\n"
body_bytes Browser = []

-- ---- each is a head of the grammar

-- a byte of ASCII
abbrev pub is_ascii_byte : ℕ → Bool
is_ascii_byte b = nat_lt b 128

below_128 : (b : ℕ) → is_ascii_byte b ≡ true → b < 128
below_128 b small = grind (arith, nat_tests)

-- a field's name and value have the bytes that they may have
abbrev is_right : List ℕ × List ℕ → Bool
is_right field =
    nat_lt 0 (length field.0) && (list_all is_token_byte field.0 && list_all is_value_byte field.1)

right_field : (field : List ℕ × List ℕ) → is_right field ≡ true → IsField (line field)
right_field field right =
    let some : nat_lt 0 (length field.0) ≡ true = (and_parts _ _ right).0 in
    let rest : (list_all is_token_byte field.0 && list_all is_value_byte field.1) ≡ true =
    (and_parts _ _ right).1 in
    record {
      name = (grind (arith, nat_tests), AllPass-from_list_all is_token_byte field.0 (and_parts _ _ rest).0);
      raw = AllPass-from_list_all is_value_byte field.1 (and_parts _ _ rest).1;
    }

right_fields : (fields : List (List ℕ × List ℕ)) → list_all is_right fields ≡ true
    → All IsField (map line fields)
right_fields [] right = All-nil (λ (f : Field). IsField f)
right_fields (field ∷ fields) right =
    All-cons (λ (f : Field). IsField f) (line field) (map line fields)
    (right_field field (and_parts _ _ right).0) (right_fields fields (and_parts _ _ right).1)

-- bytes of ASCII are text
pub utf8 : (bytes : List ℕ) → list_all is_ascii_byte bytes ≡ true → is_utf8 bytes ≡ true
utf8 bytes small =
    let each : AllPass is_ascii_byte bytes = AllPass-from_list_all is_ascii_byte bytes small in
    let below : All (λ b. b < 128) bytes = λ k d h. below_128 (slice_index_or bytes k d) (each k d h) in
    is_utf8-from_IsUtf8 bytes (IsUtf8-from_ascii bytes (IsAscii-from_all bytes below))

is_head : (method target : List ℕ) (fields : List (List ℕ × List ℕ))
    → (nat_lt 0 (length method) && list_all is_token_byte method) ≡ true
    → (nat_lt 0 (length target) && (list_all is_uri_byte target && list_all is_ascii_byte target)) ≡ true
    → list_all is_right fields ≡ true → IsRequestHead (head method target fields)
is_head method target fields by_method by_target by_fields =
    let some_method : nat_lt 0 (length method) ≡ true = (and_parts _ _ by_method).0 in
    let some_target : nat_lt 0 (length target) ≡ true = (and_parts _ _ by_target).0 in
    let rest : (list_all is_uri_byte target && list_all is_ascii_byte target) ≡ true =
    (and_parts _ _ by_target).1 in
    record {
      method =
          (grind (arith, nat_tests), AllPass-from_list_all is_token_byte method (and_parts _ _ by_method).1);
      target = (grind (arith, nat_tests), AllPass-from_list_all is_uri_byte target (and_parts _ _ rest).0);
      target_text = IsUtf8-from_is_utf8 target (utf8 target (and_parts _ _ rest).1);
      minor = lit≤ tt;
      fields = right_fields fields by_fields;
    }

reads : (k : RequestKind) → ReadsRequest (request_bytes k) (head_read k) (body_bytes k)
unfolding request_bytes head_read body_bytes httparse_on_literals
reads Index = (is_head (codes "GET") (codes "/") host refl refl refl, refl)
reads Text = (is_head (codes "GET") (codes "/a.txt") host refl refl refl, refl)
reads TextHead = (is_head (codes "HEAD") (codes "/a.txt") host refl refl refl, refl)
reads Big = (is_head (codes "GET") (codes "/big.bin") host refl refl refl, refl)
reads Absent = (is_head (codes "GET") (codes "/nope") host refl refl refl, refl)
reads Folder = (is_head (codes "GET") (codes "/sub?q=1") host refl refl refl, refl)
reads Posted = (is_head (codes "POST") (codes "/a.txt") posted_fields refl refl refl, refl)
reads Browser = (is_head (codes "GET") (codes "/sub/") browser_fields refl refl refl, refl)

-- ---- what the bytes begin with, where they begin with a head

by_whole : (s w : List ℕ) (b : Beginning w) (h : RequestHead) (rest : List ℕ) → ReadsRequest w h rest
    → by_beginning s w b ≡ checked (parts_of h)
unfolding by_beginning
by_whole s w (whole g q y) h rest x =
    ap (λ (k : RequestHead). checked (parts_of k)) (request_unique w g h q rest y x).0
by_whole s w (unfinished none may) h rest x = absurd (none h rest x)
by_whole s w (invalid nay) h rest x =
    absurd (nay [] h rest (subst (λ (u : List ℕ). ReadsRequest u h rest) (sym (append-nil w)) x))

-- the definition over a window
verdict_on : List ℕ → List ℕ → Verdict
verdict_on s w =
    if not (has_line w) then waits uri_too_long s
    else (if breaks_line_rule w then refused bad_request else by_beginning s w (beginning w))

on_window : (s w : List ℕ) (h : RequestHead) (rest : List ℕ) → has_line w ≡ true
    → breaks_line_rule w ≡ false → ReadsRequest w h rest
    → verdict_on s w ≡ checked (parts_of h)
unfolding verdict_on
on_window s w h rest ends right x = rw (ends, right) (by_whole s w (beginning w) h rest x)

next_read : (s : List ℕ) (h : RequestHead) (rest : List ℕ) → length s ≤ head_limit
    → has_line s ≡ true → breaks_line_rule s ≡ false
    → ReadsRequest s h rest → next_of s ≡ checked (parts_of h)
unfolding next_of verdict_on
next_read s h rest short ends right x =
    ap (λ (w : List ℕ). verdict_on s w) (take_all head_limit s short) ∙ on_window s s h rest ends right x

-- ---- what each request asks for

-- what is asked by a head of this many bytes
abbrev pub asks : List ℕ → List ℕ → ℕ → Framing → Asked
asks method target len framing = record {
  method = method;
  target = target;
  minor = 1;
  len = len;
  framing = framing;
  keeps = true;
  interim = false;
}

-- what a request asks for
unfoldable pub asked_by : RequestKind → Asked
asked_by Index = asks (codes "GET") (codes "/") 27 framings.None
asked_by Text = asks (codes "GET") (codes "/a.txt") 32 framings.None
asked_by TextHead = asks (codes "HEAD") (codes "/a.txt") 33 framings.None
asked_by Big = asks (codes "GET") (codes "/big.bin") 34 framings.None
asked_by Absent = asks (codes "GET") (codes "/nope") 31 framings.None
asked_by Folder = asks (codes "GET") (codes "/sub?q=1") 34 framings.None
asked_by Posted = asks (codes "POST") (codes "/a.txt") 61 framings.Chunked
asked_by Browser = asks (codes "GET") (codes "/sub/") 533 framings.None

checked_is : (k : RequestKind) → checked (parts_of (head_read k)) ≡ asked (asked_by k)
unfolding head_read asked_by checked httparse_on_literals codings_of ends_in_chunked framing_of
    has_other_coding is_length_fault length_in waits_for_interim values_of members_of has_word has_member
    is_host_byte is_host_fault stays_open is_target_form form_of behind_scheme
checked_is Index = refl
checked_is Text = refl
checked_is TextHead = refl
checked_is Big = refl
checked_is Absent = refl
checked_is Folder = refl
checked_is Posted = refl
checked_is Browser = refl

ends_line : (k : RequestKind) → has_line (request_bytes k) ≡ true
unfolding request_bytes has_line skip_empty
ends_line Index = refl
ends_line Text = refl
ends_line TextHead = refl
ends_line Big = refl
ends_line Absent = refl
ends_line Folder = refl
ends_line Posted = refl
ends_line Browser = refl

keeps_rule : (k : RequestKind) → breaks_line_rule (request_bytes k) ≡ false
unfolding request_bytes breaks_line_rule are_lines_right is_field_line ends_in_version lines_from skip_empty
keeps_rule Index = refl
keeps_rule Text = refl
keeps_rule TextHead = refl
keeps_rule Big = refl
keeps_rule Absent = refl
keeps_rule Folder = refl
keeps_rule Posted = refl
keeps_rule Browser = refl

next_is : (k : RequestKind) → next_of (request_bytes k) ≡ asked (asked_by k)
next_is k =
    next_read (request_bytes k) (head_read k) (body_bytes k) (omega (arith, length-request_bytes k))
    (ends_line k) (keeps_rule k) (reads k) ∙ checked_is k

-- ---- each request is whole, whatever follows

body_is : body_of framings.Chunked (body_bytes Posted) ≡ body.whole 15
unfolding body_bytes chunks line_of behind_digits line_end section_of behind_extension
body_is = refl

-- the verdict on the body, whatever follows
body_stays : ((framing : Framing) (s : List ℕ) → BodyStaysSettled framing s) → (k : RequestKind) (t : List ℕ)
    → first_by_body (asked_by k) (body_of (asked_by k).framing (drop (asked_by k).len (request_bytes k ++ t)))
    ≡ front.whole (asked_by k) (length (request_bytes k))
unfolding asked_by request_bytes body_bytes
body_stays stays Index t = refl
body_stays stays Text t = refl
body_stays stays TextHead t = refl
body_stays stays Big t = refl
body_stays stays Absent t = refl
body_stays stays Folder t = refl
body_stays stays Posted t =
    let a = asked_by Posted in
    ap (λ (v : body.BodyVerdict). first_by_body a v)
    (stays framings.Chunked (body_bytes Posted) t (body.whole 15) body_is (λ e. cc))
body_stays stays Browser t = refl

no_interim : (k : RequestKind) → interim_by (asked (asked_by k)) ≡ []
unfolding asked_by
no_interim Index = refl
no_interim Text = refl
no_interim TextHead = refl
no_interim Big = refl
no_interim Absent = refl
no_interim Folder = refl
no_interim Posted = refl
no_interim Browser = refl

module _ (head_stays : (s : List ℕ) → StaysSettled s)
    (body_settled : (framing : Framing) (s : List ℕ) → BodyStaysSettled framing s) where
  next_stays : (k : RequestKind) (t : List ℕ) → next_of (request_bytes k ++ t) ≡ asked (asked_by k)
  next_stays k t = head_stays (request_bytes k) t (asked (asked_by k)) (next_is k) (λ e. cc)

  -- a request of the load is whole
  pub first_request_is : (k : RequestKind) (t : List ℕ)
      → first_request (request_bytes k ++ t) ≡ front.whole (asked_by k) (length (request_bytes k))
  unfolding first_request
  first_request_is k t =
      ap (λ (v : Verdict). first_by_head (request_bytes k ++ t) v) (next_stays k t)
      ∙ body_stays body_settled k t

  -- and no interim answer is due
  pub interim_is : (k : RequestKind) (t : List ℕ) → interim_of (request_bytes k ++ t) ≡ []
  unfolding interim_of
  interim_is k t = ap (λ (v : Verdict). interim_by v) (next_stays k t) ∙ no_interim k

-- no bytes are no request
pub nothing_is : first_request [] ≡ front.unfinished
unfolding first_request next_of has_line skip_empty waits
nothing_is = refl

pub no_bytes_wait : interim_of [] ≡ []
unfolding interim_of next_of has_line skip_empty waits
no_bytes_wait = refl

-- each request keeps the connection
pub keeps_is : (k : RequestKind) → (asked_by k).keeps ≡ true
unfolding asked_by
keeps_is Index = refl
keeps_is Text = refl
keeps_is TextHead = refl
keeps_is Big = refl
keeps_is Absent = refl
keeps_is Folder = refl
keeps_is Posted = refl
keeps_is Browser = refl

-- under HTTP/1.1
pub minor_is : (k : RequestKind) → (asked_by k).minor ≡ 1
unfolding asked_by
minor_is Index = refl
minor_is Text = refl
minor_is TextHead = refl
minor_is Big = refl
minor_is Absent = refl
minor_is Folder = refl
minor_is Posted = refl
minor_is Browser = refl
