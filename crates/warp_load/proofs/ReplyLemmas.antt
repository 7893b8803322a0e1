-- What is replied to each request of the load, and how long its answer is.
use Rattle.std.proofs.Common.{◌≡◌, ℕ, ◌+◌, ◌%◌, true, false, List, [], ◌++◌, Some, None, length, codes, refl}
use Rattle.std.proofs.Common.{◌∙◌, arith, length-append}
use Rattle.std.specs.Fmt.{digits}
use Rattle.std.specs.FinMap.{find, get-from_entries}
use Rattle.std.specs.Ordering.{nat_cmp}
use Rattle.std.specs.Cmp.Lexicographic.{slice_cmp, nat_list_cmp_total}
use Rattle.std.proofs.lemmas.List.FromFn.{length-map-range_with_len}
use Rattle.percent_encoding.specs.Percent.{percent_decode}
use Rattle.outside.specs.Folder.{Content, file_at}
use Rattle.path_rules.specs.Target.{form_of, raw_path_of, query_of}
use Rattle.path_rules.specs.Route.{RouteOf, is_name, can_be_served, route_in, route_of}
use Rattle.path_rules.specs.Route as routed
use Rattle.path_rules.specs.ContentType.{kind_of_ending, content_type_of}
use Rattle.warp_response.specs.declared.response.LastWord.TheVariants.{Nothing, Close}
use Rattle.warp_response.specs.Head.{Head, head_text, status_line, date_line, kind_line, length_line}
use Rattle.warp_response.specs.Head.{place_line, allow_line, last_line}
use Rattle.warp_response.specs.Moment.{year_of, month_of, civil_of}
use Rattle.warp_response.specs.Reply.{Reply, head_of, sent_bytes}
use Rattle.warp_response.specs.Text.{answer_text}
use Rattle.app_trait.specs.FolderReply.{folder_reply, missing, not_allowed, file_reply, moved}
use Rattle.conn_loop.specs.Replying.{folder_replies}
use Rattle.warp_load.specs.declared.request_kind.RequestKind.{RequestKind}
use Rattle.warp_load.specs.declared.request_kind.RequestKind.TheVariants.{Index, Text, TextHead, Big, Absent}
use Rattle.warp_load.specs.declared.request_kind.RequestKind.TheVariants.{Folder, Posted, Browser}
use Rattle.warp_load.specs.LoadFolder.{load_entries, load_folder, load_moment, rounds}
use Rattle.warp_load.specs.LoadScripts.{answer_length}
use Rattle.warp_load.proofs.ReadLemmas.{asked_by, utf8}

-- ---- the files

abbrev pub text_file : Content
text_file = (rounds 1000 97 26, load_moment)

abbrev pub big_file : Content
big_file = (rounds 40000 0 251, load_moment)

length-rounds : (count from period : ℕ) → length (rounds count from period) ≡ count
unfolding rounds
length-rounds count from period = length-map-range_with_len (λ k. from + k % period) 0 count

file_found : (path : List ℕ) → file_at load_folder path ≡ find (slice_cmp nat_cmp) path load_entries
unfolding load_folder
file_found path = get-from_entries nat_list_cmp_total load_entries path

at_index : file_at load_folder (codes "index.html") ≡ Some (codes "hi\n", load_moment)
at_index = file_found (codes "index.html")

at_text : file_at load_folder (codes "a.txt") ≡ Some text_file
at_text = file_found (codes "a.txt")

at_big : file_at load_folder (codes "big.bin") ≡ Some big_file
at_big = file_found (codes "big.bin")

at_sub_index : file_at load_folder (codes "sub/index.html") ≡ Some (codes "sub\n", load_moment)
at_sub_index = file_found (codes "sub/index.html")

at_sub : file_at load_folder (codes "sub") ≡ None
at_sub = file_found (codes "sub")

at_nope : file_at load_folder (codes "nope") ≡ None
at_nope = file_found (codes "nope")

at_nope_index : file_at load_folder (codes "nope/index.html") ≡ None
at_nope_index = file_found (codes "nope/index.html")

-- ---- the routes

route_root : route_of (codes "/") ≡ routed.index (codes "index.html")
unfolding route_of route_in can_be_served is_name percent_decode form_of raw_path_of
route_root = rw (utf8 [] refl) refl

route_text : route_of (codes "/a.txt") ≡ routed.path (codes "a.txt")
unfolding route_of route_in can_be_served is_name percent_decode form_of raw_path_of
route_text = rw (utf8 (codes "a.txt") refl) refl

route_big : route_of (codes "/big.bin") ≡ routed.path (codes "big.bin")
unfolding route_of route_in can_be_served is_name percent_decode form_of raw_path_of
route_big = rw (utf8 (codes "big.bin") refl) refl

route_nope : route_of (codes "/nope") ≡ routed.path (codes "nope")
unfolding route_of route_in can_be_served is_name percent_decode form_of raw_path_of
route_nope = rw (utf8 (codes "nope") refl) refl

route_sub : route_of (codes "/sub?q=1") ≡ routed.path (codes "sub")
unfolding route_of route_in can_be_served is_name percent_decode form_of raw_path_of
route_sub = rw (utf8 (codes "sub") refl) refl

route_sub_index : route_of (codes "/sub/") ≡ routed.index (codes "sub/index.html")
unfolding route_of route_in can_be_served is_name percent_decode form_of raw_path_of
route_sub_index = rw (utf8 (codes "sub") refl, utf8 [] refl) refl

-- ---- the replies

unfoldable pub reply_by : RequestKind → Reply
reply_by Index = file_reply (codes "index.html") (codes "hi\n", load_moment) true
reply_by Text = file_reply (codes "a.txt") text_file true
reply_by TextHead = file_reply (codes "a.txt") text_file false
reply_by Big = file_reply (codes "big.bin") big_file true
reply_by Absent = missing
reply_by Folder = moved (codes "/sub?q=1")
reply_by Posted = not_allowed
reply_by Browser = file_reply (codes "sub/index.html") (codes "sub\n", load_moment) true

pub reply_is : (k : RequestKind) → folder_replies load_folder (asked_by k) ≡ reply_by k
unfolding folder_replies folder_reply asked_by reply_by
reply_is Index = rw (route_root, at_index) refl
reply_is Text = rw (route_text, at_text) refl
reply_is TextHead = rw (route_text, at_text) refl
reply_is Big = rw (route_big, at_big) refl
reply_is Absent = rw (route_nope, at_nope, at_nope_index) refl
reply_is Folder = rw (route_sub, at_sub, at_sub_index) refl
reply_is Posted = refl
reply_is Browser = rw (route_sub_index, at_sub_index) refl

-- ---- the answers

head_length : (k : RequestKind)
    → length (head_text (head_of (reply_by k)) load_moment Nothing) + length (sent_bytes (reply_by k).content)
    ≡ answer_length k
unfolding reply_by answer_length head_text status_line date_line kind_line length_line place_line allow_line
    last_line civil_of year_of month_of content_type_of kind_of_ending raw_path_of query_of form_of digits
head_length Index = refl
head_length Text = rw (length-rounds 1000 97 26) refl
head_length TextHead = rw (length-rounds 1000 97 26) refl
head_length Big = rw (length-rounds 40000 0 251) refl
head_length Absent = refl
head_length Folder = refl
head_length Posted = refl
head_length Browser = refl

-- an answer that doesn't close the connection has the length that the table says
pub length-answer : (k : RequestKind)
    → length (answer_text (reply_by k) load_moment Nothing) ≡ answer_length k
length-answer k =
    length-append (head_text (head_of (reply_by k)) load_moment Nothing) (sent_bytes (reply_by k).content)
    ∙ head_length k

line_more : (front line end : List ℕ)
    → length ((front ++ line) ++ end) ≡ length ((front ++ []) ++ end) + length line
line_more front line end = omega (
  arith,
  length-append (front ++ line) end,
  length-append front line,
  length-append (front ++ []) end,
  length-append front ([]),
)

head_more : (head : Head) (moment : ℕ)
    → length (head_text head moment Close) ≡ length (head_text head moment Nothing) + 19
unfolding head_text last_line
head_more head moment = line_more _ (last_line Close) (codes "\r\n")

-- an answer that closes the connection says so in 19 bytes
pub length-closing : (k : RequestKind)
    → length (answer_text (reply_by k) load_moment Close) ≡ answer_length k + 19
length-closing k =
    let head = head_of (reply_by k) in
    let content = sent_bytes (reply_by k).content in
    omega (
      arith,
      length-append (head_text head load_moment Close) content,
      head_more head load_moment,
      head_length k,
    )
