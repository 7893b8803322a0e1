-- The moves of a folder's application come to the reply of the folder's table.
use Rattle.std.proofs.Common.{◌≡◌, ℕ, Bool, true, false, List, [], Option, Some, None, length, refl}
use Rattle.outside.specs.Folder.{Folder, Content, file_at}
use Rattle.std.specs.Prelude.{codes}
use Rattle.warp_response.specs.Reply.{head_of, sent_bytes}
use Rattle.path_rules.specs.Route.{RouteOf, route_of}
use Rattle.path_rules.specs.Route as routed
use Rattle.app_trait.specs.declared.request.Seen.{Seen}
use Rattle.app_trait.specs.declared.request.Seen.TheVariants.{Nothing, FirstFound, FirstAbsent, SecondFound}
use Rattle.app_trait.specs.declared.request.Seen.TheVariants.{SecondAbsent}
use Rattle.app_trait.specs.declared.method.Method.{Method}
use Rattle.app_trait.specs.declared.method.Method.TheVariants.{Get, Head, Options, Refused, Unknown}
use Rattle.app_trait.specs.Method.{method_of}
use Rattle.app_trait.specs.Seen.{first_seen, second_seen}
use Rattle.app_trait.specs.Moves.{RequestText, AppMove}
use Rattle.app_trait.specs.ReplyTo.{reply_to, after_none, after_one, after_two, facts_of}
use Rattle.app_trait.specs.FolderMoves.{index_move, path_move, move_by_route, move_by_method, folder_move}
use Rattle.app_trait.specs.FolderReply.{folder_reply, reply_by_method, reply_by_route, reply_at_path}
use Rattle.app_trait.specs.FolderReply.{reply_at_folder, reply_at_index, index_of, AsksHead}

index_comes : (folder : Folder) (path : List ℕ) (send : Bool) (moves : RequestText → Seen → AppMove)
    (request : RequestText) (file : Option Content)
    → ((seen : Seen) → moves request seen ≡ index_move path send seen)
    → after_one moves folder request (moves request (first_seen (facts_of file))) file
    ≡ reply_at_index file path send
unfolding after_one
index_comes folder path send moves request None is = rw (is FirstAbsent) refl
index_comes folder path send moves request (Some content) is =
    rw (is (FirstFound (length content.0) content.1)) refl

folder_comes : (path target : List ℕ) (send : Bool) (moves : RequestText → Seen → AppMove)
    (request : RequestText) (file : Option Content)
    → ((seen : Seen) → moves request seen ≡ path_move path target send seen)
    → after_two (moves request (second_seen (facts_of file))) file ≡ reply_at_folder file target
unfolding after_two
folder_comes path target send moves request None is = rw (is SecondAbsent) refl
folder_comes path target send moves request (Some content) is =
    rw (is (SecondFound (length content.0) content.1)) refl

path_comes : (folder : Folder) (path target : List ℕ) (send : Bool) (moves : RequestText → Seen → AppMove)
    (request : RequestText) (file : Option Content)
    → ((seen : Seen) → moves request seen ≡ path_move path target send seen)
    → after_one moves folder request (moves request (first_seen (facts_of file))) file
    ≡ reply_at_path folder file path target send
unfolding after_one
path_comes folder path target send moves request None is =
    rw (is FirstAbsent) (folder_comes path target send moves request (file_at folder (index_of path)) is)
path_comes folder path target send moves request (Some content) is =
    rw (is (FirstFound (length content.0) content.1)) refl

route_comes : (folder : Folder) (to : RouteOf) (target : List ℕ) (send : Bool)
    (moves : RequestText → Seen → AppMove) (request : RequestText)
    → ((seen : Seen) → moves request seen ≡ move_by_route to target send seen)
    → reply_to moves folder request ≡ reply_by_route folder to target send
unfolding reply_to after_none
route_comes folder routed.not_found target send moves request is = rw (is Nothing) refl
route_comes folder (routed.index path) target send moves request is =
    rw (is Nothing) (index_comes folder path send moves request (file_at folder path) is)
route_comes folder (routed.path path) target send moves request is =
    rw (is Nothing) (path_comes folder path target send moves request (file_at folder path) is)

method_comes : (folder : Folder) (method : Method) (target : List ℕ) (moves : RequestText → Seen → AppMove)
    (request : RequestText)
    → ((seen : Seen) → moves request seen ≡ move_by_method method target seen)
    → reply_to moves folder request ≡ reply_by_method folder method target
unfolding reply_to after_none
method_comes folder Get target moves request is =
    route_comes folder (route_of target) target true moves request is
method_comes folder Head target moves request is =
    route_comes folder (route_of target) target false moves request is
method_comes folder Options target moves request is = rw (is Nothing) refl
method_comes folder Refused target moves request is = rw (is Nothing) refl
method_comes folder Unknown target moves request is = rw (is Nothing) refl

-- whatever the folder has, the moves come to the table's reply
pub folder_move-comes : (folder : Folder) (request : RequestText)
    → reply_to folder_move folder request ≡ folder_reply folder request
unfolding folder_move folder_reply
folder_move-comes folder request =
    method_comes folder (method_of request.method) request.target folder_move request (λ seen. refl)

-- ---- HEAD and GET

route_head : (folder : Folder) (to : RouteOf) (target : List ℕ)
    → head_of (reply_by_route folder to target false) ≡ head_of (reply_by_route folder to target true)
route_head folder routed.not_found target = refl
route_head folder (routed.index path) target = index_head (file_at folder path) path
  where
    index_head : (file : Option Content) (path : List ℕ)
        → head_of (reply_at_index file path false) ≡ head_of (reply_at_index file path true)
    index_head None path = refl
    index_head (Some content) path = refl
route_head folder (routed.path path) target = path_head (file_at folder path) path
  where
    path_head : (file : Option Content) (path : List ℕ)
        → head_of (reply_at_path folder file path target false)
        ≡ head_of (reply_at_path folder file path target true)
    path_head None path = refl
    path_head (Some content) path = refl

by_get : (folder : Folder) (get : RequestText) → get.method ≡ codes "GET"
    → folder_reply folder get ≡ reply_by_route folder (route_of get.target) get.target true
unfolding folder_reply
by_get folder get is = rw is refl

by_head : (folder : Folder) (head : RequestText) → head.method ≡ codes "HEAD"
    → folder_reply folder head ≡ reply_by_route folder (route_of head.target) head.target false
unfolding folder_reply
by_head folder head is = rw is refl

-- HEAD gets the head that GET gets
pub head_of-HEAD : (folder : Folder) (get head : RequestText) → AsksHead get head
    → head_of (folder_reply folder head) ≡ head_of (folder_reply folder get)
head_of-HEAD folder get head asks =
    rw (by_get folder get asks.by_get, by_head folder head asks.by_head, asks.target)
    (route_head folder (route_of get.target) get.target)

folder_unsent : (file : Option Content) (target : List ℕ)
    → sent_bytes (reply_at_folder file target).content ≡ []
folder_unsent None target = refl
folder_unsent (Some content) target = refl

index_unsent : (file : Option Content) (path : List ℕ)
    → sent_bytes (reply_at_index file path false).content ≡ []
index_unsent None path = refl
index_unsent (Some content) path = refl

path_unsent : (folder : Folder) (file : Option Content) (path target : List ℕ)
    → sent_bytes (reply_at_path folder file path target false).content ≡ []
path_unsent folder None path target = folder_unsent (file_at folder (index_of path)) target
path_unsent folder (Some content) path target = refl

route_unsent : (folder : Folder) (to : RouteOf) (target : List ℕ)
    → sent_bytes (reply_by_route folder to target false).content ≡ []
route_unsent folder routed.not_found target = refl
route_unsent folder (routed.index path) target = index_unsent (file_at folder path) path
route_unsent folder (routed.path path) target = path_unsent folder (file_at folder path) path target

-- HEAD gets no bytes after it
pub sent_bytes-HEAD : (folder : Folder) (get head : RequestText) → AsksHead get head
    → sent_bytes (folder_reply folder head).content ≡ []
sent_bytes-HEAD folder get head asks =
    rw (by_head folder head asks.by_head) (route_unsent folder (route_of head.target) head.target)
