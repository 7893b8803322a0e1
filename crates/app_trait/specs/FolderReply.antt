-- To be believed: what a folder answers to a request, a table over the method, the route of the target
-- and what the folder has there.
use Rattle.std.specs.Prelude.{◌≡◌, ℕ, Bool, true, false, List, ◌++◌, Option, Some, None, codes}
use Rattle.outside.specs.Folder.{Folder, Content, file_at}
use Rattle.warp_response.specs.Reply.{Reply, empty, file, location, refusal_reply}
use Rattle.path_rules.specs.Route.{RouteOf, route_of}
use Rattle.path_rules.specs.Route as routed
use Rattle.path_rules.specs.Target.{raw_path_of, query_of}
use Rattle.path_rules.specs.ContentType.{content_type_of}
use Rattle.app_trait.specs.declared.method.Method.{Method}
use Rattle.app_trait.specs.declared.method.Method.TheVariants.{Get, Head, Options, Refused, Unknown}
use Rattle.app_trait.specs.Method.{method_of}
use Rattle.app_trait.specs.Moves.{RequestText}

-- 404: nothing is served there
abbrev pub missing : Reply
missing = refusal_reply 404

-- 405 with Allow: the method is known and isn't served
abbrev pub not_allowed : Reply
not_allowed = record { status = 405; content = empty; kind = None; place = None; allow = true }

-- 200 with Allow: the methods that are served
abbrev pub methods_served : Reply
methods_served = record { status = 200; content = empty; kind = None; place = None; allow = true }

-- 501: the method isn't known
abbrev pub not_implemented : Reply
not_implemented = refusal_reply 501

-- 200 with the file at a path
abbrev pub file_reply : List ℕ → Content → Bool → Reply
file_reply path content send = record {
  status = 200;
  content = file content.0 send;
  kind = Some (content_type_of path);
  place = None;
  allow = false;
}

-- Location: the raw path, `/`, and the query with its `?` where there is one, as they stood in the target
abbrev pub moved_place : List ℕ → List ℕ
moved_place target = location target (record { raw = raw_path_of target; query = query_of target })

-- 301 to the place of the folder
abbrev pub moved : List ℕ → Reply
moved target =
    record { status = 301; content = empty; kind = None; place = Some (moved_place target); allow = false }

-- the path of the file that stands for a folder
abbrev pub index_of : List ℕ → List ℕ
index_of path = path ++ codes "/index.html"

-- the file at a path, where the folder has it
abbrev pub reply_at_index : Option Content → List ℕ → Bool → Reply
reply_at_index None path send = missing
reply_at_index (Some content) path send = file_reply path content send

-- where there is no file at a path, the folder there, if it has an index
abbrev pub reply_at_folder : Option Content → List ℕ → Reply
reply_at_folder None target = missing
reply_at_folder (Some content) target = moved target

-- the file at a path, or else the folder there
abbrev pub reply_at_path : Folder → Option Content → List ℕ → List ℕ → Bool → Reply
reply_at_path folder None path target send = reply_at_folder (file_at folder (index_of path)) target
reply_at_path folder (Some content) path target send = file_reply path content send

-- GET and HEAD go by the route
abbrev pub reply_by_route : Folder → RouteOf → List ℕ → Bool → Reply
reply_by_route folder routed.not_found target send = missing
reply_by_route folder (routed.index path) target send = reply_at_index (file_at folder path) path send
reply_by_route folder (routed.path path) target send =
    reply_at_path folder (file_at folder path) path target send

-- a request goes by its method
abbrev pub reply_by_method : Folder → Method → List ℕ → Reply
reply_by_method folder Get target = reply_by_route folder (route_of target) target true
reply_by_method folder Head target = reply_by_route folder (route_of target) target false
reply_by_method folder Options target = methods_served
reply_by_method folder Refused target = not_allowed
reply_by_method folder Unknown target = not_implemented

-- the reply to a request
unfoldable pub folder_reply : Folder → RequestText → Reply
folder_reply folder request = reply_by_method folder (method_of request.method) request.target

-- the second request asks by HEAD for what the first asks by GET
pub record AsksHead (get head : RequestText) : Type 0 where
  pub by_get : get.method ≡ codes "GET"
  pub by_head : head.method ≡ codes "HEAD"
  pub target : head.target ≡ get.target
