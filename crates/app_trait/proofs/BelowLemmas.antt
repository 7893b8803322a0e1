-- Each path that the application of a folder looks for is names joined with `/`.
use Rattle.std.proofs.Common.{◌≡◌, ℕ, ◌+◌, ◌*◌, ◌<◌, Bool, true, false, ◌&&◌, not, List, [], ◌∷◌, ◌++◌}
use Rattle.std.proofs.Common.{Option, Some, None, refl, sym, ap, ◌∙◌, append_assoc, arith}
use Rattle.std.specs.Prelude.{codes, map, if◌then◌else◌, nat_lt, option_map}
use Rattle.std.specs.List.{list_all, join_with_byte, slice_split}
use Rattle.std.specs.Cmp.Derive.{both_true}
use Rattle.std.proofs.lemmas.Bool.{and_parts}
use Rattle.std.proofs.Common.{drop}
use Rattle.std.specs.Char.{digit_value}
use Rattle.std.specs.Str.{is_utf8, IsAscii}
use Rattle.std.proofs.lemmas.Str.{is_utf8-from_IsUtf8, IsUtf8-from_ascii}
use Rattle.std.proofs.lemmas.Str.Ascii.{IsAscii-nil, IsAscii-cons}
use Rattle.std.proofs.lemmas.Bool.Decides.{nat_tests}
use Rattle.std.proofs.lemmas.Bool.{not-true}
use Rattle.percent_encoding.specs.Percent.{percent_decode, is_escape}
use Rattle.path_rules.specs.Target.{is_slash, form_of}
use Rattle.path_rules.specs.Route.{RouteOf, is_empty, is_name, is_full_to_last, ends_empty, joined}
use Rattle.path_rules.specs.Route.{can_be_served, route_in, route_by, raw_text, route_of}
use Rattle.path_rules.specs.Route as routed
use Rattle.app_trait.specs.declared.request.Seen.{Seen}
use Rattle.app_trait.specs.declared.request.Seen.TheVariants.{Nothing, FirstFound, FirstAbsent, SecondFound}
use Rattle.app_trait.specs.declared.request.Seen.TheVariants.{SecondAbsent}
use Rattle.app_trait.specs.declared.method.Method.{Method}
use Rattle.app_trait.specs.declared.method.Method.TheVariants.{Get, Head, Options, Refused, Unknown}
use Rattle.app_trait.specs.Method.{method_of}
use Rattle.app_trait.specs.Moves.{RequestText}
use Rattle.app_trait.specs.Below.{is_file_name, LiesBelow, StaysBelow}
use Rattle.app_trait.specs.FolderReply.{index_of}
use Rattle.app_trait.specs.FolderMoves.{index_move, path_move, move_by_route, move_by_method, folder_move}

-- ---- tests that are joined

-- ---- a segment with a byte decodes to a name with a byte

is_empty-cons : (b : ℕ) (bs : List ℕ) → is_empty (b ∷ bs) ≡ false
is_empty-cons b bs = grind (arith, nat_tests)

decoded_some : (escaped : Bool) (x b : ℕ) (xs ys : List ℕ)
    → is_empty (if escaped then x ∷ xs else b ∷ ys) ≡ false
decoded_some true x b xs ys = is_empty-cons x xs
decoded_some false x b xs ys = is_empty-cons b ys

decode_some : (b : ℕ) (bs : List ℕ) → is_empty (percent_decode (b ∷ bs)) ≡ false
unfolding percent_decode
decode_some b [] = is_empty-cons b []
decode_some b (c ∷ []) = is_empty-cons b (c ∷ [])
decode_some b (high ∷ low ∷ rest) =
    decoded_some (is_escape b high low) (16 * digit_value high + digit_value low) b
    (percent_decode rest) (percent_decode (high ∷ low ∷ rest))

decode_named : (segment : List ℕ) → is_empty segment ≡ false → is_name (percent_decode segment) ≡ true
    → is_file_name (percent_decode segment) ≡ true
decode_named [] some name = cc
decode_named (b ∷ bs) some name =
    both_true
    (ap not (decode_some b bs)) name

-- ---- the names of a path

path_named : (segments : List (List ℕ)) → is_full_to_last segments ≡ true → ends_empty segments ≡ false
    → list_all is_name (map percent_decode segments) ≡ true
    → list_all is_file_name (map percent_decode segments) ≡ true
path_named [] full some names = cc
path_named (s ∷ []) full some names =
    both_true
    (decode_named s some (and_parts (is_name (percent_decode s)) true names).0) refl
path_named (s ∷ t ∷ more) full some names =
    both_true
    (decode_named s (not-true (is_empty s) (and_parts (not (is_empty s)) (is_full_to_last (t ∷ more)) full).0)
    (and_parts (is_name (percent_decode s)) (list_all is_name (map percent_decode (t ∷ more))) names).0)
    (path_named (t ∷ more) (and_parts (not (is_empty s)) (is_full_to_last (t ∷ more)) full).1 some
    (and_parts (is_name (percent_decode s)) (list_all is_name (map percent_decode (t ∷ more))) names).1)

is_ascii_byte : ℕ → Bool
is_ascii_byte b = nat_lt b 128

below_128 : (b : ℕ) → is_ascii_byte b ≡ true → b < 128
unfolding is_ascii_byte
below_128 b is = grind (arith, nat_tests)

ascii_text : (bytes : List ℕ) → list_all is_ascii_byte bytes ≡ true → IsAscii bytes
ascii_text [] is = IsAscii-nil
ascii_text (b ∷ bs) is =
    IsAscii-cons b bs (below_128 b (and_parts (is_ascii_byte b) (list_all is_ascii_byte bs) is).0)
    (ascii_text bs (and_parts (is_ascii_byte b) (list_all is_ascii_byte bs) is).1)

index_text : is_utf8 (codes "index.html") ≡ true
unfolding is_ascii_byte
index_text =
    is_utf8-from_IsUtf8 (codes "index.html")
    (IsUtf8-from_ascii (codes "index.html") (ascii_text (codes "index.html") refl))

index_named : is_file_name (codes "index.html") ≡ true
unfolding is_name
index_named = rw index_text refl

-- names, and the index after them
behind : List (List ℕ) → List (List ℕ)
behind [] = codes "index.html" ∷ []
behind (x ∷ xs) = x ∷ behind xs

behind_named : (names : List (List ℕ)) → list_all is_file_name names ≡ true
    → list_all is_file_name (behind names) ≡ true
unfolding behind
behind_named [] named = both_true index_named refl
behind_named (x ∷ xs) named =
    both_true
    (and_parts (is_file_name x) (list_all is_file_name xs) named).0
    (behind_named xs (and_parts (is_file_name x) (list_all is_file_name xs) named).1)

behind_joins : (x : List ℕ) (xs : List (List ℕ))
    → join_with_byte 47 (x ∷ xs) ++ codes "/index.html" ≡ join_with_byte 47 (behind (x ∷ xs))
unfolding behind
behind_joins x [] = refl
behind_joins x (y ∷ ys) =
    append_assoc x (47 ∷ join_with_byte 47 (y ∷ ys)) (codes "/index.html")
    ∙ ap (λ (t : List ℕ). x ++ (47 ∷ t)) (behind_joins y ys)

folder_below : (segments : List (List ℕ)) → is_full_to_last segments ≡ true → ends_empty segments ≡ false
    → list_all is_name (map percent_decode segments) ≡ true → LiesBelow (index_of (joined segments))
folder_below [] full some names = absurd cc
folder_below (s ∷ more) full some names = record {
  names = behind (map percent_decode (s ∷ more));
  joins = behind_joins (percent_decode s) (map percent_decode more);
  named = behind_named (map percent_decode (s ∷ more)) (path_named (s ∷ more) full some names);
}

-- ---- the names of an index

-- the names of all segments but the last, and the index after them
index_names : List (List ℕ) → List (List ℕ)
index_names [] = codes "index.html" ∷ []
index_names (s ∷ []) = codes "index.html" ∷ []
index_names (s ∷ t ∷ more) = percent_decode s ∷ index_names (t ∷ more)

index_names_named : (segments : List (List ℕ)) → is_full_to_last segments ≡ true
    → list_all is_name (map percent_decode segments) ≡ true
    → list_all is_file_name (index_names segments) ≡ true
unfolding index_names
index_names_named [] full names = both_true index_named refl
index_names_named (s ∷ []) full names = both_true index_named refl
index_names_named (s ∷ t ∷ more) full names =
    both_true
    (decode_named s (not-true (is_empty s) (and_parts (not (is_empty s)) (is_full_to_last (t ∷ more)) full).0)
    (and_parts (is_name (percent_decode s)) (list_all is_name (map percent_decode (t ∷ more))) names).0)
    (index_names_named (t ∷ more) (and_parts (not (is_empty s)) (is_full_to_last (t ∷ more)) full).1
    (and_parts (is_name (percent_decode s)) (list_all is_name (map percent_decode (t ∷ more))) names).1)

join_first : (x : List ℕ) (t : List ℕ) (more : List (List ℕ))
    → join_with_byte 47 (x ∷ index_names (t ∷ more)) ≡ x ++ (47 ∷ join_with_byte 47 (index_names (t ∷ more)))
unfolding index_names
join_first x t [] = refl
join_first x t (u ∷ more) = refl

decoded_none : (s : List ℕ) → is_empty s ≡ true → percent_decode s ≡ []
unfolding percent_decode
decoded_none [] is = refl
decoded_none (b ∷ bs) is = absurd (let no : false ≡ true = sym (is_empty-cons b bs) ∙ is in cc)

index_joins : (segments : List (List ℕ)) → ends_empty segments ≡ true
    → joined segments ++ codes "index.html" ≡ join_with_byte 47 (index_names segments)
unfolding index_names
index_joins [] ends = refl
index_joins (s ∷ []) ends = rw (decoded_none s ends) refl
index_joins (s ∷ t ∷ more) ends =
    append_assoc (percent_decode s) (47 ∷ joined (t ∷ more)) (codes "index.html")
    ∙ ap (λ (x : List ℕ). percent_decode s ++ (47 ∷ x)) (index_joins (t ∷ more) ends)
    ∙ sym (join_first (percent_decode s) t more)

-- ---- what a target stands for lies below

RouteBelow : RouteOf → Type 0
RouteBelow routed.not_found = Unit {0}
RouteBelow (routed.index path) = LiesBelow path
RouteBelow (routed.path path) = LiesBelow path × LiesBelow (index_of path)

chosen : (served empty : Bool) (at_index at_path : List ℕ)
    → (served ≡ true → empty ≡ true → LiesBelow at_index)
    → (served ≡ true → empty ≡ false → LiesBelow at_path × LiesBelow (index_of at_path))
    → RouteBelow
    (if served then (if empty then routed.index at_index else routed.path at_path) else routed.not_found)
unfolding RouteBelow
chosen true true at_index at_path by_index by_path = by_index refl refl
chosen true false at_index at_path by_index by_path = by_path refl refl
chosen false empty at_index at_path by_index by_path = tt

served_full : (segments : List (List ℕ)) → can_be_served segments ≡ true → is_full_to_last segments ≡ true
unfolding can_be_served
served_full segments served =
    (and_parts (is_full_to_last segments) (list_all is_name (map percent_decode segments)) (and_parts _ _ served).0).0

served_named : (segments : List (List ℕ)) → can_be_served segments ≡ true
    → list_all is_name (map percent_decode segments) ≡ true
unfolding can_be_served
served_named segments served =
    (and_parts (is_full_to_last segments) (list_all is_name (map percent_decode segments)) (and_parts _ _ served).0).1

segments_below : (segments : List (List ℕ)) → RouteBelow (route_in segments)
unfolding route_in
segments_below segments =
    chosen (can_be_served segments) (ends_empty segments) (joined segments ++ codes "index.html")
    (joined segments)
    (λ served ends. record {
      names = index_names segments;
      joins = index_joins segments ends;
      named = index_names_named segments (served_full segments served) (served_named segments served);
    })
    (λ served some. (
      record {
        names = map percent_decode segments;
        joins = refl;
        named = path_named segments (served_full segments served) some (served_named segments served);
      },
      folder_below segments (served_full segments served) some (served_named segments served),
    ))

raw_below : (raw : Option (List ℕ)) → RouteBelow (route_by raw)
unfolding RouteBelow
raw_below None = tt
raw_below (Some bytes) = segments_below (slice_split is_slash bytes)

route_below : (target : List ℕ) → RouteBelow (route_of target)
unfolding route_of
route_below target = raw_below (option_map (drop 1) (raw_text target (form_of target)))

-- ---- each look leads below

index_stays : (path : List ℕ) (send : Bool) (seen : Seen) → LiesBelow path
    → StaysBelow (index_move path send seen)
index_stays path send Nothing below = below
index_stays path send (FirstFound size mtime) below = tt
index_stays path send FirstAbsent below = tt
index_stays path send (SecondFound size mtime) below = tt
index_stays path send SecondAbsent below = tt

path_stays : (path target : List ℕ) (send : Bool) (seen : Seen) → LiesBelow path → LiesBelow (index_of path)
    → StaysBelow (path_move path target send seen)
path_stays path target send Nothing below index = below
path_stays path target send (FirstFound size mtime) below index = tt
path_stays path target send FirstAbsent below index = index
path_stays path target send (SecondFound size mtime) below index = tt
path_stays path target send SecondAbsent below index = tt

route_stays : (to : RouteOf) (target : List ℕ) (send : Bool) (seen : Seen) → RouteBelow to
    → StaysBelow (move_by_route to target send seen)
unfolding RouteBelow
route_stays routed.not_found target send seen below = tt
route_stays (routed.index path) target send seen below = index_stays path send seen below
route_stays (routed.path path) target send seen below = path_stays path target send seen below.0 below.1

method_stays : (method : Method) (target : List ℕ) (seen : Seen)
    → StaysBelow (move_by_method method target seen)
method_stays Get target seen = route_stays (route_of target) target true seen (route_below target)
method_stays Head target seen = route_stays (route_of target) target false seen (route_below target)
method_stays Options target seen = tt
method_stays Refused target seen = tt
method_stays Unknown target seen = tt

-- whatever a request says, what is looked for lies below
pub folder_stays : (request : RequestText) (seen : Seen) → StaysBelow (folder_move request seen)
unfolding folder_move
folder_stays request seen = method_stays (method_of request.method) request.target seen
