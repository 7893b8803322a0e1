-- To be believed: how the folder takes a method (RFC 9110, section 9).
use Rattle.std.specs.Prelude.{ℕ, List, [], ◌∷◌, codes, if◌then◌else◌}
use Rattle.std.specs.List.{list_any}
use Rattle.std.specs.Str.{bytes_eq}
use Rattle.app_trait.specs.declared.method.Method.{Method}
use Rattle.app_trait.specs.declared.method.Method.TheVariants.{Get, Head, Options, Refused, Unknown}

-- the methods that are known and not served
abbrev pub refused_methods : List (List ℕ)
refused_methods =
    codes "POST" ∷ codes "PUT" ∷ codes "DELETE" ∷ codes "PATCH" ∷ codes "TRACE" ∷ codes "CONNECT" ∷ []

-- a method is told by its bytes, with regard to case
abbrev pub method_of : List ℕ → Method
method_of method =
    if bytes_eq method (codes "GET") then Get
    else (if bytes_eq method (codes "HEAD") then Head
    else (if bytes_eq method (codes "OPTIONS") then Options
    else (if list_any (bytes_eq method) refused_methods then Refused else Unknown)))
