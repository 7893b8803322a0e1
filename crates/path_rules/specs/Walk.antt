-- Inner: what segments stand for where some folders have been written already.
use Rattle.std.specs.Prelude.{◌≡◌, ℕ, ◌+◌, ◌<◌, ◌∷◌, Bool, not, ◌&&◌, nat_le, List, ◌++◌, length, map}
use Rattle.std.specs.Prelude.{if◌then◌else◌}
use Rattle.std.specs.List.{list_all, slice_split}
use Rattle.path_rules.specs.LimitsAndWords.{longest_path, index_name}
use Rattle.path_rules.specs.Target.{is_slash}
use Rattle.percent_encoding.specs.Percent.{percent_decode}
use Rattle.path_rules.specs.Route.{RouteOf, not_found, index, path, is_empty, is_full_to_last, is_name}
use Rattle.path_rules.specs.Route.{ends_empty, joined}

-- what segments stand for after a written path
unfoldable pub route_behind : List ℕ → List (List ℕ) → RouteOf
route_behind written segments =
    if is_full_to_last segments && list_all is_name (map percent_decode segments)
    && nat_le (length (written ++ joined segments)) longest_path
    then (if ends_empty segments then index ((written ++ joined segments) ++ index_name)
    else path (written ++ joined segments))
    else not_found

-- a segment can follow this many written bytes as a folder, with a `/` after it
unfoldable pub can_follow : ℕ → List ℕ → Bool
can_follow written segment =
    not (is_empty segment) && is_name (percent_decode segment)
    && nat_le (written + length (percent_decode segment) + 1) 8192

-- a path begins with a segment, a `/` and more
pub record IsFirstOf (bytes segment more : List ℕ) : Type 0 where
  pub cut : slice_split is_slash bytes ≡ segment ∷ slice_split is_slash more
  pub shorter : length more < length bytes
