-- What segments stand for, one segment after the other.
use Rattle.std.proofs.Common.{take, drop, get_or, Some, None, ◌≡◌, ℕ, ◌+◌, ◌<◌, ◌≤◌, Bool, true, false, not}
use Rattle.std.proofs.Common.{◌&&◌, nat_le, List, [], ◌∷◌, ◌++◌, length, map, codes, refl, append_assoc}
use Rattle.std.proofs.Common.{length-append, arith}
use Rattle.std.specs.List.{list_all, slice_split, position_or_len}
use Rattle.std.proofs.lemmas.List.Elements.{All-from_get_or}
use Rattle.memchr.specs.Find.{IsFirstByte}
use Rattle.path_rules.proofs.Places.{fails, first_or_length}
use Rattle.std.specs.Str.{IsUtf8, is_utf8}
use Rattle.std.proofs.lemmas.Str.{IsUtf8-from_is_utf8}
use Rattle.std.proofs.lemmas.Bool.Decides.{nat_tests}
use Rattle.std.proofs.lemmas.List.Splits.{slice_split_first, slice_split_none, length-slice_split}
use Rattle.std.proofs.Math.Bool.{and-false}
use Rattle.percent_encoding.specs.Percent.{percent_decode}
use Rattle.path_rules.specs.Target.{is_slash}
use Rattle.path_rules.specs.Route.{not_found, index, path, is_empty, is_full_to_last, is_name, joined}
use Rattle.path_rules.specs.Route.{can_be_served, route_in}
use Rattle.path_rules.specs.Walk.{route_behind, can_follow}

-- a number above a bound fails its test
above : (n bound : ℕ) → bound < n → nat_le n bound ≡ false
above n bound over = grind (arith, nat_tests)

-- a number within a bound passes its test
within : (n bound : ℕ) → n ≤ bound → nat_le n bound ≡ true
within n bound fits = grind (arith, nat_tests)

-- with nothing written it is what the segments stand for
pub route_behind-nothing : (segments : List (List ℕ)) → route_behind [] segments ≡ route_in segments
unfolding route_behind route_in can_be_served
route_behind-nothing segments = refl

-- a folder that can follow is written
pub route_behind-folder : (written segment : List ℕ) (rest : List (List ℕ)) → 0 < length rest
    → can_follow (length written) segment ≡ true
    → route_behind written (segment ∷ rest)
    ≡ route_behind (written ++ (percent_decode segment ++ codes "/")) rest
unfolding route_behind can_follow
route_behind-folder written segment [] some follows = absurd (omega arith)
route_behind-folder written segment (next ∷ more) some follows =
    go (is_empty segment) refl (is_name (percent_decode segment)) refl follows
  where
    same : written ++ (percent_decode segment ++ (47 ∷ joined (next ∷ more)))
        ≡ (written ++ (percent_decode segment ++ codes "/")) ++ joined (next ∷ more)
    same = simp append_assoc

    go : (empty : Bool) → is_empty segment ≡ empty → (name : Bool) → is_name (percent_decode segment) ≡ name
        → (not empty && name && nat_le (length written + length (percent_decode segment) + 1) 8192) ≡ true
        → route_behind written (segment ∷ next ∷ more)
        ≡ route_behind (written ++ (percent_decode segment ++ codes "/")) (next ∷ more)
    go true e name n follows' = absurd (cc)
    go false e false n follows' = absurd (cc)
    go false e true n follows' = rw (e, n, same) refl

-- where a folder can't follow, nothing is found
pub route_behind-none : (written segment : List ℕ) (rest : List (List ℕ)) → 0 < length rest
    → can_follow (length written) segment ≡ false
    → route_behind written (segment ∷ rest) ≡ not_found
unfolding route_behind can_follow
route_behind-none written segment [] some follows = absurd (omega arith)
route_behind-none written segment (next ∷ more) some follows =
    go (is_empty segment) refl (is_name (percent_decode segment)) refl follows
  where
    whole : List ℕ
    whole = written ++ (percent_decode segment ++ (47 ∷ joined (next ∷ more)))

    long : length whole ≡ length written
        + (length (percent_decode segment) + (length (joined (next ∷ more)) + 1))
    long =
        let a = length-append written (percent_decode segment ++ (47 ∷ joined (next ∷ more))) in
        let b = length-append (percent_decode segment) (47 ∷ joined (next ∷ more)) in
        let d : length (47 ∷ joined (next ∷ more)) ≡ length (joined (next ∷ more)) + 1 = omega arith in
        omega arith

    go : (empty : Bool) → is_empty segment ≡ empty → (name : Bool) → is_name (percent_decode segment) ≡ name
        → (not empty && name && nat_le (length written + length (percent_decode segment) + 1) 8192) ≡ false
        → route_behind written (segment ∷ next ∷ more) ≡ not_found
    go true e name n follows' = rw e refl
    go false e false n follows' = rw (e, n) (rw (and-false (is_full_to_last (next ∷ more))) refl)
    go false e true n follows' =
        let over : nat_le (length written + length (percent_decode segment) + 1) 8192 ≡ false = follows' in
        let more_than : 8192 < length written + length (percent_decode segment) + 1 =
        grind (arith, nat_tests) in
        let past : 3900 < length whole = omega (arith, long) in
        let far : nat_le (length whole) 3900 ≡ false = above (length whole) 3900 past in
        rw (e, n, far)
        (rw (and-false (is_full_to_last (next ∷ more) && list_all is_name (map percent_decode (next ∷ more))))
        refl)

-- bytes that are no text fail the test
pub is_utf8-not : (bytes : List ℕ) → ¬ (IsUtf8 bytes) → is_utf8 bytes ≡ false
is_utf8-not bytes none = go (is_utf8 bytes) refl
  where
    go : (b : Bool) → is_utf8 bytes ≡ b → b ≡ false
    go true e = absurd (none (IsUtf8-from_is_utf8 bytes e))
    go false e = refl

-- a last segment that is no name, or doesn't fit, is not found
pub last-refused : (written segment : List ℕ)
    → (is_name (percent_decode segment) && nat_le (length written + length (percent_decode segment)) 8192)
    ≡ false
    → route_behind written (segment ∷ []) ≡ not_found
unfolding route_behind
last-refused written segment refused = go (is_name (percent_decode segment)) refl refused
  where
    go : (name : Bool) → is_name (percent_decode segment) ≡ name
        → (name && nat_le (length written + length (percent_decode segment)) 8192) ≡ false
        → route_behind written (segment ∷ []) ≡ not_found
    go false n refused' = rw n refl
    go true n refused' =
        let over : nat_le (length written + length (percent_decode segment)) 8192 ≡ false = refused' in
        let more_than : 8192 < length written + length (percent_decode segment) = grind (arith, nat_tests) in
        let long = length-append written (percent_decode segment) in
        let far : nat_le (length (written ++ percent_decode segment)) 3900 ≡ false =
        above (length (written ++ percent_decode segment)) 3900 (omega arith) in
        rw (n, far) refl

-- nor is a path that is too long
pub last-long : (written segment : List ℕ) → is_name (percent_decode segment) ≡ true
    → 3900 < length (written ++ percent_decode segment)
    → route_behind written (segment ∷ []) ≡ not_found
unfolding route_behind
last-long written segment name long =
    rw (name, above (length (written ++ percent_decode segment)) 3900 long) refl

-- after an empty last segment stands the index
pub last-index : (written segment : List ℕ) → is_name (percent_decode segment) ≡ true
    → length (written ++ percent_decode segment) ≤ 3900 → is_empty segment ≡ true
    → route_behind written (segment ∷ []) ≡ index ((written ++ percent_decode segment) ++ codes "index.html")
unfolding route_behind
last-index written segment name fits empty =
    rw (name, within (length (written ++ percent_decode segment)) 3900 fits, empty) refl

-- another last segment ends the path
pub last-path : (written segment : List ℕ) → is_name (percent_decode segment) ≡ true
    → length (written ++ percent_decode segment) ≤ 3900 → is_empty segment ≡ false
    → route_behind written (segment ∷ []) ≡ path (written ++ percent_decode segment)
unfolding route_behind
last-path written segment name fits full =
    rw (name, within (length (written ++ percent_decode segment)) 3900 fits, full) refl

-- the first of two tests that pass
pub and-first : (a b : Bool) → (a && b) ≡ true → a ≡ true
and-first true b both = refl
and-first false b both = both

-- a path is cut at its first `/`
pub split-first : (bytes : List ℕ) (k : ℕ) → IsFirstByte is_slash bytes (Some k)
    → slice_split is_slash bytes ≡ take k bytes ∷ slice_split is_slash (drop (k + 1) bytes)
split-first bytes k found =
    let at : k ≡ position_or_len is_slash bytes = first_or_length is_slash bytes (Some k) found in
    let small : k < length bytes = found.0.high in
    rw at (slice_split_first is_slash bytes 0 (omega arith))

-- a path without `/` is one segment
pub split-none : (bytes : List ℕ) → IsFirstByte is_slash bytes None → slice_split is_slash bytes ≡ bytes ∷ []
split-none bytes none =
    slice_split_none is_slash bytes
    (All-from_get_or (λ x. is_slash x ≡ false) bytes 0
    (λ j l. fails (is_slash (get_or bytes j 0)) (none j (omega arith) l)))

-- a path has a segment
pub split-some : (bytes : List ℕ) → 0 < length (slice_split is_slash bytes)
split-some bytes = omega (arith, length-slice_split is_slash bytes)
