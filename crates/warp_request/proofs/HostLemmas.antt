-- The Host lines, one more at a time.
use Rattle.std.proofs.Common.{◌≡◌, ℕ, Bool, true, false, cond, ◌==◌, not, List, [], ◌∷◌, ◌++◌, refl, ap, ◌∙◌}
use Rattle.std.specs.List.{list_all}
use Rattle.std.specs.Str.{str_eq_ignore_ascii_case}
use Rattle.warp_request.specs.declared.host.HostLines.{HostLines}
use Rattle.warp_request.specs.declared.host.HostLines.TheVariants.{Absent, Right, Wrong}
use Rattle.warp_request.specs.LimitsAndWords.{host_name}
use Rattle.warp_request.specs.Fields.{values_of, is_host_byte, is_host_fault}
use Rattle.warp_request.specs.NamedLines.{host_lines, host_with}
use Rattle.warp_request.proofs.FieldLemmas.{values_of-same, values_of-other}

second_wrong : (t : Bool) (value : List ℕ) → Wrong ≡ host_with (cond t Right Wrong) value
second_wrong true value = refl
second_wrong false value = refl

-- one more Host line
pub host_lines-push : (values : List (List ℕ)) (value : List ℕ)
    → host_lines (values ++ value ∷ []) ≡ host_with (host_lines values) value
unfolding host_lines
host_lines-push [] value = refl
host_lines-push (a ∷ []) value = second_wrong (list_all is_host_byte a) value
host_lines-push (a ∷ b ∷ values) value = refl

-- whether Host lines of this kind are a fault
abbrev pub is_fault_of : HostLines → ℕ → Bool
is_fault_of Absent minor = minor == 1
is_fault_of Right minor = false
is_fault_of Wrong minor = true

one_fault : (t : Bool) (minor : ℕ) → not t ≡ is_fault_of (cond t Right Wrong) minor
one_fault true minor = refl
one_fault false minor = refl

pub host_fault_is : (minor : ℕ) (values : List (List ℕ))
    → is_host_fault minor values ≡ is_fault_of (host_lines values) minor
unfolding host_lines is_host_fault
host_fault_is minor [] = refl
host_fault_is minor (a ∷ []) = one_fault (list_all is_host_byte a) minor
host_fault_is minor (a ∷ b ∷ values) = refl

-- one more field
pub host_lines-same : (fields : List (List ℕ × List ℕ)) (name value : List ℕ)
    → str_eq_ignore_ascii_case name host_name ≡ true
    → host_lines (values_of host_name (fields ++ (name, value) ∷ []))
    ≡ host_with (host_lines (values_of host_name fields)) value
host_lines-same fields name value same =
    ap host_lines (values_of-same host_name fields (name, value) same)
    ∙ host_lines-push (values_of host_name fields) value

pub host_lines-other : (fields : List (List ℕ × List ℕ)) (name value : List ℕ)
    → str_eq_ignore_ascii_case name host_name ≡ false
    → host_lines (values_of host_name (fields ++ (name, value) ∷ []))
    ≡ host_lines (values_of host_name fields)
host_lines-other fields name value other =
    ap host_lines (values_of-other host_name fields (name, value) other)
