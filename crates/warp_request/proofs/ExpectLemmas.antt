-- The Expect lines, one more at a time.
use Rattle.std.proofs.Common.{◌≡◌, ℕ, Bool, true, false, cond, ◌==◌, not, List, [], ◌∷◌, ◌++◌, refl, sym, ap}
use Rattle.std.proofs.Common.{◌∙◌}
use Rattle.std.specs.Prelude.{◌&&◌}
use Rattle.std.specs.List.{list_all}
use Rattle.std.specs.Str.{str_eq_ignore_ascii_case}
use Rattle.std.proofs.lemmas.List.Folds.{list_all-append}
use Rattle.warp_request.specs.declared.expect.ExpectLines.TheVariants.{Continue, Other}
use Rattle.warp_request.specs.LimitsAndWords.{expect_name}
use Rattle.warp_request.specs.declared.verdict.Framing.{Framing}
use Rattle.warp_request.specs.Content.{has_content, is_continue, is_expect_fault, waits_for_interim}
use Rattle.warp_request.specs.Fields.{values_of}
use Rattle.warp_request.specs.NamedLines.{expect_lines, expect_with, expects_other, expects_some}
use Rattle.warp_request.proofs.FieldLemmas.{values_of-same, values_of-other}

-- one more Expect line
pub expect_lines-push : (values : List (List ℕ)) (value : List ℕ)
    → expect_lines (values ++ value ∷ []) ≡ expect_with (expect_lines values) value
unfolding expect_lines
expect_lines-push [] value = one (is_continue value)
  where
    one : (this : Bool) → cond (this && true) Continue Other ≡ cond this Continue Other
    one true = refl
    one false = refl
expect_lines-push (v ∷ values) value =
    ap (λ (b : Bool). cond b Continue Other) (list_all-append is_continue (v ∷ values) (value ∷ []))
    ∙ more (list_all is_continue (v ∷ values)) (is_continue value) refl
  where
    more : (before this : Bool) → is_continue value ≡ this
        → cond (before && (this && true)) Continue Other ≡ expect_with (cond before Continue Other) value
    more true true e = sym (ap (λ (b : Bool). cond b Continue Other) e)
    more true false e = sym (ap (λ (b : Bool). cond b Continue Other) e)
    more false this e = refl

-- one more field
pub expect_lines-same : (fields : List (List ℕ × List ℕ)) (name value : List ℕ)
    → str_eq_ignore_ascii_case name expect_name ≡ true
    → expect_lines (values_of expect_name (fields ++ (name, value) ∷ []))
    ≡ expect_with (expect_lines (values_of expect_name fields)) value
expect_lines-same fields name value same =
    ap expect_lines (values_of-same expect_name fields (name, value) same)
    ∙ expect_lines-push (values_of expect_name fields) value

pub expect_lines-other : (fields : List (List ℕ × List ℕ)) (name value : List ℕ)
    → str_eq_ignore_ascii_case name expect_name ≡ false
    → expect_lines (values_of expect_name (fields ++ (name, value) ∷ []))
    ≡ expect_lines (values_of expect_name fields)
expect_lines-other fields name value other =
    ap expect_lines (values_of-other expect_name fields (name, value) other)

-- what the kind of Expect lines decides
pub expect_fault_is : (minor : ℕ) (values : List (List ℕ))
    → is_expect_fault minor values ≡ (minor == 1 && expects_other (expect_lines values))
unfolding expect_lines
expect_fault_is minor [] = refl
expect_fault_is minor (v ∷ values) =
    ap (λ (b : Bool). minor == 1 && b) (by (list_all is_continue (v ∷ values)))
  where
    by : (all : Bool) → not all ≡ expects_other (cond all Continue Other)
    by true = refl
    by false = refl

pub expect_waits_is : (minor : ℕ) (values : List (List ℕ)) (framing : Framing)
    → waits_for_interim minor values framing
    ≡ (minor == 1 && (expects_some (expect_lines values) && has_content framing))
unfolding waits_for_interim expect_lines
expect_waits_is minor [] framing = refl
expect_waits_is minor (v ∷ values) framing =
    ap (λ (b : Bool). minor == 1 && (b && has_content framing)) (by (list_all is_continue (v ∷ values)))
  where
    by : (all : Bool) → true ≡ expects_some (cond all Continue Other)
    by true = refl
    by false = refl
