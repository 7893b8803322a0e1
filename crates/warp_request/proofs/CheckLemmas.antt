-- What the checks of a head say, the first that fails.
use Rattle.std.proofs.Common.{◌≡◌, ℕ, ◌<◌, ◌≤◌, Bool, true, false, length, refl, arith, nat_lt, Option, None}
use Rattle.std.specs.List.{list_all}
use Rattle.std.proofs.lemmas.Bool.Decides.{nat_tests}
use Rattle.warp_request.specs.LimitsAndWords.{field_limit, connection_name, expect_name}
use Rattle.warp_response.specs.Statuses.{bad_request, header_fields_too_large}
use Rattle.warp_request.specs.declared.verdict.Framing.{Framing}
use Rattle.warp_request.specs.Fields.{values_of, stays_open}
use Rattle.warp_request.specs.Checks.{Parts, first_fault, field_checks, framing_by, verdict_by, checked}
use Rattle.warp_request.specs.Content.{waits_for_interim}
use Rattle.warp_request.specs.Target.{is_visible, is_target_form}
use Rattle.warp_request.specs.Verdict.{refused, asked}

few : (n : ℕ) → n ≤ field_limit → nat_lt field_limit n ≡ false
few n small = grind (arith, nat_tests)

many : (n : ℕ) → field_limit < n → nat_lt field_limit n ≡ true
many n large = grind (arith, nat_tests)

pub too_many_fields : (p : Parts) → field_limit < length p.fields
    → checked p ≡ refused header_fields_too_large
unfolding checked
too_many_fields p large = rw (many (length p.fields) large) refl

pub hidden_target : (p : Parts) → length p.fields ≤ field_limit → list_all is_visible p.target ≡ false
    → checked p ≡ refused bad_request
unfolding checked
hidden_target p small hidden = rw (few (length p.fields) small, hidden) refl

pub wrong_form : (p : Parts) → length p.fields ≤ field_limit → list_all is_visible p.target ≡ true
    → is_target_form p.method p.target ≡ false
    → checked p ≡ refused bad_request
unfolding checked
wrong_form p small visible form = rw (few (length p.fields) small, visible, form) refl

pub by_fields : (p : Parts) (fault : Option ℕ) → length p.fields ≤ field_limit
    → list_all is_visible p.target ≡ true → is_target_form p.method p.target ≡ true
    → first_fault (field_checks p.minor p.fields) ≡ fault → checked p ≡ verdict_by fault p
unfolding checked
by_fields p fault small visible form found = rw (few (length p.fields) small, visible, form, found) refl

-- what is asked, where the connection's fate and the framing are known
pub shows_asked : (p : Parts) (framing : Framing) (keeps interim : Bool) → framing_by p.fields ≡ framing
    → keeps ≡ stays_open p.minor (values_of connection_name p.fields)
    → interim ≡ waits_for_interim p.minor (values_of expect_name p.fields) framing
    → asked (record {
      method = p.method;
      target = p.target;
      minor = p.minor;
      len = p.len;
      framing = framing;
      keeps = keeps;
      interim = interim;
    }) ≡ verdict_by None p
shows_asked p framing keeps interim framed kept waits = rw (framed, kept, waits) refl
