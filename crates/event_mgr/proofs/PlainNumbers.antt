-- What one more entry of a history, or one more number that was looked at, changes for the plain body.
use Rattle.std.proofs.Common.{◌≡◌, ℕ, false, not, ◌&&◌, List, sym, ap, subst, ◌∙◌}
use Rattle.std.specs.Prelude.{◌==◌}
use Rattle.std.proofs.lemmas.Bool.{eq-eqb, ne_eqb}
use Rattle.event_mgr.specs.declared.numbers.NumbersCall.{NumbersCall}
use Rattle.event_mgr.specs.declared.numbers.NumbersCall.TheVariants.{GiveBack}
use Rattle.event_mgr.specs.declared.numbers.NumbersReply.{NumbersReply}
use Rattle.event_mgr.specs.declared.numbers.NumbersReply.TheVariants.{Back}
use Rattle.event_mgr.specs.Numbers.{is_among, out_after}
use Rattle.event_mgr.proofs.NumbersOut.{among_without}

-- after a number was given back the others are out as before
after_back : (call : NumbersCall) (reply : NumbersReply) (ms : List ℕ) (back n : ℕ)
    → call ≡ GiveBack back → reply ≡ Back
    → is_among (out_after call reply ms) n ≡ (not (back == n) && is_among ms n)
after_back call reply ms back n e f =
    subst (λ c. is_among (out_after c reply ms) n ≡ (not (back == n) && is_among ms n)) (sym e)
    (subst (λ r. is_among (out_after (GiveBack back) r ms) n ≡ (not (back == n) && is_among ms n))
    (sym f) (among_without back n ms))

pub other_back : (call : NumbersCall) (reply : NumbersReply) (ms : List ℕ) (back n : ℕ)
    → call ≡ GiveBack back → reply ≡ Back
    → (back ≡ n → ⊥) → is_among (out_after call reply ms) n ≡ is_among ms n
other_back call reply ms back n e f apart =
    after_back call reply ms back n e f ∙ ap (λ b. not b && is_among ms n) (ne_eqb back n apart)

pub same_back : (call : NumbersCall) (reply : NumbersReply) (ms : List ℕ) (back n : ℕ)
    → call ≡ GiveBack back → reply ≡ Back
    → back ≡ n → is_among (out_after call reply ms) n ≡ false
same_back call reply ms back n e f same =
    after_back call reply ms back n e f ∙ ap (λ b. not b && is_among ms n) (eq-eqb back n same)
