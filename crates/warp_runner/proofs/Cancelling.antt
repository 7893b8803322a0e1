-- A watch is cancelled again and again.
use Rattle.std.proofs.Common.{◌≡◌, List, [], ◌∷◌, ◌++◌, sym, refl, ap, ◌∙◌, inl, inr, append-nil}
use Rattle.std.proofs.Common.{append_assoc}
use Rattle.std.specs.Prelude.{◌⊎◌}
use Rattle.timeout_mgr.specs.declared.view.WatchName.{WatchName}
use Rattle.timeout_mgr.specs.declared.view.TimeCall.{TimeCall}
use Rattle.timeout_mgr.specs.declared.view.TimeCall.TheVariants.{Cancel}
use Rattle.timeout_mgr.specs.declared.view.CancelOutcome.TheVariants as Cancels
use Rattle.warp_runner.specs.Deeds.{AreCancels}

-- each was in the way of others
abbrev pub AreAgain : WatchName → List TimeCall → Type 0
AreAgain w [] = Unit {0}
AreAgain w (c ∷ cs) = (c ≡ Cancel w Cancels.Again) × AreAgain w cs

pub once_more : (w : WatchName) (cs : List TimeCall) → AreAgain w cs
    → AreAgain w (cs ++ Cancel w Cancels.Again ∷ [])
once_more w [] a = (refl, tt)
once_more w (c ∷ cs) a = (a.0, once_more w cs a.1)

pub at_last : (w : WatchName) (cs : List TimeCall) (c : TimeCall) → (c ≡ Cancel w Cancels.Cancelled)
    ⊎ (c ≡ Cancel w Cancels.Gone) → AreAgain w cs → AreCancels w (cs ++ c ∷ [])
at_last w [] c last a = inl (last, refl)
at_last w (x ∷ cs) c last a = inr (a.0, at_last w cs c last a.1)

-- what was made so far
pub record Tried (w : WatchName) (before now : List TimeCall) : Type 0 where
  pub agains : List TimeCall
  pub are : AreAgain w agains
  pub made : now ≡ before ++ agains

pub tried_none : (w : WatchName) (before : List TimeCall) → Tried w before before
tried_none w before = record { agains = []; are = tt; made = sym (append-nil before) }

pub tried_more : (w : WatchName) (before now later : List TimeCall) → Tried w before now
    → later ≡ now ++ Cancel w Cancels.Again ∷ [] → Tried w before later
tried_more w before now later t is = record {
  agains = t.agains ++ Cancel w Cancels.Again ∷ [];
  are = once_more w t.agains t.are;
  made =
      is ∙ ap (λ (l : List TimeCall). l ++ Cancel w Cancels.Again ∷ []) t.made
      ∙ append_assoc before t.agains (Cancel w Cancels.Again ∷ []);
}

pub tried_last : (w : WatchName) (before now later : List TimeCall) (c : TimeCall)
    → (c ≡ Cancel w Cancels.Cancelled) ⊎ (c ≡ Cancel w Cancels.Gone) → Tried w before now
    → later ≡ now ++ c ∷ []
    → (cancels : List TimeCall) × AreCancels w cancels × (later ≡ before ++ cancels)
tried_last w before now later c last t is = (
  t.agains ++ c ∷ [],
  at_last w t.agains c last t.are,
  is ∙ ap (λ (l : List TimeCall). l ++ c ∷ []) t.made ∙ append_assoc before t.agains (c ∷ []),
)
