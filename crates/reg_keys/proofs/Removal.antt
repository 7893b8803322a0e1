-- Since no key waits twice, what a reply takes out by its keys is what passed its test.
use Rattle.std.proofs.Common.{◌≡◌, ℕ, List, map, Bool, refl}
use Rattle.std.specs.Prelude.{filter, not}
use Rattle.reg_keys.specs.declared.registration.Marks.{Marks}
use Rattle.reg_keys.specs.declared.entry.FiredKey.{FiredKey}
use Rattle.reg_keys.specs.declared.entry.ShutKey.{ShutKey}
use Rattle.reg_keys.specs.declared.entry.Entry.{Entry}
use Rattle.reg_keys.specs.Histories.{Registered, without, keys_run, keys_shut, waiting}
use Rattle.reg_keys.specs.Replies.{fired_as, shut_as, IsLegal}
use Rattle.reg_keys.specs.Laws.{left_by_test}
use Rattle.reg_keys.proofs.EndsOnce.{waits_once}

module _ (s c : ℕ) (past : List Entry) (legal : IsLegal s c past) where
  -- a dispatch leaves what didn't pass its test
  pub left_after_run : (marks : Marks) (p : Registered → Bool)
      → without (keys_run (map (fired_as marks) (filter p (waiting past)))) (waiting past)
      ≡ filter (λ w. not (p w)) (waiting past)
  left_after_run marks p =
      left_by_test (λ (r : FiredKey). r.key) (fired_as marks) (λ _. refl) p (waiting past)
      (waits_once s c past legal)

  -- a close leaves the registrations of the other openings
  pub left_after_shut : (p : Registered → Bool)
      → without (keys_shut (map shut_as (filter p (waiting past)))) (waiting past)
      ≡ filter (λ w. not (p w)) (waiting past)
  left_after_shut p =
      left_by_test (λ (x : ShutKey). x.key) shut_as (λ _. refl) p (waiting past) (waits_once s c past legal)
