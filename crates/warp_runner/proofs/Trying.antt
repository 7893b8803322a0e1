-- Calls that are made again until they aren't refused.
use Rattle.std.proofs.Common.{◌≡◌, ℕ, List, [], ◌∷◌, ◌++◌, sym, refl, subst, inl, inr}
use Rattle.std.specs.Prelude.{◌⊎◌, Option}
use Rattle.std.proofs.lemmas.List.{map-append}
use Rattle.std.specs.Option.{option_to_list}
use Rattle.reg_keys.specs.declared.opening.Opening.{Opening}
use Rattle.reg_keys.specs.declared.event.EventName.{EventName}
use Rattle.reg_keys.specs.declared.registration.Key.{Key}
use Rattle.reg_keys.specs.declared.registration.Dir.{Dir}
use Rattle.reg_keys.specs.declared.entry.LoadKind.TheVariants as Kinds
use Rattle.reg_keys.specs.declared.entry.Entry.{Entry}
use Rattle.reg_keys.specs.declared.entry.Entry.TheVariants as Entries
use Rattle.reg_keys.specs.declared.entry.OpenOutcome.TheVariants as Opens
use Rattle.reg_keys.specs.declared.entry.RegisterOutcome.{RegisterOutcome}
use Rattle.reg_keys.specs.declared.entry.RegisterOutcome.TheVariants as Registers
use Rattle.event_mgr.specs.Manager.{MgrView, IsWellFormed}
use Rattle.dispatcher.specs.Runs.{CallsOfRuns}
use Rattle.warp_runner.specs.Acts.{Acts, Did, nothing, called, then, told_of}
use Rattle.warp_runner.specs.Calls.{DidAt}
use Rattle.warp_runner.specs.Deeds.{AreNoOpenings, AreRefusals, IsNoOpening, IsOpenedAtLast, IsOpenedNever}
use Rattle.warp_runner.specs.Deeds.{IsTriedUntilSpent, IsTriedUntilTaken, registering, tried}
use Rattle.warp_runner.proofs.Doing.{did_then}

-- acts by their calls alone
abbrev made_of : List Entry → Acts
made_of calls = record { calls = calls; all_out = 0; tallied = []; timed = []; handed = [] }

refused_more : (outs : List RegisterOutcome) (out : RegisterOutcome)
    → ((out ≡ Registers.Shut) ⊎ (out ≡ Registers.Crowded)) → AreRefusals outs → AreRefusals (outs ++ out ∷ [])
refused_more [] out is are = (is, tt)
refused_more (x ∷ outs) out is are = (are.0, refused_more outs out is are.1)

module _ (o : Opening) (d : Dir) (m : Option ℕ) (name : List (List ℕ)) (u : MgrView) where
  -- what was tried so far
  pub record TriedSo (v : MgrView) : Type 0 where
    pub outs : List RegisterOutcome
    pub are : AreRefusals outs
    pub did : DidAt u (tried o d m name outs) [] v

  pub tried_none : DidAt u nothing [] u → TriedSo u
  tried_none did = record { outs = []; are = tt; did = did }

module _ (u : MgrView) where
  -- the openings that were refused so far
  pub record OpenedSo (v : MgrView) : Type 0 where
    pub tries : List Acts
    pub before : Acts
    pub are : AreNoOpenings tries before
    pub did : DidAt u before [] v

  pub opened_none : DidAt u nothing [] u → OpenedSo u
  opened_none did = record { tries = []; before = nothing; are = refl; did = did }

module _ {T : Type 0} {tag : T → List (List ℕ)} (rules : CallsOfRuns tag) where
  module _ (o : Opening) (d : Dir) (m : Option ℕ) (name : List (List ℕ)) (u : MgrView) where
    pub tried_more : (v w : MgrView) (out : RegisterOutcome)
        → ((out ≡ Registers.Shut) ⊎ (out ≡ Registers.Crowded)) → TriedSo o d m name u v
        → DidAt v (registering o d m name out) [] w → TriedSo o d m name u w
    tried_more v w out is t did =
        let entry : RegisterOutcome → Entry = λ x. Entries.Register o d m (Kinds.Job name) x in record {
          outs = t.outs ++ out ∷ [];
          are = refused_more t.outs out is t.are;
          did = λ a s b. subst (λ (l : List Entry). Did (told_of u a s b) (made_of l) [] (told_of w a s b))
              (sym (map-append entry t.outs (out ∷ [])))
              (did_then rules (told_of u a s b) (told_of v a s b) (told_of w a s b) (tried o d m name t.outs)
              (registering o d m name out) [] [] (t.did a s b) (did a s b));
        }

    pub tried_last : (v w : MgrView) (e : Option EventName) → TriedSo o d m name u v
        → ((key : Key) × DidAt v (registering o d m name (Registers.Waits key e)) (option_to_list e) w)
        → (acts : Acts) × DidAt u acts (option_to_list e) w × IsTriedUntilTaken o d m name acts
    tried_last v w e t did = (
      then (tried o d m name t.outs) (registering o d m name (Registers.Waits did.0 e)),
      λ a s b.
          did_then rules (told_of u a s b) (told_of v a s b) (told_of w a s b) (tried o d m name t.outs)
          (registering o d m name (Registers.Waits did.0 e))
          [] (option_to_list e) (t.did a s b) (did.1 a s b),
      (t.outs, t.are, (did.0, e, refl)),
    )

    pub tried_spent : (v w : MgrView) → TriedSo o d m name u v
        → DidAt v nothing [] w ⊎ DidAt v (registering o d m name Registers.Spent) [] w
        → (acts : Acts) × DidAt u acts [] w × IsTriedUntilSpent o d m name acts
    tried_spent v w t (inl did) = (
      then (tried o d m name t.outs) nothing,
      λ a s b.
          did_then rules (told_of u a s b) (told_of v a s b) (told_of w a s b)
          (tried o d m name t.outs) nothing
          [] [] (t.did a s b) (did a s b),
      (t.outs, t.are, (nothing, inl refl, refl)),
    )
    tried_spent v w t (inr did) = (
      then (tried o d m name t.outs) (registering o d m name Registers.Spent),
      λ a s b.
          did_then rules (told_of u a s b) (told_of v a s b) (told_of w a s b) (tried o d m name t.outs)
          (registering o d m name Registers.Spent) [] [] (t.did a s b) (did a s b),
      (t.outs, t.are, (registering o d m name Registers.Spent, inr refl, refl)),
    )

  module _ (u : MgrView) where
    pub opened_more : (v w : MgrView) (acts : Acts) → IsNoOpening acts → OpenedSo u v
        → DidAt v acts [] w → OpenedSo u w
    opened_more v w acts is t did = record {
      tries = acts ∷ t.tries;
      before = then t.before acts;
      are = (t.before, t.are, is, refl);
      did =
          λ a s b. did_then rules (told_of u a s b) (told_of v a s b) (told_of w a s b) t.before acts
          [] [] (t.did a s b) (did a s b);
    }

    pub opened_last : (v w : MgrView) (o : Opening) → OpenedSo u v
        → DidAt v (called (Entries.Open o.fd (Opens.Opened o))) [] w × IsWellFormed o
        → (acts : Acts) × DidAt u acts [] w × IsOpenedAtLast o acts × IsWellFormed o
    opened_last v w o t did = (
      then t.before (called (Entries.Open o.fd (Opens.Opened o))),
      λ a s b.
          did_then rules (told_of u a s b) (told_of v a s b) (told_of w a s b) t.before
          (called (Entries.Open o.fd (Opens.Opened o))) [] [] (t.did a s b) (did.0 a s b),
      (t.tries, t.before, t.are, refl),
      did.1,
    )

    pub opened_never : (v w : MgrView) → OpenedSo u v
        → DidAt v nothing [] w ⊎ ((fd : ℕ) × DidAt v (called (Entries.Open fd Opens.Spent)) [] w)
        → (acts : Acts) × DidAt u acts [] w × IsOpenedNever acts
    opened_never v w t (inl did) = (
      then t.before nothing,
      λ a s b.
          did_then rules (told_of u a s b) (told_of v a s b) (told_of w a s b) t.before nothing
          [] [] (t.did a s b) (did a s b),
      (t.tries, t.before, nothing, t.are, inl refl, refl),
    )
    opened_never v w t (inr did) = (
      then t.before (called (Entries.Open did.0 Opens.Spent)),
      λ a s b.
          did_then rules (told_of u a s b) (told_of v a s b) (told_of w a s b) t.before
          (called (Entries.Open did.0 Opens.Spent)) [] [] (t.did a s b) (did.1 a s b),
      (t.tries, t.before, called (Entries.Open did.0 Opens.Spent), t.are, inr (did.0, refl), refl),
    )
