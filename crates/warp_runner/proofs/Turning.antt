-- What is done in turn, until one stops.
use Rattle.std.proofs.Common.{◌≡◌, ℕ, List, [], ◌∷◌, sym, refl, ap, ◌∙◌, subst, inl, inr, arith, append-nil}
use Rattle.std.proofs.Common.{append_assoc}
use Rattle.std.specs.Prelude.{Option, Some, None}
use Rattle.reg_keys.specs.declared.entry.Entry.{Entry}
use Rattle.timeout_mgr.specs.declared.view.TimeCall.{TimeCall}
use Rattle.warp_tally.specs.declared.calls.TallyEntry.{TallyEntry}
use Rattle.warp_books.specs.Books.{FinishedTold}
use Rattle.warp_runner.specs.Acts.{Acts, nothing, then}
use Rattle.warp_runner.specs.Deeds.{InTurn}

acts_same : (a b : Acts) → a.calls ≡ b.calls → a.all_out ≡ b.all_out → a.tallied ≡ b.tallied
    → a.timed ≡ b.timed → a.handed ≡ b.handed → a ≡ b
acts_same a b p q r s t =
    ap (λ (x : List Entry).
    record { calls = x; all_out = a.all_out; tallied = a.tallied; timed = a.timed; handed = a.handed }) p
    ∙ ap (λ (x : ℕ).
    record { calls = b.calls; all_out = x; tallied = a.tallied; timed = a.timed; handed = a.handed }) q
    ∙ ap (λ (x : List TallyEntry).
    record { calls = b.calls; all_out = b.all_out; tallied = x; timed = a.timed; handed = a.handed }) r
    ∙ ap (λ (x : List TimeCall).
    record { calls = b.calls; all_out = b.all_out; tallied = b.tallied; timed = x; handed = a.handed }) s
    ∙ ap (λ (x : List FinishedTold).
    record { calls = b.calls; all_out = b.all_out; tallied = b.tallied; timed = b.timed; handed = x }) t

pub then_assoc : (a b c : Acts) → then (then a b) c ≡ then a (then b c)
then_assoc a b c =
    acts_same (then (then a b) c) (then a (then b c)) (append_assoc a.calls b.calls c.calls)
    (omega arith) (append_assoc a.tallied b.tallied c.tallied)
    (append_assoc a.timed b.timed c.timed) (append_assoc a.handed b.handed c.handed)

pub then_nothing : (a : Acts) → then a nothing ≡ a
then_nothing a =
    acts_same (then a nothing) a (append-nil a.calls) (omega arith) (append-nil a.tallied)
    (append-nil a.timed) (append-nil a.handed)

pub nothing_then : (a : Acts) → then nothing a ≡ a
nothing_then a = acts_same (then nothing a) a refl (omega arith) refl refl refl

module _ {A : Type 0} (Does : A → Acts → Option ℕ → Type 0) (whole : List A) where
  -- how far one has come: what was done so far, and what is left makes it whole
  pub record GoneThrough (left : List A) (Made : Acts → Type 0) : Type 0 where
    pub acts : Acts
    pub made : Made acts
    pub goes : (rest : Acts) (stopped : Option ℕ) → InTurn Does left rest stopped
        → InTurn Does whole (then acts rest) stopped

  pub gone_none : (Made : Acts → Type 0) → Made nothing → GoneThrough whole Made
  gone_none Made made = record {
    acts = nothing;
    made = made;
    goes = λ rest stopped i. subst (λ (x : Acts). InTurn Does whole x stopped) (sym (nothing_then rest)) i;
  }

  -- one more, which didn't stop
  pub gone_on : (x : A) (old left : List A) (Made After : Acts → Type 0) (first : Acts)
      → GoneThrough old Made → old ≡ x ∷ left → Does x first None
      → ((a : Acts) → Made a → After (then a first)) → GoneThrough left After
  gone_on x old left Made After first g is does made = record {
    acts = then g.acts first;
    made = made g.acts g.made;
    goes =
        λ rest stopped i.
        subst (λ (y : Acts). InTurn Does whole y stopped) (sym (then_assoc g.acts first rest))
        (g.goes (then first rest) stopped (subst (λ (l : List A). InTurn Does l (then first rest) stopped)
        (sym is) (inr (first, rest, does, refl, i))));
  }

  -- none is left
  pub gone_all : (left : List A) (Made : Acts → Type 0) → GoneThrough left Made
      → left ≡ [] → (acts : Acts) × Made acts × InTurn Does whole acts None
  gone_all left Made g is = (
    g.acts,
    g.made,
    subst (λ (y : Acts). InTurn Does whole y None) (then_nothing g.acts)
        (g.goes nothing None (subst (λ (l : List A). InTurn Does l nothing None) (sym is) (refl, refl))),
  )

  -- one stopped
  pub gone_stopped : (x : A) (old left : List A) (Made After : Acts → Type 0)
      (first : Acts) (stopped : Option ℕ) (code : ℕ)
      → GoneThrough old Made → old ≡ x ∷ left → Does x first stopped → stopped ≡ Some code
      → ((a : Acts) → Made a → After (then a first))
      → (acts : Acts) × After acts × InTurn Does whole acts stopped
  gone_stopped x old left Made After first stopped code g is does stops made = (
    then g.acts first,
    made g.acts g.made,
    g.goes first stopped
        (subst (λ (l : List A). InTurn Does l first stopped) (sym is) (inl (code, stops, does))),
  )
