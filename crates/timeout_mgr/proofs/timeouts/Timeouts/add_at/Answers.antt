use Rattle.std.proofs.Common.{ℕ, ◌*◌, ◌≡◌, ap, ◌∙◌, inl, inr, [], ◌∷◌, sym, refl, arith}
use Rattle.atomic_table.specs.Table.{rest}
use Rattle.timeout_mgr.specs.declared.view.Holding.TheVariants.{Holds}
use Rattle.timeout_mgr.specs.declared.view.Shown.TheVariants.{Saw}
use Rattle.timeout_mgr.specs.declared.word.SlotState.TheVariants.{Free}
use Rattle.timeout_mgr.proofs.Packed.{packed, is_free}
use Rattle.timeout_mgr.proofs.Steps.{sees, take_tries, births}
use Rattle.timeout_mgr.proofs.Told.{took, missed, front, decided, stays_told, stays_on, then_decides}
use Rattle.timeout_mgr.proofs.Told.{told_same}
use Rattle.timeout_mgr.proofs.timeouts.Timeouts.add_at.Goals as goal

pub load-found-requires : goal.load-found-requires
load-found-requires c = let sized = c.args.self.now.sized in
    let inside = c.requires.inside in
    (c.requires.own, omega arith, sees _ _ _ _ (omega arith))

pub returns-in_default : goal.returns-in_default
returns-in_default c = let n = c.load-found.result in record {
  own = c.load-found.ensures.0 ∙ c.requires.own;
  adds = (
    Saw c.args.slot n ∷ [],
    stays_told _ _ _ _ refl refl c.load-found.ensures.2.0,
    inl (n, refl, λ u e. absurd (c.in_default.not-Free (is_free _ _ c.of_bits-number.ensures u e))),
  );
}

pub returns-then-number-ge-USES-clause-adds : goal.returns-then-number-ge-USES-clause-adds
returns-then-number-ge-USES-clause-adds c = let n = c.load-found.result in
    let ge = c.if-number-ge-USES.true in
    let p = packed _ _ c.of_bits-number.ensures Free c.in-Free.is (omega arith) in (
      Saw c.args.slot n ∷ [],
      stays_told _ _ _ _ refl refl c.load-found.ensures.2.0,
      inl (n, refl, λ u e. omega (arith, e, ge, p)),
    )

pub compare_exchange-since-requires : goal.compare_exchange-since-requires
compare_exchange-since-requires c = let sized = c.args.self.now.sized in
    let inside = c.requires.inside in
    let lt = c.if-number-ge-USES.false in
    let p = packed _ _ c.of_bits-number.ensures Free c.in-Free.is (omega arith) in (
      c.load-found.ensures.0 ∙ c.requires.own,
      omega arith,
      take_tries _ _ _ _ (omega arith) c.of_bits-number.result.uses _ _ (omega (arith, p))
          (omega (arith, lt)) c.word-making.ensures,
    )

pub returns-then-since-found-clause-adds : goal.returns-then-since-found-clause-adds
returns-then-since-found-clause-adds c = let n : ℕ = c.load-found.result in
    let a = c.compare_exchange-since.result in
    let p = packed _ _ c.of_bits-number.ensures Free c.in-Free.is (omega arith) in
    let e : n ≡ 8 * c.of_bits-number.result.uses = omega (arith, p) in (
      Saw c.args.slot a ∷ Saw c.args.slot n ∷ [],
      stays_on (Saw c.args.slot n ∷ []) (Saw c.args.slot a ∷ []) _ c.load-found.new.seat.me.0 _
          (stays_told _ _ _ _ refl refl c.load-found.ensures.2.0)
          (missed _ _ _ _ _ _ c.compare_exchange-since.ensures.2 c.if-since-found.true),
      inr (
        a,
        c.of_bits-number.result.uses,
        (λ z. c.if-since-found.true (z ∙ sym e)),
        ap (λ m. Saw c.args.slot a ∷ Saw c.args.slot m ∷ []) e,
      ),
    )

pub store-requires : goal.store-requires
store-requires c =
    let sized = c.args.self.now.sized in
    let inside = c.requires.inside in
    let t = took _ _ _ _ _ _ c.compare_exchange-since.ensures.2 c.if-since-found.false in
    let x = c.exchange-vacant.ensures in (
      x.0 ∙ (c.compare_exchange-since.ensures.0 ∙ (c.load-found.ensures.0 ∙ c.requires.own)),
      omega arith,
      births _ _ _ _ (omega arith) c.of_bits-number.result.uses _ c.args.o (ap (λ m. m.0.hand) x.3
          ∙ (t.0.holds ∙ ap (Holds c.args.slot) c.word-making.ensures))
          (front _ _ _ (ap (λ m. m.1) x.3)) c.word-active.ensures,
    )

pub invariant_of-pass-2 : goal.invariant_of-pass-2
invariant_of-pass-2 c =
    let t = took _ _ _ _ _ _ c.compare_exchange-since.ensures.2 c.if-since-found.false in
    let x = c.exchange-vacant.ensures in
    let b =
    c.store.ensures.2 c.of_bits-number.result.uses c.args.o c.word-active.ensures
    (front _ _ _ (ap (λ m. m.1) x.3)) in
    record {
      rests = (
        b.0.holds,
        b.1
            ∙ (ap (λ m. rest m.1) x.3 ∙ (ap rest t.1 ∙ (c.load-found.ensures.2.1 ∙ c.args.pass.now.rests.1))),
        b.0.told,
      );
      inside = c.args.pass.now.inside;
    }

pub returns-clause-adds : goal.returns-clause-adds
returns-clause-adds c =
    let t = took _ _ _ _ _ _ c.compare_exchange-since.ensures.2 c.if-since-found.false in
    let x = c.exchange-vacant.ensures in
    let b =
    c.store.ensures.2 c.of_bits-number.result.uses c.args.o c.word-active.ensures
    (front _ _ _ (ap (λ m. m.1) x.3)) in
    then_decides (Saw c.args.slot c.load-found.result ∷ []) _ _ c.load-found.new.seat.me.0 _
    (stays_told _ _ _ _ refl refl c.load-found.ensures.2.0)
    (then_decides [] _ _ c.compare_exchange-since.new.seat.me.0 _ (stays_told _ _ _ _ refl refl t.0)
    (decided _ _ _ _ (told_same _ _ _ _ _ (ap (λ m. m.0) x.3) b.0)))
