-- A connection that is brought on, step by step.
use Rattle.std.proofs.Common.{◌≡◌, ℕ, List, [], ◌++◌, sym, refl, ap, ◌∙◌, append-nil, append_assoc, ⊎_elim}
use Rattle.std.proofs.Common.{subst}
use Rattle.std.specs.Prelude.{◌⊎◌}
use Rattle.warp_runner.specs.declared.bringing.Brought.{Brought}
use Rattle.warp_runner.specs.declared.bringing.Brought.TheVariants.{Spent}
use Rattle.warp_runner.specs.Runs.{HasBrought}
use Rattle.outside.specs.Moments.{ClockTold}
use Rattle.warp_jobs.specs.Held.{Held}
use Rattle.warp_jobs.specs.Sessions.{HasGone, HasSupplied, number_after}
use Rattle.warp_jobs.specs.declared.session.Went.{Went}
use Rattle.warp_runner.specs.Deeds.{IsBroughtOn}

pub on_at_first : (h : Held) → h.conn.waits ≡ h.number → IsBroughtOn h h
on_at_first h counted = record {
  opening = refl;
  plan = refl;
  watch = refl;
  asked = [];
  moments = sym (append-nil h.conn.moments);
  counted = counted;
}

-- one step more, of which a lease was given back or not
pub on_then : (h k l m : Held) (went : Went) (clock after : ClockTold) → IsBroughtOn h k
    → HasGone went k l clock after
    → m ≡ record l { conn = record l.conn { lease = m.conn.lease; entry = m.conn.entry } }
    → m.conn.waits ≡ m.number → IsBroughtOn h m
on_then h k l m went clock after on gone same counted = record {
  opening = ap (λ (x : Held). x.opening) same ∙ gone.opening ∙ on.opening;
  plan = ap (λ (x : Held). x.link.plan) same ∙ gone.plan ∙ on.plan;
  watch = ap (λ (x : Held). x.watch) same ∙ gone.watch ∙ on.watch;
  asked = on.asked ++ gone.clocked.gained;
  moments =
      ap (λ (x : Held). x.conn.moments) same ∙ gone.clocked.grown
      ∙ ap (λ (l : List ℕ). l ++ gone.clocked.gained) on.moments
      ∙ append_assoc h.conn.moments on.asked gone.clocked.gained;
  counted = counted;
}

pub number_then : (h k l m : Held) (went : Went) (clock after : ClockTold) → k.number ≡ h.number
    → HasGone went k l clock after
    → m ≡ record l { conn = record l.conn { lease = m.conn.lease; entry = m.conn.entry } }
    → m.number ≡ number_after went h.number
number_then h k l m went clock after number gone same =
    ap (λ (x : Held). x.number) same ∙ gone.number ∙ ap (λ (n : ℕ). number_after went n) number

-- a file was supplied
pub on_supplied : (h k l : Held) → IsBroughtOn h k → HasSupplied k l → IsBroughtOn h l
on_supplied h k l on s = record {
  opening = ap (λ (x : Held). x.opening) s.same ∙ on.opening;
  plan = ap (λ (x : Held). x.link.plan) s.same ∙ on.plan;
  watch = ap (λ (x : Held). x.watch) s.same ∙ on.watch;
  asked = on.asked;
  moments = ap (λ (x : Held). x.conn.moments) s.same ∙ on.moments;
  counted = ap (λ (x : Held). x.conn.waits) s.same ∙ on.counted ∙ sym (ap (λ (x : Held). x.number) s.same);
}

pub number_supplied : (k l : Held) (n : ℕ) → k.number ≡ n → HasSupplied k l → l.number ≡ n
number_supplied k l n is s = ap (λ (x : Held). x.number) s.same ∙ is

-- what is said of how far it was brought, where the cell of the cache took no more calls as well
pub left_off : (brought way : Brought) (h k : Held) → (brought ≡ way) ⊎ (brought ≡ Spent)
    → HasBrought way h k → HasBrought brought h k
left_off brought way h k is said =
    ⊎_elim (λ e. subst (λ (x : Brought). HasBrought x h k) (sym e) said)
    (λ e. subst (λ (x : Brought). HasBrought x h k) (sym e) tt) is
