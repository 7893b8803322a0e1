use Rattle.std.proofs.Common.{◌≡◌, ℕ, min, length, sym, ap, ◌∙◌, subst}
use Rattle.std.specs.Prelude.{IfSome}
use Rattle.outside.specs.Counts.{full}
use Rattle.app_trait.specs.FolderLaws.{folder_ends}
use Rattle.app_trait.specs.FolderMoves.{folder_move}
use Rattle.conn_loop.specs.ConnState.{ConnState}
use Rattle.warp_books.specs.declared.finish.Finish.TheVariants.{Ended}
use Rattle.warp_books.specs.Truth.{IsTrueTo, finished_of, folder_serving}
use Rattle.warp_jobs.proofs.session.Session.supply.Goals as goal

pub invariant_of-self : goal.invariant_of-self
invariant_of-self g c =
    let was = c.self.invariant in
    let o = c.self.inside.opening in
    let link = g.L.Link.told c.self.inside.link in
    let same = c.supply.ensures.same in record {
      represents = c.supply.ensures.represents folder_move link folder_ends was.represents;
      counted = record {
        waits = ap (λ (s : ConnState). s.waits) same ∙ was.counted.waits;
        bytes =
            subst (λ (n : ℕ). IfSome link.sent (λ s. n ≡ min (length s) full))
            (sym (ap (λ (s : ConnState). s.bytes) same)) was.counted.bytes;
      };
      waits = ap (λ (s : ConnState). s.waits) same ∙ was.waits;
      ended =
          subst (λ (s : ConnState). IfSome s.over
          (λ end. IsTrueTo (folder_serving g.F.Files.folder) (finished_of o link s (Ended end))))
          (sym same) was.ended;
    }
