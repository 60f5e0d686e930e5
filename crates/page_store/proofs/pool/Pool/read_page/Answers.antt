use Rattle.std.proofs.Common.{refl, subst, rules, IsTrue}
use Rattle.outside_traits.specs.Moments.{History}
use Rattle.page_store.specs.Pages.{ArePagesOf}
use Rattle.page_store.proofs.pool.Pool.read_page.Goals as goal

pub returns : goal.returns
returns g c =
    let file = (g.P.Disk.history c.args.disk.now).now.reads in
    let kept : IsTrue g.P.Disk.is_known → ArePagesOf (g.P.Disk.history c.args.disk.now).now.reads c.fill.new.self.kept =
    λ known. subst (λ (h : History). ArePagesOf h.now.reads c.fill.new.self.kept) (c.fill.ensures.same known) (c.fill.ensures.pages known) in (
      (refl, λ _. tt, (c.fill.ensures.after.asked, search rules, kept, c.in_ok-fill.ensures.after.pages)),
      record {
        after = tt;
        kept_suffices = λ kept. (refl, (c.fill.ensures.kept_suffices kept).1);
        value = λ known. c.in-Some.ensures.page file (kept known);
        length = c.in-Some.ensures.length;
        same = c.fill.ensures.same;
        cause = search rules;
      },
    )
