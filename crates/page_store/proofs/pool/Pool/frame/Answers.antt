use Rattle.std.proofs.Common.{◌≡◌, ℕ, List, Option, IfSome, subst, sym, ◌∙◌}
use Rattle.page_store.specs.Pages.{ArePagesOf, PoolView, page_of}
use Rattle.page_store.proofs.KeptLaws.{page_found}
use Rattle.page_store.proofs.pool.Pool.frame.Goals as goal

pub returns-in-Some-clause-page : goal.returns-in-Some-clause-page
returns-in-Some-clause-page c file kept =
    let pages = subst (λ (v : PoolView). ArePagesOf file v.kept) (sym c.self.view_is) kept in
    c.bytes.ensures.bytes ∙ subst (λ (o : Option (List ℕ)). IfSome o (λ bytes. bytes ≡ page_of c.args.page file)) (sym c.in-Some.ensures) (page_found file c.args.page c.self.inside.frames.entries pages)
