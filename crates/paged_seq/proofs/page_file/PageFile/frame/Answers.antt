use Rattle.std.proofs.Common.{◌≡◌, ℕ, List, IfSome, subst}
use Rattle.page_store.specs.Pages.{page_of}
use Rattle.paged_seq.proofs.page_file.PageFile.frame.Goals as goal

pub returns-clause-page : goal.returns-clause-page
returns-clause-page g c known =
    subst (λ (file : List ℕ). IfSome c.frame.result (λ bytes. bytes.now ≡ page_of c.args.page file)) (λ i. (g.P.Disk.history (c.self.view_is i).disk).now.reads)
    (c.frame.ensures.page (g.P.Disk.history c.self.inside.disk).now.reads (c.self.invariant known))
