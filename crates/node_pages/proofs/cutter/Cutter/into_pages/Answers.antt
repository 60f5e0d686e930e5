use Rattle.std.proofs.Common.{ap, ◌∙◌}
use Rattle.node_pages.specs.Cutting.{Cutting}
use Rattle.node_pages.specs.Filling.{all_pages, page_count}
use Rattle.node_pages.specs.PageZero.{page_zero}
use Rattle.node_pages.proofs.CutSteps.{pages_made}
use Rattle.node_pages.proofs.cutter.Cutter.into_pages.Goals as goal

pub returns : goal.returns
returns c =
    let same = c.self.view_is in
    let data_count = c.pages.ensures ∙ ap (λ (x : Cutting). page_count x.data_pages) same in
    let directory_count = c.pages-2.ensures ∙ ap (λ (x : Cutting). page_count x.directory) same in
    c.from_vec.ensures
    ∙ pages_made c.args.number c.args.self c.new-pages.ensures.items c.in_ok-push.ensures.items c.in_ok-append.ensures.items c.in_ok-append-2.ensures.items
    (c.in_ok-zero.ensures ∙ (λ i. page_zero (record { base = c.args.number; data_pages = data_count i; directory_pages = directory_count i })))
    (c.into_vec.ensures ∙ c.in_ok-finish.ensures ∙ ap (λ (x : Cutting). all_pages x.data_pages) same)
    (c.into_vec-2.ensures ∙ c.in_ok-finish-2.ensures ∙ ap (λ (x : Cutting). all_pages x.directory) same)
