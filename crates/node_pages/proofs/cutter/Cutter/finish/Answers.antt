use Rattle.std.proofs.Common.{◌≡◌, ◌≤◌, ◌<◌, ◌+◌, sym, ap, subst, ◌∙◌}
use Rattle.node_pages.specs.Cuts.{most_pages}
use Rattle.node_pages.specs.Cutting.{Cutting, header_now}
use Rattle.node_pages.specs.Filling.{page_count}
use Rattle.node_pages.specs.PageZero.{count_of}
use Rattle.node_pages.specs.declared.cut.Cut.TheVariants.{Pages, TooMany}
use Rattle.node_pages.proofs.CutSteps.{few_pages, many_pages}
use Rattle.node_pages.proofs.cutter.Cutter.finish.Goals as goal

pub returns : goal.returns
returns c =
    let data_count = c.pages.ensures ∙ ap (λ (x : Cutting). page_count x.data_pages) c.self.view_is in
    let directory_count = c.pages-2.ensures ∙ ap (λ (x : Cutting). page_count x.directory) c.self.view_is in
    let count : c.in-Some.count ≡ count_of (header_now c.args.number c.args.self) = c.in-Some.ensures ∙ (λ i. 1 + data_count i + directory_count i) in
    ap Pages c.in_ok-into_pages.ensures ∙ sym (few_pages c.args.number c.args.self (subst (λ n. n ≤ most_pages) count c.if-count-gt-MOST_PAGES.false))

pub returns-then-count-gt-MOST_PAGES : goal.returns-then-count-gt-MOST_PAGES
returns-then-count-gt-MOST_PAGES c =
    let data_count = c.pages.ensures ∙ ap (λ (x : Cutting). page_count x.data_pages) c.self.view_is in
    let directory_count = c.pages-2.ensures ∙ ap (λ (x : Cutting). page_count x.directory) c.self.view_is in
    let count : c.in-Some.count ≡ count_of (header_now c.args.number c.args.self) = c.in-Some.ensures ∙ (λ i. 1 + data_count i + directory_count i) in
    ap TooMany count ∙ sym (many_pages c.args.number c.args.self (subst (λ n. most_pages < n) count c.if-count-gt-MOST_PAGES.true))
