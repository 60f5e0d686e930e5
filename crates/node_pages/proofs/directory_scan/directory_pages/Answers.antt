use Rattle.std.proofs.Common.{◌≡◌, ◌+◌, ◌∷◌, List, drop, arith, ap, sym, subst, ◌∙◌}
use Rattle.std.proofs.lemmas.List.{drop_more, drop_all}
use Rattle.std.proofs.lemmas.Result.{IfOk-weaker}
use Rattle.std.specs.List.{AllByRecursion}
use Rattle.node_pages.specs.Filling.{Fill, with_item, with_items, no_items}
use Rattle.node_pages.specs.PageStarts.{start_behind}
use Rattle.node_pages.specs.ScanFaults.{FitsOnPage}
use Rattle.node_pages.specs.declared.page_start.PageStart.{PageStart}
use Rattle.node_pages.proofs.ScanLaws.{directory_done}
use Rattle.node_pages.proofs.directory_scan.directory_pages.Goals as goal

pub put-requires : goal.put-requires
put-requires c =
    let l = c.loop-start in
    let xs = c.args.starts.now in
    let x = c.start-item.result in
    let rest = drop (l.start-index + 1) xs in
    let here : drop l.start-index xs ≡ x ∷ rest = drop_more xs l.start-index x (omega arith) ∙ ap (λ (y : PageStart). y ∷ rest) (sym c.start-item.is) in
    let fit = subst (AllByRecursion FitsOnPage) here l.invariant.fit in
    record {
      room = subst FitsOnPage (sym c.in_ok-copy.ensures) fit.0;
      sized = l.invariant.sized;
    }

pub loop-start-preserved : goal.loop-start-preserved
loop-start-preserved c =
    let l = c.loop-start in
    let xs = c.args.starts.now in
    let x = c.start-item.result in
    let rest = drop (l.start-index + 1) xs in
    let here : drop l.start-index xs ≡ x ∷ rest = drop_more xs l.start-index x (omega arith) ∙ ap (λ (y : PageStart). y ∷ rest) (sym c.start-item.is) in
    let fit = subst (AllByRecursion FitsOnPage) here l.invariant.fit in
    record {
      sized = c.in_ok-put.ensures.sized;
      fit = fit.1;
      items =
          ap (λ (f : Fill PageStart). with_items start_behind f rest) (c.in_ok-put.ensures.ok ∙ ap (with_item start_behind l.filler) c.in_ok-copy.ensures)
          ∙ ap (λ (ss : List PageStart). with_items start_behind l.filler ss) (sym here)
          ∙ l.invariant.items;
    }

pub returns : goal.returns
returns c =
    let l = c.loop-start in
    let xs = c.args.starts.now in
    let done : l.filler ≡ with_items start_behind (no_items 4_294_967_295) xs = ap (λ (ss : List PageStart). with_items start_behind l.filler ss) (sym (drop_all l.start-index xs (omega arith))) ∙ l.invariant.items in
    IfOk-weaker c.finish.result _ _ (λ pages is. is ∙ directory_done xs l.filler c.requires.fits done l.invariant.sized) c.finish.ensures
