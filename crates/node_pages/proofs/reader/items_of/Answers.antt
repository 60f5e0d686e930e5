use Rattle.std.proofs.Common.{arith, ◌≡◌, ◌-◌, ◌+◌, ◌++◌, suc, Some, sym, ◌∙◌}
use Rattle.node_pages.specs.Reading.{items_in, ahead, one_of}
use Rattle.node_pages.proofs.ItemLaws.{one_read}
use Rattle.node_pages.proofs.reader.items_of.Goals as goal

pub loop-preserved : goal.loop-preserved
loop-preserved g c =
    let read = g.F.PageRead.item_in in
    let x = c.in-Some.item in
    let n = c.args.count - (c.loop.counter + 1) in
    let count : c.args.count - c.loop.counter ≡ suc (c.args.count - (c.loop.counter + 1)) = omega arith in
    let is : g.F.PageRead.item_in c.loop.last c.loop.rest.now ≡ Some (c.in-Some.item, c.in-Some.size) = sym c.in_ok-item.ensures.value ∙ c.in-Some.is in
    c.loop.invariant
    ∙ one_read read n (c.args.count - c.loop.counter) (c.loop.items ++ one_of c.loop.last) c.loop.last c.loop.rest.now x c.in-Some.size count is
    ∙ (λ i. ahead ((c.loop.items ++ one_of (sym c.replace.ensures.value i)) ++ one_of (sym c.replace.ensures.after i)) (items_in read n (sym c.replace.ensures.after i) (sym c.split_at.ensures.back i)))
    ∙ (λ i. ahead (sym c.in_ok-keep.ensures i ++ one_of c.replace.new.self) (items_in read n c.replace.new.self c.split_at.result.1.now))
