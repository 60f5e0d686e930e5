use Rattle.std.proofs.Common.{◌≡◌, ◌-◌, ◌++◌, None}
use Rattle.node_pages.specs.Reading.{items_in, ahead, one_of}
use Rattle.node_pages.proofs.reader.items_of.Given as goal

abbrev pub invariant-loop : goal.invariant-loop
invariant-loop g l = items_in g.F.PageRead.item_in l.count None l.bytes ≡ ahead (l.items ++ one_of l.last) (items_in g.F.PageRead.item_in (l.count - l.counter) l.last l.rest)
