use Rattle.std.proofs.Common.{◌≡◌, ◌++◌, take}
use Rattle.tree_model.specs.declared.record.Record.TheVariants.{Element}
use Rattle.tree_model.specs.Tree.{own}
use Rattle.dom_writes.proofs.grafts.push_element.Given as goal

-- behind the entries before are those of the element and of its attributes so far
abbrev pub invariant-loop-attribute : goal.invariant-loop-attribute
invariant-loop-attribute l = l.entries ≡ l.fn.entries ++ own l.at (Element l.name) (take l.attribute-index l.attribute-items)
