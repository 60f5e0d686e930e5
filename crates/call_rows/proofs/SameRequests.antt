-- The rows of the books ask what the program's calls ask, by computation.
use Rattle.std.proofs.Common.{refl}
use Rattle.call_rows.specs.Rows.{AsksAlike, node_of, first, children, remove, e, child, missing, empty_store, store_of_one, store_of_two}

pub edge_first : AsksAlike (first e) empty_store
edge_first = refl

pub list_children : AsksAlike (children e) store_of_one
list_children = refl

pub back_node : AsksAlike (node_of missing) store_of_two
back_node = refl

pub back_remove : AsksAlike (remove e (child 1001)) store_of_two
back_remove = refl
