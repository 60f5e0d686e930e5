use Rattle.node_records.proofs.KeyOrder.{keys_sort}
use Rattle.node_records.proofs.laws.keys_sort_as_their_bytes.Goals as goal

pub returns : goal.returns
returns c = keys_sort
