use Rattle.wait_graph.specs.Graphs.{waits}
use Rattle.tx_core.proofs.Cycles.{same_waits}
use Rattle.tx_core.proofs.laws.table_and_graph_tell_who_waits.Goals as goal

pub returns : goal.returns
returns g c = λ table graph live keep s u. same_waits live (waits graph) table keep.waits keep.held s u
