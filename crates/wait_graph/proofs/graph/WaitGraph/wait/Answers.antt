use Rattle.std.proofs.Common.{ap, ◌∙◌, Some}
use Rattle.wait_graph.specs.Graphs.{waits, with_request}
use Rattle.wait_graph.proofs.Kept.{wait_still}
use Rattle.wait_graph.proofs.graph.WaitGraph.wait.Goals as goal

pub returns-clause-still : goal.returns-clause-still
returns-clause-still c =
    wait_still c.args.self.now c.write.new.places.entries c.args.owner c.args.request c.args.table.now
    (λ o. c.write.ensures.waits o ∙ ap (λ g. with_request (waits g) c.args.owner (Some c.args.request) o) c.self.view_is) c.requires.no_cycle
