use Rattle.std.proofs.Common.{ap, ◌∙◌, None}
use Rattle.wait_graph.specs.Graphs.{waits, with_request}
use Rattle.wait_graph.proofs.Kept.{stop_still}
use Rattle.wait_graph.proofs.graph.WaitGraph.stop.Goals as goal

pub returns-clause-still : goal.returns-clause-still
returns-clause-still c =
    stop_still c.args.self.now c.empty.new.places.entries c.args.owner (λ o. c.empty.ensures.waits o ∙ ap (λ g. with_request (waits g) c.args.owner None o) c.self.view_is)
