use Rattle.std.proofs.Common.{◌≡◌, Some, subst}
use Rattle.tree_model.specs.Entries.{Entries, Sorted}
use Rattle.overlays.specs.Layered.{Stack}
use Rattle.overlays.proofs.SeenLaws.{sorted_after}
use Rattle.overlays.proofs.stacked.StackedNodeRead.faults.Goals as goal

pub returns-clause-in_order : goal.returns-clause-in_order
returns-clause-in_order g c =
    sorted_after c.args.self.now.layers.changes (g.B.NodeRead.contents c.args.self.now.base)
    (subst (λ (s : Stack g.row.B.Denot). (es : Entries) → g.B.NodeRead.contents s.base ≡ Some es → Sorted es) c.self.view_is c.faults.ensures.in_order)
