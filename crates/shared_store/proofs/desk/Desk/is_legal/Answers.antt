use Rattle.std.proofs.Common.{subst}
use Rattle.shared_store.specs.Lists.{HasLegalBook}
use Rattle.shared_store.specs.inside.Desks.{DeskView, list_in}
use Rattle.shared_store.proofs.Done.{legal_list}
use Rattle.shared_store.proofs.desk.Desk.is_legal.Goals as goal

pub returns : goal.returns
returns g c =
    let d = c.self.inside in
    subst (λ (z : DeskView _ _). HasLegalBook g.C.TreeCall.is_valid g.C.TreeCall.meaning g.B.NodeRead.contents (list_in z)) c.self.view_is
    (legal_list g.C.TreeCall.is_valid g.C.TreeCall.meaning g.B.NodeRead.contents g.B.NodeRead.unchanged d.core d.first.value d.drains c.self.invariant.0 c.is_legal.ensures.book)
