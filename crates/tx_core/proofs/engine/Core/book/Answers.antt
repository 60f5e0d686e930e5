use Rattle.std.proofs.Common.{sym}
use Rattle.call_contract.proofs.BookLaws.{serial_book}
use Rattle.tx_core.specs.inside.Kept.{undrained_of}
use Rattle.tx_core.proofs.Kept.{core_legal}
use Rattle.tx_core.proofs.engine.Core.book.Goals as goal

pub returns-clause-serial : goal.returns-clause-serial
returns-clause-serial g c =
    let h = c.self.inside in
    λ t opens. serial_book g.C.TreeCall.is_valid g.C.TreeCall.meaning g.met.C.TreeCall.laws t c.args.self.now.number c.args.self.now.limit c.args.self.now.book
    (core_legal g.C.TreeCall.is_valid g.C.TreeCall.meaning g.B.NodeRead.contents g.B.NodeRead.count h.opening.value h.number h.limit (undrained_of h.bodies) h.parts c.args.self.now (sym c.self.view_is) c.self.invariant.core t opens)
