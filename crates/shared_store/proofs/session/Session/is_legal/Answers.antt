use Rattle.std.proofs.Common.{subst}
use Rattle.call_contract.proofs.BookLaws.{serial_book}
use Rattle.shared_store.specs.Lists.{book_of, HasLegalBook, limit_in, number_in}
use Rattle.shared_store.specs.Sessions.{SessionView}
use Rattle.shared_store.proofs.session.Session.is_legal.Goals as goal

pub returns-clause-book : goal.returns-clause-book
returns-clause-book g c = subst (λ (p : SessionView _ _). HasLegalBook g.C.TreeCall.is_valid g.C.TreeCall.meaning g.B.NodeRead.contents p.seen) c.self.view_is c.self.invariant.legal

pub returns-clause-serial : goal.returns-clause-serial
returns-clause-serial g c =
    let es = c.args.self.now.seen in
    λ t opens. serial_book g.C.TreeCall.is_valid g.C.TreeCall.meaning g.met.C.TreeCall.laws t (number_in es) (limit_in es) (book_of es) (returns-clause-book g c t opens)
