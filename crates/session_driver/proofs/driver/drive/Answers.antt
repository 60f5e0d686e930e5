use Rattle.std.proofs.Common.{refl, ◌∙◌}
use Rattle.std.specs.Prelude.{vec_capacity}
use Rattle.std.proofs.lemmas.Result.{on_err_weaker}
use Rattle.session_driver.proofs.Committing.{prepared_book, ready_commit}
use Rattle.session_driver.proofs.Driven.{entries_kept}
use Rattle.session_driver.proofs.Left.{entries_none, grown_none, grown_from, begun_none, failed_none}
use Rattle.session_driver.proofs.driver.drive.Goals as goal

pub returns-then-is_err-clause-begun : goal.returns-then-is_err-clause-begun
returns-then-is_err-clause-begun g c = λ t stands.
    let v = c.args.core.now in
    begun_none v v c.args.out.now.items c.reserve.new.self.items _ (failed_none v v (entries_none v)) c.reserve.ensures.items

pub returns-then-is_err-clause-later : goal.returns-then-is_err-clause-later
returns-then-is_err-clause-later g c =
    let v = c.args.core.now in
    grown_none v v c.args.out.now.items c.reserve.new.self.items (entries_none v) c.reserve.ensures.items

pub returns-in-Commit-clause-ready : goal.returns-in-Commit-clause-ready
returns-in-Commit-clause-ready g c =
    ready_commit c.args.core.now c.prepare.new.core c.args.session c.args.doing c.args.out.now.items c.reserve.new.self.items c.prepare.new.out.items (vec_capacity c.prepare.new.out) c.prepare.result
    c.in-Commit.is c.reserve.ensures.items c.prepare.ensures.prepared c.prepare.ensures.room

pub returns-in-Commit-clause-begun : goal.returns-in-Commit-clause-begun
returns-in-Commit-clause-begun g c =
    let old = c.args.core.now in
    let new = c.prepare.new.core in
    on_err_weaker c.prepare.result
    (λ e. λ t stands. begun_none old new c.args.out.now.items c.prepare.new.out.items _ (failed_none old new (entries_kept old new (prepared_book old new c.prepare.ensures.same))) (e ∙ c.reserve.ensures.items))
    c.prepare.ensures.err

pub returns-in-Commit-clause-later : goal.returns-in-Commit-clause-later
returns-in-Commit-clause-later g c =
    let old = c.args.core.now in
    grown_from old old c.prepare.new.core c.reserve.new.self.items c.args.out.now.items c.prepare.new.out.items refl c.reserve.ensures.items c.prepare.ensures.later
