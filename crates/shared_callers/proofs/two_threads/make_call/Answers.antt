use Rattle.shared_callers.proofs.Knowing.{after_begin, after_call, after_commit, made_by, read_by}
use Rattle.shared_store.proofs.Waiting.{grown_on}
use Rattle.shared_callers.proofs.two_threads.make_call.Goals as goal

pub returns-clause-made : goal.returns-clause-made
returns-clause-made g c =
    made_by g.B.NodeRead.count g.B.NodeRead.contents g.C.TreeCall.meaning c.args.session.now c.begin.new.self c.call.new.self c.commit.new.self c.args.call c.call.result c.in_ok-ended.ended c.commit.result c.in_ok-commit.field-0
    c.in_ok-ended.was c.in_ok-commit.was c.begin.ensures.same c.call.ensures c.commit.ensures.done

pub returns-clause-read : goal.returns-clause-read
returns-clause-read g c =
    read_by g.B.NodeRead.count g.B.NodeRead.contents g.C.TreeCall.meaning c.args.session.now c.begin.new.self c.call.new.self c.commit.new.self c.args.call c.call.result c.in_ok-ended.ended c.commit.result c.in_ok-commit.field-0
    c.in_ok-ended.was c.in_ok-commit.was c.begin.ensures.same (after_begin c.args.session.now c.begin.new.self c.begin.result c.begin.ensures) c.call.ensures c.commit.ensures.done c.is_legal.ensures.serial

pub returns-in_err-begin-clause-grown : goal.returns-in_err-begin-clause-grown
returns-in_err-begin-clause-grown g c = after_begin c.args.session.now c.begin.new.self c.begin.result c.begin.ensures

pub returns-in_err-ended-clause-grown : goal.returns-in_err-ended-clause-grown
returns-in_err-ended-clause-grown g c =
    let p = c.args.session.now in
    grown_on p.seen c.begin.new.self.seen c.call.new.self.seen (after_begin p c.begin.new.self c.begin.result c.begin.ensures) (after_call g.B.NodeRead.contents g.C.TreeCall.meaning g.B.NodeRead.count c.begin.new.self c.call.new.self c.args.call c.call.result c.call.ensures)

pub returns-in_err-commit-clause-grown : goal.returns-in_err-commit-clause-grown
returns-in_err-commit-clause-grown g c =
    let p = c.args.session.now in
    let called = grown_on p.seen c.begin.new.self.seen c.call.new.self.seen (after_begin p c.begin.new.self c.begin.result c.begin.ensures) (after_call g.B.NodeRead.contents g.C.TreeCall.meaning g.B.NodeRead.count c.begin.new.self c.call.new.self c.args.call c.call.result c.call.ensures) in
    grown_on p.seen c.call.new.self.seen c.commit.new.self.seen called (after_commit g.B.NodeRead.contents g.C.TreeCall.meaning c.call.new.self c.commit.new.self c.commit.result c.commit.ensures.done)

pub returns-clause-grown : goal.returns-clause-grown
returns-clause-grown g c =
    let p = c.args.session.now in
    let called = grown_on p.seen c.begin.new.self.seen c.call.new.self.seen (after_begin p c.begin.new.self c.begin.result c.begin.ensures) (after_call g.B.NodeRead.contents g.C.TreeCall.meaning g.B.NodeRead.count c.begin.new.self c.call.new.self c.args.call c.call.result c.call.ensures) in
    grown_on p.seen c.call.new.self.seen c.commit.new.self.seen called (after_commit g.B.NodeRead.contents g.C.TreeCall.meaning c.call.new.self c.commit.new.self c.commit.result c.commit.ensures.done)
