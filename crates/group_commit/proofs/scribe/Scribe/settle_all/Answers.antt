use Rattle.std.proofs.Common.{◌≡◌, false, IsTrue, ap, sym, subst, ◌∙◌}
use Rattle.outside_traits.specs.Moments.{IsAllSynced}
use Rattle.group_commit.specs.Marks.{last_commit}
use Rattle.group_commit.specs.inside.Scribes.{IsScribe, ScribeView}
use Rattle.group_commit.proofs.Scribing.{made_halted, unchanged}
use Rattle.group_commit.proofs.scribe.Scribe.settle_all.Goals as goal

-- a call had failed before
pub returns-in-Some-clause-answer : goal.returns-in-Some-clause-answer
returns-in-Some-clause-answer g c = made_halted c.args.self.now c.args.session.now.under (last_commit c.args.session.now.seen) c.in-Some.failed (sym (ap (λ (v : ScribeView _ _). v.failure) c.self.view_is) ∙ c.in-Some.is)

pub returns-in-Some-clause-moments : goal.returns-in-Some-clause-moments
returns-in-Some-clause-moments g c is_known =
    unchanged g.C.TreeCall.meaning g.B.NodeRead.contents g.J.Disk.is_known c.args.self.now (subst (λ (v : ScribeView _ _). IsScribe g.C.TreeCall.meaning g.B.NodeRead.contents g.J.Disk.is_known v) c.self.view_is c.self.invariant)
    (subst (λ (v : ScribeView _ _). IsTrue g.J.Disk.is_known → v.journal.failed ≡ false → IsAllSynced v.journal.history) c.self.view_is c.is_usable.ensures.settled) is_known
