use Rattle.std.proofs.Common.{ap, subst}
use Rattle.group_commit.specs.inside.Scribes.{IsScribe, ScribeView}
use Rattle.group_commit.proofs.scribe.Scribe.into_parts.Goals as goal

pub returns-clause-journal : goal.returns-clause-journal
returns-clause-journal g c = ap (λ (v : ScribeView _ _). v.journal) c.self.view_is

pub returns-clause-drainer : goal.returns-clause-drainer
returns-clause-drainer g c = ap (λ (v : ScribeView _ _). v.drainer) c.self.view_is

pub returns-clause-keeps : goal.returns-clause-keeps
returns-clause-keeps g c = subst (λ (v : ScribeView _ _). IsScribe g.C.TreeCall.meaning g.B.NodeRead.contents g.J.Disk.is_known v) c.self.view_is c.self.invariant
