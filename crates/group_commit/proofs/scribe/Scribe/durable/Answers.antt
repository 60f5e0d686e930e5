use Rattle.std.proofs.Common.{sym, ap, subst, ◌∙◌}
use Rattle.group_commit.specs.inside.Scribes.{IsScribe, ScribeView}
use Rattle.group_commit.proofs.Scribing.{told_durable}
use Rattle.group_commit.proofs.scribe.Scribe.durable.Goals as goal

pub returns : goal.returns
returns g c =
    ap (λ (v : ScribeView _ _). v.durable) c.self.view_is
    ∙ sym (told_durable g.C.TreeCall.meaning g.B.NodeRead.contents g.J.Disk.is_known c.args.self.now (subst (λ (v : ScribeView _ _). IsScribe g.C.TreeCall.meaning g.B.NodeRead.contents g.J.Disk.is_known v) c.self.view_is c.self.invariant))
