use Rattle.std.proofs.Common.{ap, arith, ◌∙◌}
use Rattle.std.specs.Prelude.{is_some, if◌then◌else◌}
use Rattle.group_commit.specs.inside.Scribes.{ScribeView}
use Rattle.group_commit.proofs.Scribing.{marks_length}
use Rattle.group_commit.proofs.scribe.ScribeGrows.count.Goals as goal

pub returns : goal.returns
returns g c =
    let all = marks_length c.args.self.now in
    let written = ap (λ (v : ScribeView _ _). v.written) c.self.view_is in
    let some = c.one_if_any.ensures ∙ ap (λ (v : ScribeView _ _). if is_some v.failure then 1 else 0) c.self.view_is in
    omega (arith, all, written, some)
