use Rattle.std.proofs.Common.{◌≡◌, ◌≤◌, length, get_or, List, [], ◌∷◌, sym, ◌∙◌, arith}
use Rattle.std.specs.List.{AllByRecursion}
use Rattle.tree_model.specs.declared.change.Change.{Change}
use Rattle.node_seq.specs.ChangeLists.{IsChangeList}
use Rattle.overlays.specs.inside.Runs.{joint}
use Rattle.overlays.proofs.Laying.{joint_one}
use Rattle.overlays.proofs.runs.changes_of_only.Goals as goal

first_of_one : (rs : List (List Change)) (x : List Change) → 1 ≤ length rs → length rs ≤ 1 → AllByRecursion IsChangeList rs → x ≡ get_or rs 0 x → x ≡ joint rs
first_of_one [] x some one lists is = absurd (omega (arith, some))
first_of_one (p ∷ []) x some one lists is = is ∙ sym (joint_one p lists.0)
first_of_one (p ∷ q ∷ rs) x some one lists is = absurd (omega (arith, one))

pub returns-in-len1-up : goal.returns-in-len1-up
returns-in-len1-up c = c.changes.ensures ∙ first_of_one c.args.runs.now c.run-item.result c.in-len1-up.len_at_least c.requires.one c.requires.lists c.run-item.is
