use Rattle.tree_model.proofs.Refusals.{dom_refused}
use Rattle.tree_changes.proofs.DomLaws.{dom_keeps}
use Rattle.tree_changes.proofs.laws.valid_trees_stay_valid.Goals as goal

pub returns-clause-keeps : goal.returns-clause-keeps
returns-clause-keeps c = dom_keeps

pub returns-clause-refused : goal.returns-clause-refused
returns-clause-refused c = λ call t. (dom_refused call t).same
