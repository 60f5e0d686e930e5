use Rattle.path_model.proofs.PathLaws.{path_found, path_rises, path_there}
use Rattle.path_model.proofs.laws.paths_find_the_sets_that_they_mean.Goals as goal

pub returns-clause-set : goal.returns-clause-set
returns-clause-set c = path_found

pub returns-clause-in_order : goal.returns-clause-in_order
returns-clause-in_order c = path_rises

pub returns-clause-of_the_tree : goal.returns-clause-of_the_tree
returns-clause-of_the_tree c = path_there
