use Rattle.path_model.proofs.PathLaws.{find_answers, find_looks_once, find_refused, find_refused_as}
use Rattle.path_model.proofs.laws.find_answers_a_set_or_not_found.Goals as goal

pub returns-clause-answers : goal.returns-clause-answers
returns-clause-answers c = find_answers

pub returns-clause-refused_exactly : goal.returns-clause-refused_exactly
returns-clause-refused_exactly c = find_refused

pub returns-clause-refused : goal.returns-clause-refused
returns-clause-refused c = find_refused_as

pub returns-clause-looked : goal.returns-clause-looked
returns-clause-looked c = find_looks_once
