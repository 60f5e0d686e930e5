use Rattle.tree_model.proofs.SplitTexts.{parts_are_data}
use Rattle.tree_model.proofs.laws.split_texts_are_texts.Goals as goal

pub returns-clause-parts : goal.returns-clause-parts
returns-clause-parts c = λ offset d h. parts_are_data offset d h
