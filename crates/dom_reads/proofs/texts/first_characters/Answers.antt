use Rattle.dom_reads.proofs.CharacterCuts.{all_before}
use Rattle.dom_reads.proofs.texts.first_characters.Goals as goal

pub returns-in-Some : goal.returns-in-Some
returns-in-Some c = c.in-Some.ensures.1

pub returns-in-None : goal.returns-in-None
returns-in-None c = all_before c.args.count c.args.text.now c.utf8.text c.in-None.ensures
