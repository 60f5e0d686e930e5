use Rattle.std.specs.Prelude.{Ok, Err}
use Rattle.node_pages.proofs.FirstBroken.{kept_before, broken_there, file_broken}
use Rattle.node_pages.proofs.reading_laws.the_first_page_that_breaks_a_rule_is_answered.Goals as goal

pub returns-clause-breaks : goal.returns-clause-breaks
returns-clause-breaks c = broken_there

pub returns-clause-before : goal.returns-clause-before
returns-clause-before c page n m is less = kept_before page (Err n) m is less

pub returns-clause-all : goal.returns-clause-all
returns-clause-all c page es base m is = kept_before page (Ok (es, base)) m is tt

pub returns-clause-file : goal.returns-clause-file
returns-clause-file c = file_broken
