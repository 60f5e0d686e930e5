use Rattle.node_pages.proofs.CutScan.{cut_again}
use Rattle.node_pages.proofs.CuttableLaws.{cuttable}
use Rattle.node_pages.proofs.reading_laws.pages_of_a_cut_are_read_again.Goals as goal

pub returns-clause-again : goal.returns-clause-again
returns-clause-again c = cut_again

pub returns-clause-valid : goal.returns-clause-valid
returns-clause-valid c = cuttable
