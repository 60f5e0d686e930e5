use Rattle.dewey_labels.proofs.LabelOf.{label_of-label_text, label_of_is}
use Rattle.dewey_labels.proofs.laws.a_labels_text_is_read_again.Goals as goal

pub returns-clause-again : goal.returns-clause-again
returns-clause-again c = label_of-label_text

pub returns-clause-alone : goal.returns-clause-alone
returns-clause-alone c = label_of_is
