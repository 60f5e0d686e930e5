use Rattle.path_model.proofs.AnswerLaws.{start_is}
use Rattle.path_model.proofs.AxisLooks.{looks_true}
use Rattle.path_model.proofs.laws.looks_show_what_axes_relate.Goals as goal

pub returns-clause-axis : goal.returns-clause-axis
returns-clause-axis c = λ t a test n valid h. (looks_true t valid).axes a test n h

pub returns-clause-document : goal.returns-clause-document
returns-clause-document c = λ t b n valid h. start_is t valid (looks_true t valid) b n h

pub returns-clause-string_value : goal.returns-clause-string_value
returns-clause-string_value c = λ t n valid h. (looks_true t valid).strings n h
