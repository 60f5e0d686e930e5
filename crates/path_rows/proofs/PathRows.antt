-- The rows of the table, by computation.
use Rattle.std.proofs.Common.{refl}
use Rattle.std.specs.Str.{chars}
use lib.Utf8.{encode}
use Rattle.path_rows.specs.Answers.{step_rows, axis_rows, predicate_rows, child_rows, position_rows}
use Rattle.path_rows.specs.Document.{AllFind, meant, answered}

pub step_meant : AllFind meant step_rows
unfolding chars encode step_rows
step_meant = refl

pub axis_meant : AllFind meant axis_rows
unfolding chars encode axis_rows
axis_meant = refl

pub predicate_meant : AllFind meant predicate_rows
unfolding chars encode predicate_rows
predicate_meant = refl

pub child_meant : AllFind meant child_rows
unfolding chars encode child_rows
child_meant = refl

pub position_meant : AllFind meant position_rows
unfolding chars encode position_rows
position_meant = refl

pub step_answered : AllFind answered step_rows
unfolding chars encode step_rows
step_answered = refl

pub axis_answered : AllFind answered axis_rows
unfolding chars encode axis_rows
axis_answered = refl

pub predicate_answered : AllFind answered predicate_rows
unfolding chars encode predicate_rows
predicate_answered = refl

pub child_answered : AllFind answered child_rows
unfolding chars encode child_rows
child_answered = refl

pub position_answered : AllFind answered position_rows
unfolding chars encode position_rows
position_answered = refl
