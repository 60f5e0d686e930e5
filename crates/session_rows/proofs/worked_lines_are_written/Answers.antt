use Rattle.session_rows.proofs.ScriptRows.{edge_written}
use Rattle.session_rows.proofs.worked_lines_are_written.Goals as goal

pub returns-clause-edge : goal.returns-clause-edge
returns-clause-edge c = edge_written
