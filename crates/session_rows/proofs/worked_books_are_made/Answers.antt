use Rattle.session_rows.proofs.ScriptRows.{edge_made}
use Rattle.session_rows.proofs.worked_books_are_made.Goals as goal

pub returns-clause-edge : goal.returns-clause-edge
returns-clause-edge c = edge_made
