use Rattle.lock_table.proofs.Granted.{granted_table}
use Rattle.lock_table.proofs.laws.tables_hold_the_joins_of_grants.Goals as goal

pub returns-clause-granted : goal.returns-clause-granted
returns-clause-granted c = granted_table
