use Rattle.node_records.proofs.BodyLaws.{changes_again, changes_written}
use Rattle.node_records.proofs.laws.bodies_are_read_again.Goals as goal

pub returns : goal.returns
returns c = record { again = changes_again; written = changes_written }
