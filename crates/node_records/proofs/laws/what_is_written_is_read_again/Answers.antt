use Rattle.node_records.proofs.KeyLaws.{key_again, valid_writable}
use Rattle.node_records.proofs.RecordLaws.{record_again}
use Rattle.node_records.proofs.ChangeLaws.{change_again}
use Rattle.node_records.proofs.EntryLaws.{entry_again}
use Rattle.node_records.proofs.laws.what_is_written_is_read_again.Goals as goal

pub returns : goal.returns
returns c = record { keys = key_again; records = record_again; changes = change_again; entries = entry_again; valid = valid_writable }
