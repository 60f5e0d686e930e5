use Rattle.node_records.proofs.records.write_text.Goals as goal

pub returns-clause-utf8 : goal.returns-clause-utf8
returns-clause-utf8 c = c.as_str.ensures.utf8
