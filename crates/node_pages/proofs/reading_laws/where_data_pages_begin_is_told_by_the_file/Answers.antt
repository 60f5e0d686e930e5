use Rattle.node_pages.proofs.FileLaws.{indexed, broken_same}
use Rattle.node_pages.proofs.reading_laws.where_data_pages_begin_is_told_by_the_file.Goals as goal

pub returns-clause-map : goal.returns-clause-map
returns-clause-map c file i is = (indexed file i is).contents

pub returns-clause-broken : goal.returns-clause-broken
returns-clause-broken c file n is = broken_same file n is

pub returns-clause-pages : goal.returns-clause-pages
returns-clause-pages c file i is = (indexed file i is).pages
